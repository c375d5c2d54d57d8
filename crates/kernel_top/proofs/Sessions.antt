-- What becomes of a session that is written, and its length.
use Rattle.std.proofs.Common.{◌≡◌, ℕ, ◌-◌, ◌^◌, min, true, false, List, [], ◌++◌, length, Result, Ok, Err, refl, ap, ◌∙◌, arith}
use Rattle.std.specs.Prelude.{nat_le}
use Rattle.std.specs.Io.KnownBytes.{Appends}
use Rattle.std.proofs.lemmas.Bool.{leb-true, leb-false, le-leb}
use Rattle.text_model.proofs.Cases.{same_tests}
use Rattle.ek_types.specs.Io.{SinkState, Writes, Continues}
use Rattle.ek_types.proofs.Printing.{continues_then, writes_of}
use Rattle.run_counters.specs.Counting.{counting_state}
use Rattle.journal_text.specs.Lines.{longest_session}
use Rattle.kernel_top.specs.Sessions.{fits, Written, IsTooLong}
use Rattle.kernel_top.specs.Outcomes.{written_status}
use Rattle.kernel_top.proofs.Writing.{all_written, front_written}

-- writing that goes on from where a whole text was written
pub written_then : {T U E F : Type 0} {r : Result T E} {s : Result U F} {old mid new : SinkState} {a b : List ℕ} → Writes old mid r a → Continues r s mid new b → Writes old new s (a ++ b)
written_then {E = E} {r = r} {old = old} {mid = mid} {a = a} w k =
    let first : Continues {T = Unit {0}} {E = E} (Ok tt) r old mid a = record { by = w } in
    writes_of (continues_then first k)

-- the counting sink was given the bytes
pub counted : {T E : Type 0} (r : Result T E) (old new bytes : List ℕ) → old ≡ [] → Writes (counting_state old) (counting_state new) r bytes → new ≡ bytes
counted (Ok x) old new bytes e w =
    let put : new ≡ old ++ bytes = w.ok in
    put ∙ ap (λ l. l ++ bytes) e
counted (Err f) old new bytes e w = absurd (omega (arith, w.rose))

-- a count of bytes up to 2^64 - 1 tells whether they fit
pub fits_by : (bytes : List ℕ) (count : ℕ) → count ≡ min (length bytes) (2 ^ 64 - 1) → nat_le count longest_session ≡ fits bytes
fits_by bytes count e =
    same_tests _ _
    (λ h. le-leb (length bytes) longest_session (omega (arith, e, leb-true count longest_session h)))
    (λ h. le-leb count longest_session (omega (arith, e, leb-true (length bytes) longest_session h)))

-- a session that fits was written, or a front of it
pub written_whole : {T E : Type 0} (r : Result T E) (bytes : List ℕ) (old new : SinkState) → fits bytes ≡ true → Writes old new r bytes →
    (written : List ℕ) × Appends old.held new.held written × Written (written_status r) bytes written old new
written_whole (Ok x) bytes old new short w =
    (bytes, w.ok, record { short = leb-true (length bytes) longest_session short; whole = all_written old new bytes w })
written_whole (Err e) bytes old new short w =
    let (front, is_front, put) = w.err in
    (front, put, record { short = leb-true (length bytes) longest_session short; part = front_written old new bytes front w is_front })

pub too_long : (bytes : List ℕ) (sink : SinkState) → fits bytes ≡ false → IsTooLong bytes [] sink sink
too_long bytes sink e = record { long = leb-false (length bytes) longest_session e; nothing = refl; same = refl }
