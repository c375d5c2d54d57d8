-- What the functions of a check come to.
use Rattle.std.proofs.Common.{◌≡◌, ℕ, ◌≤◌, ◌-◌, List, [], ◌++◌, length, drop, Result, Ok, Err, refl, ap, subst, arith, length-append, codes}
use Rattle.std.proofs.lemmas.List.{length-take-le, length-drop}
use Rattle.std.specs.Io.KnownBytes.{Appends}
use Rattle.editor_model.specs.Values.{Script}
use Rattle.plain_machine.specs.Exchanges.{Exchange}
use Rattle.plain_machine.specs.State.{Program}
use Rattle.plain_machine.specs.Grammar.{IsScript}
use Rattle.ek_types.specs.Io.{SinkState, Writes}
use Rattle.journal_text.specs.Lines.{journal, claim, longest_session}
use Rattle.journal_text.specs.Transcripts.{between, IsTranscriptTo}
use Rattle.kernel_top.specs.Scripts.{TellsNoScript}
use Rattle.kernel_top.specs.Checking.{Judged, Checked, yes, Told}
use Rattle.kernel_top.specs.Outcomes.{written_status}
use Rattle.kernel_top.specs.declared.status.Status.{Status}
use Rattle.kernel_top.specs.declared.status.Status.TheVariants as status
use Rattle.kernel_top.proofs.Replays.{few_lines}
use Rattle.kernel_top.proofs.Outcomes.{no_verdict}
use Rattle.kernel_top.proofs.Writing.{all_written, front_written}

-- THE BYTES
-- a journal has no more exchanges than bytes
pub few_in : (bytes : List ℕ) (list : List Exchange) (from to at : ℕ) → IsTranscriptTo bytes list from to at → length bytes ≤ longest_session → length list ≤ longest_session
few_in bytes list from to at found short =
    omega (arith, short, few_lines list, ap length found.whole, length-append (journal list) (claim (between from to bytes) ++ (codes "script\n" ++ drop at bytes)))

pub short_claim : (bytes : List ℕ) (from to : ℕ) → length bytes ≤ longest_session → from ≤ to → to ≤ length bytes → length (between from to bytes) ≤ longest_session
short_claim bytes from to short ordered within =
    omega (arith, short, within, length-take-le (to - from) (drop from bytes) (omega (arith, ordered, within, length-drop from bytes)))

-- the script of a transcript was judged
pub checked_bytes : (program : Script → Program) (script : Script) (answer : Status) (read : List ℕ) (list : List Exchange) (from to at : ℕ) →
    IsTranscriptTo read list from to at → IsScript (drop at read) script → Judged answer (program script) script list (between from to read) → Checked program answer read
checked_bytes program script status.Done read list from to at found is so = record { journal = list; claimed = between from to read; bytes = drop at read; lines = found.lines; is = found.whole; so = (script, is, so) }
checked_bytes program script (status.Differs line) read list from to at found is so = record { journal = list; claimed = between from to read; bytes = drop at read; lines = found.lines; is = found.whole; so = (script, is, so) }
checked_bytes program script (status.Strayed most) read list from to at found is so = record { journal = list; claimed = between from to read; bytes = drop at read; lines = found.lines; is = found.whole; so = (script, is, so) }
checked_bytes program script status.NoMemory read list from to at found is so = tt
checked_bytes program script status.Usage read list from to at found is so = absurd so
checked_bytes program script (status.Script line) read list from to at found is so = absurd so
checked_bytes program script status.ReadFault read list from to at found is so = absurd so
checked_bytes program script status.WriteFault read list from to at found is so = absurd so
checked_bytes program script (status.Journal line) read list from to at found is so = absurd so
checked_bytes program script status.JournalFull read list from to at found is so = absurd so
checked_bytes program script status.SessionFull read list from to at found is so = absurd so

-- behind the claimed lines there is no script
pub unscripted : (program : Script → Program) (answer : Status) (read : List ℕ) (list : List Exchange) (from to at : ℕ) → IsTranscriptTo read list from to at → TellsNoScript answer (drop at read) → Checked program answer read
unscripted program (status.Script line) read list from to at found none = record { journal = list; claimed = between from to read; bytes = drop at read; lines = found.lines; is = found.whole; so = none }
unscripted program status.NoMemory read list from to at found none = tt
unscripted program status.Done read list from to at found none = absurd none
unscripted program status.Usage read list from to at found none = absurd none
unscripted program status.ReadFault read list from to at found none = absurd none
unscripted program status.WriteFault read list from to at found none = absurd none
unscripted program (status.Journal line) read list from to at found none = absurd none
unscripted program status.JournalFull read list from to at found none = absurd none
unscripted program (status.Strayed most) read list from to at found none = absurd none
unscripted program (status.Differs line) read list from to at found none = absurd none
unscripted program status.SessionFull read list from to at found none = absurd none

-- WHAT IS WRITTEN
-- the line of a yes was written, or a front of it
pub told_yes : {T E : Type 0} (program : Script → Program) (r : Result T E) (read : List ℕ) (sink sink' : SinkState) → Checked program status.Done read → Writes sink sink' r yes →
    (written : List ℕ) × Appends sink.held sink'.held written × Told program (written_status r) read written sink sink'
told_yes program (Ok x) read sink sink' so w = (yes, w.ok, (so, all_written sink sink' yes w))
told_yes program (Err e) read sink sink' so w =
    let (front, is_front, put) = w.err in
    (front, put, (so, front_written sink sink' yes front w is_front))

-- and nothing for another verdict
pub told_else : (program : Script → Program) (answer : Status) (read : List ℕ) (sink : SinkState) → (answer ≡ status.Done → ⊥) → Checked program answer read → Told program answer read [] sink sink
told_else program status.Done read sink other so = absurd (other refl)
told_else program status.WriteFault read sink other so = absurd (no_verdict so)
told_else program status.NoMemory read sink other so = ((refl, refl), so)
told_else program (status.Differs line) read sink other so = ((refl, refl), so)
told_else program (status.Strayed most) read sink other so = ((refl, refl), so)
told_else program (status.Journal line) read sink other so = ((refl, refl), so)
told_else program (status.Script line) read sink other so = ((refl, refl), so)
told_else program status.Usage read sink other so = ((refl, refl), so)
told_else program status.ReadFault read sink other so = ((refl, refl), so)
told_else program status.JournalFull read sink other so = ((refl, refl), so)
told_else program status.SessionFull read sink other so = ((refl, refl), so)

-- the verdict is no fault of reading or writing
pub judged_no_fault : (program : Script → Program) (answer : Status) (read : List ℕ) → Checked program answer read → (answer ≡ status.ReadFault → ⊥) × (answer ≡ status.WriteFault → ⊥)
judged_no_fault program answer read so = (λ e. no_verdict (subst (λ a. Checked program a read) e so), λ e. no_verdict (subst (λ a. Checked program a read) e so))

-- nor what was told of it one of reading
pub told_no_fault : (program : Script → Program) (answer : Status) (read written : List ℕ) (before now : SinkState) → Told program answer read written before now → answer ≡ status.ReadFault → ⊥
told_no_fault program answer read written before now so e = by (subst (λ a. Told program a read written before now) e so)
  where
    by : Told program status.ReadFault read written before now → ⊥
    by told = no_verdict told.1
