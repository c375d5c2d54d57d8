-- Writing that came to its end or failed, as what became of the bytes.
use Rattle.std.proofs.Common.{◌≡◌, ℕ, ◌<◌, Bool, true, false, List, length, Ok, Err, refl}
use Rattle.std.specs.Prelude.{nat_lt}
use Rattle.std.proofs.lemmas.Bool.{ltb-true, ltb-false}
use Rattle.text_model.specs.Fronts.{IsPrefixOf}
use Rattle.ek_types.specs.Io.{SinkState, Writes}
use Rattle.kernel_top.specs.Writing.{IsWhollyWritten, IsFrontWritten}

module _ {T E : Type 0} (old new : SinkState) (bytes : List ℕ) where
  pub all_written : {x : T} → Writes {E = E} old new (Ok x) bytes → IsWhollyWritten bytes bytes old new
  all_written w = record { is = refl; roomy = λ few. (w.roomy few).faults }

  pub front_written : {e : E} (front : List ℕ) → Writes {T = T} old new (Err e) bytes → IsPrefixOf front bytes → IsFrontWritten bytes front old
  front_written front w is_front = record { front = is_front; room = by (nat_lt old.room (length bytes)) refl }
    where
      by : (b : Bool) → nat_lt old.room (length bytes) ≡ b → old.room < length bytes
      by true is = ltb-true old.room (length bytes) is
      by false is = absurd (let no = (w.roomy (ltb-false old.room (length bytes) is)).ok in cc)
