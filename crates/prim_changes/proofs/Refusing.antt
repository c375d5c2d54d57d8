-- A change that is refused by one of the tests in front of its last.
use Rattle.std.proofs.Common.{◌≡◌, List, [], ◌∷◌, ◌++◌, ap}
use Rattle.std.specs.Prelude.{Some, Result, Ok, Err, IsErr, IsErrAnd}
use Rattle.std.proofs.lemmas.Bool.{false≢true}
use Rattle.editor_model.specs.Answers.{Test, first_fault, prepared, prepared_of}
use Rattle.editor_model.specs.Answers as answers
use Rattle.ek_call.specs.Faults.{fault_of}
use Rattle.ek_call.specs.declared.fault.Fault.{Fault}
use Rattle.prim_arguments.specs.declared.failure.Failure.{Failure}
use Rattle.prim_arguments.specs.declared.failure.Failure.TheVariants as failure
use Rattle.prim_changes.specs.declared.change.Prepared.{Prepared}
use Rattle.prim_changes.specs.Meaning.{Prepares}
use Rattle.prim_changes.proofs.Strings.{first_in_front}

pub refused_in_front : (r : Result Prepared Failure) (f : Fault) (front : List Test) (last : Test) (p : answers.Prepared)
    → IsErr r × IsErrAnd r (λ e. e ≡ failure.Refused f) → Some (fault_of f) ≡ first_fault front → Prepares r (prepared (front ++ last ∷ []) p)
refused_in_front (Ok x) f front last p h k = absurd (false≢true h.0)
refused_in_front (Err e) f front last p h k = rw h.1 (ap (λ o. prepared_of o p) (first_in_front front (last ∷ []) (fault_of f) k))
