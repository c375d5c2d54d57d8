-- A plan of undoing, and the tests that undoing meets.
use Rattle.std.proofs.Common.{◌≡◌, ℕ, Bool, true, false, List, [], ◌∷◌, length, refl, sym, ap, arith}
use Rattle.std.specs.Prelude.{not, nat_lt, Option, Some, None, is_some, Result, Ok, Err}
use Rattle.std.proofs.lemmas.Bool.{lt-ltb}
use Rattle.text_model.specs.Undo.{Entry, pending, groups, undone, trial, oldest}
use Rattle.text_model.specs.Commit.{Buffer}
use Rattle.editor_model.specs.Values.{UndoDisabled, NoFurtherUndo, UndoOutside, Fault}
use Rattle.editor_model.specs.Answers.{refuse, first_fault}
use Rattle.editor_model.specs.UndoCalls.{undo_tests}
use Rattle.undo_list.specs.declared.plan.Plan.{Plan}
use Rattle.undo_list.specs.declared.plan.Refused.{Refused}
use Rattle.undo_list.specs.declared.plan.Refused.TheVariants.{Disabled, Nothing, Outside}
use Rattle.undo_list.specs.Plans.{planned, planned_from, plan_of, without_boundaries}

abbrev pub fault_of_plan : Result Plan Refused → Option Fault
fault_of_plan (Ok plan) = None
fault_of_plan (Err Disabled) = Some UndoDisabled
fault_of_plan (Err Nothing) = Some NoFurtherUndo
fault_of_plan (Err (Outside s)) = Some UndoOutside

from_pending : (n min max : ℕ) (records : List Entry) → first_fault (refuse NoFurtherUndo (nat_lt 0 (length records)) ∷ refuse UndoOutside (not (is_some (trial min max (without_boundaries (groups n records))))) ∷ []) ≡ fault_of_plan (planned_from n min max records)
from_pending n min max [] = refl
from_pending n min max (e ∷ records) = go (trial min max (without_boundaries (groups n (e ∷ records))))
  where
    some : nat_lt 0 (length (e ∷ records)) ≡ true
    some = lt-ltb 0 (length (e ∷ records)) (omega arith)

    go : (o : Option Entry) → first_fault (refuse NoFurtherUndo (nat_lt 0 (length (e ∷ records))) ∷ refuse UndoOutside (not (is_some o)) ∷ []) ≡ fault_of_plan (plan_of e.serial (groups n (e ∷ records)) o)
    go None = ap (λ b. first_fault (refuse NoFurtherUndo b ∷ None ∷ [])) some
    go (Some x) = ap (λ b. first_fault (refuse NoFurtherUndo b ∷ Some UndoOutside ∷ [])) some

pub same_fault : (b : Buffer) (n : ℕ) → first_fault (undo_tests b n) ≡ fault_of_plan (planned n b.begin b.end b.undo)
same_fault b n = go b.undo.on
  where
    go : (on : Bool) → first_fault (refuse UndoDisabled on ∷ refuse NoFurtherUndo (nat_lt 0 (length (pending b.undo))) ∷ refuse UndoOutside (not (is_some (trial b.begin b.end (undone n b.undo)))) ∷ [])
        ≡ fault_of_plan (let r : Result Plan Refused = elim on [ true ↦ planned_from n b.begin b.end (pending b.undo) | false ↦ Err Disabled ] in r)
    go false = refl
    go true = from_pending n b.begin b.end (pending b.undo)

count_from : (n min max : ℕ) (records : List Entry) (plan : Plan) → planned_from n min max records ≡ Ok plan → plan.count ≡ length (without_boundaries (groups n records))
count_from n min max [] plan h = cc
count_from n min max (e ∷ records) plan h = go (trial min max (without_boundaries (groups n (e ∷ records)))) h
  where
    go : (o : Option Entry) → plan_of e.serial (groups n (e ∷ records)) o ≡ Ok plan → plan.count ≡ length (without_boundaries (groups n (e ∷ records)))
    go None k = sym (ap (λ (p : Plan). p.count) (let same : (let p : Plan = record { first = e.serial; last = oldest e.serial (groups n (e ∷ records)); count = length (without_boundaries (groups n (e ∷ records))) } in p) ≡ plan = cc in same))
    go (Some x) k = cc

pub count_of_plan : (b : Buffer) (n : ℕ) (plan : Plan) → planned n b.begin b.end b.undo ≡ Ok plan → plan.count ≡ length (undone n b.undo)
count_of_plan b n plan h = go b.undo.on h
  where
    go : (on : Bool) → (let r : Result Plan Refused = elim on [ true ↦ planned_from n b.begin b.end (pending b.undo) | false ↦ Err Disabled ] in r) ≡ Ok plan → plan.count ≡ length (undone n b.undo)
    go true k = count_from n b.begin b.end (pending b.undo) plan k
    go false k = cc
