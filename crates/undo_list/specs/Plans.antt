-- What `undo-more` would undo, or why it is refused.
use Rattle.std.specs.Prelude.{ℕ, true, false, not, List, [], ◌∷◌, length, filter, Option, Some, None}
use Rattle.std.specs.Prelude.{Result, Ok, Err}
use Rattle.text_model.specs.Undo.{Entry, Undo, is_boundary, pending, groups, trial, oldest}
use Rattle.undo_list.specs.declared.plan.Plan.{Plan}
use Rattle.undo_list.specs.declared.plan.Refused.{Refused}
use Rattle.undo_list.specs.declared.plan.Refused.TheVariants.{Disabled, Nothing, Outside}

abbrev pub without_boundaries : List Entry → List Entry
without_boundaries entries = filter (λ e. not (is_boundary e.what)) entries

-- the plan that passes these records, the first of which has this serial number, unless their trial met one
-- outside
abbrev pub plan_of : (first : ℕ) → List Entry → Option Entry → Result Plan Refused
plan_of first passed (Some outside) = Err (Outside outside.serial)
plan_of first passed None =
    Ok (record { first = first; last = oldest first passed; count = length (without_boundaries passed) })

-- the first n groups of the pending records, tried in these bounds
abbrev pub planned_from : (n min max : ℕ) → List Entry → Result Plan Refused
planned_from n min max [] = Err Nothing
planned_from n min max (e ∷ entries) =
    let passed = groups n (e ∷ entries) in plan_of e.serial passed (trial min max (without_boundaries passed))

abbrev pub planned : (n min max : ℕ) → Undo → Result Plan Refused
planned n min max u = elim u.on [ true ↦ planned_from n min max (pending u) | false ↦ Err Disabled ]
