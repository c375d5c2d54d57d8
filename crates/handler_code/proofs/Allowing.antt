-- When a native's call is made, by its three tests.
use Rattle.std.proofs.Common.{◌≡◌, Bool, true, false, ◌&&◌, List, length, map, ap, sym, ◌∙◌}
use Rattle.std.specs.Prelude.{Option, Some, None}
use Rattle.std.specs.List.{list_all}
use Rattle.editor_model.specs.Values.{Value, Prim}
use Rattle.plain_machine.specs.State.{State, Program}
use Rattle.plain_machine.specs.Natives.{normal, takes, was_made}
use Rattle.handler_code.specs.Calls.{allowed}
use Rattle.handler_code.specs.Counts.{AreMade, program_with, state_with}
use Rattle.handler_code.specs.declared.made.Made.{Made}
use Rattle.handler_code.proofs.Counting.{all_made_same}

abbrev chosen : Bool → Prim × List Value → Option (Prim × List Value)
chosen b c = elim b [ true ↦ Some (c.0, map normal c.1) | false ↦ None ]

pub wrong_count : (program : Program) (s : State) (c : Prim × List Value) → takes c.0 (length c.1) ≡ false → allowed program s c ≡ None
wrong_count program s c no_count = ap (λ b. chosen (b && list_all (was_made program s) c.1) c) no_count

pub never_made : (program : Program) (s : State) (c : Prim × List Value) → takes c.0 (length c.1) ≡ true → list_all (was_made program s) c.1 ≡ false → allowed program s c ≡ None
never_made program s c count some = ap (λ b. chosen (b && list_all (was_made program s) c.1) c) count ∙ ap (λ b. chosen b c) some

may_be : (program : Program) (s : State) (c : Prim × List Value) → takes c.0 (length c.1) ≡ true → list_all (was_made program s) c.1 ≡ true → allowed program s c ≡ Some (c.0, map normal c.1)
may_be program s c count all = ap (λ b. chosen (b && list_all (was_made program s) c.1) c) count ∙ ap (λ b. chosen b c) all

-- it is made with values that are its own in their normal form
pub made_with : (made : Made) (c : Prim × List Value) (vs : List Value) → takes c.0 (length c.1) ≡ true → list_all (was_made (program_with made) (state_with made)) c.1 ≡ true → vs ≡ map normal c.1 →
    (program : Program) (s : State) → AreMade made program s → Some (c.0, vs) ≡ allowed program s c
made_with made c vs count all same program s counts = ap (λ l. Some (c.0, l)) same ∙ sym (may_be program s c count (sym (all_made_same made program s counts c.1) ∙ all))
