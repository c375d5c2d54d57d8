use Rattle.std.proofs.Common.{◌≡◌, map, drop}
use Rattle.editor_model.specs.Editor.{register}
use Rattle.ek_types.specs.Property.{number_of}
use Rattle.ek_call.specs.Meaning.{view}
use Rattle.kernel_state.proofs.scopes.value_in.Given as goal

abbrev pub invariant-loop-i : goal.invariant-loop-i
invariant-loop-i l =
    register (map (λ r. (number_of r.0, view r.1)) (drop l.i l.scope)) (number_of l.name)
    ≡ register (map (λ r. (number_of r.0, view r.1)) l.scope) (number_of l.name)
