use Rattle.std.proofs.Common.{◌≡◌, ◌++◌}
use Rattle.std.specs.Prelude.{replicate}
use Rattle.ek_call.specs.Meaning.{forms_of}
use Rattle.line_drill.specs.DrillForms.{wait_form}
use Rattle.line_drill.proofs.drill_script.then_wait.Given as goal

abbrev pub invariant-waiting : goal.invariant-waiting
invariant-waiting l = forms_of l.forms ≡ forms_of l.fn.forms ++ replicate l.counter wait_form
