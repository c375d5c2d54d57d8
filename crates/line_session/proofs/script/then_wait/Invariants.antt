use Rattle.std.proofs.Common.{◌≡◌, ◌++◌}
use Rattle.std.specs.Prelude.{replicate}
use Rattle.ek_call.specs.Meaning.{forms_of}
use Rattle.line_session.specs.Script.{wait_form}
use Rattle.line_session.proofs.script.then_wait.Given as goal

abbrev pub invariant-waiting : goal.invariant-waiting
invariant-waiting l = forms_of l.forms ≡ forms_of l.fn.forms ++ replicate l.counter wait_form
