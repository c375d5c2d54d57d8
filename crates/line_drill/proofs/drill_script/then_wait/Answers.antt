use Rattle.std.proofs.Common.{sym, append-nil}
use Rattle.ek_call.specs.Meaning.{forms_of}
use Rattle.line_drill.specs.DrillForms.{wait_form}
use Rattle.line_drill.proofs.MadeForms.{one_more_wait}
use Rattle.line_drill.proofs.drill_script.then_wait.Goals as goal

pub waiting-init : goal.waiting-init
waiting-init c = rw (c.in_ok-reserve.ensures.items) (sym (append-nil (forms_of c.args.forms.now)))

pub waiting-preserved : goal.waiting-preserved
waiting-preserved c = one_more_wait (forms_of c.args.forms.now) (forms_of c.waiting.forms) (forms_of c.then_do.new.forms) c.waiting.counter wait_form c.waiting.invariant c.in_ok-then_do.ensures
