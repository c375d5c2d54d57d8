use Rattle.std.proofs.Common.{map, sym}
use Rattle.ek_types.specs.Listing.{items_of}
use Rattle.ek_call.specs.Meaning.{arg_of, form_of, joined}
use Rattle.trace_check.specs.Meaning.{list_of}
use Rattle.trace_check.proofs.FormItems.{when_void, when_equal, when_other}
use Rattle.trace_check.proofs.Listing.{once_put}
use Rattle.trace_check.proofs.forms.do_when.Goals as goal

pub returns-in-None : goal.returns-in-None
returns-in-None g c = λ program. once_put c.put.result c.put.ensures.ok (λ put.
    rw put (when_void program (g.M.Kernel.state c.args.kernel.now) (list_of c.args.work.now) (arg_of c.args.a.now) (arg_of c.args.b.now) (joined (map form_of (items_of c.args.forms))) (sym (rw c.in-None.is at c.are_equal.ensures))))

pub returns-in-Some-true : goal.returns-in-Some-true
returns-in-Some-true g c = λ program. once_put c.put-in-Some-true.result c.put-in-Some-true.ensures.ok (λ put.
    rw put (when_equal program (g.M.Kernel.state c.args.kernel.now) (list_of c.args.work.now) (arg_of c.args.a.now) (arg_of c.args.b.now) (joined (map form_of (items_of c.args.forms))) (sym (rw c.in-Some-true.field-0-test at c.in-Some-true.ensures))))

pub returns-in-Some-false : goal.returns-in-Some-false
returns-in-Some-false g c = λ program.
    when_other program (g.M.Kernel.state c.args.kernel.now) (list_of c.args.work.now) (arg_of c.args.a.now) (arg_of c.args.b.now) (joined (map form_of (items_of c.args.forms))) (sym (rw c.in-Some-false.field-0-test at c.in-Some-false.ensures))
