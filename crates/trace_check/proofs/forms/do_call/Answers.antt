use Rattle.std.proofs.Common.{map, sym}
use Rattle.ek_types.specs.Listing.{items_of}
use Rattle.ek_call.specs.Meaning.{call_of, view}
use Rattle.trace_check.specs.Meaning.{list_of}
use Rattle.trace_check.proofs.FormItems.{call_put, call_void}
use Rattle.trace_check.proofs.Listing.{once_put}
use Rattle.trace_check.proofs.forms.do_call.Goals as goal

pub returns-in-None : goal.returns-in-None
returns-in-None g c = λ program name is. once_put c.put.result c.put.ensures.ok (λ put.
    rw put (call_void program (g.M.Kernel.state c.args.kernel.now) (list_of c.args.work.now) name (call_of c.args.call) (sym (rw c.in-None.is at c.in_ok-values.ensures))))

pub returns : goal.returns
returns g c = λ program name is. once_put c.put-in-Some.result c.put-in-Some.ensures.ok (λ put.
    rw (put, sym is) (call_put program (g.M.Kernel.state c.args.kernel.now) (list_of c.args.work.now) name (call_of c.args.call) (map view (items_of c.in-Some.args)) (sym (rw c.in-Some.is at c.in_ok-values.ensures))))
