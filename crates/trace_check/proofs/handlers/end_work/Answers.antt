use Rattle.std.proofs.Common.{sym}
use Rattle.kernel_steps.specs.Handlers.{kind_of}
use Rattle.kernel_steps.proofs.Handling.{not_faulted}
use Rattle.trace_check.specs.Meaning.{list_of}
use Rattle.trace_check.proofs.handlers.end_work.Goals as goal

pub returns-then-not-faulted : goal.returns-then-not-faulted
returns-then-not-faulted c = rw c.if-not-faulted.true (sym (not_faulted (kind_of c.args.kind) (list_of c.args.work.now)))

pub returns-in-Before : goal.returns-in-Before
returns-in-Before c = rw (c.in-Before.is, c.if-not-faulted.false) c.drop_hooks.ensures

pub returns-in-After : goal.returns-in-After
returns-in-After c = rw (c.in-After.is, c.if-not-faulted.false) c.drop_hooks-in-After.ensures
