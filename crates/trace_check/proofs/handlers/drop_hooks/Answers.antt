use Rattle.std.proofs.Common.{ap, sym, ◌∙◌}
use Rattle.plain_machine.specs.Handling.{without_hooks_item}
use Rattle.trace_check.proofs.handlers.drop_hooks.Goals as goal

pub returns-in-None : goal.returns-in-None
returns-in-None c = c.in-None.ensures.none.1 ∙ ap without_hooks_item (sym c.in-None.ensures.none.0)
