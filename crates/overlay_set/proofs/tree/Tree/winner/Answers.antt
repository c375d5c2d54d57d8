use Rattle.std.proofs.Common.{map, option_map, None, ap, sym, ◌∙◌}
use Rattle.overlay_set.specs.Slots.{bare_of}
use Rattle.overlay_set.specs.Winner.{strongest}
use Rattle.overlay_set.specs.declared.bounds.Entry.{Entry}
use Rattle.overlay_set.proofs.Shifts.{whole_tree}
use Rattle.overlay_set.proofs.tree.Tree.winner.Goals as goal

pub returns-in_err-best : goal.returns-in_err-best
returns-in_err-best c = c.from_residual.ensures
    ∙ ap (option_map (λ (e : Entry). e.number)) (sym c.in_err-best.was ∙ c.winner_from.ensures.exact ∙ ap (strongest c.args.buffer c.args.i c.args.name.0 (map bare_of c.args.slots.now) None) (whole_tree c.self.inside.root c.args.self.now c.self.view_is))

pub returns : goal.returns
returns c = ap (option_map (λ (e : Entry). e.number)) (sym c.in_ok-best.was ∙ c.winner_from.ensures.exact ∙ ap (strongest c.args.buffer c.args.i c.args.name.0 (map bare_of c.args.slots.now) None) (whole_tree c.self.inside.root c.args.self.now c.self.view_is))
