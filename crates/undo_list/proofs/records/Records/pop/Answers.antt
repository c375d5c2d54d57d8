use Rattle.std.proofs.Common.{map, ap, sym, ◌∙◌, arith}
use Rattle.std.specs.Prelude.{if◌then◌else◌}
use Rattle.text_model.specs.Undo.{without_oldest_group}
use Rattle.undo_list.specs.Records.{entry_of}
use Rattle.undo_list.proofs.Seeing.{kept-popped, without-popped}
use Rattle.undo_list.proofs.records.Records.pop.Goals as goal

pub overflow_sub-self : goal.overflow_sub-self
overflow_sub-self c = omega (arith, kept-popped c.self.inside.entries.items c.pop_back.new.self.items c.in_ok-entry.entry c.in_ok-entry.ensures.items, c.self.invariant, c.size.ensures)

pub invariant_of-self-2 : goal.invariant_of-self-2
invariant_of-self-2 c = omega (arith, kept-popped c.self.inside.entries.items c.pop_back.new.self.items c.in_ok-entry.entry c.in_ok-entry.ensures.items, c.self.invariant, c.size.ensures)

pub returns-clause-some : goal.returns-clause-some
returns-clause-some c =
    ap (λ h. without_oldest_group h.entries) (sym c.self.view_is)
    ∙ without-popped c.self.inside.entries.items c.pop_back.new.self.items c.in_ok-entry.entry c.in_ok-entry.ensures.items
    ∙ ap (λ b. if b then map entry_of c.pop_back.new.self.items else without_oldest_group (map entry_of c.pop_back.new.self.items)) (sym c.is_boundary.ensures)
