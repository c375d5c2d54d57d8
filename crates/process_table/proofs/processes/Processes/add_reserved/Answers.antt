use Rattle.std.proofs.Common.{◌≡◌, ◌++◌, [], ◌∷◌, ap, ◌∙◌, vec_items}
use Rattle.process_table.specs.Table.{Room}
use Rattle.process_table.proofs.Changing.{invariant_added}
use Rattle.process_table.proofs.processes.Processes.add_reserved.Goals as goal

pub invariant_of-self : goal.invariant_of-self
invariant_of-self c =
    let same : c.moved.result.items ≡ c.self.inside.list.items = c.moved.ensures.items ∙ ap (λ v. vec_items v) c.replace-processes.ensures.value in
    let pushed : c.push_reserved.new.self.items ≡ c.self.inside.list.items ++ c.new.result ∷ [] = c.push_reserved.ensures.items ∙ ap (λ l. l ++ c.new.result ∷ []) same in
    invariant_added c.self.inside.list.items c.args.self.now c.push_reserved.new.self.items c.new.result c.place.inside.name.items c.args.place.name c.args.child c.args.buffer c.args.mark c.self.view_is pushed c.new.ensures
    (ap (λ (r : Room). r.name) c.place.view_is) c.requires.few c.requires.free c.self.invariant
