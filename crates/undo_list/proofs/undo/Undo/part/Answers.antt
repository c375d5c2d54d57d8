use Rattle.std.proofs.Common.{◌≡◌, List, take, drop, ap, sym, subst, ◌∙◌}
use Rattle.text_model.specs.Undo.{Entry, fits}
use Rattle.undo_list.specs.Records.{AreFalling}
use Rattle.undo_list.proofs.Parts.{falling_part, fits_part, none_of_none}
use Rattle.undo_list.proofs.undo.Undo.part.Goals as goal

pub invariant_of-result : goal.invariant_of-result
invariant_of-result c =
    let es : List Entry = c.self.inside.records.entries in
    let is : c.in_ok-part.field-0.entries ≡ drop c.args.from (take c.args.to es) = c.in_ok-part.ensures in (
      subst (AreFalling c.self.inside.next) (sym is) (falling_part c.self.inside.next c.args.from c.args.to es c.self.invariant.0),
      ap fits is ∙ fits_part c.args.from c.args.to es c.self.invariant.1,
      λ off. is ∙ ap (λ l. drop c.args.from (take c.args.to l)) (c.self.invariant.2 off) ∙ none_of_none c.args.from c.args.to,
    )
