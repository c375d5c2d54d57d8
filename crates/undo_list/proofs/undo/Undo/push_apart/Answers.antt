use Rattle.std.proofs.Common.{◌+◌, List, ◌∷◌, length, ap, sym, subst, ◌∙◌, arith}
use Rattle.std.proofs.lemmas.Bool.{false≢true}
use Rattle.text_model.specs.Undo.{Entry, cut}
use Rattle.undo_list.specs.Records.{AreFalling, rec_of}
use Rattle.undo_list.proofs.Cutting.{falling-cut}
use Rattle.undo_list.proofs.undo.Undo.push_apart.Goals as goal

pub invariant_of-self-2 : goal.invariant_of-self-2
invariant_of-self-2 c =
    let pushed : List Entry = record { what = rec_of c.args.rec; serial = c.self.inside.next } ∷ c.self.inside.records.entries in
    let falls : AreFalling (c.self.inside.next + 1) pushed = (omega arith, c.self.invariant.0) in
    let n = length c.push.new.self.entries in (
      subst (AreFalling (c.self.inside.next + 1)) (sym (c.cut.ensures.entries n (omega arith) ∙ ap (cut n) c.in_ok-push.ensures.ok)) (falling-cut n (c.self.inside.next + 1) pushed falls),
      c.cut.ensures.fits,
      λ h. absurd (false≢true (sym h ∙ ap (λ r. r.state.on) c.self.view_is ∙ c.requires.on)),
    )
