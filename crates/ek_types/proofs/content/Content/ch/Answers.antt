use Rattle.std.proofs.Common.{◌∙◌, sym, ap, length, slice_get, arith}
use Rattle.std.proofs.lemmas.Option.{slice_get-map}
use Rattle.ek_types.proofs.Pieces.{length-zip, firsts-zip, enough_sets}
use Rattle.ek_types.proofs.content.Content.ch.Goals as goal

pub at-requires : goal.at-requires
at-requires c =
    omega (arith, length-zip c.self.inside.text.items _ (enough_sets c.self.inside.text.items c.self.inside.runs.items c.self.invariant.0), ap length c.self.view_is)

pub returns-clause-item : goal.returns-clause-item
returns-clause-item c =
    let firsts = firsts-zip c.self.inside.text.items _ (enough_sets c.self.inside.text.items c.self.inside.runs.items c.self.invariant.0) in
    rw (← c.self.view_is) (sym (slice_get-map (λ d. d.0) _ c.args.i) ∙ ap (λ t. slice_get t c.args.i) firsts ∙ c.at.ensures.item)
