use Rattle.std.proofs.Common.{◌∙◌, sym}
use Rattle.ek_types.proofs.Pieces.{length-zip, enough_sets}
use Rattle.ek_types.proofs.content.Content.len.Goals as goal

pub returns : goal.returns
returns c =
    rw (← c.self.view_is) (c.len.ensures ∙ sym (length-zip c.self.inside.text.items _ (enough_sets c.self.inside.text.items c.self.inside.runs.items c.self.invariant.0)))
