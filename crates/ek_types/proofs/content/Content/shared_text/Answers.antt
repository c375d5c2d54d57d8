use Rattle.ek_types.proofs.Pieces.{firsts-zip, enough_sets}
use Rattle.ek_types.proofs.content.Content.shared_text.Goals as goal

pub returns : goal.returns
returns c = rw (← c.self.view_is, firsts-zip c.self.inside.text.items _ (enough_sets c.self.inside.text.items c.self.inside.runs.items c.self.invariant.0)) c.lent.ensures
