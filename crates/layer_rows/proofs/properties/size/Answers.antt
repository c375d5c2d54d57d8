use Rattle.std.proofs.Common.{length, sym, ap, ◌∙◌}
use Rattle.prop_intervals.proofs.SetLemmas.{length-sets_of}
use Rattle.layer_rows.proofs.properties.size.Goals as goal

pub returns : goal.returns
returns c = c.len.ensures ∙ sym (length-sets_of _) ∙ ap length c.runs.ensures.sets
