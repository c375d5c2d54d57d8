use Rattle.std.proofs.Common.{◌∙◌, ap, sym}
use Rattle.text_model.specs.Properties.{put}
use Rattle.ek_types.specs.Listing.{items_of}
use Rattle.editor_model.specs.PropertyCalls.{set_of_pairs}
use Rattle.prim_arguments.specs.PropertyArguments.{pair_of}
use Rattle.prim_arguments.proofs.Pairing.{one_back}
use Rattle.prim_arguments.proofs.property_lists.set_of_pairs.Goals as goal

pub loop-i-preserved : goal.loop-i-preserved
loop-i-preserved c =
    let items = items_of c.args.list.now in
    let p = pair_of c.at.result.now in
    c.in_ok-set.ensures ∙ ap (λ s. put s p.0 p.1) c.loop-i.invariant ∙ ap set_of_pairs (sym (one_back items c.loop-i.i c.at.result.now c.at.ensures))
