use Rattle.std.proofs.Common.{ap, ◌∙◌, map, arith}
use Rattle.editor_model.specs.Values.{TheOverlay, list}
use Rattle.ek_types.specs.Listing.{items_of}
use Rattle.ek_call.specs.Meaning.{view}
use Rattle.prim_arguments.proofs.Loops.{seen_more, mapped_all}
use Rattle.prim_questions.proofs.overlay_questions.overlay_list.Goals as goal

pub loop-i-preserved : goal.loop-i-preserved
loop-i-preserved c =
    seen_more view TheOverlay (items_of c.args.numbers.now) _ _ c.loop-i.i _ _ c.in_ok-push.ensures.ok c.at.ensures c.overlay.ensures c.loop-i.invariant

pub returns : goal.returns
returns c = c.list.ensures ∙ ap list (mapped_all TheOverlay (items_of c.args.numbers.now) (map view (items_of c.loop-i.values)) c.loop-i.i (omega arith) c.loop-i.invariant)
