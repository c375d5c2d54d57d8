use Rattle.std.proofs.Common.{ap, ◌∙◌, map, option_map, arith}
use Rattle.std.proofs.lemmas.Option.{slice_get-map}
use Rattle.std.proofs.lemmas.List.{length-map}
use Rattle.ek_types.specs.Listing.{items_of}
use Rattle.ek_call.specs.Meaning.{view}
use Rattle.prim_changes.proofs.Strings.{contents_more, contents_all}
use Rattle.prim_changes.proofs.inserts.all_contents.Goals as goal

pub loop-i-preserved : goal.loop-i-preserved
loop-i-preserved c =
    let items = items_of c.args.args.now in
    contents_more c.args.set.now (map view items) c.loop-i.pieces.items c.push.new.self.items c.in_ok-piece.piece _ c.loop-i.i _ (slice_get-map view items c.loop-i.i ∙ ap (option_map view) c.at.ensures)
    c.in_ok-push.ensures.items c.in_ok-piece.ensures c.loop-i.invariant

pub returns : goal.returns
returns c =
    contents_all c.args.set.now (map view (items_of c.args.args.now)) c.loop-i.pieces.items c.loop-i.i (omega (arith, length-map (items_of c.args.args.now) view)) c.loop-i.invariant
