use Rattle.std.proofs.Common.{ap, ◌∙◌, map, option_map, arith}
use Rattle.std.proofs.lemmas.Option.{slice_get-map}
use Rattle.std.proofs.lemmas.List.{length-map}
use Rattle.ek_types.specs.Listing.{items_of}
use Rattle.ek_call.specs.Meaning.{view}
use Rattle.prim_changes.proofs.Strings.{alone_contents}
use Rattle.prim_changes.proofs.inserts.pieces_of.Goals as goal

pub returns-then-len-eq1 : goal.returns-then-len-eq1
returns-then-len-eq1 c =
    let items = items_of c.args.args.now in
    alone_contents c.args.set.now (map view items) c.in_ok-piece.piece _ (omega (arith, length-map items view, c.len.ensures, c.if-len-eq1.true)) (slice_get-map view items 0 ∙ ap (option_map view) c.at.ensures) c.in_ok-piece.ensures
