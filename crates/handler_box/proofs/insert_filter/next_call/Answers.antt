use Rattle.std.proofs.Common.{◌≤◌, length, map, sym, arith}
use Rattle.std.proofs.lemmas.List.{length-map}
use Rattle.ek_types.specs.Listing.{items_of}
use Rattle.ek_call.specs.Meaning.{view, reply_of}
use Rattle.handler_code.specs.Calls.{asked_of}
use Rattle.handler_box.proofs.Along.{insert_end}
use Rattle.handler_box.proofs.Kept.{if_ok_same}
use Rattle.handler_box.proofs.insert_filter.next_call.Goals as goal

pub returns-in_default : goal.returns-in_default
returns-in_default c =
    let many : 9 ≤ length (map reply_of (items_of c.args.past.now)) = omega (arith, length-map (items_of c.args.past.now) reply_of, c.len.ensures) in
    if_ok_same asked_of c.point_back.result _ _ c.point_back.ensures (sym (insert_end (map view (items_of c.args.args.now)) (map reply_of (items_of c.args.past.now)) c.requires many))
