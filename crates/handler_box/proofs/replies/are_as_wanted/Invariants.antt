use Rattle.std.proofs.Common.{◌≡◌, map, drop}
use Rattle.ek_types.specs.Listing.{items_of}
use Rattle.ek_call.specs.Meaning.{reply_of}
use Rattle.handler_box.specs.Replies.{are_kept, wanted_of}
use Rattle.handler_box.proofs.replies.are_as_wanted.Given as goal

-- those in front are all as wanted
abbrev pub invariant-loop-i : goal.invariant-loop-i
invariant-loop-i l = are_kept (map reply_of (items_of l.past)) (map wanted_of l.wanted) ≡ are_kept (drop l.i (map reply_of (items_of l.past))) (drop l.i (map wanted_of l.wanted))
