use Rattle.std.proofs.Common.{◌<◌, length, map, ap, sym, ◌∙◌, slice_get, arith}
use Rattle.std.specs.Prelude.{option_map}
use Rattle.std.proofs.lemmas.List.{length-map}
use Rattle.std.proofs.lemmas.Option.{slice_get-map}
use Rattle.ek_types.specs.Listing.{items_of}
use Rattle.ek_call.specs.Meaning.{reply_of}
use Rattle.handler_box.specs.Replies.{wanted_of}
use Rattle.handler_box.proofs.Kept.{too_many, unkept_here, kept_more}
use Rattle.handler_box.proofs.replies.are_as_wanted.Goals as goal

pub returns-then-len-wanted : goal.returns-then-len-wanted
returns-then-len-wanted c =
    let more : length (map wanted_of c.args.wanted.now) < length (map reply_of (items_of c.args.past.now)) = omega (arith, c.len.ensures, c.if-len-wanted.true, length-map c.args.wanted.now wanted_of, length-map (items_of c.args.past.now) reply_of) in
    sym (too_many (map reply_of (items_of c.args.past.now)) (map wanted_of c.args.wanted.now) more)

pub returns-then-not-is_as_wanted : goal.returns-then-not-is_as_wanted
returns-then-not-is_as_wanted c =
    let at = slice_get-map reply_of (items_of c.args.past.now) c.loop-i.i ∙ ap (option_map reply_of) c.at.ensures in
    let there = slice_get-map wanted_of c.args.wanted.now c.loop-i.i ∙ ap (option_map wanted_of) c.wanted_at.ensures in
    sym (unkept_here (map reply_of (items_of c.args.past.now)) (map wanted_of c.args.wanted.now) c.loop-i.i (reply_of c.at.result.now) (wanted_of c.wanted_at.result) at there c.loop-i.invariant (sym c.is_as_wanted.ensures ∙ c.if-not-is_as_wanted.true))

pub loop-i-preserved : goal.loop-i-preserved
loop-i-preserved c =
    let at = slice_get-map reply_of (items_of c.args.past.now) c.loop-i.i ∙ ap (option_map reply_of) c.at.ensures in
    let there = slice_get-map wanted_of c.args.wanted.now c.loop-i.i ∙ ap (option_map wanted_of) c.wanted_at.ensures in
    kept_more (map reply_of (items_of c.args.past.now)) (map wanted_of c.args.wanted.now) c.loop-i.i (reply_of c.at.result.now) (wanted_of c.wanted_at.result) at there c.loop-i.invariant (sym c.is_as_wanted.ensures ∙ c.if-not-is_as_wanted.false)
