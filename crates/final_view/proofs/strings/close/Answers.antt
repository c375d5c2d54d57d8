use Rattle.std.proofs.Common.{◌+◌, ◌∷◌, [], drop, filter, flat_map, get_or, pos, arith}
use Rattle.final_view.specs.Marks.{end_key, ends_here, closed_of, Rises}
use Rattle.final_view.specs.declared.mark.Mark.{Mark}
use Rattle.final_view.proofs.Passing.{going_on, going_shown, going_ends, going_begins, rises_behind, next_one}
use Rattle.final_view.proofs.Showing.{shows_then, shows_same, shows_nothing}
use Rattle.final_view.proofs.Places.{ends_sound}
use Rattle.final_view.proofs.strings.close.Goals as goal

abbrev nobody : Mark
nobody = record { number = 0; start = 0; end = 0; rank = pos 0 }

pub loop-next-init : goal.loop-next-init
loop-next-init g c =
    let old = drop c.args.next c.args.closers.now in
    record { printed = []; prints = shows_nothing; going = going_begins end_key (ends_here c.args.first) (ends_sound c.args.first) (closed_of c.args.overlays.now) c.args.at old c.requires.rises }

pub loop-next-preserved : goal.loop-next-preserved
loop-next-preserved g c =
    let marks = c.args.closers.now in
    let next = c.loop-next.next in
    let m = get_or marks next nobody in
    let before = c.loop-next.invariant in
    record {
      printed = _;
      prints = shows_then before.printed (flat_map (closed_of c.args.overlays.now) (filter (ends_here c.args.first c.args.at) (m ∷ []))) before.prints c.close_one.ensures;
      going = going_on end_key (ends_here c.args.first) (ends_sound c.args.first) (closed_of c.args.overlays.now) c.args.at (drop c.args.next marks) m (drop (next + 1) marks) (drop next marks) before.printed
          (next_one marks next nobody c.loop-next-test.true) c.if-closers-next.true before.going;
    }

pub returns-else-closers-next-clause-shown : goal.returns-else-closers-next-clause-shown
returns-else-closers-next-clause-shown g c =
    let marks = c.args.closers.now in
    let next = c.loop-next.next in
    let before = c.loop-next.invariant in
    let left : Rises end_key (c.args.at + 1) (drop next marks) = rises_behind end_key c.args.at (drop next marks) (drop (next + 1) marks) (get_or marks next nobody) (next_one marks next nobody c.loop-next-test.true) (omega (arith, c.if-closers-next.false)) before.going.rises in
    shows_same before.printed _ (going_shown end_key (ends_here c.args.first) (ends_sound c.args.first) (closed_of c.args.overlays.now) c.args.at (drop c.args.next marks) (drop next marks) before.printed left before.going) before.prints

pub returns-else-closers-next-clause-pass : goal.returns-else-closers-next-clause-pass
returns-else-closers-next-clause-pass g c =
    let marks = c.args.closers.now in
    let next = c.loop-next.next in
    let before = c.loop-next.invariant in
    let left : Rises end_key (c.args.at + 1) (drop next marks) = rises_behind end_key c.args.at (drop next marks) (drop (next + 1) marks) (get_or marks next nobody) (next_one marks next nobody c.loop-next-test.true) (omega (arith, c.if-closers-next.false)) before.going.rises in
    going_ends end_key (ends_here c.args.first) (ends_sound c.args.first) (closed_of c.args.overlays.now) c.args.at (drop c.args.next marks) (drop next marks) before.printed left before.going
