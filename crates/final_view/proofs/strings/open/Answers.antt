use Rattle.std.proofs.Common.{◌+◌, ◌∷◌, [], drop, filter, flat_map, get_or, pos, arith, subst, sym}
use Rattle.final_view.specs.Marks.{start_key, starts_here, opened_of, Rises, Cover}
use Rattle.final_view.specs.declared.mark.Mark.{Mark}
use Rattle.final_view.proofs.Passing.{going_on, going_shown, going_ends, going_begins, rises_behind, next_one}
use Rattle.final_view.proofs.Showing.{shows_then, shows_same, shows_nothing}
use Rattle.final_view.proofs.Places.{starts_sound, cover_on, cover_begins}
use Rattle.final_view.proofs.strings.open.Goals as goal

abbrev nobody : Mark
nobody = record { number = 0; start = 0; end = 0; rank = pos 0 }

pub loop-next-init : goal.loop-next-init
loop-next-init g c =
    let old = drop c.args.started.next c.args.openers.now in
    record { printed = []; prints = shows_nothing; going = going_begins start_key (starts_here c.args.last) (starts_sound c.args.last) (opened_of c.args.overlays.now) c.args.at old c.requires.rises; cover = cover_begins c.args.overlays.now c.args.at c.args.started.until old }

pub loop-next-preserved : goal.loop-next-preserved
loop-next-preserved g c =
    let marks = c.args.openers.now in
    let next = c.loop-next.next in
    let m = get_or marks next nobody in
    let before = c.loop-next.invariant in
    record {
      printed = _;
      prints = shows_then before.printed (flat_map (opened_of c.args.overlays.now) (filter (starts_here c.args.last c.args.at) (m ∷ []))) before.prints c.open_one.ensures;
      going = going_on start_key (starts_here c.args.last) (starts_sound c.args.last) (opened_of c.args.overlays.now) c.args.at (drop c.args.started.next marks) m (drop (next + 1) marks) (drop next marks) before.printed
          (next_one marks next nobody c.loop-next-test.true) c.if-openers-next.true before.going;
      cover = subst (λ n. Cover c.args.overlays.now c.args.at c.args.started.until n (drop c.args.started.next marks) (drop (next + 1) marks)) (sym c.hidden_by-until.ensures)
          (cover_on c.args.overlays.now c.args.at c.args.started.until c.loop-next.until m (drop c.args.started.next marks) (drop next marks) (drop (next + 1) marks) (next_one marks next nobody c.loop-next-test.true) c.if-openers-next.true before.cover);
    }

pub returns-else-openers-next-clause-shown : goal.returns-else-openers-next-clause-shown
returns-else-openers-next-clause-shown g c =
    let marks = c.args.openers.now in
    let next = c.loop-next.next in
    let before = c.loop-next.invariant in
    let left : Rises start_key (c.args.at + 1) (drop next marks) = rises_behind start_key c.args.at (drop next marks) (drop (next + 1) marks) (get_or marks next nobody) (next_one marks next nobody c.loop-next-test.true) (omega (arith, c.if-openers-next.false)) before.going.rises in
    shows_same before.printed _ (going_shown start_key (starts_here c.args.last) (starts_sound c.args.last) (opened_of c.args.overlays.now) c.args.at (drop c.args.started.next marks) (drop next marks) before.printed left before.going) before.prints

pub returns-else-openers-next-clause-pass : goal.returns-else-openers-next-clause-pass
returns-else-openers-next-clause-pass g c =
    let marks = c.args.openers.now in
    let next = c.loop-next.next in
    let before = c.loop-next.invariant in
    let left : Rises start_key (c.args.at + 1) (drop next marks) = rises_behind start_key c.args.at (drop next marks) (drop (next + 1) marks) (get_or marks next nobody) (next_one marks next nobody c.loop-next-test.true) (omega (arith, c.if-openers-next.false)) before.going.rises in
    going_ends start_key (starts_here c.args.last) (starts_sound c.args.last) (opened_of c.args.overlays.now) c.args.at (drop c.args.started.next marks) (drop next marks) before.printed left before.going
