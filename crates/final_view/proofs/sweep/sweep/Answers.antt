use Rattle.std.proofs.Common.{◌+◌, ◌<◌, ◌≤◌, ◌++◌, [], List, drop, arith}
use Rattle.text_model.specs.Characters.{Ch}
use Rattle.text_model.specs.Properties.{part}
use Rattle.final_view.specs.Marks.{Rises, start_key, end_key}
use Rattle.final_view.specs.Visible.{visible}
use Rattle.final_view.proofs.Showing.{shows_then, shows_nothing}
use Rattle.final_view.proofs.Passing.{rises_more}
use Rattle.final_view.proofs.Whole.{swept_begins, swept_on, closed_at, opened_at}
use Rattle.final_view.proofs.sweep.sweep.Goals as goal

pub loop-at-init : goal.loop-at-init
loop-at-init g c = record {
  printed = [];
  prints = shows_nothing;
  swept = swept_begins c.args.overlays.now c.args.text.now.buffer.text c.args.openers.now c.args.closers.now c.args.first c.args.last c.requires.order c.requires.ends c.requires.starts;
}

pub loop-at-preserved : goal.loop-at-preserved
loop-at-preserved g c =
    let os = c.args.overlays.now in
    let cells = c.args.text.now.buffer.text in
    let openers = c.args.openers.now in
    let closers = c.args.closers.now in
    let first = c.args.first in
    let last = c.args.last in
    let at = c.loop-at.at in
    let to = c.next_end-to.result in
    let until = c.open-started.result.until in
    let before = c.loop-at.invariant in
    let old_ended = drop c.loop-at.ended closers in
    let old_started = drop c.loop-at.started.next openers in
    let ended = drop c.close-ended.result closers in
    let started = drop c.open-started.result.next openers in
    let closing : List Ch = closed_at os cells openers closers first last at old_ended in
    let opening : List Ch = opened_at os cells openers closers first last at old_started in
    let starts_behind : Rises start_key (at + 1) started = c.open-started.ensures.pass.rises in
    let ends_behind : Rises end_key (at + 1) ended = c.close-ended.ensures.pass.rises in
    let next_start : Rises start_key c.next_start.result started = c.next_start.ensures.rises (rises_more start_key 0 (at + 1) started (omega arith) starts_behind) in
    let next_end : Rises end_key to ended = c.next_end-to.ensures.rises (rises_more end_key 0 (at + 1) ended (omega arith) ends_behind) in
    let more : at < to = c.next_end-to.ensures.behind at (c.next_start.ensures.behind at c.loop-at-test.true starts_behind) ends_behind in
    let upto : to ≤ last = omega (arith, c.next_start.ensures.within, c.next_end-to.ensures.within) in
    record {
      printed = ((before.printed ++ closing) ++ opening) ++ visible until at (part at to cells);
      prints = shows_then ((before.printed ++ closing) ++ opening) (visible until at (part at to cells)) (shows_then (before.printed ++ closing) opening (shows_then before.printed closing before.prints c.close-ended.ensures.shown) c.open-started.ensures.shown) c.stretch.ensures;
      swept = swept_on os cells openers closers first last at until c.loop-at.started.until to old_ended old_started ended started before.printed before.swept c.close-ended.ensures.pass c.open-started.ensures.pass c.open-started.ensures.cover
          more upto c.requires.within next_end (rises_more start_key to c.next_start.result started c.next_end-to.ensures.within next_start);
    }
