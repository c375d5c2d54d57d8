use Rattle.std.proofs.Common.{◌≡◌, ◌+◌, ◌<◌, true, false, length, map, drop, Ok, ap, sym, ◌∙◌, arith}
use Rattle.std.proofs.lemmas.List.{length-map}
use Rattle.text_model.specs.Undo.{lies_inside}
use Rattle.undo_list.specs.Records.{entry_of}
use Rattle.undo_list.specs.Plans.{planned_from}
use Rattle.undo_list.proofs.Seeing.{seen_next, seen_none}
use Rattle.undo_list.proofs.Walking.{walked-on, walked-met, walked-done, count-stepped, walk-begun, walked}
use Rattle.undo_list.proofs.records.Records.plan.Goals as goal
use Rattle.undo_list.proofs.records.Records.plan.Goals.{then-walk-test+else-i-len, else-walk-test}

pub walk-preserved : goal.walk-preserved
walk-preserved c =
    let e = entry_of c.index-entry.result.now in
    let within : c.walk.i < length c.self.inside.entries.items = omega (arith, c.self.inside.entries.ok.0) in
    let here = seen_next c.self.inside.entries.items c.walk.i c.index-entry.result.now within c.index-entry.ensures in
    let inside : lies_inside c.walk.walk.min c.walk.walk.max e.what ≡ true = sym c.lies_inside.ensures ∙ c.if-not-lies_inside.false in
    record {
      same =
          ap (walked (drop (c.walk.i + 1) (map entry_of c.self.inside.entries.items))) c.step.ensures.exact
          ∙ sym (ap (λ l. walked l c.walk.walk) here ∙ walked-on e (drop (c.walk.i + 1) (map entry_of c.self.inside.entries.items)) c.walk.walk c.walk-test.true inside) ∙ c.walk.invariant.same;
      inside = omega arith;
      max = omega (arith, c.step.ensures.bound, c.walk.invariant.max);
      count = omega (arith, ap (λ w. w.plan.count) c.step.ensures.exact, count-stepped e c.walk.walk, c.walk.invariant.count);
    }

pub returns-then-not-lies_inside : goal.returns-then-not-lies_inside
returns-then-not-lies_inside c =
    let e = entry_of c.index-entry.result.now in
    let xs = c.self.inside.entries.items in
    let within : c.walk.i < length xs = omega (arith, c.self.inside.entries.ok.0) in
    let start : c.args.start < length xs = omega (arith, length-map xs entry_of, ap (λ h. length h.entries) c.self.view_is, c.requires.start) in
    let here = seen_next xs c.walk.i c.index-entry.result.now within c.index-entry.ensures in
    let outside : lies_inside c.walk.walk.min c.walk.walk.max e.what ≡ false = sym c.lies_inside.ensures ∙ c.if-not-lies_inside.true in
    sym (ap (λ l. walked l c.walk.walk) here ∙ walked-met e (drop (c.walk.i + 1) (map entry_of xs)) c.walk.walk c.walk-test.true outside) ∙ c.walk.invariant.same
    ∙ walk-begun c.args.groups c.args.min c.args.max (entry_of c.index.result.now) (drop (c.args.start + 1) (map entry_of xs)) (drop c.args.start (map entry_of xs)) (seen_next xs c.args.start c.index.result.now start c.index.ensures)
    ∙ ap (λ h. planned_from c.args.groups c.args.min c.args.max (drop c.args.start h.entries)) c.self.view_is

pub returns : goal.returns
returns c =
    let xs = c.self.inside.entries.items in
    let start : c.args.start < length xs = omega (arith, length-map xs entry_of, ap (λ h. length h.entries) c.self.view_is, c.requires.start) in
    let rest = drop c.walk.i (map entry_of xs) in
    let done : walked rest c.walk.walk ≡ Ok c.walk.walk.plan =
    elim c.walk-test.branch [
      | then-walk-test+else-i-len w ↦ ap (λ l. walked l c.walk.walk) (seen_none xs c.walk.i (omega (arith, c.self.inside.entries.ok.0)))
      | else-walk-test w ↦ walked-done rest c.walk.walk w.walk-test.false
    ] in
    sym done ∙ c.walk.invariant.same
    ∙ walk-begun c.args.groups c.args.min c.args.max (entry_of c.index.result.now) (drop (c.args.start + 1) (map entry_of xs)) (drop c.args.start (map entry_of xs)) (seen_next xs c.args.start c.index.result.now start c.index.ensures)
    ∙ ap (λ h. planned_from c.args.groups c.args.min c.args.max (drop c.args.start h.entries)) c.self.view_is
