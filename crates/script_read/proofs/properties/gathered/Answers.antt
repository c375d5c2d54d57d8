use Rattle.std.proofs.Common.{◌≡◌, ◌+◌, ◌-◌, ◌*◌, ◌/◌, ◌≤◌, map, drop, length, [], Some, sym, ap, ◌∙◌, arith}
use Rattle.ek_types.specs.Listing.{items_of}
use Rattle.ek_call.specs.Meaning.{view}
use Rattle.script_read.specs.PropStrings.{named_of}
use Rattle.script_read.specs.PropSets.{property_of}
use Rattle.script_read.proofs.Gathering.{nothing_gathered, not_added, added, pair_more, pair_fails, none_left, odd_list}
use Rattle.script_read.proofs.properties.gathered.Goals as goal

pub returns-then-len-left : goal.returns-then-len-left
returns-then-len-left c =
    let odd : length (items_of c.args.list.now) ≡ 2 * (c.len-left.result / 2) + 1 = omega (arith, c.if-len-left.true, c.len.ensures, c.len-left.ensures) in
    rw (odd_list (items_of c.args.list.now) (c.len-left.result / 2) odd) tt

pub pairs-init : goal.pairs-init
pairs-init c =
    let even : length (items_of c.args.list.now) ≤ 2 * (c.len-left.result / 2) = omega (arith, c.if-len-left.false, c.len.ensures) in
    record {
      within = omega (arith, c.len-left.ensures);
      so_far = (([], []), none_left (items_of c.args.list.now) (c.len-left.result / 2) even, rw c.new-given.ensures.empty nothing_gathered);
    }

pub returns-then-not-branch : goal.returns-then-not-branch
returns-then-not-branch c =
    let list = items_of c.args.list.now in
    let (named, e, g) = c.pairs.invariant.so_far in
    let a = rw c.if-not-branch.true at c.in_ok-note_property.ensures named g in
    let none = pair_more list c.pairs.left c.at.result.now c.at-in-pairs.result.now named c.pairs-test.true c.at.ensures c.at-in-pairs.ensures e ∙ not_added (property_of (view c.at.result.now) (view c.at-in-pairs.result.now) named) _ a in
    rw (pair_fails list (c.pairs.left - 1) (omega (arith, c.pairs.invariant.within, c.pairs-test.true)) none) tt

pub pairs-preserved : goal.pairs-preserved
pairs-preserved c =
    let list = items_of c.args.list.now in
    let (named, e, g) = c.pairs.invariant.so_far in
    let a = rw c.if-not-branch.false at c.in_ok-note_property.ensures named g in
    let (more, f, h) = added (property_of (view c.at.result.now) (view c.at-in-pairs.result.now) named) _ a in
    record {
      within = omega (arith, c.pairs.invariant.within, c.pairs-test.true);
      so_far = (more, pair_more list c.pairs.left c.at.result.now c.at-in-pairs.result.now named c.pairs-test.true c.at.ensures c.at-in-pairs.ensures e ∙ f, h);
    }

pub returns : goal.returns
returns c =
    let (named, e, g) = c.pairs.invariant.so_far in
    let zero : 2 * c.pairs.left ≡ 0 = omega (arith, c.pairs-test.false) in
    let all : named_of (map view (items_of c.args.list.now)) ≡ Some named = ap (λ n. named_of (drop n (map view (items_of c.args.list.now)))) (sym zero) ∙ e in
    rw all g
