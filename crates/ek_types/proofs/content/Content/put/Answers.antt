use Rattle.std.proofs.Common.{◌≡◌, ◌≤◌, length, refl, sym, ap, ◌∙◌, arith}
use Rattle.std.specs.List.{prefix_len}
use Rattle.std.proofs.lemmas.List.{map-id}
use Rattle.std.proofs.lemmas.Iterator.{items_from_drains}
use Rattle.std.proofs.lemmas.Iterator.Adapters.{YieldsList-from_vec}
use Rattle.std.proofs.lemmas.Grind.{common_steps}
use Rattle.ek_types.specs.Runs.{ends_by}
use Rattle.ek_types.proofs.Pieces.{length-zip, enough_sets}
use Rattle.ek_types.proofs.Putting.{more_by_later, runs_with, given_between, given_beside}
use Rattle.ek_types.proofs.content.Content.put.Goals as goal

-- the runs afterwards
laid : (c : goal.After-drop-branch) → c.splice.new.self.items ≡
    runs_with 0 c.args.from c.args.to c.args.set.now (prefix_len (ends_by c.args.from) c.self.inside.runs.items) (prefix_len (ends_by c.args.to) c.self.inside.runs.items) c.self.inside.runs.items
laid c =
    let spliced = c.in_ok-splice.ensures.items in
    let gives = spliced.2 in
    let drained = spliced.3 in
    let whole = YieldsList-from_vec c.push.new.self.items gives.0 (gives.1 ∙ grind (arith, common_steps)) in
    let same : spliced.1 ≡ c.push.new.self.items = sym (map-id spliced.1) ∙ items_from_drains spliced.1 (drained.1.0, drained.1.1, λ k. (drained.0, drained.1.2)) whole in
    rw (spliced.4, same, c.in_ok-push.ensures.items, c.in_ok-new.ensures, c.ending_by-first.ensures.exact, c.ending_by-behind.ensures.exact, c.deref.ensures.value, c.deref-2.ensures.value, c.deref-3.ensures.value, c.in_ok-copy.ensures) refl

inside : (c : goal.After-drop-branch) → c.args.to ≤ length c.self.inside.text.items
inside c = omega (arith, c.requires.1, length-zip c.self.inside.text.items _ (enough_sets c.self.inside.text.items c.self.inside.runs.items c.self.invariant.0), ap length c.self.view_is)

pub splice-requires-clause-start_le_end : goal.splice-requires-clause-start_le_end
splice-requires-clause-start_le_end c =
    rw (c.ending_by-first.ensures.exact, c.ending_by-behind.ensures.exact, c.deref.ensures.value, c.deref-2.ensures.value) (more_by_later c.args.from c.args.to c.self.inside.runs.items c.requires.0)

pub invariant_of-self-2 : goal.invariant_of-self-2
invariant_of-self-2 c = (rw (laid c) (given_between 0 c.args.from c.args.to c.args.set.now c.self.inside.runs.items (length c.self.inside.text.items) c.self.invariant.0 (omega arith) c.requires.0 (inside c)).0, c.self.invariant.1)

pub returns-clause-ok : goal.returns-clause-ok
returns-clause-ok c = rw (← c.self.view_is, laid c) (given_beside c.args.from c.args.to c.args.set.now c.self.inside.text.items c.self.inside.runs.items c.self.invariant.0 c.requires.0 (inside c))
