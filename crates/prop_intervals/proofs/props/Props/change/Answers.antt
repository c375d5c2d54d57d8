use Rattle.std.proofs.Common.{◌≡◌, ◌∙◌, Bool, true, false, ◌++◌, refl, ap, sym, length, take, drop, arith}
use Rattle.std.specs.Prelude.{not}
use Rattle.std.proofs.lemmas.List.{length-map}
use Rattle.text_model.specs.Properties.{PropSet, edited, same_list, same_set}
use Rattle.text_model.proofs.Sameness.{same_list-same, same_set-same}
use Rattle.prop_intervals.specs.Edits.{edit_of}
use Rattle.prop_intervals.specs.Runs.{sets_of}
use Rattle.prop_intervals.proofs.SameLemmas.{same_from, unchanged_where_equal}
use Rattle.prop_intervals.proofs.SetLemmas.{length-sets_of}
use Rattle.prop_intervals.proofs.ChangeLemmas.{part_of, nothing_changed, whole_same}
use Rattle.prop_intervals.proofs.props.Props.change.Goals as goal

was_false : (a : Bool) → not a ≡ true → a ≡ false
was_false true h = cc
was_false false h = refl

was_true : (a : Bool) → not a ≡ false → a ≡ true
was_true true h = refl
was_true false h = cc

pub edited_runs-requires-clause-within : goal.edited_runs-requires-clause-within
edited_runs-requires-clause-within c = omega (arith, length-sets_of c.self.inside.tree, ap length c.self.view_is)

pub replace-requires-clause-within : goal.replace-requires-clause-within
replace-requires-clause-within c = omega (arith, length-sets_of c.self.inside.tree, ap length c.self.view_is)

pub returns-then-not-edited-clause-ok : goal.returns-then-not-edited-clause-ok
returns-then-not-edited-clause-ok c =
    let sets = sets_of c.self.inside.tree in
    let new = sets_of c.in_ok-edited.edited.runs in
    let same : same_list same_set (part_of c.args.from c.args.to sets) new ≡ true = same_from c.in_ok-edited.edited.changed _ c.in_ok-edited.ensures.changed (was_false _ c.if-not-edited.true) in
    rw (← c.self.view_is)
    (nothing_changed c.args.from c.args.to sets new c.requires.order (omega (arith, ap length c.self.view_is)) same ∙ ap (λ s. take c.args.from sets ++ (s ++ drop c.args.to sets)) c.in_ok-edited.ensures.sets)

pub returns-then-not-edited-clause-changed : goal.returns-then-not-edited-clause-changed
returns-then-not-edited-clause-changed c = sym (ap not (same_list-same {A = PropSet} same_set same_set-same c.args.self.now))

pub returns-clause-changed : goal.returns-clause-changed
returns-clause-changed c =
    let sets = sets_of c.self.inside.tree in
    let new = sets_of c.in_ok-edited.edited.runs in
    let part = part_of c.args.from c.args.to sets in
    let lengths : length new ≡ length part = ap length c.in_ok-edited.ensures.sets ∙ length-map part (edited (edit_of c.args.edit.now)) in
    rw (← c.self.view_is, c.in_ok-replace.ensures.ok, whole_same c.args.from c.args.to sets new c.requires.order (omega (arith, ap length c.self.view_is)) lengths)
    (sym (was_true _ c.if-not-edited.false) ∙ c.in_ok-edited.ensures.changed)

pub returns-clause-equal : goal.returns-clause-equal
returns-clause-equal c = unchanged_where_equal true c.args.self.now _ (returns-clause-changed c)
