use Rattle.std.proofs.Common.{length, map, sym, ap, ◌∙◌, arith, rules}
use Rattle.std.proofs.lemmas.List.{length-map}
use Rattle.text_model.proofs.Lists.{mapped_at}
use Rattle.text_model.specs.Properties.{same_list, same_ch}
use Rattle.editor_model.specs.Values.{Str, equal, equal_each, values}
use Rattle.ek_types.specs.Listing.{items_of}
use Rattle.ek_call.specs.Meaning.{view}
use Rattle.ek_call.specs.declared.value.Value.{size-Value}
use Rattle.kernel_state.proofs.Equality.{deepest, string_is, same_characters, differ_in_length, equal_met, other_met}
use Rattle.kernel_state.proofs.equal.+equal.Goals as goal

pub are_equal-returns-in-Str-Str : goal.are_equal-returns-in-Str-Str
are_equal-returns-in-Str-Str t c =
    let x = c.in-Str-Str.x in
    let y = c.in-Str-Str.y in
    c.same.ensures
    ∙ ap (λ s. same_list same_ch s c.text-in-Str-Str.result.now.items) c.text.ensures
    ∙ ap (λ s. same_list same_ch (map (λ d. d.0) x) s) c.text-in-Str-Str.ensures
    ∙ same_characters x y
    ∙ ap (λ v. equal v (Str y)) (sym (string_is x) ∙ ap view (sym c.in-Str-Str.is-0))
    ∙ ap (equal (view c.args.a.now)) (sym (string_is y) ∙ ap view (sym c.in-Str-Str.is-1))

pub each_equal-returns-then-len : goal.each_equal-returns-then-len
each_equal-returns-then-len t c =
    let a = items_of c.args.a.now in
    let b = items_of c.args.b.now in
    differ_in_length (map view a) (map view b) (λ e. c.if-len.true (omega (arith, e, length-map a view, length-map b view)))

pub each_equal-are_equal-requires : goal.each_equal-are_equal-requires
each_equal-are_equal-requires t c =
    let below = deepest size-Value (items_of c.args.a.now) c.loop-i.i c.at.result.now c.at.ensures in
    search (rules, below)

pub each_equal-returns-then-not-are_equal : goal.each_equal-returns-then-not-are_equal
each_equal-returns-then-not-are_equal t c =
    let a = items_of c.args.a.now in
    let b = items_of c.args.b.now in
    other_met (map view a) (map view b) c.loop-i.i (view c.at.result.now) (view c.at-in-loop-i.result.now) (mapped_at view a c.loop-i.i _ c.at.ensures) (mapped_at view b c.loop-i.i _ c.at-in-loop-i.ensures)
    (equal_each (values (map view a)) (values (map view b))) c.if-not-are_equal.ensures c.loop-i.invariant.same

pub each_equal-loop-i-preserved : goal.each_equal-loop-i-preserved
each_equal-loop-i-preserved t c =
    let a = items_of c.args.a.now in
    let b = items_of c.args.b.now in
    record {
      same = equal_met (map view a) (map view b) c.loop-i.i (view c.at.result.now) (view c.at-in-loop-i.result.now) (mapped_at view a c.loop-i.i _ c.at.ensures) (mapped_at view b c.loop-i.i _ c.at-in-loop-i.ensures)
          (equal_each (values (map view a)) (values (map view b))) c.if-not-are_equal.ensures c.loop-i.invariant.same;
      size = c.loop-i.invariant.size;
    }
