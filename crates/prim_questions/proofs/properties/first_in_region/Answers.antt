use Rattle.std.proofs.Common.{◌≡◌, ℕ, Bor, ap, subst, ◌∙◌}
use Rattle.std.specs.Prelude.{Option, Some, None, IfOk, option_map, option_copied}
use Rattle.text_model.specs.Properties.{PropVal, part}
use Rattle.text_model.specs.PropertyQuestions.{first_where, has_value}
use Rattle.editor_model.specs.Editor.{here}
use Rattle.editor_model.specs.Arguments.{value_of, from_of}
use Rattle.editor_model.specs.PropertyCalls.{place_value}
use Rattle.ek_types.specs.Property.{number_of, prop_of}
use Rattle.ek_call.specs.Meaning.{view}
use Rattle.buffer_table.specs.Kept.{editor_of}
use Rattle.prim_questions.specs.Searches.{wanted}
use Rattle.prim_questions.proofs.properties.first_in_region.Goals as goal

seen_behind : {T B : Type 0} (f : T → B) (o : Option (Bor T)) (p : Option T) → option_copied o ≡ p → option_map (λ v. f v.now) o ≡ option_map f p
seen_behind f None p h = ap (option_map f) h
seen_behind f (Some b) p h = ap (option_map f) h

pub returns : goal.returns
returns c =
    let e = editor_of c.args.editor.now in
    let a = view c.args.a.now in
    let b = view c.args.b.now in
    let n = number_of c.args.name in
    let text = (here e).text in
    let given : option_map (λ v. prop_of v.now) c.as_ref.result ≡ value_of (view c.args.v.now) = seen_behind prop_of c.as_ref.result c.in_ok-value.value c.as_ref.ensures.value ∙ c.in_ok-value.ensures.value in
    let same = c.first_place.ensures
    ∙ ap (λ (v : Option PropVal). first_where (λ x. wanted c.args.has (has_value n v x)) c.from_of-from.result (part c.from_of-from.result c.to_of-to.result text)) given
    ∙ ap (λ (i : ℕ). first_where (λ x. wanted c.args.has (has_value n (value_of (view c.args.v.now)) x)) i (part i c.to_of-to.result text)) c.from_of-from.ensures
    ∙ ap (λ (i : ℕ). first_where (λ x. wanted c.args.has (has_value n (value_of (view c.args.v.now)) x)) (from_of e a b) (part (from_of e a b) i text)) c.to_of-to.ensures in
    subst (λ w. IfOk c.found_place.result (λ v. view v ≡ place_value w)) same c.found_place.ensures
