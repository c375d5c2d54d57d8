-- Two lists of values are compared one by one.
use Rattle.std.proofs.Common.{◌≡◌, ℕ, ◌+◌, ◌≤◌, Bool, true, false, ◌&&◌, List, [], ◌∷◌, length, map, drop, refl, sym, ap, subst, ◌∙◌, arith}
use Rattle.std.specs.Prelude.{slice_get, Some}
use Rattle.std.proofs.lemmas.List.{drop_all}
use Rattle.std.proofs.lemmas.Option.{slice_get_within, get_or_from_slice_get}
use denote.Param.Weighed.{most, at_most}
use Rattle.text_model.specs.Properties.{Cell, same_list, same_ch}
use Rattle.text_model.proofs.Lists.{drop_at}
use Rattle.editor_model.specs.Values.{Value, Str, equal, equal_each, values}
use Rattle.ek_call.specs.Meaning.{view}
use Rattle.ek_call.specs.declared.value.Value.{fold-roll-Value}
use Rattle.ek_call.specs.declared.value.Value.TheOpen.{Value-F}
use Rattle.ek_call.specs.declared.value.Value.TheVariants as value

none_and : (a : Bool) → false ≡ (a && false)
none_and true = refl
none_and false = refl

pub same_characters : (a b : List Cell) → same_list same_ch (map (λ c. c.0) a) (map (λ c. c.0) b) ≡ same_list (λ c d. same_ch c.0 d.0) a b
same_characters [] [] = refl
same_characters [] (y ∷ b) = refl
same_characters (x ∷ a) [] = refl
same_characters (x ∷ a) (y ∷ b) = ap (λ e. same_ch x.0 y.0 && e) (same_characters a b)

pub differ_in_length : (a b : List Value) → (length a ≡ length b → ⊥) → false ≡ equal_each (values a) (values b)
differ_in_length [] [] h = absurd (h refl)
differ_in_length [] (y ∷ b) h = refl
differ_in_length (x ∷ a) [] h = refl
differ_in_length (x ∷ a) (y ∷ b) h = none_and (equal x y) ∙ ap (λ e. equal x y && e) (differ_in_length a b (λ e. h (omega (arith, e))))

module _ (a b : List Value) (i : ℕ) where
  module _ (x y : Value) (at_a : slice_get a i ≡ Some x) (at_b : slice_get b i ≡ Some y) (whole : Bool) where
    both : equal_each (values (drop i a)) (values (drop i b)) ≡ (equal x y && equal_each (values (drop (i + 1) a)) (values (drop (i + 1) b)))
    both = ap (λ s. equal_each (values s) (values (drop i b))) (drop_at a i x at_a) ∙ ap (λ s. equal_each (values (x ∷ drop (i + 1) a)) (values s)) (drop_at b i y at_b)

    pub equal_met : true ≡ equal x y → equal_each (values (drop i a)) (values (drop i b)) ≡ whole → equal_each (values (drop (i + 1) a)) (values (drop (i + 1) b)) ≡ whole
    equal_met h inv = ap (λ e. e && equal_each (values (drop (i + 1) a)) (values (drop (i + 1) b))) h ∙ sym both ∙ inv

    pub other_met : false ≡ equal x y → equal_each (values (drop i a)) (values (drop i b)) ≡ whole → false ≡ whole
    other_met h inv = ap (λ e. e && equal_each (values (drop (i + 1) a)) (values (drop (i + 1) b))) h ∙ sym both ∙ inv

  pub all_equal : (whole : Bool) → length a ≤ i → length b ≤ i → equal_each (values (drop i a)) (values (drop i b)) ≡ whole → true ≡ whole
  all_equal whole in_a in_b inv =
      ap (λ s. equal_each (values []) (values s)) (sym (drop_all i b in_b)) ∙ ap (λ s. equal_each (values s) (values (drop i b))) (sym (drop_all i a in_a)) ∙ inv

pub string_is : (text : List Cell) → view (value.Str text) ≡ Str text
string_is text = ap view (sym (value.rolls-Str text)) ∙ fold-roll-Value _ _ (Value-F.Str text)

pub deepest : {X : Type 0} (depth : X → ℕ) (xs : List X) (i : ℕ) (x : X) → slice_get xs i ≡ Some x → depth x ≤ most depth xs
deepest depth xs i x h = subst (λ y. depth y ≤ most depth xs) (get_or_from_slice_get xs i x x h) (at_most depth xs i x (slice_get_within xs i x h))
