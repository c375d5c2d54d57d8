-- A text goes through one character after the other.
use Rattle.std.proofs.Common.{◌≡◌, ℕ, zero, suc, ◌+◌, ◌<◌, ◌≤◌, get_or, Bool, true, false, ◌&&◌, List, [], ◌∷◌, ◌++◌, length, map, drop, refl, sym, ap, ◌∙◌, append_assoc, append-nil, arith}
use Rattle.std.specs.Prelude.{slice_get, Option, Some, None, option_map}
use Rattle.std.specs.List.{list_all}
use Rattle.std.proofs.lemmas.List.{drop_all, length-append}
use Rattle.text_model.specs.Characters.{Ch}
use Rattle.text_model.specs.Characters as Characters
use Rattle.text_model.specs.Properties.{Cell}
use Rattle.text_model.proofs.Lists.{drop_at}
use Rattle.plain_machine.specs.Arguments.{encoded, is_plain}

cell_of : (o : Option Cell) (c : Ch) → option_map (λ x. x.0) o ≡ Some c → (x : Cell) × (o ≡ Some x) × (x.0 ≡ c)
cell_of None c h = absurd (let n : None ≡ Some c = h in cc)
cell_of (Some x) c h = (x, refl, (let n : Some x.0 ≡ Some c = h in cc))

module _ (text : List Cell) (i : ℕ) where
  module _ (c : Ch) (at : option_map (λ x. x.0) (slice_get text i) ≡ Some c) where
    rest_encoded : encoded (drop i text) ≡ Characters.encoded c ++ encoded (drop (i + 1) text)
    rest_encoded =
        let x = cell_of (slice_get text i) c at in
        ap encoded (drop_at text i x.0 x.1) ∙ ap (λ d. Characters.encoded d ++ encoded (drop (i + 1) text)) x.2

    rest_plain : list_all is_plain (drop i text) ≡ (is_plain (c, []) && list_all is_plain (drop (i + 1) text))
    rest_plain =
        let x = cell_of (slice_get text i) c at in
        ap (λ s. list_all is_plain s) (drop_at text i x.0 x.1) ∙ ap (λ (d : Ch). is_plain (d, []) && list_all is_plain (drop (i + 1) text)) x.2

    pub plain_met : (whole : Bool) → true ≡ is_plain (c, []) → list_all is_plain (drop i text) ≡ whole → list_all is_plain (drop (i + 1) text) ≡ whole
    plain_met whole h inv = ap (λ b. b && list_all is_plain (drop (i + 1) text)) h ∙ sym rest_plain ∙ inv

    pub other_met : (whole : Bool) → false ≡ is_plain (c, []) → list_all is_plain (drop i text) ≡ whole → false ≡ whole
    other_met whole h inv = ap (λ b. b && list_all is_plain (drop (i + 1) text)) h ∙ sym rest_plain ∙ inv

    pub is_met : list_all is_plain (drop i text) ≡ true → is_plain (c, []) ≡ true
    is_met inv = first (is_plain (c, [])) (list_all is_plain (drop (i + 1) text)) (sym rest_plain ∙ inv)
      where
        first : (a b : Bool) → (a && b) ≡ true → a ≡ true
        first true b h = refl
        first false b h = absurd (let x : false ≡ true = h in cc)

    pub encoded_more : (old new whole : List ℕ) → new ≡ old ++ Characters.encoded c → old ++ encoded (drop i text) ≡ whole → new ++ encoded (drop (i + 1) text) ≡ whole
    encoded_more old new whole h inv =
        ap (λ b. b ++ encoded (drop (i + 1) text)) h ∙ append_assoc old (Characters.encoded c) (encoded (drop (i + 1) text)) ∙ ap (λ s. old ++ s) (sym rest_encoded) ∙ inv

    pub counted_more : (old n whole : ℕ) → n ≡ length (Characters.encoded c) → old + length (encoded (drop i text)) ≡ whole → old + n + length (encoded (drop (i + 1) text)) ≡ whole
    counted_more old n whole h inv =
        let split : length (encoded (drop i text)) ≡ length (Characters.encoded c ++ encoded (drop (i + 1) text)) = ap length rest_encoded in
        omega (arith, length-append (Characters.encoded c) (encoded (drop (i + 1) text)))

  module _ (behind : length text ≤ i) where
    pub all_plain : (whole : Bool) → list_all is_plain (drop i text) ≡ whole → true ≡ whole
    all_plain whole inv = ap (λ s. list_all is_plain s) (sym (drop_all i text behind)) ∙ inv

    pub encoded_all : (bytes whole : List ℕ) → bytes ++ encoded (drop i text) ≡ whole → bytes ≡ whole
    encoded_all bytes whole inv = sym (append-nil bytes) ∙ ap (λ s. bytes ++ encoded s) (sym (drop_all i text behind)) ∙ inv

    pub counted_all : (count whole : ℕ) → count + length (encoded (drop i text)) ≡ whole → count ≡ whole
    counted_all count whole inv =
        let none : length (encoded (drop i text)) ≡ 0 = ap (λ s. length (encoded s)) (drop_all i text behind) in
        omega arith

pub each_holds : {A B : Type 0} (test : B → Bool) (f : A → B) (xs : List A) (i : ℕ) (d : A) → list_all test (map f xs) ≡ true → i < length xs → test (f (get_or xs i d)) ≡ true
each_holds test f [] i d h l = absurd (omega arith)
each_holds test f (x ∷ xs) zero d h l = left (test (f x)) (list_all test (map f xs)) h
  where
    left : (a b : Bool) → (a && b) ≡ true → a ≡ true
    left true b h = refl
    left false b h = absurd (let n : false ≡ true = h in cc)
each_holds test f (x ∷ xs) (suc i) d h l = each_holds test f xs i d (right (test (f x)) (list_all test (map f xs)) h) (omega arith)
  where
    right : (a b : Bool) → (a && b) ≡ true → b ≡ true
    right true b h = h
    right false b h = absurd (let n : false ≡ true = h in cc)
