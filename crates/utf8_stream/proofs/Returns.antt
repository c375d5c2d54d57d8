-- How many characters come of so many bytes, and what is held.
use Rattle.std.proofs.Common.{◌≡◌, ℕ, suc, ◌+◌, ◌≤◌, ◌⊎◌, inl, inr, Bool, true, false, ◌&&◌, ◌==◌, map, List, [], ◌∷◌, ◌++◌, length, refl, ap, sym, ◌∙◌, subst, arith, length-append}
use Rattle.std.proofs.lemmas.Bool.Decides.{nat_tests}
use Rattle.std.proofs.lemmas.List.{length-map}
use Rattle.text_model.specs.Characters.{Ch, Scalar, Raw}
use Rattle.text_model.specs.Decoding.{Front, Whole, Part, Neither, front, scalar_of, characters, tail}
use Rattle.text_model.specs.Codings.{Coding, Utf8, Utf8Dos, Latin1, is_return, begins_with_feed, with_feeds, ends_in_return, without_last, settled, decoded, undecoded, all_decoded}
use Rattle.text_model.proofs.Decodings.{characters-whole, characters-part, characters-neither}
use Rattle.text_model.proofs.Ascii.{front_whole}
use Rattle.text_model.proofs.Codings.{kept_if, left_of, with_return, settled_append, no_feed_first, no_feed_settled}
use Rattle.utf8_stream.specs.Returns.{begins_by}
use Rattle.utf8_stream.proofs.Tails.{append_none, tail_room, none_of, all_of_tail}

-- HOW MANY
feeds_length : (a : List Ch) → length (with_feeds a) ≤ length a
feeds_length [] = omega arith
feeds_length (c ∷ a) = by (is_return c && begins_with_feed a) (feeds_length a)
  where
    by : (t : Bool) → length (with_feeds a) ≤ length a → length (kept_if t c (with_feeds a)) ≤ suc (length a)
    by true h = omega (arith, h)
    by false h = omega (arith, h)

dos_room : (x : List ℕ) (e : Bool) → ends_in_return x ≡ e → length (with_feeds (settled e (characters x))) + length (left_of e (tail x)) ≤ length x
dos_room x false h = omega (arith, feeds_length (characters x), tail_room x)
dos_room x true h =
    let all : characters x ≡ without_last (characters x) ++ Scalar 13 ∷ [] = (with_return x h).0 in
    let one : length (characters x) ≡ length (without_last (characters x)) + 1 = ap length all ∙ length-append (without_last (characters x)) (Scalar 13 ∷ []) in
    omega (arith, feeds_length (without_last (characters x)), tail_room x, one)

pub decoded_room : (c : Coding) (x : List ℕ) → length (decoded c x) + length (undecoded c x) ≤ length x
decoded_room Utf8 x = tail_room x
decoded_room Utf8Dos x = dos_room x (ends_in_return x) refl
decoded_room Latin1 x = omega (arith, length-map x Scalar)

-- what is left out as a whole has no characters yet
pub decoded_closed : (c : Coding) (x : List ℕ) → undecoded c x ≡ x → decoded c x ≡ []
decoded_closed c x e = none_of (decoded c x) (omega (arith, decoded_room c x, ap length e))

-- the bytes held, and none more
pub none_more : (c : Coding) (h x : List ℕ) → length x ≡ 0 → undecoded c h ≡ h → decoded c (h ++ x) ≡ []
none_more c h [] e t = ap (decoded c) (append_none h) ∙ decoded_closed c h t
none_more c h (b ∷ x) e t = absurd (omega arith)

-- WHAT FOLLOWS A CARRIAGE RETURN
pub begins_at : (y : List ℕ) → begins_with_feed (settled (ends_in_return y) (characters y)) ≡ begins_by 10 y
begins_at [] = refl
begins_at (b ∷ y) = by (b == 10) refl
  where
    feed : (z : List ℕ) → begins_with_feed (settled (ends_in_return (10 ∷ z)) (characters (10 ∷ z))) ≡ true
    feed [] = refl
    feed (d ∷ z) = ap begins_with_feed (settled_append (d ∷ z) (Scalar 10 ∷ []))

    other : (b == 10) ≡ false → begins_with_feed (characters (b ∷ y)) ≡ false
    other k = go (front (b ∷ y)) refl
      where
        go : (f : Front) → front (b ∷ y) ≡ f → begins_with_feed (characters (b ∷ y)) ≡ false
        go Part e = ap begins_with_feed (characters-part b y e)
        go Neither e = ap begins_with_feed (characters-neither b y e)
        go (Whole s) e = which (front_whole b y s e)
          where
            which : ((s ≡ b ∷ []) × (b ≤ 0x7F)) ⊎ ((0x80 ≤ scalar_of s) × (0x80 ≤ b)) → begins_with_feed (characters (b ∷ y)) ≡ false
            which (inl w) = ap begins_with_feed (characters-whole b y s e) ∙ ap (λ s. scalar_of s == 10) w.0 ∙ k
            which (inr w) = (no_feed_first b y w.1).0

    by : (t : Bool) → (b == 10) ≡ t → begins_with_feed (settled (ends_in_return (b ∷ y)) (characters (b ∷ y))) ≡ (b == 10)
    by true k =
        let same : b ≡ 10 = grind (arith, nat_tests) in
        subst (λ n. begins_with_feed (settled (ends_in_return (n ∷ y)) (characters (n ∷ y))) ≡ (n == 10)) (sym same) (feed y)
    by false k = no_feed_settled (ends_in_return (b ∷ y)) (characters (b ∷ y)) (other k) ∙ sym k

-- WHAT IS HELD
-- a carriage return that is held is all that is held
pub held_return : (c : Coding) (h : List ℕ) → undecoded c h ≡ h → ends_in_return h ≡ true → h ≡ 13 ∷ []
held_return Utf8 h e k = let none : h ≡ [] = sym e ∙ (with_return h k).1 in let wrong : false ≡ true = ap ends_in_return (sym none) ∙ k in cc
held_return Utf8Dos h e k = sym e ∙ ap (λ b. left_of b (tail h)) k
held_return Latin1 h e k = let wrong : false ≡ true = ap ends_in_return e ∙ k in cc

pub no_return : (c : Coding) (h : List ℕ) → undecoded c h ≡ h → (length h ≡ 1 → ⊥) → ends_in_return h ≡ false
no_return c h e other = by (ends_in_return h) refl
  where
    by : (b : Bool) → ends_in_return h ≡ b → ends_in_return h ≡ false
    by false k = k
    by true k = absurd (other (ap length (held_return c h e k)))

-- of anything else that is held all characters are raw
pub raw_feeds : (x : List ℕ) → with_feeds (map Raw x) ≡ map Raw x
raw_feeds [] = refl
raw_feeds (b ∷ x) = ap (λ cs. Raw b ∷ cs) (raw_feeds x)

pub raw_held : (c : Coding) (h : List ℕ) → undecoded c h ≡ h → ends_in_return h ≡ false → all_decoded c h ≡ map Raw h
raw_held Utf8 h e k = all_of_tail h e
raw_held Utf8Dos h e k =
    let is_tail : tail h ≡ h = sym (ap (λ b. left_of b (tail h)) k) ∙ e in
    ap with_feeds (all_of_tail h is_tail) ∙ raw_feeds h
raw_held Latin1 h e k = ap (map Scalar) (sym e) ∙ ap (map Raw) e

pub held_tail : (c : Coding) (h : List ℕ) → undecoded c h ≡ h → ends_in_return h ≡ false → tail h ≡ h
held_tail Utf8 h e k = e
held_tail Utf8Dos h e k = sym (ap (λ b. left_of b (tail h)) k) ∙ e
held_tail Latin1 h e k = ap tail (sym e) ∙ e

pub lone_decoded : (c : Coding) (h : List ℕ) → h ≡ 13 ∷ [] → all_decoded c h ≡ Scalar 13 ∷ []
lone_decoded c h e = ap (all_decoded c) e ∙ by c
  where
    by : (c : Coding) → all_decoded c (13 ∷ []) ≡ Scalar 13 ∷ []
    by Utf8 = refl
    by Utf8Dos = refl
    by Latin1 = refl
