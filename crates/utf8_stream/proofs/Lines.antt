-- Decoding with the line ends of DOS, from one carriage return to the next.
use Rattle.std.proofs.Common.{◌≡◌, ℕ, zero, suc, ◌+◌, ◌<◌, ◌≤◌, ◌⊎◌, inl, inr, Bool, true, false, ◌&&◌, ◌||◌, ◌==◌, map, List, [], ◌∷◌, ◌++◌, length, take, drop, slice_index, refl, ap, sym, ◌∙◌, append_assoc, length-append, append-nil, take_all, take-append-drop, subst, arith}
use Rattle.std.specs.Prelude.{Option, Some, None, unwrap_or}
use Rattle.std.proofs.lemmas.Bool.Decides.{nat_tests}
use Rattle.std.proofs.lemmas.List.{length-map, drop_all}
use Rattle.memchr.specs.Find.{IsFirstByte, is_byte}
use Rattle.text_model.specs.Characters.{Ch, Scalar, Raw}
use Rattle.text_model.specs.Decoding.{Front, Whole, Part, Neither, front, scalar_of, following, characters_after, characters, tail, all_characters}
use Rattle.text_model.specs.Codings.{Utf8Dos, is_return, begins_with_feed, with_feeds, ends_in_return, settled, decoded, undecoded}
use Rattle.text_model.proofs.Decodings.{characters-whole, characters-part, characters-neither}
use Rattle.text_model.proofs.Ascii.{front_whole, return_behind}
use Rattle.text_model.proofs.Codings.{kept_if, left_of, settled_append, ends_more, decoded_law, undecoded_law}
use Rattle.utf8_stream.specs.Returns.{has_return, begins_by, StartsAtReturn, IsSplit, return_before}
use Rattle.utf8_stream.proofs.Tails.{append_none, tail_room, none_of}
use Rattle.utf8_stream.proofs.Returns.{begins_at, raw_feeds}

-- WITHOUT A CARRIAGE RETURN
other_first : (t u : Bool) → (t || u) ≡ false → (t ≡ false) × (u ≡ false)
other_first true u h = cc
other_first false u h = (refl, h)

-- nothing of a text without carriage returns is a line end
plain_after : (skip : ℕ) (x raw : List ℕ) → has_return x ≡ false → with_feeds (characters_after skip x ++ map Raw raw) ≡ characters_after skip x ++ map Raw raw
plain_after skip [] raw h = raw_feeds raw
plain_after (suc skip) (b ∷ x) raw h = plain_after skip x raw (other_first (b == 13) (has_return x) h).1
plain_after zero (b ∷ x) raw h = by (front (b ∷ x)) refl (λ skip. plain_after skip x raw (other_first (b == 13) (has_return x) h).1)
  where
    more : (c : Ch) (text : List Ch) → is_return c ≡ false → with_feeds text ≡ text → with_feeds (c ∷ text) ≡ c ∷ text
    more c text k e = ap (λ t. kept_if (t && begins_with_feed text) c (with_feeds text)) k ∙ ap (λ cs. c ∷ cs) e

    by : (f : Front) → front (b ∷ x) ≡ f → ((skip : ℕ) → with_feeds (characters_after skip x ++ map Raw raw) ≡ characters_after skip x ++ map Raw raw) →
        with_feeds (characters_after 0 (b ∷ x) ++ map Raw raw) ≡ characters_after 0 (b ∷ x) ++ map Raw raw
    by Part k rest = rw (characters-part b x k) (raw_feeds raw)
    by Neither k rest = rw (characters-neither b x k) (more (Raw b) (characters_after 0 x ++ map Raw raw) refl (rest 0))
    by (Whole s) k rest = rw (characters-whole b x s k) (more (Scalar (scalar_of s)) (characters_after (following s) x ++ map Raw raw) (other (front_whole b x s k)) (rest (following s)))
      where
        other : ((s ≡ b ∷ []) × (b ≤ 0x7F)) ⊎ ((0x80 ≤ scalar_of s) × (0x80 ≤ b)) → (scalar_of s == 13) ≡ false
        other (inl w) = ap (λ s. scalar_of s == 13) w.0 ∙ (other_first (b == 13) (has_return x) h).0
        other (inr w) = grind (arith, nat_tests)

no_return_last : (x : List ℕ) → has_return x ≡ false → ends_in_return x ≡ false
no_return_last [] h = refl
no_return_last (b ∷ []) h = (other_first (b == 13) false h).0
no_return_last (b ∷ c ∷ x) h = no_return_last (c ∷ x) (other_first (b == 13) (has_return (c ∷ x)) h).1

pub plain_decoded : (x : List ℕ) → has_return x ≡ false → decoded Utf8Dos x ≡ characters x
plain_decoded x h =
    ap (λ e. with_feeds (settled e (characters x))) (no_return_last x h)
    ∙ ap with_feeds (sym (append_none (characters x))) ∙ plain_after 0 x [] h ∙ append_none (characters x)

pub plain_undecoded : (x : List ℕ) → has_return x ≡ false → undecoded Utf8Dos x ≡ tail x
plain_undecoded x h = ap (λ e. left_of e (tail x)) (no_return_last x h)

-- UP TO A CARRIAGE RETURN
ended_by_return : (x : List ℕ) → has_return x ≡ false → decoded Utf8Dos (x ++ 13 ∷ []) ≡ all_characters x
ended_by_return x h =
    with_feeds_of ∙ plain_after 0 x (tail x) h
  where
    with_feeds_of : decoded Utf8Dos (x ++ 13 ∷ []) ≡ with_feeds (all_characters x)
    with_feeds_of = ap with_feeds ((λ i. settled (ends_more x 13 [] i) (return_behind x i)) ∙ settled_append (13 ∷ []) (all_characters x) ∙ append_none (all_characters x))

return_held : (x : List ℕ) → undecoded Utf8Dos (x ++ 13 ∷ []) ≡ 13 ∷ []
return_held x = ap (λ e. left_of e (tail (x ++ 13 ∷ []))) (ends_more x 13 [])

joined : (x y : List ℕ) → x ++ 13 ∷ y ≡ (x ++ 13 ∷ []) ++ y
joined x y = sym (append_assoc x (13 ∷ []) y)

line_decoded : (x y : List ℕ) → has_return x ≡ false → decoded Utf8Dos (x ++ 13 ∷ y) ≡ all_characters x ++ decoded Utf8Dos (13 ∷ y)
line_decoded x y h = ap (decoded Utf8Dos) (joined x y) ∙ decoded_law Utf8Dos (x ++ 13 ∷ []) y ∙ (λ i. ended_by_return x h i ++ decoded Utf8Dos (return_held x i ++ y))

line_undecoded : (x y : List ℕ) → undecoded Utf8Dos (x ++ 13 ∷ y) ≡ undecoded Utf8Dos (13 ∷ y)
line_undecoded x y = ap (undecoded Utf8Dos) (joined x y) ∙ undecoded_law Utf8Dos (x ++ 13 ∷ []) y ∙ ap (λ z. undecoded Utf8Dos (z ++ y)) (return_held x)

abbrev put_if : Bool → List Ch
put_if t = elim t [ true ↦ [] | false ↦ Scalar 13 ∷ [] ]

kept_put : (t : Bool) (text : List Ch) → kept_if t (Scalar 13) text ≡ put_if t ++ text
kept_put true text = refl
kept_put false text = refl

return_decoded : (y : List ℕ) → 0 < length y → decoded Utf8Dos (13 ∷ y) ≡ return_before y ++ decoded Utf8Dos y
return_decoded [] h = absurd (omega arith)
return_decoded (d ∷ y) h =
    let z : List ℕ = d ∷ y in
    let rest : List Ch = settled (ends_in_return z) (characters z) in
    ap with_feeds (settled_append z (Scalar 13 ∷ [])) ∙ kept_put (begins_with_feed rest) (with_feeds rest) ∙ ap (λ t. put_if t ++ with_feeds rest) (begins_at z)

return_undecoded : (y : List ℕ) → 0 < length y → undecoded Utf8Dos (13 ∷ y) ≡ undecoded Utf8Dos y
return_undecoded [] h = absurd (omega arith)
return_undecoded (d ∷ y) h = refl

pub return_length : (y : List ℕ) → length (return_before y) ≤ 1
return_length y = by (begins_by 10 y)
  where
    by : (t : Bool) → length (put_if t) ≤ 1
    by true = omega arith
    by false = omega arith

pub all_room : (x : List ℕ) → length (all_characters x) ≤ length x
all_room x = omega (arith, length-append (characters x) (map Raw (tail x)), length-map (tail x) Raw, tail_room x)

-- a line is put, and then what is left of it
pub whole_line : (before between after : List Ch) (line part : List ℕ) → between ≡ before ++ characters line → part ≡ tail line → after ≡ between ++ map Raw part → after ≡ before ++ all_characters line
whole_line before between after line part a b d = d ∙ (λ i. a i ++ map Raw (b i)) ∙ append_assoc before (characters line) (map Raw (tail line))

pub line_length : (line part : List ℕ) → part ≡ tail line → length (all_characters line) ≡ length (characters line) + length part
line_length line part e = omega (arith, length-append (characters line) (map Raw (tail line)), length-map (tail line) Raw, ap length e)

-- BYTES IN TWO PARTS AT A CARRIAGE RETURN
same_return : (end : List ℕ) → StartsAtReturn end → 0 < length end → end ≡ 13 ∷ drop 1 end
same_return [] h some = absurd (omega arith)
same_return (b ∷ end) h some = ap (λ n. n ∷ end) h

-- no carriage return is there
pub plain_split : (bytes line end : List ℕ) → IsSplit bytes line end → length end ≡ 0 →
    (decoded Utf8Dos bytes ≡ characters line) × (undecoded Utf8Dos bytes ≡ tail line)
plain_split bytes line end parts none =
    let here : bytes ≡ line = sym parts.whole ∙ ap (λ z. line ++ z) (none_of end none) ∙ append-nil line in
    (ap (decoded Utf8Dos) here ∙ plain_decoded line parts.before, ap (undecoded Utf8Dos) here ∙ plain_undecoded line parts.before)

module _ (bytes line end : List ℕ) (parts : IsSplit bytes line end) where
  pub split_length : length bytes ≡ length line + length end
  split_length = ap length (sym parts.whole) ∙ length-append line end

  behind : 0 < length end → bytes ≡ line ++ 13 ∷ drop 1 end
  behind some = sym parts.whole ∙ ap (λ z. line ++ z) (same_return end parts.here some)

  -- the carriage return is the last byte
  pub last_decoded : length end ≡ 1 → (decoded Utf8Dos bytes ≡ all_characters line) × (undecoded Utf8Dos bytes ≡ end)
  last_decoded one =
      let first_of = same_return end parts.here (omega arith) in
      let nothing : drop 1 end ≡ [] = none_of (drop 1 end) (omega (arith, ap length first_of)) in
      let here : bytes ≡ line ++ 13 ∷ [] = behind (omega arith) ∙ ap (λ y. line ++ 13 ∷ y) nothing in
      (ap (decoded Utf8Dos) here ∙ ended_by_return line parts.before, ap (undecoded Utf8Dos) here ∙ return_held line ∙ ap (λ y. 13 ∷ y) (sym nothing) ∙ sym first_of)

  -- others follow it
  pub split_decoded : (y : List ℕ) → y ≡ drop 1 end → 0 < length y →
      (decoded Utf8Dos bytes ≡ all_characters line ++ (return_before y ++ decoded Utf8Dos y)) × (undecoded Utf8Dos bytes ≡ undecoded Utf8Dos y)
  split_decoded y e some =
      let there : 0 < length end = by_length end (omega (arith, sym (ap length e))) in
      let here : bytes ≡ line ++ 13 ∷ y = behind there ∙ ap (λ y. line ++ 13 ∷ y) (sym e) in (
        ap (decoded Utf8Dos) here ∙ line_decoded line y parts.before ∙ ap (λ cs. all_characters line ++ cs) (return_decoded y some),
        ap (undecoded Utf8Dos) here ∙ line_undecoded line y ∙ return_undecoded y some,
      )
    where
      by_length : (z : List ℕ) → 0 < length (drop 1 z) → 0 < length z
      by_length [] h = absurd (omega arith)
      by_length (b ∷ z) h = omega arith

-- THE SEARCH
no_return_before : (n : ℕ) (x : List ℕ) → n ≤ length x → ((k : ℕ) → k < n → (slice_index x k == 13) ≡ true → ⊥) → has_return (take n x) ≡ false
no_return_before zero x h never = refl
no_return_before (suc n) [] h never = absurd (omega arith)
no_return_before (suc n) (b ∷ x) h never = by (b == 13) refl (no_return_before n x (omega arith) (λ k less. never (suc k) (omega arith)))
  where
    by : (t : Bool) → (b == 13) ≡ t → has_return (take n x) ≡ false → (t || has_return (take n x)) ≡ false
    by true e rest = absurd (never 0 (omega arith) e)
    by false e rest = rest

begins_there : (n : ℕ) (x : List ℕ) → n < length x → (slice_index x n == 13) ≡ true → StartsAtReturn (drop n x)
begins_there n [] h e = absurd (omega arith)
begins_there zero (b ∷ x) h e = grind (arith, nat_tests)
begins_there (suc n) (b ∷ x) h e = begins_there n x (omega arith) e

none_found : (x : List ℕ) → IsFirstByte (is_byte 13) x None → has_return x ≡ false
none_found x h = ap has_return (sym (take_all (length x) x (omega arith))) ∙ no_return_before (length x) x (omega arith) (λ k less. h k (omega arith) less)

pub found_at : (x : List ℕ) (found : Option ℕ) (line end : List ℕ) → IsFirstByte (is_byte 13) x found → line ≡ take (unwrap_or found (length x)) x → end ≡ drop (unwrap_or found (length x)) x → IsSplit x line end
found_at x (Some n) line end h l e = record {
  whole = (λ i. l i ++ e i) ∙ take-append-drop n x;
  before = ap has_return l ∙ no_return_before n x (omega (arith, h.0.high)) (λ k less. h.0.before k (omega arith) less);
  here = subst StartsAtReturn (sym e) (begins_there n x h.0.high h.1);
}
found_at x None line end h l e = record {
  whole = (λ i. l i ++ e i) ∙ take-append-drop (length x) x;
  before = ap has_return (l ∙ take_all (length x) x (omega arith)) ∙ none_found x h;
  here = subst StartsAtReturn (sym (e ∙ drop_all (length x) x (omega arith))) tt;
}
