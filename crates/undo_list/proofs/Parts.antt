-- A part of the records.
use Rattle.std.proofs.Common.{◌≡◌, ℕ, zero, suc, ◌+◌, ◌≤◌, ◌<◌, true, List, [], ◌∷◌, ◌++◌, length, take, drop, map, get_or, Some, refl, ap, sym, ◌∙◌, arith}
use Rattle.std.specs.Prelude.{nat_le, slice_get}
use Rattle.std.specs.Cmp.Derive.{both_true}
use Rattle.std.proofs.lemmas.Bool.{leb-true, le-leb, and_parts}
use Rattle.std.proofs.lemmas.List.{length-take-le, length-take, length-drop, drop-append-le, take_all, map-append, length-map}
use Rattle.std.proofs.lemmas.Option.{slice_get_read}
use Rattle.std.proofs.Math.ListN.{drop_of_length-le}
use Rattle.text_model.specs.Undo.{Entry, kept_characters, fits}
use Rattle.text_model.proofs.Lists.{take_one_more, mapped_at}
use Rattle.undo_list.specs.Records.{AreFalling, entry_of, rec_of, size_of}
use Rattle.undo_list.specs.declared.records.Entry as coded
use Rattle.undo_list.proofs.Cutting.{kept-cons, kept-last}

pub part_more : (es : List Entry) (from i : ℕ) (e : Entry) → from ≤ i → i < length es → slice_get es i ≡ Some e → drop from (take (i + 1) es) ≡ drop from (take i es) ++ e ∷ []
part_more es from i e h k at = ap (drop from) (take_one_more es i e at) ∙ drop-append-le from (take i es) (e ∷ []) (let l = length-take-le i es (omega (arith, k)) in omega (arith, l, h))

pub whole : (es : List Entry) → drop 0 (take (length es) es) ≡ es
whole [] = refl
whole (e ∷ es) = ap (λ l. e ∷ l) (take_all (length es) es (omega arith))

pub none_yet : (es : List Entry) (from : ℕ) → drop from (take from es) ≡ []
none_yet es from = drop_of_length-le (take from es) (let l = length-take from es in omega (arith, l))

pub none_of_none : (from to : ℕ) → ◌≡◌ {A = List Entry} (drop from (take to [])) []
none_of_none zero zero = refl
none_of_none zero (suc to) = refl
none_of_none (suc from) zero = refl
none_of_none (suc from) (suc to) = refl

-- SERIAL NUMBERS
falling_looser : (low high : ℕ) (es : List Entry) → low ≤ high → AreFalling low es → AreFalling high es
falling_looser low high [] h f = tt
falling_looser low high (e ∷ es) h f = (let l : e.serial < low = f.0 in omega arith, f.1)

falling_take : (bound n : ℕ) (es : List Entry) → AreFalling bound es → AreFalling bound (take n es)
falling_take bound zero [] f = tt
falling_take bound zero (e ∷ es) f = tt
falling_take bound (suc n) [] f = tt
falling_take bound (suc n) (e ∷ es) f = (f.0, falling_take e.serial n es f.1)

falling_drop : (bound n : ℕ) (es : List Entry) → AreFalling bound es → AreFalling bound (drop n es)
falling_drop bound zero [] f = tt
falling_drop bound zero (e ∷ es) f = f
falling_drop bound (suc n) [] f = tt
falling_drop bound (suc n) (e ∷ es) f = let l : e.serial < bound = f.0 in falling_looser e.serial bound (drop n es) (omega arith) (falling_drop e.serial n es f.1)

pub falling_part : (bound from to : ℕ) (es : List Entry) → AreFalling bound es → AreFalling bound (drop from (take to es))
falling_part bound from to es f = falling_drop bound from (take to es) (falling_take bound to es f)

-- CHARACTERS
kept_take : (n : ℕ) (es : List Entry) → kept_characters (take n es) ≤ kept_characters es
kept_take zero [] = omega arith
kept_take zero (e ∷ es) = omega arith
kept_take (suc n) [] = omega arith
kept_take (suc n) (e ∷ es) = let r = kept_take n es in omega (arith, r, kept-cons e (take n es), kept-cons e es)

kept_drop : (n : ℕ) (es : List Entry) → kept_characters (drop n es) ≤ kept_characters es
kept_drop zero [] = omega arith
kept_drop zero (e ∷ es) = omega arith
kept_drop (suc n) [] = omega arith
kept_drop (suc n) (e ∷ es) = let r = kept_drop n es in omega (arith, r, kept-cons e es)

pub kept_part : (from to : ℕ) (es : List Entry) → kept_characters (drop from (take to es)) ≤ kept_characters es
kept_part from to es = let a = kept_drop from (take to es) in let b = kept_take to es in omega (arith, a, b)

length_part : (from to : ℕ) (es : List Entry) → length (drop from (take to es)) ≤ length es
length_part from to es = let a = length-drop from (take to es) in let b = length-take to es in omega (arith, a, b)

pub fits_part : (from to : ℕ) (es : List Entry) → fits es ≡ true → fits (drop from (take to es)) ≡ true
fits_part from to es h =
    let x = and_parts (nat_le (length es) 65536) (nat_le (kept_characters es) 1048576) h in
    let few : length es ≤ 65536 = leb-true _ _ x.0 in
    let small : kept_characters es ≤ 1048576 = leb-true _ _ x.1 in
    let shorter : length (drop from (take to es)) ≤ 65536 = (let a = length_part from to es in omega (arith, a, few)) in
    let smaller : kept_characters (drop from (take to es)) ≤ 1048576 = (let a = kept_part from to es in omega (arith, a, small)) in
    both_true (le-leb (length (drop from (take to es))) 65536 shorter) (le-leb (kept_characters (drop from (take to es))) 1048576 smaller)

-- ONE RECORD MORE
step : (xs : List coded.Entry) (from i : ℕ) (x : coded.Entry) → from ≤ i → i < length xs → x ≡ get_or xs i x
    → drop from (take (i + 1) (map entry_of xs)) ≡ drop from (take i (map entry_of xs)) ++ entry_of x ∷ []
step xs from i x h k at = part_more (map entry_of xs) from i (entry_of x) h (omega (arith, k, length-map xs entry_of)) (mapped_at entry_of xs i x (slice_get_read xs (length xs) i x refl k at))

pub kept_so_far : (xs ys : List coded.Entry) (from i kept : ℕ) (x : coded.Entry) → from ≤ i → i < length xs → x ≡ get_or xs i x → fits (map entry_of xs) ≡ true
    → map entry_of ys ≡ drop from (take i (map entry_of xs)) → kept ≡ kept_characters (map entry_of ys) → kept + size_of (rec_of x.what) ≤ 1048576
kept_so_far xs ys from i kept x h k at fit so_far kept_is =
    let more = ap kept_characters (step xs from i x h k at) ∙ kept-last (drop from (take i (map entry_of xs))) (entry_of x) in
    let within = kept_part from (i + 1) (map entry_of xs) in
    let parts = and_parts (nat_le (length (map entry_of xs)) 65536) (nat_le (kept_characters (map entry_of xs)) 1048576) fit in
    let small : kept_characters (map entry_of xs) ≤ 1048576 = leb-true _ _ parts.1 in
    let same = kept_is ∙ ap kept_characters so_far in
    omega (arith, more, within, small, same)

pub part_so_far : (xs ys zs : List coded.Entry) (from i kept : ℕ) (x y : coded.Entry) → from ≤ i → i < length xs → x ≡ get_or xs i x
    → map entry_of ys ≡ drop from (take i (map entry_of xs)) → kept ≡ kept_characters (map entry_of ys) → zs ≡ ys ++ y ∷ [] → entry_of y ≡ entry_of x
    → (map entry_of zs ≡ drop from (take (i + 1) (map entry_of xs))) × (kept + size_of (rec_of x.what) ≡ kept_characters (map entry_of zs))
part_so_far xs ys zs from i kept x y h k at so_far kept_is pushed same =
    let seen : map entry_of zs ≡ map entry_of ys ++ entry_of x ∷ [] = ap (map entry_of) pushed ∙ map-append entry_of ys (y ∷ []) ∙ ap (λ e. map entry_of ys ++ e ∷ []) same in (
      seen ∙ ap (λ es. es ++ entry_of x ∷ []) so_far ∙ sym (step xs from i x h k at),
      ap (λ n. n + size_of (rec_of x.what)) kept_is ∙ sym (kept-last (map entry_of ys) (entry_of x)) ∙ sym (ap kept_characters seen),
    )
