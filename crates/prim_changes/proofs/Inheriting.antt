-- Properties put beneath those of each character, one run after the other.
use Rattle.std.proofs.Common.{◌≡◌, ℕ, zero, suc, ◌<◌, ◌≤◌, List, [], ◌∷◌, ◌++◌, length, map, take, drop, refl, sym, ap, ◌∙◌, arith, append-nil}
use Rattle.std.specs.Prelude.{slice_get, option_map, Some}
use Rattle.std.proofs.lemmas.Option.{same_Some}
use Rattle.std.proofs.lemmas.List.{take_all, drop_all, length-append, length-map, length-take, length-drop}
use Rattle.text_model.specs.Properties.{Cell, PropSet, part, splice, put_all}
use Rattle.editor_model.specs.TextCalls.{with_inherited}

abbrev given : PropSet → Cell → Cell
given all c = (c.0, all)

abbrev over : PropSet → Cell → Cell
over set c = (c.0, put_all set c.1)

put_run : (set all : PropSet) (orig : List Cell) (i end : ℕ) → i ≤ end → end ≤ length orig
    → map (given all) (part i end (map (over set) (take i orig) ++ drop i orig)) ≡ map (over set) (part i end (map (over set) (take i orig) ++ drop i orig))
    → splice i end (map (given all) (part i end (map (over set) (take i orig) ++ drop i orig))) (map (over set) (take i orig) ++ drop i orig) ≡ map (over set) (take end orig) ++ drop end orig
put_run set all orig zero end l m h = ap (λ q. q ++ drop end orig) h
put_run set all [] (suc i) end l m h = absurd (omega arith)
put_run set all (x ∷ orig) (suc i) zero l m h = absurd (omega arith)
put_run set all (x ∷ orig) (suc i) (suc end) l m h = ap (λ q. over set x ∷ q) (put_run set all orig i end (omega arith) (omega arith) h)

one_set : (set all s : PropSet) (cells : List Cell) (i end : ℕ) → all ≡ put_all set s → ((j : ℕ) → i ≤ j → j < end → option_map (λ c. c.1) (slice_get cells j) ≡ Some s) → end ≤ length cells → map (given all) (part i end cells) ≡ map (over set) (part i end cells)
one_set set all s [] zero zero e h l = refl
one_set set all s [] zero (suc end) e h l = absurd (omega arith)
one_set set all s (x ∷ cells) zero zero e h l = refl
one_set set all s (x ∷ cells) zero (suc end) e h l =
    let own : x.1 ≡ s = same_Some x.1 s (h 0 (omega arith) (omega arith)) in
    ap (λ t. (x.0, t) ∷ map (given all) (take end cells)) (e ∙ ap (put_all set) (sym own))
    ∙ ap (λ q. over set x ∷ q) (one_set set all s cells zero end e (λ j a b. h (suc j) (omega arith) (omega arith)) (omega arith))
one_set set all s [] (suc i) zero e h l = refl
one_set set all s [] (suc i) (suc end) e h l = refl
one_set set all s (x ∷ cells) (suc i) zero e h l = refl
one_set set all s (x ∷ cells) (suc i) (suc end) e h l = one_set set all s cells i end e (λ j a b. h (suc j) (omega arith) (omega arith)) (omega arith)

pub run_more : (set all s : PropSet) (orig old new : List Cell) (i end : ℕ) → old ≡ map (over set) (take i orig) ++ drop i orig → length old ≡ length orig → i ≤ end → end ≤ length old → all ≡ put_all set s
    → ((j : ℕ) → i ≤ j → j < end → option_map (λ c. c.1) (slice_get old j) ≡ Some s) → new ≡ splice i end (map (given all) (part i end old)) old → new ≡ map (over set) (take end orig) ++ drop end orig
run_more set all s orig old new i end inv size l m e h put =
    put ∙ ap (λ p. splice i end (map (given all) (part i end p)) p) inv
    ∙ put_run set all orig i end l (omega arith) (ap (λ p. map (given all) (part i end p)) (sym inv) ∙ one_set set all s old i end e h m ∙ ap (λ p. map (over set) (part i end p)) inv)

pub runs_all : (set : PropSet) (orig piece : List Cell) (i : ℕ) → piece ≡ map (over set) (take i orig) ++ drop i orig → length piece ≡ length orig → length piece ≤ i → piece ≡ with_inherited set orig
runs_all set orig piece i inv size l =
    inv ∙ ap (λ p. map (over set) p ++ drop i orig) (take_all i orig (omega arith)) ∙ ap (λ q. map (over set) orig ++ q) (drop_all i orig (omega arith)) ∙ append-nil (map (over set) orig)

pub run_size : (set : PropSet) (orig new : List Cell) (end : ℕ) → end ≤ length orig → new ≡ map (over set) (take end orig) ++ drop end orig → length new ≡ length orig
run_size set orig new end l h =
    ap length h ∙ length-append (map (over set) (take end orig)) (drop end orig) ∙ (omega (arith, length-map (take end orig) (over set), length-take end orig, length-drop end orig))

-- characters that have a set already, given it
pub run_kept : (all s : PropSet) (cells : List Cell) (i end : ℕ) → s ≡ all → ((j : ℕ) → i ≤ j → j < end → option_map (λ c. c.1) (slice_get cells j) ≡ Some s) → i < end → end ≤ length cells
    → cells ≡ splice i end (map (given all) (part i end cells)) cells
run_kept all s [] i end e h l m = absurd (omega (arith, l, m))
run_kept all s (x ∷ cells) zero zero e h l m = absurd (omega (arith, l))
run_kept all s (x ∷ cells) zero (suc end) e h l m = own_set (x ∷ cells) (suc end) (λ j b. h j (omega arith) b) (omega (arith, m))
  where
    own_set : (xs : List Cell) (n : ℕ) → ((j : ℕ) → j < n → option_map (λ c. c.1) (slice_get xs j) ≡ Some s) → n ≤ length xs → xs ≡ map (given all) (take n xs) ++ drop n xs
    own_set xs zero k b = refl
    own_set [] (suc n) k b = absurd (omega (arith, b))
    own_set (y ∷ xs) (suc n) k b =
        ap (λ t. (y.0, t) ∷ xs) (same_Some y.1 s (k 0 (omega arith)) ∙ e) ∙ ap (λ q. given all y ∷ q) (own_set xs n (λ j c. k (suc j) (omega (arith, c))) (omega (arith, b)))
run_kept all s (x ∷ cells) (suc i) zero e h l m = absurd (omega (arith, l))
run_kept all s (x ∷ cells) (suc i) (suc end) e h l m = ap (λ q. x ∷ q) (run_kept all s cells i end e (λ j a b. h (suc j) (omega (arith, a)) (omega (arith, b))) (omega (arith, l)) (omega (arith, m)))
