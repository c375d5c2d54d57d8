-- Pieces put into a text one after the other.
use Rattle.std.proofs.Common.{◌≡◌, ℕ, ◌+◌, ◌≤◌, List, [], ◌∷◌, ◌++◌, length, take, drop, refl, sym, ap, ◌∙◌, arith, length-append, append_assoc}
use Rattle.std.specs.Prelude.{slice_get, Some}
use Rattle.std.proofs.lemmas.List.{length-take-le, map-append}
use Rattle.text_model.specs.Properties.{Cell}
use Rattle.prop_intervals.specs.Sets.{together}
use Rattle.prop_intervals.proofs.Together.{together_more}
use Rattle.buffer_core.specs.Meaning.{letters}

at_seam : {A : Type 0} (front more back : List A) → take (length front) (front ++ back) ++ (more ++ drop (length front) (front ++ back)) ≡ front ++ (more ++ back)
at_seam [] more back = refl
at_seam (x ∷ front) more back = ap (λ l. x ∷ l) (at_seam front more back)

-- more behind what was put in already
pub put_behind : {A : Type 0} (at place : ℕ) (old front more now : List A) → at ≤ length old → now ≡ take at old ++ (front ++ drop at old) → place ≡ at + length front
    → take place now ++ (more ++ drop place now) ≡ take at old ++ ((front ++ more) ++ drop at old)
put_behind at place old front more now within is_now is_place =
    let all = take at old ++ front in
    let size : place ≡ length all = omega (arith, is_place, length-append (take at old) front, length-take-le at old within) in
    let whole : now ≡ all ++ drop at old = is_now ∙ sym (append_assoc (take at old) front (drop at old)) in
    ap (λ n. take place n ++ (more ++ drop place n)) whole ∙ ap (λ k. take k (all ++ drop at old) ++ (more ++ drop k (all ++ drop at old))) size
    ∙ at_seam all more (drop at old) ∙ append_assoc (take at old) front (more ++ drop at old) ∙ ap (λ l. take at old ++ l) (sym (append_assoc front more (drop at old)))

pub letters_more : (pieces : List (List Cell)) (i : ℕ) (piece : List Cell) → slice_get pieces i ≡ Some piece → letters (together (take (i + 1) pieces)) ≡ letters (together (take i pieces)) ++ letters piece
letters_more pieces i piece h = ap letters (together_more pieces i piece h) ∙ map-append (λ (c : Cell). c.0) (together (take i pieces)) piece
