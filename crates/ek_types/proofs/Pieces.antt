-- The characters of a piece beside the sets that its runs give them.
use Rattle.std.proofs.Common.{◌≡◌, ℕ, zero, suc, ◌-◌, ◌≤◌, List, [], ◌∷◌, length, map, refl, ap, arith, length-append}
use Rattle.std.specs.Prelude.{replicate}
use Rattle.std.specs.List.{zip}
use Rattle.std.proofs.lemmas.List.{length-replicate}
use Rattle.text_model.specs.Characters.{Ch}
use Rattle.text_model.specs.Properties.{bare}
use Rattle.ek_types.specs.Runs.{sets_from, AreRising}
use Rattle.ek_types.specs.declared.content.Run.{Run}

-- LISTS SIDE BY SIDE
pub firsts-zip : {A B : Type 0} (xs : List A) (ys : List B) → length xs ≤ length ys → map (λ c. c.0) (zip xs ys) ≡ xs
firsts-zip [] ys h = refl
firsts-zip (x ∷ xs) [] h = absurd (omega arith)
firsts-zip (x ∷ xs) (y ∷ ys) h = ap (λ zs. x ∷ zs) (firsts-zip xs ys (omega arith))

pub length-zip : {A B : Type 0} (xs : List A) (ys : List B) → length xs ≤ length ys → length (zip xs ys) ≡ length xs
length-zip [] ys h = refl
length-zip (x ∷ xs) [] h = absurd (omega arith)
length-zip (x ∷ xs) (y ∷ ys) h = ap suc (length-zip xs ys (omega arith))

pub zip-nothing : (text : List Ch) (n : ℕ) → n ≡ length text → zip text (replicate n []) ≡ bare text
zip-nothing [] n e = refl
zip-nothing (c ∷ text) zero e = absurd (omega arith)
zip-nothing (c ∷ text) (suc n) e = ap (λ cells. (c, []) ∷ cells) (zip-nothing text n (omega arith))

-- SETS
pub rising_within : (place : ℕ) (runs : List Run) (size : ℕ) → AreRising place runs size → place ≤ size
rising_within place [] size h = h
rising_within place (r ∷ runs) size h = let rest = rising_within r.end runs size h.1 in omega (arith, rest)

pub length-sets_from : (place : ℕ) (runs : List Run) (size : ℕ) → AreRising place runs size → length (sets_from place runs size) ≡ size - place
length-sets_from place [] size h = length-replicate (size - place) []
length-sets_from place (r ∷ runs) size h =
    let rest = length-sets_from r.end runs size h.1 in
    let within = rising_within r.end runs size h.1 in
    omega (arith, length-append (replicate (r.end - place) r.set) (sets_from r.end runs size), length-replicate (r.end - place) r.set, rest, within)

pub enough_sets : (text : List Ch) (runs : List Run) → AreRising 0 runs (length text) → length text ≤ length (sets_from 0 runs (length text))
enough_sets text runs h = omega (arith, length-sets_from 0 runs (length text) h)
