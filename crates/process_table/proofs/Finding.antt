-- Finding a listed process by its name, and names that differ.
use Rattle.std.proofs.Common.{◌≡◌, ◌≢◌, ℕ, zero, suc, ◌+◌, ◌<◌, ◌≤◌, Bool, true, false, List, [], ◌∷◌, ◌++◌, length, map, refl, ap, sym, ◌∙◌, arith}
use Rattle.std.specs.Prelude.{◌==◌, ◌&&◌, slice_get, slice_set, Option, Some, None, option_map}
use Rattle.std.proofs.lemmas.Bool.{eqb-true}
use Rattle.std.proofs.lemmas.Option.{slice_get-map, slice_get_within}
use Rattle.text_model.proofs.Lists.{set_same, set_other, get_front}
use Rattle.editor_model.specs.Editor.{Name, same_name}
use Rattle.editor_model.proofs.NumberedNames.{same_name-same}
use Rattle.plain_machine.specs.State.{Process}
use Rattle.plain_machine.specs.Arguments.{find_process}
use Rattle.process_table.specs.Table.{NamesDiffer}

-- WHAT FINDING LOOKS AT
abbrev pub chosen : (b : Bool) (k : ℕ) → Option ℕ → Option ℕ
chosen b k rest = elim b [ true ↦ Some k | false ↦ rest ]

-- the name of a process and whether it is listed
abbrev pub key : Process → Bool × Name
key x = (x.listed, x.name)

pub find_keys : (k : ℕ) (xs ys : List Process) (n : Name) → map key xs ≡ map key ys → find_process k xs n ≡ find_process k ys n
find_keys k [] [] n e = refl
find_keys k [] (y ∷ ys) n e = cc
find_keys k (x ∷ xs) [] n e = cc
find_keys k (x ∷ xs) (y ∷ ys) n e =
    let first : key x ≡ key y = cc in
    let rest : map key xs ≡ map key ys = cc in
    let test : (x.listed && same_name x.name n) ≡ (y.listed && same_name y.name n) = ap (λ (p : Bool × Name). p.0 && same_name p.1 n) first in
    ap (λ b. chosen b k (find_process (k + 1) xs n)) test ∙ ap (chosen (y.listed && same_name y.name n) k) (find_keys (k + 1) xs ys n rest)

-- IN FRONT AND BEHIND
pub find_front : (k r : ℕ) (xs ys : List Process) (n : Name) → find_process k xs n ≡ Some r → find_process k (xs ++ ys) n ≡ Some r
find_front k r [] ys n e = cc
find_front k r (x ∷ xs) ys n e = go (x.listed && same_name x.name n) (find_front (k + 1) r xs ys n) e
  where
    go : (b : Bool) → (find_process (k + 1) xs n ≡ Some r → find_process (k + 1) (xs ++ ys) n ≡ Some r) → chosen b k (find_process (k + 1) xs n) ≡ Some r → chosen b k (find_process (k + 1) (xs ++ ys) n) ≡ Some r
    go true rest h = h
    go false rest h = rest h

pub find_behind : (k : ℕ) (xs ys : List Process) (n : Name) → find_process k xs n ≡ None → find_process k (xs ++ ys) n ≡ find_process (k + length xs) ys n
find_behind k [] ys n e = ap (λ j. find_process j ys n) (omega arith)
find_behind k (x ∷ xs) ys n e = go (x.listed && same_name x.name n) (find_behind (k + 1) xs ys n) e
  where
    go : (b : Bool) → (find_process (k + 1) xs n ≡ None → find_process (k + 1) (xs ++ ys) n ≡ find_process (k + 1 + length xs) ys n) → chosen b k (find_process (k + 1) xs n) ≡ None → chosen b k (find_process (k + 1) (xs ++ ys) n) ≡ find_process (k + length (x ∷ xs)) ys n
    go true rest h = cc
    go false rest h = rest h ∙ ap (λ j. find_process j ys n) (omega arith)

-- a process that was taken off the list is passed over
pub find_past : (k p r : ℕ) (xs : List Process) (new : Process) (n : Name) → new.listed ≡ false → r ≢ k + p → find_process k xs n ≡ Some r → find_process k (slice_set xs p new) n ≡ Some r
find_past k p r [] new n off other e = e
find_past k zero r (x ∷ xs) new n off other e = ap (λ b. chosen (b && same_name new.name n) k (find_process (k + 1) xs n)) off ∙ go (x.listed && same_name x.name n) e
  where
    go : (b : Bool) → chosen b k (find_process (k + 1) xs n) ≡ Some r → find_process (k + 1) xs n ≡ Some r
    go true h = let same : k ≡ r = cc in absurd (other (omega arith))
    go false h = h
find_past k (suc p) r (x ∷ xs) new n off other e = go (x.listed && same_name x.name n) (find_past (k + 1) p r xs new n off (λ same. other (omega arith))) e
  where
    go : (b : Bool) → (find_process (k + 1) xs n ≡ Some r → find_process (k + 1) (slice_set xs p new) n ≡ Some r) → chosen b k (find_process (k + 1) xs n) ≡ Some r → chosen b k (find_process (k + 1) (slice_set xs p new) n) ≡ Some r
    go true rest h = h
    go false rest h = rest h

-- what is found lies in the list
pub find_within : (k r : ℕ) (xs : List Process) (n : Name) → find_process k xs n ≡ Some r → r < k + length xs
find_within k r [] n e = cc
find_within k r (x ∷ xs) n e = go (x.listed && same_name x.name n) (find_within (k + 1) r xs n) e
  where
    go : (b : Bool) → (find_process (k + 1) xs n ≡ Some r → r < k + 1 + length xs) → chosen b k (find_process (k + 1) xs n) ≡ Some r → r < k + length (x ∷ xs)
    go true rest h = let same : k ≡ r = cc in omega arith
    go false rest h = omega (arith, rest h)

-- NAMES THAT DIFFER

pub get_last : {A : Type 0} (xs : List A) (k : ℕ) (x y : A) → length xs ≤ k → slice_get (xs ++ x ∷ []) k ≡ Some y → (k ≡ length xs) × (x ≡ y)
get_last [] zero x y h e = (refl, cc)
get_last [] (suc k) x y h e = cc
get_last (z ∷ xs) zero x y h e = absurd (omega arith)
get_last (z ∷ xs) (suc k) x y h e = let rest : (k ≡ length xs) × (x ≡ y) = get_last xs k x y (omega arith) e in (omega (arith, rest.0), rest.1)

pub differ_keys : (xs ys : List Process) → map key xs ≡ map key ys → NamesDiffer xs → NamesDiffer ys
differ_keys xs ys e differ p y at on = go (slice_get xs p) refl
  where
    keys : slice_get (map key xs) p ≡ Some (key y)
    keys = ap (λ l. slice_get l p) e ∙ slice_get-map key ys p ∙ ap (option_map key) at

    go : (o : Option Process) → slice_get xs p ≡ o → find_process 0 ys y.name ≡ Some p
    go None found = let none : slice_get (map key xs) p ≡ None = slice_get-map key xs p ∙ ap (option_map key) found in let clash : Some (key y) ≡ None = sym keys ∙ none in cc
    go (Some x) found =
        let some : slice_get (map key xs) p ≡ Some (key x) = slice_get-map key xs p ∙ ap (option_map key) found in
        let both : Some (key x) ≡ Some (key y) = sym some ∙ keys in
        let same : key x ≡ key y = cc in
        let named : x.name ≡ y.name = ap (λ (q : Bool × Name). q.1) same in
        let listed : x.listed ≡ true = ap (λ (q : Bool × Name). q.0) same ∙ on in
        sym (find_keys 0 xs ys y.name e) ∙ ap (find_process 0 xs) (sym named) ∙ differ p x found listed

pub differ_unlisted : (xs : List Process) (p : ℕ) (x new : Process) → slice_get xs p ≡ Some x → new.listed ≡ false → NamesDiffer xs → NamesDiffer (slice_set xs p new)
differ_unlisted xs p x new there off differ q y at on = go (q == p) refl
  where
    go : (b : Bool) → (q == p) ≡ b → find_process 0 (slice_set xs p new) y.name ≡ Some q
    go true e =
        let same : q ≡ p = eqb-true q p e in
        let put : slice_get (slice_set xs p new) q ≡ Some new = ap (slice_get (slice_set xs p new)) same ∙ set_same xs p new x there in
        let twice : Some new ≡ Some y = sym put ∙ at in
        let is : new ≡ y = cc in
        let clash : true ≡ false = sym on ∙ (ap (λ (z : Process). z.listed) (sym is) ∙ off) in
        cc
    go false e =
        let other : q ≢ p = λ same. let h : (q == p) ≡ true = grind arith in cc in
        find_past 0 p q xs new y.name off (λ same. other (omega arith)) (differ q y (sym (set_other xs p q new other) ∙ at) on)

pub differ_added : (xs : List Process) (new : Process) → new.listed ≡ true → find_process 0 xs new.name ≡ None → NamesDiffer xs → NamesDiffer (xs ++ new ∷ [])
differ_added xs new on free differ q y at listed = go (slice_get xs q) refl
  where
    go : (o : Option Process) → slice_get xs q ≡ o → find_process 0 (xs ++ new ∷ []) y.name ≡ Some q
    go (Some z) found =
        let same : Some z ≡ Some y = sym found ∙ (sym (get_front xs (new ∷ []) q (slice_get_within xs q z found)) ∙ at) in
        find_front 0 q xs (new ∷ []) y.name (differ q y (found ∙ same) listed)
    go None none = go_last (ends xs q none)
      where
        ends : (zs : List Process) (k : ℕ) → slice_get zs k ≡ None → length zs ≤ k
        ends [] k e = omega arith
        ends (z ∷ zs) zero e = cc
        ends (z ∷ zs) (suc k) e = omega (arith, ends zs k e)

        go_last : length xs ≤ q → find_process 0 (xs ++ new ∷ []) y.name ≡ Some q
        go_last past =
            let last : (q ≡ length xs) × (new ≡ y) = get_last xs q new y past at in
            let name : new.name ≡ y.name = ap (λ (z : Process). z.name) last.1 in
            let test : (new.listed && same_name new.name new.name) ≡ true = rw (on, same_name-same new.name) refl in
            ap (find_process 0 (xs ++ new ∷ [])) (sym name) ∙ find_behind 0 xs (new ∷ []) new.name free ∙ ap (λ b. chosen b (0 + length xs) None) test ∙ ap Some (omega (arith, last.0))
