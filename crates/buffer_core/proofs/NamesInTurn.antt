-- Names that are added in another order, or once more.
use Rattle.std.proofs.Common.{◌≡◌, ℕ, zero, suc, ◌<◌, List, [], ◌∷◌, ◌++◌, refl, ap, sym, ◌∙◌, inl, inr, arith}
use Rattle.std.specs.Prelude.{replicate}
use Rattle.std.proofs.lemmas.Bool.{cases_order}
use Rattle.text_model.specs.Properties.{PropSet, insert_name, names_of}
use Rattle.buffer_core.specs.Changes.{names_in_sets}
use Rattle.buffer_core.proofs.NameLemmas.{insert_before, insert_same, insert_later}

insert_twice : (n : ℕ) (names : List ℕ) → insert_name n (insert_name n names) ≡ insert_name n names
insert_twice n [] = insert_same n n [] refl
insert_twice n (m ∷ names) = elim (cases_order n m) [
  | inr (inl l) ↦ ap (insert_name n) (insert_before n m names l) ∙ insert_same n n (m ∷ names) refl ∙ sym (insert_before n m names l)
  | inl e ↦ ap (insert_name n) (insert_same n m names e)
  | inr (inr g) ↦ ap (insert_name n) (insert_later n m names g) ∙ insert_later n m (insert_name n names) g ∙ ap (λ ms. m ∷ ms) (insert_twice n names) ∙ sym (insert_later n m names g)
]

-- the smallest name stands first
smallest_first : (a b m : ℕ) (names : List ℕ) → a < b → a < m → insert_name a (insert_name b (m ∷ names)) ≡ a ∷ insert_name b (m ∷ names)
smallest_first a b m names l h = elim (cases_order b m) [
  | inr (inl k) ↦ ap (insert_name a) (insert_before b m names k) ∙ insert_before a b (m ∷ names) l ∙ ap (λ ms. a ∷ ms) (sym (insert_before b m names k))
  | inl e ↦ ap (insert_name a) (insert_same b m names e) ∙ insert_before a m names h ∙ ap (λ ms. a ∷ ms) (sym (insert_same b m names e))
  | inr (inr g) ↦ ap (insert_name a) (insert_later b m names g) ∙ insert_before a m (insert_name b names) h ∙ ap (λ ms. a ∷ ms) (sym (insert_later b m names g))
]

insert_smaller : (a b : ℕ) (names : List ℕ) → a < b → insert_name a (insert_name b names) ≡ insert_name b (insert_name a names)
insert_smaller a b [] l = insert_before a b [] l ∙ sym (insert_later b a [] l)
insert_smaller a b (m ∷ names) l = elim (cases_order a m) [
  | inr (inl h) ↦ smallest_first a b m names l h ∙ sym (ap (insert_name b) (insert_before a m names h) ∙ insert_later b a (m ∷ names) l)
  | inl e ↦
      let g : m < b = omega arith in
      ap (insert_name a) (insert_later b m names g) ∙ insert_same a m (insert_name b names) e ∙ sym (ap (insert_name b) (insert_same a m names e) ∙ insert_later b m names g)
  | inr (inr k) ↦
      let g : m < b = omega arith in
      ap (insert_name a) (insert_later b m names g) ∙ insert_later a m (insert_name b names) k ∙ ap (λ ms. m ∷ ms) (insert_smaller a b names l)
      ∙ sym (ap (insert_name b) (insert_later a m names k) ∙ insert_later b m (insert_name a names) g)
]

insert_two : (a b : ℕ) (names : List ℕ) → insert_name a (insert_name b names) ≡ insert_name b (insert_name a names)
insert_two a b names = elim (cases_order a b) [
  | inr (inl l) ↦ insert_smaller a b names l
  | inl e ↦ ap (λ n. insert_name n (insert_name b names)) e ∙ ap (λ n. insert_name b (insert_name n names)) (sym e)
  | inr (inr g) ↦ sym (insert_smaller b a names g)
]

names_of-insert : (set : PropSet) (n : ℕ) (names : List ℕ) → names_of set (insert_name n names) ≡ insert_name n (names_of set names)
names_of-insert [] n names = refl
names_of-insert (p ∷ set) n names = ap (insert_name p.0) (names_of-insert set n names) ∙ insert_two p.0 n (names_of set names)

names_of_twice : (set : PropSet) (names : List ℕ) → names_of set (names_of set names) ≡ names_of set names
names_of_twice [] names = refl
names_of_twice (p ∷ set) names =
    ap (insert_name p.0) (names_of-insert set p.0 (names_of set names)) ∙ insert_twice p.0 (names_of set (names_of set names)) ∙ ap (insert_name p.0) (names_of_twice set names)

names_of_two : (set other : PropSet) (names : List ℕ) → names_of set (names_of other names) ≡ names_of other (names_of set names)
names_of_two [] other names = refl
names_of_two (p ∷ set) other names = ap (insert_name p.0) (names_of_two set other names) ∙ sym (names_of-insert other p.0 (names_of set names))

names_of_first : (set : PropSet) (sets : List PropSet) (names : List ℕ) → names_of set (names_in_sets sets names) ≡ names_in_sets sets (names_of set names)
names_of_first set [] names = refl
names_of_first set (s ∷ sets) names = names_of_two set s (names_in_sets sets names) ∙ ap (names_of s) (names_of_first set sets names)

-- a run of one set gives its names once
pub names_of_run : (k : ℕ) (set : PropSet) (sets : List PropSet) (names : List ℕ) → 0 < k → names_in_sets (replicate k set ++ sets) names ≡ names_in_sets sets (names_of set names)
names_of_run zero set sets names h = absurd (omega arith)
names_of_run (suc zero) set sets names h = names_of_first set sets names
names_of_run (suc (suc k)) set sets names h =
    let l : 0 < suc k = omega arith in
    ap (names_of set) (names_of_run (suc k) set sets names l) ∙ names_of_first set sets (names_of set names) ∙ ap (names_in_sets sets) (names_of_twice set names)
