-- A buffer that is found by its name lives.
use Rattle.std.proofs.Common.{◌≡◌, ℕ, zero, suc, ◌+◌, Bool, true, false, inl, inr, ◌⊎◌, List, [], ◌∷◌, refl, sym, ap, ◌∙◌, arith}
use Rattle.std.specs.Prelude.{Option, Some, None, IfSome, slice_get, unwrap_or, is_some}
use Rattle.editor_model.specs.Editor.{Editor, Live, Name, find, find_from, is_live, same_name}

step_found : (i k : ℕ) (b : Bool) (rest : Option ℕ) → (let x : Option ℕ = elim b [ true ↦ Some i | false ↦ rest ] in x) ≡ Some k → (i ≡ k) ⊎ (rest ≡ Some k)
step_found i k true rest h = inl (cc)
step_found i k false rest h = inr h

found_at : (i k : ℕ) (buffers : List (Option Live)) (name : Name) → find_from i buffers name ≡ Some k → (j : ℕ) × (k ≡ i + j) × (is_some (unwrap_or (slice_get buffers j) None) ≡ true)
found_at i k [] name h = cc
found_at i k (None ∷ buffers) name h = let r = found_at (i + 1) k buffers name h in (suc r.0, omega (arith, r.1), r.2)
found_at i k (Some l ∷ buffers) name h = elim (step_found i k (same_name l.name name) (find_from (i + 1) buffers name) h) [
  | inl e ↦ (zero, omega (arith, e), refl)
  | inr g ↦ let r = found_at (i + 1) k buffers name g in (suc r.0, omega (arith, r.1), r.2)
]

pub found_lives : (e : Editor) (name : Name) (found : Option ℕ) → found ≡ find e name → IfSome found (λ id. is_live e id ≡ true)
found_lives e name None h = tt
found_lives e name (Some k) h =
    let r = found_at 0 k e.buffers name (sym h) in
    let same : k ≡ r.0 = omega (arith, r.1) in
    ap (λ j. is_some (unwrap_or (slice_get e.buffers j) None)) same ∙ r.2
