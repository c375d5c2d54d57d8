-- Which group goes as a list is cut, and how long cutting goes on.
use Rattle.std.proofs.Common.{◌≡◌, ℕ, zero, suc, ◌≤◌, Bool, true, false, List, [], ◌∷◌, ◌++◌, length, refl, ap, sym, ◌∙◌, arith}
use Rattle.std.specs.Prelude.{if◌then◌else◌}
use Rattle.std.proofs.lemmas.Bool.{false≢true}
use Rattle.text_model.specs.Undo.{Entry, is_boundary, has_boundary, without_oldest_group, fits, cut}
use Rattle.undo_list.proofs.Cutting.{shorter-group, cut-fitting, cut-step, cut-enough}

boundary_behind : (front group : List Entry) (e : Entry) → is_boundary e.what ≡ true → has_boundary (front ++ e ∷ group) ≡ true
boundary_behind [] group e h = rw h refl
boundary_behind (f ∷ front) group e h = by_test (is_boundary f.what) (boundary_behind front group e h)
  where
    by_test : (t : Bool) → has_boundary (front ++ e ∷ group) ≡ true → (if t then true else has_boundary (front ++ e ∷ group)) ≡ true
    by_test true ih = refl
    by_test false ih = ih

pub group_goes : (front group : List Entry) (e : Entry) → is_boundary e.what ≡ true → has_boundary group ≡ false → without_oldest_group (front ++ e ∷ group) ≡ front
group_goes [] group e h k = rw k refl
group_goes (f ∷ front) group e h k = rw (boundary_behind front group e h) (ap (λ es. f ∷ es) (group_goes front group e h k))

pub all_goes : (group : List Entry) → has_boundary group ≡ false → without_oldest_group group ≡ []
all_goes [] h = refl
all_goes (e ∷ es) h = by_test (is_boundary e.what) refl h
  where
    by_test : (t : Bool) → is_boundary e.what ≡ t → (if t then true else has_boundary es) ≡ false → without_oldest_group (e ∷ es) ≡ []
    by_test true p k = absurd (false≢true (sym k))
    by_test false p k = rw k refl

pub cut_within : (turns : ℕ) (es : List Entry) → fits es ≡ true → cut turns es ≡ es
cut_within turns es h = cut-fitting turns es h

pub cut_over : (turns : ℕ) (es : List Entry) → length es ≤ turns → fits es ≡ false → cut turns es ≡ cut turns (without_oldest_group es)
cut_over turns [] h k = absurd (false≢true (sym k))
cut_over turns (e ∷ es) h k = cut-enough turns (suc turns) (e ∷ es) h (omega (arith, h)) ∙ cut-step turns (e ∷ es) k

pub cut_fits : (turns : ℕ) (es : List Entry) → length es ≤ turns → fits (cut turns es) ≡ true
cut_fits turns [] h = ap fits (cut-fitting turns [] refl)
cut_fits zero (e ∷ es) h = absurd (omega arith)
cut_fits (suc turns) (e ∷ es) h =
    let less : length (without_oldest_group (e ∷ es)) ≤ length es = shorter-group e es in
    by_test (fits (e ∷ es)) refl (cut_fits turns (without_oldest_group (e ∷ es)) (omega arith))
  where
    by_test : (t : Bool) → fits (e ∷ es) ≡ t → fits (cut turns (without_oldest_group (e ∷ es))) ≡ true → fits (cut (suc turns) (e ∷ es)) ≡ true
    by_test true p ih = ap fits (cut-fitting (suc turns) (e ∷ es) p) ∙ p
    by_test false p ih = ap fits (cut-step turns (e ∷ es) p) ∙ ih
