-- Taking the oldest records away, one by one and group by group.
use Rattle.std.proofs.Common.{◌≡◌, ℕ, zero, suc, ◌+◌, ◌≤◌, ◌<◌, Bool, true, false, List, [], ◌∷◌, ◌++◌, length, refl, sym, ◌∙◌, arith}
use Rattle.std.specs.Prelude.{if◌then◌else◌}
use Rattle.std.proofs.lemmas.Bool.{false≢true}
use Rattle.text_model.specs.Undo.{Rec, Boundary, Point, Inserted, Deleted, Prop, First, Moved, Entry, is_boundary, has_boundary, without_oldest_group, kept_characters, fits, cut}
use Rattle.text_model.proofs.Cases.{by_test}
use Rattle.undo_list.specs.Records.{size_of, AreFalling}

-- CHARACTERS
pub kept-cons : (e : Entry) (es : List Entry) → kept_characters (e ∷ es) ≡ size_of e.what + kept_characters es
kept-cons e es = go e.what
  where
    go : (r : Rec) → kept_characters (record { what = r; serial = e.serial } ∷ es) ≡ size_of r + kept_characters es
    go Boundary = omega arith
    go (Point p) = omega arith
    go (Inserted b p) = omega arith
    go (Deleted piece p) = refl
    go (Prop name old b p) = omega arith
    go First = omega arith
    go (Moved k a) = omega arith

pub kept-last : (es : List Entry) (e : Entry) → kept_characters (es ++ e ∷ []) ≡ kept_characters es + size_of e.what
kept-last [] e = kept-cons e [] ∙ omega arith
kept-last (f ∷ es) e = kept-cons f (es ++ e ∷ []) ∙ omega (arith, kept-last es e, kept-cons f es)

-- THE OLDEST RECORD
has_boundary-last : (es : List Entry) (e : Entry) → has_boundary (es ++ e ∷ []) ≡ (if is_boundary e.what then true else has_boundary es)
has_boundary-last [] e = refl
has_boundary-last (f ∷ es) e = go (is_boundary f.what) (is_boundary e.what) (has_boundary-last es e)
  where
    go : (b c : Bool) → has_boundary (es ++ e ∷ []) ≡ (if c then true else has_boundary es) → (if b then true else has_boundary (es ++ e ∷ [])) ≡ (if c then true else (if b then true else has_boundary es))
    go true true ih = refl
    go true false ih = refl
    go false true ih = ih
    go false false ih = ih

-- the oldest record goes: if it is a boundary, its group has gone with it
pub without-last : (es : List Entry) (e : Entry) → without_oldest_group (es ++ e ∷ []) ≡ (if is_boundary e.what then es else without_oldest_group es)
without-last [] e = by_test {A = List Entry} (λ l. [] ≡ l) (is_boundary e.what) [] [] (λ h. refl) (λ h. refl)
without-last (f ∷ es) e = rw (has_boundary-last es e, without-last es e) (go (is_boundary e.what))
  where
    go : (b : Bool) → (if (if b then true else has_boundary es) then f ∷ (if b then es else without_oldest_group es) else []) ≡ (if b then f ∷ es else (if has_boundary es then f ∷ without_oldest_group es else []))
    go true = refl
    go false = refl

pub shorter-group : (e : Entry) (es : List Entry) → length (without_oldest_group (e ∷ es)) ≤ length es
shorter-group e [] = omega arith
shorter-group e (f ∷ es) =
    let s : length (without_oldest_group (f ∷ es)) ≤ length es = shorter-group f es in
    by_test (λ l. length l ≤ length (f ∷ es)) (has_boundary (f ∷ es)) (e ∷ without_oldest_group (f ∷ es)) [] (λ h. omega arith) (λ h. omega arith)

-- THE LIMITS
first_of_two : (b : Bool) (es fs : List Entry) → b ≡ true → (elim b [ true ↦ es | false ↦ fs ]) ≡ es
first_of_two true es fs h = refl
first_of_two false es fs h = absurd (false≢true h)

second_of_two : (b : Bool) (es fs : List Entry) → b ≡ false → (elim b [ true ↦ es | false ↦ fs ]) ≡ fs
second_of_two false es fs h = refl
second_of_two true es fs h = absurd (false≢true (sym h))

pub cut-fitting : (turns : ℕ) (es : List Entry) → fits es ≡ true → cut turns es ≡ es
cut-fitting zero es h = refl
cut-fitting (suc turns) es h = first_of_two (fits es) es (cut turns (without_oldest_group es)) h

pub cut-step : (turns : ℕ) (es : List Entry) → fits es ≡ false → cut (suc turns) es ≡ cut turns (without_oldest_group es)
cut-step turns es h = second_of_two (fits es) es (cut turns (without_oldest_group es)) h

-- more turns than records change nothing
pub cut-enough : (n m : ℕ) (es : List Entry) → length es ≤ n → length es ≤ m → cut n es ≡ cut m es
cut-enough n m [] h k = cut-fitting n [] refl ∙ sym (cut-fitting m [] refl)
cut-enough zero m (e ∷ es) h k = absurd (omega arith)
cut-enough (suc n) zero (e ∷ es) h k = absurd (omega arith)
cut-enough (suc n) (suc m) (e ∷ es) h k =
    let less : length (without_oldest_group (e ∷ es)) ≤ length es = shorter-group e es in
    go (fits (e ∷ es)) refl (cut-enough n m (without_oldest_group (e ∷ es)) (omega arith) (omega arith))
  where
    go : (b : Bool) → fits (e ∷ es) ≡ b → cut n (without_oldest_group (e ∷ es)) ≡ cut m (without_oldest_group (e ∷ es)) → cut (suc n) (e ∷ es) ≡ cut (suc m) (e ∷ es)
    go true f ih = cut-fitting (suc n) (e ∷ es) f ∙ sym (cut-fitting (suc m) (e ∷ es) f)
    go false f ih = cut-step n (e ∷ es) f ∙ ih ∙ sym (cut-step m (e ∷ es) f)

-- the list after all turns that it takes
abbrev pub all_cut : List Entry → List Entry
all_cut es = cut (length es) es

pub all_cut-step : (es : List Entry) → fits es ≡ false → all_cut (without_oldest_group es) ≡ all_cut es
all_cut-step [] h = absurd (false≢true (sym h))
all_cut-step (e ∷ es) h = cut-enough _ (length es) (without_oldest_group (e ∷ es)) (omega arith) (shorter-group e es) ∙ sym (cut-step (length es) (e ∷ es) h) ∙ cut-enough (suc (length es)) (length (e ∷ es)) (e ∷ es) (omega arith) (omega arith)

pub group-gone : (es : List Entry) → fits es ≡ false → length (without_oldest_group es) < length es
group-gone [] h = absurd (false≢true (sym h))
group-gone (e ∷ es) h = let s : length (without_oldest_group (e ∷ es)) ≤ length es = shorter-group e es in omega arith

-- SERIAL NUMBERS

falling-group : (n : ℕ) (es : List Entry) → AreFalling n es → AreFalling n (without_oldest_group es)
falling-group n [] f = tt
falling-group n (e ∷ es) f = by_test (λ l. AreFalling n l) (has_boundary es) (e ∷ without_oldest_group es) [] (λ h. (f.0, falling-group e.serial es f.1)) (λ h. tt)

pub falling-cut : (turns n : ℕ) (es : List Entry) → AreFalling n es → AreFalling n (cut turns es)
falling-cut zero n es f = f
falling-cut (suc turns) n es f = go (fits es) (falling-cut turns n (without_oldest_group es) (falling-group n es f))
  where
    go : (b : Bool) → AreFalling n (cut turns (without_oldest_group es)) → AreFalling n (elim b [ true ↦ es | false ↦ cut turns (without_oldest_group es) ])
    go true ih = f
    go false ih = ih
