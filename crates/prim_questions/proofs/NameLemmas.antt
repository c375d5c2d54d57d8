-- Names that no rival has.
use Rattle.std.proofs.Common.{◌≡◌, ◌≢◌, ℕ, zero, suc, ◌+◌, ◌-◌, ◌<◌, Bool, true, false, List, [], ◌∷◌, length, refl, ap, ◌∙◌, arith}
use Rattle.std.specs.Prelude.{Option, Some, None, is_some, slice_get, slice_set, unwrap_or}
use Rattle.text_model.proofs.Lists.{set_other}
use Rattle.editor_model.specs.Editor.{Editor, Live, Name, find_from, numbered_name, first_numbered, free_name}
use Rattle.prim_questions.specs.Names.{is_named, rivals}

-- RIVALS
cleared : {A : Type 0} (xs : List (Option A)) (k : ℕ) → unwrap_or (slice_get (slice_set xs k None) k) None ≡ None
cleared [] k = refl
cleared (x ∷ xs) zero = refl
cleared (x ∷ xs) (suc k) = cleared xs k

length-slice_set : {A : Type 0} (xs : List A) (k : ℕ) (x : A) → length (slice_set xs k x) ≡ length xs
length-slice_set [] k x = refl
length-slice_set (y ∷ xs) zero x = refl
length-slice_set (y ∷ xs) (suc k) x = ap suc (length-slice_set xs k x)

pub no_rival : (e : Editor) (id : ℕ) (name : Name) → id ≡ e.current → is_named (unwrap_or (slice_get (rivals true e) id) None) name ≡ false
no_rival e id name h = ap (λ i. is_named (unwrap_or (slice_get (rivals true e) i) None) name) h ∙ ap (λ o. is_named o name) (cleared e.buffers e.current)

pub rival : (b : Bool) (e : Editor) (id : ℕ) → (b ≡ true → id ≢ e.current) → slice_get (rivals b e) id ≡ slice_get e.buffers id
rival true e id h = set_other e.buffers e.current id None (h refl)
rival false e id h = refl

pub length_rivals : (b : Bool) (e : Editor) → length (rivals b e) ≡ length e.buffers
length_rivals true e = length-slice_set e.buffers e.current None
length_rivals false e = refl

-- NUMBERED NAMES
pub tried : (tries n : ℕ) (buffers : List (Option Live)) (name : Name) → 0 < tries → is_some (find_from 0 buffers (numbered_name name n)) ≡ true → first_numbered tries n buffers name ≡ first_numbered (tries - 1) (n + 1) buffers name
tried zero n buffers name l h = absurd (omega arith)
tried (suc tries) n buffers name l h = go (find_from 0 buffers (numbered_name name n)) h ∙ ap (λ t. first_numbered t (n + 1) buffers name) (let k : tries ≡ suc tries - 1 = omega arith in k)
  where
    go : (o : Option ℕ) → is_some o ≡ true → (let x : Name = elim o [ None ↦ numbered_name name n | Some id ↦ first_numbered tries (n + 1) buffers name ] in x) ≡ first_numbered tries (n + 1) buffers name
    go None k = cc
    go (Some id) k = refl

pub found_free : (tries n : ℕ) (buffers : List (Option Live)) (name : Name) → is_some (find_from 0 buffers (numbered_name name n)) ≡ false → numbered_name name n ≡ first_numbered tries n buffers name
found_free zero n buffers name h = refl
found_free (suc tries) n buffers name h = go (find_from 0 buffers (numbered_name name n)) h
  where
    go : (o : Option ℕ) → is_some o ≡ false → numbered_name name n ≡ (let x : Name = elim o [ None ↦ numbered_name name n | Some id ↦ first_numbered tries (n + 1) buffers name ] in x)
    go None k = refl
    go (Some id) k = cc

pub taken : (buffers : List (Option Live)) (name : Name) → is_some (find_from 0 buffers name) ≡ true → first_numbered (length buffers) 2 buffers name ≡ free_name buffers name
taken buffers name h = go (find_from 0 buffers name) h
  where
    go : (o : Option ℕ) → is_some o ≡ true → first_numbered (length buffers) 2 buffers name ≡ (let x : Name = elim o [ None ↦ name | Some id ↦ first_numbered (length buffers) 2 buffers name ] in x)
    go None k = cc
    go (Some id) k = refl

pub not_taken : (buffers : List (Option Live)) (name : Name) → is_some (find_from 0 buffers name) ≡ false → name ≡ free_name buffers name
not_taken buffers name h = go (find_from 0 buffers name) h
  where
    go : (o : Option ℕ) → is_some o ≡ false → name ≡ (let x : Name = elim o [ None ↦ name | Some id ↦ first_numbered (length buffers) 2 buffers name ] in x)
    go None k = refl
    go (Some id) k = cc

pub is_free : (o : Option ℕ) → is_some o ≡ false → o ≡ None
is_free None h = refl
is_free (Some id) h = cc
