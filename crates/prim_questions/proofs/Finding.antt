-- One buffer after the other is asked for a name.
use Rattle.std.proofs.Common.{◌≡◌, ℕ, zero, suc, ◌+◌, ◌<◌, ◌≤◌, true, false, List, [], ◌∷◌, ◌++◌, length, map, drop, refl, sym, ap, ◌∙◌, append_assoc, append-nil, arith}
use Rattle.std.specs.Prelude.{Option, Some, None, slice_get, unwrap_or, is_some}
use Rattle.text_model.proofs.Lists.{drop_at}
use Rattle.editor_model.specs.Editor.{Live, Name, find_from, live_from}
use Rattle.editor_model.specs.Values.{Value, TheBuffer}
use Rattle.prim_questions.specs.Names.{is_named}

item_within : (buffers : List (Option Live)) (i : ℕ) → i < length buffers → slice_get buffers i ≡ Some (unwrap_or (slice_get buffers i) None)
item_within [] i l = absurd (omega arith)
item_within (o ∷ buffers) zero l = refl
item_within (o ∷ buffers) (suc i) l = item_within buffers i (omega arith)

rest_from : (buffers : List (Option Live)) (i : ℕ) → i < length buffers → drop i buffers ≡ unwrap_or (slice_get buffers i) None ∷ drop (i + 1) buffers
rest_from buffers i l = drop_at buffers i (unwrap_or (slice_get buffers i) None) (item_within buffers i l)

at_named : (o : Option Live) (i : ℕ) (rest : List (Option Live)) (name : Name) → is_named o name ≡ true → find_from i (o ∷ rest) name ≡ Some i
at_named None i rest name h = cc
at_named (Some l) i rest name h = ap (λ b. let x : Option ℕ = elim b [ true ↦ Some i | false ↦ find_from (i + 1) rest name ] in x) h

past_other : (o : Option Live) (i : ℕ) (rest : List (Option Live)) (name : Name) → is_named o name ≡ false → find_from i (o ∷ rest) name ≡ find_from (i + 1) rest name
past_other None i rest name h = refl
past_other (Some l) i rest name h = ap (λ b. let x : Option ℕ = elim b [ true ↦ Some i | false ↦ find_from (i + 1) rest name ] in x) h

pub name_met : (buffers : List (Option Live)) (i : ℕ) (name : Name) (whole : Option ℕ) → i < length buffers → is_named (unwrap_or (slice_get buffers i) None) name ≡ true → find_from i (drop i buffers) name ≡ whole → Some i ≡ whole
name_met buffers i name whole l h e = sym (at_named (unwrap_or (slice_get buffers i) None) i (drop (i + 1) buffers) name h) ∙ ap (λ rest. find_from i rest name) (sym (rest_from buffers i l)) ∙ e

pub name_passed : (buffers : List (Option Live)) (i : ℕ) (name : Name) (whole : Option ℕ) → i < length buffers → is_named (unwrap_or (slice_get buffers i) None) name ≡ false → find_from i (drop i buffers) name ≡ whole → find_from (i + 1) (drop (i + 1) buffers) name ≡ whole
name_passed buffers i name whole l h e = sym (past_other (unwrap_or (slice_get buffers i) None) i (drop (i + 1) buffers) name h) ∙ ap (λ rest. find_from i rest name) (sym (rest_from buffers i l)) ∙ e

nothing_behind : {A : Type 0} (xs : List A) (i : ℕ) → length xs ≤ i → drop i xs ≡ []
nothing_behind [] zero l = refl
nothing_behind [] (suc i) l = refl
nothing_behind (x ∷ xs) zero l = absurd (omega arith)
nothing_behind (x ∷ xs) (suc i) l = nothing_behind xs i (omega arith)

pub none_met : (buffers : List (Option Live)) (i : ℕ) (name : Name) (whole : Option ℕ) → length buffers ≤ i → find_from i (drop i buffers) name ≡ whole → None ≡ whole
none_met buffers i name whole l e = ap (λ rest. find_from i rest name) (sym (nothing_behind buffers i l)) ∙ e

-- One buffer after the other that lives.
live_item : (o : Option Live) (i : ℕ) (rest : List (Option Live)) → is_some o ≡ true → live_from i (o ∷ rest) ≡ i ∷ live_from (i + 1) rest
live_item None i rest h = cc
live_item (Some l) i rest h = refl

dead_item : (o : Option Live) (i : ℕ) (rest : List (Option Live)) → is_some o ≡ false → live_from i (o ∷ rest) ≡ live_from (i + 1) rest
dead_item None i rest h = refl
dead_item (Some l) i rest h = cc

pub live_met : (buffers : List (Option Live)) (i : ℕ) (front whole : List Value) → i < length buffers → is_some (unwrap_or (slice_get buffers i) None) ≡ true
    → front ++ map TheBuffer (live_from i (drop i buffers)) ≡ whole → (front ++ TheBuffer i ∷ []) ++ map TheBuffer (live_from (i + 1) (drop (i + 1) buffers)) ≡ whole
live_met buffers i front whole l h e =
    append_assoc front (TheBuffer i ∷ []) (map TheBuffer (live_from (i + 1) (drop (i + 1) buffers)))
    ∙ ap (λ ids. front ++ map TheBuffer ids) (sym (live_item (unwrap_or (slice_get buffers i) None) i (drop (i + 1) buffers) h))
    ∙ ap (λ rest. front ++ map TheBuffer (live_from i rest)) (sym (rest_from buffers i l)) ∙ e

pub live_passed : (buffers : List (Option Live)) (i : ℕ) (front whole : List Value) → i < length buffers → is_some (unwrap_or (slice_get buffers i) None) ≡ false
    → front ++ map TheBuffer (live_from i (drop i buffers)) ≡ whole → front ++ map TheBuffer (live_from (i + 1) (drop (i + 1) buffers)) ≡ whole
live_passed buffers i front whole l h e =
    ap (λ ids. front ++ map TheBuffer ids) (sym (dead_item (unwrap_or (slice_get buffers i) None) i (drop (i + 1) buffers) h))
    ∙ ap (λ rest. front ++ map TheBuffer (live_from i rest)) (sym (rest_from buffers i l)) ∙ e

pub live_ended : (buffers : List (Option Live)) (i : ℕ) (front whole : List Value) → length buffers ≤ i → front ++ map TheBuffer (live_from i (drop i buffers)) ≡ whole → front ≡ whole
live_ended buffers i front whole l e = sym (append-nil front) ∙ ap (λ rest. front ++ map TheBuffer (live_from i rest)) (sym (nothing_behind buffers i l)) ∙ e
