-- Whether one buffer alone lives, and which processes run in a buffer.
use Rattle.std.proofs.Common.{◌≡◌, ℕ, zero, suc, ◌+◌, ◌<◌, Bool, true, false, ◌∙◌, List, [], ◌∷◌, map, length, drop, refl, ap, sym, arith}
use Rattle.std.specs.Prelude.{◌==◌, ◌&&◌, filter, nat_lt, slice_get, Option, Some, None, unwrap_or, is_some}
use Rattle.std.specs.List.{enumerate_from}
use Rattle.std.proofs.lemmas.Bool.{eq-eqb, ne_eqb, lt-ltb}
use Rattle.text_model.proofs.Lists.{drop_at}
use Rattle.editor_model.specs.Editor.{Editor, Live, live_from, is_live}
use Rattle.plain_machine.specs.State.{Process}
use Rattle.plain_machine.specs.Arguments.{runs, stands_in}
use Rattle.plain_machine.specs.Refusals.{is_last}

-- BUFFERS
abbrev lives : List (Option Live) → ℕ → Bool
lives bs i = is_some (unwrap_or (slice_get bs i) None)

abbrev only : List ℕ → (b : ℕ) → Bool
only ids b = elim ids [ c ∷ [] ↦ c == b | _ ↦ false ]

some_left : (k : ℕ) (bs : List (Option Live)) (i : ℕ) → lives bs i ≡ true → live_from k bs ≡ [] → ⊥
some_left k [] i here none = cc
some_left k (None ∷ rest) zero here none = cc
some_left k (None ∷ rest) (suc i) here none = some_left (k + 1) rest i here none
some_left k (Some l ∷ rest) i here none = cc

others_alone : (k b : ℕ) (ids : List ℕ) → (k ≡ b → ⊥) → only (k ∷ ids) b ≡ false
others_alone k b [] other = ne_eqb k b other
others_alone k b (i ∷ ids) other = refl

more_live : (k b : ℕ) (ids : List ℕ) → (ids ≡ [] → ⊥) → only (k ∷ ids) b ≡ false
more_live k b [] some = absurd (some refl)
more_live k b (i ∷ ids) some = refl

other_lives : (k b : ℕ) (bs : List (Option Live)) (i : ℕ) → lives bs i ≡ true → (k + i ≡ b → ⊥) → only (live_from k bs) b ≡ false
other_lives k b [] i here other = cc
other_lives k b (None ∷ rest) zero here other = cc
other_lives k b (None ∷ rest) (suc i) here other = other_lives (k + 1) b rest i here (λ e. other (omega arith))
other_lives k b (Some l ∷ rest) zero here other = others_alone k b (live_from (k + 1) rest) (λ e. other (omega arith))
other_lives k b (Some l ∷ rest) (suc i) here other = more_live k b (live_from (k + 1) rest) (some_left (k + 1) rest i here)

none_live : (k : ℕ) (bs : List (Option Live)) → ((i : ℕ) → i < length bs → lives bs i ≡ false) → live_from k bs ≡ []
none_live k [] dead = refl
none_live k (None ∷ rest) dead = none_live (k + 1) rest (λ i within. dead (suc i) (omega arith))
none_live k (Some l ∷ rest) dead = let e : true ≡ false = dead 0 (omega arith) in cc

only_here : (k i : ℕ) (bs : List (Option Live)) → ((j : ℕ) → j < length bs → (j ≡ i → ⊥) → lives bs j ≡ false) → only (live_from k bs) (k + i) ≡ lives bs i
only_here k i [] dead = refl
only_here k zero (None ∷ rest) dead = ap (λ ids. only ids (k + 0)) (none_live (k + 1) rest (λ j within. dead (suc j) (omega arith) (λ e. omega arith)))
only_here k zero (Some l ∷ rest) dead = ap (λ ids. only (k ∷ ids) (k + 0)) (none_live (k + 1) rest (λ j within. dead (suc j) (omega arith) (λ e. omega arith))) ∙ eq-eqb k (k + 0) (omega arith)
only_here k (suc i) (None ∷ rest) dead =
    let e : k + suc i ≡ (k + 1) + i = omega arith in
    ap (λ b. only (live_from (k + 1) rest) b) e ∙ only_here (k + 1) i rest (λ j within other. dead (suc j) (omega arith) (λ f. other (omega arith)))
only_here k (suc i) (Some l ∷ rest) dead = let e : true ≡ false = dead 0 (omega arith) (λ f. omega arith) in cc

pub not_last : (e : Editor) (b other : ℕ) → is_live e other ≡ true → (other ≡ b → ⊥) → false ≡ is_last e b
not_last e b other here differs = sym (other_lives 0 b e.buffers other here (λ f. differs (omega arith)))

pub last_if_live : (e : Editor) (b : ℕ) → ((j : ℕ) → j < length e.buffers → (j ≡ b → ⊥) → is_live e j ≡ false) → is_live e b ≡ is_last e b
last_if_live e b dead = let z : 0 + b ≡ b = omega arith in sym (ap (λ n. only (live_from 0 e.buffers) n) (sym z) ∙ only_here 0 b e.buffers dead)

-- PROCESSES
abbrev pub is_in : (b : ℕ) → ℕ × Process → Bool
is_in b x = runs x.1.status && stands_in b x.1

abbrev pub running_from : (p b : ℕ) → List Process → List ℕ
running_from p b ps = map (λ x. x.0) (filter (is_in b) (enumerate_from p ps))

pub running_met : (p b : ℕ) (x : Process) (ps : List Process) → is_in b (p, x) ≡ true → running_from p b (x ∷ ps) ≡ p ∷ running_from (p + 1) b ps
running_met p b x ps here = rw (here, filter) refl

pub running_passed : (p b : ℕ) (x : Process) (ps : List Process) → is_in b (p, x) ≡ false → running_from p b (x ∷ ps) ≡ running_from (p + 1) b ps
running_passed p b x ps here = rw (here, filter) refl

pub step_met : (p b : ℕ) (x : Process) (ps : List Process) → slice_get ps p ≡ Some x → is_in b (p, x) ≡ true → running_from p b (drop p ps) ≡ p ∷ running_from (p + 1) b (drop (p + 1) ps)
step_met p b x ps at here = ap (λ l. running_from p b l) (drop_at ps p x at) ∙ running_met p b x (drop (p + 1) ps) here

pub step_passed : (p b : ℕ) (x : Process) (ps : List Process) → slice_get ps p ≡ Some x → is_in b (p, x) ≡ false → running_from p b (drop p ps) ≡ running_from (p + 1) b (drop (p + 1) ps)
step_passed p b x ps at here = ap (λ l. running_from p b l) (drop_at ps p x at) ∙ running_passed p b x (drop (p + 1) ps) here

pub some_there : (l : List ℕ) (p : ℕ) (rest : List ℕ) → l ≡ p ∷ rest → true ≡ nat_lt 0 (length l)
some_there l p rest e = sym (ap (λ x. nat_lt 0 (length x)) e ∙ lt-ltb 0 (length (p ∷ rest)) (omega arith))
