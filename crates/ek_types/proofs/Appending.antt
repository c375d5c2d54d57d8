-- The runs of two pieces, one behind the other, and how far a run goes.
use Rattle.std.proofs.Common.{◌≡◌, ℕ, zero, suc, ◌+◌, ◌-◌, ◌≤◌, ◌<◌, Bool, true, false, List, [], ◌∷◌, ◌++◌, length, get_or, refl, ap, sym, subst, ◌∙◌, arith, append_assoc}
use Rattle.std.specs.Prelude.{replicate, nat_le, nat_lt, if◌then◌else◌, Some, slice_get, option_map}
use Rattle.std.specs.List.{zip, prefix_len}
use Rattle.std.proofs.lemmas.Bool.{leb-true, leb-false, ltb-false, le-leb, lt-leb}
use Rattle.text_model.specs.Characters.{Ch}
use Rattle.text_model.specs.Properties.{PropSet}
use Rattle.ek_types.specs.Runs.{sets_from, AreRising, ends_by, set_at, rest_to, later_runs}
use Rattle.ek_types.specs.declared.content.Run.{Run}
use Rattle.ek_types.proofs.Putting.{ends_in, ends_out, set_beside}

-- ONE BEHIND THE OTHER
abbrev Gives : (low : ℕ) → List Run → (size : ℕ) → List PropSet → Type 0
Gives low runs size sets = AreRising low runs size × (sets_from low runs size ≡ sets)

later : (place n : ℕ) (runs : List Run) (m : ℕ) → AreRising place runs m → Gives (n + place) (later_runs n runs) (n + m) (sets_from place runs m)
later place n [] m h = let less : (n + m) - (n + place) ≡ m - place = omega arith in (omega (arith, h), ap (λ k. replicate k []) less)
later place n (r ∷ runs) m h =
    let here = h.0 in
    let less : (n + r.end) - (n + place) ≡ r.end - place = omega arith in
    let rest = later r.end n runs m h.1 in
    ((omega (arith, here), rest.0), ap (λ k. replicate k r.set ++ sets_from (n + r.end) (later_runs n runs) (n + m)) less ∙ ap (λ l. replicate (r.end - place) r.set ++ l) rest.1)

from_end : (n : ℕ) (runs : List Run) (m : ℕ) → AreRising 0 runs m → Gives n (later_runs n runs) (n + m) (sets_from 0 runs m)
from_end n runs m h = let same : n + 0 ≡ n = omega arith in rw same at (later 0 n runs m h)

filled : (low n : ℕ) (more : List Run) (m : ℕ) → low ≤ n → AreRising 0 more m → (t : Bool) → nat_lt low n ≡ t
    → Gives low ((if t then record { end = n; set = [] } ∷ [] else []) ++ later_runs n more) (n + m) (replicate (n - low) [] ++ sets_from 0 more m)
filled low n more m h k true e = let rest = from_end n more m k in ((h, rest.0), ap (λ l. replicate (n - low) [] ++ l) rest.1)
filled low n more m h k false e =
    let over : n ≤ low = ltb-false low n e in
    let same : n ≡ low = omega arith in
    let none : n - n ≡ 0 = omega arith in
    let here : Gives n (later_runs n more) (n + m) (replicate (n - n) [] ++ sets_from 0 more m) = rw none (from_end n more m k) in
    subst (λ l. Gives l (later_runs n more) (n + m) (replicate (n - l) [] ++ sets_from 0 more m)) same here

pub appended_sets : (low : ℕ) (runs more : List Run) (n m : ℕ) → AreRising low runs n → AreRising 0 more m
    → Gives low (runs ++ (rest_to low n (length runs) runs ++ later_runs n more)) (n + m) (sets_from low runs n ++ sets_from 0 more m)
appended_sets low [] more n m h k = filled low n more m h k (nat_lt low n) refl
appended_sets low (r ∷ runs) more n m h k =
    let rest = appended_sets r.end runs more n m h.1 k in
    ((h.0, rest.0), ap (λ l. replicate (r.end - low) r.set ++ l) rest.1 ∙ sym (append_assoc (replicate (r.end - low) r.set) (sets_from r.end runs n) (sets_from 0 more m)))

pub zip_append : {A B : Type 0} (xs vs : List A) (ys ws : List B) → length ys ≡ length xs → zip (xs ++ vs) (ys ++ ws) ≡ zip xs ys ++ zip vs ws
zip_append [] vs [] ws h = refl
zip_append [] vs (y ∷ ys) ws h = absurd (omega arith)
zip_append (x ∷ xs) vs [] ws h = absurd (omega arith)
zip_append (x ∷ xs) vs (y ∷ ys) ws h = ap (λ l. (x, y) ∷ l) (zip_append xs vs ys ws (omega arith))

-- HOW FAR A RUN GOES
pub ends_later : (runs : List Run) (place : ℕ) (d : Run) → prefix_len (ends_by place) runs < length runs → place < (get_or runs (prefix_len (ends_by place) runs) d).end
ends_later [] place d h = absurd (omega arith)
ends_later (r ∷ runs) place d h = by (λ k. ends_later runs place d k) (nat_le r.end place) refl
  where
    by : (prefix_len (ends_by place) runs < length runs → place < (get_or runs (prefix_len (ends_by place) runs) d).end) → (t : Bool) → nat_le r.end place ≡ t → place < (get_or (r ∷ runs) (prefix_len (ends_by place) (r ∷ runs)) d).end
    by rest true e = rw (ends_in place r runs e) (rest (omega (arith, rw (ends_in place r runs e) at h)))
    by rest false e = rw (ends_out place r runs e) (leb-false r.end place e)

pub ends_within : (low : ℕ) (runs : List Run) (size k : ℕ) (d : Run) → AreRising low runs size → k < length runs → (get_or runs k d).end ≤ size
ends_within low [] size k d h l = absurd (omega arith)
ends_within low (r ∷ []) size zero d h l = h.1
ends_within low (r ∷ s ∷ runs) size zero d h l = let here = h.1.0 in let rest = ends_within r.end (s ∷ runs) size zero d h.1 (omega arith) in omega (arith, here, rest)
ends_within low (r ∷ runs) size (suc k) d h l = ends_within r.end runs size k d h.1 (omega arith)

abbrev pub Reaches : (i j : ℕ) → List Run → Type 0
Reaches i j runs = (d : Run) → prefix_len (ends_by i) runs < length runs → j < (get_or runs (prefix_len (ends_by i) runs) d).end

same_run : (runs : List Run) (i j : ℕ) → i ≤ j → Reaches i j runs → prefix_len (ends_by j) runs ≡ prefix_len (ends_by i) runs
same_run [] i j h l = refl
same_run (r ∷ runs) i j h l = by (λ k. same_run runs i j h k) (nat_le r.end i) refl
  where
    by : (Reaches i j runs → prefix_len (ends_by j) runs ≡ prefix_len (ends_by i) runs) → (t : Bool) → nat_le r.end i ≡ t → prefix_len (ends_by j) (r ∷ runs) ≡ prefix_len (ends_by i) (r ∷ runs)
    by rest true e =
        let under : r.end ≤ i = leb-true r.end i e in
        rw (ends_in i r runs e, ends_in j r runs (le-leb r.end j (omega arith))) (ap suc (rest (λ d k. (rw (ends_in i r runs e) at l d) (omega (arith, k)))))
    by rest false e = let over : j < r.end = (rw (ends_out i r runs e) at l r) (omega arith) in rw (ends_out i r runs e, ends_out j r runs (lt-leb r.end j over)) refl

pub same_set : (text : List Ch) (runs : List Run) (i j : ℕ) → AreRising 0 runs (length text) → i ≤ j → j < length text → Reaches i j runs
    → option_map (λ c. c.1) (slice_get (zip text (sets_from 0 runs (length text))) j) ≡ option_map (λ c. c.1) (slice_get (zip text (sets_from 0 runs (length text))) i)
same_set text runs i j h a b l =
    set_beside text runs j h b ∙ ap (λ k. Some (set_at k runs)) (same_run runs i j a l) ∙ sym (set_beside text runs i h (omega arith))
