-- Parts of a text, and what is visible of them.
use Rattle.std.proofs.Common.{◌≡◌, ℕ, ◌+◌, ◌-◌, ◌<◌, ◌≤◌, suc, zero, max, Bool, true, false, ◌||◌, not, if◌then◌else◌, List, [], ◌∷◌, ◌++◌, map, take, drop, length, Option, Some, None, is_some, option_map, refl, sym, ap, ap₂, ◌∙◌, subst, arith, append_assoc}
use Rattle.std.specs.Prelude.{slice_get, unwrap_or}
use Rattle.std.specs.List.{AllByRecursion}
use Rattle.std.proofs.lemmas.Bool.{lt-ltb, le-ltb}
use Rattle.std.proofs.lemmas.List.{drop-take, length-drop, length-take, length-map, drop-drop, drop-map, map-append}
use Rattle.std.proofs.Math.Seq.{take-add}
use Rattle.std.proofs.lemmas.Option.{slice_get-get_or}
use Rattle.text_model.specs.Characters.{Ch, Scalar}
use Rattle.text_model.specs.Properties.{Cell, PropSet, get, part, same_set}
use Rattle.text_model.specs.PropertyQuestions.{first_where}
use Rattle.text_model.proofs.Lists.{drop_at}
use Rattle.text_model.proofs.Sameness.{same_set-sound}
use Rattle.prop_intervals.specs.Sets.{run_end, other_from}
use Rattle.final_view.specs.Shown.{invisible}
use Rattle.final_view.specs.Visible.{visible, visible_one, run_of}

-- PARTS
pub part_is : (from to : ℕ) (cells : List Cell) → from ≤ to → part from to cells ≡ take (to - from) (drop from cells)
part_is from to cells h = let e : to ≡ from + (to - from) = omega arith in ap (λ n. drop from (take n cells)) e ∙ drop-take from (to - from) cells

pub part_length : (from to : ℕ) (cells : List Cell) → to ≤ length cells → length (part from to cells) ≡ to - from
part_length from to cells h = omega (arith, length-drop from (take to cells), length-take to cells, h)

pub parts : (from mid to : ℕ) (cells : List Cell) → from ≤ mid → mid ≤ to → part from to cells ≡ part from mid cells ++ part mid to cells
parts from mid to cells h k =
    let whole : to - from ≡ (mid - from) + (to - mid) = omega arith in
    let there : from + (mid - from) ≡ mid = omega arith in
    part_is from to cells (omega (arith, h, k)) ∙ ap (λ n. take n (drop from cells)) whole ∙ take-add (mid - from) (to - mid) (drop from cells)
    ∙ ap₂ (λ a b. a ++ b) (sym (part_is from mid cells h)) (ap (take (to - mid)) (drop-drop (mid - from) from cells ∙ ap (λ n. drop n cells) there) ∙ sym (part_is mid to cells k))

pub no_part : (at : ℕ) (cells : List Cell) → part at at cells ≡ []
no_part at cells = let none : at - at ≡ 0 = omega arith in part_is at at cells (omega arith) ∙ ap (λ n. take n (drop at cells)) none

one_part_by : (cells : List Cell) (i : ℕ) (x : Ch) (c : Option Cell) → slice_get cells i ≡ c → option_map (λ c. c.0) c ≡ Some x → map (λ c. c.0) (part i (i + 1) cells) ≡ x ∷ []
one_part_by cells i x None e h = absurd (let k = h in cc)
one_part_by cells i x (Some c) e h =
    let one : i + 1 - i ≡ 1 = omega arith in
    let same : c.0 ≡ x = (let k = h in cc) in
    ap (map (λ c. c.0)) (part_is i (i + 1) cells (omega arith) ∙ ap₂ (λ n l. take n l) one (drop_at cells i c e)) ∙ ap (λ y. y ∷ []) same

pub one_part : (cells : List Cell) (i : ℕ) (x : Ch) → option_map (λ c. c.0) (slice_get cells i) ≡ Some x → map (λ c. c.0) (part i (i + 1) cells) ≡ x ∷ []
one_part cells i x h = one_part_by cells i x (slice_get cells i) refl h

-- one character more of a part
pub part_more : (from i : ℕ) (cells : List Cell) (x : Ch) → from ≤ i → option_map (λ c. c.0) (slice_get cells i) ≡ Some x → map (λ c. c.0) (part from i cells) ++ x ∷ [] ≡ map (λ c. c.0) (part from (i + 1) cells)
part_more from i cells x h k =
    ap (λ l. map (λ c. c.0) (part from i cells) ++ l) (sym (one_part cells i x k)) ∙ sym (map-append (λ c. c.0) (part from i cells) (part i (i + 1) cells)) ∙ ap (map (λ c. c.0)) (sym (parts from i (i + 1) cells h (omega arith)))

-- RUNS
run_by : (cells : List Cell) (from to : ℕ) (set : PropSet) (c : Option Cell) → option_map (λ c. c.1) c ≡ Some set
    → elim c [ None ↦ [] | Some c ↦ if is_some (get c.1 invisible) then [] else map (λ c. c.0) (part from to cells) ] ≡ (if is_some (get set invisible) then [] else map (λ c. c.0) (part from to cells))
run_by cells from to set None h = absurd (let k = h in cc)
run_by cells from to set (Some c) h = let same : c.1 ≡ set = (let k = h in cc) in ap (λ s. if is_some (get s invisible) then [] else map (λ c. c.0) (part from to cells)) same

pub run_is : (cells : List Cell) (from to : ℕ) (set : PropSet) → option_map (λ c. c.1) (slice_get cells from) ≡ Some set → run_of from to cells ≡ (if is_some (get set invisible) then [] else map (λ c. c.0) (part from to cells))
run_is cells from to set h = run_by cells from to set (slice_get cells from) h

abbrev AreOf : PropSet → List Cell → Type 0
AreOf set cells = AllByRecursion (λ c. c.1 ≡ set) cells

same_by : (set : PropSet) (place n j : ℕ) (d : Cell) (more : List Cell) → place + suc j ≤ other_from set place (map (λ c. c.1) (d ∷ more)) n → (place + 1 + j ≤ other_from set (place + 1) (map (λ c. c.1) more) n → AreOf set (take j more))
    → (b : Bool) → same_set set d.1 ≡ b → AreOf set (d ∷ take j more)
same_by set place n j d more h rest true k =
    let on : other_from set place (map (λ c. c.1) (d ∷ more)) n ≡ other_from set (place + 1) (map (λ c. c.1) more) n =
    ap (λ b. unwrap_or (elim (not b) [ true ↦ Some place | false ↦ first_where (λ s. not (same_set set s)) (place + 1) (map (λ c. c.1) more) ]) n) k in
    (sym (same_set-sound set d.1 k), rest (omega (arith, h, on)))
same_by set place n j d more h rest false k =
    let here : other_from set place (map (λ c. c.1) (d ∷ more)) n ≡ place =
    ap (λ b. unwrap_or (elim (not b) [ true ↦ Some place | false ↦ first_where (λ s. not (same_set set s)) (place + 1) (map (λ c. c.1) more) ]) n) k in
    absurd (omega (arith, h, here))

same_front : (set : PropSet) (place n k : ℕ) (more : List Cell) → place + k ≤ other_from set place (map (λ c. c.1) more) n → AreOf set (take k more)
same_front set place n zero more h = tt
same_front set place n (suc j) [] h = tt
same_front set place n (suc j) (d ∷ more) h = same_by set place n j d more h (λ k. same_front set (place + 1) n j more k) (same_set set d.1) refl

-- VISIBLE
pub visible-append : (until p : ℕ) (xs ys : List Cell) → visible until p (xs ++ ys) ≡ visible until p xs ++ visible until (p + length xs) ys
visible-append until p [] ys = let e : p ≡ p + 0 = omega arith in ap (λ n. visible until n ys) e
visible-append until p (c ∷ xs) ys =
    let e : p + 1 + length xs ≡ p + suc (length xs) = omega arith in
    ap (λ l. visible_one until p c ++ l) (visible-append until (p + 1) xs ys ∙ ap (λ n. visible until (p + 1) xs ++ visible until n ys) e) ∙ sym (append_assoc (visible_one until p c) (visible until (p + 1) xs) (visible until (p + suc (length xs)) ys))

none_visible : (until p : ℕ) (xs : List Cell) → p + length xs ≤ max until p → visible until p xs ≡ []
none_visible until p [] h = refl
none_visible until p (c ∷ xs) h =
    ap (λ b. (if b || is_some (get c.1 invisible) then [] else c.0 ∷ []) ++ visible until (p + 1) xs) (lt-ltb p until (omega (arith, h))) ∙ none_visible until (p + 1) xs (omega (arith, h))

alike_visible : (until p : ℕ) (set : PropSet) (xs : List Cell) → until ≤ p → AreOf set xs → (b : Bool) → is_some (get set invisible) ≡ b → visible until p xs ≡ (if b then [] else map (λ c. c.0) xs)
alike_visible until p set [] h are true e = refl
alike_visible until p set [] h are false e = refl
alike_visible until p set (c ∷ xs) h are b e =
    let one : visible_one until p c ≡ (if b then [] else c.0 ∷ []) = ap₂ (λ s t. if s || t then [] else c.0 ∷ []) (le-ltb p until h) (ap (λ s. is_some (get s invisible)) are.0 ∙ e) in
    ap₂ (λ a l. a ++ l) one (alike_visible until (p + 1) set xs (omega (arith, h)) are.1 b e) ∙ joined b
  where
    joined : (b : Bool) → (if b then [] else c.0 ∷ []) ++ (if b then [] else map (λ c. c.0) xs) ≡ (if b then [] else map (λ c. c.0) (c ∷ xs))
    joined true = refl
    joined false = refl

-- a part in two
visible_parts : (until from mid to : ℕ) (cells : List Cell) → from ≤ mid → mid ≤ to → to ≤ length cells → visible until from (part from mid cells) ++ visible until mid (part mid to cells) ≡ visible until from (part from to cells)
visible_parts until from mid to cells h k l =
    let e : from + length (part from mid cells) ≡ mid = omega (arith, part_length from mid cells (omega (arith, k, l)), h) in
    ap (λ n. visible until from (part from mid cells) ++ visible until n (part mid to cells)) (sym e)
    ∙ sym (ap (visible until from) (parts from mid to cells h k) ∙ visible-append until from (part from mid cells) (part mid to cells))

-- nothing is visible in front
pub visible_behind : (until from at to : ℕ) (cells : List Cell) → from ≤ at → at ≤ to → to ≤ length cells → at ≤ max until from → visible until at (part at to cells) ≡ visible until from (part from to cells)
visible_behind until from at to cells h k l m = ap (λ a. a ++ visible until at (part at to cells)) (sym (none until from at cells h (omega (arith, k, l)) m)) ∙ visible_parts until from at to cells h k l
  where
    none : (until from at : ℕ) (cells : List Cell) → from ≤ at → at ≤ length cells → at ≤ max until from → visible until from (part from at cells) ≡ []
    none until from at cells h l m = none_visible until from (part from at cells) (omega (arith, part_length from at cells l, h, m))

run_visible_by : (until at end : ℕ) (cells : List Cell) (c : Option Cell) → slice_get cells at ≡ c → at < end → end ≤ length cells → end ≤ run_end at (map (λ c. c.1) cells) → until ≤ at
    → elim c [ None ↦ [] | Some c ↦ if is_some (get c.1 invisible) then [] else map (λ c. c.0) (part at end cells) ] ≡ visible until at (part at end cells)
run_visible_by until at end cells None e h l k m = let there = sym e ∙ slice_get-get_or cells at (Scalar 0, []) (omega (arith, h, l)) in absurd (let k = there in cc)
run_visible_by until at end cells (Some c) e h l k m =
    let front : part at end cells ≡ c ∷ take (end - (at + 1)) (drop (at + 1) cells) =
    (let n : end - at ≡ suc (end - (at + 1)) = omega arith in part_is at end cells (omega (arith, h)) ∙ ap₂ (λ n l. take n l) n (drop_at cells at c e)) in
    let sets : drop at (map (λ c. c.1) cells) ≡ c.1 ∷ map (λ c. c.1) (drop (at + 1) cells) = drop-map (λ c. c.1) at cells ∙ ap (map (λ c. c.1)) (drop_at cells at c e) in
    let ends : run_end at (map (λ c. c.1) cells) ≡ other_from c.1 (at + 1) (map (λ c. c.1) (drop (at + 1) cells)) (length (map (λ c. c.1) cells)) =
    ap (λ l. elim l [ [] ↦ at | set ∷ more ↦ other_from set (at + 1) more (length (map (λ c. c.1) cells)) ]) sets in
    let are : AreOf c.1 (c ∷ take (end - (at + 1)) (drop (at + 1) cells)) =
    (refl, same_front c.1 (at + 1) (length (map (λ c. c.1) cells)) (end - (at + 1)) (drop (at + 1) cells) (omega (arith, h, k, ends))) in
    sym (alike_visible until at c.1 (part at end cells) m (subst (AreOf c.1) (sym front) are) (is_some (get c.1 invisible)) refl)

-- a run of one property set that is not hidden by its place
pub run_visible : (until at end to : ℕ) (cells : List Cell) → at < end → end ≤ to → to ≤ length cells → end ≤ run_end at (map (λ c. c.1) cells) → until ≤ at → run_of at end cells ++ visible until end (part end to cells) ≡ visible until at (part at to cells)
run_visible until at end to cells h j l k m =
    ap (λ a. a ++ visible until end (part end to cells)) (run_visible_by until at end cells (slice_get cells at) refl h (omega (arith, j, l)) k m) ∙ visible_parts until at end to cells (omega (arith, h)) j l

-- a run has a character
other_behind_by : (set s : PropSet) (place n : ℕ) (more : List PropSet) → (place + 1 ≤ other_from set (place + 1) more n) → (b : Bool) → same_set set s ≡ b → place ≤ other_from set place (s ∷ more) n
other_behind_by set s place n more h true k =
    let on : other_from set place (s ∷ more) n ≡ other_from set (place + 1) more n = ap (λ b. unwrap_or (elim (not b) [ true ↦ Some place | false ↦ first_where (λ s. not (same_set set s)) (place + 1) more ]) n) k in
    omega (arith, on, h)
other_behind_by set s place n more h false k =
    let here : other_from set place (s ∷ more) n ≡ place = ap (λ b. unwrap_or (elim (not b) [ true ↦ Some place | false ↦ first_where (λ s. not (same_set set s)) (place + 1) more ]) n) k in
    omega (arith, here)

other_behind : (set : PropSet) (place n : ℕ) (sets : List PropSet) → place + length sets ≤ n → place ≤ other_from set place sets n
other_behind set place n [] h = omega (arith, h)
other_behind set place n (s ∷ more) h = other_behind_by set s place n more (other_behind set (place + 1) n more (omega (arith, h))) (same_set set s) refl

behind_by : (sets : List PropSet) (at : ℕ) (rest : List PropSet) → drop at sets ≡ rest → at < length sets → at < run_end at sets
behind_by sets at [] e h = absurd (omega (arith, h, ap length e, length-drop at sets))
behind_by sets at (set ∷ more) e h =
    let ends : run_end at sets ≡ other_from set (at + 1) more (length sets) = ap (λ l. elim l [ [] ↦ at | set ∷ more ↦ other_from set (at + 1) more (length sets) ]) e in
    let long : length (drop at sets) ≡ suc (length more) = ap length e in
    omega (arith, ends, other_behind set (at + 1) (length sets) more (omega (arith, h, long, length-drop at sets)))

pub run_behind : (cells : List Cell) (at : ℕ) → at < length cells → at < run_end at (map (λ c. c.1) cells)
run_behind cells at h = behind_by (map (λ c. c.1) cells) at (drop at (map (λ c. c.1) cells)) refl (omega (arith, h, length-map cells (λ c. c.1)))
