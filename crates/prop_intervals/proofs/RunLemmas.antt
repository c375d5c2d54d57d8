-- Lists of runs.
use Rattle.std.proofs.Common.{◌≡◌, ℕ, ◌+◌, ◌-◌, ◌≤◌, ◌<◌, Bool, true, false, List, [], ◌∷◌, ◌++◌, refl, ap, sym, ◌∙◌, append-nil, append_assoc, arith}
use Rattle.std.specs.Prelude.{nat_lt, ◌==◌, if◌then◌else◌, MatchBool}
use Rattle.std.proofs.lemmas.Bool.{ne_eqb, lt-ltb, le-ltb, ltb-true, ltb-false}
use Rattle.text_model.specs.Properties.{PropSet, same_set}
use Rattle.text_model.proofs.Cases.{by_test, if_true, if_false}
use Rattle.prop_intervals.specs.Runs.{Run, size, grown, shrunk, before, behind, in_front, glued, IsPartOfRun, IsRunAt, CanCut}

pub size-append : (xs ys : List Run) → size (xs ++ ys) ≡ size xs + size ys
size-append [] ys = omega arith
size-append (x ∷ xs) ys = let rest = size-append xs ys in omega arith

pub grown-front : (at n : ℕ) (xs ys : List Run) → at < size xs → grown at n (xs ++ ys) ≡ grown at n xs ++ ys
grown-front at n [] ys h = absurd (omega arith)
grown-front at n (x ∷ xs) ys h = by_test (λ g. g ≡ grown at n (x ∷ xs) ++ ys) (nat_lt at x.1) ((x.0, x.1 + n) ∷ (xs ++ ys)) (x ∷ grown (at - x.1) n (xs ++ ys))
    (λ k. rw k refl)
    (λ k. let behind : x.1 ≤ at = ltb-false at x.1 k in rw k (ap (λ r. x ∷ r) (grown-front (at - x.1) n xs ys (omega arith))))

pub grown-behind : (at n : ℕ) (xs ys : List Run) → size xs ≤ at → grown at n (xs ++ ys) ≡ xs ++ grown (at - size xs) n ys
grown-behind at n [] ys h = let e : at - 0 ≡ at = omega arith in rw e refl
grown-behind at n (x ∷ xs) ys h =
    let e : at - (x.1 + size xs) ≡ at - x.1 - size xs = omega arith in
    if_false _ (le-ltb at x.1 (omega arith)) ∙ ap (λ r. x ∷ r) (grown-behind (at - x.1) n xs ys (omega arith) ∙ ap (λ i. xs ++ grown i n ys) (sym e))

pub grown-here : (at n : ℕ) (x : Run) (ys : List Run) → at < x.1 → grown at n (x ∷ ys) ≡ (x.0, x.1 + n) ∷ ys
grown-here at n x ys h = if_true _ (lt-ltb at x.1 h)

pub grown-next : (at n : ℕ) (x : Run) (ys : List Run) → x.1 ≤ at → grown at n (x ∷ ys) ≡ x ∷ grown (at - x.1) n ys
grown-next at n x ys h = if_false _ (le-ltb at x.1 h)

pub size-grown : (at n : ℕ) (xs : List Run) → at < size xs → size (grown at n xs) ≡ size xs + n
size-grown at n [] h = absurd (omega arith)
size-grown at n (x ∷ xs) h = by_test (λ g. size g ≡ size (x ∷ xs) + n) (nat_lt at x.1) ((x.0, x.1 + n) ∷ xs) (x ∷ grown (at - x.1) n xs)
    (λ k. omega arith)
    (λ k. let behind : x.1 ≤ at = ltb-false at x.1 k in omega (arith, size-grown (at - x.1) n xs (omega arith)))

pub ruleset size_steps = (size-append)

-- in a node
pub grown-left : (at n front : ℕ) (left new : List Run) (x : Run) (right : List Run) → front ≡ size left → at < front → new ≡ grown at n left → new ++ x ∷ right ≡ grown at n (left ++ x ∷ right)
grown-left at n front left new x right e h k = ap (λ r. r ++ x ∷ right) k ∙ sym (grown-front at n left (x ∷ right) (omega arith))

pub grown-own : (at n front : ℕ) (left : List Run) (x : Run) (right : List Run) → front ≡ size left → front ≤ at → at - front < x.1 → left ++ (x.0, x.1 + n) ∷ right ≡ grown at n (left ++ x ∷ right)
grown-own at n front left x right e h k =
    sym (grown-behind at n left (x ∷ right) (omega arith) ∙ ap (λ r. left ++ r) (grown-here (at - size left) n x right (omega arith)))

pub grown-right : (at n front : ℕ) (left : List Run) (x : Run) (right new : List Run) → front ≡ size left → front ≤ at → x.1 ≤ at - front → new ≡ grown (at - front - x.1) n right → left ++ x ∷ new ≡ grown at n (left ++ x ∷ right)
grown-right at n front left x right new e h k g =
    let same : at - size left - x.1 ≡ at - front - x.1 = omega arith in
    sym (grown-behind at n left (x ∷ right) (omega arith) ∙ ap (λ r. left ++ r) (grown-next (at - size left) n x right (omega arith) ∙ ap (λ i. x ∷ grown i n right) same ∙ ap (λ r. x ∷ r) (sym g)))

pub total-left : (at n front total : ℕ) (left new : List Run) (x : Run) (right : List Run) → front ≡ size left → at < front → new ≡ grown at n left → total ≡ size (left ++ x ∷ right) → total + n ≡ size (new ++ x ∷ right)
total-left at n front total left new x right e h k own =
    omega (arith, size-append left (x ∷ right), size-append new (x ∷ right), ap size k, size-grown at n left (omega arith))

pub total-own : (n total : ℕ) (left : List Run) (x : Run) (right : List Run) → total ≡ size (left ++ x ∷ right) → total + n ≡ size (left ++ (x.0, x.1 + n) ∷ right)
total-own n total left x right own = omega (arith, size-append left (x ∷ right), size-append left ((x.0, x.1 + n) ∷ right))

pub total-right : (at n front total : ℕ) (left : List Run) (x : Run) (right new : List Run) → front ≡ size left → front ≤ at → x.1 ≤ at - front → at < size (left ++ x ∷ right) → new ≡ grown (at - front - x.1) n right →
    total ≡ size (left ++ x ∷ right) → total + n ≡ size (left ++ x ∷ new)
total-right at n front total left x right new e h k within g own =
    let all = size-append left (x ∷ right) in
    let size-new = size-grown (at - front - x.1) n right (omega arith) in
    omega (arith, size-append left (x ∷ new), ap size g)

-- a run between two lists, of which the first or the second has parts
pub joined_right : (left xs : List Run) (x : Run) (ys : List Run) (new : Run) (right more : List Run) → left ≡ xs ++ x ∷ ys → more ≡ ys ++ new ∷ right → xs ++ x ∷ more ≡ left ++ new ∷ right
joined_right left xs x ys new right more whole part = rw (whole, part) (sym (append_assoc xs (x ∷ ys) (new ∷ right)))

pub joined_left : (left : List Run) (new : Run) (right xs : List Run) (x : Run) (ys more : List Run) → right ≡ xs ++ x ∷ ys → more ≡ left ++ new ∷ xs → more ++ x ∷ ys ≡ left ++ new ∷ right
joined_left left new right xs x ys more whole part = rw (whole, part) (append_assoc left (new ∷ xs) (x ∷ ys))

-- CUT
pub before-front : (at : ℕ) (xs ys : List Run) → at < size xs → before at (xs ++ ys) ≡ before at xs
before-front at [] ys h = absurd (omega arith)
before-front at (x ∷ xs) ys h = cut (before-front (at - x.1) xs ys) (nat_lt at x.1) refl
  where
    cut : (at - x.1 < size xs → before (at - x.1) (xs ++ ys) ≡ before (at - x.1) xs) → (b : Bool) → nat_lt at x.1 ≡ b →
        (if b then (if at == 0 then [] else (x.0, at) ∷ []) else x ∷ before (at - x.1) (xs ++ ys)) ≡ (if b then (if at == 0 then [] else (x.0, at) ∷ []) else x ∷ before (at - x.1) xs)
    cut ih true k = refl
    cut ih false k = let behind : x.1 ≤ at = ltb-false at x.1 k in ap (λ r. x ∷ r) (ih (omega arith))

pub before-behind : (at : ℕ) (xs ys : List Run) → size xs ≤ at → before at (xs ++ ys) ≡ xs ++ before (at - size xs) ys
before-behind at [] ys h = let e : at - 0 ≡ at = omega arith in rw e refl
before-behind at (x ∷ xs) ys h =
    let e : at - (x.1 + size xs) ≡ at - x.1 - size xs = omega arith in
    if_false _ (le-ltb at x.1 (omega arith)) ∙ ap (λ r. x ∷ r) (before-behind (at - x.1) xs ys (omega arith) ∙ ap (λ i. xs ++ before i ys) (sym e))

pub before-here : (at : ℕ) (x : Run) (ys : List Run) → at < x.1 → 0 < at → before at (x ∷ ys) ≡ (x.0, at) ∷ []
before-here at x ys h k = if_true _ (lt-ltb at x.1 h) ∙ if_false _ (ne_eqb at 0 (λ e. omega arith))

pub before-start : (x : Run) (ys : List Run) → 0 < x.1 → before 0 (x ∷ ys) ≡ []
before-start x ys h = if_true _ (lt-ltb 0 x.1 h)

pub before-next : (at : ℕ) (x : Run) (ys : List Run) → x.1 ≤ at → before at (x ∷ ys) ≡ x ∷ before (at - x.1) ys
before-next at x ys h = if_false _ (le-ltb at x.1 h)

pub behind-front : (at : ℕ) (xs ys : List Run) → at < size xs → behind at (xs ++ ys) ≡ behind at xs ++ ys
behind-front at [] ys h = absurd (omega arith)
behind-front at (x ∷ xs) ys h = by_test (λ g. g ≡ behind at (x ∷ xs) ++ ys) (nat_lt at x.1) ((x.0, x.1 - at) ∷ (xs ++ ys)) (behind (at - x.1) (xs ++ ys))
    (λ k. rw k refl)
    (λ k. let past : x.1 ≤ at = ltb-false at x.1 k in rw k (behind-front (at - x.1) xs ys (omega arith)))

pub behind-behind : (at : ℕ) (xs ys : List Run) → size xs ≤ at → behind at (xs ++ ys) ≡ behind (at - size xs) ys
behind-behind at [] ys h = let e : at - 0 ≡ at = omega arith in rw e refl
behind-behind at (x ∷ xs) ys h =
    let e : at - (x.1 + size xs) ≡ at - x.1 - size xs = omega arith in
    if_false _ (le-ltb at x.1 (omega arith)) ∙ behind-behind (at - x.1) xs ys (omega arith) ∙ ap (λ i. behind i ys) (sym e)

pub behind-here : (at : ℕ) (x : Run) (ys : List Run) → at < x.1 → behind at (x ∷ ys) ≡ (x.0, x.1 - at) ∷ ys
behind-here at x ys h = if_true _ (lt-ltb at x.1 h)

pub behind-start : (x : Run) (ys : List Run) → 0 < x.1 → behind 0 (x ∷ ys) ≡ x ∷ ys
behind-start x ys h = if_true _ (lt-ltb 0 x.1 h) ∙ (let e : x.1 - 0 ≡ x.1 = omega arith in rw e refl)

pub behind-next : (at : ℕ) (x : Run) (ys : List Run) → x.1 ≤ at → behind at (x ∷ ys) ≡ behind (at - x.1) ys
behind-next at x ys h = if_false _ (le-ltb at x.1 h)

pub size-before : (at : ℕ) (xs : List Run) → size (before at xs) ≤ size xs
size-before at [] = omega arith
size-before at (x ∷ xs) = by_test (λ g. size g ≤ size (x ∷ xs)) (nat_lt at x.1) (if at == 0 then [] else (x.0, at) ∷ []) (x ∷ before (at - x.1) xs)
    (λ k. let here : at < x.1 = ltb-true at x.1 k in by_test (λ g. size g ≤ size (x ∷ xs)) (at == 0) [] ((x.0, at) ∷ []) (λ e. omega arith) (λ e. omega arith))
    (λ k. let rest = size-before (at - x.1) xs in omega arith)

pub size-behind : (at : ℕ) (xs : List Run) → size (behind at xs) ≤ size xs
size-behind at [] = omega arith
size-behind at (x ∷ xs) = by_test (λ g. size g ≤ size (x ∷ xs)) (nat_lt at x.1) ((x.0, x.1 - at) ∷ xs) (behind (at - x.1) xs)
    (λ k. omega arith)
    (λ k. let rest = size-behind (at - x.1) xs in omega arith)

pub before-between : (at : ℕ) (xs : List Run) (x : Run) (ys : List Run) → at ≡ size xs → 0 < x.1 → before at (xs ++ x ∷ ys) ≡ xs
before-between at xs x ys h k =
    let e : at - size xs ≡ 0 = omega arith in
    before-behind at xs (x ∷ ys) (omega arith) ∙ ap (λ i. xs ++ before i (x ∷ ys)) e ∙ ap (λ r. xs ++ r) (before-start x ys k) ∙ append-nil xs

-- A SET AT A PLACE
kept_by : (b : Bool) (P Q R : Type 0) → (b ≡ false → Q → R) → MatchBool b P Q → MatchBool b P R
kept_by true P Q R f h = h
kept_by false P Q R f h = f refl h

first_by : (b : Bool) (P Q : Type 0) → b ≡ true → MatchBool b P Q → P
first_by true P Q k h = h
first_by false P Q k h = cc

second_by : (b : Bool) (P Q : Type 0) → b ≡ false → MatchBool b P Q → Q
second_by true P Q k h = cc
second_by false P Q k h = h

pub can_cut-front : (at : ℕ) (xs ys : List Run) (s : PropSet) → at < size xs → CanCut (xs ++ ys) at s → CanCut xs at s
can_cut-front at [] ys s h k = tt
can_cut-front at (x ∷ xs) ys s h k =
    kept_by (nat_lt at x.1) (0 < at → x.0 ≡ s) (CanCut (xs ++ ys) (at - x.1) s) (CanCut xs (at - x.1) s)
    (λ e. let past : x.1 ≤ at = ltb-false at x.1 e in can_cut-front (at - x.1) xs ys s (omega arith)) k

pub can_cut-behind : (at : ℕ) (xs ys : List Run) (s : PropSet) → size xs ≤ at → CanCut (xs ++ ys) at s → CanCut ys (at - size xs) s
can_cut-behind at [] ys s h k = let e : at - 0 ≡ at = omega arith in rw e k
can_cut-behind at (x ∷ xs) ys s h k =
    let e : at - (x.1 + size xs) ≡ at - x.1 - size xs = omega arith in
    rw e (can_cut-behind (at - x.1) xs ys s (omega arith) (second_by (nat_lt at x.1) (0 < at → x.0 ≡ s) (CanCut (xs ++ ys) (at - x.1) s) (le-ltb at x.1 (omega arith)) k))

pub can_cut-here : (at : ℕ) (x : Run) (ys : List Run) (s : PropSet) → at < x.1 → CanCut (x ∷ ys) at s → 0 < at → x.0 ≡ s
can_cut-here at x ys s h k = first_by (nat_lt at x.1) (0 < at → x.0 ≡ s) (CanCut ys (at - x.1) s) (lt-ltb at x.1 h) k

pub can_cut-next : (at : ℕ) (x : Run) (ys : List Run) (s : PropSet) → x.1 ≤ at → CanCut (x ∷ ys) at s → CanCut ys (at - x.1) s
can_cut-next at x ys s h k = second_by (nat_lt at x.1) (0 < at → x.0 ≡ s) (CanCut ys (at - x.1) s) (le-ltb at x.1 h) k

-- in a node
pub can_cut-right : (at front own : ℕ) (left : List Run) (x : Run) (right : List Run) (s : PropSet) → front ≡ size left → own ≡ x.1 → front ≤ at → own ≤ at - front → CanCut (left ++ x ∷ right) at s → CanCut right (at - front - own) s
can_cut-right at front own left x right s e o h l k =
    let same : at - front - own ≡ at - size left - x.1 = omega arith in
    rw same (can_cut-next (at - size left) x right s (omega arith) (can_cut-behind at left (x ∷ right) s (omega arith) k))

pub before-right : (at front own : ℕ) (left : List Run) (x : Run) (right new : List Run) → front ≡ size left → own ≡ x.1 → front ≤ at → own ≤ at - front → new ≡ before (at - front - own) right → left ++ x ∷ new ≡ before at (left ++ x ∷ right)
before-right at front own left x right new e o h l g =
    let same : at - size left - x.1 ≡ at - front - own = omega arith in
    sym (before-behind at left (x ∷ right) (omega arith) ∙ ap (λ r. left ++ r) (before-next (at - size left) x right (omega arith) ∙ ap (λ i. x ∷ before i right) same ∙ ap (λ r. x ∷ r) (sym g)))

pub behind-right : (at front own : ℕ) (left : List Run) (x : Run) (right new : List Run) → front ≡ size left → own ≡ x.1 → front ≤ at → own ≤ at - front → new ≡ behind (at - front - own) right → new ≡ behind at (left ++ x ∷ right)
behind-right at front own left x right new e o h l g =
    let same : at - size left - x.1 ≡ at - front - own = omega arith in
    g ∙ sym (behind-behind at left (x ∷ right) (omega arith) ∙ behind-next (at - size left) x right (omega arith) ∙ ap (λ i. behind i right) same)

pub behind-between : (at : ℕ) (left : List Run) (x : Run) (right : List Run) → at ≡ size left → 0 < x.1 → behind at (left ++ x ∷ right) ≡ x ∷ right
behind-between at left x right h k =
    let e : at - size left ≡ 0 = omega arith in
    behind-behind at left (x ∷ right) (omega arith) ∙ ap (λ i. behind i (x ∷ right)) e ∙ behind-start x right k

pub before-within : (at front : ℕ) (left : List Run) (x : Run) (right : List Run) → front ≡ size left → front < at → at - front < x.1 → left ++ (x.0, at - front) ∷ [] ≡ before at (left ++ x ∷ right)
before-within at front left x right e h k =
    let same : at - size left ≡ at - front = omega arith in
    sym (before-behind at left (x ∷ right) (omega arith) ∙ ap (λ i. left ++ before i (x ∷ right)) same ∙ ap (λ r. left ++ r) (before-here (at - front) x right k (omega arith)))

pub behind-within : (at front : ℕ) (left : List Run) (x : Run) (right : List Run) (s : PropSet) → front ≡ size left → front < at → at - front < x.1 → CanCut (left ++ x ∷ right) at s → (s, x.1 - (at - front)) ∷ right ≡ behind at (left ++ x ∷ right)
behind-within at front left x right s e h k set =
    let same : at - size left ≡ at - front = omega arith in
    let own : x.0 ≡ s = can_cut-here (at - size left) x right s (omega arith) (can_cut-behind at left (x ∷ right) s (omega arith) set) (omega arith) in
    sym (behind-behind at left (x ∷ right) (omega arith) ∙ ap (λ i. behind i (x ∷ right)) same ∙ behind-here (at - front) x right k ∙ ap (λ (r : PropSet). (r, x.1 - (at - front)) ∷ right) own)

-- A SHORTER RUN
pub shrunk-front : (at n : ℕ) (xs ys : List Run) → at < size xs → shrunk at n (xs ++ ys) ≡ shrunk at n xs ++ ys
shrunk-front at n [] ys h = absurd (omega arith)
shrunk-front at n (x ∷ xs) ys h = by_test (λ g. g ≡ shrunk at n (x ∷ xs) ++ ys) (nat_lt at x.1) ((x.0, x.1 - n) ∷ (xs ++ ys)) (x ∷ shrunk (at - x.1) n (xs ++ ys))
    (λ k. rw k refl)
    (λ k. let behind : x.1 ≤ at = ltb-false at x.1 k in rw k (ap (λ r. x ∷ r) (shrunk-front (at - x.1) n xs ys (omega arith))))

pub shrunk-behind : (at n : ℕ) (xs ys : List Run) → size xs ≤ at → shrunk at n (xs ++ ys) ≡ xs ++ shrunk (at - size xs) n ys
shrunk-behind at n [] ys h = let e : at - 0 ≡ at = omega arith in rw e refl
shrunk-behind at n (x ∷ xs) ys h =
    let e : at - (x.1 + size xs) ≡ at - x.1 - size xs = omega arith in
    if_false _ (le-ltb at x.1 (omega arith)) ∙ ap (λ r. x ∷ r) (shrunk-behind (at - x.1) n xs ys (omega arith) ∙ ap (λ i. xs ++ shrunk i n ys) (sym e))

pub shrunk-here : (at n : ℕ) (x : Run) (ys : List Run) → at < x.1 → shrunk at n (x ∷ ys) ≡ (x.0, x.1 - n) ∷ ys
shrunk-here at n x ys h = if_true _ (lt-ltb at x.1 h)

pub shrunk-next : (at n : ℕ) (x : Run) (ys : List Run) → x.1 ≤ at → shrunk at n (x ∷ ys) ≡ x ∷ shrunk (at - x.1) n ys
shrunk-next at n x ys h = if_false _ (le-ltb at x.1 h)

pub part-front : (at n : ℕ) (xs ys : List Run) → at < size xs → IsPartOfRun at n (xs ++ ys) → IsPartOfRun at n xs
part-front at n [] ys h k = absurd (omega arith)
part-front at n (x ∷ xs) ys h k =
    kept_by (nat_lt at x.1) ((at + n ≤ x.1) × (n < x.1)) (IsPartOfRun (at - x.1) n (xs ++ ys)) (IsPartOfRun (at - x.1) n xs)
    (λ e. let past : x.1 ≤ at = ltb-false at x.1 e in part-front (at - x.1) n xs ys (omega arith)) k

pub part-behind : (at n : ℕ) (xs ys : List Run) → size xs ≤ at → IsPartOfRun at n (xs ++ ys) → IsPartOfRun (at - size xs) n ys
part-behind at n [] ys h k = let e : at - 0 ≡ at = omega arith in rw e k
part-behind at n (x ∷ xs) ys h k =
    let e : at - (x.1 + size xs) ≡ at - x.1 - size xs = omega arith in
    rw e (part-behind (at - x.1) n xs ys (omega arith) (second_by (nat_lt at x.1) ((at + n ≤ x.1) × (n < x.1)) (IsPartOfRun (at - x.1) n (xs ++ ys)) (le-ltb at x.1 (omega arith)) k))

pub part-here : (at n : ℕ) (x : Run) (ys : List Run) → at < x.1 → IsPartOfRun at n (x ∷ ys) → n < x.1
part-here at n x ys h k = (first_by (nat_lt at x.1) ((at + n ≤ x.1) × (n < x.1)) (IsPartOfRun (at - x.1) n ys) (lt-ltb at x.1 h) k).1

pub part-next : (at n : ℕ) (x : Run) (ys : List Run) → x.1 ≤ at → IsPartOfRun at n (x ∷ ys) → IsPartOfRun (at - x.1) n ys
part-next at n x ys h k = second_by (nat_lt at x.1) ((at + n ≤ x.1) × (n < x.1)) (IsPartOfRun (at - x.1) n ys) (le-ltb at x.1 h) k

pub part-size : (at n : ℕ) (xs : List Run) → IsPartOfRun at n xs → at + n ≤ size xs
part-size at n [] k = absurd k
part-size at n (x ∷ xs) k = go (part-size (at - x.1) n xs) (nat_lt at x.1) refl k
  where
    go : (IsPartOfRun (at - x.1) n xs → at - x.1 + n ≤ size xs) → (b : Bool) → nat_lt at x.1 ≡ b → MatchBool b ((at + n ≤ x.1) × (n < x.1)) (IsPartOfRun (at - x.1) n xs) → at + n ≤ x.1 + size xs
    go ih true t e = let own = e.0 in omega arith
    go ih false t e = let past : x.1 ≤ at = ltb-false at x.1 t in let rest = ih e in omega arith

pub size-shrunk : (at n : ℕ) (xs : List Run) → IsPartOfRun at n xs → size (shrunk at n xs) + n ≡ size xs
size-shrunk at n [] k = absurd k
size-shrunk at n (x ∷ xs) k = go (size-shrunk (at - x.1) n xs) (nat_lt at x.1) k
  where
    go : (IsPartOfRun (at - x.1) n xs → size (shrunk (at - x.1) n xs) + n ≡ size xs) → (b : Bool) → MatchBool b ((at + n ≤ x.1) × (n < x.1)) (IsPartOfRun (at - x.1) n xs) →
        size (if b then (x.0, x.1 - n) ∷ xs else x ∷ shrunk (at - x.1) n xs) + n ≡ x.1 + size xs
    go ih true e = let own = e.1 in omega arith
    go ih false e = let rest = ih e in omega arith

-- in a node
pub part-left : (at n front : ℕ) (left : List Run) (x : Run) (right : List Run) → front ≡ size left → at < front → IsPartOfRun at n (left ++ x ∷ right) → IsPartOfRun at n left
part-left at n front left x right e h k = part-front at n left (x ∷ right) (omega arith) k

pub part-own : (at n front : ℕ) (left : List Run) (x : Run) (right : List Run) → front ≡ size left → front ≤ at → at - front < x.1 → IsPartOfRun at n (left ++ x ∷ right) → n < x.1
part-own at n front left x right e h l k = part-here (at - size left) n x right (omega arith) (part-behind at n left (x ∷ right) (omega arith) k)

pub part-right : (at n front : ℕ) (left : List Run) (x : Run) (right : List Run) → front ≡ size left → front ≤ at → x.1 ≤ at - front → IsPartOfRun at n (left ++ x ∷ right) → IsPartOfRun (at - front - x.1) n right
part-right at n front left x right e h l k =
    let same : at - front - x.1 ≡ at - size left - x.1 = omega arith in
    rw same (part-next (at - size left) n x right (omega arith) (part-behind at n left (x ∷ right) (omega arith) k))

pub shrunk-left : (at n front : ℕ) (left new : List Run) (x : Run) (right : List Run) → front ≡ size left → at < front → new ≡ shrunk at n left → new ++ x ∷ right ≡ shrunk at n (left ++ x ∷ right)
shrunk-left at n front left new x right e h k = ap (λ r. r ++ x ∷ right) k ∙ sym (shrunk-front at n left (x ∷ right) (omega arith))

pub shrunk-own : (at n front : ℕ) (left : List Run) (x : Run) (right : List Run) → front ≡ size left → front ≤ at → at - front < x.1 → left ++ (x.0, x.1 - n) ∷ right ≡ shrunk at n (left ++ x ∷ right)
shrunk-own at n front left x right e h k =
    sym (shrunk-behind at n left (x ∷ right) (omega arith) ∙ ap (λ r. left ++ r) (shrunk-here (at - size left) n x right (omega arith)))

pub shrunk-right : (at n front : ℕ) (left : List Run) (x : Run) (right new : List Run) → front ≡ size left → front ≤ at → x.1 ≤ at - front → new ≡ shrunk (at - front - x.1) n right → left ++ x ∷ new ≡ shrunk at n (left ++ x ∷ right)
shrunk-right at n front left x right new e h k g =
    let same : at - size left - x.1 ≡ at - front - x.1 = omega arith in
    sym (shrunk-behind at n left (x ∷ right) (omega arith) ∙ ap (λ r. left ++ r) (shrunk-next (at - size left) n x right (omega arith) ∙ ap (λ i. x ∷ shrunk i n right) same ∙ ap (λ r. x ∷ r) (sym g)))

pub less-left : (at n total : ℕ) (left new : List Run) (x : Run) (right : List Run) → IsPartOfRun at n left → new ≡ shrunk at n left → total ≡ size (left ++ x ∷ right) → total - n ≡ size (new ++ x ∷ right)
less-left at n total left new x right h k own =
    omega (arith, size-append left (x ∷ right), size-append new (x ∷ right), ap size k, size-shrunk at n left h)

pub less-own : (n total : ℕ) (left : List Run) (x : Run) (right : List Run) → n < x.1 → total ≡ size (left ++ x ∷ right) → total - n ≡ size (left ++ (x.0, x.1 - n) ∷ right)
less-own n total left x right h own = omega (arith, size-append left (x ∷ right), size-append left ((x.0, x.1 - n) ∷ right))

pub less-right : (at n total : ℕ) (left : List Run) (x : Run) (right new : List Run) → IsPartOfRun at n right → new ≡ shrunk at n right → total ≡ size (left ++ x ∷ right) → total - n ≡ size (left ++ x ∷ new)
less-right at n total left x right new h k own =
    omega (arith, size-append left (x ∷ right), size-append left (x ∷ new), ap size k, size-shrunk at n right h)

-- GLUED
pub glued-push : (xs : List Run) (x : Run) (ys : List Run) → glued (xs ++ x ∷ []) ys ≡ xs ++ in_front x ys
glued-push [] x ys = refl
glued-push (w ∷ []) x ys = refl
glued-push (w ∷ v ∷ xs) x ys = ap (λ r. w ∷ r) (glued-push (v ∷ xs) x ys)

pub glued-nil : (xs : List Run) → glued xs [] ≡ xs
glued-nil [] = refl
glued-nil (x ∷ []) = refl
glued-nil (x ∷ y ∷ xs) = ap (λ r. x ∷ r) (glued-nil (y ∷ xs))

pub in_front-same : (x y : Run) (ys : List Run) → same_set x.0 y.0 ≡ true → in_front x (y ∷ ys) ≡ (x.0, x.1 + y.1) ∷ ys
in_front-same x y ys h = if_true _ h

pub in_front-other : (x y : Run) (ys : List Run) → same_set x.0 y.0 ≡ false → in_front x (y ∷ ys) ≡ x ∷ y ∷ ys
in_front-other x y ys h = if_false _ h

pub ruleset glue_steps = (size-append, glued-push, glued-nil)

pub ruleset meet_steps = (size-append, in_front-same, in_front-other)

-- THE RUN AT A PLACE
pub run_at-front : (xs ys : List Run) (place : ℕ) (set : PropSet) (start end : ℕ) → IsRunAt xs place set start end → IsRunAt (xs ++ ys) place set start end
run_at-front xs ys place set start end h =
    record { front = h.front; back = h.back ++ ys; runs_are = ap (λ r. r ++ ys) h.runs_are ∙ append_assoc h.front ((set, end - start) ∷ h.back) ys; start_is = h.start_is; starts = h.starts; ends = h.ends }

pub run_at-behind : (xs ys : List Run) (place : ℕ) (set : PropSet) (start end : ℕ) → IsRunAt ys place set start end → IsRunAt (xs ++ ys) (size xs + place) set (size xs + start) (size xs + end)
run_at-behind xs ys place set start end h =
    let same : (size xs + end) - (size xs + start) ≡ end - start = omega arith in
    record {
      front = xs ++ h.front;
      back = h.back;
      runs_are = rw same (ap (λ r. xs ++ r) h.runs_are ∙ sym (append_assoc xs h.front ((set, end - start) ∷ h.back)));
      start_is = ap (λ n. size xs + n) h.start_is ∙ sym (size-append xs h.front);
      starts = let s = h.starts in omega arith;
      ends = let e = h.ends in omega arith;
    }

pub run_at-here : (x : Run) (ys : List Run) (place : ℕ) → place < x.1 → IsRunAt (x ∷ ys) place x.0 0 x.1
run_at-here x ys place h = let same : x.1 - 0 ≡ x.1 = omega arith in record { front = []; back = ys; runs_are = rw same refl; start_is = refl; starts = omega arith; ends = h }

-- in a node
pub run_at-node : (left : List Run) (x : Run) (right : List Run) (place front : ℕ) → front ≡ size left → front ≤ place → place - front < x.1 → IsRunAt (left ++ x ∷ right) place x.0 front (front + x.1)
run_at-node left x right place front e h k =
    let found = run_at-behind left (x ∷ right) (place - front) x.0 0 x.1 (run_at-here x right (place - front) k) in
    let p : size left + (place - front) ≡ place = omega arith in
    let a : size left + 0 ≡ front = omega arith in
    let b : size left + x.1 ≡ front + x.1 = omega arith in
    rw (a, b, p) at found

pub run_at-right : (left : List Run) (x : Run) (right : List Run) (place front : ℕ) (set : PropSet) (start end : ℕ) → front ≡ size left → front + x.1 ≤ place → IsRunAt right (place - front - x.1) set start end →
    IsRunAt (left ++ x ∷ right) place set (front + x.1 + start) (front + x.1 + end)
run_at-right left x right place front set start end e h found =
    let all : IsRunAt ((left ++ x ∷ []) ++ right) (size (left ++ x ∷ []) + (place - front - x.1)) set (size (left ++ x ∷ []) + start) (size (left ++ x ∷ []) + end) = run_at-behind (left ++ x ∷ []) right (place - front - x.1) set start end found in
    let w : size (left ++ x ∷ []) ≡ front + x.1 = (let t = size-append left (x ∷ []) in omega arith) in
    let p : (front + x.1) + (place - front - x.1) ≡ place = omega arith in
    rw (append_assoc left (x ∷ []) right, w, p) at all

pub ruleset find_steps = (size-append, run_at-front, run_at-node, run_at-right)
