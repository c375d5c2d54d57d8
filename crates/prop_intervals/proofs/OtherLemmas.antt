-- The runs whose set differs from a given one.
use Rattle.std.proofs.Common.{◌≡◌, ℕ, zero, suc, ◌+◌, ◌-◌, ◌<◌, ◌≤◌, Bool, true, false, List, [], ◌∷◌, ◌++◌, length, take, map, refl, sym, ap, subst, ◌∙◌, append-nil, append_assoc, arith}
use Rattle.std.specs.Prelude.{◌&&◌, not, nat_le, nat_lt, filter, replicate, Option, Some, None, option_map, if◌then◌else◌}
use Rattle.std.proofs.lemmas.Bool.{leb-true, le-leb, lt-leb, ltb-true, ltb-false, le-ltb, lt-ltb, false≢true}
use Rattle.std.proofs.lemmas.List.Elements.{filter-append}
use Rattle.text_model.specs.Properties.{PropSet}
use Rattle.text_model.specs.PropertyQuestions.{first, last, unless_same, changes, changes_after, next_change, previous_change}
use Rattle.prop_intervals.specs.Runs.{Run, size, sets_of, IsRunAt, AreApart}
use Rattle.prop_intervals.specs.Sets.{changes_of, same_by, before, behind}
use Rattle.prop_intervals.specs.Others.{starts_of, ends_of, lies_from, first_from, last_from}
use Rattle.std.proofs.Math.Seq.{take-append_seam}
use Rattle.prop_intervals.proofs.SetLemmas.{length-sets_of}
use Rattle.prop_intervals.proofs.QuestionLemmas.{same_by-same, same_by-left, same_by-right, append_unless, along_run, after_like, behind_run, next_starts, previous_starts}
use Rattle.prop_intervals.proofs.PartLemmas.{Rising, next_part, previous_part}

-- PLACES ABOVE AND BELOW ONE
abbrev UpTo : ℕ → List ℕ → Type 0
UpTo n [] = Unit {0}
UpTo n (x ∷ xs) = (x ≤ n) × UpTo n xs

abbrev From : ℕ → List ℕ → Type 0
From n [] = Unit {0}
From n (x ∷ xs) = (n ≤ x) × From n xs

-- WHERE THEY START
starts-append : (name : Option ℕ) (set : PropSet) (p : ℕ) (xs ys : List Run) → starts_of name set p (xs ++ ys) ≡ starts_of name set p xs ++ starts_of name set (p + size xs) ys
starts-append name set p [] ys = let e : p ≡ p + 0 = omega arith in ap (λ q. starts_of name set q ys) e
starts-append name set p (x ∷ xs) ys =
    let e : p + x.1 + size xs ≡ p + (x.1 + size xs) = omega arith in
    ap (unless_same (same_by name set x.0) p) (starts-append name set (p + x.1) xs ys ∙ ap (λ q. starts_of name set (p + x.1) xs ++ starts_of name set q ys) e)
    ∙ append_unless (same_by name set x.0) p (starts_of name set (p + x.1) xs) (starts_of name set (p + (x.1 + size xs)) ys)

unless-shift : (b : Bool) (k p : ℕ) (l : List ℕ) → unless_same b (k + p) (map (λ q. k + q) l) ≡ map (λ q. k + q) (unless_same b p l)
unless-shift true k p l = refl
unless-shift false k p l = refl

starts-shift : (name : Option ℕ) (set : PropSet) (k p : ℕ) (xs : List Run) → starts_of name set (k + p) xs ≡ map (λ q. k + q) (starts_of name set p xs)
starts-shift name set k p [] = refl
starts-shift name set k p (x ∷ xs) =
    let e : k + p + x.1 ≡ k + (p + x.1) = omega arith in
    ap (unless_same (same_by name set x.0) (k + p)) (ap (λ q. starts_of name set q xs) e ∙ starts-shift name set k (p + x.1) xs)
    ∙ unless-shift (same_by name set x.0) k p (starts_of name set (p + x.1) xs)

starts-up_to : (name : Option ℕ) (set : PropSet) (p bound : ℕ) (xs : List Run) → p + size xs ≤ bound → UpTo bound (starts_of name set p xs)
starts-up_to name set p bound [] h = tt
starts-up_to name set p bound (x ∷ xs) h = go (same_by name set x.0) (starts-up_to name set (p + x.1) bound xs (omega (arith, h)))
  where
    go : (b : Bool) → UpTo bound (starts_of name set (p + x.1) xs) → UpTo bound (unless_same b p (starts_of name set (p + x.1) xs))
    go true rest = rest
    go false rest = (omega (arith, h), rest)

rising-sooner : (n m : ℕ) (xs : List ℕ) → n ≤ m → Rising m xs → Rising n xs
rising-sooner n m [] h r = tt
rising-sooner n m (x ∷ xs) h r = (let k = r.0 in omega (arith, k, h), r.1)

starts-rising : (name : Option ℕ) (set : PropSet) (p : ℕ) (xs : List Run) → AreApart xs → Rising p (starts_of name set p xs)
starts-rising name set p [] h = tt
starts-rising name set p (x ∷ xs) h = go (same_by name set x.0) (starts-rising name set (p + x.1) xs h.2)
  where
    go : (b : Bool) → Rising (p + x.1) (starts_of name set (p + x.1) xs) → Rising p (unless_same b p (starts_of name set (p + x.1) xs))
    go true rest = rising-sooner p (p + x.1) (starts_of name set (p + x.1) xs) (omega arith) rest
    go false rest = (omega arith, rising-sooner (p + 1) (p + x.1) (starts_of name set (p + x.1) xs) (let k = h.0 in omega (arith, k)) rest)

starts-from : (name : Option ℕ) (set : PropSet) (p n : ℕ) (xs : List Run) → n ≤ p → From n (starts_of name set p xs)
starts-from name set p n [] h = tt
starts-from name set p n (x ∷ xs) h = go (same_by name set x.0) (starts-from name set (p + x.1) n xs (omega (arith, h)))
  where
    go : (b : Bool) → From n (starts_of name set (p + x.1) xs) → From n (unless_same b p (starts_of name set (p + x.1) xs))
    go true rest = rest
    go false rest = (h, rest)

-- IN A PART
low : (from to x : ℕ) → x < from → lies_from from to x ≡ false
low from to x h = rw (lt-leb from x h) refl

high : (from to x : ℕ) → to ≤ x → lies_from from to x ≡ false
high from to x h = rw (le-ltb x to h) (both (nat_le from x))
  where
    both : (b : Bool) → (b && false) ≡ false
    both true = refl
    both false = refl

none_low : (from to bound : ℕ) (xs : List ℕ) → bound < from → UpTo bound xs → filter (lies_from from to) xs ≡ []
none_low from to bound [] h k = refl
none_low from to bound (x ∷ xs) h k = rw (low from to x (let l = k.0 in omega (arith, l, h))) (none_low from to bound xs h k.1)

none_high : (from to n : ℕ) (xs : List ℕ) → to ≤ n → From n xs → filter (lies_from from to) xs ≡ []
none_high from to n [] h k = refl
none_high from to n (x ∷ xs) h k = rw (high from to x (let l = k.0 in omega (arith, l, h))) (none_high from to n xs h k.1)

same_tests : (b c : Bool) → (b ≡ true → c ≡ true) → (c ≡ true → b ≡ true) → b ≡ c
same_tests true true f g = refl
same_tests true false f g = sym (f refl)
same_tests false true f g = g refl
same_tests false false f g = refl

le-shift : (from k q : ℕ) → nat_le from (k + q) ≡ nat_le (from - k) q
le-shift from k q = same_tests _ _
    (λ e. le-leb (from - k) q (let l = leb-true from (k + q) e in omega (arith, l)))
    (λ e. le-leb from (k + q) (let l = leb-true (from - k) q e in omega (arith, l)))

lt-shift : (to k q : ℕ) → nat_lt (k + q) to ≡ nat_lt q (to - k)
lt-shift to k q = same_tests _ _
    (λ e. lt-ltb q (to - k) (let l = ltb-true (k + q) to e in omega (arith, l)))
    (λ e. lt-ltb (k + q) to (let l = ltb-true q (to - k) e in omega (arith, l)))

filter-shift : (from to k : ℕ) (xs : List ℕ) → filter (lies_from from to) (map (λ q. k + q) xs) ≡ map (λ q. k + q) (filter (lies_from (from - k) (to - k)) xs)
filter-shift from to k [] = refl
filter-shift from to k (x ∷ xs) = rw (le-shift from k x, lt-shift to k x) (go (nat_le (from - k) x && nat_lt x (to - k)) (filter-shift from to k xs))
  where
    go : (b : Bool) → filter (lies_from from to) (map (λ q. k + q) xs) ≡ map (λ q. k + q) (filter (lies_from (from - k) (to - k)) xs)
        → (if b then (k + x) ∷ filter (lies_from from to) (map (λ q. k + q) xs) else filter (lies_from from to) (map (λ q. k + q) xs))
        ≡ map (λ q. k + q) (if b then x ∷ filter (lies_from (from - k) (to - k)) xs else filter (lies_from (from - k) (to - k)) xs)
    go true ih = ap (λ l. (k + x) ∷ l) ih
    go false ih = ih

first-map : (k : ℕ) (xs : List ℕ) → first (map (λ q. k + q) xs) ≡ option_map (λ q. k + q) (first xs)
first-map k [] = refl
first-map k (x ∷ xs) = refl

first-shift : (from to k : ℕ) (xs : List ℕ) → first_from from to (map (λ q. k + q) xs) ≡ option_map (λ q. k + q) (first_from (from - k) (to - k) xs)
first-shift from to k xs = ap first (filter-shift from to k xs) ∙ first-map k (filter (lies_from (from - k) (to - k)) xs)

first-append : (xs ys : List ℕ) (f : ℕ) → Some f ≡ first xs → Some f ≡ first (xs ++ ys)
first-append [] ys f h = cc
first-append (x ∷ xs) ys f h = h

rest-append : (xs ys : List ℕ) → None ≡ first xs → first (xs ++ ys) ≡ first ys
rest-append [] ys h = refl
rest-append (x ∷ xs) ys h = cc

pub found_below : (from to : ℕ) (xs : List ℕ) (q : ℕ) → Some q ≡ first_from from to xs → q < to
found_below from to [] q h = cc
found_below from to (x ∷ xs) q h = go (found_below from to xs q) (nat_le from x) (nat_lt x to) refl h
  where
    go : (Some q ≡ first_from from to xs → q < to) → (a b : Bool) → nat_lt x to ≡ b → Some q ≡ first (if a && b then x ∷ filter (lies_from from to) xs else filter (lies_from from to) xs) → q < to
    go ih true true e k = let l : x < to = ltb-true x to e in let same : q ≡ x = cc in omega (arith, l, same)
    go ih true false e k = ih k
    go ih false b e k = ih k

-- IN A NODE
abbrev node_places : (b : Bool) (front past : ℕ) (right : List ℕ) → List ℕ
node_places b front past right = unless_same b front (map (λ q. past + q) right)

starts-node : (name : Option ℕ) (set : PropSet) (left : List Run) (x : Run) (right : List Run) (front past : ℕ) → front ≡ size left → past ≡ front + x.1
    → starts_of name set 0 (left ++ x ∷ right) ≡ starts_of name set 0 left ++ node_places (same_by name set x.0) front past (starts_of name set 0 right)
starts-node name set left x right front past e f =
    let p : 0 + size left ≡ front = omega arith in
    let q : front + x.1 ≡ past + 0 = omega arith in
    starts-append name set 0 left (x ∷ right)
    ∙ ap (λ i. starts_of name set 0 left ++ unless_same (same_by name set x.0) i (starts_of name set (i + x.1) right)) p
    ∙ ap (λ i. starts_of name set 0 left ++ unless_same (same_by name set x.0) front (starts_of name set i right)) q
    ∙ ap (λ l. starts_of name set 0 left ++ unless_same (same_by name set x.0) front l) (starts-shift name set past 0 right)

-- a question to the right side, whose bounds are counted from its start
pub from_start : (P : ℕ → ℕ → Option ℕ) (r : Option ℕ) (from to from_there to_there : ℕ) → r ≡ P from_there to_there → from_there ≡ from → to_there ≡ to → r ≡ P from to
from_start P r from to from_there to_there h e f = h ∙ ap (λ k. P k to_there) e ∙ ap (P from) f

pub not_there : (name : Option ℕ) (set : PropSet) (from to : ℕ) (runs : List Run) → size runs < from → None ≡ first_from from to (starts_of name set 0 runs)
not_there name set from to runs h = sym (ap first (none_low from to (size runs) (starts_of name set 0 runs) h (starts-up_to name set 0 (size runs) runs (omega arith))))

pub found_left : (name : Option ℕ) (set : PropSet) (from to f : ℕ) (left : List Run) (x : Run) (right : List Run) → Some f ≡ first_from from to (starts_of name set 0 left) → Some f ≡ first_from from to (starts_of name set 0 (left ++ x ∷ right))
found_left name set from to f left x right h =
    first-append (filter (lies_from from to) (starts_of name set 0 left)) (filter (lies_from from to) (starts_of name set (0 + size left) (x ∷ right))) f h
    ∙ ap first (sym (filter-append (lies_from from to) (starts_of name set 0 left) (starts_of name set (0 + size left) (x ∷ right))) ∙ sym (ap (filter (lies_from from to)) (starts-append name set 0 left (x ∷ right))))

right_of : (name : Option ℕ) (set : PropSet) (from to front past : ℕ) (left : List Run) (x : Run) (right : List Run) → front ≡ size left → past ≡ front + x.1 → None ≡ first_from from to (starts_of name set 0 left)
    → first_from from to (starts_of name set 0 (left ++ x ∷ right)) ≡ first_from from to (node_places (same_by name set x.0) front past (starts_of name set 0 right))
right_of name set from to front past left x right e f h =
    let places = node_places (same_by name set x.0) front past (starts_of name set 0 right) in
    ap (first_from from to) (starts-node name set left x right front past e f) ∙ ap first (filter-append (lies_from from to) (starts_of name set 0 left) places)
    ∙ rest-append (filter (lies_from from to) (starts_of name set 0 left)) (filter (lies_from from to) places) h

pub none_behind : (name : Option ℕ) (set : PropSet) (from to front : ℕ) (left : List Run) (x : Run) (right : List Run) → front ≡ size left → None ≡ first_from from to (starts_of name set 0 left) → to ≤ front
    → None ≡ first_from from to (starts_of name set 0 (left ++ x ∷ right))
none_behind name set from to front left x right e h l =
    let p : 0 + size left ≡ front = omega arith in
    sym (ap (first_from from to) (starts-append name set 0 left (x ∷ right)) ∙ ap first (filter-append (lies_from from to) (starts_of name set 0 left) (starts_of name set (0 + size left) (x ∷ right)))
    ∙ rest-append (filter (lies_from from to) (starts_of name set 0 left)) (filter (lies_from from to) (starts_of name set (0 + size left) (x ∷ right))) h
    ∙ ap first (none_high from to front (starts_of name set (0 + size left) (x ∷ right)) l (starts-from name set (0 + size left) front (x ∷ right) (omega (arith, p)))))

pub found_here : (name : Option ℕ) (set : PropSet) (from to front : ℕ) (left : List Run) (x : Run) (right : List Run) → front ≡ size left → None ≡ first_from from to (starts_of name set 0 left) → front < to
    → (nat_le from front && not (same_by name set x.0)) ≡ true → Some front ≡ first_from from to (starts_of name set 0 (left ++ x ∷ right))
found_here name set from to front left x right e h l t =
    go (nat_le from front) (same_by name set x.0) refl t ∙ sym (right_of name set from to front (front + x.1) left x right e refl h)
  where
    go : (a b : Bool) → nat_le from front ≡ a → (a && not b) ≡ true → Some front ≡ first_from from to (node_places b front (front + x.1) (starts_of name set 0 right))
    go true false k s = rw (k, lt-ltb front to l) refl
    go true true k s = absurd (false≢true s)
    go false b k s = absurd (false≢true s)

pub found_right : (name : Option ℕ) (set : PropSet) (from to front past : ℕ) (left : List Run) (x : Run) (right : List Run) (r : Option ℕ) → front ≡ size left → past ≡ front + x.1 → None ≡ first_from from to (starts_of name set 0 left)
    → (nat_le from front && not (same_by name set x.0)) ≡ false → r ≡ first_from (from - past) (to - past) (starts_of name set 0 right)
    → option_map (λ q. past + q) r ≡ first_from from to (starts_of name set 0 (left ++ x ∷ right))
found_right name set from to front past left x right r e f h t found =
    ap (option_map (λ q. past + q)) found ∙ sym (first-shift from to past (starts_of name set 0 right)) ∙ go (nat_le from front) (same_by name set x.0) refl t ∙ sym (right_of name set from to front past left x right e f h)
  where
    go : (a b : Bool) → nat_le from front ≡ a → (a && not b) ≡ false → first_from from to (map (λ q. past + q) (starts_of name set 0 right)) ≡ first_from from to (node_places b front past (starts_of name set 0 right))
    go a true k s = refl
    go true false k s = absurd (false≢true (sym s))
    go false false k s = rw k refl

-- THE NEXT CHANGE
-- along runs that are apart, the first change past a set is the first other run
after_run : (name : Option ℕ) (set s : PropSet) (n p : ℕ) (xs : List Run) → 0 < n → first (changes_after (same_by name) set (p + n) (sets_of xs)) ≡ first (starts_of name set (p + n) xs)
    → first (changes_after (same_by name) set p (replicate n s ++ sets_of xs)) ≡ first (unless_same (same_by name set s) p (starts_of name set (p + n) xs))
after_run name set s zero p xs h ih = absurd (omega (arith, h))
after_run name set s (suc n) p xs h ih = go (same_by name set s) refl
  where
    go : (b : Bool) → same_by name set s ≡ b → first (unless_same b p (changes_after (same_by name) s (p + 1) (replicate n s ++ sets_of xs))) ≡ first (unless_same b p (starts_of name set (p + suc n) xs))
    go false e = refl
    go true e =
        let q : p + 1 + n ≡ p + suc n = omega arith in
        ap first (along_run (same_by name) s n (p + 1) (sets_of xs) (same_by-same name s)) ∙ ap (λ i. first (changes_after (same_by name) s i (sets_of xs))) q
        ∙ sym (ap first (after_like (same_by name) set s (p + suc n) (sets_of xs) (same_by-left name set s e))) ∙ ih

after_others : (name : Option ℕ) (set : PropSet) (p : ℕ) (xs : List Run) → AreApart xs → first (changes_after (same_by name) set p (sets_of xs)) ≡ first (starts_of name set p xs)
after_others name set p [] h = refl
after_others name set p (x ∷ xs) h = after_run name set x.0 x.1 p xs h.0 (after_others name set (p + x.1) xs h.2)

all_from : (n m : ℕ) (ys : List ℕ) → m ≤ n → Rising n ys → From m ys
all_from n m [] h k = tt
all_from n m (y ∷ ys) h k = (let l = k.0 in omega (arith, l, h), all_from (y + 1) m ys (let l = k.0 in omega (arith, l, h)) k.1)

before_first : (from to : ℕ) (xs : List ℕ) → Rising from xs → first_from from to xs ≡ before to (first xs)
before_first from to [] r = refl
before_first from to (x ∷ xs) r = go (nat_lt x to) refl
  where
    here : nat_le from x ≡ true
    here = le-leb from x r.0

    go : (b : Bool) → nat_lt x to ≡ b → first_from from to (x ∷ xs) ≡ before to (Some x)
    go true e = rw (here, e) refl
    go false e = rw (here, e) (ap first (none_high from to x xs (ltb-false x to e) (all_from (x + 1) x xs (omega arith) r.1)))

apart_rest : (front back : List Run) → AreApart (front ++ back) → AreApart back
apart_rest [] back h = h
apart_rest (x ∷ front) back h = apart_rest front back h.2

apart_front : (front back : List Run) → AreApart (front ++ back) → AreApart front
apart_front [] back h = tt
apart_front (x ∷ []) back h = (h.0, tt, tt)
apart_front (x ∷ y ∷ front) back h = (h.0, h.1, apart_front (y ∷ front) back h.2)

pub next_other : (name : Option ℕ) (runs : List Run) (set : PropSet) (i to start end : ℕ) → IsRunAt runs i set start end → AreApart runs → to ≤ size runs
    → first_from end to (starts_of name set 0 runs) ≡ next_change i to (changes_of name (sets_of runs))
next_other name runs set i to start end h apart within =
    let s = h.starts in let t = h.ends in let a = h.start_is in
    let run : Run = (set, end - start) in
    let back_apart : AreApart h.back = (apart_rest h.front (run ∷ h.back) (subst AreApart h.runs_are apart)).2 in
    let past : 0 + size h.front + (end - start) ≡ end = omega arith in
    let size_is : to ≤ length (sets_of runs) = omega (arith, length-sets_of runs, within) in
    let skipped : first_from end to (starts_of name set 0 runs) ≡ first_from end to (starts_of name set end h.back) =
    ap (λ l. first_from end to (starts_of name set 0 l)) h.runs_are ∙ ap (first_from end to) (starts-append name set 0 h.front (run ∷ h.back))
    ∙ ap first (filter-append (lies_from end to) (starts_of name set 0 h.front) (starts_of name set (0 + size h.front) (run ∷ h.back)))
    ∙ rest-append (filter (lies_from end to) (starts_of name set 0 h.front)) (filter (lies_from end to) (starts_of name set (0 + size h.front) (run ∷ h.back)))
    (sym (ap first (none_low end to (size h.front) (starts_of name set 0 h.front) (omega (arith, s, t, a)) (starts-up_to name set 0 (size h.front) h.front (omega arith)))))
    ∙ ap (λ b. first_from end to (unless_same b (0 + size h.front) (starts_of name set (0 + size h.front + (end - start)) h.back))) (same_by-same name set)
    ∙ ap (λ p. first_from end to (starts_of name set p h.back)) past in
    skipped ∙ before_first end to (starts_of name set end h.back) (starts-rising name set end h.back back_apart)
    ∙ ap (before to) (sym (after_others name set end h.back back_apart) ∙ ap (λ l. first (changes_after (same_by name) set end l)) (behind_run runs i set start end h)
    ∙ sym (next_starts name runs i set start end h))
    ∙ sym (next_part name (sets_of runs) i to (length (sets_of runs)) size_is)

-- WHERE THEY END
ends-append : (name : Option ℕ) (set : PropSet) (p : ℕ) (xs ys : List Run) → ends_of name set p (xs ++ ys) ≡ ends_of name set p xs ++ ends_of name set (p + size xs) ys
ends-append name set p [] ys = let e : p ≡ p + 0 = omega arith in ap (λ q. ends_of name set q ys) e
ends-append name set p (x ∷ xs) ys =
    let e : p + x.1 + size xs ≡ p + (x.1 + size xs) = omega arith in
    ap (unless_same (same_by name x.0 set) (p + x.1)) (ends-append name set (p + x.1) xs ys ∙ ap (λ q. ends_of name set (p + x.1) xs ++ ends_of name set q ys) e)
    ∙ append_unless (same_by name x.0 set) (p + x.1) (ends_of name set (p + x.1) xs) (ends_of name set (p + (x.1 + size xs)) ys)

ends-shift : (name : Option ℕ) (set : PropSet) (k p : ℕ) (xs : List Run) → ends_of name set (k + p) xs ≡ map (λ q. k + q) (ends_of name set p xs)
ends-shift name set k p [] = refl
ends-shift name set k p (x ∷ xs) =
    let e : k + p + x.1 ≡ k + (p + x.1) = omega arith in
    ap (λ q. unless_same (same_by name x.0 set) q (ends_of name set q xs)) e
    ∙ ap (unless_same (same_by name x.0 set) (k + (p + x.1))) (ends-shift name set k (p + x.1) xs)
    ∙ unless-shift (same_by name x.0 set) k (p + x.1) (ends_of name set (p + x.1) xs)

ends-up_to : (name : Option ℕ) (set : PropSet) (p bound : ℕ) (xs : List Run) → p + size xs ≤ bound → UpTo bound (ends_of name set p xs)
ends-up_to name set p bound [] h = tt
ends-up_to name set p bound (x ∷ xs) h = go (same_by name x.0 set) (ends-up_to name set (p + x.1) bound xs (omega (arith, h)))
  where
    go : (b : Bool) → UpTo bound (ends_of name set (p + x.1) xs) → UpTo bound (unless_same b (p + x.1) (ends_of name set (p + x.1) xs))
    go true rest = rest
    go false rest = (omega (arith, h), rest)

ends-from : (name : Option ℕ) (set : PropSet) (p n : ℕ) (xs : List Run) → n ≤ p → From n (ends_of name set p xs)
ends-from name set p n [] h = tt
ends-from name set p n (x ∷ xs) h = go (same_by name x.0 set) (ends-from name set (p + x.1) n xs (omega (arith, h)))
  where
    go : (b : Bool) → From n (ends_of name set (p + x.1) xs) → From n (unless_same b (p + x.1) (ends_of name set (p + x.1) xs))
    go true rest = rest
    go false rest = (omega (arith, h), rest)

ends-rising : (name : Option ℕ) (set : PropSet) (p : ℕ) (xs : List Run) → AreApart xs → Rising (p + 1) (ends_of name set p xs)
ends-rising name set p [] h = tt
ends-rising name set p (x ∷ xs) h = go (same_by name x.0 set) (ends-rising name set (p + x.1) xs h.2)
  where
    go : (b : Bool) → Rising (p + x.1 + 1) (ends_of name set (p + x.1) xs) → Rising (p + 1) (unless_same b (p + x.1) (ends_of name set (p + x.1) xs))
    go true rest = rising-sooner (p + 1) (p + x.1 + 1) (ends_of name set (p + x.1) xs) (omega arith) rest
    go false rest = (let k = h.0 in omega (arith, k), rest)

-- THE LAST
no_last : (x : ℕ) (xs : List ℕ) → None ≡ last (x ∷ xs) → ⊥
no_last x [] h = cc
no_last x (y ∷ xs) h = no_last y xs h

last-cons : (x : ℕ) (xs : List ℕ) (f : ℕ) → Some f ≡ last xs → Some f ≡ last (x ∷ xs)
last-cons x [] f h = cc
last-cons x (y ∷ xs) f h = h

last-append : (xs ys : List ℕ) (f : ℕ) → Some f ≡ last ys → Some f ≡ last (xs ++ ys)
last-append [] ys f h = h
last-append (x ∷ xs) ys f h = last-cons x (xs ++ ys) f (last-append xs ys f h)

none_last : (xs : List ℕ) → None ≡ last xs → xs ≡ []
none_last [] h = refl
none_last (x ∷ xs) h = absurd (no_last x xs h)

last-map : (k : ℕ) (xs : List ℕ) → last (map (λ q. k + q) xs) ≡ option_map (λ q. k + q) (last xs)
last-map k [] = refl
last-map k (x ∷ []) = refl
last-map k (x ∷ y ∷ xs) = last-map k (y ∷ xs)

pub last_below : (from to : ℕ) (xs : List ℕ) (q : ℕ) → Some q ≡ last_from from to xs → q < to
last_below from to [] q h = cc
last_below from to (x ∷ xs) q h = go (last_below from to xs q) (nat_le from x) (nat_lt x to) refl (filter (lies_from from to) xs) refl h
  where
    go : (Some q ≡ last_from from to xs → q < to) → (a b : Bool) → nat_lt x to ≡ b → (l : List ℕ) → filter (lies_from from to) xs ≡ l → Some q ≡ last (if a && b then x ∷ filter (lies_from from to) xs else filter (lies_from from to) xs) → q < to
    go ih true true e [] f k = let only : Some q ≡ Some x = k ∙ ap (λ l. last (x ∷ l)) f in let l : x < to = ltb-true x to e in let same : q ≡ x = cc in omega (arith, l, same)
    go ih true true e (y ∷ ys) f k = ih (k ∙ ap (λ l. last (x ∷ l)) f ∙ sym (ap last f))
    go ih true false e l f k = ih k
    go ih false b e l f k = ih k

-- in a node
ends-node : (name : Option ℕ) (set : PropSet) (left : List Run) (x : Run) (right : List Run) (past : ℕ) → past ≡ size left + x.1
    → ends_of name set 0 (left ++ x ∷ right) ≡ ends_of name set 0 left ++ node_places (same_by name x.0 set) past past (ends_of name set 0 right)
ends-node name set left x right past f =
    let p : 0 + size left + x.1 ≡ past = omega arith in
    let q : past ≡ past + 0 = omega arith in
    ends-append name set 0 left (x ∷ right)
    ∙ ap (λ i. ends_of name set 0 left ++ unless_same (same_by name x.0 set) i (ends_of name set i right)) p
    ∙ ap (λ l. ends_of name set 0 left ++ unless_same (same_by name x.0 set) past l) (ap (λ i. ends_of name set i right) q ∙ ends-shift name set past 0 right)

last_parts : (name : Option ℕ) (set : PropSet) (from to past : ℕ) (left : List Run) (x : Run) (right : List Run) → past ≡ size left + x.1
    → last_from from to (ends_of name set 0 (left ++ x ∷ right)) ≡ last (filter (lies_from from to) (ends_of name set 0 left) ++ filter (lies_from from to) (node_places (same_by name x.0 set) past past (ends_of name set 0 right)))
last_parts name set from to past left x right f =
    ap (last_from from to) (ends-node name set left x right past f) ∙ ap last (filter-append (lies_from from to) (ends_of name set 0 left) (node_places (same_by name x.0 set) past past (ends_of name set 0 right)))

nothing_right : (from to past : ℕ) (right : List ℕ) → None ≡ last_from (from - past) (to - past) right → filter (lies_from from to) (map (λ q. past + q) right) ≡ []
nothing_right from to past right h = filter-shift from to past right ∙ ap (map (λ q. past + q)) (none_last (filter (lies_from (from - past) (to - past)) right) h)

from_0 : (xs : List ℕ) → From 0 xs
from_0 [] = tt
from_0 (x ∷ xs) = (omega arith, from_0 xs)

pub none_before_0 : (from to : ℕ) (xs : List ℕ) → to ≡ 0 → None ≡ last_from from to xs
none_before_0 from to xs e = sym (ap last (none_high from to 0 xs (omega (arith, e)) (from_0 xs)))

pub last_right : (name : Option ℕ) (set : PropSet) (from to past f : ℕ) (left : List Run) (x : Run) (right : List Run) → past ≡ size left + x.1
    → Some f ≡ last_from (from - past) (to - past) (ends_of name set 0 right) → Some (past + f) ≡ last_from from to (ends_of name set 0 (left ++ x ∷ right))
last_right name set from to past f left x right e h =
    last-append (filter (lies_from from to) (ends_of name set 0 left)) (filter (lies_from from to) (node_places (same_by name x.0 set) past past (ends_of name set 0 right))) (past + f) (go (same_by name x.0 set))
    ∙ sym (last_parts name set from to past left x right e)
  where
    there : Some (past + f) ≡ last (filter (lies_from from to) (map (λ q. past + q) (ends_of name set 0 right)))
    there = ap (option_map (λ q. past + q)) h ∙ sym (last-map past (filter (lies_from (from - past) (to - past)) (ends_of name set 0 right))) ∙ sym (ap last (filter-shift from to past (ends_of name set 0 right)))

    own : (b : Bool) → Some (past + f) ≡ last (if b then past ∷ filter (lies_from from to) (map (λ q. past + q) (ends_of name set 0 right)) else filter (lies_from from to) (map (λ q. past + q) (ends_of name set 0 right)))
    own true = last-cons past (filter (lies_from from to) (map (λ q. past + q) (ends_of name set 0 right))) (past + f) there
    own false = there

    go : (b : Bool) → Some (past + f) ≡ last (filter (lies_from from to) (node_places b past past (ends_of name set 0 right)))
    go true = there
    go false = own (lies_from from to past)

pub none_from : (name : Option ℕ) (set : PropSet) (from to past : ℕ) (left : List Run) (x : Run) (right : List Run) → past ≡ size left + x.1
    → None ≡ last_from (from - past) (to - past) (ends_of name set 0 right) → past < from → None ≡ last_from from to (ends_of name set 0 (left ++ x ∷ right))
none_from name set from to past left x right e h l =
    sym (last_parts name set from to past left x right e
    ∙ ap (λ xs. last (xs ++ filter (lies_from from to) (node_places (same_by name x.0 set) past past (ends_of name set 0 right)))) (none_low from to (size left) (ends_of name set 0 left) (omega (arith, e, l)) (ends-up_to name set 0 (size left) left (omega arith)))
    ∙ ap last (go (same_by name x.0 set)))
  where
    go : (b : Bool) → filter (lies_from from to) (node_places b past past (ends_of name set 0 right)) ≡ []
    go true = nothing_right from to past (ends_of name set 0 right) h
    go false = rw (low from to past l) (nothing_right from to past (ends_of name set 0 right) h)

pub last_here : (name : Option ℕ) (set : PropSet) (from to past : ℕ) (left : List Run) (x : Run) (right : List Run) → past ≡ size left + x.1
    → None ≡ last_from (from - past) (to - past) (ends_of name set 0 right) → from ≤ past → (nat_lt past to && not (same_by name x.0 set)) ≡ true
    → Some past ≡ last_from from to (ends_of name set 0 (left ++ x ∷ right))
last_here name set from to past left x right e h l t =
    last-append (filter (lies_from from to) (ends_of name set 0 left)) (filter (lies_from from to) (node_places (same_by name x.0 set) past past (ends_of name set 0 right))) past (go (nat_lt past to) (same_by name x.0 set) refl t)
    ∙ sym (last_parts name set from to past left x right e)
  where
    go : (a b : Bool) → nat_lt past to ≡ a → (a && not b) ≡ true → Some past ≡ last (filter (lies_from from to) (node_places b past past (ends_of name set 0 right)))
    go true false k s = rw (le-leb from past l, k) (sym (ap (λ xs. last (past ∷ xs)) (nothing_right from to past (ends_of name set 0 right) h)))
    go true true k s = absurd (false≢true s)
    go false b k s = absurd (false≢true s)

pub last_left : (name : Option ℕ) (set : PropSet) (from to past : ℕ) (left : List Run) (x : Run) (right : List Run) → past ≡ size left + x.1
    → None ≡ last_from (from - past) (to - past) (ends_of name set 0 right) → (nat_lt past to && not (same_by name x.0 set)) ≡ false
    → last_from from to (ends_of name set 0 left) ≡ last_from from to (ends_of name set 0 (left ++ x ∷ right))
last_left name set from to past left x right e h t =
    sym (last_parts name set from to past left x right e
    ∙ ap (λ xs. last (filter (lies_from from to) (ends_of name set 0 left) ++ xs)) (go (nat_lt past to) (same_by name x.0 set) refl t)
    ∙ ap last (append-nil (filter (lies_from from to) (ends_of name set 0 left))))
  where
    go : (a b : Bool) → nat_lt past to ≡ a → (a && not b) ≡ false → filter (lies_from from to) (node_places b past past (ends_of name set 0 right)) ≡ []
    go a true k s = nothing_right from to past (ends_of name set 0 right) h
    go true false k s = absurd (false≢true (sym s))
    go false false k s = rw (high from to past (ltb-false past to k)) (nothing_right from to past (ends_of name set 0 right) h)

-- THE CHANGE BEFORE
abbrev otherwise : Option ℕ → Option ℕ → Option ℕ
otherwise None o = o
otherwise (Some q) o = Some q

abbrev unless_at : Bool → ℕ → Option ℕ
unless_at true p = None
unless_at false p = Some p

otherwise_none : (o : Option ℕ) → o ≡ otherwise o None
otherwise_none None = refl
otherwise_none (Some q) = refl

last-unless : (b : Bool) (p : ℕ) (l : List ℕ) → last (unless_same b p l) ≡ otherwise (last l) (unless_at b p)
last-unless true p l = otherwise_none (last l)
last-unless false p [] = refl
last-unless false p (x ∷ l) = go (last (x ∷ l)) refl
  where
    go : (o : Option ℕ) → last (x ∷ l) ≡ o → last (x ∷ l) ≡ otherwise o (Some p)
    go None e = absurd (no_last x l (sym e))
    go (Some q) e = e

-- the last change in front of a set, behind which stands another
last_run : (name : Option ℕ) (w s : PropSet) (n p : ℕ) (rest : List PropSet) → 0 < n
    → last (changes_after (same_by name) w p (replicate n s ++ rest)) ≡ otherwise (last (changes_after (same_by name) s (p + n) rest)) (unless_at (same_by name w s) p)
last_run name w s zero p rest h = absurd (omega (arith, h))
last_run name w s (suc n) p rest h =
    let q : p + 1 + n ≡ p + suc n = omega arith in
    last-unless (same_by name w s) p (changes_after (same_by name) s (p + 1) (replicate n s ++ rest))
    ∙ ap (λ l. otherwise (last l) (unless_at (same_by name w s) p)) (along_run (same_by name) s n (p + 1) rest (same_by-same name s) ∙ ap (λ i. changes_after (same_by name) s i rest) q)

last_in_front : (name : Option ℕ) (set w : PropSet) (p : ℕ) (front : List Run) → AreApart front
    → last (changes_after (same_by name) w p (sets_of front ++ set ∷ [])) ≡ otherwise (last (ends_of name set p front)) (unless_at (same_by name w set) p)
last_in_front name set w p [] h = last-unless (same_by name w set) p []
last_in_front name set w p (x ∷ front) h =
    let places = ends_of name set (p + x.1) front in
    ap (λ l. last (changes_after (same_by name) w p l)) (append_assoc (replicate x.1 x.0) (sets_of front) (set ∷ []))
    ∙ last_run name w x.0 x.1 p (sets_of front ++ set ∷ []) h.0
    ∙ ap (λ o. otherwise o (unless_at (same_by name w x.0) p)) (last_in_front name set x.0 (p + x.1) front h.2)
    ∙ go (last places) (same_by name x.0 set) refl
    ∙ ap (λ o. otherwise o (unless_at (same_by name w set) p)) (sym (last-unless (same_by name x.0 set) (p + x.1) places))
  where
    go : (o : Option ℕ) (c : Bool) → same_by name x.0 set ≡ c → otherwise (otherwise o (unless_at c (p + x.1))) (unless_at (same_by name w x.0) p) ≡ otherwise (otherwise o (unless_at c (p + x.1))) (unless_at (same_by name w set) p)
    go (Some q) c e = refl
    go None false e = refl
    go None true e = ap (λ b. unless_at b p) (same_by-right name x.0 set e w)

last_change : (name : Option ℕ) (set : PropSet) (front : List Run) → AreApart front → last (changes (same_by name) (sets_of front ++ set ∷ [])) ≡ last (ends_of name set 0 front)
last_change name set [] h = refl
last_change name set (x ∷ front) h = go x.1 refl h.0
  where
    go : (n : ℕ) → x.1 ≡ n → 0 < n → last (changes (same_by name) (sets_of (x ∷ front) ++ set ∷ [])) ≡ last (ends_of name set 0 (x ∷ front))
    go zero e k = absurd (omega (arith, k))
    go (suc n) e k =
        let p : 1 + n ≡ 0 + x.1 = omega arith in
        ap (λ m. last (changes (same_by name) ((replicate m x.0 ++ sets_of front) ++ set ∷ []))) e
        ∙ ap (λ l. last (changes_after (same_by name) x.0 1 l)) (append_assoc (replicate n x.0) (sets_of front) (set ∷ []))
        ∙ ap last (along_run (same_by name) x.0 n 1 (sets_of front ++ set ∷ []) (same_by-same name x.0))
        ∙ last_in_front name set x.0 (1 + n) front h.2
        ∙ ap (λ i. otherwise (last (ends_of name set i front)) (unless_at (same_by name x.0 set) i)) p
        ∙ sym (last-unless (same_by name x.0 set) (0 + x.1) (ends_of name set (0 + x.1) front))

last_at_least : (m y : ℕ) (ys : List ℕ) → From m (y ∷ ys) → (q : ℕ) × (last (y ∷ ys) ≡ Some q) × (m ≤ q)
last_at_least m y [] h = (y, refl, h.0)
last_at_least m y (z ∷ ys) h = last_at_least m z ys h.1

behind_last : (from start n : ℕ) (xs : List ℕ) → Rising n xs → UpTo start xs → last_from (from + 1) (start + 1) xs ≡ behind from (last xs)
behind_last from start n [] r u = refl
behind_last from start n (x ∷ []) r u = rw inside (go (nat_lt from x) refl)
  where
    inside : nat_lt x (start + 1) ≡ true
    inside = lt-ltb x (start + 1) (let l = u.0 in omega (arith, l))

    go : (b : Bool) → nat_lt from x ≡ b → last (if nat_le (from + 1) x && true then x ∷ [] else []) ≡ behind from (Some x)
    go true e = rw (le-leb (from + 1) x (let l = ltb-true from x e in omega (arith, l)), e) refl
    go false e = rw (lt-leb (from + 1) x (let l = ltb-false from x e in omega (arith, l)), e) refl
behind_last from start n (x ∷ y ∷ xs) r u = go (nat_le (from + 1) x) refl (behind_last from start (x + 1) (y ∷ xs) r.1 u.1)
  where
    inside : nat_lt x (start + 1) ≡ true
    inside = lt-ltb x (start + 1) (let l = u.0 in omega (arith, l))

    go : (b : Bool) → nat_le (from + 1) x ≡ b → last_from (from + 1) (start + 1) (y ∷ xs) ≡ behind from (last (y ∷ xs)) → last_from (from + 1) (start + 1) (x ∷ y ∷ xs) ≡ behind from (last (y ∷ xs))
    go false e ih = rw e ih
    go true e ih =
        let l = leb-true (from + 1) x e in
        let found = last_at_least (x + 1) y xs (all_from (x + 1) (x + 1) (y ∷ xs) (omega arith) r.1) in
        let q = found.0 in
        let above = found.2 in
        let there : behind from (last (y ∷ xs)) ≡ Some q = ap (behind from) found.1 ∙ ap (λ b. if b then Some q else None) (lt-ltb from q (omega (arith, l, above))) in
        rw (e, inside) (sym (last-cons x (filter (lies_from (from + 1) (start + 1)) (y ∷ xs)) q (sym (ih ∙ there))) ∙ sym there)

sets_of-append : (xs ys : List Run) → sets_of (xs ++ ys) ≡ sets_of xs ++ sets_of ys
sets_of-append [] ys = refl
sets_of-append (x ∷ xs) ys = ap (λ l. replicate x.1 x.0 ++ l) (sets_of-append xs ys) ∙ sym (append_assoc (replicate x.1 x.0) (sets_of xs) (sets_of ys))

pub previous_other : (name : Option ℕ) (runs : List Run) (set : PropSet) (from i start end : ℕ) → 0 < i → IsRunAt runs (i - 1) set start end → AreApart runs
    → last_from (from + 1) (start + 1) (ends_of name set 0 runs) ≡ previous_change from i (changes_of name (sets_of runs))
previous_other name runs set from i start end l h apart =
    let s = h.starts in let t = h.ends in let a = h.start_is in
    let run : Run = (set, end - start) in
    let parts : AreApart (h.front ++ run ∷ h.back) = subst AreApart h.runs_are apart in
    let front_apart : AreApart h.front = apart_front h.front (run ∷ h.back) parts in
    let ended : 0 + size h.front + (end - start) ≡ end = omega arith in
    let taken : take start (sets_of runs) ≡ sets_of h.front =
    ap (λ r. take start (sets_of r)) h.runs_are ∙ ap (take start) (sets_of-append h.front (run ∷ h.back))
    ∙ ap (λ n. take n (sets_of h.front ++ sets_of (run ∷ h.back))) (a ∙ sym (length-sets_of h.front)) ∙ take-append_seam (sets_of h.front) (sets_of (run ∷ h.back)) in
    let front_alone : last_from (from + 1) (start + 1) (ends_of name set 0 runs) ≡ last_from (from + 1) (start + 1) (ends_of name set 0 h.front) =
    ap (λ r. last_from (from + 1) (start + 1) (ends_of name set 0 r)) h.runs_are ∙ ap (last_from (from + 1) (start + 1)) (ends-append name set 0 h.front (run ∷ h.back))
    ∙ ap last (filter-append (lies_from (from + 1) (start + 1)) (ends_of name set 0 h.front) (ends_of name set (0 + size h.front) (run ∷ h.back)))
    ∙ ap (λ b. last (filter (lies_from (from + 1) (start + 1)) (ends_of name set 0 h.front) ++ filter (lies_from (from + 1) (start + 1)) (unless_same b (0 + size h.front + (end - start)) (ends_of name set (0 + size h.front + (end - start)) h.back)))) (same_by-same name set)
    ∙ ap (λ xs. last (filter (lies_from (from + 1) (start + 1)) (ends_of name set 0 h.front) ++ xs))
    (none_high (from + 1) (start + 1) end (ends_of name set (0 + size h.front + (end - start)) h.back) (omega (arith, s, t)) (ends-from name set (0 + size h.front + (end - start)) end h.back (omega (arith, ended))))
    ∙ ap last (append-nil (filter (lies_from (from + 1) (start + 1)) (ends_of name set 0 h.front))) in
    front_alone ∙ behind_last from start 1 (ends_of name set 0 h.front) (ends-rising name set 0 h.front front_apart) (ends-up_to name set 0 start h.front (omega (arith, a)))
    ∙ ap (behind from) (sym (last_change name set h.front front_apart) ∙ ap (λ xs. last (changes (same_by name) (xs ++ set ∷ []))) (sym taken) ∙ sym (previous_starts name runs i set start end l h))
    ∙ sym (previous_part name (sets_of runs) 0 from i (omega arith))
