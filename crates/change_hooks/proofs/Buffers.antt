-- The lists of buffers: finding those of one, setting them, and how many buffers there may be.
use Rattle.std.proofs.Common.{◌≡◌, ℕ, zero, suc, ◌+◌, ◌<◌, ◌≤◌, Bool, true, false, ◌==◌, ◌||◌, List, [], ◌∷◌, ◌++◌, length, map, get_or, refl, ap, sym, ◌∙◌, cond, arith}
use Rattle.std.specs.Prelude.{slice_set, Some, None}
use Rattle.std.specs.List.{list_any, position, position_from, IsDistinct, AllByRecursion}
use Rattle.std.proofs.lemmas.Bool.{eqb-true, eqb-false, eq-eqb, ne_eqb, or_parts}
use Rattle.std.proofs.lemmas.List.{length-map, length-append}
use Rattle.std.proofs.lemmas.List.Quantifiers.{position-Some}
use Rattle.std.proofs.lemmas.Iterator.Adapters.{position_from-zero}
use Rattle.std.proofs.lemmas.Map.Steps.{length-le_from_distinct_below}
use Rattle.editor_model.specs.Limits.{most_buffers}
use Rattle.plain_machine.specs.State.{HookLists, no_hooks, hooks_of, with_hooks}
use Rattle.plain_machine.specs.Hooks.{most_hooks}
use Rattle.change_hooks.specs.Lists.{is_of, AreKept}

-- SETTING
pub hooks_with : (b : ℕ) (l : HookLists) (hs : List (ℕ × HookLists)) → hooks_of (with_hooks b l hs) b ≡ l
hooks_with b l [] = rw (eq-eqb b b refl, hooks_of) refl
hooks_with b l (h ∷ hs) = go (h.0 == b) refl (hooks_with b l hs)
  where
    go : (t : Bool) → (h.0 == b) ≡ t → hooks_of (with_hooks b l hs) b ≡ l → hooks_of (elim t [ true ↦ (b, l) ∷ hs | false ↦ h ∷ with_hooks b l hs ]) b ≡ l
    go true e rest = rw (eq-eqb b b refl, hooks_of) refl
    go false e rest = rw (e, hooks_of) rest

pub with_with : (b : ℕ) (l m : HookLists) (hs : List (ℕ × HookLists)) → with_hooks b l (with_hooks b m hs) ≡ with_hooks b l hs
with_with b l m [] = rw (eq-eqb b b refl, with_hooks) refl
with_with b l m (h ∷ hs) = go (h.0 == b) refl (with_with b l m hs)
  where
    go : (t : Bool) → (h.0 == b) ≡ t → with_hooks b l (with_hooks b m hs) ≡ with_hooks b l hs → with_hooks b l (elim t [ true ↦ (b, m) ∷ hs | false ↦ h ∷ with_hooks b m hs ]) ≡ elim t [ true ↦ (b, l) ∷ hs | false ↦ h ∷ with_hooks b l hs ]
    go true e rest = rw (eq-eqb b b refl, with_hooks) refl
    go false e rest = rw (e, with_hooks) (ap (λ all. h ∷ all) rest)

-- WHERE THEY STAND
found_at : (b : ℕ) (hs : List (ℕ × HookLists)) (i : ℕ) (d : ℕ × HookLists) → i < length hs → is_of b (get_or hs i d) ≡ true → ((k : ℕ) → k < i → is_of b (get_or hs k d) ≡ false) → get_or hs i d ≡ (b, hooks_of hs b)
found_at b [] i d within here before = absurd (omega arith)
found_at b (h ∷ hs) zero d within here before = rw (here, hooks_of) (ap (λ n. (n, h.1)) (eqb-true h.0 b here))
found_at b (h ∷ hs) (suc i) d within here before =
    let first : (h.0 == b) ≡ false = before 0 (omega arith) in
    rw (first, hooks_of) (found_at b hs i d (omega arith) here (λ k below. before (suc k) (omega arith)))

set_at : (b : ℕ) (l : HookLists) (hs : List (ℕ × HookLists)) (i : ℕ) (d : ℕ × HookLists) → i < length hs → is_of b (get_or hs i d) ≡ true → ((k : ℕ) → k < i → is_of b (get_or hs k d) ≡ false) → slice_set hs i (b, l) ≡ with_hooks b l hs
set_at b l [] i d within here before = absurd (omega arith)
set_at b l (h ∷ hs) zero d within here before = rw (here, with_hooks) refl
set_at b l (h ∷ hs) (suc i) d within here before =
    let first : (h.0 == b) ≡ false = before 0 (omega arith) in
    rw (first, with_hooks) (ap (λ rest. h ∷ rest) (set_at b l hs i d (omega arith) here (λ k below. before (suc k) (omega arith))))

abbrev chosen : Bool → (here rest : List (ℕ × HookLists)) → List (ℕ × HookLists)
chosen t here rest = elim t [ true ↦ here | false ↦ rest ]

abbrev chosen_lists : Bool → (here rest : HookLists) → HookLists
chosen_lists t here rest = elim t [ true ↦ here | false ↦ rest ]

same_at : (b : ℕ) (hs : List (ℕ × HookLists)) (i : ℕ) (d : ℕ × HookLists) → i < length hs → is_of b (get_or hs i d) ≡ true → ((k : ℕ) → k < i → is_of b (get_or hs k d) ≡ false) → with_hooks b (hooks_of hs b) hs ≡ hs
same_at b [] i d within here before = absurd (omega arith)
same_at b (h ∷ hs) zero d within here before = ap (λ t. chosen t ((b, chosen_lists t h.1 (hooks_of hs b)) ∷ hs) (h ∷ with_hooks b (chosen_lists t h.1 (hooks_of hs b)) hs)) here ∙ ap (λ n. (n, h.1) ∷ hs) (sym (eqb-true h.0 b here))
same_at b (h ∷ hs) (suc i) d within here before =
    let first : (h.0 == b) ≡ false = before 0 (omega arith) in
    ap (λ t. chosen t ((b, chosen_lists t h.1 (hooks_of hs b)) ∷ hs) (h ∷ with_hooks b (chosen_lists t h.1 (hooks_of hs b)) hs)) first ∙ (ap (λ rest. h ∷ rest) (same_at b hs i d (omega arith) here (λ k below. before (suc k) (omega arith))))

pub found : (b : ℕ) (hs : List (ℕ × HookLists)) (i : ℕ) (d : ℕ × HookLists) → position (is_of b) hs ≡ Some i → get_or hs i d ≡ (b, hooks_of hs b)
found b hs i d at = let p = position-Some (is_of b) hs i d at in found_at b hs i d p.0 p.1 p.2

pub set_found : (b : ℕ) (l : HookLists) (hs : List (ℕ × HookLists)) (i : ℕ) → position (is_of b) hs ≡ Some i → slice_set hs i (b, l) ≡ with_hooks b l hs
set_found b l hs i at = let d : ℕ × HookLists = (b, l) in let p = position-Some (is_of b) hs i d at in set_at b l hs i d p.0 p.1 p.2

pub same_found : (b : ℕ) (hs : List (ℕ × HookLists)) (i : ℕ) → position (is_of b) hs ≡ Some i → with_hooks b (hooks_of hs b) hs ≡ hs
same_found b hs i at = let d : ℕ × HookLists = (b, no_hooks) in let p = position-Some (is_of b) hs i d at in same_at b hs i d p.0 p.1 p.2

-- setting what stands there changes nothing
pub same_there : (b : ℕ) (hs : List (ℕ × HookLists)) → list_any (is_of b) hs ≡ true → with_hooks b (hooks_of hs b) hs ≡ hs
same_there b [] there = cc
same_there b (h ∷ hs) there = go (h.0 == b) refl (same_there b hs) there
  where
    go : (t : Bool) → (h.0 == b) ≡ t → (list_any (is_of b) hs ≡ true → with_hooks b (hooks_of hs b) hs ≡ hs) → (t || list_any (is_of b) hs) ≡ true → chosen t ((b, chosen_lists t h.1 (hooks_of hs b)) ∷ hs) (h ∷ with_hooks b (chosen_lists t h.1 (hooks_of hs b)) hs) ≡ h ∷ hs
    go true e rest later = ap (λ n. (n, h.1) ∷ hs) (sym (eqb-true h.0 b e))
    go false e rest later = ap (λ all. h ∷ all) (rest later)

pub within_found : (b : ℕ) (hs : List (ℕ × HookLists)) (i : ℕ) → position (is_of b) hs ≡ Some i → i < length hs
within_found b hs i at = (position-Some (is_of b) hs i (b, no_hooks) at).0

-- WHERE THEY DON'T STAND
none_from : (b k : ℕ) (hs : List (ℕ × HookLists)) → position_from (is_of b) k hs ≡ None → list_any (is_of b) hs ≡ false
none_from b k [] none = refl
none_from b k (h ∷ hs) none = go (h.0 == b) (none_from b (k + 1) hs) none
  where
    go : (t : Bool) → (position_from (is_of b) (k + 1) hs ≡ None → list_any (is_of b) hs ≡ false) → cond t (Some k) (position_from (is_of b) (k + 1) hs) ≡ None → (t || list_any (is_of b) hs) ≡ false
    go true rest e = cc
    go false rest e = rest e

pub none_there : (b : ℕ) (hs : List (ℕ × HookLists)) → position (is_of b) hs ≡ None → list_any (is_of b) hs ≡ false
none_there b hs none = none_from b 0 hs (sym (position_from-zero (is_of b) hs) ∙ none)

pub hooks_absent : (b : ℕ) (hs : List (ℕ × HookLists)) → list_any (is_of b) hs ≡ false → hooks_of hs b ≡ no_hooks
hooks_absent b [] none = refl
hooks_absent b (h ∷ hs) none = let p = or_parts (h.0 == b) (list_any (is_of b) hs) none in rw (p.0, hooks_of) (hooks_absent b hs p.1)

pub with_absent : (b : ℕ) (l : HookLists) (hs : List (ℕ × HookLists)) → list_any (is_of b) hs ≡ false → with_hooks b l hs ≡ hs ++ (b, l) ∷ []
with_absent b l [] none = refl
with_absent b l (h ∷ hs) none = let p = or_parts (h.0 == b) (list_any (is_of b) hs) none in rw (p.0, with_hooks) (ap (λ rest. h ∷ rest) (with_absent b l hs p.1))

last_from : (b k : ℕ) (l : HookLists) (hs : List (ℕ × HookLists)) → list_any (is_of b) hs ≡ false → position_from (is_of b) k (hs ++ (b, l) ∷ []) ≡ Some (k + length hs)
last_from b k l [] none = rw (eq-eqb b b refl, position_from) (ap Some (omega arith))
last_from b k l (h ∷ hs) none = let p = or_parts (h.0 == b) (list_any (is_of b) hs) none in rw (p.0, position_from) (last_from b (k + 1) l hs p.1 ∙ ap Some (omega arith))

pub last : (b : ℕ) (l : HookLists) (hs : List (ℕ × HookLists)) → list_any (is_of b) hs ≡ false → position (is_of b) (hs ++ (b, l) ∷ []) ≡ Some (length hs)
last b l hs none = position_from-zero (is_of b) (hs ++ (b, l) ∷ []) ∙ last_from b 0 l hs none ∙ ap Some (omega arith)

-- HOW MANY
other_absent : (b n : ℕ) (l : HookLists) (hs : List (ℕ × HookLists)) → (b == n) ≡ false → list_any (is_of n) hs ≡ false → list_any (is_of n) (with_hooks b l hs) ≡ false
other_absent b n l [] apart none = rw apart refl
other_absent b n l (h ∷ hs) apart none = let p = or_parts (h.0 == n) (list_any (is_of n) hs) none in go (h.0 == b) p.0 p.1 (other_absent b n l hs apart p.1)
  where
    go : (t : Bool) → (h.0 == n) ≡ false → list_any (is_of n) hs ≡ false → list_any (is_of n) (with_hooks b l hs) ≡ false → list_any (is_of n) (elim t [ true ↦ (b, l) ∷ hs | false ↦ h ∷ with_hooks b l hs ]) ≡ false
    go true here rest more = rw (apart, rest) refl
    go false here rest more = rw (here, more) refl

pub kept_with : (b : ℕ) (l : HookLists) (hs : List (ℕ × HookLists)) → b < most_buffers → length l.before ≤ most_hooks → length l.after ≤ most_hooks → AreKept hs → AreKept (with_hooks b l hs)
kept_with b l [] made before after kept = (made, before, after, refl, tt)
kept_with b l (h ∷ hs) made before after kept = go (h.0 == b) refl (kept_with b l hs made before after kept.4)
  where
    go : (t : Bool) → (h.0 == b) ≡ t → AreKept (with_hooks b l hs) → AreKept (elim t [ true ↦ (b, l) ∷ hs | false ↦ h ∷ with_hooks b l hs ])
    go true e rest = (made, before, after, ap (λ n. list_any (is_of n) hs) (sym (eqb-true h.0 b e)) ∙ kept.3, kept.4)
    go false e rest =
        let apart : (b == h.0) ≡ false = ne_eqb b h.0 (λ same. eqb-false h.0 b e (sym same)) in
        (kept.0, kept.1, kept.2, other_absent b h.0 l hs apart kept.3, rest)

-- the numbers of the buffers
abbrev numbers : List (ℕ × HookLists) → List ℕ
numbers hs = map (λ h. h.0) hs

none_equal : (n : ℕ) (hs : List (ℕ × HookLists)) → list_any (is_of n) hs ≡ false → AllByRecursion (λ m. (n == m) ≡ false) (numbers hs)
none_equal n [] none = tt
none_equal n (h ∷ hs) none = let p = or_parts (h.0 == n) (list_any (is_of n) hs) none in (ne_eqb n h.0 (λ same. eqb-false h.0 n p.0 (sym same)), none_equal n hs p.1)

distinct : (hs : List (ℕ × HookLists)) → AreKept hs → IsDistinct (λ n m. n == m) (numbers hs)
unfolding IsDistinct
distinct [] kept = tt
distinct (h ∷ hs) kept = (none_equal h.0 hs kept.3, distinct hs kept.4)

all_below : (hs : List (ℕ × HookLists)) (q : ℕ) → AreKept hs → list_any (λ m. q == m) (numbers hs) ≡ true → q < most_buffers
all_below [] q kept is = absurd (cc)
all_below (h ∷ hs) q kept is = go (q == h.0) refl (all_below hs q kept.4) is
  where
    go : (t : Bool) → (q == h.0) ≡ t → (list_any (λ m. q == m) (numbers hs) ≡ true → q < most_buffers) → (t || list_any (λ m. q == m) (numbers hs)) ≡ true → q < most_buffers
    go true e rest later = let same : q ≡ h.0 = eqb-true q h.0 e in rw same kept.0
    go false e rest later = rest later

few : (hs : List (ℕ × HookLists)) → AreKept hs → length hs ≤ most_buffers
few hs kept = let h = length-le_from_distinct_below (numbers hs) most_buffers (distinct hs kept) (λ q is. all_below hs q kept is) in rw length-map at h

-- there is room for a buffer that hasn't lists yet
pub room_left : (b : ℕ) (hs : List (ℕ × HookLists)) → b < most_buffers → AreKept hs → list_any (is_of b) hs ≡ false → length hs < most_buffers
room_left b hs made kept none =
    let e : with_hooks b no_hooks hs ≡ hs ++ (b, no_hooks) ∷ [] = with_absent b no_hooks hs none in
    let n : length (with_hooks b no_hooks hs) ≤ most_buffers = few (with_hooks b no_hooks hs) (kept_with b no_hooks hs made (omega arith) (omega arith) kept) in
    let m : length (with_hooks b no_hooks hs) ≡ length hs + 1 = ap length e ∙ length-append hs ((b, no_hooks) ∷ []) in
    omega arith

-- HOW LONG
pub short : (b : ℕ) (hs : List (ℕ × HookLists)) → AreKept hs → (length (hooks_of hs b).before ≤ most_hooks) × (length (hooks_of hs b).after ≤ most_hooks)
short b [] kept = (omega arith, omega arith)
short b (h ∷ hs) kept = go (h.0 == b) (short b hs kept.4)
  where
    go : (t : Bool) → (length (hooks_of hs b).before ≤ most_hooks) × (length (hooks_of hs b).after ≤ most_hooks) → (length (let k : HookLists = elim t [ true ↦ h.1 | false ↦ hooks_of hs b ] in k.before) ≤ most_hooks) × (length (let k : HookLists = elim t [ true ↦ h.1 | false ↦ hooks_of hs b ] in k.after) ≤ most_hooks)
    go true rest = (kept.1, kept.2)
    go false rest = rest
