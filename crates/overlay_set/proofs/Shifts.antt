-- Places counted from a shift, modulo 2^64.
use Rattle.std.proofs.Common.{◌≡◌, ℕ, ◌+◌, ◌-◌, ◌%◌, ◌^◌, ◌<◌, ◌≤◌, Bool, true, false, nat_lt, List, [], ◌∷◌, ◌++◌, length, map, All, Box, Global, refl, ap, sym, ◌∙◌, subst, arith, mod-lt, mod-eq_of_lt}
use Rattle.std.proofs.Math.Nat.{mod-add-mod, add-mod-mod, mod-eq-sub-mod}
use Rattle.std.proofs.lemmas.Bool.{ltb-true, ltb-false}
use Rattle.std.proofs.lemmas.List.{map-append, length-map, length-append}
use Rattle.std.proofs.lemmas.List.Elements.{All-nil, All-cons, All-head, All-tail, All-map, All-weaker}
use Rattle.overlay_set.specs.Entries.{Holds, HasBounds, Within, entries_in, entries_of, raised, InRange}
use Rattle.overlay_set.specs.declared.bounds.Entry.{Entry}
use Rattle.overlay_set.specs.declared.bounds.Range.{Range}
use Rattle.overlay_set.specs.declared.bounds.Bounds.{Bounds}
use Rattle.overlay_set.specs.declared.tree.Link.{Link}
use Rattle.overlay_set.specs.declared.tree.Link.TheVariants.{Empty, Full}
use Rattle.overlay_set.specs.declared.tree.Node.{Node}

-- ONE PLACE
pub below_turn : (x : ℕ) → x < 2 ^ 64 → x % 2 ^ 64 ≡ x
below_turn x h = mod-eq_of_lt h

pub past_turn : (x : ℕ) → 2 ^ 64 ≤ x → x < 2 ^ 64 + 2 ^ 64 → x % 2 ^ 64 ≡ x - 2 ^ 64
past_turn x h k = mod-eq-sub-mod h ∙ below_turn (x - 2 ^ 64) (omega arith)

twice : (p a b : ℕ) → ((p + b) % 2 ^ 64 + a) % 2 ^ 64 ≡ (p + (a + b) % 2 ^ 64) % 2 ^ 64
twice p a b =
    let e : p + b + a ≡ p + (a + b) = omega arith in
    mod-add-mod (p + b) (2 ^ 64) a ∙ ap (λ n. n % 2 ^ 64) e ∙ sym (add-mod-mod p (a + b) (2 ^ 64))

-- a range that doesn't pass the last number stays one
raised_within : (l m n by : ℕ) → l ≤ n → n ≤ m → m < 2 ^ 64 → by < 2 ^ 64 → (l + by) % 2 ^ 64 ≤ (m + by) % 2 ^ 64 → ((l + by) % 2 ^ 64 ≤ (n + by) % 2 ^ 64) × ((n + by) % 2 ^ 64 ≤ (m + by) % 2 ^ 64)
raised_within l m n by low high small add kept = by_tests (nat_lt (l + by) (2 ^ 64)) (nat_lt (n + by) (2 ^ 64)) (nat_lt (m + by) (2 ^ 64)) refl refl refl
  where
    by_tests : (s t u : Bool) → nat_lt (l + by) (2 ^ 64) ≡ s → nat_lt (n + by) (2 ^ 64) ≡ t → nat_lt (m + by) (2 ^ 64) ≡ u → ((l + by) % 2 ^ 64 ≤ (n + by) % 2 ^ 64) × ((n + by) % 2 ^ 64 ≤ (m + by) % 2 ^ 64)
    by_tests true true true p q r =
        let a = below_turn (l + by) (ltb-true (l + by) (2 ^ 64) p) in
        let b = below_turn (n + by) (ltb-true (n + by) (2 ^ 64) q) in
        let c = below_turn (m + by) (ltb-true (m + by) (2 ^ 64) r) in
        (omega (arith, a, b), omega (arith, b, c))
    by_tests true t false p q r =
        let under : l + by < 2 ^ 64 = ltb-true (l + by) (2 ^ 64) p in
        let over : 2 ^ 64 ≤ m + by = ltb-false (m + by) (2 ^ 64) r in
        let a = below_turn (l + by) under in
        let c = past_turn (m + by) over (omega arith) in
        absurd (omega (arith, a, c, kept))
    by_tests true false true p q r =
        let over : 2 ^ 64 ≤ n + by = ltb-false (n + by) (2 ^ 64) q in
        let under : m + by < 2 ^ 64 = ltb-true (m + by) (2 ^ 64) r in
        absurd (omega arith)
    by_tests false true u p q r =
        let over : 2 ^ 64 ≤ l + by = ltb-false (l + by) (2 ^ 64) p in
        let under : n + by < 2 ^ 64 = ltb-true (n + by) (2 ^ 64) q in
        absurd (omega arith)
    by_tests false false true p q r =
        let over : 2 ^ 64 ≤ l + by = ltb-false (l + by) (2 ^ 64) p in
        let under : m + by < 2 ^ 64 = ltb-true (m + by) (2 ^ 64) r in
        absurd (omega arith)
    by_tests false false false p q r =
        let a = past_turn (l + by) (ltb-false (l + by) (2 ^ 64) p) (omega arith) in
        let b = past_turn (n + by) (ltb-false (n + by) (2 ^ 64) q) (omega arith) in
        let c = past_turn (m + by) (ltb-false (m + by) (2 ^ 64) r) (omega arith) in
        (omega (arith, a, b), omega (arith, b, c))

pub within_raised : (r : Range) (by n : ℕ) → r.most < 2 ^ 64 → by < 2 ^ 64 → (r.least + by) % 2 ^ 64 ≤ (r.most + by) % 2 ^ 64 → Within r n → ((r.least + by) % 2 ^ 64 ≤ (n + by) % 2 ^ 64) × ((n + by) % 2 ^ 64 ≤ (r.most + by) % 2 ^ 64)
within_raised r by n small add kept h = raised_within r.least r.most n by h.0 h.1 small add kept

-- ENTRIES
abbrev at_places : Entry → (s t : ℕ) → Entry
at_places e s t = record { number = e.number; stretch = (e.stretch.0, s, t) }

pub raised_twice : (a b by : ℕ) (e : Entry) → by ≡ (a + b) % 2 ^ 64 → raised a (raised b e) ≡ raised by e
raised_twice a b by e h =
    ap (λ s. at_places e s (((e.stretch.2 + b) % 2 ^ 64 + a) % 2 ^ 64)) (twice e.stretch.1 a b)
    ∙ ap (λ t. at_places e ((e.stretch.1 + (a + b) % 2 ^ 64) % 2 ^ 64) t) (twice e.stretch.2 a b)
    ∙ ap (λ n. raised n e) (sym h)

pub all_raised_twice : (a b by : ℕ) (es : List Entry) → by ≡ (a + b) % 2 ^ 64 → map (raised a) (map (raised b) es) ≡ map (raised by) es
all_raised_twice a b by [] h = refl
all_raised_twice a b by (e ∷ es) h = rw (raised_twice a b by e h, all_raised_twice a b by es h) refl

raised_none : (e : Entry) → InRange e → raised 0 e ≡ e
raised_none e h =
    let s : (e.stretch.1 + 0) % 2 ^ 64 ≡ e.stretch.1 = (let z : e.stretch.1 + 0 ≡ e.stretch.1 = omega arith in ap (λ n. n % 2 ^ 64) z ∙ below_turn e.stretch.1 h.0) in
    let t : (e.stretch.2 + 0) % 2 ^ 64 ≡ e.stretch.2 = (let z : e.stretch.2 + 0 ≡ e.stretch.2 = omega arith in ap (λ n. n % 2 ^ 64) z ∙ below_turn e.stretch.2 h.1) in
    ap (λ x. at_places e x ((e.stretch.2 + 0) % 2 ^ 64)) s ∙ ap (λ x. at_places e e.stretch.1 x) t

pub all_raised_none : (es : List Entry) → All InRange es → map (raised 0) es ≡ es
all_raised_none [] h = refl
all_raised_none (e ∷ es) h = ap (λ x. x ∷ map (raised 0) es) (raised_none e (All-head InRange e es h)) ∙ ap (λ xs. e ∷ xs) (all_raised_none es (All-tail InRange e es h))

raised_in_range : (by : ℕ) (es : List Entry) → All InRange (map (raised by) es)
raised_in_range by [] = All-nil InRange
raised_in_range by (e ∷ es) = All-cons InRange (raised by e) (map (raised by) es) (mod-lt (e.stretch.1 + by) (omega arith), mod-lt (e.stretch.2 + by) (omega arith)) (raised_in_range by es)

pub link_in_range : (root : Link) → All InRange (entries_of root)
link_in_range Empty = All-nil InRange
link_in_range (Full n) = raised_in_range n.value.shift (n.value.left ++ n.value.entry ∷ n.value.right)

pub tree_in_range : (root : Link) (now : List Entry) → entries_of root ≡ now → All InRange now
tree_in_range root now v = subst (All InRange) v (link_in_range root)

-- from base 0 a tree's places are as they are
pub whole_tree : (root : Link) (now : List Entry) → entries_of root ≡ now → map (raised 0) now ≡ now
whole_tree root now v = all_raised_none now (tree_in_range root now v)

pub three_raised : (by : ℕ) (xs : List Entry) (e : Entry) (ys : List Entry) → map (raised by) (xs ++ e ∷ ys) ≡ map (raised by) xs ++ raised by e ∷ map (raised by) ys
three_raised by xs e ys = map-append (raised by) xs (e ∷ ys)

-- a tree seen from a base, and its node
pub node_at : (root : Link) (top : Box Node Global) (n : Node) (now : List Entry) (base by : ℕ) → root ≡ Full top → entries_of root ≡ now → n ≡ top.value → by ≡ (base + n.shift) % 2 ^ 64 →
    map (raised base) now ≡ map (raised by) n.left ++ raised by n.entry ∷ map (raised by) n.right
node_at root top n now base by e v d h =
    ap (map (raised base)) (sym v ∙ ap entries_of e ∙ ap entries_in (sym d))
    ∙ all_raised_twice base n.shift by (n.left ++ n.entry ∷ n.right) h
    ∙ three_raised by n.left n.entry n.right

-- each side of its node is shorter than a tree
in_all : (root : Link) (top : Box Node Global) (n : Node) (now : List Entry) → root ≡ Full top → entries_of root ≡ now → n ≡ top.value → length now ≡ length (n.left ++ n.entry ∷ n.right)
in_all root top n now e v d = ap length (sym v ∙ ap entries_of e ∙ ap entries_in (sym d)) ∙ length-map (n.left ++ n.entry ∷ n.right) (raised n.shift)

pub left_below : (root : Link) (top : Box Node Global) (n : Node) (now : List Entry) → root ≡ Full top → entries_of root ≡ now → n ≡ top.value → length n.left < length now
left_below root top n now e v d = omega (arith, in_all root top n now e v d, length-append n.left (n.entry ∷ n.right))

pub right_below : (root : Link) (top : Box Node Global) (n : Node) (now : List Entry) → root ≡ Full top → entries_of root ≡ now → n ≡ top.value → length n.right < length now
right_below root top n now e v d = omega (arith, in_all root top n now e v d, length-append n.left (n.entry ∷ n.right))

pub bounds_at : (root : Link) (top : Box Node Global) (n : Node) (b : Bounds) (now : List Entry) (base by : ℕ) → root ≡ Full top → HasBounds root → entries_of root ≡ now → n ≡ top.value → by ≡ (base + n.shift) % 2 ^ 64 →
    ((e : Entry) → Holds n.bounds e → Holds b (raised by e)) → All (Holds b) (map (raised base) now)
bounds_at root top n b now base by e k v d h more =
    let own : All (Holds n.bounds) (n.left ++ n.entry ∷ n.right) = subst (λ (m : Node). All (Holds m.bounds) (m.left ++ m.entry ∷ m.right)) (sym d) (subst HasBounds e k) in
    let there : All (Holds b) (map (raised by) (n.left ++ n.entry ∷ n.right)) = All-map (Holds b) (raised by) (n.left ++ n.entry ∷ n.right) (All-weaker (Holds n.bounds) (λ x. Holds b (raised by x)) more (n.left ++ n.entry ∷ n.right) own) in
    subst (All (Holds b)) (sym (node_at root top n now base by e v d h ∙ sym (three_raised by n.left n.entry n.right))) there

pub All-unmap : (P : Entry → Type 0) (f : Entry → Entry) (es : List Entry) → All P (map f es) → All (λ e. P (f e)) es
All-unmap P f [] h = All-nil (λ e. P (f e))
All-unmap P f (e ∷ es) h = All-cons (λ e. P (f e)) e es (All-head P (f e) (map f es) h) (All-unmap P f es (All-tail P (f e) (map f es) h))
