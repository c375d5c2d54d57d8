-- An overlay sought in a tree by its number.
use Rattle.std.proofs.Common.{◌≡◌, ℕ, true, false, ◌&&◌, nat_le, List, [], ◌∷◌, ◌++◌, All, Contains, Box, Global, Option, Some, None, is_some, IfSome, refl, ap, sym, ◌∙◌, subst, arith}
use Rattle.std.proofs.lemmas.Bool.{le-leb}
use Rattle.std.proofs.lemmas.List.Elements.{All-append, All-cons, All-map, All-weaker, Contains-get_or, Contains-append_right}
use Rattle.overlay_set.specs.Entries.{Holds, HasBounds, entries_in, entries_of, raised}
use Rattle.overlay_set.specs.declared.bounds.Entry.{Entry}
use Rattle.overlay_set.specs.declared.bounds.Bounds.{Bounds}
use Rattle.overlay_set.specs.declared.tree.Link.{Link}
use Rattle.overlay_set.specs.declared.tree.Link.TheVariants.{Full}
use Rattle.overlay_set.specs.declared.tree.Node.{Node}

pub own_there : (xs : List Entry) (e : Entry) (ys : List Entry) → Contains (xs ++ e ∷ ys) e
own_there xs e ys = Contains-append_right xs (e ∷ ys) e (Contains-get_or (e ∷ ys) 0 e (omega arith))

pub right_there : (xs : List Entry) (e : Entry) (ys : List Entry) (x : Entry) → Contains ys x → Contains (xs ++ e ∷ ys) x
right_there xs e ys x h = Contains-append_right xs (e ∷ ys) x (Contains-append_right (e ∷ []) ys x h)

pub if_some : (P Q : ℕ × ℕ × ℕ → Type 0) → ((s : ℕ × ℕ × ℕ) → P s → Q s) → (r : Option (ℕ × ℕ × ℕ)) → IfSome r P → IfSome r Q
if_some P Q f None h = h
if_some P Q f (Some s) h = f s h

pub none_left : (r : Option (ℕ × ℕ × ℕ)) → is_some r ≡ false → r ≡ None
none_left None h = refl
none_left (Some s) h = cc

abbrev pub named : ℕ → Entry → Entry
named k e = record { number = k; stretch = e.stretch }

abbrev pub IsOther : (number : ℕ) → Entry → Type 0
IsOther number e = e.number ≡ number → ⊥

-- what is known by number of a node's entries is known of the tree
pub others_up : (number : ℕ) (root : Link) (top : Box Node Global) (n : Node) (now : List Entry) → root ≡ Full top → entries_of root ≡ now → n ≡ top.value → All (IsOther number) (n.left ++ n.entry ∷ n.right) → All (IsOther number) now
others_up number root top n now e v d h = subst (All (IsOther number)) (ap entries_in d ∙ ap entries_of (sym e) ∙ v) (All-map (IsOther number) (raised n.shift) (n.left ++ n.entry ∷ n.right) h)

pub others_three : (number : ℕ) (xs : List Entry) (e : Entry) (ys : List Entry) → All (IsOther number) xs → (e.number ≡ number → ⊥) → All (IsOther number) ys → All (IsOther number) (xs ++ e ∷ ys)
others_three number xs e ys front own back = All-append (IsOther number) xs (e ∷ ys) front (All-cons (IsOther number) e ys own back)

outside : (b : Bounds) (number : ℕ) → (nat_le b.numbers.least number && nat_le number b.numbers.most) ≡ false → (e : Entry) → Holds b e → e.number ≡ number → ⊥
outside b number h e held same =
    let low : nat_le b.numbers.least number ≡ true = subst (λ k. nat_le b.numbers.least k ≡ true) same (le-leb b.numbers.least e.number held.0.0) in
    let high : nat_le number b.numbers.most ≡ true = subst (λ k. nat_le k b.numbers.most ≡ true) same (le-leb e.number b.numbers.most held.0.1) in
    let both : (nat_le b.numbers.least number && nat_le number b.numbers.most) ≡ true = rw (low, high) refl in
    let f : true ≡ false = sym both ∙ h in
    absurd_true f
  where
    absurd_true : true ≡ false → ⊥
    absurd_true f = cc

pub all_others : (number : ℕ) (root : Link) (top : Box Node Global) (n : Node) (now : List Entry) → root ≡ Full top → HasBounds root → entries_of root ≡ now → n ≡ top.value → (nat_le n.bounds.numbers.least number && nat_le number n.bounds.numbers.most) ≡ false → All (IsOther number) now
all_others number root top n now e k v d h =
    let own : All (Holds n.bounds) (n.left ++ n.entry ∷ n.right) = subst (λ (m : Node). All (Holds m.bounds) (m.left ++ m.entry ∷ m.right)) (sym d) (subst HasBounds e k) in
    others_up number root top n now e v d (All-weaker (Holds n.bounds) (IsOther number) (outside n.bounds number h) (n.left ++ n.entry ∷ n.right) own)
