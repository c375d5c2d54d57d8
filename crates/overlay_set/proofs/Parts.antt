-- Parts of a list of entries, and parts of which nothing counts.
use Rattle.std.proofs.lemmas.Bool.{and_parts, eqb-true}
use Rattle.std.proofs.Common.{◌≡◌, ℕ, ◌+◌, ◌%◌, ◌^◌, ◌<◌, Bool, true, false, not, ◌==◌, ◌&&◌, List, [], ◌∷◌, ◌++◌, length, map, All, filter, append_assoc, Box, Global, refl, ap, sym, ◌∙◌, subst, arith}
use Rattle.std.specs.List.{flat_map}
use Rattle.std.proofs.lemmas.List.{length-append}
use Rattle.std.proofs.lemmas.List.Elements.{All-nil, All-cons, All-head, All-tail, All-append, All-weaker, All-map, filter-append}
use Rattle.overlay_set.specs.Entries.{Holds, HasBounds, entries_in, entries_of, is_same, without, raised}
use Rattle.overlay_set.specs.declared.bounds.Entry.{Entry}
use Rattle.overlay_set.specs.declared.bounds.Bounds.{Bounds}
use Rattle.overlay_set.specs.declared.tree.Link.{Link}
use Rattle.overlay_set.specs.declared.tree.Link.TheVariants.{Full}
use Rattle.overlay_set.specs.declared.tree.Node.{Node}
use Rattle.overlay_set.proofs.Shifts.{All-unmap, node_at, three_raised}

pub all_left : (P : Entry → Type 0) (xs : List Entry) (e : Entry) (ys : List Entry) → All P (xs ++ e ∷ ys) → All P xs
all_left P [] e ys h = All-nil P
all_left P (x ∷ xs) e ys h = All-cons P x xs (All-head P x (xs ++ e ∷ ys) h) (all_left P xs e ys (All-tail P x (xs ++ e ∷ ys) h))

pub all_from : (P : Entry → Type 0) (xs : List Entry) (e : Entry) (ys : List Entry) → All P (xs ++ e ∷ ys) → All P (e ∷ ys)
all_from P [] e ys h = h
all_from P (x ∷ xs) e ys h = all_from P xs e ys (All-tail P x (xs ++ e ∷ ys) h)

pub all_own : (P : Entry → Type 0) (xs : List Entry) (e : Entry) (ys : List Entry) → All P (xs ++ e ∷ ys) → P e
all_own P xs e ys h = All-head P e ys (all_from P xs e ys h)

pub all_right : (P : Entry → Type 0) (xs : List Entry) (e : Entry) (ys : List Entry) → All P (xs ++ e ∷ ys) → All P ys
all_right P xs e ys h = All-tail P e ys (all_from P xs e ys h)

-- the bounds of a node, counted from its shift, hold of all entries of its tree
pub full_bounds : (root : Link) (top : Box Node Global) (n : Node) (b : Bounds) (now : List Entry) → root ≡ Full top → HasBounds root → entries_of root ≡ now → n ≡ top.value → ((e : Entry) → Holds n.bounds e → Holds b (raised n.shift e)) → All (Holds b) now
full_bounds root top n b now e k v d more =
    let own : All (Holds n.bounds) (n.left ++ n.entry ∷ n.right) = subst (λ (m : Node). All (Holds m.bounds) (m.left ++ m.entry ∷ m.right)) (sym d) (subst HasBounds e k) in
    subst (All (Holds b)) (ap entries_in d ∙ ap entries_of (sym e) ∙ v)
    (All-map (Holds b) (raised n.shift) (n.left ++ n.entry ∷ n.right) (All-weaker (Holds n.bounds) (λ x. Holds b (raised n.shift x)) more (n.left ++ n.entry ∷ n.right) own))

pub all_both : (P Q R : Entry → Type 0) → ((e : Entry) → P e → Q e → R e) → (es : List Entry) → All P es → All Q es → All R es
all_both P Q R f [] h k = All-nil R
all_both P Q R f (e ∷ es) h k = All-cons R e es (f e (All-head P e es h) (All-head Q e es k)) (all_both P Q R f es (All-tail P e es h) (All-tail Q e es k))

-- bounds that hold of three parts hold of all
pub joined_bounds : (b c d : Bounds) (xs : List Entry) (e : Entry) (ys : List Entry) → All (Holds c) xs → ((x : Entry) → Holds b x → Holds c x) → Holds b e → All (Holds d) ys → ((x : Entry) → Holds c x → Holds d x) → All (Holds d) (xs ++ e ∷ ys)
joined_bounds b c d xs e ys front more own back last =
    All-append (Holds d) xs (e ∷ ys) (All-weaker (Holds c) (Holds d) last xs front) (All-cons (Holds d) e ys (last e (more e own)) back)

-- NOTHING COUNTS
fails : (b r : Bool) → (b ≡ true → r ≡ true) → r ≡ false → b ≡ false
fails true r h k = let e : r ≡ true = h refl in let f : true ≡ false = sym e ∙ k in cc
fails false r h k = refl

pub filter_none : (p : Entry → Bool) (xs : List Entry) → All (λ e. p e ≡ false) xs → filter p xs ≡ []
filter_none p [] h = refl
filter_none p (x ∷ xs) h = let e : p x ≡ false = All-head (λ e. p e ≡ false) x xs h in rw e (filter_none p xs (All-tail (λ e. p e ≡ false) x xs h))

pub none_passes : (p : Entry → Bool) (b : Bounds) (r : Bool) (xs : List Entry) → ((e : Entry) → Holds b e → p e ≡ true → r ≡ true) → r ≡ false → All (Holds b) xs → All (λ e. p e ≡ false) xs
none_passes p b r xs h k all = All-weaker (Holds b) (λ e. p e ≡ false) (λ e held. fails (p e) r (h e held) k) xs all

none_raised : (p : Entry → Bool) (b : Bounds) (by : ℕ) (r : Bool) (xs : List Entry) → ((e : Entry) → Holds b e → p (raised by e) ≡ true → r ≡ true) → r ≡ false → All (Holds b) xs → filter p (map (raised by) xs) ≡ []
none_raised p b by r xs h k all = filter_none p (map (raised by) xs) (All-map (λ e. p e ≡ false) (raised by) xs (none_passes (λ e. p (raised by e)) b r xs h k all))

-- of a tree seen from a base
pub none_at : (p : Entry → Bool) (root : Link) (top : Box Node Global) (n : Node) (now : List Entry) (base by : ℕ) (r : Bool) → root ≡ Full top → HasBounds root → entries_of root ≡ now → n ≡ top.value → by ≡ (base + n.shift) % 2 ^ 64 →
    ((e : Entry) → Holds n.bounds e → p (raised by e) ≡ true → r ≡ true) → r ≡ false → filter p (map (raised base) now) ≡ []
none_at p root top n now base by r e k v d h more fails =
    let own : All (Holds n.bounds) (n.left ++ n.entry ∷ n.right) = subst (λ (m : Node). All (Holds m.bounds) (m.left ++ m.entry ∷ m.right)) (sym d) (subst HasBounds e k) in
    ap (filter p) (node_at root top n now base by e v d h ∙ sym (three_raised by n.left n.entry n.right)) ∙ none_raised p n.bounds by r (n.left ++ n.entry ∷ n.right) more fails own

pub filter_all : (p : Entry → Bool) (xs : List Entry) → All (λ e. p e ≡ true) xs → filter p xs ≡ xs
filter_all p [] h = refl
filter_all p (x ∷ xs) h = let e : p x ≡ true = All-head (λ e. p e ≡ true) x xs h in rw e (ap (λ ys. x ∷ ys) (filter_all p xs (All-tail (λ e. p e ≡ true) x xs h)))

pub flat_map_same : (f : Entry → List Entry) (xs : List Entry) → All (λ e. f e ≡ e ∷ []) xs → flat_map f xs ≡ xs
flat_map_same f [] h = refl
flat_map_same f (x ∷ xs) h = let e : f x ≡ x ∷ [] = All-head (λ e. f e ≡ e ∷ []) x xs h in rw e (ap (λ ys. x ∷ ys) (flat_map_same f xs (All-tail (λ e. f e ≡ e ∷ []) x xs h)))

-- what holds by number of all entries of a tree holds of those at its top node
pub node_parts : (P : Entry → Type 0) (root : Link) (top : Box Node Global) (n : Node) (now : List Entry) → root ≡ Full top → entries_of root ≡ now → n ≡ top.value → All P now → All (λ e. P (raised n.shift e)) (n.left ++ n.entry ∷ n.right)
node_parts P root top n now e v d h =
    let k : All P (entries_of (Full top)) = subst (All P) (sym v ∙ ap entries_of e) h in
    subst (λ (m : Node). All (λ x. P (raised m.shift x)) (m.left ++ m.entry ∷ m.right)) (sym d) (All-unmap P (raised top.value.shift) (top.value.left ++ top.value.entry ∷ top.value.right) k)

-- AN ENTRY TAKEN OUT
abbrev the_entry : (number buffer start end : ℕ) → Entry
the_entry n b s e = record { number = n; stretch = (b, s, e) }

same_parts : (n m b c s t e f : ℕ) → n ≡ m → b ≡ c → s ≡ t → e ≡ f → the_entry n b s e ≡ the_entry m c t f
same_parts n m b c s t e f h k l p = rw (h, k, l, p) refl

pub is_same-true : (a b : Entry) → is_same a b ≡ true → a ≡ b
is_same-true a b h =
    let whole = and_parts (a.number == b.number) ((a.stretch.0 == b.stretch.0) && ((a.stretch.1 == b.stretch.1) && (a.stretch.2 == b.stretch.2))) h in
    let stretch = and_parts (a.stretch.0 == b.stretch.0) ((a.stretch.1 == b.stretch.1) && (a.stretch.2 == b.stretch.2)) whole.1 in
    let places = and_parts (a.stretch.1 == b.stretch.1) (a.stretch.2 == b.stretch.2) stretch.1 in
    same_parts a.number b.number a.stretch.0 b.stretch.0 a.stretch.1 b.stretch.1 a.stretch.2 b.stretch.2
    (eqb-true a.number b.number whole.0) (eqb-true a.stretch.0 b.stretch.0 stretch.0) (eqb-true a.stretch.1 b.stretch.1 places.0) (eqb-true a.stretch.2 b.stretch.2 places.1)

differs : (b : Bounds) (r : Bool) (gone e : Entry) → (Holds b gone → r ≡ true) → r ≡ false → Holds b e → not (is_same e gone) ≡ true
differs b r gone e h k held = by_test (is_same e gone) refl
  where
    by_test : (t : Bool) → is_same e gone ≡ t → not (is_same e gone) ≡ true
    by_test true same =
        let there : Holds b gone = subst (Holds b) (is_same-true e gone same) held in
        let f : true ≡ false = sym (h there) ∙ k in cc
    by_test false other = rw other refl

-- an entry that the bounds exclude is none of these
pub without_none : (b : Bounds) (r : Bool) (gone : Entry) (xs : List Entry) → (Holds b gone → r ≡ true) → r ≡ false → All (Holds b) xs → without gone xs ≡ xs
without_none b r gone xs h k all = filter_all (λ e. not (is_same e gone)) xs (All-weaker (Holds b) (λ e. not (is_same e gone) ≡ true) (λ e held. differs b r gone e h k held) xs all)

-- an entry that is the given one goes from between two parts, and another one stays
pub gone_between : (gone : Entry) (tree xs : List Entry) (e : Entry) (ys left right : List Entry) → tree ≡ xs ++ e ∷ ys → left ≡ without gone xs → right ≡ without gone ys → is_same e gone ≡ true → left ++ right ≡ without gone tree
gone_between gone tree xs e ys left right whole front back same =
    let own : without gone (e ∷ ys) ≡ without gone ys = rw same refl in
    rw (whole, front, back) (sym (filter-append (λ x. not (is_same x gone)) xs (e ∷ ys) ∙ ap (λ es. without gone xs ++ es) own))

pub kept_between : (gone : Entry) (tree xs : List Entry) (e : Entry) (ys left right : List Entry) → tree ≡ xs ++ e ∷ ys → left ≡ without gone xs → right ≡ without gone ys → is_same e gone ≡ false → left ++ e ∷ right ≡ without gone tree
kept_between gone tree xs e ys left right whole front back other =
    let own : without gone (e ∷ ys) ≡ e ∷ without gone ys = rw other refl in
    rw (whole, front, back) (sym (filter-append (λ x. not (is_same x gone)) xs (e ∷ ys) ∙ ap (λ es. without gone xs ++ es) own))

-- each side of a node is shorter than the whole
pub left_shorter : (tree xs : List Entry) (e : Entry) (ys : List Entry) → tree ≡ xs ++ e ∷ ys → length xs < length tree
left_shorter tree xs e ys whole = rw whole (omega (arith, length-append xs (e ∷ ys)))

pub right_shorter : (tree xs : List Entry) (e : Entry) (ys : List Entry) → tree ≡ xs ++ e ∷ ys → length ys < length tree
right_shorter tree xs e ys whole = rw whole (omega (arith, length-append xs (e ∷ ys)))

-- an item between two lists, of which the first or the second has parts
pub joined_right : (left xs : List Entry) (e : Entry) (ys : List Entry) (new : Entry) (right more : List Entry) → left ≡ xs ++ e ∷ ys → more ≡ ys ++ new ∷ right → xs ++ e ∷ more ≡ left ++ new ∷ right
joined_right left xs e ys new right more whole part = rw (whole, part) (sym (append_assoc xs (e ∷ ys) (new ∷ right)))

pub joined_left : (left : List Entry) (new : Entry) (right xs : List Entry) (e : Entry) (ys more : List Entry) → right ≡ xs ++ e ∷ ys → more ≡ left ++ new ∷ xs → more ++ e ∷ ys ≡ left ++ new ∷ right
joined_left left new right xs e ys more whole part = rw (whole, part) (append_assoc left (new ∷ xs) (e ∷ ys))
