-- The records of a change of properties: undoing them gives back each set.
use Rattle.std.proofs.Common.{◌≡◌, ℕ, zero, suc, ◌+◌, ◌-◌, ◌≤◌, ◌<◌, Bool, true, false, List, [], ◌∷◌, ◌++◌, map, refl, ap, sym, subst, ◌∙◌, arith}
use Rattle.std.specs.Prelude.{if◌then◌else◌, ◌==◌, ◌&&◌, ◌||◌, nat_lt, nat_le, slice_get, Option, Some, None}
use Rattle.std.specs.List.{filter_map}
use Rattle.std.proofs.lemmas.Bool.{eqb-true, ltb-true, ltb-false, lt-ltb, leb-true, le-leb, and_parts, false≢true}
use Rattle.text_model.specs.Properties.{PropVal, PropSet, PropEdit, Cell, get, put, edited, same_option, same_value, part, with_sets, stretches, stretch_more}
use Rattle.text_model.specs.Undo.{Rec, Prop, undo_in_text}
use Rattle.text_model.specs.Commit.{touched, stretch_record, records_of_name, records_of_names, property_records}
use Rattle.text_model.specs.Ordered.{IsOrdered, AreOrdered, GivesOrdered}
use Rattle.text_model.proofs.Sets.{elem, get-put, ordered-put, same_sets, ordered-edited, edited_touched, edited_untouched}
use Rattle.text_model.proofs.Cases.{by_test, if_true, if_false, same_tests}
use Rattle.text_model.proofs.Sameness.{same_option-sound}
use Rattle.text_model.proofs.Lists.{mapped_at}

-- EQUAL VALUES

-- EACH CHARACTER OF A TEXT
abbrev pub each : (ℕ → PropSet → PropSet) → List Cell → List Cell
each f [] = []
each f (c ∷ text) = (c.0, f 0 c.1) ∷ each (λ i. f (suc i)) text

abbrev pub covers : (from to at : ℕ) → Bool
covers from to at = nat_le from at && nat_lt at to

pub each_same : (f g : ℕ → PropSet → PropSet) (text : List Cell) → ((i : ℕ) (set : PropSet) → f i set ≡ g i set) → each f text ≡ each g text
each_same f g [] h = refl
each_same f g (c ∷ text) h = let e : f 0 c.1 ≡ g 0 c.1 = h 0 c.1 in let r : each (λ i. f (suc i)) text ≡ each (λ i. g (suc i)) text = each_same (λ i. f (suc i)) (λ i. g (suc i)) text (λ i set. h (suc i) set) in rw (e, r) refl

pub each_each : (f g : ℕ → PropSet → PropSet) (text : List Cell) → each f (each g text) ≡ each (λ i set. f i (g i set)) text
each_each f g [] = refl
each_each f g (c ∷ text) = rw (each_each (λ i. f (suc i)) (λ i. g (suc i)) text) refl

pub each_kept : (f : ℕ → PropSet → PropSet) (text : List Cell) → ((i : ℕ) (c : Cell) → slice_get text i ≡ Some c → f i c.1 ≡ c.1) → each f text ≡ text
each_kept f [] h = refl
each_kept f (c ∷ text) h = let e : f 0 c.1 ≡ c.1 = h 0 c refl in let r : each (λ i. f (suc i)) text ≡ text = each_kept (λ i. f (suc i)) text (λ i d k. h (suc i) d k) in rw (e, r) refl

pub covers_at : (from to at : ℕ) → covers from to at ≡ true → (from ≤ at) × (at < to)
covers_at from to at h = let t : (nat_le from at ≡ true) × (nat_lt at to ≡ true) = and_parts _ _ h in (leb-true from at t.0, ltb-true at to t.1)

pub at_covers : (from to at : ℕ) → from ≤ at → at < to → covers from to at ≡ true
at_covers from to at h k = rw (le-leb from at h, lt-ltb at to k) refl

pub not_covers : (from to at : ℕ) → ((from ≤ at) → (at < to) → ⊥) → covers from to at ≡ false
not_covers from to at h = go (covers from to at) refl
  where
    go : (t : Bool) → covers from to at ≡ t → t ≡ false
    go false e = refl
    go true e = let k : (from ≤ at) × (at < to) = covers_at from to at e in absurd (h k.0 k.1)

covers_suc : (a b i : ℕ) → covers (suc a) (suc b) (suc i) ≡ covers a b i
covers_suc a b i = same_tests _ _
    (λ h. let k : (suc a ≤ suc i) × (suc i < suc b) = covers_at (suc a) (suc b) (suc i) h in at_covers a b i (omega arith) (omega arith))
    (λ h. let k : (a ≤ i) × (i < b) = covers_at a b i h in at_covers (suc a) (suc b) (suc i) (omega arith) (omega arith))

covers_from_0 : (b i : ℕ) → covers 0 (suc b) (suc i) ≡ covers 0 b i
covers_from_0 b i = same_tests _ _
    (λ h. let k : (0 ≤ suc i) × (suc i < suc b) = covers_at 0 (suc b) (suc i) h in at_covers 0 b i (omega arith) (omega arith))
    (λ h. let k : (0 ≤ i) × (i < b) = covers_at 0 b i h in at_covers 0 (suc b) (suc i) (omega arith) (omega arith))

-- a change of the sets of a part, as one of each character
pub with_sets-each : (from to : ℕ) (g : PropSet → PropSet) (text : List Cell) → from ≤ to → with_sets from to g text ≡ each (λ i set. if covers from to i then g set else set) text
with_sets-each zero zero g text h = sym (each_kept (λ i set. if covers 0 0 i then g set else set) text (λ i c e. if_false (g c.1) (not_covers 0 0 i (λ x y. absurd (omega arith)))))
with_sets-each zero (suc b) g [] h = refl
with_sets-each zero (suc b) g (c ∷ text) h =
    let t : covers 0 (suc b) 0 ≡ true = at_covers 0 (suc b) 0 (omega arith) (omega arith) in
    let r : with_sets zero b g text ≡ each (λ i set. if covers 0 b i then g set else set) text = with_sets-each zero b g text (omega arith) in
    let s : each (λ i set. if covers 0 (suc b) (suc i) then g set else set) text ≡ each (λ i set. if covers 0 b i then g set else set) text = each_same _ _ text (λ i set. ap (λ x. if x then g set else set) (covers_from_0 b i)) in
    ap (λ x. (c.0, g c.1) ∷ x) (r ∙ sym s) ∙ ap (λ x. (c.0, x) ∷ each (λ i set. if covers 0 (suc b) (suc i) then g set else set) text) (sym (if_true c.1 t))
with_sets-each (suc a) zero g text h = absurd (omega arith)
with_sets-each (suc a) (suc b) g [] h = refl
with_sets-each (suc a) (suc b) g (c ∷ text) h =
    let t : covers (suc a) (suc b) 0 ≡ false = not_covers (suc a) (suc b) 0 (λ x y. omega arith) in
    let r : with_sets a b g text ≡ each (λ i set. if covers a b i then g set else set) text = with_sets-each a b g text (omega arith) in
    let s : each (λ i set. if covers (suc a) (suc b) (suc i) then g set else set) text ≡ each (λ i set. if covers a b i then g set else set) text = each_same _ _ text (λ i set. ap (λ x. if x then g set else set) (covers_suc a b i)) in
    ap (λ x. c ∷ x) (r ∙ sym s) ∙ ap (λ x. (c.0, x) ∷ each (λ i set. if covers (suc a) (suc b) (suc i) then g set else set) text) (sym (if_false (g c.1) t))

-- UNDOING SOME RECORDS OF PROPERTIES
-- what is left of a text when the records that some change made are undone, the last one first
abbrev pub undo_records : List Rec → List Cell → List Cell
undo_records [] text = text
undo_records (r ∷ records) text = undo_in_text r (undo_records records text)

abbrev pub AreProps : List Rec → Type 0
AreProps [] = Unit {0}
AreProps (Prop name old from to ∷ records) = (from ≤ to) × AreProps records
AreProps (_ ∷ records) = ⊥

abbrev undo_set : List Rec → ℕ → PropSet → PropSet
undo_set [] at set = set
undo_set (Prop name old from to ∷ records) at set = if covers from to at then put (undo_set records at set) name old else undo_set records at set
undo_set (_ ∷ records) at set = undo_set records at set

-- the value that the records give a name of a character
abbrev told : List Rec → (at name : ℕ) → Option (Option PropVal)
told [] at name = None
told (Prop n old from to ∷ records) at name = if covers from to at && (n == name) then Some old else told records at name
told (_ ∷ records) at name = told records at name

abbrev or_told : Option (Option PropVal) → Option PropVal → Option PropVal
or_told None v = v
or_told (Some old) v = old

undo_records-each : (records : List Rec) (text : List Cell) → AreProps records → undo_records records text ≡ each (undo_set records) text
undo_records-each [] text h = sym (each_kept (λ i set. set) text (λ i c e. refl))
undo_records-each (Prop name old from to ∷ records) text h =
    ap (with_sets from to (λ set. put set name old)) (undo_records-each records text h.1) ∙ with_sets-each from to (λ set. put set name old) (each (undo_set records) text) h.0 ∙ each_each _ _ text
undo_records-each (_ ∷ records) text h = absurd h

ordered-undo_set : (records : List Rec) (at : ℕ) (set : PropSet) → IsOrdered set → IsOrdered (undo_set records at set)
ordered-undo_set [] at set r = r
ordered-undo_set (Prop name old from to ∷ records) at set r =
    by_test (λ s. IsOrdered s) (covers from to at) _ _ (λ h. ordered-put (undo_set records at set) name old (ordered-undo_set records at set r)) (λ h. ordered-undo_set records at set r)
ordered-undo_set (_ ∷ records) at set r = ordered-undo_set records at set r

get-undo_set : (records : List Rec) (at : ℕ) (set : PropSet) (name : ℕ) → get (undo_set records at set) name ≡ or_told (told records at name) (get set name)
get-undo_set [] at set name = refl
get-undo_set (Prop n old from to ∷ records) at set name = both (covers from to at) (get-undo_set records at set name)
  where
    inner : (t : Bool) (o : Option (Option PropVal)) (v w : Option PropVal) → w ≡ or_told o v → (if t then old else w) ≡ or_told (if t then Some old else o) v
    inner true o v w e = refl
    inner false o v w e = e

    both : (t : Bool) → get (undo_set records at set) name ≡ or_told (told records at name) (get set name) →
        get (if t then put (undo_set records at set) n old else undo_set records at set) name ≡ or_told (if t && (n == name) then Some old else told records at name) (get set name)
    both true ih = get-put (undo_set records at set) n old name ∙ inner (n == name) _ _ _ ih
    both false ih = ih
get-undo_set (_ ∷ records) at set name = get-undo_set records at set name

-- STRETCHES
abbrev Stretch : Type 0
Stretch = Option PropVal × ℕ × ℕ

abbrev same_values : Option PropVal → Option PropVal → Bool
same_values = same_option same_value

-- each stretch begins where the one before it ends
abbrev Chain : (at : ℕ) → List Stretch → Type 0
Chain at [] = Unit {0}
Chain at (s ∷ rest) = (s.1 ≡ at) × ((s.1 < s.2) × Chain s.2 rest)

abbrev found : ℕ → List Stretch → Option (Option PropVal)
found i [] = None
found i (s ∷ rest) = if covers s.1 s.2 i then Some s.0 else found i rest

chain-stretches : (at : ℕ) (vs : List (Option PropVal)) → Chain at (stretches same_values at vs)
chain-stretches at [] = tt
chain-stretches at (v ∷ vs) = go (stretches same_values (at + 1) vs) (chain-stretches (at + 1) vs)
  where
    go : (ss : List Stretch) → Chain (at + 1) ss → Chain at (stretch_more same_values v at ss)
    go [] h = (refl, (omega arith, tt))
    go (s ∷ rest) h = by_test (λ l. Chain at l) (same_values v s.0) ((v, at, s.2) ∷ rest) ((v, at, at + 1) ∷ s ∷ rest) (λ k. (refl, (omega arith, h.1.1))) (λ k. (refl, (omega arith, h)))

found_before : (at i : ℕ) (ss : List Stretch) → Chain at ss → i < at → found i ss ≡ None
found_before at i [] h k = refl
found_before at i (s ∷ rest) h k =
    let b : s.1 ≡ at = h.0 in
    let c : s.1 < s.2 = h.1.0 in
    if_false (Some s.0) (not_covers s.1 s.2 i (λ x y. omega arith)) ∙ found_before s.2 i rest h.1.1 (omega arith)

found-stretches : (at k : ℕ) (vs : List (Option PropVal)) → found (at + k) (stretches same_values at vs) ≡ slice_get vs k
found-stretches at k [] = refl
found-stretches at zero (v ∷ vs) = go (stretches same_values (at + 1) vs) (chain-stretches (at + 1) vs)
  where
    go : (ss : List Stretch) → Chain (at + 1) ss → found (at + 0) (stretch_more same_values v at ss) ≡ Some v
    go [] h = if_true None (at_covers at (at + 1) (at + 0) (omega arith) (omega arith))
    go (s ∷ rest) h =
        let b : s.1 ≡ at + 1 = h.0 in
        let c : s.1 < s.2 = h.1.0 in
        by_test (λ l. found (at + 0) l ≡ Some v) (same_values v s.0) ((v, at, s.2) ∷ rest) ((v, at, at + 1) ∷ s ∷ rest)
        (λ k. if_true _ (at_covers at s.2 (at + 0) (omega arith) (omega arith)))
        (λ k. if_true _ (at_covers at (at + 1) (at + 0) (omega arith) (omega arith)))
found-stretches at (suc j) (v ∷ vs) = go (stretches same_values (at + 1) vs) (chain-stretches (at + 1) vs) ∙ found-stretches (at + 1) j vs
  where
    go : (ss : List Stretch) → Chain (at + 1) ss → found (at + suc j) (stretch_more same_values v at ss) ≡ found (at + 1 + j) ss
    go [] h = if_false (Some v) (not_covers at (at + 1) (at + suc j) (λ x y. omega arith))
    go (s ∷ rest) h =
        let b : s.1 ≡ at + 1 = h.0 in
        let i : at + suc j ≡ at + 1 + j = omega arith in
        by_test (λ l. found (at + suc j) l ≡ found (at + 1 + j) (s ∷ rest)) (same_values v s.0) ((v, at, s.2) ∷ rest) ((v, at, at + 1) ∷ s ∷ rest)
        (λ k.
        let e : v ≡ s.0 = same_option-sound v s.0 k in
        let f : covers at s.2 (at + suc j) ≡ covers s.1 s.2 (at + 1 + j) = same_tests _ _
        (λ x. let y : (at ≤ at + suc j) × (at + suc j < s.2) = covers_at at s.2 (at + suc j) x in at_covers s.1 s.2 (at + 1 + j) (omega arith) (omega arith))
        (λ x. let y : (s.1 ≤ at + 1 + j) × (at + 1 + j < s.2) = covers_at s.1 s.2 (at + 1 + j) x in at_covers at s.2 (at + suc j) (omega arith) (omega arith)) in
        rw (e, f) (ap (λ n. if covers s.1 s.2 (at + 1 + j) then Some s.0 else found n rest) i))
        (λ k. if_false (Some v) (not_covers at (at + 1) (at + suc j) (λ x y. omega arith)) ∙ ap (λ n. found n (s ∷ rest)) i)

abbrev said : Option PropVal → Option (Option PropVal) → Option (Option PropVal)
said new None = None
said new (Some v) = if same_values v new then None else Some v

told-stretches : (name : ℕ) (new : Option PropVal) (at i : ℕ) (ss : List Stretch) (other : ℕ) → Chain at ss → told (filter_map (stretch_record name new) ss) i other ≡ (if name == other then said new (found i ss) else None)
told-stretches name new at i [] other h = by_test (λ x. None ≡ x) (name == other) None None (λ k. refl) (λ k. refl)
told-stretches name new at i (s ∷ rest) other h = go (same_values s.0 new) refl (covers s.1 s.2 i) refl (told-stretches name new s.2 i rest other h.1.1)
  where
    gone : (u : Bool) → covers s.1 s.2 i ≡ u → said new (found i rest) ≡ (if u then None else said new (found i rest))
    gone true f = let c : (s.1 ≤ i) × (i < s.2) = covers_at s.1 s.2 i f in ap (said new) (found_before s.2 i rest h.1.1 c.1)
    gone false f = refl

    outer : (t u : Bool) → same_values s.0 new ≡ t → covers s.1 s.2 i ≡ u → said new (if u then Some s.0 else found i rest) ≡ (if u then (if t then None else Some s.0) else said new (found i rest))
    outer true true e f = if_true _ e
    outer false true e f = if_false _ e
    outer t false e f = refl

    both : (u v : Bool) (o : Option (Option PropVal)) → (if u && v then Some s.0 else (if v then o else None)) ≡ (if v then (if u then Some s.0 else o) else None)
    both true true o = refl
    both true false o = refl
    both false true o = refl
    both false false o = refl

    go : (t : Bool) → same_values s.0 new ≡ t → (u : Bool) → covers s.1 s.2 i ≡ u → told (filter_map (stretch_record name new) rest) i other ≡ (if name == other then said new (found i rest) else None) →
        told (filter_map (stretch_record name new) (s ∷ rest)) i other ≡ (if name == other then said new (found i (s ∷ rest)) else None)
    go true e u f ih =
        let q : stretch_record name new s ≡ None = if_true _ e in
        let x : said new (found i (s ∷ rest)) ≡ said new (found i rest) = rw f (outer true u e f ∙ sym (gone u f)) in
        rw (q, x) ih
    go false e u f ih =
        let q : stretch_record name new s ≡ Some (Prop name s.0 s.1 s.2) = if_false _ e in
        let x : said new (found i (s ∷ rest)) ≡ (if u then Some s.0 else said new (found i rest)) = rw f (outer false u e f) in
        rw (q, x, f) (ap (λ o. if u && (name == other) then Some s.0 else o) ih ∙ both u (name == other) (said new (found i rest)))

-- THE RECORDS OF A CHANGE
abbrev first_told : Option (Option PropVal) → Option (Option PropVal) → Option (Option PropVal)
first_told None o = o
first_told (Some v) o = Some v

told-append : (xs ys : List Rec) (i name : ℕ) → AreProps xs → told (xs ++ ys) i name ≡ first_told (told xs i name) (told ys i name)
told-append [] ys i name h = refl
told-append (Prop n old from to ∷ xs) ys i name h = go (covers from to i && (n == name)) (told-append xs ys i name h.1)
  where
    go : (t : Bool) → told (xs ++ ys) i name ≡ first_told (told xs i name) (told ys i name) →
        (if t then Some old else told (xs ++ ys) i name) ≡ first_told (if t then Some old else told xs i name) (told ys i name)
    go true ih = refl
    go false ih = ih
told-append (_ ∷ xs) ys i name h = absurd h

props-append : (xs ys : List Rec) → AreProps xs → AreProps ys → AreProps (xs ++ ys)
props-append [] ys h k = k
props-append (Prop n old from to ∷ xs) ys h k = (h.0, props-append xs ys h.1 k)
props-append (_ ∷ xs) ys h k = absurd h

props-stretches : (name : ℕ) (new : Option PropVal) (at : ℕ) (ss : List Stretch) → Chain at ss → AreProps (filter_map (stretch_record name new) ss)
props-stretches name new at [] h = tt
props-stretches name new at (s ∷ rest) h = go (same_values s.0 new) (props-stretches name new s.2 rest h.1.1)
  where
    go : (t : Bool) → AreProps (filter_map (stretch_record name new) rest) → AreProps (Rattle.std.specs.List.cons_option (if t then None else Some (Prop name s.0 s.1 s.2)) (filter_map (stretch_record name new) rest))
    go true ih = ih
    go false ih = let l : s.1 < s.2 = h.1.0 in (omega arith, ih)

-- the sets of one name of the characters
abbrev values_of : List Cell → (name : ℕ) → List (Option PropVal)
values_of cells name = map (λ c. get c.1 name) cells

props-name : (edit : PropEdit) (from : ℕ) (cells : List Cell) (n : ℕ) → AreProps (records_of_name edit from cells n)
props-name edit from cells n = props-stretches n (get (edited edit []) n) from (stretches same_values from (values_of cells n)) (chain-stretches from (values_of cells n))

props-names : (edit : PropEdit) (from : ℕ) (cells : List Cell) (names : List ℕ) → AreProps (records_of_names edit from cells names)
props-names edit from cells [] = tt
props-names edit from cells (n ∷ names) = props-append (records_of_name edit from cells n) _ (props-name edit from cells n) (props-names edit from cells names)

pub props-records : (edit : PropEdit) (from to : ℕ) (text : List Cell) → AreProps (property_records edit from to text)
props-records edit from to text = props-names edit from (part from to text) (touched edit (part from to text))

told-name : (edit : PropEdit) (from i : ℕ) (cells : List Cell) (n name : ℕ) →
    told (records_of_name edit from cells n) i name ≡ (if n == name then said (get (edited edit []) name) (found i (stretches same_values from (values_of cells name))) else None)
told-name edit from i cells n name = told-stretches n (get (edited edit []) n) from i (stretches same_values from (values_of cells n)) name (chain-stretches from (values_of cells n)) ∙ go (n == name) refl
  where
    go : (t : Bool) → (n == name) ≡ t → (if t then said (get (edited edit []) n) (found i (stretches same_values from (values_of cells n))) else None) ≡ (if t then said (get (edited edit []) name) (found i (stretches same_values from (values_of cells name))) else None)
    go true e = let k : n ≡ name = eqb-true n name e in rw k refl
    go false e = refl

told-names : (edit : PropEdit) (from i : ℕ) (cells : List Cell) (names : List ℕ) (name : ℕ) →
    told (records_of_names edit from cells names) i name ≡ (if elem name names then said (get (edited edit []) name) (found i (stretches same_values from (values_of cells name))) else None)
told-names edit from i cells [] name = refl
told-names edit from i cells (n ∷ names) name =
    told-append (records_of_name edit from cells n) (records_of_names edit from cells names) i name (props-name edit from cells n) ∙
    ap (λ o. first_told o (told (records_of_names edit from cells names) i name)) (told-name edit from i cells n name) ∙
    ap (first_told (if n == name then said (get (edited edit []) name) (found i (stretches same_values from (values_of cells name))) else None)) (told-names edit from i cells names name) ∙
    both (n == name) (elem name names) (said (get (edited edit []) name) (found i (stretches same_values from (values_of cells name))))
  where
    both : (t u : Bool) (o : Option (Option PropVal)) → first_told (if t then o else None) (if u then o else None) ≡ (if t || u then o else None)
    both true true None = refl
    both true false None = refl
    both true u (Some v) = refl
    both false u o = refl

slice_get-part : (from to k : ℕ) (text : List Cell) → from + k < to → slice_get (part from to text) k ≡ slice_get text (from + k)
slice_get-part zero zero k text h = absurd (omega arith)
slice_get-part zero (suc to) k [] h = refl
slice_get-part zero (suc to) zero (c ∷ text) h = refl
slice_get-part zero (suc to) (suc k) (c ∷ text) h = let e : zero + suc k ≡ suc (zero + k) = omega arith in slice_get-part zero to k text (omega arith) ∙ ap (slice_get (c ∷ text)) (sym e)
slice_get-part (suc from) zero k text h = absurd (omega arith)
slice_get-part (suc from) (suc to) k [] h = refl
slice_get-part (suc from) (suc to) k (c ∷ text) h = let e : suc from + k ≡ suc (from + k) = omega arith in slice_get-part from to k text (omega arith) ∙ ap (slice_get (c ∷ text)) (sym e)

ordered_at : (text : List Cell) (k : ℕ) (c : Cell) → AreOrdered text → slice_get text k ≡ Some c → IsOrdered c.1
ordered_at [] k c h e = cc
ordered_at (d ∷ text) zero c h e = let q : d ≡ c = same_cell d c e in subst (λ x. IsOrdered x.1) q h.0
  where
    same_cell : (d c : Cell) → Some d ≡ Some c → d ≡ c
    same_cell d c e = cc
ordered_at (d ∷ text) (suc k) c h e = ordered_at text k c h.1 e

slice_get-part_past : (from to k : ℕ) (text : List Cell) → to ≤ from + k → slice_get (part from to text) k ≡ None
slice_get-part_past zero zero k text h = refl
slice_get-part_past zero (suc to) k [] h = refl
slice_get-part_past zero (suc to) zero (c ∷ text) h = absurd (omega arith)
slice_get-part_past zero (suc to) (suc k) (c ∷ text) h = slice_get-part_past zero to k text (omega arith)
slice_get-part_past (suc from) zero k [] h = refl
slice_get-part_past (suc from) zero k (c ∷ text) h = refl
slice_get-part_past (suc from) (suc to) k [] h = refl
slice_get-part_past (suc from) (suc to) k (c ∷ text) h = slice_get-part_past from to k text (omega arith)

slice_get-map_past : {A B : Type 0} (f : A → B) (xs : List A) (k : ℕ) → slice_get xs k ≡ None → slice_get (map f xs) k ≡ None
slice_get-map_past f [] k e = refl
slice_get-map_past f (y ∷ xs) zero e = cc
slice_get-map_past f (y ∷ xs) (suc k) e = slice_get-map_past f xs k e

found_past : (from to i name : ℕ) (text : List Cell) → covers from to i ≡ false → found i (stretches same_values from (values_of (part from to text) name)) ≡ None
found_past from to i name text h = go (nat_lt i from) refl
  where
    go : (t : Bool) → nat_lt i from ≡ t → found i (stretches same_values from (values_of (part from to text) name)) ≡ None
    go true e = found_before from i _ (chain-stretches from (values_of (part from to text) name)) (ltb-true i from e)
    go false e =
        let l : from ≤ i = ltb-false i from e in
        let k : ℕ = i - from in
        let q : from + k ≡ i = omega arith in
        let r : to ≤ from + k = past (nat_lt i to) refl in
        ap (λ j. found j (stretches same_values from (values_of (part from to text) name))) (sym q) ∙ found-stretches from k (values_of (part from to text) name) ∙ slice_get-map_past (λ c. get c.1 name) (part from to text) k (slice_get-part_past from to k text r)
      where
        past : (t : Bool) → nat_lt i to ≡ t → to ≤ from + (i - from)
        past true f = let l : from ≤ i = ltb-false i from e in absurd (false≢true (sym h ∙ at_covers from to i l (ltb-true i to f)))
        past false f = let l : from ≤ i = ltb-false i from e in let m : to ≤ i = ltb-false i to f in omega arith

abbrev Same : Option (Option PropVal) → Option (Option PropVal) → Type 0
Same a b = a ≡ b

-- Undoing the records of a change of properties gives back the text.
pub property_undone : (edit : PropEdit) (from to : ℕ) (text : List Cell) → from ≤ to → AreOrdered text → GivesOrdered edit →
    undo_records (property_records edit from to text) (with_sets from to (edited edit) text) ≡ text
property_undone edit from to text h o g =
    undo_records-each records (with_sets from to (edited edit) text) (props-records edit from to text) ∙ ap (each (undo_set records)) (with_sets-each from to (edited edit) text h) ∙ each_each _ _ text ∙
    each_kept (λ i set. undo_set records i (if covers from to i then edited edit set else set)) text (λ i c e. kept i c e (covers from to i) refl)
  where
    records : List Rec
    records = property_records edit from to text

    old : (i : ℕ) (c : Cell) → slice_get text i ≡ Some c → covers from to i ≡ true → (name : ℕ) →
        told records i name ≡ (if elem name (touched edit (part from to text)) then (if same_values (get c.1 name) (get (edited edit []) name) then None else Some (get c.1 name)) else None)
    old i c e f name =
        let l : (from ≤ i) × (i < to) = covers_at from to i f in
        let k : ℕ = i - from in
        let q : from + k ≡ i = omega arith in
        let a : slice_get (part from to text) k ≡ Some c = slice_get-part from to k text (omega arith) ∙ ap (slice_get text) q ∙ e in
        let b : found i (stretches same_values from (values_of (part from to text) name)) ≡ Some (get c.1 name) =
        ap (λ j. found j (stretches same_values from (values_of (part from to text) name))) (sym q) ∙ found-stretches from k (values_of (part from to text) name) ∙ mapped_at (λ d. get d.1 name) (part from to text) k c a in
        told-names edit from i (part from to text) (touched edit (part from to text)) name ∙ ap (λ o. if elem name (touched edit (part from to text)) then said (get (edited edit []) name) o else None) b

    restored : (i : ℕ) (c : Cell) → slice_get text i ≡ Some c → covers from to i ≡ true → (name : ℕ) → get (undo_set records i (edited edit c.1)) name ≡ get c.1 name
    restored i c e f name = get-undo_set records i (edited edit c.1) name ∙ rw (old i c e f name) (by_name (elem name (touched edit (part from to text))) refl)
      where
        by_value : (t : Bool) → same_values (get c.1 name) (get (edited edit []) name) ≡ t → elem name (touched edit (part from to text)) ≡ true →
            or_told (if t then None else Some (get c.1 name)) (get (edited edit c.1) name) ≡ get c.1 name
        by_value true u v = edited_touched edit (part from to text) c.1 name v ∙ sym (same_option-sound (get c.1 name) (get (edited edit []) name) u)
        by_value false u v = refl

        by_name : (t : Bool) → elem name (touched edit (part from to text)) ≡ t →
            or_told (if t then (if same_values (get c.1 name) (get (edited edit []) name) then None else Some (get c.1 name)) else None) (get (edited edit c.1) name) ≡ get c.1 name
        by_name true v = by_value (same_values (get c.1 name) (get (edited edit []) name)) refl v
        by_name false v =
            let l : (from ≤ i) × (i < to) = covers_at from to i f in
            let k : ℕ = i - from in
            let q : from + k ≡ i = omega arith in
            edited_untouched edit (part from to text) k c name (slice_get-part from to k text (omega arith) ∙ ap (slice_get text) q ∙ e) v

    outside : (i : ℕ) (c : Cell) → covers from to i ≡ false → (name : ℕ) → get (undo_set records i c.1) name ≡ get c.1 name
    outside i c f name =
        get-undo_set records i c.1 name ∙
        ap (λ o. or_told o (get c.1 name)) (told-names edit from i (part from to text) (touched edit (part from to text)) name ∙ ap (λ o. if elem name (touched edit (part from to text)) then said (get (edited edit []) name) o else None) (found_past from to i name text f) ∙ nothing (elem name (touched edit (part from to text))))
      where
        nothing : (t : Bool) → Same (if t then None else None) None
        nothing true = refl
        nothing false = refl

    kept : (i : ℕ) (c : Cell) → slice_get text i ≡ Some c → (t : Bool) → covers from to i ≡ t → undo_set records i (if t then edited edit c.1 else c.1) ≡ c.1
    kept i c e true f =
        let r : IsOrdered c.1 = ordered_at text i c o e in
        same_sets 0 _ c.1 (ordered-undo_set records i (edited edit c.1) (ordered-edited edit c.1 g r)) r (restored i c e f)
    kept i c e false f =
        let r : IsOrdered c.1 = ordered_at text i c o e in
        same_sets 0 _ c.1 (ordered-undo_set records i c.1 r) r (outside i c f)
