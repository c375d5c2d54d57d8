-- Property lists, read from their ends.
use Rattle.std.proofs.Common.{◌≡◌, ℕ, zero, suc, ◌+◌, ◌*◌, ◌≤◌, Bool, true, false, List, [], ◌∷◌, ◌++◌, length, map, take, drop, refl, sym, ap, ◌∙◌, arith, append_assoc}
use Rattle.std.specs.Prelude.{slice_get, Option, Some, None, filter, is_none, is_some, unwrap_or, ◌==◌, ◌||◌, if◌then◌else◌}
use Rattle.std.specs.List.{list_any}
use Rattle.std.proofs.lemmas.List.{take_all}
use Rattle.std.proofs.lemmas.List.Folds.{list_any-append}
use Rattle.text_model.proofs.Lists.{take_one_more, drop_at}
use Rattle.text_model.specs.Properties.{PropVal}
use Rattle.editor_model.specs.Values.{Value, Sym, Pairs, as_prop, with_pair, pairs_of, items, values}
use Rattle.editor_model.specs.PropertyCalls.{names_of_pairs, nil_names}
use Rattle.ek_types.specs.Property.{number_of}
use Rattle.prim_arguments.specs.declared.property_lists.Pair.{Pair}
use Rattle.prim_arguments.specs.PropertyArguments.{backwards, paired, pair_of}

pushed : (list : List Pair) (p : Pair) → backwards (list ++ p ∷ []) ≡ pair_of p ∷ backwards list
pushed [] p = refl
pushed (q ∷ list) p = ap (λ ps. ps ++ pair_of q ∷ []) (pushed list p)

pub one_back : (list : List Pair) (i : ℕ) (p : Pair) → slice_get list i ≡ Some p → backwards (take (i + 1) list) ≡ pair_of p ∷ backwards (take i list)
one_back list i p at = ap backwards (take_one_more list i p at) ∙ pushed (take i list) p

pub pushed_pair : (old new : List Pair) (p : Pair) → new ≡ old ++ p ∷ [] → backwards new ≡ pair_of p ∷ backwards old
pushed_pair old new p h = ap backwards h ∙ pushed old p

pub all_back : (list : List Pair) (i : ℕ) → length list ≤ i → backwards (take i list) ≡ backwards list
all_back list i l = ap backwards (take_all i list l)

or_turned : (a b : Bool) → (a || (b || false)) ≡ (b || a)
or_turned true true = refl
or_turned true false = refl
or_turned false true = refl
or_turned false false = refl

-- whichever pair is asked first
pub any_back : (name : ℕ) (list : List Pair) → list_any (λ (p : ℕ × Option PropVal). p.0 == name) (backwards list) ≡ list_any (λ (p : Pair). number_of p.name == name) list
any_back name [] = refl
any_back name (p ∷ list) =
    list_any-append (λ (q : ℕ × Option PropVal). q.0 == name) (backwards list) (pair_of p ∷ [])
    ∙ or_turned (list_any (λ (q : ℕ × Option PropVal). q.0 == name) (backwards list)) (number_of p.name == name)
    ∙ ap (λ b. (number_of p.name == name) || b) (any_back name list)

-- A PROPERTY LIST
pub paired_first : (x y : Value) (rest : List Value) → paired x y (pairs_of rest) ≡ pairs_of (x ∷ y ∷ rest)
paired_first (Sym name) y rest = refl
paired_first x y rest = refl

none_with : (name : ℕ) (v : Option (Option PropVal)) → with_pair name v None ≡ None
none_with name None = refl
none_with name (Some v) = refl

pub none_paired : (x y : Value) → None ≡ paired x y None
none_paired (Sym name) y = sym (none_with name (as_prop y))
none_paired x y = refl

alone : (x : Value) → pairs_of (x ∷ []) ≡ None
alone (Sym name) = refl
alone x = refl

pub odd_none : (n : ℕ) (xs : List Value) → length xs ≡ 2 * n + 1 → pairs_of xs ≡ None
odd_none n [] h = absurd (omega arith)
odd_none n (x ∷ []) h = alone x
odd_none zero (x ∷ y ∷ xs) h = absurd (omega arith)
odd_none (suc n) (x ∷ y ∷ xs) h = sym (paired_first x y xs) ∙ ap (paired x y) (odd_none n xs (omega arith)) ∙ sym (none_paired x y)

pub two_first : (xs : List Value) (n : ℕ) (x y : Value) → slice_get xs (2 * n) ≡ Some x → slice_get xs (2 * n + 1) ≡ Some y → drop (2 * n) xs ≡ x ∷ y ∷ drop (2 * (n + 1)) xs
two_first xs n x y a b =
    drop_at xs (2 * n) x a ∙ ap (λ l. x ∷ l) (drop_at xs (2 * n + 1) y b) ∙ ap (λ k. x ∷ y ∷ drop k xs) (let e : 2 * n + 1 + 1 ≡ 2 * (n + 1) = omega arith in e)

-- NAMES
pub name_front : (p : ℕ × Option PropVal) (front whole : List ℕ) (ps : Pairs) → front ++ names_of_pairs (p ∷ ps) ≡ whole → (front ++ p.0 ∷ []) ++ names_of_pairs ps ≡ whole
name_front p front whole ps h = append_assoc front (p.0 ∷ []) (names_of_pairs ps) ∙ h

nil_split : (p : ℕ × Option PropVal) (ps : Pairs) → nil_names (p ∷ ps) ≡ nil_names (p ∷ []) ++ nil_names ps
nil_split p ps = go (is_none p.1)
  where
    go : (b : Bool) → map (λ (q : ℕ × Option PropVal). q.0) (if b then p ∷ filter (λ q. is_none q.1) ps else filter (λ q. is_none q.1) ps) ≡ map (λ (q : ℕ × Option PropVal). q.0) (if b then p ∷ [] else []) ++ nil_names ps
    go true = refl
    go false = refl

pub nil_front : (p : ℕ × Option PropVal) (front whole : List ℕ) (ps : Pairs) → front ++ nil_names (p ∷ ps) ≡ whole → (front ++ nil_names (p ∷ [])) ++ nil_names ps ≡ whole
nil_front p front whole ps h = append_assoc front (nil_names (p ∷ [])) (nil_names ps) ∙ ap (λ l. front ++ l) (sym (nil_split p ps)) ∙ h

-- A PAIR IN FRONT
pub pair_added : (name : ℕ) (o : Option (Option PropVal)) (ps : Pairs) (v : Option PropVal) → is_some o ≡ true → list_any (λ p. p.0 == name) ps ≡ false → v ≡ unwrap_or o None → Some ((name, v) ∷ ps) ≡ with_pair name o (Some ps)
pair_added name None ps v h k e = cc
pair_added name (Some w) ps v h k e = ap (λ x. Some ((name, x) ∷ ps)) e ∙ sym (ap (λ b. let o : Option Pairs = if b then None else Some ((name, w) ∷ ps) in o) k)

pub pair_twice : (name : ℕ) (o : Option (Option PropVal)) (ps : Pairs) → list_any (λ p. p.0 == name) ps ≡ true → None ≡ with_pair name o (Some ps)
pair_twice name None ps k = refl
pair_twice name (Some w) ps k = sym (ap (λ b. let o : Option Pairs = if b then None else Some ((name, w) ∷ ps) in o) k)

pub no_value : (name : ℕ) (o : Option (Option PropVal)) (ps : Pairs) → is_some o ≡ false → None ≡ with_pair name o (Some ps)
no_value name None ps k = refl
no_value name (Some w) ps k = cc

pub items_values : (xs : List Value) → items (values xs) ≡ xs
items_values [] = refl
items_values (x ∷ xs) = ap (λ l. x ∷ l) (items_values xs)
