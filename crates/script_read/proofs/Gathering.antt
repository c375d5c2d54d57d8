-- Properties gathered from the last to the first are those of the list.
use Rattle.std.proofs.Common.{◌≡◌, ℕ, zero, suc, ◌+◌, ◌*◌, ◌-◌, ◌≤◌, ◌<◌, ◌==◌, List, [], ◌∷◌, ◌++◌, Bool, true, false, ◌||◌, not, map, length, take, drop, refl, sym, ap, ◌∙◌, append_assoc, append-nil, arith, Some, None, option_map, slice_get}
use Rattle.std.specs.Prelude.{Option, nat_lt, is_some, is_none, cond}
use Rattle.std.specs.List.{list_any}
use Rattle.std.specs.Map.{lookup}
use Rattle.std.specs.Ordering.{nat_cmp, is_eq}
use Rattle.std.specs.BTreeMap.{is_at, insert_entry}
use Rattle.std.proofs.lemmas.Bool.{eqb-true, eqb-false, ltb-true, ltb-false}
use Rattle.std.proofs.lemmas.Bool.Decides.{nat_tests}
use Rattle.std.proofs.lemmas.Option.{same_Some}
use Rattle.std.proofs.lemmas.List.{length-map}
use Rattle.text_model.specs.Characters.{Ch}
use Rattle.text_model.specs.Properties.{Cell, PropSet, PropVal, Symbols, put, without}
use Rattle.text_model.specs.Ordered.{Rising, HasValues, IsProper, IsValue}
use Rattle.text_model.specs.Options.{◌>>=◌}
use Rattle.editor_model.specs.Values.{Value, Sym, Items, More, values, symbol_names, as_prop}
use Rattle.editor_model.specs.Arguments.{is_symbol}
use Rattle.ek_call.specs.Meaning.{view}
use Rattle.ek_call.specs.declared.value.Value as written
use Rattle.ek_types.specs.Property.{prop_of}
use Rattle.ek_types.specs.declared.property.PropVal as declared
use Rattle.script_read.specs.PropStrings.{Named, with_property, named_of}
use Rattle.script_read.specs.PropSets.{Entries, one_given, set_given, IsGiven, AreRising, Gathers, Adds, Lists, property_of}

-- SYMBOLS
-- some names in front of others
abbrev pub names_before : List ℕ → Option (List ℕ) → Option (List ℕ)
names_before names o = o >>= (λ more. Some (names ++ more))

pub no_name_before : (o : Option (List ℕ)) → o ≡ names_before [] o
no_name_before None = refl
no_name_before (Some names) = refl

pub name_before : (names : List ℕ) (v : Value) (n : ℕ) (more : List Value) → v ≡ Sym n → names_before names (symbol_names (values (v ∷ more))) ≡ names_before (names ++ n ∷ []) (symbol_names (values more))
name_before names v n more e = rw e (by (symbol_names (values more)))
  where
    by : (o : Option (List ℕ)) → names_before names (elim o [ Some found ↦ Some (n ∷ found) | None ↦ None ]) ≡ names_before (names ++ n ∷ []) o
    by None = refl
    by (Some found) = ap (λ (l : List ℕ). Some l) (sym (append_assoc names (n ∷ []) found))

-- SETS IN ORDER
rising_less : (low high : ℕ) (set : PropSet) → low ≤ high → Rising high set → Rising low set
rising_less low high [] less r = tt
rising_less low high (p ∷ set) less r = (omega (arith, less, r.0), r.1)

pub rising_set : (low : ℕ) (entries : Entries) → AreRising low entries → Rising low (set_given entries)
rising_set low [] r = tt
rising_set low ((name, None) ∷ entries) (least, given, others) = rising_less low (name + 1) (set_given entries) (omega (arith, least)) (rising_set (name + 1) entries others)
rising_set low ((name, Some v) ∷ entries) (least, given, others) = (least, rising_set (name + 1) entries others)

pub given_values : (low : ℕ) (entries : Entries) → AreRising low entries → HasValues (set_given entries)
given_values low [] r = tt
given_values low ((name, None) ∷ entries) (least, given, others) = given_values (name + 1) entries others
given_values low ((name, Some v) ∷ entries) (least, given, others) = (given, given_values (name + 1) entries others)

pub proper_set : (entries : Entries) → AreRising 0 entries → IsProper (set_given entries)
proper_set entries r = record { ordered = rising_set 0 entries r; values = given_values 0 entries r }

unequal : (a b : ℕ) → a < b → (b == a) ≡ false
unequal a b less = grind (arith, nat_tests)

not_less : (a b : ℕ) → a < b → nat_lt b a ≡ false
not_less a b less = grind (arith, nat_tests)

without_absent : (name : ℕ) (set : PropSet) → Rising (name + 1) set → without set name ≡ set
without_absent name [] r = refl
without_absent name (p ∷ set) r = rw (unequal name p.0 (omega (arith, r.0))) (ap (λ (s : PropSet). p ∷ s) (without_absent name set (rising_less (name + 1) (p.0 + 1) set (omega (arith, r.0)) r.1)))

-- a property in front of all others
put_first : (name : ℕ) (v : Option declared.PropVal) (set : PropSet) → Rising (name + 1) set → put set name (option_map prop_of v) ≡ one_given name v ++ set
put_first name None set r = without_absent name set r
put_first name (Some v) [] r = refl
put_first name (Some v) (p ∷ set) r = rw (not_less name p.0 (omega (arith, r.0))) (ap (λ (s : PropSet). (name, prop_of v) ∷ s) (without_absent name (p ∷ set) r))

-- a property behind the first
put_behind : (first : ℕ) (x : Option declared.PropVal) (name : ℕ) (v : Option declared.PropVal) (set : PropSet) → first < name → one_given first x ++ put set name (option_map prop_of v) ≡ put (one_given first x ++ set) name (option_map prop_of v)
put_behind first None name v set less = refl
put_behind first (Some x) name None set less = rw (other first name less) refl
  where
    other : (a b : ℕ) → a < b → (a == b) ≡ false
    other a b less = grind (arith, nat_tests)
put_behind first (Some x) name (Some v) set less = rw (before first name less) refl
  where
    before : (a b : ℕ) → a < b → nat_lt a b ≡ true
    before a b less = grind (arith, nat_tests)

-- A NEW PROPERTY
pub compared : (a b : ℕ) → is_eq (nat_cmp a b) ≡ (a == b)
compared a b = by (nat_lt a b) refl (a == b) refl
  where
    by : (less : Bool) → nat_lt a b ≡ less → (same : Bool) → (a == b) ≡ same → is_eq (nat_cmp a b) ≡ (a == b)
    by true l true s = absurd (let h = ltb-true a b l in let k = eqb-true a b s in omega (arith, h, k))
    by true l false s = rw (l, s) refl
    by false l true s = rw (l, s) refl
    by false l false s = rw (l, s) refl

-- what a new name does to the entries
pub record Inserted (low name : ℕ) (v : Option declared.PropVal) (entries : Entries) : Type 0 where
  pub rising : AreRising low (insert_entry nat_cmp entries name v)
  pub set : set_given (insert_entry nat_cmp entries name v) ≡ put (set_given entries) name (option_map prop_of v)

nothing_else : (name : ℕ) (v : Option declared.PropVal) → one_given name v ++ [] ≡ put [] name (option_map prop_of v)
nothing_else name None = refl
nothing_else name (Some v) = refl

pub inserted : (low name : ℕ) (v : Option declared.PropVal) (entries : Entries) → low ≤ name → IsGiven v → AreRising low entries → lookup (is_at (nat_cmp name)) entries ≡ None → Inserted low name v entries
inserted low name v [] least given r none = record { rising = (least, given, tt); set = nothing_else name v }
inserted low name v (e ∷ entries) least given (from, one, others) none = by (nat_lt name e.0) refl (name == e.0) refl (λ more absent. inserted (e.0 + 1) name v entries more given others absent)
  where
    by : (less : Bool) → nat_lt name e.0 ≡ less → (same : Bool) → (name == e.0) ≡ same →
        (e.0 + 1 ≤ name → lookup (is_at (nat_cmp name)) entries ≡ None → Inserted (e.0 + 1) name v entries) → Inserted low name v (e ∷ entries)
    by true l same s again =
        let less = ltb-true name e.0 l in
        record {
          rising = rw l ((least, given, (omega (arith, less), one, others)));
          set = rw l (sym (put_first name v (set_given (e ∷ entries)) (rising_set (name + 1) (e ∷ entries) (omega (arith, less), one, others))));
        }
    by false l true s again = absurd (let h : Some e.1 ≡ None = rw (l, s) at none in cc)
    by false l false s again =
        let behind : e.0 < name = let h = ltb-false name e.0 l in let k = eqb-false name e.0 s in omega (arith, h, k) in
        let absent : lookup (is_at (nat_cmp name)) entries ≡ None = rw (l, s) at none in
        let i = again (omega (arith, behind)) absent in
        record {
          rising = rw (l, s) ((from, one, i.rising));
          set = rw (l, s) (ap (λ (set : PropSet). one_given e.0 e.1 ++ set) i.set ∙ put_behind e.0 e.1 name v (set_given entries) behind);
        }

pub nothing_gathered : Gathers [] ([], [])
nothing_gathered = record { rising = tt; set = refl; names = λ n. refl }

-- LISTS
-- a name and a value in front of others
pub named_more : (x v : Value) (more : List Value) → named_of (x ∷ v ∷ more) ≡ (named_of more >>= property_of x v)
named_more (Sym name) v more = refl
named_more x v more = none (named_of more)
  where
    none : (o : Option Named) → None ≡ (o >>= (λ (named : Named). let n : Option Named = None in n))
    none None = refl
    none (Some named) = refl

pairs_less : (n : ℕ) (x y : Value) (list : List Value) → drop (2 * suc n) (x ∷ y ∷ list) ≡ drop (2 * n) list
pairs_less n x y list = let e : 2 * suc n ≡ suc (suc (2 * n)) = omega arith in ap (λ m. drop m (x ∷ y ∷ list)) e

-- where the last ones are none, all are none
pub fails_by : (n : ℕ) (list : List Value) → 2 * n ≤ length list → named_of (drop (2 * n) list) ≡ None → named_of list ≡ None
fails_by zero list within none = none
fails_by (suc n) [] within none = absurd (omega (arith, within))
fails_by (suc n) (x ∷ []) within none = absurd (omega (arith, within))
fails_by (suc n) (x ∷ y ∷ list) within none =
    let inner = fails_by n list (omega (arith, within)) (ap named_of (sym (pairs_less n x y list)) ∙ none) in
    named_more x y list ∙ rw inner refl

pub odd_fails : (n : ℕ) (list : List Value) → length list ≡ 2 * n + 1 → named_of list ≡ None
odd_fails n [] e = absurd (omega (arith, e))
odd_fails n (x ∷ []) e = alone x
  where
    alone : (v : Value) → named_of (v ∷ []) ≡ None
    alone (Sym name) = refl
    alone v = refl
odd_fails zero (x ∷ y ∷ list) e = absurd (omega (arith, e))
odd_fails (suc n) (x ∷ y ∷ list) e = named_more x y list ∙ rw (odd_fails n list (omega (arith, e))) refl

-- PLACES IN A LIST
drop_end : (n : ℕ) (list : List Value) → length list ≤ n → drop n list ≡ []
drop_end zero [] within = refl
drop_end zero (v ∷ list) within = absurd (omega (arith, within))
drop_end (suc n) [] within = refl
drop_end (suc n) (v ∷ list) within = drop_end n list (omega (arith, within))

module _ {A B : Type 0} (f : A → B) where
  drop_one : (xs : List A) (i : ℕ) (a : A) → slice_get xs i ≡ Some a → map f (drop i xs) ≡ f a ∷ map f (drop (suc i) xs)
  drop_one [] i a e = cc
  drop_one (x ∷ xs) zero a e = ap (λ (y : A). f y ∷ map f xs) (same_Some x a e)
  drop_one (x ∷ xs) (suc i) a e = drop_one xs i a e

  pub drop_next : (xs : List A) (i : ℕ) (a : A) → slice_get xs i ≡ Some a → map f (drop i xs) ≡ f a ∷ map f (drop (i + 1) xs)
  drop_next xs i a e = let next : suc i ≡ i + 1 = omega arith in drop_one xs i a e ∙ ap (λ n. f a ∷ map f (drop n xs)) next

  map_drop : (xs : List A) (i : ℕ) → map f (drop i xs) ≡ drop i (map f xs)
  map_drop xs zero = refl
  map_drop [] (suc i) = refl
  map_drop (x ∷ xs) (suc i) = map_drop xs i

  drop_two : (xs : List A) (i n : ℕ) (a b : A) → i + 2 ≡ n → slice_get xs i ≡ Some a → slice_get xs (i + 1) ≡ Some b → drop i (map f xs) ≡ f a ∷ f b ∷ drop n (map f xs)
  drop_two xs i n a b e first second =
      let next : i + 1 + 1 ≡ n = omega (arith, e) in
      sym (map_drop xs i) ∙ drop_next xs i a first ∙ ap (λ l. f a ∷ l) (drop_next xs (i + 1) b second ∙ ap (λ l. f b ∷ l) (ap (λ k. map f (drop k xs)) next ∙ map_drop xs n))

chars_one : (text : List Cell) (i : ℕ) (x : Ch) → option_map (λ c. c.0) (slice_get text i) ≡ Some x → map (λ c. c.0) (take (suc i) text) ≡ map (λ c. c.0) (take i text) ++ x ∷ []
chars_one [] i x e = cc
chars_one (c ∷ text) zero x e = ap (λ (y : Ch). y ∷ []) (same_Some c.0 x e)
chars_one (c ∷ text) (suc i) x e = ap (λ l. c.0 ∷ l) (chars_one text i x e)

pub chars_more : (text : List Cell) (i : ℕ) (x : Ch) → option_map (λ c. c.0) (slice_get text i) ≡ Some x → map (λ c. c.0) (take (i + 1) text) ≡ map (λ c. c.0) (take i text) ++ x ∷ []
chars_more text i x e = let next : i + 1 ≡ suc i = omega arith in ap (λ n. map (λ c. c.0) (take n text)) next ∙ chars_one text i x e

-- VALUES
pub no_symbol : (v : Value) (more : List Value) → is_symbol v ≡ false → symbol_names (values (v ∷ more)) ≡ None
no_symbol (Sym s) more e = cc
no_symbol v more e = refl

pub symbols_prop : (vs : List Value) (names : List ℕ) → (length vs ≡ 0 → ⊥) → symbol_names (values vs) ≡ Some names → as_prop (Items (values vs)) ≡ Some (Some (Symbols names))
symbols_prop [] names some e = absurd (some refl)
symbols_prop (v ∷ vs) names some e = ap (λ (o : Option (List ℕ)). elim o [ Some found ↦ Some (Some (Symbols found)) | None ↦ None ]) e

no_empty_symbols : (v : Value) → as_prop v ≡ Some (Some (Symbols [])) → ⊥
no_empty_symbols (Items (More (Sym s) vs)) e = by (symbol_names vs) refl
  where
    by : (o : Option (List ℕ)) → symbol_names vs ≡ o → ⊥
    by None t = let h : None ≡ Some (Some (Symbols [])) = rw (t, as_prop) at e in cc
    by (Some names) t = let h : Some (Some (Symbols (s ∷ names))) ≡ Some (Some (Symbols [])) = rw (t, as_prop) at e in cc
no_empty_symbols v e = cc

is_value : (v : Value) (p : PropVal) → as_prop v ≡ Some (Some p) → IsValue p
is_value v (Symbols []) e = absurd (no_empty_symbols v e)
is_value v p e = tt

pub is_given : (v : Value) (p : Option declared.PropVal) → Some (option_map prop_of p) ≡ as_prop v → IsGiven p
is_given v None e = tt
is_given v (Some p) e = is_value v (prop_of p) (sym e)

-- ONE PROPERTY
pub noted : (old new : Entries) (name : ℕ) (v : Option declared.PropVal) (before : Option (Option declared.PropVal)) (named : Named) → IsGiven v → before ≡ lookup (is_at (nat_cmp name)) old → new ≡ insert_entry nat_cmp old name v →
    ((q : ℕ) → lookup (is_at (nat_cmp q)) new ≡ cond (is_at (nat_cmp name) q) (Some v) (lookup (is_at (nat_cmp q)) old)) → Gathers old named →
    Adds (is_none before) (with_property name (Some (option_map prop_of v)) named) new
noted old new name v (Some w) named given was entries others g = let there : list_any (λ n. n == name) named.1 ≡ true = g.names name ∙ ap is_some (sym was) in rw there tt
noted old new name v None named given was entries others g =
    let absent : list_any (λ n. n == name) named.1 ≡ false = g.names name ∙ ap is_some (sym was) in
    let i = inserted 0 name v old (omega arith) given g.rising (sym was) in
    rw absent (record {
      rising = rw entries i.rising;
      set = ap set_given entries ∙ i.set ∙ ap (λ (set : PropSet). put set name (option_map prop_of v)) g.set;
      names = λ q. sym (ap is_some (others q) ∙ ap (λ b. is_some (cond b (Some v) (lookup (is_at (nat_cmp q)) old))) (compared name q) ∙ by q (name == q));
    })
  where
    by : (q : ℕ) (b : Bool) → is_some (cond b (Some v) (lookup (is_at (nat_cmp q)) old)) ≡ (b || list_any (λ m. m == q) named.1)
    by q true = refl
    by q false = sym (g.names q)

pub no_name : (x v : Value) (named : Named) → is_symbol x ≡ false → property_of x v named ≡ None
no_name (Sym s) v named e = cc
no_name x v named e = refl

pub no_value : (x v : Value) (name : ℕ) (named : Named) → x ≡ Sym name → None ≡ as_prop v → property_of x v named ≡ None
no_value x v name named e none = rw (e, ← none) refl

pub one_property : (x v : Value) (name : ℕ) (p : Option PropVal) (named : Named) → x ≡ Sym name → Some p ≡ as_prop v → property_of x v named ≡ with_property name (Some p) named
one_property x v name p named e some = rw (e, ← some) refl

-- THE STEPS OF THE LOOP
pub not_added : (o : Option Named) (entries : Entries) → Adds false o entries → o ≡ None
not_added None entries a = refl
not_added (Some named) entries a = absurd a

pub added : (o : Option Named) (entries : Entries) → Adds true o entries → (named : Named) × (o ≡ Some named) × Gathers entries named
added None entries a = absurd a
added (Some named) entries a = (named, refl, a)

-- what is left and one pair more
pub pair_more : (list : List written.Value) (left : ℕ) (a b : written.Value) (named : Named) → 0 < left → slice_get list (2 * (left - 1)) ≡ Some a → slice_get list (2 * (left - 1) + 1) ≡ Some b →
    named_of (drop (2 * left) (map view list)) ≡ Some named → named_of (drop (2 * (left - 1)) (map view list)) ≡ property_of (view a) (view b) named
pair_more list left a b named some first second e =
    let twice : 2 * (left - 1) + 2 ≡ 2 * left = omega (arith, some) in
    ap named_of (drop_two view list (2 * (left - 1)) (2 * left) a b twice first second) ∙ named_more (view a) (view b) (drop (2 * left) (map view list)) ∙ rw e refl

pub pair_fails : (list : List written.Value) (left : ℕ) → 2 * left ≤ length list → named_of (drop (2 * left) (map view list)) ≡ None → named_of (map view list) ≡ None
pair_fails list left within none = let size = length-map list view in fails_by left (map view list) (omega (arith, within, size)) none

pub none_left : (list : List written.Value) (left : ℕ) → length list ≤ 2 * left → named_of (drop (2 * left) (map view list)) ≡ Some ([], [])
none_left list left within = let size = length-map list view in ap named_of (drop_end (2 * left) (map view list) (omega (arith, within, size)))

pub odd_list : (list : List written.Value) (left : ℕ) → length list ≡ 2 * left + 1 → named_of (map view list) ≡ None
odd_list list left odd = let size = length-map list view in odd_fails left (map view list) (size ∙ odd)

pub no_entries : (entries : Entries) → (0 < length entries → ⊥) → entries ≡ []
no_entries [] none = refl
no_entries (e ∷ entries) none = absurd (none (omega arith))

pub not_listed : (o : Option Named) → Lists None o → o ≡ None
not_listed None l = refl
not_listed (Some named) l = absurd l

-- what is left of the entries and the pairs so far
pub entry_more : (first : PropSet) (name : ℕ) (v : Option declared.PropVal) (old new : Entries) (all : PropSet) → old ≡ (name, v) ∷ new → first ++ set_given old ≡ all → (first ++ one_given name v) ++ set_given new ≡ all
entry_more first name v old new all is so_far = append_assoc first (one_given name v) (set_given new) ∙ ap (λ l. first ++ set_given l) (sym is) ∙ so_far

pub entries_done : (first : PropSet) (left : Entries) (all : PropSet) → left ≡ [] → first ++ set_given left ≡ all → first ≡ all
entries_done first left all none so_far = sym (append-nil first) ∙ ap (λ l. first ++ set_given l) (sym none) ∙ so_far

pub fewer_entries : (e : ℕ × Option declared.PropVal) (old new : Entries) → old ≡ e ∷ new → length new < length old
fewer_entries e old new is = let h : length old ≡ length (e ∷ new) = ap length is in omega (arith, h)

-- a test whether there is none
pub opposite : {A : Type 0} → (o : Option A) (b : Bool) → is_some o ≡ not b → is_none o ≡ b
opposite None true e = refl
opposite None false e = cc
opposite (Some x) true e = cc
opposite (Some x) false e = refl
