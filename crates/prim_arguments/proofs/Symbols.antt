-- Lists of symbols, one symbol after the other.
use Rattle.std.proofs.Common.{◌≡◌, ℕ, ◌+◌, ◌≤◌, Bool, true, false, List, [], ◌∷◌, ◌++◌, length, drop, refl, sym, ap, ◌∙◌, append_assoc, append-nil, arith}
use Rattle.std.specs.Prelude.{slice_get, Option, Some, None, is_some, option_map, unwrap_or}
use Rattle.std.proofs.lemmas.List.{drop_all}
use Rattle.text_model.proofs.Lists.{drop_at}
use Rattle.text_model.specs.Properties.{PropVal, Symbols}
use Rattle.editor_model.specs.Values.{Value, Sym, Items, symbol_names, values}
use Rattle.editor_model.specs.Arguments.{is_symbol, value_of}
use Rattle.prim_arguments.specs.PropertyArguments.{symbols_of}

some_mapped : {A B : Type 0} (f : A → B) (o : Option A) → is_some (option_map f o) ≡ is_some o
some_mapped f None = refl
some_mapped f (Some x) = refl

in_front : (s : ℕ) (o : Option (List ℕ)) → (let x : Option (List ℕ) = elim o [ Some names ↦ Some (s ∷ names) | None ↦ None ] in x) ≡ option_map (λ names. s ∷ names) o
in_front s None = refl
in_front s (Some names) = refl

is_met : (v : Value) (rest : List Value) → is_symbol v ≡ true → is_some (symbol_names (values (v ∷ rest))) ≡ is_some (symbol_names (values rest))
is_met (Sym t) rest h = ap is_some (in_front t (symbol_names (values rest))) ∙ some_mapped (λ names. t ∷ names) (symbol_names (values rest))
is_met v rest h = cc

not_met : (v : Value) (rest : List Value) → is_symbol v ≡ false → symbol_names (values (v ∷ rest)) ≡ None
not_met (Sym t) rest h = cc
not_met v rest h = refl

pub symbol_met : (xs : List Value) (i : ℕ) (v : Value) (whole : Bool) → slice_get xs i ≡ Some v → is_symbol v ≡ true → is_some (symbol_names (values (drop i xs))) ≡ whole → is_some (symbol_names (values (drop (i + 1) xs))) ≡ whole
symbol_met xs i v whole at h inv = sym (is_met v (drop (i + 1) xs) h) ∙ ap (λ l. is_some (symbol_names (values l))) (sym (drop_at xs i v at)) ∙ inv

pub other_met : (xs : List Value) (i : ℕ) (v : Value) (whole : Bool) → slice_get xs i ≡ Some v → is_symbol v ≡ false → is_some (symbol_names (values (drop i xs))) ≡ whole → false ≡ whole
other_met xs i v whole at h inv = ap is_some (sym (not_met v (drop (i + 1) xs) h)) ∙ ap (λ l. is_some (symbol_names (values l))) (sym (drop_at xs i v at)) ∙ inv

pub all_met : (xs : List Value) (i : ℕ) (whole : Bool) → length xs ≤ i → is_some (symbol_names (values (drop i xs))) ≡ whole → true ≡ whole
all_met xs i whole l inv = ap (λ l. is_some (symbol_names (values l))) (sym (drop_all i xs l)) ∙ inv

mapped_twice : (front : List ℕ) (s : ℕ) (o : Option (List ℕ)) → option_map (λ rest. (front ++ s ∷ []) ++ rest) o ≡ option_map (λ rest. front ++ rest) (option_map (λ names. s ∷ names) o)
mapped_twice front s None = refl
mapped_twice front s (Some rest) = ap Some (append_assoc front (s ∷ []) rest)

-- where all are symbols, each is put behind those before it
one_more : (v : Value) (rest : List Value) (front : List ℕ) (whole : Option (List ℕ)) → is_some whole ≡ true → option_map (λ rest. front ++ rest) (symbol_names (values (v ∷ rest))) ≡ whole → option_map (λ rest. (front ++ symbols_of v) ++ rest) (symbol_names (values rest)) ≡ whole
one_more (Sym s) rest front whole some inv = mapped_twice front s (symbol_names (values rest)) ∙ ap (option_map (λ rest. front ++ rest)) (sym (in_front s (symbol_names (values rest)))) ∙ inv
one_more v rest front whole some inv = absurd (let clash : false ≡ true = ap is_some inv ∙ some in cc)

pub name_more : (xs : List Value) (i : ℕ) (v : Value) (front new : List ℕ) (whole : Option (List ℕ)) → slice_get xs i ≡ Some v → new ≡ front ++ symbols_of v → is_some whole ≡ true
    → option_map (λ rest. front ++ rest) (symbol_names (values (drop i xs))) ≡ whole → option_map (λ rest. new ++ rest) (symbol_names (values (drop (i + 1) xs))) ≡ whole
name_more xs i v front new whole at pushed some inv =
    ap (λ f. option_map (λ rest. f ++ rest) (symbol_names (values (drop (i + 1) xs)))) pushed
    ∙ one_more v (drop (i + 1) xs) front whole some (ap (λ l. option_map (λ rest. front ++ rest) (symbol_names (values l))) (sym (drop_at xs i v at)) ∙ inv)

pub names_all : (xs : List Value) (i : ℕ) (front : List ℕ) (whole : Option (List ℕ)) → length xs ≤ i → option_map (λ rest. front ++ rest) (symbol_names (values (drop i xs))) ≡ whole → front ≡ unwrap_or whole []
names_all xs i front whole l inv = sym (append-nil front) ∙ ap (λ o. unwrap_or o []) (ap (λ l. option_map (λ rest. front ++ rest) (symbol_names (values l))) (sym (drop_all i xs l)) ∙ inv)

-- AS A PROPERTY'S VALUE
pub listed : (xs : List Value) (names : List ℕ) → (length xs ≡ 0 → ⊥) → is_some (symbol_names (values xs)) ≡ true → names ≡ unwrap_or (symbol_names (values xs)) [] → Some (Symbols names) ≡ value_of (Items (values xs))
listed [] names n h e = absurd (n refl)
listed (v ∷ rest) names n h e = go (symbol_names (values (v ∷ rest))) h e
  where
    go : (o : Option (List ℕ)) → is_some o ≡ true → names ≡ unwrap_or o [] → Some (Symbols names) ≡ unwrap_or (let x : Option (Option PropVal) = elim o [ Some names ↦ Some (Some (Symbols names)) | None ↦ None ] in x) None
    go None k s = cc
    go (Some own) k s = ap (λ n. Some (Symbols n)) s

pub not_listed : (xs : List Value) → is_some (symbol_names (values xs)) ≡ false → None ≡ value_of (Items (values xs))
not_listed [] h = refl
not_listed (v ∷ rest) h = go (symbol_names (values (v ∷ rest))) h
  where
    go : (o : Option (List ℕ)) → is_some o ≡ false → None ≡ unwrap_or (let x : Option (Option PropVal) = elim o [ Some names ↦ Some (Some (Symbols names)) | None ↦ None ] in x) None
    go None k = refl
    go (Some own) k = cc

pub none_listed : (xs : List Value) → length xs ≡ 0 → None ≡ value_of (Items (values xs))
none_listed [] h = refl
none_listed (v ∷ rest) h = absurd (omega arith)
