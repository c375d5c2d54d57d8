-- How the logic stores values: what a model that holds values is asked for. Nothing here is about editors;
-- a reader may pass over it.
use Rattle.std.specs.Prelude.{◌≡◌, ◌⊎◌, ℕ, zero, suc, ℤ, pos, List, [], ◌∷◌, refl}
use Rattle.std.proofs.Common.{ap, inl, inr}
use Rattle.std.specs.Coded.{Coded, code_by, coded_ℕ, coded_ℤ, coded_list, coded×, coded⊎}
use base.Stored.{Gv, gnil, gnum, gcons, num}
use Rattle.text_model.specs.Characters.{Ch, Scalar, Raw}
use Rattle.text_model.specs.Properties.{Cell, PropVal, Truth, Number, Symbol, Symbols, Text}
use Rattle.editor_model.specs.Values.{Value, Values, Nil, T, Int, Sym, Str, Items, Dotted, TheBuffer}
use Rattle.editor_model.specs.Values.{TheMarker, TheOverlay, TheProcess, End, More}

-- CHARACTERS AND PROPERTIES
abbrev ch_to : Ch → ℕ ⊎ ℕ
ch_to (Scalar c) = inl c
ch_to (Raw b) = inr b

abbrev ch_from : ℕ ⊎ ℕ → Ch
ch_from (inl c) = Scalar c
ch_from (inr b) = Raw b

pub ch_back : (c : Ch) → ch_from (ch_to c) ≡ c
ch_back (Scalar c) = refl
ch_back (Raw b) = refl

abbrev pub coded_ch : Coded Ch
coded_ch = code_by (ℕ ⊎ ℕ) (coded⊎ coded_ℕ coded_ℕ) ch_to ch_from ch_back

abbrev PropParts : Type 0
PropParts = ℕ × (ℤ × (List ℕ × List Ch))

abbrev prop_to : PropVal → PropParts
prop_to Truth = (0, (pos 0, ([], [])))
prop_to (Number i) = (1, (i, ([], [])))
prop_to (Symbol s) = (2, (pos 0, (s ∷ [], [])))
prop_to (Symbols names) = (3, (pos 0, (names, [])))
prop_to (Text text) = (4, (pos 0, ([], text)))

abbrev first : List ℕ → ℕ
first [] = 0
first (n ∷ ns) = n

abbrev prop_of : ℕ → ℤ → List ℕ → List Ch → PropVal
prop_of zero i names text = Truth
prop_of (suc zero) i names text = Number i
prop_of (suc (suc zero)) i names text = Symbol (first names)
prop_of (suc (suc (suc zero))) i names text = Symbols names
prop_of (suc (suc (suc (suc n)))) i names text = Text text

abbrev prop_from : PropParts → PropVal
prop_from p = prop_of p.0 p.1.0 p.1.1.0 p.1.1.1

pub prop_back : (v : PropVal) → prop_from (prop_to v) ≡ v
prop_back Truth = refl
prop_back (Number i) = refl
prop_back (Symbol s) = refl
prop_back (Symbols names) = refl
prop_back (Text text) = refl

abbrev pub coded_prop : Coded PropVal
coded_prop = code_by PropParts
    (coded× coded_ℕ (coded× coded_ℤ (coded× (coded_list coded_ℕ) (coded_list coded_ch)))) prop_to
    prop_from prop_back

abbrev pub coded_cell : Coded Cell
coded_cell = coded× coded_ch (coded_list (coded× coded_ℕ coded_prop))

-- TREES
-- a word: which value it is, and its number or its text
abbrev Word : Type 0
Word = ℕ × (ℤ × List Cell)

abbrev coded_word : Coded Word
coded_word = coded× coded_ℕ (coded× coded_ℤ (coded_list coded_cell))

pub data Tree : Type 0 where
  Leaf : Word → Tree
  Node : Tree → Tree → Tree

pub tree_code : Tree → Gv
tree_code (Leaf w) = gcons (gnum 0) (coded_word.code w)
tree_code (Node a b) = gcons (gnum 1) (gcons (tree_code a) (tree_code b))

abbrev left : Gv → Gv
left (gcons a b) = a
left _ = gnil

abbrev right : Gv → Gv
right (gcons a b) = b
right _ = gnil

pub tree_inj : (x y : Tree) → tree_code x ≡ tree_code y → x ≡ y
unfolding tree_code
tree_inj (Leaf v) (Leaf w) p = ap Leaf (coded_word.inj v w (ap right p))
tree_inj (Node a b) (Node c d) p =
    λ i. Node (tree_inj a c (ap (λ g. left (right g)) p) i) (tree_inj b d (ap (λ g. right (right g)) p) i)
tree_inj (Leaf v) (Node c d) p = let q : 0 ≡ 1 = ap (λ g. num (left g)) p in cc
tree_inj (Node a b) (Leaf w) p = let q : 1 ≡ 0 = ap (λ g. num (left g)) p in cc

-- VALUES
abbrev leaf : ℕ → ℕ → Tree
leaf tag n = Leaf (tag, (pos n, []))

abbrev mutual
  value_tree : Value → Tree
  value_tree Nil = leaf 0 0
  value_tree T = leaf 1 0
  value_tree (Int i) = Leaf (2, (i, []))
  value_tree (Sym s) = leaf 3 s
  value_tree (Str text) = Leaf (4, (pos 0, text))
  value_tree (TheBuffer b) = leaf 5 b
  value_tree (TheMarker k) = leaf 6 k
  value_tree (TheOverlay k) = leaf 7 k
  value_tree (TheProcess p) = leaf 8 p
  value_tree (Items vs) = Node (leaf 0 0) (values_tree vs)
  value_tree (Dotted vs v) = Node (Node (leaf 0 0) (value_tree v)) (values_tree vs)

  values_tree : Values → Tree
  values_tree End = leaf 0 0
  values_tree (More v vs) = Node (value_tree v) (values_tree vs)

abbrev whole : ℤ → ℕ
whole (pos n) = n
whole _ = 0

abbrev word_value : ℕ → ℤ → List Cell → Value
word_value zero i text = Nil
word_value (suc zero) i text = T
word_value (suc (suc zero)) i text = Int i
word_value (suc (suc (suc zero))) i text = Sym (whole i)
word_value (suc (suc (suc (suc zero)))) i text = Str text
word_value (suc (suc (suc (suc (suc zero))))) i text = TheBuffer (whole i)
word_value (suc (suc (suc (suc (suc (suc zero)))))) i text = TheMarker (whole i)
word_value (suc (suc (suc (suc (suc (suc (suc zero))))))) i text = TheOverlay (whole i)
word_value (suc (suc (suc (suc (suc (suc (suc (suc n)))))))) i text = TheProcess (whole i)

abbrev mutual
  tree_value : Tree → Value
  tree_value (Leaf w) = word_value w.0 w.1.0 w.1.1
  tree_value (Node (Leaf w) b) = Items (tree_values b)
  tree_value (Node (Node a v) b) = Dotted (tree_values b) (tree_value v)

  tree_values : Tree → Values
  tree_values (Leaf w) = End
  tree_values (Node a b) = More (tree_value a) (tree_values b)

mutual
  pub value_back : (v : Value) → tree_value (value_tree v) ≡ v
  value_back Nil = refl
  value_back T = refl
  value_back (Int i) = refl
  value_back (Sym s) = refl
  value_back (Str text) = refl
  value_back (TheBuffer b) = refl
  value_back (TheMarker k) = refl
  value_back (TheOverlay k) = refl
  value_back (TheProcess p) = refl
  value_back (Items vs) = ap Items (values_back vs)
  value_back (Dotted vs v) = λ i. Dotted (values_back vs i) (value_back v i)

  pub values_back : (vs : Values) → tree_values (values_tree vs) ≡ vs
  values_back End = refl
  values_back (More v vs) = λ i. More (value_back v i) (values_back vs i)

abbrev coded_tree : Coded Tree
coded_tree = record { code = tree_code; inj = tree_inj }

abbrev pub coded_value : Coded Value
coded_value = code_by Tree coded_tree value_tree tree_value value_back

abbrev pub coded_values : Coded Values
coded_values = code_by Tree coded_tree values_tree tree_values values_back
