-- Texts with properties: each character has a set of properties, names with values.
use Rattle.std.specs.Prelude.{ℕ, ◌+◌, ℤ, Bool, true, false, ◌&&◌, not, nat_lt, ◌==◌, List, [], ◌∷◌}
use Rattle.std.specs.Prelude.{◌++◌, map, filter, take, drop, if◌then◌else◌, Option, Some, None}
use Rattle.std.specs.Ordering.{int_eq}
use Rattle.text_model.specs.Characters.{Ch, Scalar, Raw}

-- whether two lists are equal, by a test of their elements
abbrev pub same_list : {A : Type 0} → (A → A → Bool) → List A → List A → Bool
same_list same [] [] = true
same_list same (x ∷ xs) (y ∷ ys) = same x y && same_list same xs ys
same_list same [] (y ∷ ys) = false
same_list same (x ∷ xs) [] = false

abbrev pub same_option : {A : Type 0} → (A → A → Bool) → Option A → Option A → Bool
same_option same None None = true
same_option same (Some x) (Some y) = same x y
same_option same _ _ = false

abbrev pub same_ch : Ch → Ch → Bool
same_ch (Scalar a) (Scalar b) = a == b
same_ch (Raw a) (Raw b) = a == b
same_ch _ _ = false

-- the value of a property, where it isn't nil; a symbol is its number
pub data PropVal : Type 0 where
  Truth : PropVal
  Number : ℤ → PropVal
  Symbol : ℕ → PropVal
  Symbols : List ℕ → PropVal
  Text : List Ch → PropVal

abbrev pub same_value : PropVal → PropVal → Bool
same_value Truth Truth = true
same_value (Number a) (Number b) = int_eq a b
same_value (Symbol a) (Symbol b) = a == b
same_value (Symbols a) (Symbols b) = same_list (λ x y. x == y) a b
same_value (Text a) (Text b) = same_list same_ch a b
same_value _ _ = false

-- a set of properties: names by rising number, each with its value
abbrev pub PropSet : Type 0
PropSet = List (ℕ × PropVal)

abbrev pub get : PropSet → ℕ → Option PropVal
get [] name = None
get (p ∷ set) name = if p.0 == name then Some p.1 else get set name

abbrev pub without : PropSet → ℕ → PropSet
without set name = filter (λ p. not (p.0 == name)) set

abbrev pub with_value : PropSet → ℕ → PropVal → PropSet
with_value [] name v = (name, v) ∷ []
with_value (p ∷ set) name v =
    if nat_lt p.0 name then p ∷ with_value set name v else ((name, v) ∷ without (p ∷ set) name)

-- the property given anew, or taken away
abbrev pub put : PropSet → ℕ → Option PropVal → PropSet
put set name None = without set name
put set name (Some v) = with_value set name v

-- a property's value as it is given: an empty list of symbols is nil, and so takes the property away
abbrev pub given : PropVal → Option PropVal
given (Symbols []) = None
given v = Some v

abbrev pub same_set : PropSet → PropSet → Bool
same_set a b = same_list (λ p q. (p.0 == q.0) && same_value p.1 q.1) a b

-- a character with its properties
abbrev pub Cell : Type 0
Cell = Ch × PropSet

-- characters without properties
abbrev pub bare : List Ch → List Cell
bare text = map (λ c. (c, [])) text

-- the part of a text from one place to another, replaced by a piece
abbrev pub splice : (from to : ℕ) → List Cell → List Cell → List Cell
splice from to piece text = take from text ++ (piece ++ drop to text)

abbrev pub part : (from to : ℕ) → List Cell → List Cell
part from to text = drop from (take to text)

-- what a change of properties does to one set
pub data PropEdit : Type 0 where
  Add : PropSet → (gone : List ℕ) → PropEdit
  Remove : List ℕ → PropEdit
  Replace : PropSet → PropEdit

abbrev pub put_all : PropSet → PropSet → PropSet
put_all set [] = set
put_all set (p ∷ more) = put_all (with_value set p.0 p.1) more

abbrev pub without_all : PropSet → List ℕ → PropSet
without_all set [] = set
without_all set (name ∷ names) = without_all (without set name) names

abbrev pub edited : PropEdit → PropSet → PropSet
edited (Add more gone) set = put_all (without_all set gone) more
edited (Remove gone) set = without_all set gone
edited (Replace new) set = new

-- the text with the sets of the characters of a part changed
abbrev pub with_sets : (from to : ℕ) → (PropSet → PropSet) → List Cell → List Cell
with_sets from to change text = splice from to (map (λ c. (c.0, change c.1)) (part from to text)) text

-- the longest stretches of one value in a list, each with its two ends
abbrev pub stretch_more : {A : Type 0} → (A → A → Bool) → A → ℕ → List (A × ℕ × ℕ) → List (A × ℕ × ℕ)
stretch_more same v at [] = (v, at, at + 1) ∷ []
stretch_more same v at (s ∷ rest) = if same v s.0 then (v, at, s.2) ∷ rest else ((v, at, at + 1) ∷ s ∷ rest)

abbrev pub stretches : {A : Type 0} → (A → A → Bool) → (at : ℕ) → List A → List (A × ℕ × ℕ)
stretches same at [] = []
stretches same at (v ∷ values) = stretch_more same v at (stretches same (at + 1) values)

-- the names that some character of a list has, by rising number
abbrev pub insert_name : ℕ → List ℕ → List ℕ
insert_name n [] = n ∷ []
insert_name n (m ∷ names) =
    if nat_lt n m then n ∷ m ∷ names else (if n == m then m ∷ names else m ∷ insert_name n names)

abbrev pub with_names : (more names : List ℕ) → List ℕ
with_names [] names = names
with_names (n ∷ more) names = insert_name n (with_names more names)

abbrev pub names_of : PropSet → List ℕ → List ℕ
names_of [] names = names
names_of (p ∷ set) names = insert_name p.0 (names_of set names)

abbrev pub names_in : List Cell → List ℕ
names_in [] = []
names_in (c ∷ cells) = names_of c.1 (names_in cells)
