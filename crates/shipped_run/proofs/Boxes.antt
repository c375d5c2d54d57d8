-- What three boxed handlers do, by number.
use Rattle.std.proofs.Common.{◌≡◌, List, [], ◌∷◌, ◌++◌, map, slice_get, refl}
use Rattle.std.specs.declared.option.Option.{Option}
use Rattle.editor_model.specs.Values.{Value, Prim}
use Rattle.handler_box.specs.Boxes.{done_by}

module _ {H : Type 0} (does : H → Option (Prim × List Value)) (first second third : Option (Prim × List Value)) where
  pub record AreDone (list : List H) : Type 0 where
    pub one : done_by does (slice_get list 0) ≡ first
    pub two : done_by does (slice_get list 1) ≡ second
    pub three : done_by does (slice_get list 2) ≡ third

  pub are_done : (list : List H) → map does list ≡ first ∷ second ∷ third ∷ [] → AreDone list
  are_done [] e = absurd (let no = e in cc)
  are_done (x ∷ []) e = absurd (let no = e in cc)
  are_done (x ∷ y ∷ []) e = absurd (let no = e in cc)
  are_done (x ∷ y ∷ z ∷ list) e = record { one = cc; two = cc; three = cc }

-- a list of three, put together one by one
module _ {A B : Type 0} (f : A → B) (x y z : A) (a b c : B) where
  pub mapped : (none one two three : List A) → none ≡ [] → one ≡ none ++ x ∷ [] → two ≡ one ++ y ∷ [] → three ≡ two ++ z ∷ [] → f x ≡ a → f y ≡ b → f z ≡ c → map f three ≡ a ∷ b ∷ c ∷ []
  mapped none one two three e h i j p q r = rw (j, i, h, e, p, q, r) refl
