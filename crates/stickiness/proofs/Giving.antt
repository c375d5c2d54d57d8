-- Whether a neighbour gives a property, and whether one of the two does.
use Rattle.std.proofs.Common.{◌≡◌, ℕ, Bool, true, false, ◌||◌, Option, Some, None, refl, ap, sym, ◌∙◌}
use Rattle.std.specs.Prelude.{is_some, option_map, if◌then◌else◌, IfSome}
use Rattle.std.specs.Option.{option_or}
use Rattle.text_model.specs.Properties.{PropVal, PropSet, get}
use Rattle.text_model.specs.Ordered.{IsOrdered}
use Rattle.text_model.specs.Sticky.{inherited, offered_by_before, offered_by_after}
use Rattle.stickiness.specs.Offers.{offers, offered_at}
use Rattle.stickiness.specs.declared.side.Side.{Side}
use Rattle.stickiness.specs.declared.side.Side.TheVariants.{Before, After}
use Rattle.stickiness.proofs.Precedence.{get_kept, the_first_offered}

get_offered : (side : Side) (set : PropSet) (name : ℕ) → get (offered_at side (Some set)) name ≡ (if offers side set name then get set name else None)
get_offered Before set name = get_kept (offers Before set) set name
get_offered After set name = get_kept (offers After set) set name

-- by whether it offers the property
by_offer : (side : Side) (o : Option PropSet) (set : PropSet) (name : ℕ) (b : Bool) → o ≡ Some set → b ≡ offers side set name → is_some (get (offered_at side o) name) ≡ is_some (if b then get set name else None)
by_offer side o set name b e f = ap (λ x. is_some (get (offered_at side x) name)) e ∙ ap is_some (get_offered side set name) ∙ ap (λ c. is_some (if c then get set name else None)) (sym f)

pub mapped_some : {A B : Type 0} (f : A → B) (o : Option A) → is_some (option_map f o) ≡ is_some o
mapped_some f None = refl
mapped_some f (Some x) = refl

pub given : (side : Side) (o : Option PropSet) (set : PropSet) (name : ℕ) (b r : Bool) → o ≡ Some set → b ≡ offers side set name → b ≡ true → r ≡ is_some (get set name) → r ≡ is_some (get (offered_at side o) name)
given side o set name b r e f t h = h ∙ sym (by_offer side o set name b e f ∙ ap (λ c. is_some (if c then get set name else None)) t)

pub kept_back : (side : Side) (o : Option PropSet) (set : PropSet) (name : ℕ) (b : Bool) → o ≡ Some set → b ≡ offers side set name → b ≡ false → b ≡ is_some (get (offered_at side o) name)
kept_back side o set name b e f t = t ∙ sym (by_offer side o set name b e f ∙ ap (λ c. is_some (if c then get set name else None)) t)

either : (x y : Option PropVal) → is_some (option_or x y) ≡ (is_some x || is_some y)
either None y = refl
either (Some v) y = refl

of_both : (before after : Option PropSet) (name : ℕ) (first : Bool) → IfSome before IsOrdered → first ≡ is_some (get (offered_by_before before) name) → is_some (get (inherited before after) name) ≡ (first || is_some (get (offered_by_after after) name))
of_both before after name first o q = ap is_some (the_first_offered before after name o) ∙ either _ _ ∙ ap (λ x. x || is_some (get (offered_by_after after) name)) (sym q)

pub given_before : (before after : Option PropSet) (name : ℕ) (first : Bool) → IfSome before IsOrdered → first ≡ is_some (get (offered_by_before before) name) → first ≡ true → first ≡ is_some (get (inherited before after) name)
given_before before after name first o q t = t ∙ sym (of_both before after name first o q ∙ ap (λ x. x || is_some (get (offered_by_after after) name)) t)

pub given_after : (before after : Option PropSet) (name : ℕ) (first second : Bool) → IfSome before IsOrdered → first ≡ is_some (get (offered_by_before before) name) → first ≡ false → second ≡ is_some (get (offered_by_after after) name)
    → second ≡ is_some (get (inherited before after) name)
given_after before after name first second o q t h = h ∙ sym (of_both before after name first o q ∙ ap (λ x. x || is_some (get (offered_by_after after) name)) t)
