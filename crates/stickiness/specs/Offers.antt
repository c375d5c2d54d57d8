-- What a neighbour of an insertion offers, by the side where it stands.
use Rattle.std.specs.Prelude.{ℕ, Bool, ◌&&◌, not, filter, Option}
use Rattle.text_model.specs.Properties.{PropSet, get}
use Rattle.text_model.specs.Sticky.{names, is_stickiness, front_sticky, rear_nonsticky}
use Rattle.text_model.specs.Sticky.{offered_by_before, offered_by_after}
use Rattle.stickiness.specs.declared.side.Side.{Side}
use Rattle.stickiness.specs.declared.side.Side.TheVariants.{Before, After}

-- whether a neighbour of these properties offers a name
abbrev pub offers : Side → PropSet → (name : ℕ) → Bool
offers Before set name = not (is_stickiness name) && not (names (get set rear_nonsticky) name)
offers After set name = not (is_stickiness name) && names (get set front_sticky) name

-- those of some properties that it offers
abbrev pub offered : Side → (set some : PropSet) → PropSet
offered side set some = filter (λ p. offers side set p.0) some

-- all that the neighbour on a side offers, if there is one
abbrev pub offered_at : Side → Option PropSet → PropSet
offered_at Before set = offered_by_before set
offered_at After set = offered_by_after set
