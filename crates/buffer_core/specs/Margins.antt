-- What an undoing leaves of a text: the characters in front of, and behind, all that it takes out or puts in.
use Rattle.std.specs.Prelude.{◌≡◌, ℕ, ◌+◌, ◌-◌, ◌≤◌, List, [], ◌∷◌, length, take, drop}
use Rattle.text_model.specs.Characters.{Ch}
use Rattle.text_model.specs.Undo.{Rec, Inserted, Deleted, Entry, max_after}

-- what a record takes out or puts in lies between these margins of a text of so many characters
abbrev pub LiesBetween : (front behind size : ℕ) → Rec → Type 0
LiesBetween front behind size (Inserted from to) = (front ≤ from) × (to + behind ≤ size)
LiesBetween front behind size (Deleted piece place) = (front ≤ place) × (place + behind ≤ size)
LiesBetween front behind size _ = Unit {0}

-- the same of records that are undone one after the other
abbrev pub AllBetween : (front behind size : ℕ) → List Entry → Type 0
AllBetween front behind size [] = Unit {0}
AllBetween front behind size (e ∷ entries) =
    LiesBetween front behind size e.what × AllBetween front behind (max_after size e.what) entries

-- so many first characters of two texts are the same, and so many last ones, of which the new one has enough
pub record SameMargins (front behind : ℕ) (old new : List Ch) : Type 0 where
  pub room : front + behind ≤ length new
  pub first : take front new ≡ take front old
  pub last : drop (length new - behind) new ≡ drop (length old - behind) old
