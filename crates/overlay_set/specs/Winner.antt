-- The winner of some overlays, in whatever order they come: how the code finds it. Over all entries it is
-- the winner of the definitions, which is all that the clause of `Overlays::winner` says.
use Rattle.std.specs.Prelude.{ℕ, Bool, not, nat_lt, List, filter, if◌then◌else◌, Option, Some, None, is_some}
use Rattle.std.specs.List.{fold}
use Rattle.text_model.specs.Properties.{get}
use Rattle.text_model.specs.Marks.{Overlay}
use Rattle.text_model.specs.OverlayQuestions.{outranks}
use Rattle.overlay_set.specs.Numbered.{overlay_at}
use Rattle.overlay_set.specs.Slots.{with_span}
use Rattle.overlay_set.specs.Entries.{passes}
use Rattle.overlay_set.specs.declared.slot.Question.TheVariants.{At}
use Rattle.overlay_set.specs.declared.bounds.Entry.{Entry}

-- the overlay of an entry, in its stretch
abbrev pub standing : List Overlay → Entry → Overlay
standing os e = with_span (overlay_at os e.number) e.stretch

-- of two that are equal in all else the higher number wins
abbrev pub is_stronger : List Overlay → (e other : Entry) → Bool
is_stronger os e other = if nat_lt other.number e.number
    then outranks (standing os e) (standing os other) else not (outranks (standing os other) (standing os e))

abbrev pub stronger : List Overlay → Option Entry → Entry → Entry
stronger os None e = e
stronger os (Some best) e = if is_stronger os e best then e else best

abbrev pub has_property : (name : ℕ) → List Overlay → Entry → Bool
has_property name os e = is_some (get (overlay_at os e.number).props name)

-- the entries at a place of a buffer that have a property
abbrev pub contenders : (buffer i name : ℕ) → List Overlay → List Entry → List Entry
contenders buffer i name os entries = filter (has_property name os) (filter (passes buffer (At i)) entries)

abbrev pub strongest : (buffer i name : ℕ) → List Overlay → Option Entry → List Entry → Option Entry
strongest buffer i name os best entries =
    fold (λ b e. Some (stronger os b e)) best (contenders buffer i name os entries)
