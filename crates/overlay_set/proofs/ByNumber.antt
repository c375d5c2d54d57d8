-- The winner of some overlays by their numbers, where the list of overlays has their stretches.
use Rattle.std.specs.Prelude.{ℕ, Bool, not, nat_lt, List, filter, if◌then◌else◌, Option, Some, None, is_some}
use Rattle.std.specs.List.{fold}
use Rattle.text_model.specs.Properties.{get}
use Rattle.text_model.specs.Marks.{Overlay}
use Rattle.text_model.specs.OverlayQuestions.{outranks}
use Rattle.overlay_set.specs.Numbered.{overlay_at}
use Rattle.overlay_set.specs.Entries.{numbers_in, passes}
use Rattle.overlay_set.specs.declared.slot.Question.TheVariants.{At}
use Rattle.overlay_set.specs.declared.bounds.Entry.{Entry}

-- of two that are equal in all else the higher number wins
abbrev pub is_stronger : List Overlay → (k other : ℕ) → Bool
is_stronger os k other = if nat_lt other k then outranks (overlay_at os k) (overlay_at os other) else not (outranks (overlay_at os other) (overlay_at os k))

abbrev pub stronger : List Overlay → Option ℕ → ℕ → ℕ
stronger os None k = k
stronger os (Some best) k = if is_stronger os k best then k else best

abbrev pub has_property : (name : ℕ) → List Overlay → Entry → Bool
has_property name os e = is_some (get (overlay_at os e.number).props name)

-- the entries at a place of a buffer that have a property
abbrev pub contenders : (buffer i name : ℕ) → List Overlay → List Entry → List ℕ
contenders buffer i name os entries = numbers_in (filter (has_property name os) (filter (passes buffer (At i)) entries))

abbrev pub strongest : (buffer i name : ℕ) → List Overlay → Option ℕ → List Entry → Option ℕ
strongest buffer i name os best entries = fold (λ b k. Some (stronger os b k)) best (contenders buffer i name os entries)
