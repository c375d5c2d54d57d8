-- The marks of a scene.
use Rattle.std.specs.Prelude.{◌≡◌, ℕ, ◌||◌, List, filter, flat_map, is_some, All}
use Rattle.std.specs.List.{list_any}
use Rattle.text_model.specs.Properties.{PropSet, get}
use Rattle.text_model.specs.Marks.{Overlay}
use Rattle.final_view.specs.Shown.{Scene, closing, opening, is_hidden, invisible, scene_in}
use Rattle.final_view.specs.Marks.{closed_of, opened_of, ends_here, starts_here, hides_at, IsMade}
use Rattle.final_view.specs.Marks.{Rises, start_key, end_key}
use Rattle.final_view.specs.declared.mark.Mark.{Mark}

-- the strings at each place of the scene are those of the marks there, and they hide the same
pub record Fits (overlays : List Overlay) (openers closers : List Mark) (first last : ℕ)
    (scene : Scene) : Type 0 where
  pub begins : scene.first ≡ first
  pub ends : scene.last ≡ last
  pub closing : (q : ℕ) → flat_map (closed_of overlays) (filter (ends_here first q) closers) ≡
      closing first q scene.ranked
  pub opening : (q : ℕ) → flat_map (opened_of overlays) (filter (starts_here last q) openers) ≡
      opening last q scene.ranked
  pub hidden : (q : ℕ) (set : PropSet) →
      is_hidden scene q set ≡ list_any (hides_at overlays q) openers || is_some (get set invisible)

-- the overlays of a buffer, by start and by end
pub record AreEdges (buffer : ℕ) (overlays : List Overlay) (openers closers : List Mark) : Type 0 where
  pub openers_made : All (IsMade overlays) openers
  pub closers_made : All (IsMade overlays) closers
  pub starts : Rises start_key 0 openers
  pub ends : Rises end_key 0 closers
  pub fits : (first last : ℕ) → Fits overlays openers closers first last (scene_in buffer first last overlays)
