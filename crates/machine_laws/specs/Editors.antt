-- Editors: what holds of the editor in each state of each run.
use Rattle.std.specs.Prelude.{◌≡◌, ℕ, true, false, List, [], ◌∷◌, Some}
use Rattle.text_model.specs.Undo.{Entry, is_boundary}
use Rattle.editor_model.specs.Editor.{Editor, Live, live, is_live}
use Rattle.plain_machine.specs.Exchanges.{Exchange}
use Rattle.plain_machine.specs.State.{Program}
use Rattle.plain_machine.specs.Items.{Said, Config}
use Rattle.plain_machine.specs.Run.{Reaches}
use Rattle.machine_laws.specs.Fits.{GoodSite}

-- the oldest record is no boundary
abbrev pub EndsInRecord : List Entry → Type 0
EndsInRecord [] = Unit {0}
EndsInRecord (e ∷ []) = is_boundary e.what ≡ false
EndsInRecord (e ∷ f ∷ entries) = EndsInRecord (f ∷ entries)

-- In each live buffer: point lies in the accessible portion, from begin to end. The bounds of this portion,
-- markers, overlays and kept places lie in the text. Its property sets are in order; its undo records have
-- falling serial numbers, and none where recording is off. Its list of records doesn't end in a boundary.
-- Names of live buffers differ, and the current buffer lives.
pub record Sound (e : Editor) : Type 0 where
  pub each : (id : ℕ) (l : Live) → live e id ≡ Some l →
      GoodSite id (record { buffer = l.buffer; marks = e.marks })
  pub records : (id : ℕ) (l : Live) → live e id ≡ Some l → EndsInRecord l.buffer.undo.entries
  pub names : (id other : ℕ) (l m : Live) → live e id ≡ Some l → live e other ≡ Some m →
      l.name ≡ m.name → id ≡ other
  pub here : is_live e e.current ≡ true

abbrev pub EditorsAreSound : Program → ℕ → Config → Type 0
EditorsAreSound program bound from =
    (exchanges : List Exchange) (said : List Said) (c : Config) →
    Reaches program bound from exchanges said c → Sound c.state.editor
