-- What the filter of a session does when it is entered.
use Rattle.std.specs.Prelude.{◌≡◌, ℕ, true, false, List, [], ◌∷◌, ◌++◌, length, slice_get, Some}
use Rattle.text_model.specs.Characters.{Ch}
use Rattle.text_model.specs.Properties.{bare}
use Rattle.editor_model.specs.Values.{Value, Str, TheProcess}
use Rattle.editor_model.specs.Arguments.{has_room}
use Rattle.plain_machine.specs.State.{Process, Off, change_process}
use Rattle.plain_machine.specs.Lines.{OfFilter}
use Rattle.plain_machine.specs.Calls.{with_filter}
use Rattle.plain_machine.specs.Items.{Said}
use Rattle.plain_machine.specs.Run.{Handles}
use Rattle.line_session.specs.Script.{filter_name}
use Rattle.session_laws.specs.Standing.{Parts, session_program, editor_with, outside}

-- it was entered with a text for a process, and left these parts
abbrev pub FilterLeaves : (limit : ℕ) → List Value → (bound p : ℕ) → List Ch → (before after : Parts) → Type 0
FilterLeaves limit command bound p text before after =
    (said : List Said) × Handles (session_program limit command) bound (OfFilter p) (Some filter_name)
    (TheProcess p ∷ Str (bare text) ∷ []) (outside before) [] said false (outside after)

-- the process gathers in the session's buffer
pub record Gathers (before : Parts) (p : ℕ) : Type 0 where
  pub one : Process
  pub there : slice_get before.processes p ≡ Some one
  pub buffer : one.buffer ≡ Some 1

-- where there is room, the text goes in at the end, and all processes stay
pub record Puts (limit : ℕ) (command : List Value) (bound p : ℕ) (text : List Ch)
    (before : Parts) : Type 0 where
  pub after : Parts
  pub leaves : FilterLeaves limit command bound p text before after
  pub grown : after.text ≡ before.text ++ text
  pub processes : after.processes ≡ before.processes
  pub asked : after.asked ≡ before.asked

-- else the text stays, and the process is read no more
pub record Stops (limit : ℕ) (command : List Value) (bound p : ℕ) (text : List Ch)
    (before : Parts) : Type 0 where
  pub after : Parts
  pub leaves : FilterLeaves limit command bound p text before after
  pub same : after.text ≡ before.text
  pub processes : after.processes ≡ (change_process p (with_filter Off) (outside before)).processes
  pub asked : after.asked ≡ before.asked

-- a text that isn't empty
abbrev pub FilterPuts : (limit : ℕ) → List Value → (bound : ℕ) → Type 0
FilterPuts limit command bound =
    (before : Parts) (p : ℕ) (c : Ch) (more : List Ch) → Gathers before p →
    has_room (editor_with 1 before) 1 (length (c ∷ more)) ≡ true →
    Puts limit command bound p (c ∷ more) before

abbrev pub FilterStops : (limit : ℕ) → List Value → (bound : ℕ) → Type 0
FilterStops limit command bound =
    (before : Parts) (p : ℕ) (c : Ch) (more : List Ch) → Gathers before p →
    has_room (editor_with 1 before) 1 (length (c ∷ more)) ≡ false →
    Stops limit command bound p (c ∷ more) before
