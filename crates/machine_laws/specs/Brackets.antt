-- Brackets: what is raised while a handler runs, a block stands or a change is under way, and is as before
-- behind it.
use Rattle.std.specs.Prelude.{◌≡◌, ℕ, Bool, true, false, List, [], ◌∷◌, length, map, Option}
use Rattle.text_model.specs.Marks.{Saved, Excursion, Restriction, Pending}
use Rattle.editor_model.specs.Values.{Value, Reply, Prim, SetBuffer}
use Rattle.editor_model.specs.Editor.{is_live}
use Rattle.plain_machine.specs.Exchanges.{Exchange}
use Rattle.plain_machine.specs.State.{State, Program}
use Rattle.plain_machine.specs.Lines.{Kind}
use Rattle.plain_machine.specs.Items.{Item, Top, MakeCall, Enter, Finish, WriteDump, Target, Said, Config}
use Rattle.plain_machine.specs.Run.{Reaches, Calls, Handles}

-- LEVELS
-- a kept place by its kind and its buffer; where in the text it stands moves with the text
abbrev pub shape : Saved → ℕ × ℕ
shape (Excursion b p) = (0, b)
shape (Restriction b ends) = (1, b)
shape (Pending b from to) = (2, b)

abbrev pub shapes : List Saved → List (ℕ × ℕ)
shapes saved = map shape saved

-- how many handlers run, how many scopes there are, whether hooks are inhibited, whether nothing counts as
-- read-only, which places are kept
pub record Levels : Type 0 where
  pub depth : ℕ
  pub scopes : ℕ
  pub inhibited : Bool
  pub lifted : Bool
  pub kept : List (ℕ × ℕ)

abbrev pub levels : State → Levels
levels s = record {
  depth = s.depth;
  scopes = length s.scopes;
  inhibited = s.inhibited;
  lifted = s.editor.lifted;
  kept = shapes s.editor.marks.saved;
}

-- THE TOP LEVEL
-- the forms of the top level are next, or what stands behind them
abbrev pub IsTop : List Item → Type 0
IsTop [] = Unit {0}
IsTop (Top forms ∷ work) = Unit {0}
IsTop (Finish p ∷ work) = Unit {0}
IsTop (WriteDump ∷ work) = Unit {0}
IsTop _ = ⊥

pub record NothingLeft (s : State) : Type 0 where
  pub depth : s.depth ≡ 0
  pub scopes : s.scopes ≡ []
  pub kept : s.editor.marks.saved ≡ []
  pub inhibited : s.inhibited ≡ false
  pub lifted : s.editor.lifted ≡ false

-- Whenever a run comes to the top level, no handler, no block and no change has left anything over.
abbrev pub TopIsClear : Program → ℕ → Config → Type 0
TopIsClear program bound from =
    (exchanges : List Exchange) (said : List Said) (c : Config) →
    Reaches program bound from exchanges said c → IsTop c.work → NothingLeft c.state

-- CALLS AND HANDLERS, wherever a run comes to them, with whatever handlers between
-- the one call that makes the buffer current that it names
abbrev pub names_current : Prim → Bool
names_current SetBuffer = true
names_current _ = false

-- the buffer that was current is so again, unless it was killed
abbrev pub CurrentAgain : State → State → Type 0
CurrentAgain s t = is_live t.editor s.editor.current ≡ true → t.editor.current ≡ s.editor.current

abbrev pub CallsBracket : Program → ℕ → Config → Type 0
CallsBracket program bound from =
    (before exchanges : List Exchange) (earlier said : List Said) (s t : State) (prim : Prim)
    (args : List Value) (target : Target) (rest : List Item) (reply : Reply) →
    Reaches program bound from before earlier (record { state = s; work = MakeCall prim args target ∷ rest }) →
    Calls program bound prim args s exchanges said reply t → (levels t ≡ levels s) ×
    (names_current prim ≡ false → CurrentAgain s t)

abbrev pub HandlersBracket : Program → ℕ → Config → Type 0
HandlersBracket program bound from =
    (before exchanges : List Exchange) (earlier said : List Said) (s t : State) (kind : Kind)
    (handler : Option ℕ) (args : List Value) (rest : List Item) (faulted : Bool) →
    Reaches program bound from before earlier (record { state = s; work = Enter kind handler args ∷ rest }) →
    Handles program bound kind handler args s exchanges said faulted t → (levels t ≡ levels s) ×
    CurrentAgain s t
