-- Undo: undoing back to a kept boundary gives the text of the moment at which it was pushed, in every run.
use Rattle.std.specs.Prelude.{◌≡◌, ◌⊎◌, ℕ, true, false, List, ◌∷◌, Some, None}
use Rattle.text_model.specs.Undo.{passed, boundary_at, ends_with}
use Rattle.text_model.specs.Commit.{Buffer}
use Rattle.editor_model.specs.Values.{Value, UndoMore}
use Rattle.editor_model.specs.Editor.{Live, live}
use Rattle.editor_model.specs.Answers.{first_fault}
use Rattle.editor_model.specs.Commits.{commit_tests}
use Rattle.editor_model.specs.Table.{Change, UndoGroups, Quiet, prepare}
use Rattle.plain_machine.specs.Exchanges.{Exchange}
use Rattle.plain_machine.specs.State.{Program}
use Rattle.plain_machine.specs.Items.{Item, MakeCall, CommitChange, Target, Said, Config, Next, Goes}
use Rattle.plain_machine.specs.Step.{step}
use Rattle.plain_machine.specs.Run.{Reaches}

abbrev pub HasBuffer : Config → (b : ℕ) → Buffer → Type 0
HasBuffer c b x = (l : Live) × (live c.state.editor b ≡ Some l) × (l.buffer ≡ x)

-- the next step undoes n groups in this buffer: it commits them, or it passes groups that hold no record;
-- and it isn't refused
abbrev pub Commits : Config → Change → Type 0
Commits c change = (rest : List Item) × (c.work ≡ CommitChange change ∷ rest)

abbrev pub PassesQuietly : Config → Change → Type 0
PassesQuietly c change = (args : List Value) × (target : Target) × (rest : List Item) ×
    (c.work ≡ MakeCall UndoMore args target ∷ rest) × (prepare c.state.editor UndoMore args ≡ Quiet change)

abbrev pub Undoes : Config → (b n : ℕ) → Type 0
Undoes c b n =
    (change : Change) × (Commits c change ⊎ PassesQuietly c change) × (change.buffer ≡ b) ×
    (change.what ≡ UndoGroups n) × (first_fault (commit_tests c.state.editor b (UndoGroups n)) ≡ None)

-- A boundary was pushed by a step behind the first exchanges, and a step behind the second ones undoes back
-- to it: the text is the same, pairs and all.
abbrev pub UndoReturnsBetween : Program → ℕ → Config → (first second : List Exchange) → Type 0
UndoReturnsBetween program bound from first second =
    (said more : List Said) (c d : Config) (n n' : Next) (b groups serial : ℕ) (x x' y y' : Buffer) →
    Reaches program bound from first said c → step program bound c ≡ Goes n → HasBuffer c b x →
    HasBuffer n.config b x' →
    boundary_at serial x.undo.entries ≡ false → boundary_at serial x'.undo.entries ≡ true →
    Reaches program bound n.config second more d → HasBuffer d b y → Undoes d b groups →
    boundary_at serial y.undo.entries ≡ true → ends_with serial (passed groups y.undo) ≡ true →
    step program bound d ≡ Goes n' → HasBuffer n'.config b y' → y'.text ≡ x'.text

-- and so it is between any two moments of a run
abbrev pub UndoReturns : Program → ℕ → Config → Type 0
UndoReturns program bound from =
    (first second : List Exchange) → UndoReturnsBetween program bound from first second
