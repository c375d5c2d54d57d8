-- What holds of each configuration of a run.
use Rattle.std.specs.Prelude.{◌≡◌, ℕ, List, [], ◌∷◌, drop}
use Rattle.machine_laws.specs.Brackets.{shapes}
use Rattle.editor_model.specs.Editor.{Editor}
use Rattle.machine_laws.proofs.GoodEditor.{GoodEditor, Advances, FineWhat, FineChange}
use Rattle.plain_machine.specs.Items.{Item, Leave, KeptExcursion, KeptRestriction, MakeChange, CommitChange, Config}

-- a change is prepared only as the next item, and one that waits for its commit gives sets in order
abbrev pub ItemFine : Item → Type 0
ItemFine (MakeChange c) = ⊥
ItemFine (CommitChange c) = FineWhat c.what
ItemFine _ = Unit {0}

abbrev pub AllFine : List Item → Type 0
AllFine [] = Unit {0}
AllFine (item ∷ work) = ItemFine item × AllFine work

abbrev pub WorkFine : Editor → List Item → Type 0
WorkFine e [] = Unit {0}
WorkFine e (MakeChange c ∷ work) = FineChange e c × AllFine work
WorkFine e (item ∷ work) = ItemFine item × AllFine work

-- the kept ends of a change in this buffer stand on top
abbrev pub IsPendingIn : (buffer : ℕ) → List (ℕ × ℕ) → Type 0
IsPendingIn b [] = ⊥
IsPendingIn b (k ∷ ks) = k ≡ (2, b)

-- the items that pop a kept place, in their order: each finds its own
abbrev pub Stacked : List Item → List (ℕ × ℕ) → Type 0
Stacked [] ks = Unit {0}
Stacked (Leave KeptExcursion ∷ work) ks = Stacked work (drop 1 ks)
Stacked (Leave KeptRestriction ∷ work) ks = Stacked work (drop 1 ks)
Stacked (CommitChange c ∷ work) ks = IsPendingIn c.buffer ks × Stacked work (drop 1 ks)
Stacked (_ ∷ work) ks = Stacked work ks

pub record GoodConfig (c : Config) : Type 0 where
  pub editor : GoodEditor c.state.editor
  pub work : WorkFine c.state.editor c.work
  pub stack : Stacked c.work (shapes c.state.editor.marks.saved)

-- a good configuration that a step from an editor comes to
pub record Well (e : Editor) (d : Config) : Type 0 where
  pub advances : Advances e d.state.editor
  pub work : WorkFine d.state.editor d.work
  pub stack : Stacked d.work (shapes d.state.editor.marks.saved)
