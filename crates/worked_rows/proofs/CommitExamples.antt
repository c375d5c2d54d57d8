-- Commits that find the buffer otherwise than it was when the change was prepared. The symbols: 20 is face, 21 bold.
use Rattle.std.specs.Prelude.{◌≡◌, ℕ, true, false, [], ◌∷◌, codes, None}
use Rattle.std.proofs.Common.{refl}
use Rattle.text_model.specs.Properties.{Symbol, Add}
use Rattle.editor_model.specs.Values.{Nil, Sym, Prim, BufferKilled, NoFurtherUndo, UndoOutside, UndoDisabled}
use Rattle.editor_model.specs.Editor.{Editor, new_editor, here, killed}
use Rattle.editor_model.specs.Answers.{Change, Put, Props, UndoGroups, Changes, Committed, Done, Failed}
use Rattle.editor_model.specs.Table.{prepare, commit}
use Rattle.worked_rows.specs.Row.{text}
use Rattle.worked_rows.proofs.Doing.{Calls, editor_after, num}

-- four characters, two of them bold; all records are pending
abbrev pending_four : Editor
pending_four =
    editor_after new_editor
    ((Prim.Insert, text (codes "abcd") ∷ []) ∷ (Prim.PutTextProperty, num 1 ∷ num 3 ∷ Sym 20 ∷ Sym 21 ∷ []) ∷ (Prim.UndoStart, []) ∷ [])

abbrev deletion : (from to : ℕ) → Change
deletion from to = record { buffer = 0; from = from; to = to; what = Put [] false false false None; reply = Nil }

pub prepared_deletion : prepare pending_four Prim.DeleteRegion (num 4 ∷ num 2 ∷ []) ≡ Changes (deletion 1 3)
prepared_deletion = refl

-- nothing is left of the part: nothing changes, and the records stay pending
pub nothing_left : (commit pending_four (deletion 1 1)).committed ≡ Done 1 1 0
nothing_left = refl

pub nothing_left_changes : (commit pending_four (deletion 1 1)).editor ≡ pending_four
nothing_left_changes = refl

-- the property has its value already
abbrev bold : Change
bold = record { buffer = 0; from = 0; to = 2; what = Props (Add ((20, Symbol 21) ∷ []) []); reply = Nil }

pub bold_already : (commit pending_four bold).committed ≡ Done 0 2 2
bold_already = refl

pub bold_already_changes : (commit pending_four bold).editor ≡ pending_four
bold_already_changes = refl

-- the buffer was killed
pub killed_meanwhile : (commit (killed 0 pending_four) (deletion 1 3)).committed ≡ Failed BufferKilled
killed_meanwhile = refl

-- an erased buffer is widened first: what stands outside the kept ends stays
abbrev erased : Editor
erased = (commit (editor_after pending_four ((Prim.NarrowToRegion, num 2 ∷ num 3 ∷ []) ∷ [])) (record { buffer = 0; from = 2; to = 2; what = Put [] false false true None; reply = Nil })).editor

pub erased_is_wide : ((here erased).begin ≡ 0) × ((here erased).end ≡ 4) × ((here erased).undo ≡ (here pending_four).undo)
erased_is_wide = (refl, refl, refl)

-- undoing is tried once more
abbrev undo_after : Calls → Committed
undo_after calls = (commit (editor_after pending_four calls) (record { buffer = 0; from = 0; to = 4; what = UndoGroups 1; reply = Nil })).committed

pub undone_whole : undo_after [] ≡ Done 0 0 4
undone_whole = refl

pub undo_narrowed : undo_after ((Prim.NarrowToRegion, num 2 ∷ num 3 ∷ []) ∷ []) ≡ Failed UndoOutside
undo_narrowed = refl

pub undo_edited : undo_after ((Prim.Insert, text (codes "e") ∷ []) ∷ []) ≡ Failed NoFurtherUndo
undo_edited = refl

pub undo_disabled : undo_after ((Prim.BufferDisableUndo, []) ∷ []) ≡ Failed UndoDisabled
undo_disabled = refl

-- a boundary pushed and undoing begun anew: the group is empty then, and nothing is undone
pub undo_begun_anew : undo_after ((Prim.UndoBoundary, []) ∷ (Prim.UndoStart, []) ∷ []) ≡ Done 0 4 4
undo_begun_anew = refl
