-- Calls at the limits.
use Rattle.std.specs.Prelude.{◌≡◌, ℕ, false, [], ◌∷◌, ◌++◌, codes, replicate, Some, None}
use Rattle.std.specs.Fmt.{digits}
use Rattle.std.proofs.Common.{refl}
use Rattle.text_model.specs.Marks.{Marker}
use Rattle.editor_model.specs.Values.{Str, TheBuffer, TheMarker, Refused, Prim, ArgsOutOfRange, WrongType, NoFurtherUndo, TooMany}
use Rattle.editor_model.specs.Editor.{Editor, new_editor}
use Rattle.editor_model.specs.Arguments.{must_fit_a_string}
use Rattle.worked_rows.specs.Row.{with_set, text}
use Rattle.worked_rows.proofs.Doing.{answers, replies, num, is}

-- a new editor in which n more buffers were made and killed
abbrev with_killed : ℕ → Editor
with_killed n = record new_editor { buffers = new_editor.buffers ++ replicate n None }

pub last_buffer : replies (with_killed 254) ((Prim.GetBufferCreate, text (codes "a") ∷ []) ∷ (Prim.GenerateNewBuffer, text (codes "a") ∷ []) ∷ (Prim.GetBufferCreate, text (codes "a") ∷ []) ∷ []) ≡ is (TheBuffer 255) ∷ Refused TooMany ∷ is (TheBuffer 255) ∷ []
last_buffer = refl

-- a new editor with n markers that point nowhere
abbrev nowhere : Marker
nowhere = record { spot = None; advances = false }

abbrev with_markers : ℕ → Editor
with_markers n = record new_editor { marks = record new_editor.marks { markers = replicate n nowhere } }

pub last_marker : replies (with_markers 65535) ((Prim.MakeMarker, []) ∷ (Prim.PointMarker, []) ∷ (Prim.CopyMarker, []) ∷ (Prim.CopyMarker, text [] ∷ []) ∷ []) ≡ is (TheMarker 65535) ∷ Refused TooMany ∷ Refused TooMany ∷ Refused WrongType ∷ []
last_marker = refl

-- a name of 256 characters may be given, and gets its number all the same
pub longest_names : answers ((Prim.GenerateNewBuffer, Str (with_set [] (replicate 256 97)) ∷ []) ∷ []) ((Prim.GenerateNewBuffer, Str (with_set [] (replicate 256 97)) ∷ []) ∷ (Prim.GenerateNewBuffer, Str (with_set [] (replicate 257 97)) ∷ []) ∷ []) ≡ is (TheBuffer 2) ∷ Refused TooMany ∷ []
unfolding digits
longest_names = refl

pub longest_strings : (must_fit_a_string 1048576 ≡ None) × (must_fit_a_string 1048577 ≡ Some TooMany)
longest_strings = (refl, refl)

pub most_undone : answers [] ((Prim.UndoMore, num 65536 ∷ []) ∷ (Prim.UndoMore, num 65537 ∷ []) ∷ []) ≡ Refused NoFurtherUndo ∷ Refused ArgsOutOfRange ∷ []
most_undone = refl
