-- A run that meets what the law of undoing asks for, and one whose undoing is refused.
use Rattle.std.specs.Prelude.{◌≡◌, true, false, ◌∷◌, [], map, length, Some, None}
use Rattle.std.specs.Fmt.{digits}
use Rattle.std.specs.Char.{encode_utf8}
use Rattle.std.proofs.Common.{refl}
use Rattle.text_model.specs.Undo.{passed}
use Rattle.text_model.specs.Undo.{boundary_at, ends_with}
use Rattle.editor_model.specs.Values.{UndoOutside}
use Rattle.editor_model.specs.Answers.{first_fault, UndoGroups}
use Rattle.editor_model.specs.Commits.{commit_tests}
use Rattle.worked_rows.specs.UndoneRuns.{undoing, barred, first_from, buffer_after, config_at}

-- step 13 pushes boundary 2, and step 54 undoes back to it
pushed : map (λ n. boundary_at 2 (buffer_after undoing n).undo.entries) (12 ∷ 13 ∷ 54 ∷ []) ≡ false ∷ true ∷ true ∷ []
unfolding digits encode_utf8
pushed = refl

commits : first_from undoing 60 1 ≡ 54
unfolding digits encode_utf8
commits = refl

ends : ends_with 2 (passed 1 (buffer_after undoing 54).undo) ≡ true
unfolding digits encode_utf8
ends = refl

unbarred : first_fault (commit_tests (config_at undoing 54).state.editor 0 (UndoGroups 1)) ≡ None
unfolding digits encode_utf8
unbarred = refl

returned : (buffer_after undoing 55).text ≡ (buffer_after undoing 13).text
unfolding digits encode_utf8
returned = refl

-- where the commit is refused the text stays
commits_barred : first_from barred 60 1 ≡ 46
unfolding digits encode_utf8
commits_barred = refl

is_barred : first_fault (commit_tests (config_at barred 46).state.editor 0 (UndoGroups 1)) ≡ Some UndoOutside
unfolding digits encode_utf8
is_barred = refl

ends_barred : ends_with 2 (passed 1 (buffer_after barred 46).undo) ≡ true
unfolding digits encode_utf8
ends_barred = refl

sizes : map (λ n. length (buffer_after barred n).text) (13 ∷ 46 ∷ 47 ∷ []) ≡ 2 ∷ 3 ∷ 3 ∷ []
unfolding digits encode_utf8
sizes = refl
