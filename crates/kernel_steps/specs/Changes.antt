-- How a change is made.
use Rattle.std.specs.Prelude.{ℕ, pos, List, [], ◌∷◌}
use Rattle.text_model.specs.Marks.{Pending}
use Rattle.editor_model.specs.Values.{Value, Int, at_place}
use Rattle.editor_model.specs.Answers.{Change, Committed, Done, Failed, Commit}
use Rattle.editor_model.specs.Commits.{commit}
use Rattle.plain_machine.specs.State.{State}
use Rattle.plain_machine.specs.Calls.{with_editor}
use Rattle.plain_machine.specs.Forms.{with_saved, saved_of, at_kept, popped}

-- the ends of a change are kept
abbrev pub begun : Change → State → State
begun c s = with_saved (Pending c.buffer c.from c.to ∷ saved_of s) s

-- the commit at the kept ends, and the state behind it
abbrev pub done_at : Change → State → Commit
done_at c s = commit s.editor (at_kept c (saved_of s))

abbrev pub behind_commit : Change → Committed → State → State
behind_commit c (Failed f) s = popped s
behind_commit c (Done from to old) s = popped (with_editor (done_at c s).editor s)

-- what hook functions are told
abbrev pub ends_of : (from to : ℕ) → List Value
ends_of from to = at_place from ∷ at_place to ∷ []

abbrev pub ends_behind : (from to old : ℕ) → List Value
ends_behind from to old = at_place from ∷ at_place to ∷ Int (pos old) ∷ []
