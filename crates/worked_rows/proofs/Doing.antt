-- Calls made one after the other, without hooks, and what they reply.
use Rattle.std.specs.Prelude.{ℕ, pos, List, [], ◌∷◌}
use Rattle.editor_model.specs.Values.{Value, Nil, T, Int, Reply, Answered, Refused, Prim}
use Rattle.editor_model.specs.Prims.{Manner, OnlyAsks, SetsState, ChangesText, ConcernsHandlers, manner_of}
use Rattle.editor_model.specs.Editor.{Editor, new_editor}
use Rattle.editor_model.specs.Table.{Applied, query, apply, prepare, Prepared, Changes, Quiet, Nothing, Barred, commit, Commit, Committed, Done, Failed}

abbrev committed : Commit → Value → Applied
committed c reply = record { editor = c.editor; reply = reply_of c.committed reply }
  where
    reply_of : Committed → Value → Reply
    reply_of (Done from to old) v = Answered v
    reply_of (Failed f) v = Refused f

abbrev changed : Editor → Prepared → Applied
changed e (Changes c) = committed (commit e c) c.reply
changed e (Quiet c) = committed (commit e c) c.reply
changed e (Nothing v) = record { editor = e; reply = Answered v }
changed e (Barred f) = record { editor = e; reply = Refused f }

abbrev made : Manner → Editor → Prim → List Value → Applied
made OnlyAsks e prim args = record { editor = e; reply = query e prim args }
made SetsState e prim args = apply e prim args
made ChangesText e prim args = changed e (prepare e prim args)
made ConcernsHandlers e prim args = record { editor = e; reply = Answered Nil }

abbrev pub Calls : Type 0
Calls = List (Prim × List Value)

abbrev pub editor_after : Editor → Calls → Editor
editor_after e [] = e
editor_after e (c ∷ calls) = editor_after (made (manner_of c.0) e c.0 c.1).editor calls

abbrev pub replies : Editor → Calls → List Reply
replies e [] = []
replies e (c ∷ calls) = (made (manner_of c.0) e c.0 c.1).reply ∷ replies (made (manner_of c.0) e c.0 c.1).editor calls

-- in a new editor: some calls first, and the replies to some more
abbrev pub answers : (first calls : Calls) → List Reply
answers first calls = replies (editor_after new_editor first) calls

-- WORDS FOR VALUES

abbrev pub num : ℕ → Value
num n = Int (pos n)

abbrev pub is : Value → Reply
is v = Answered v

abbrev pub yes : Reply
yes = Answered T

abbrev pub no : Reply
no = Answered Nil
