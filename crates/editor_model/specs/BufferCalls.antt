-- The calls on buffers. GNU Emacs Lisp Reference Manual, sections "Current Buffer", "Buffer Names",
-- "Buffer Modification", "Read Only Buffers", "Buffer List", "Creating Buffers".
use Rattle.std.specs.Prelude.{ℕ, [], ◌∷◌, map, length, Option, Some, None}
use Rattle.editor_model.specs.Values.{Value, Nil, Str, TheBuffer, list, plain, truth, WrongType, Reply}
use Rattle.editor_model.specs.Values.{Answered, Refused}
use Rattle.editor_model.specs.Editor.{Editor, Name, Live, live, is_live, find, live_from, buffer_at}
use Rattle.editor_model.specs.Editor.{is_read_only, change_buffer, with_buffer, renamed, protected}
use Rattle.editor_model.specs.Editor.{free_name, others}
use Rattle.editor_model.specs.Answers.{Applied, applied, answer}
use Rattle.editor_model.specs.Arguments.{flag, name_of, buffer_of, must_be_buffer}
use Rattle.editor_model.specs.Arguments.{must_be_buffer_or_nil, must_be_name, must_be_short}
use Rattle.editor_model.specs.Arguments.{must_be_fewer, buffer_there}
use Rattle.editor_model.specs.Limits.{most_buffers}

-- ASKING
abbrev pub buffer_value : Option ℕ → Value
buffer_value None = Nil
buffer_value (Some id) = TheBuffer id

abbrev pub get_buffer : Editor → Value → Reply
get_buffer e (TheBuffer b) = Answered (TheBuffer b)
get_buffer e (Str s) = Answered (buffer_value (find e (name_of (Str s))))
get_buffer e _ = Refused WrongType

abbrev pub buffer_live_p : Editor → Value → Reply
buffer_live_p e (TheBuffer b) = Answered (truth (is_live e b))
buffer_live_p e _ = Answered Nil

abbrev pub name_value : Option Live → Value
name_value None = Nil
name_value (Some l) = plain l.name

abbrev pub buffer_name : Editor → Value → Reply
buffer_name e Nil = Answered (name_value (live e e.current))
buffer_name e (TheBuffer b) = Answered (name_value (live e b))
buffer_name e _ = Refused WrongType

abbrev pub buffer_list : Editor → Reply
buffer_list e = Answered (list (map TheBuffer (live_from 0 e.buffers)))

abbrev pub buffer_modified_p : Editor → Value → Reply
buffer_modified_p e b =
    answer (must_be_buffer_or_nil b ∷ buffer_there e b ∷ [])
    (truth (buffer_at e (buffer_of e b)).modified)

abbrev pub buffer_read_only_p : Editor → Value → Reply
buffer_read_only_p e b =
    answer (must_be_buffer_or_nil b ∷ buffer_there e b ∷ [])
    (truth (is_read_only e (buffer_of e b)))

-- SETTING
abbrev pub set_buffer : Editor → Value → Applied
set_buffer e b =
    applied e (must_be_buffer b ∷ buffer_there e b ∷ [])
    (record e { current = buffer_of e b }) (TheBuffer (buffer_of e b))

abbrev pub found_or_made : Editor → Value → Option ℕ → Applied
found_or_made e name (Some id) = applied e [] e (TheBuffer id)
found_or_made e name None =
    applied e (must_be_name name ∷ must_be_short name ∷ must_be_fewer most_buffers (length e.buffers) ∷ [])
    (with_buffer (name_of name) e) (TheBuffer (length e.buffers))

abbrev pub get_buffer_create : Editor → Value → Applied
get_buffer_create e (TheBuffer b) = applied e [] e (TheBuffer b)
get_buffer_create e (Str s) = found_or_made e (Str s) (find e (name_of (Str s)))
get_buffer_create e _ = record { editor = e; reply = Refused WrongType }

abbrev pub generate_new_buffer : Editor → Value → Applied
generate_new_buffer e name =
    applied e (must_be_name name ∷ must_be_short name ∷ must_be_fewer most_buffers (length e.buffers) ∷ [])
    (with_buffer (free_name e.buffers (name_of name)) e) (TheBuffer (length e.buffers))

abbrev pub rename_buffer : Editor → Value → Applied
rename_buffer e name =
    let new : Name = free_name (others e) (name_of name) in
    applied e (must_be_name name ∷ must_be_short name ∷ []) (renamed e.current new e) (plain new)

abbrev pub set_buffer_modified_p : Editor → Value → Applied
set_buffer_modified_p e v =
    applied e []
    (change_buffer e.current (λ b. record b { modified = flag v }) e) (truth (flag v))

abbrev pub set_buffer_read_only : Editor → Value → Applied
set_buffer_read_only e v = applied e [] (protected e.current (flag v) e) (truth (flag v))
