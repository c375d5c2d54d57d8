-- Buffers and texts that are read-only, and the changes that this bars. GNU Emacs Lisp Reference Manual,
-- sections "Read Only Buffers" and "Special Properties".
use Rattle.std.specs.Prelude.{ℕ, Bool, true, false, ◌&&◌, not, List, None, Some, is_some}
use Rattle.std.specs.List.{list_any}
use Rattle.text_model.specs.Properties.{Cell, PropSet, get}
use Rattle.editor_model.specs.Values.{BufferReadOnly, TextReadOnly}
use Rattle.editor_model.specs.Editor.{Editor, is_read_only}
use Rattle.editor_model.specs.Answers.{Test}

-- the symbol `read-only`
abbrev pub read_only : ℕ
read_only = 10

-- a value other than nil makes a character read-only
abbrev pub bars : PropSet → Bool
bars set = is_some (get set read_only)

abbrev pub has_read_only : List Cell → Bool
has_read_only cells = list_any (λ c. bars c.1) cells

-- a change that is tested, by whether its buffer is read-only, and then its text
abbrev pub must_be_writable : (tested buffer text : Bool) → Test
must_be_writable false buffer text = None
must_be_writable true true text = Some BufferReadOnly
must_be_writable true false true = Some TextReadOnly
must_be_writable true false false = None

-- a change is tested where it would change something, unless the tests are lifted
abbrev pub is_tested : Editor → (changes : Bool) → Bool
is_tested e changes = changes && not e.lifted

-- a change of text in the current buffer
abbrev pub must_be_writable_here : Editor → (changes text : Bool) → Test
must_be_writable_here e changes text = must_be_writable (is_tested e changes) (is_read_only e e.current) text
