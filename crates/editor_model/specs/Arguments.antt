-- What the arguments of a call are, and the tests on them.
-- Positions count from 1 in arguments and answers, and places from 0 inside a text; `place` goes from the
-- one to the other.
use Rattle.std.specs.Prelude.{ℕ, ◌+◌, ◌-◌, ℤ, pos, Bool, true, false, ◌&&◌, ◌||◌, not, ◌==◌, nat_le}
use Rattle.std.specs.Prelude.{nat_lt, min, max, List, [], map, length, slice_get, Option, Some, None}
use Rattle.std.specs.Prelude.{is_some, unwrap_or}
use Rattle.text_model.specs.Properties.{Cell, PropVal}
use Rattle.text_model.specs.Marks.{Spot}
use Rattle.text_model.specs.Commit.{Buffer}
use Rattle.editor_model.specs.Values.{Value, Nil, Int, Sym, Str, TheBuffer, TheMarker, TheOverlay}
use Rattle.editor_model.specs.Values.{is_nil, as_prop, as_pairs, Pairs, ArgsOutOfRange, WrongType}
use Rattle.editor_model.specs.Values.{NoSuchBuffer, BufferKilled, TooMany, BufferFull}
use Rattle.editor_model.specs.Editor.{Editor, Name, buffer_at, is_live, find, marker_of, characters_in}
use Rattle.editor_model.specs.Answers.{Test, refuse}
use Rattle.editor_model.specs.Limits.{longest_text, longest_texts, longest_string, longest_name}
pub use Rattle.editor_model.specs.Editor.{marker_of}
pub use Rattle.editor_model.specs.Answers.{refuse, first_fault}

-- the n-th argument, nil where it was left out
abbrev pub arg : List Value → ℕ → Value
arg args n = unwrap_or (slice_get args n) Nil

-- a flag: anything but nil is yes
abbrev pub flag : Value → Bool
flag v = not (is_nil v)

-- KINDS
abbrev pub is_position : Value → Bool
is_position (Int i) = true
is_position (TheMarker k) = true
is_position _ = false

abbrev pub is_integer : Value → Bool
is_integer (Int i) = true
is_integer _ = false

abbrev pub is_string : Value → Bool
is_string (Str s) = true
is_string _ = false

abbrev pub is_symbol : Value → Bool
is_symbol (Sym s) = true
is_symbol _ = false

abbrev pub is_buffer : Value → Bool
is_buffer (TheBuffer b) = true
is_buffer (Str s) = true
is_buffer _ = false

abbrev pub is_marker : Value → Bool
is_marker (TheMarker k) = true
is_marker _ = false

abbrev pub is_overlay : Value → Bool
is_overlay (TheOverlay k) = true
is_overlay _ = false

-- CONTENTS
abbrev pub string_of : Value → List Cell
string_of (Str s) = s
string_of _ = []

abbrev pub name_of : Value → Name
name_of v = map (λ c. c.0) (string_of v)

abbrev pub symbol_of : Value → ℕ
symbol_of (Sym s) = s
symbol_of _ = 0

abbrev pub marker_number : Value → ℕ
marker_number (TheMarker k) = k
marker_number _ = 0

abbrev pub overlay_number : Value → ℕ
overlay_number (TheOverlay k) = k
overlay_number _ = 0

-- a count: below 1 it is 0
abbrev pub count_of : Value → ℕ
count_of (Int (pos n)) = n
count_of _ = 0

-- a property's value, and the pairs of a property list
abbrev pub value_of : Value → Option PropVal
value_of v = unwrap_or (as_prop v) None

abbrev pub pairs : Value → Pairs
pairs v = unwrap_or (as_pairs v) []

-- a buffer, a name, or nil for the current buffer
abbrev pub buffer_of : Editor → Value → ℕ
buffer_of e (TheBuffer b) = b
buffer_of e (Str s) = unwrap_or (find e (map (λ c. c.0) s)) 0
buffer_of e _ = e.current

-- POSITIONS
-- the number of a position: a marker counts as its own, whatever its buffer
abbrev pub spot_number : Option Spot → Option ℤ
spot_number None = None
spot_number (Some s) = Some (pos (s.place + 1))

abbrev pub number : Editor → Value → Option ℤ
number e (Int i) = Some i
number e (TheMarker k) = spot_number (marker_of e k).spot
number e _ = None

-- as a position that counts from 1, where 0 stands for whatever lies before the text
abbrev pub position_of : Option ℤ → ℕ
position_of (Some (pos n)) = n
position_of _ = 0

abbrev pub position : Editor → Value → ℕ
position e v = position_of (number e v)

-- as a place of the text, which counts from 0
abbrev pub place : Editor → Value → ℕ
place e v = position e v - 1

abbrev pub place_or : ℕ → Editor → Value → ℕ
place_or default e Nil = default
place_or default e v = place e v

-- the two ends of a region, in either order
abbrev pub from_of : Editor → (a b : Value) → ℕ
from_of e a b = min (place e a) (place e b)

abbrev pub to_of : Editor → (a b : Value) → ℕ
to_of e a b = max (place e a) (place e b)

abbrev pub points_somewhere : Editor → Value → Bool
points_somewhere e v = is_some (number e v)

abbrev pub lies_in : (low high : ℕ) → Editor → Value → Bool
lies_in low high e v = nat_le (low + 1) (position e v) && nat_le (position e v) (high + 1)

abbrev pub accessible : Buffer → Editor → Value → Bool
accessible b e v = lies_in b.begin b.end e v

-- TESTS OF THE KIND
abbrev pub must_be_position : Value → Test
must_be_position v = refuse WrongType (is_position v)

abbrev pub must_be_position_or_nil : Value → Test
must_be_position_or_nil v = refuse WrongType (is_nil v || is_position v)

abbrev pub must_be_integer : Value → Test
must_be_integer v = refuse WrongType (is_integer v)

abbrev pub must_be_string : Value → Test
must_be_string v = refuse WrongType (is_string v)

-- a name isn't empty
abbrev pub must_be_name : Value → Test
must_be_name v = refuse WrongType (nat_lt 0 (length (string_of v)))

abbrev pub must_be_symbol : Value → Test
must_be_symbol v = refuse WrongType (is_symbol v)

abbrev pub must_be_buffer : Value → Test
must_be_buffer v = refuse WrongType (is_buffer v)

abbrev pub must_be_buffer_or_nil : Value → Test
must_be_buffer_or_nil v = refuse WrongType (is_nil v || is_buffer v)

abbrev pub must_be_marker : Value → Test
must_be_marker v = refuse WrongType (is_marker v)

abbrev pub must_be_overlay : Value → Test
must_be_overlay v = refuse WrongType (is_overlay v)

abbrev pub must_be_property_value : Value → Test
must_be_property_value v = refuse WrongType (is_some (as_prop v))

abbrev pub must_be_property_list : Value → Test
must_be_property_list v = refuse WrongType (is_some (as_pairs v))

-- TESTS OF OBJECTS
abbrev pub buffer_there : Editor → Value → Test
buffer_there e (TheBuffer b) = refuse BufferKilled (is_live e b)
buffer_there e (Str s) = refuse NoSuchBuffer (is_some (find e (map (λ c. c.0) s)))
buffer_there e _ = None

-- TESTS OF THE RANGE
abbrev pub must_point_somewhere : Editor → Value → Test
must_point_somewhere e v = refuse ArgsOutOfRange (points_somewhere e v)

abbrev pub must_be_nil_or_somewhere : Editor → Value → Test
must_be_nil_or_somewhere e v = refuse ArgsOutOfRange (is_nil v || points_somewhere e v)

abbrev pub must_be_accessible : Buffer → Editor → Value → Test
must_be_accessible b e v = refuse ArgsOutOfRange (accessible b e v)

abbrev pub must_be_nil_or_accessible : Buffer → Editor → Value → Test
must_be_nil_or_accessible b e v = refuse ArgsOutOfRange (is_nil v || accessible b e v)

abbrev pub must_lie_in : (low high : ℕ) → Editor → Value → Test
must_lie_in low high e v = refuse ArgsOutOfRange (lies_in low high e v)

-- TESTS OF LIMITS
-- one more is to be made, and `most` may ever be
abbrev pub must_be_fewer : (most : ℕ) → (made : ℕ) → Test
must_be_fewer most made = refuse TooMany (nat_lt made most)

abbrev pub must_be_short : Value → Test
must_be_short v = refuse TooMany (nat_le (length (string_of v)) longest_name)

abbrev pub must_fit_a_string : (length : ℕ) → Test
must_fit_a_string n = refuse TooMany (nat_le n longest_string)

-- whether n more characters fit in a buffer
abbrev pub has_room : Editor → (id n : ℕ) → Bool
has_room e id n =
    (n == 0) || (nat_le (length (buffer_at e id).text + n) longest_text &&
    nat_le (characters_in e.buffers + n) longest_texts)

abbrev pub must_have_room : Editor → (id n : ℕ) → Test
must_have_room e id n = refuse BufferFull (has_room e id n)
