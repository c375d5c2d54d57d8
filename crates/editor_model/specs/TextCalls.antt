-- The calls on point, on the text and on the accessible portion of a buffer. GNU Emacs Lisp Reference
-- Manual, sections "Point", "Narrowing", "Near Point", "Buffer Contents", "Insertion", "Deletion"; for what
-- an insertion inherits "Sticky Properties"; for a process's output "Filter Functions".
use Rattle.std.specs.Prelude.{ℕ, ◌-◌, pos, Bool, true, false, ◌&&◌, not, ◌==◌, nat_lt, nat_le, min, max}
use Rattle.std.specs.Prelude.{List, [], ◌∷◌, ◌++◌, map, length, slice_get, if◌then◌else◌, Option, Some}
use Rattle.std.specs.Prelude.{None, option_map}
use Rattle.text_model.specs.Characters.{code}
use Rattle.text_model.specs.Properties.{Cell, PropSet, part, put_all}
use Rattle.text_model.specs.Places.{clip}
use Rattle.text_model.specs.Marks.{Spot}
use Rattle.text_model.specs.Sticky.{inherited}
use Rattle.text_model.specs.Commit.{Buffer}
use Rattle.editor_model.specs.Values.{Value, Nil, Int, Str, plain, Reply, Answered}
use Rattle.editor_model.specs.Editor.{Editor, buffer_at, here, change_buffer, marker_of}
use Rattle.editor_model.specs.Answers.{Test, Applied, applied, answer, Put, Prepared, Changes, Nothing}
use Rattle.editor_model.specs.Answers.{prepared}
use Rattle.editor_model.specs.ReadOnly.{bars, has_read_only, is_tested, must_be_writable, must_be_writable_here}
use Rattle.editor_model.specs.Arguments.{string_of, buffer_of, position, place, place_or, from_of}
use Rattle.editor_model.specs.Arguments.{to_of, must_be_position, must_be_position_or_nil}
use Rattle.editor_model.specs.Arguments.{must_be_string, must_be_buffer, must_be_buffer_or_nil}
use Rattle.editor_model.specs.Arguments.{buffer_there, must_point_somewhere, must_be_accessible}
use Rattle.editor_model.specs.Arguments.{must_be_nil_or_accessible, must_lie_in, must_fit_a_string}
use Rattle.editor_model.specs.Arguments.{must_have_room}

-- ASKING
abbrev pub buffer_size : Editor → Value → Reply
buffer_size e b =
    answer (must_be_buffer_or_nil b ∷ buffer_there e b ∷ [])
    (Int (pos (length (buffer_at e (buffer_of e b)).text)))

abbrev pub is_narrowed : Buffer → Bool
is_narrowed b = not ((b.begin == 0) && (b.end == length b.text))

abbrev pub code_value : Option Cell → Value
code_value None = Nil
code_value (Some c) = Int (pos (code c.0))

-- the character of the accessible portion at a place
abbrev pub char_at : Buffer → ℕ → Option Cell
char_at b p = if nat_le b.begin p && nat_lt p b.end then slice_get b.text p else None

-- the character at a position, of which 0 has none
abbrev pub char_at_position : Buffer → ℕ → Option Cell
char_at_position b p = if p == 0 then None else char_at b (p - 1)

abbrev pub char_after : Editor → Value → Reply
char_after e Nil = Answered (code_value (char_at (here e) (here e).point))
char_after e p =
    answer (must_be_position p ∷ must_point_somewhere e p ∷ [])
    (code_value (char_at_position (here e) (position e p)))

abbrev pub buffer_string : Editor → Reply
buffer_string e =
    let b = here e in answer (must_fit_a_string (b.end - b.begin) ∷ []) (Str (part b.begin b.end b.text))

-- a region: two positions in either order, in the accessible portion
abbrev pub must_be_a_region : Editor → (a b : Value) → (limits : List Test) → List Test
must_be_a_region e a b limits =
    must_be_position a ∷ must_be_position b ∷
    must_be_accessible (here e) e a ∷ must_be_accessible (here e) e b ∷
    limits

abbrev pub region_text : Editor → (a b : Value) → List Cell
region_text e a b = part (from_of e a b) (to_of e a b) (here e).text

abbrev pub must_fit_a_region : Editor → (a b : Value) → List Test
must_fit_a_region e a b = must_be_a_region e a b (must_fit_a_string (to_of e a b - from_of e a b) ∷ [])

abbrev pub buffer_substring : Editor → (a b : Value) → Reply
buffer_substring e a b = answer (must_fit_a_region e a b) (Str (region_text e a b))

abbrev pub buffer_substring_no_properties : Editor → (a b : Value) → Reply
buffer_substring_no_properties e a b =
    answer (must_fit_a_region e a b) (plain (map (λ c. c.0) (region_text e a b)))

-- SETTING
-- point at a place, or at the nearer end of the accessible portion
abbrev pub point_at : ℕ → Buffer → Buffer
point_at p b = record b { point = clip b.begin b.end p }

abbrev pub goto_char : Editor → Value → Applied
goto_char e p =
    applied e (must_be_position p ∷ must_point_somewhere e p ∷ [])
    (change_buffer e.current (point_at (place e p)) e) p

abbrev pub narrowed : (from to : ℕ) → Buffer → Buffer
narrowed from to b = record b { begin = from; end = to; point = clip from to b.point }

abbrev pub narrow_to_region : Editor → (a b : Value) → Applied
narrow_to_region e a b =
    let size : ℕ = length (here e).text in
    applied e (must_be_position a ∷ must_be_position b ∷ must_lie_in 0 size e a ∷ must_lie_in 0 size e b ∷ [])
    (change_buffer e.current (narrowed (from_of e a b) (to_of e a b)) e) Nil

abbrev pub widened : Buffer → Buffer
widened b = record b { begin = 0; end = length b.text }

abbrev pub widen : Editor → Applied
widen e = applied e [] (change_buffer e.current widened e) Nil

-- INSERTING
-- the properties that an insertion at a place inherits: only the accessible portion counts
abbrev pub inherited_at : Buffer → ℕ → PropSet
inherited_at b p =
    inherited (option_map (λ c. c.1) (if p == 0 then None else char_at b (p - 1)))
    (option_map (λ c. c.1) (char_at b p))

abbrev pub with_inherited : PropSet → List Cell → List Cell
with_inherited set piece = map (λ c. (c.0, put_all set c.1)) piece

-- text that is put in at a place would inherit `read-only`
abbrev pub takes_no_text : Editor → (id at : ℕ) → Bool
takes_no_text e id at = bars (inherited_at (buffer_at e id) at)

-- so many characters may be put in at point
abbrev pub must_take_text : Editor → (n : ℕ) → Test
must_take_text e n = must_be_writable_here e (nat_lt 0 n) (takes_no_text e e.current (here e).point)

-- an empty piece changes nothing
abbrev pub insertion : (id at : ℕ) → List Cell → (all : Bool) → Prepared
insertion id at [] all = Nothing Nil
insertion id at (c ∷ piece) all =
    Changes (record {
      buffer = id;
      from = at;
      to = at;
      what = Put (c ∷ piece) all true false None;
      reply = Nil;
    })

abbrev pub joined : List Value → List Cell
joined [] = []
joined (v ∷ args) = string_of v ++ joined args

-- the characters with their properties as sets, over those that they inherit, if they do
abbrev pub inserted_piece : Editor → (inherit : Bool) → List Cell → List Cell
inserted_piece e inherit piece =
    with_inherited (if inherit then inherited_at (here e) (here e).point else []) piece

abbrev pub insert : Editor → (all inherit : Bool) → List Value → Prepared
insert e all inherit args =
    prepared (map must_be_string args ++ must_take_text e (length (joined args)) ∷
    must_have_room e e.current (length (joined args)) ∷ [])
    (insertion e.current (here e).point (inserted_piece e inherit (joined args)) all)

-- nil is that end of the other buffer's accessible portion
abbrev pub insert_buffer_substring : Editor → (buffer a b : Value) → Prepared
insert_buffer_substring e buffer a b =
    let source : Buffer = buffer_at e (buffer_of e buffer) in
    let from : ℕ = min (place_or source.begin e a) (place_or source.end e b) in
    let to : ℕ = max (place_or source.begin e a) (place_or source.end e b) in
    prepared (
    must_be_buffer buffer ∷ must_be_position_or_nil a ∷ must_be_position_or_nil b ∷ buffer_there e buffer ∷
    must_be_nil_or_accessible source e a ∷ must_be_nil_or_accessible source e b ∷
    must_take_text e (to - from) ∷ must_fit_a_string (to - from) ∷ must_have_room e e.current (to - from) ∷ []
    ) (insertion e.current (here e).point (part from to source.text) false)

-- the insertion of a process's output at a place: its mark goes behind the text; a read-only buffer takes it
abbrev pub output : Editor → (id mark at : ℕ) → List Cell → Prepared
output e id mark at text =
    prepared (must_be_writable (is_tested e (nat_lt 0 (length text))) false (takes_no_text e id at) ∷
    must_have_room e id (length text) ∷ [])
    (Changes (record {
      buffer = id;
      from = at;
      to = at;
      what = Put text true false false (Some mark);
      reply = Nil;
    }))

-- a mark that isn't in the buffer counts as the end of the accessible portion
abbrev pub place_in : (id : ℕ) → Buffer → Option Spot → ℕ
place_in id b None = b.end
place_in id b (Some s) = if s.buffer == id then s.place else b.end

abbrev pub prepare_output : Editor → (id mark : ℕ) → List Cell → Prepared
prepare_output e id mark text = output e id mark (place_in id (buffer_at e id) (marker_of e mark).spot) text

-- DELETING
-- an empty part changes nothing
abbrev pub deletion : (id from to : ℕ) → (widen : Bool) → Value → Prepared
deletion id from to widen reply =
    if from == to then Nothing reply
    else Changes (record {
      buffer = id;
      from = from;
      to = to;
      what = Put [] false false widen None;
      reply = reply;
    })

-- a part of the current buffer may be taken out
abbrev pub must_give_text : Editor → (from to : ℕ) → Test
must_give_text e from to =
    must_be_writable_here e (not (from == to)) (has_read_only (part from to (here e).text))

abbrev pub must_give_region : Editor → (a b : Value) → Test
must_give_region e a b = must_give_text e (from_of e a b) (to_of e a b)

abbrev pub region_deletion : Editor → (a b reply : Value) → Prepared
region_deletion e a b reply = deletion e.current (from_of e a b) (to_of e a b) false reply

abbrev pub delete_region : Editor → (a b : Value) → Prepared
delete_region e a b =
    prepared (must_be_a_region e a b (must_give_region e a b ∷ [])) (region_deletion e a b Nil)

abbrev pub delete_and_extract_region : Editor → (a b : Value) → Prepared
delete_and_extract_region e a b =
    prepared (must_be_a_region e a b (must_give_region e a b ∷
    must_fit_a_string (to_of e a b - from_of e a b) ∷ []))
    (region_deletion e a b (Str (region_text e a b)))

abbrev pub erase_buffer : Editor → Prepared
erase_buffer e =
    prepared (must_give_text e 0 (length (here e).text) ∷ [])
    (deletion e.current 0 (length (here e).text) true Nil)
