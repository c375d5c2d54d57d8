-- The calls on overlays. GNU Emacs Lisp Reference Manual, sections "Managing Overlays", "Overlay Properties",
-- "Finding Overlays".
use Rattle.std.specs.Prelude.{ℕ, ◌+◌, pos, min, max, List, [], ◌∷◌, map, length, Option, Some, None}
use Rattle.text_model.specs.Properties.{PropSet, PropVal, get, put}
use Rattle.text_model.specs.Places.{clip}
use Rattle.text_model.specs.Marks.{Span, Overlay, evaporated}
use Rattle.text_model.specs.OverlayQuestions.{overlays_where, covers, lies_within, winner, next_end}
use Rattle.text_model.specs.OverlayQuestions.{previous_end}
use Rattle.editor_model.specs.Values.{Value, Nil, Int, TheOverlay, TheBuffer, list, at_place, of_prop}
use Rattle.editor_model.specs.Values.{of_set, Reply}
use Rattle.editor_model.specs.Editor.{Editor, buffer_at, here, overlay_of, with_overlay, change_overlay}
use Rattle.editor_model.specs.Answers.{Applied, applied, answer}
use Rattle.editor_model.specs.Arguments.{flag, buffer_of, overlay_number, symbol_of, value_of, position}
use Rattle.editor_model.specs.Arguments.{place, from_of, to_of, must_be_position, must_be_buffer_or_nil}
use Rattle.editor_model.specs.Arguments.{must_be_overlay, must_be_symbol, must_be_property_value}
use Rattle.editor_model.specs.Arguments.{buffer_there, must_point_somewhere, must_be_accessible}
use Rattle.editor_model.specs.Arguments.{must_be_fewer}
use Rattle.editor_model.specs.PropertyCalls.{set_at}
use Rattle.editor_model.specs.Limits.{most_overlays}

-- ASKING
abbrev pub span_start : Option Span → Value
span_start None = Nil
span_start (Some s) = at_place s.start

abbrev pub span_end : Option Span → Value
span_end None = Nil
span_end (Some s) = at_place s.end

abbrev pub span_buffer : Option Span → Value
span_buffer None = Nil
span_buffer (Some s) = TheBuffer s.buffer

abbrev pub overlay_start : Editor → Value → Reply
overlay_start e o = answer (must_be_overlay o ∷ []) (span_start (overlay_of e (overlay_number o)).span)

abbrev pub overlay_end : Editor → Value → Reply
overlay_end e o = answer (must_be_overlay o ∷ []) (span_end (overlay_of e (overlay_number o)).span)

abbrev pub overlay_buffer : Editor → Value → Reply
overlay_buffer e o = answer (must_be_overlay o ∷ []) (span_buffer (overlay_of e (overlay_number o)).span)

abbrev pub overlay_get : Editor → (o name : Value) → Reply
overlay_get e o name =
    answer (must_be_overlay o ∷ must_be_symbol name ∷ [])
    (of_prop (get (overlay_of e (overlay_number o)).props (symbol_of name)))

abbrev pub overlay_properties : Editor → Value → Reply
overlay_properties e o = answer (must_be_overlay o ∷ []) (of_set (overlay_of e (overlay_number o)).props)

abbrev pub overlay_values : List (ℕ × Overlay) → Value
overlay_values overlays = list (map (λ o. TheOverlay o.0) overlays)

abbrev pub overlays_at : Editor → Value → Reply
overlays_at e p =
    answer (must_be_position p ∷ must_point_somewhere e p ∷ [])
    (overlay_values (overlays_where e.current (covers (position e p)) e.marks.overlays))

-- the two positions of a call by rising number, and those at which the accessible portion begins and ends
abbrev pub first_position : Editor → (a b : Value) → ℕ
first_position e a b = min (position e a) (position e b)

abbrev pub last_position : Editor → (a b : Value) → ℕ
last_position e a b = max (position e a) (position e b)

abbrev pub begin_position : Editor → ℕ
begin_position e = (here e).begin + 1

abbrev pub end_position : Editor → ℕ
end_position e = (here e).end + 1

abbrev pub overlays_in : Editor → (a b : Value) → Reply
overlays_in e a b =
    answer (must_be_position a ∷ must_be_position b ∷ must_point_somewhere e a ∷ must_point_somewhere e b ∷ [])
    (overlay_values (overlays_where e.current
    (lies_within (first_position e a b) (last_position e a b) (end_position e)) e.marks.overlays))

-- the winner's value, else the text property
abbrev pub char_property : Option (ℕ × Overlay) → (name : ℕ) → PropSet → Option PropVal
char_property None name set = get set name
char_property (Some o) name set = get o.1.props name

abbrev pub char_property_at : Editor → (p : Value) → (name : ℕ) → Option PropVal
char_property_at e p name =
    char_property (winner e.current (position e p) name e.marks.overlays) name (set_at (here e) (place e p))

abbrev pub get_char_property : Editor → (p name : Value) → Reply
get_char_property e p name =
    answer (must_be_position p ∷ must_be_symbol name ∷ must_be_accessible (here e) e p ∷ [])
    (of_prop (char_property_at e p (symbol_of name)))

abbrev pub next_overlay_change : Editor → Value → Reply
next_overlay_change e p =
    answer (must_be_position p ∷ must_point_somewhere e p ∷ [])
    (Int (pos (next_end e.current (position e p) (end_position e) e.marks.overlays)))

abbrev pub previous_overlay_change : Editor → Value → Reply
previous_overlay_change e p =
    answer (must_be_position p ∷ must_point_somewhere e p ∷ [])
    (Int (pos (previous_end e.current (position e p) (begin_position e) e.marks.overlays)))

-- SETTING
-- the two ends in a buffer, as near to them as the whole text goes
abbrev pub span_in : Editor → (id : ℕ) → (a b : Value) → Span
span_in e id a b =
    let size : ℕ = length (buffer_at e id).text in
    record { buffer = id; start = clip 0 size (from_of e a b); end = clip 0 size (to_of e a b) }

abbrev pub make_overlay : Editor → (a b buffer front rear : Value) → Applied
make_overlay e a b buffer front rear =
    applied e (must_be_position a ∷ must_be_position b ∷ must_be_buffer_or_nil buffer ∷ buffer_there e buffer ∷
    must_point_somewhere e a ∷ must_point_somewhere e b ∷
    must_be_fewer most_overlays (length e.marks.overlays) ∷ [])
    (with_overlay (record {
      span = Some (span_in e (buffer_of e buffer) a b);
      front_advance = flag front;
      rear_advance = flag rear;
      props = [];
    }) e)
    (TheOverlay (length e.marks.overlays))

-- an overlay that is empty and evaporates is deleted
abbrev pub kept_in : Option Span → Overlay → Overlay
kept_in None o = o
kept_in (Some s) o = evaporated s.buffer o

abbrev pub kept : Overlay → Overlay
kept o = kept_in o.span o

abbrev pub overlay_put : Editor → (o name v : Value) → Applied
overlay_put e o name v =
    applied e (must_be_overlay o ∷ must_be_symbol name ∷ must_be_property_value v ∷ [])
    (change_overlay (overlay_number o) (λ old. kept
    (record old { props = put old.props (symbol_of name) (value_of v) })) e) v

-- nil is the overlay's own buffer, where it has one
abbrev pub overlay_home : Editor → Option Span → Value → ℕ
overlay_home e (Some s) Nil = s.buffer
overlay_home e _ buffer = buffer_of e buffer

abbrev pub move_overlay : Editor → (o a b buffer : Value) → Applied
move_overlay e o a b buffer =
    let k : ℕ = overlay_number o in
    applied e (must_be_overlay o ∷ must_be_position a ∷ must_be_position b ∷ must_be_buffer_or_nil buffer ∷
    buffer_there e buffer ∷
    must_point_somewhere e a ∷ must_point_somewhere e b ∷ [])
    (change_overlay k (λ old. kept (record old
    { span = Some (span_in e (overlay_home e old.span buffer) a b) })) e) o

abbrev pub delete_overlay : Editor → Value → Applied
delete_overlay e o =
    applied e (must_be_overlay o ∷ [])
    (change_overlay (overlay_number o) (λ old. record old { span = None }) e) Nil
