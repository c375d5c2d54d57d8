-- The calls on markers. GNU Emacs Lisp Reference Manual, chapter "Markers".
use Rattle.std.specs.Prelude.{ℕ, Bool, false, [], ◌∷◌, length, Option, Some, None, option_map}
use Rattle.text_model.specs.Marks.{Spot}
use Rattle.text_model.specs.Places.{clip}
use Rattle.editor_model.specs.Values.{Value, Nil, Int, TheMarker, TheBuffer, truth, at_place, WrongType}
use Rattle.editor_model.specs.Values.{Reply, Refused}
use Rattle.editor_model.specs.Editor.{Editor, buffer_at, here, marker_of, with_marker, change_marker}
use Rattle.editor_model.specs.Editor.{set_marker_spot}
use Rattle.editor_model.specs.Answers.{Applied, applied, answer}
use Rattle.editor_model.specs.Arguments.{flag, buffer_of, marker_number, number, place}
use Rattle.editor_model.specs.Arguments.{must_be_position_or_nil, must_be_buffer_or_nil, must_be_marker}
use Rattle.editor_model.specs.Arguments.{must_be_fewer, buffer_there}
use Rattle.editor_model.specs.Limits.{most_markers}

-- ASKING
abbrev pub spot_place : Option Spot → Value
spot_place None = Nil
spot_place (Some s) = at_place s.place

abbrev pub spot_buffer : Option Spot → Value
spot_buffer None = Nil
spot_buffer (Some s) = TheBuffer s.buffer

abbrev pub marker_position : Editor → Value → Reply
marker_position e m = answer (must_be_marker m ∷ []) (spot_place (marker_of e (marker_number m)).spot)

abbrev pub marker_buffer : Editor → Value → Reply
marker_buffer e m = answer (must_be_marker m ∷ []) (spot_buffer (marker_of e (marker_number m)).spot)

abbrev pub marker_insertion_type : Editor → Value → Reply
marker_insertion_type e m = answer (must_be_marker m ∷ []) (truth (marker_of e (marker_number m)).advances)

-- SETTING
abbrev pub new_marker : Editor → Option Spot → (advances : Bool) → Applied
new_marker e spot advances =
    applied e (must_be_fewer most_markers (length e.marks.markers) ∷ [])
    (with_marker (record { spot = spot; advances = advances }) e) (TheMarker (length e.marks.markers))

-- a place of a buffer, as near to it as the whole text goes
abbrev pub spot_in : Editor → (id place : ℕ) → Spot
spot_in e id place = record { buffer = id; place = clip 0 (length (buffer_at e id).text) place }

abbrev pub make_marker : Editor → Applied
make_marker e = new_marker e None false

abbrev pub point_marker : Editor → Applied
point_marker e = new_marker e (Some (record { buffer = e.current; place = (here e).point })) false

abbrev pub copy_marker : Editor → (x kind : Value) → Applied
copy_marker e Nil kind = new_marker e None (flag kind)
copy_marker e (Int i) kind = new_marker e (Some (spot_in e e.current (place e (Int i)))) (flag kind)
copy_marker e (TheMarker k) kind = new_marker e (marker_of e k).spot (flag kind)
copy_marker e _ kind = record { editor = e; reply = Refused WrongType }

-- nil, or a marker that points nowhere, makes it point nowhere
abbrev pub set_marker : Editor → (m x b : Value) → Applied
set_marker e m x b =
    applied e (must_be_marker m ∷ must_be_position_or_nil x ∷ must_be_buffer_or_nil b ∷ buffer_there e b ∷ [])
    (set_marker_spot (marker_number m) (option_map (λ n. spot_in e (buffer_of e b) (place e x))
    (number e x)) e) m

abbrev pub set_marker_insertion_type : Editor → (m kind : Value) → Applied
set_marker_insertion_type e m kind =
    applied e (must_be_marker m ∷ [])
    (change_marker (marker_number m) (λ marker. record marker { advances = flag kind }) e) (truth (flag kind))
