-- The editor: all buffers, the current one, what moves with them, and the registers; and the small changes
-- of them that calls are made of. GNU Emacs Lisp Reference Manual, chapters "Buffers" and "Markers".
use Rattle.std.specs.Prelude.{ℕ, zero, suc, ◌+◌, Bool, true, false, ◌==◌, List, [], ◌∷◌, ◌++◌, map}
use Rattle.std.specs.Prelude.{length, codes, decimal, slice_get, slice_set, if◌then◌else◌, Option, Some}
use Rattle.std.specs.Prelude.{None, is_some, unwrap_or}
use Rattle.text_model.specs.Characters.{Ch, Scalar}
use Rattle.text_model.specs.Properties.{same_list, same_ch}
use Rattle.text_model.specs.Undo.{Undo}
use Rattle.text_model.specs.Marks.{Marks, Marker, Spot, Overlay, leave_buffer}
use Rattle.text_model.specs.Commit.{Buffer, Site}
use Rattle.editor_model.specs.Values.{Value}

abbrev pub Name : Type 0
Name = List Ch

abbrev pub same_name : Name → Name → Bool
same_name a b = same_list same_ch a b

abbrev pub scratch : Name
scratch = map Scalar (codes "*scratch*")

abbrev pub new_undo : Undo
new_undo = record { on = true; entries = []; next = 0; pending_below = 0 }

abbrev pub empty_buffer : Buffer
empty_buffer = record { text = []; begin = 0; end = 0; point = 0; modified = false; undo = new_undo }

pub record Live : Type 0 where
  pub name : Name
  pub buffer : Buffer
  pub read_only : Bool

abbrev pub new_live : Name → Live
new_live name = record { name = name; buffer = empty_buffer; read_only = false }

-- buffers by number, where a killed one is None; `lifted`: nothing counts as read-only
pub record Editor : Type 0 where
  pub buffers : List (Option Live)
  pub current : ℕ
  pub marks : Marks
  pub registers : List (ℕ × Value)
  pub lifted : Bool

abbrev pub new_editor : Editor
new_editor =
    record {
      buffers = Some (new_live scratch) ∷ [];
      current = 0;
      marks = record { markers = []; overlays = []; saved = [] };
      registers = [];
      lifted = false;
    }

abbrev pub live : Editor → ℕ → Option Live
live e id = unwrap_or (slice_get e.buffers id) None

abbrev pub is_live : Editor → ℕ → Bool
is_live e id = is_some (live e id)

-- the buffer of a number, and an empty one where none lives there
abbrev pub buffer_at : Editor → ℕ → Buffer
buffer_at e id = elim (live e id) [ Some l ↦ l.buffer | None ↦ empty_buffer ]

abbrev pub here : Editor → Buffer
here e = buffer_at e e.current

abbrev pub is_read_only : Editor → ℕ → Bool
is_read_only e id = elim (live e id) [ Some l ↦ l.read_only | None ↦ false ]

abbrev pub find_from : ℕ → List (Option Live) → Name → Option ℕ
find_from id [] name = None
find_from id (None ∷ rest) name = find_from (id + 1) rest name
find_from id (Some l ∷ rest) name =
    elim (same_name l.name name) [ true ↦ Some id | false ↦ find_from (id + 1) rest name ]

-- the live buffer of a name
abbrev pub find : Editor → Name → Option ℕ
find e name = find_from 0 e.buffers name

-- the numbers of the live buffers
abbrev pub live_from : ℕ → List (Option Live) → List ℕ
live_from id [] = []
live_from id (None ∷ rest) = live_from (id + 1) rest
live_from id (Some l ∷ rest) = id ∷ live_from (id + 1) rest

-- a buffer with the marks changed
abbrev pub change_site : (id : ℕ) → (Site → Site) → Editor → Editor
change_site id change e = elim (live e id) [
  | None ↦ e
  | Some l ↦
      let site : Site = change (record { buffer = l.buffer; marks = e.marks }) in
      record e {
        buffers = slice_set e.buffers id (Some (record l { buffer = site.buffer }));
        marks = site.marks;
      }
]

abbrev pub change_buffer : (id : ℕ) → (Buffer → Buffer) → Editor → Editor
change_buffer id change e = change_site id (λ site. record site { buffer = change site.buffer }) e

abbrev pub with_buffer : Name → Editor → Editor
with_buffer name e = record e { buffers = e.buffers ++ Some (new_live name) ∷ [] }

abbrev pub named_as : Name → Option Live → Option Live
named_as name None = None
named_as name (Some l) = Some (record l { name = name })

abbrev pub renamed : (id : ℕ) → Name → Editor → Editor
renamed id name e = record e { buffers = slice_set e.buffers id (named_as name (live e id)) }

-- a buffer made read-only, or writable
abbrev pub protected : (id : ℕ) → Bool → Editor → Editor
protected id on e = elim (live e id) [
  | None ↦ e
  | Some l ↦ record e { buffers = slice_set e.buffers id (Some (record l { read_only = on })) }
]

-- the name, or the first of name<2>, name<3> .. that none of the buffers has
abbrev pub numbered_name : Name → ℕ → Name
numbered_name name n = name ++ map Scalar (codes "<" ++ (decimal n ++ codes ">"))

abbrev pub first_numbered : (tries n : ℕ) → List (Option Live) → Name → Name
first_numbered zero n buffers name = numbered_name name n
first_numbered (suc tries) n buffers name = elim (find_from 0 buffers (numbered_name name n)) [
  | None ↦ numbered_name name n
  | Some id ↦ first_numbered tries (n + 1) buffers name
]

abbrev pub free_name : List (Option Live) → Name → Name
free_name buffers name = elim (find_from 0 buffers name) [
  | None ↦ name
  | Some id ↦ first_numbered (length buffers) 2 buffers name
]

-- the buffers but the current one
abbrev pub others : Editor → List (Option Live)
others e = slice_set e.buffers e.current None

-- the characters of all live buffers
abbrev pub characters_in : List (Option Live) → ℕ
characters_in [] = 0
characters_in (None ∷ rest) = characters_in rest
characters_in (Some l ∷ rest) = length l.buffer.text + characters_in rest

-- MARKERS AND OVERLAYS
abbrev pub marker_of : Editor → (k : ℕ) → Marker
marker_of e k = unwrap_or (slice_get e.marks.markers k) (record { spot = None; advances = false })

abbrev pub with_marker : Marker → Editor → Editor
with_marker m e = record e { marks = record e.marks { markers = e.marks.markers ++ m ∷ [] } }

abbrev pub change_marker : (k : ℕ) → (Marker → Marker) → Editor → Editor
change_marker k change e =
    record e { marks = record e.marks { markers = slice_set e.marks.markers k (change (marker_of e k)) } }

abbrev pub set_marker_spot : (k : ℕ) → Option Spot → Editor → Editor
set_marker_spot k spot e = change_marker k (λ m. record m { spot = spot }) e

abbrev pub overlay_of : Editor → (k : ℕ) → Overlay
overlay_of e k =
    unwrap_or (slice_get e.marks.overlays k)
    (record { span = None; front_advance = false; rear_advance = false; props = [] })

abbrev pub with_overlay : Overlay → Editor → Editor
with_overlay o e = record e { marks = record e.marks { overlays = e.marks.overlays ++ o ∷ [] } }

abbrev pub change_overlay : (k : ℕ) → (Overlay → Overlay) → Editor → Editor
change_overlay k change e =
    record e { marks = record e.marks { overlays = slice_set e.marks.overlays k (change (overlay_of e k)) } }

-- KILLING
-- the first live buffer, or a new scratch buffer where none lives
abbrev pub after_kill : Bool → Editor → Editor
after_kill was_current e = elim (live_from 0 e.buffers) [
  | [] ↦ record (with_buffer scratch e) { current = length e.buffers }
  | id ∷ ids ↦ if was_current then record e { current = id } else e
]

abbrev pub killed : (id : ℕ) → Editor → Editor
killed id e = after_kill (e.current == id)
    (record e { buffers = slice_set e.buffers id None; marks = leave_buffer id e.marks })

-- REGISTERS
abbrev pub register : List (ℕ × Value) → ℕ → Option Value
register [] s = None
register (r ∷ rest) s = elim (r.0 == s) [ true ↦ Some r.1 | false ↦ register rest s ]

abbrev pub with_register : ℕ → Value → List (ℕ × Value) → List (ℕ × Value)
with_register s v [] = (s, v) ∷ []
with_register s v (r ∷ rest) = elim (r.0 == s) [ true ↦ (s, v) ∷ rest | false ↦ r ∷ with_register s v rest ]
