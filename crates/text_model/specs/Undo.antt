-- The undo records of a buffer, and what undoing them does to its text.
use Rattle.std.specs.Prelude.{ℕ, zero, suc, ◌+◌, ◌-◌, ℤ, Bool, true, false, ◌&&◌, not, nat_lt, nat_le}
use Rattle.std.specs.Prelude.{◌==◌, List, [], ◌∷◌, filter, length, if◌then◌else◌, Option, Some, None}
use Rattle.text_model.specs.Properties.{PropVal, Cell, splice, with_sets, put}

pub data Rec : Type 0 where
  Boundary : Rec
  Point : (place : ℕ) → Rec
  Inserted : (from to : ℕ) → Rec
  Deleted : List Cell → (place : ℕ) → Rec
  Prop : (name : ℕ) → (old : Option PropVal) → (from to : ℕ) → Rec
  First : Rec
  Moved : (marker : ℕ) → (adjustment : ℤ) → Rec

-- a record with its serial number
pub record Entry : Type 0 where
  pub what : Rec
  pub serial : ℕ

-- The records of a buffer, the newest first. Those whose serial number is below a kept one are pending.
pub record Undo : Type 0 where
  pub on : Bool
  pub entries : List Entry
  pub next : ℕ
  pub pending_below : ℕ

abbrev pub is_boundary : Rec → Bool
is_boundary Boundary = true
is_boundary _ = false

abbrev pub pending : Undo → List Entry
pending u = filter (λ e. nat_lt e.serial u.pending_below) u.entries

-- the records that are newer than the one with this serial number: those in front of it
abbrev pub newer_than : ℕ → List Entry → List Entry
newer_than serial [] = []
newer_than serial (e ∷ entries) = if e.serial == serial then [] else e ∷ newer_than serial entries

-- a boundary with this serial number stands in the list
abbrev pub boundary_at : (serial : ℕ) → List Entry → Bool
boundary_at serial [] = false
boundary_at serial (e ∷ entries) = if e.serial == serial then is_boundary e.what else boundary_at serial entries

-- a list's last record is the boundary with this serial number
abbrev pub ends_with : (serial : ℕ) → List Entry → Bool
ends_with serial [] = false
ends_with serial (e ∷ []) = is_boundary e.what && (e.serial == serial)
ends_with serial (e ∷ f ∷ entries) = ends_with serial (f ∷ entries)

-- the text with some records undone, the newest first
abbrev pub undo_in_text : Rec → List Cell → List Cell
undo_in_text (Inserted from to) text = splice from to [] text
undo_in_text (Deleted piece place) text = splice place place piece text
undo_in_text (Prop name old from to) text = with_sets from to (λ set. put set name old) text
undo_in_text _ text = text

abbrev pub rewind : List Entry → List Cell → List Cell
rewind [] text = text
rewind (e ∷ entries) text = rewind entries (undo_in_text e.what text)

-- The first n groups of a list, with the boundaries that end them.
abbrev pub groups : ℕ → List Entry → List Entry
groups n [] = []
groups zero (e ∷ entries) = []
groups (suc n) (e ∷ entries) =
    elim (is_boundary e.what) [ true ↦ e ∷ groups n entries | false ↦ e ∷ groups (suc n) entries ]

-- whether the places of a record lie in min to max, and what max is once it is undone
abbrev pub lies_inside : (min max : ℕ) → Rec → Bool
lies_inside min max (Inserted from to) = nat_le min from && nat_le to max
lies_inside min max (Deleted piece place) = nat_le min place && nat_le place max
lies_inside min max (Prop name old from to) = nat_le min from && nat_le to max
lies_inside min max (Point place) = nat_le min place && nat_le place max
lies_inside min max _ = true

abbrev pub max_after : (max : ℕ) → Rec → ℕ
max_after max (Inserted from to) = max - (to - from)
max_after max (Deleted piece place) = max + length piece
max_after max _ = max

-- the first record, if any, one of whose places lies outside min to max as these then stand
abbrev pub trial : (min max : ℕ) → List Entry → Option Entry
trial min max [] = None
trial min max (e ∷ entries) = elim (lies_inside min max e.what) [
  | true ↦ trial min (max_after max e.what) entries
  | false ↦ Some e
]

-- Cutting: the oldest group goes with the boundary next to it.
abbrev pub has_boundary : List Entry → Bool
has_boundary [] = false
has_boundary (e ∷ entries) = if is_boundary e.what then true else has_boundary entries

abbrev pub without_oldest_group : List Entry → List Entry
without_oldest_group [] = []
without_oldest_group (e ∷ entries) = if has_boundary entries then e ∷ without_oldest_group entries else []

abbrev pub kept_characters : List Entry → ℕ
kept_characters [] = 0
kept_characters (e ∷ entries) = elim e.what [
  | Deleted piece place ↦ length piece + kept_characters entries
  | _ ↦ kept_characters entries
]

abbrev pub fits : List Entry → Bool
fits entries = nat_le (length entries) 65536 && nat_le (kept_characters entries) 1048576

-- groups go while the list doesn't fit, at most as many as it has records
abbrev pub cut : (turns : ℕ) → List Entry → List Entry
cut zero entries = entries
cut (suc turns) entries =
    elim (fits entries) [ true ↦ entries | false ↦ cut turns (without_oldest_group entries) ]

-- a record put in front: an insertion that goes on where the newest one ended extends that one
abbrev pub in_front : Rec → ℕ → List Entry → List Entry
in_front r serial [] = record { what = r; serial = serial } ∷ []
in_front (Inserted from to) serial (e ∷ entries) = elim e.what [
  | Inserted b p ↦
      if p == from then record e { what = Inserted b to } ∷ entries else
      record { what = Inserted from to; serial = serial } ∷ e ∷ entries
  | _ ↦ record { what = Inserted from to; serial = serial } ∷ e ∷ entries
]
in_front r serial (e ∷ entries) = record { what = r; serial = serial } ∷ e ∷ entries

-- whether a record only extends the newest one, and so needs no serial number
abbrev pub ends_at : (place : ℕ) → Rec → Bool
ends_at place (Inserted from to) = to == place
ends_at place _ = false

abbrev pub extends : Rec → List Entry → Bool
extends (Inserted from to) (e ∷ entries) = ends_at from e.what
extends _ _ = false

abbrev pub pushed : Rec → Undo → Undo
pushed r u =
    if u.on then
    record u {
      entries = cut (length u.entries + 1) (in_front r u.next u.entries);
      next = if extends r u.entries then u.next else u.next + 1;
    } else
    u

abbrev pub pushed_all : List Rec → Undo → Undo
pushed_all [] u = u
pushed_all (r ∷ records) u = pushed_all records (pushed r u)

-- a boundary, where the list has records and doesn't begin with one
abbrev pub with_boundary : Undo → Undo
with_boundary u = elim u.entries [ [] ↦ u | e ∷ entries ↦ if is_boundary e.what then u else pushed Boundary u ]

abbrev pub started : Undo → Undo
started u = record u { pending_below = u.next }

abbrev pub without_pending : Undo → Undo
without_pending u = record u { pending_below = 0 }

-- the records that `undo-more n` passes
abbrev pub passed : ℕ → Undo → List Entry
passed n u = groups n (pending u)

abbrev pub undone : ℕ → Undo → List Entry
undone n u = filter (λ e. not (is_boundary e.what)) (passed n u)

-- the serial number of the oldest in a list
abbrev pub oldest : ℕ → List Entry → ℕ
oldest serial [] = serial
oldest serial (e ∷ entries) = oldest e.serial entries

abbrev pub pass : List Entry → Undo → Undo
pass entries u = record u { pending_below = oldest u.pending_below entries }

-- recording stopped, and begun again
abbrev pub disabled : Undo → Undo
disabled u = record u { on = false; entries = []; pending_below = 0 }

abbrev pub enabled : Undo → Undo
enabled u = record u { on = true }
