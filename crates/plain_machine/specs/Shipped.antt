-- The three handlers that the program brings along: insert-filter, drop-filter, note-sentinel. The first
-- does by calls what the Reference Manual's example of a filter does (section "Filter Functions").
use Rattle.std.specs.Prelude.{ℕ, zero, suc, ℤ, pos, negsuc, ◌+ℤ◌, ◌-ℤ◌, int_lt, int_le, Bool, true}
use Rattle.std.specs.Prelude.{false, ◌&&◌, List, [], ◌∷◌, ◌++◌, map, codes, if◌then◌else◌, Option, Some}
use Rattle.std.specs.Prelude.{None}
use Rattle.text_model.specs.Characters.{Scalar}
use Rattle.editor_model.specs.Values.{Value, Int, Str, TheBuffer, TheMarker, Reply, Answered, Refused}
use Rattle.editor_model.specs.Values.{Prim, GetBufferCreate, SetBuffer, PointAt, PointMax, GotoChar}
use Rattle.editor_model.specs.Values.{Insert, ProcessBuffer, ProcessMark, MarkerPosition, SetMarker}
use Rattle.editor_model.specs.Arguments.{arg}

abbrev pub NativeCall : Type 0
NativeCall = Prim × List Value

-- what the answer of a call has to be
pub data Wanted : Type 0 where
  ABuffer AMarker ANumber Anything : Wanted

abbrev pub is_wanted : Wanted → Value → Bool
is_wanted ABuffer (TheBuffer b) = true
is_wanted AMarker (TheMarker k) = true
is_wanted ANumber (Int i) = true
is_wanted Anything v = true
is_wanted _ v = false

-- one call of a list of calls, as the answers so far make it
pub record Line : Type 0 where
  pub wanted : Wanted
  pub made : List Value → NativeCall

abbrev pub line : Wanted → (List Value → NativeCall) → Line
line wanted made = record { wanted = wanted; made = made }

-- Down the list by the replies so far: done at a fault, and at an answer of another kind. At the end of the
-- list the answers and the replies that are left give the rest.
abbrev pub along : List Line → (answers : List Value) → List Reply →
    (List Value → List Reply → Option NativeCall) →
    Option NativeCall
along [] answers past rest = rest answers past
along (l ∷ lines) answers [] rest = Some (l.made answers)
along (l ∷ lines) answers (Refused f ∷ past) rest = None
along (l ∷ lines) answers (Answered v ∷ past) rest = elim (is_wanted l.wanted v) [
  | true ↦ along lines (answers ++ v ∷ []) past rest
  | false ↦ None
]

abbrev pub number_of : Value → ℤ
number_of (Int i) = i
number_of _ = pos 0

-- a number of 64 bits with a sign
abbrev pub is_i64 : ℤ → Bool
is_i64 i = int_le (negsuc 9223372036854775807) i && int_le i (pos 9223372036854775807)

abbrev pub goto : ℤ → Option NativeCall
goto i = if is_i64 i then Some (GotoChar, Int i ∷ []) else None

-- point x goes back where it stood before the text from y to z was put in
abbrev pub back : (x y z : ℤ) → Option NativeCall
back x y z = if int_lt x y then goto x else (if int_lt y x then goto (x +ℤ (z -ℤ y)) else None)

abbrev pub point_back : List Value → List Reply → Option NativeCall
point_back answers [] = back (number_of (arg answers 2)) (number_of (arg answers 4)) (number_of (arg answers 7))
point_back answers past = None

-- the text goes in at the process's mark, and the mark behind it
abbrev pub insert_filter : List Value → List Reply → Option NativeCall
insert_filter args past = along calls [] past point_back
  where
    calls : List Line
    calls =
        line ABuffer (λ a. (ProcessBuffer, arg args 0 ∷ [])) ∷
        line Anything (λ a. (SetBuffer, arg a 0 ∷ [])) ∷
        line ANumber (λ a. (PointAt, [])) ∷
        line AMarker (λ a. (ProcessMark, arg args 0 ∷ [])) ∷
        line ANumber (λ a. (MarkerPosition, arg a 3 ∷ [])) ∷
        line Anything (λ a. (GotoChar, arg a 3 ∷ [])) ∷
        line Anything (λ a. (Insert, arg args 1 ∷ [])) ∷
        line ANumber (λ a. (PointAt, [])) ∷
        line Anything (λ a. (SetMarker, arg a 3 ∷ arg a 7 ∷ arg a 0 ∷ [])) ∷ []

abbrev pub drop_filter : List Value → List Reply → Option NativeCall
drop_filter args past = None

-- the text goes to the end of the buffer *events*
abbrev pub note_sentinel : List Value → List Reply → Option NativeCall
note_sentinel args past = along calls [] past (λ answers left. None)
  where
    calls : List Line
    calls =
        line ABuffer (λ a. (GetBufferCreate, Str (map (λ c. (Scalar c, [])) (codes "*events*")) ∷ [])) ∷
        line Anything (λ a. (SetBuffer, arg a 0 ∷ [])) ∷
        line ANumber (λ a. (PointMax, [])) ∷
        line Anything (λ a. (GotoChar, arg a 2 ∷ [])) ∷
        line Anything (λ a. (Insert, arg args 1 ∷ [])) ∷ []

abbrev pub shipped_names : List (List ℕ)
shipped_names = codes "insert-filter" ∷ codes "drop-filter" ∷ codes "note-sentinel" ∷ []

abbrev pub shipped : ℕ → List Value → List Reply → Option NativeCall
shipped zero args past = insert_filter args past
shipped (suc zero) args past = drop_filter args past
shipped (suc (suc zero)) args past = note_sentinel args past
shipped i args past = None
