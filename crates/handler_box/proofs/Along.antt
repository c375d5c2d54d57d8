-- Down the lists of calls of the shipped handlers, where each reply is as wanted and where one isn't.
use Rattle.std.proofs.Common.{◌≡◌, ◌<◌, ◌≤◌, ℕ, zero, suc, Bool, true, false, ◌&&◌, List, [], ◌∷◌, ◌++◌, map, length, get_or, refl, ap, sym, ◌∙◌, arith}
use Rattle.std.specs.Prelude.{Option, Some, None, codes}
use Rattle.std.proofs.lemmas.List.{append-nil, append_assoc}
use Rattle.text_model.specs.Characters.{Scalar}
use Rattle.editor_model.specs.Arguments.{arg}
use Rattle.editor_model.specs.Values.{Value, Reply, Answered, Refused, Str, GetBufferCreate, SetBuffer, PointAt, PointMax, GotoChar, Insert, ProcessBuffer, ProcessMark, MarkerPosition, SetMarker}
use Rattle.plain_machine.specs.Shipped.{NativeCall, ABuffer, AMarker, ANumber, Anything, is_wanted, Line, line, along, point_back, insert_filter, note_sentinel}
use Rattle.handler_code.specs.Calls.{answer_of}
use Rattle.handler_box.specs.Replies.{are_kept, insert_wanted, note_wanted}

abbrev chosen : Bool → Option NativeCall → Option NativeCall
chosen t next = elim t [ true ↦ next | false ↦ None ]

-- ANY LIST OF CALLS
pub along_unkept : (lines : List Line) (answers : List Value) (past : List Reply) (rest : List Value → List Reply → Option NativeCall) → ((a : List Value) (r : Reply) (rs : List Reply) → rest a (r ∷ rs) ≡ None) → are_kept past (map (λ l. l.wanted) lines) ≡ false → along lines answers past rest ≡ None
along_unkept [] answers [] rest over unkept = cc
along_unkept [] answers (r ∷ past) rest over unkept = over answers r past
along_unkept (l ∷ lines) answers [] rest over unkept = cc
along_unkept (l ∷ lines) answers (Refused f ∷ past) rest over unkept = refl
along_unkept (l ∷ lines) answers (Answered v ∷ past) rest over unkept = go (is_wanted l.wanted v) (along_unkept lines (answers ++ v ∷ []) past rest over) unkept
  where
    go : (t : Bool) → (are_kept past (map (λ l. l.wanted) lines) ≡ false → along lines (answers ++ v ∷ []) past rest ≡ None) → (t && are_kept past (map (λ l. l.wanted) lines)) ≡ false → chosen t (along lines (answers ++ v ∷ []) past rest) ≡ None
    go true later e = later e
    go false later e = refl

pub along_next : (lines : List Line) (answers : List Value) (past : List Reply) (rest : List Value → List Reply → Option NativeCall) (k : ℕ) (d : Line) → are_kept past (map (λ l. l.wanted) lines) ≡ true → length past ≡ k → k < length lines → along lines answers past rest ≡ Some ((get_or lines k d).made (answers ++ map answer_of past))
along_next [] answers past rest k d kept is within = absurd (omega arith)
along_next (l ∷ lines) answers [] rest zero d kept is within = ap (λ a. Some (l.made a)) (sym (append-nil answers))
along_next (l ∷ lines) answers [] rest (suc k) d kept is within = absurd (omega arith)
along_next (l ∷ lines) answers (r ∷ past) rest zero d kept is within = absurd (omega arith)
along_next (l ∷ lines) answers (Refused f ∷ past) rest (suc k) d kept is within = cc
along_next (l ∷ lines) answers (Answered v ∷ past) rest (suc k) d kept is within = go (is_wanted l.wanted v) (λ rest_kept. along_next lines (answers ++ v ∷ []) past rest k d rest_kept (omega arith) (omega arith) ∙ ap (λ a. Some ((get_or lines k d).made a)) (append_assoc answers (v ∷ []) (map answer_of past))) kept
  where
    go : (t : Bool) → (are_kept past (map (λ l. l.wanted) lines) ≡ true → along lines (answers ++ v ∷ []) past rest ≡ Some ((get_or lines k d).made (answers ++ v ∷ map answer_of past))) → (t && are_kept past (map (λ l. l.wanted) lines)) ≡ true → chosen t (along lines (answers ++ v ∷ []) past rest) ≡ Some ((get_or lines k d).made (answers ++ v ∷ map answer_of past))
    go true later e = later e
    go false later e = cc

pub along_end : (lines : List Line) (answers : List Value) (past : List Reply) (rest : List Value → List Reply → Option NativeCall) → are_kept past (map (λ l. l.wanted) lines) ≡ true → length lines ≤ length past → along lines answers past rest ≡ rest (answers ++ map answer_of past) []
along_end [] answers [] rest kept many = ap (λ a. rest a []) (sym (append-nil answers))
along_end [] answers (r ∷ past) rest kept many = cc
along_end (l ∷ lines) answers [] rest kept many = absurd (omega arith)
along_end (l ∷ lines) answers (Refused f ∷ past) rest kept many = cc
along_end (l ∷ lines) answers (Answered v ∷ past) rest kept many = go (is_wanted l.wanted v) (λ rest_kept. along_end lines (answers ++ v ∷ []) past rest rest_kept (omega arith) ∙ ap (λ a. rest a []) (append_assoc answers (v ∷ []) (map answer_of past))) kept
  where
    go : (t : Bool) → (are_kept past (map (λ l. l.wanted) lines) ≡ true → along lines (answers ++ v ∷ []) past rest ≡ rest (answers ++ v ∷ map answer_of past) []) → (t && are_kept past (map (λ l. l.wanted) lines)) ≡ true → chosen t (along lines (answers ++ v ∷ []) past rest) ≡ rest (answers ++ v ∷ map answer_of past) []
    go true later e = later e
    go false later e = cc

-- THE INSERT FILTER
abbrev pub insert_lines : List Value → List Line
insert_lines args =
    line ABuffer (λ a. (ProcessBuffer, arg args 0 ∷ [])) ∷
    line Anything (λ a. (SetBuffer, arg a 0 ∷ [])) ∷
    line ANumber (λ a. (PointAt, [])) ∷
    line AMarker (λ a. (ProcessMark, arg args 0 ∷ [])) ∷
    line ANumber (λ a. (MarkerPosition, arg a 3 ∷ [])) ∷
    line Anything (λ a. (GotoChar, arg a 3 ∷ [])) ∷
    line Anything (λ a. (Insert, arg args 1 ∷ [])) ∷
    line ANumber (λ a. (PointAt, [])) ∷
    line Anything (λ a. (SetMarker, arg a 3 ∷ arg a 7 ∷ arg a 0 ∷ [])) ∷ []

abbrev nothing : Line
nothing = line Anything (λ a. (PointAt, []))

pub insert_unkept : (args : List Value) (past : List Reply) → are_kept past insert_wanted ≡ false → insert_filter args past ≡ None
insert_unkept args past unkept = along_unkept (insert_lines args) [] past point_back (λ a r rs. refl) unkept

pub insert_next : (args : List Value) (past : List Reply) (k : ℕ) → are_kept past insert_wanted ≡ true → length past ≡ k → k < 9 → insert_filter args past ≡ Some ((get_or (insert_lines args) k nothing).made (map answer_of past))
insert_next args past k kept is within = along_next (insert_lines args) [] past point_back k nothing kept is within

pub insert_end : (args : List Value) (past : List Reply) → are_kept past insert_wanted ≡ true → 9 ≤ length past → insert_filter args past ≡ point_back (map answer_of past) []
insert_end args past kept many = along_end (insert_lines args) [] past point_back kept many

-- THE NOTE SENTINEL
abbrev pub note_lines : List Value → List Line
note_lines args =
    line ABuffer (λ a. (GetBufferCreate, Str (map (λ c. (Scalar c, [])) (codes "*events*")) ∷ [])) ∷
    line Anything (λ a. (SetBuffer, arg a 0 ∷ [])) ∷
    line ANumber (λ a. (PointMax, [])) ∷
    line Anything (λ a. (GotoChar, arg a 2 ∷ [])) ∷
    line Anything (λ a. (Insert, arg args 1 ∷ [])) ∷ []

pub note_unkept : (args : List Value) (past : List Reply) → are_kept past note_wanted ≡ false → note_sentinel args past ≡ None
note_unkept args past unkept = along_unkept (note_lines args) [] past (λ answers left. None) (λ a r rs. refl) unkept

pub note_next : (args : List Value) (past : List Reply) (k : ℕ) → are_kept past note_wanted ≡ true → length past ≡ k → k < 5 → note_sentinel args past ≡ Some ((get_or (note_lines args) k nothing).made (map answer_of past))
note_next args past k kept is within = along_next (note_lines args) [] past (λ answers left. None) k nothing kept is within

pub note_end : (args : List Value) (past : List Reply) → are_kept past note_wanted ≡ true → 5 ≤ length past → note_sentinel args past ≡ None
note_end args past kept many = along_end (note_lines args) [] past (λ answers left. None) kept many
