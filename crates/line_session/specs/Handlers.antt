-- The two natives of a session, each a list of calls: its filter puts the text of a child at the end of the
-- session's buffer; its sentinel closes the last line there, and starts the child again.
use Rattle.std.specs.Prelude.{ℕ, zero, suc, ℤ, pos, ◌-ℤ◌, Bool, false, ◌&&◌, not, nat_lt, List, [], ◌∷◌}
use Rattle.std.specs.Prelude.{◌++◌, map, codes, if◌then◌else◌, Option, Some, None}
use Rattle.std.specs.Ordering.{int_eq}
use Rattle.text_model.specs.Characters.{Scalar}
use Rattle.editor_model.specs.Values.{Value, Nil, T, Int, TheProcess, equal, plain, Reply, Answered}
use Rattle.editor_model.specs.Values.{Refused, SetBuffer, PointMax, GotoChar, CharAfter, Insert}
use Rattle.editor_model.specs.Values.{StartProcess, ProcessBuffer, ProcessFilter, ProcessSentinel}
use Rattle.editor_model.specs.Values.{SetProcessFilter, SetProcessSentinel}
use Rattle.editor_model.specs.Arguments.{arg}
use Rattle.plain_machine.specs.Shipped.{NativeCall, line, Anything, along, is_i64}

abbrev pub ascii : List ℕ → Value
ascii bytes = plain (map Scalar bytes)

-- A list of calls, each as the answers so far make it, whatever they are: done at a fault. What is called
-- behind the list goes by its answers and the replies that are left.
abbrev pub Calls : Type 0
Calls = List (List Value → NativeCall)

abbrev pub in_turn : Calls → List Reply → (List Value → List Reply → Option NativeCall) → Option NativeCall
in_turn calls past after = along (map (line Anything) calls) [] past after

abbrev pub nothing : List Value → List Reply → Option NativeCall
nothing answers left = None

-- to the end of the buffer of process p
abbrev pub to_the_end : (p : Value) → Calls
to_the_end p =
    (λ a. (ProcessBuffer, p ∷ [])) ∷
    (λ a. (SetBuffer, arg a 0 ∷ [])) ∷
    (λ a. (PointMax, [])) ∷
    (λ a. (GotoChar, arg a 2 ∷ [])) ∷ []

-- nothing more is read from process p
abbrev pub stop : (p : Value) → List Reply → Option NativeCall
stop p [] = Some (SetProcessFilter, p ∷ T ∷ [])
stop p (r ∷ left) = None

-- a text goes in; where it is refused, the process is stopped
abbrev pub put_or_stop : (p text : Value) → (after : List Reply → Option NativeCall) → List Reply →
    Option NativeCall
put_or_stop p text after [] = Some (Insert, text ∷ [])
put_or_stop p text after (Answered v ∷ left) = after left
put_or_stop p text after (Refused f ∷ left) = stop p left

abbrev pub session_filter : (p text : Value) → List Reply → Option NativeCall
session_filter p text past =
    in_turn (to_the_end p) past (λ answers left. put_or_stop p text (λ behind. None) left)

-- THE SENTINEL
-- the position in front of another
abbrev pub number_before : ℤ → Value
number_before i = if is_i64 (i -ℤ pos 1) then Int (i -ℤ pos 1) else Nil

abbrev pub before : Value → Value
before (Int i) = number_before i
before _ = Nil

-- to the end, and then what the last character is
abbrev pub to_the_last : (p : Value) → Calls
to_the_last p = to_the_end p ++ (λ a. (CharAfter, before (arg a 2) ∷ [])) ∷ []

-- a character that is no line feed
abbrev pub leaves_open : (last : Value) → Bool
leaves_open (Int code) = not (int_eq code (pos 10))
leaves_open _ = false

-- processes are numbered by their starts, so the number of one is the count of restarts before it ended
abbrev pub has_restarts : (limit : ℕ) → (p : Value) → Bool
has_restarts limit (TheProcess k) = nat_lt k limit
has_restarts limit _ = false

-- what a sentinel is told where the child ended with code 0
abbrev pub is_finished : (how : Value) → Bool
is_finished how = equal how (ascii (codes "finished\n"))

-- once more, with the filter and the sentinel of p
abbrev pub start_again : (command : List Value) → (p : Value) → Calls
start_again command p =
    (λ a. (ProcessFilter, p ∷ [])) ∷
    (λ a. (ProcessSentinel, p ∷ [])) ∷
    (λ a. (StartProcess, command)) ∷
    (λ a. (SetProcessFilter, arg a 2 ∷ arg a 0 ∷ [])) ∷
    (λ a. (SetProcessSentinel, arg a 2 ∷ arg a 1 ∷ [])) ∷ []

abbrev pub restart : (limit : ℕ) → (command : List Value) → (p how : Value) → List Reply → Option NativeCall
restart limit command p how past =
    if not (is_finished how) && has_restarts limit p then in_turn (start_again command p) past nothing else None

-- the last line is closed before that
abbrev pub close_line : (limit : ℕ) → (command : List Value) → (p how : Value) → List Reply → Option NativeCall
close_line limit command p how past = put_or_stop p (ascii (codes "\n")) (restart limit command p how) past

abbrev pub behind_last : (limit : ℕ) → (command : List Value) → (p how last : Value) → List Reply →
    Option NativeCall
behind_last limit command p how last past =
    if leaves_open last then close_line limit command p how past else restart limit command p how past

abbrev pub session_sentinel : (limit : ℕ) → (command : List Value) → (p how : Value) → List Reply →
    Option NativeCall
session_sentinel limit command p how past =
    in_turn (to_the_last p) past (λ answers left. behind_last limit command p how (arg answers 4) left)

-- BOTH
abbrev pub session_names : List (List ℕ)
session_names = codes "session-filter" ∷ codes "session-sentinel" ∷ []

abbrev pub session_does : (limit : ℕ) → (command : List Value) → ℕ → List Value → List Reply → Option NativeCall
session_does limit command zero args past = session_filter (arg args 0) (arg args 1) past
session_does limit command (suc zero) args past = session_sentinel limit command (arg args 0) (arg args 1) past
session_does limit command (suc (suc i)) args past = None
