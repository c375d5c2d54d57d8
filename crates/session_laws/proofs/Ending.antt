-- The sentinel of a session: it closes the last line, and starts the child again.
use Rattle.std.proofs.Common.{◌≡◌, ℕ, ◌≤◌, Bool, true, false, ◌&&◌, not, List, [], ◌∷◌, ◌++◌, length, map, refl, ap, ◌∙◌}
use Rattle.std.specs.Prelude.{nat_lt, pos, slice_get, if◌then◌else◌, Some, None}
use Rattle.text_model.specs.Characters.{Ch, Scalar}
use Rattle.text_model.specs.Properties.{bare}
use Rattle.editor_model.specs.Values.{Value, Nil, T, Int, Str, TheBuffer, TheProcess, at_place, Reply, Answered, Refused, WrongType, BufferFull, CharAfter, Insert, StartProcess, ProcessFilter, ProcessSentinel}
use Rattle.editor_model.specs.TextCalls.{code_value, char_at_position}
use Rattle.editor_model.specs.Arguments.{has_room}
use Rattle.editor_model.specs.Limits.{longest_text}
use Rattle.plain_machine.specs.State.{Process, Program}
use Rattle.plain_machine.specs.Arguments.{filter_value, sentinel_value}
use Rattle.plain_machine.specs.Items.{Item, GiveAnswer, MakeCall, Native, Called, ToNative, Config}
use Rattle.plain_machine.specs.Natives.{normal, is_callable}
use Rattle.plain_machine.specs.Calls.{on, told_of_one}
use Rattle.plain_machine.specs.Run.{stays, goes, Fine}
use Rattle.plain_machine.proofs.Composed.{native_refused, native_done}
use Rattle.line_session.specs.Handlers.{in_turn, nothing, start_again, close_line, restart, is_finished, has_restarts}
use Rattle.line_session.specs.Lines.{is_open}
use Rattle.session_laws.specs.Standing.{Parts, session_program, gathering, editor_with, inside}
use Rattle.session_laws.proofs.Calling.{asks_only, concerns, changes, barred}
use Rattle.session_laws.proofs.Inserting.{at_end, put_behind, puts}
use Rattle.session_laws.proofs.Closing.{before_end, finds_open}
use Rattle.session_laws.proofs.Filtering.{pointed, stopped, prepared_by, Leads, done_in, native_makes, calls_then, ends_there, to_the_end, stops}

-- STARTING AGAIN, behind replies by which the native has come so far
module _ (limit : ℕ) (command : List Value) (bound : ℕ) (parts : Parts) (p : ℕ) (x : Process) (at : slice_get parts.processes p ≡ Some x) (made : nat_lt p (length parts.processes) ≡ true) (how : Value) where
  abbrev program : Program
  program = session_program limit command

  abbrev args : List Value
  args = TheProcess p ∷ how ∷ []

  abbrev restarts : Bool
  restarts = not (is_finished how) && has_restarts limit (TheProcess p)

  pub starts_no_more : (past : List Reply) → restarts ≡ false → nat_lt (length past) 256 ≡ true → program.does 1 args past ≡ restart limit command (TheProcess p) how [] → Leads program bound (Native 1 args past) (inside 1 parts) (done_in (inside 1 parts))
  starts_no_more past spent room does = ends_there program bound 1 args past (inside 1 parts) room (does ∙ ap (λ b. if b then in_turn (start_again command (TheProcess p)) [] nothing else None) spent)

  -- with the replies to the two questions before
  abbrev asked_filter : List Reply → List Reply
  asked_filter past = past ++ Answered (filter_value x.filter) ∷ []

  abbrev asked_both : List Reply → List Reply
  asked_both past = asked_filter past ++ Answered (sentinel_value x.sentinel) ∷ []

  -- where that start stands
  abbrev starting : (past : List Reply) → List Item → Config
  starting past rest = record { state = inside 1 parts; work = MakeCall StartProcess (map normal command) ToNative ∷ Called 1 args (asked_both past) ∷ rest }

  -- the two questions
  abbrev again : Type 0
  again = restarts ≡ true

  listed_again : again → (replies : List Reply) → restart limit command (TheProcess p) how replies ≡ in_turn (start_again command (TheProcess p)) replies nothing
  listed_again more replies = ap (λ b. if b then in_turn (start_again command (TheProcess p)) replies nothing else None) more

  pub asks_both : (past : List Reply) (to : List Item → Config) → restarts ≡ true → nat_lt (length past) 256 ≡ true → nat_lt (length (asked_filter past)) 256 ≡ true →
      program.does 1 args past ≡ restart limit command (TheProcess p) how [] →
      program.does 1 args (asked_filter past) ≡ restart limit command (TheProcess p) how (Answered (filter_value x.filter) ∷ []) →
      Leads program bound (Native 1 args (asked_both past)) (inside 1 parts) to → Leads program bound (Native 1 args past) (inside 1 parts) to
  asks_both past to more room0 room1 does0 does1 behind =
      calls_then program bound 1 args past (ProcessFilter, TheProcess p ∷ []) (inside 1 parts) (inside 1 parts) _ (Answered (filter_value x.filter)) to room0 (does0 ∙ listed_again more []) (rw made refl)
      (concerns program bound ProcessFilter (TheProcess p ∷ []) (inside 1 parts) (inside 1 parts) (filter_value x.filter) refl refl (λ target rest. ap (λ o. on (inside 1 parts) (GiveAnswer (told_of_one ProcessFilter o) target ∷ rest)) at))
      (calls_then program bound 1 args (asked_filter past) (ProcessSentinel, TheProcess p ∷ []) (inside 1 parts) (inside 1 parts) _ (Answered (sentinel_value x.sentinel)) to room1 (does1 ∙ listed_again more (Answered (filter_value x.filter) ∷ [])) (rw made refl)
      (concerns program bound ProcessSentinel (TheProcess p ∷ []) (inside 1 parts) (inside 1 parts) (sentinel_value x.sentinel) refl refl (λ target rest. ap (λ o. on (inside 1 parts) (GiveAnswer (told_of_one ProcessSentinel o) target ∷ rest)) at))
      behind)

  abbrev DoesBoth : List Reply → Type 0
  DoesBoth past = program.does 1 args (asked_both past) ≡ restart limit command (TheProcess p) how (Answered (filter_value x.filter) ∷ Answered (sentinel_value x.sentinel) ∷ [])

  does_start : (past : List Reply) → restarts ≡ true → DoesBoth past → program.does 1 args (asked_both past) ≡ Some (StartProcess, command)
  does_start past more does2 = does2 ∙ listed_again more (Answered (filter_value x.filter) ∷ Answered (sentinel_value x.sentinel) ∷ [])

  -- the start of the child is the next call
  pub starts_again : (past : List Reply) → restarts ≡ true → is_callable program (inside 1 parts) (StartProcess, command) ≡ true → nat_lt (length (asked_both past)) 256 ≡ true → DoesBoth past →
      Leads program bound (Native 1 args (asked_both past)) (inside 1 parts) (starting past)
  starts_again past more callable room2 does2 = record {
    said = [];
    way = λ rest. goes (native_makes program bound 1 args (asked_both past) (StartProcess, command) (inside 1 parts) rest room2 (does_start past more does2) callable) stays;
  }

  -- one that no script might make is refused
  pub start_barred : (past : List Reply) → restarts ≡ true → is_callable program (inside 1 parts) (StartProcess, command) ≡ false → nat_lt (length (asked_both past)) 256 ≡ true → DoesBoth past →
      nat_lt (length (asked_both past ++ Refused WrongType ∷ [])) 256 ≡ true → program.does 1 args (asked_both past ++ Refused WrongType ∷ []) ≡ None →
      Leads program bound (Native 1 args (asked_both past)) (inside 1 parts) (done_in (inside 1 parts))
  start_barred past more barred room2 does2 room3 does3 = record {
    said = _;
    way = native_refused program bound 1 args (asked_both past) (StartProcess, command) (inside 1 parts) [] [] (Fine (inside 1 parts)) room2 (does_start past more does2) barred
        (native_done program bound 1 args (asked_both past ++ Refused WrongType ∷ []) (inside 1 parts) room3 does3);
  }

-- CLOSING THE LAST LINE
module _ (limit : ℕ) (command : List Value) (bound : ℕ) (parts : Parts) (p : ℕ) (x : Process) (at : slice_get parts.processes p ≡ Some x) (made : nat_lt p (length parts.processes) ≡ true) (buffer : x.buffer ≡ Some 1) (how : Value) (small : length parts.text ≤ longest_text) where
  abbrev told : List Value
  told = TheProcess p ∷ how ∷ []

  abbrev n : ℕ
  n = length parts.text

  abbrev last : Value
  last = code_value (char_at_position (gathering (pointed parts)) n)

  abbrev there : List Reply
  there = Answered (TheBuffer 1) ∷ Answered (TheBuffer 1) ∷ Answered (at_place n) ∷ Answered (at_place n) ∷ []

  abbrev seen : List Reply
  seen = Answered (TheBuffer 1) ∷ Answered (TheBuffer 1) ∷ Answered (at_place n) ∷ Answered (at_place n) ∷ Answered last ∷ []

  abbrev feed : List Ch
  feed = Scalar 10 ∷ []

  -- up to the last character
  looks : (to : List Item → Config) → Leads (session_program limit command) bound (Native 1 told seen) (inside 1 (pointed parts)) to → Leads (session_program limit command) bound (Native 1 told []) (inside 0 parts) to
  looks to behind =
      to_the_end limit command bound parts p x at made how 1 to buffer refl refl refl refl
      (calls_then (session_program limit command) bound 1 told there (CharAfter, Int (pos n) ∷ []) (inside 1 (pointed parts)) (inside 1 (pointed parts)) _ (Answered last) to refl (ap (λ b. Some (CharAfter, b ∷ [])) (before_end n small)) refl
      (asks_only (session_program limit command) bound CharAfter (Int (pos n) ∷ []) (inside 1 (pointed parts)) last refl refl)
      behind)

  -- what it does behind that, by whether the last line is open
  pub by_open : (b : Bool) → is_open parts.text ≡ b → (replies : List Reply) → (session_program limit command).does 1 told (seen ++ replies) ≡ (if b then close_line limit command (TheProcess p) how replies else restart limit command (TheProcess p) how replies)
  by_open b is replies = ap (λ o. if o then close_line limit command (TheProcess p) how replies else restart limit command (TheProcess p) how replies) (finds_open (pointed parts) ∙ is)

  -- a closed line is left
  pub leaves_closed : is_open parts.text ≡ false → (to : List Item → Config) → Leads (session_program limit command) bound (Native 1 told seen) (inside 1 (pointed parts)) to → Leads (session_program limit command) bound (Native 1 told []) (inside 0 parts) to
  leaves_closed is to behind = looks to behind

  -- an open one is closed where there is room for a line feed
  pub closes : is_open parts.text ≡ true → has_room (editor_with 1 (pointed parts)) 1 1 ≡ true → (to : List Item → Config) →
      Leads (session_program limit command) bound (Native 1 told (seen ++ Answered Nil ∷ [])) (inside 1 (put_behind (pointed parts) feed)) to → Leads (session_program limit command) bound (Native 1 told []) (inside 0 parts) to
  closes is room to behind = looks to
      (calls_then (session_program limit command) bound 1 told seen (Insert, Str (bare feed) ∷ []) (inside 1 (pointed parts)) (inside 1 (put_behind (pointed parts) feed)) _ (Answered Nil) to refl (by_open true is []) refl
      (changes (session_program limit command) bound Insert (Str (bare feed) ∷ []) (inside 1 (pointed parts)) (inside 1 (put_behind (pointed parts) feed)) (at_end (pointed parts) feed) [] refl (prepared_by parts feed true room)
      (puts (session_program limit command) bound (pointed parts) (Scalar 10) [] room))
      behind)

  -- else the process is stopped, and the native is done
  pub gives_up : is_open parts.text ≡ true → has_room (editor_with 1 (pointed parts)) 1 1 ≡ false →
      Leads (session_program limit command) bound (Native 1 told []) (inside 0 parts) (done_in (inside 1 (stopped p x (pointed parts))))
  gives_up is room =
      let to : List Item → Config = done_in (inside 1 (stopped p x (pointed parts))) in
      looks to
      (calls_then (session_program limit command) bound 1 told seen (Insert, Str (bare feed) ∷ []) (inside 1 (pointed parts)) (inside 1 (pointed parts)) _ (Refused BufferFull) to refl (by_open true is []) refl
      (barred (session_program limit command) bound Insert (Str (bare feed) ∷ []) (inside 1 (pointed parts)) BufferFull refl (prepared_by parts feed false room))
      (stops limit command bound parts p x at made buffer 1 told (seen ++ Refused BufferFull ∷ []) to refl (by_open true is (Refused BufferFull ∷ []))
      (ends_there (session_program limit command) bound 1 told _ (inside 1 (stopped p x (pointed parts))) refl (by_open true is (Refused BufferFull ∷ Answered T ∷ [])))))
