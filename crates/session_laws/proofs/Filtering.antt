-- The filter of a session: it puts its text at the end, or stops its process.
use Rattle.std.proofs.Common.{◌≡◌, ℕ, zero, suc, ◌+◌, ◌-◌, Bool, true, false, List, [], ◌∷◌, ◌++◌, length, map, refl, sym, ap, ap₂, ◌∙◌, arith, ◌⊎◌, inl, inr}
use Rattle.std.specs.Prelude.{◌&&◌, ◌==◌, nat_le, nat_lt, slice_get, slice_set, if◌then◌else◌, Option, Some, None, option_map}
use Rattle.std.specs.List.{list_all}
use Rattle.std.proofs.lemmas.Bool.{lt-ltb}
use Rattle.std.proofs.lemmas.Option.{slice_get_within}
use Rattle.std.proofs.lemmas.List.{length-map}
use Rattle.text_model.specs.Characters.{Ch}
use Rattle.text_model.specs.Properties.{Cell, PropSet, bare}
use Rattle.text_model.specs.Sticky.{inherited}
use Rattle.text_model.specs.Places.{clip}
use Rattle.editor_model.specs.Values.{Value, Fault, Nil, T, Str, TheBuffer, TheProcess, at_place, Reply, Answered, Refused, Prim, BufferFull, ProcessBuffer, SetBuffer, PointMax, GotoChar, Insert, SetProcessFilter}
use Rattle.editor_model.specs.Answers.{Applied, Prepared, refuse, first_fault, prepared, prepared_of}
use Rattle.editor_model.specs.Arguments.{has_room, must_have_room}
use Rattle.editor_model.specs.BufferCalls.{buffer_value}
use Rattle.editor_model.specs.TextCalls.{with_inherited, insertion, takes_no_text, must_take_text}
use Rattle.editor_model.specs.ReadOnly.{bars, is_tested, must_be_writable}
use Rattle.editor_model.specs.Table.{apply, prepare}
use Rattle.plain_machine.specs.State.{State, Process, Program, Off, process, change_process}
use Rattle.plain_machine.specs.Lines.{OfFilter}
use Rattle.plain_machine.specs.Items.{Item, GiveAnswer, MakeCall, Native, Called, ToNative, Config, Said}
use Rattle.plain_machine.specs.Natives.{normal, is_callable, set_was_made}
use Rattle.plain_machine.specs.Calls.{on, told_of_one, with_filter}
use Rattle.plain_machine.specs.Handling.{native, native_call}
use Rattle.plain_machine.specs.Run.{Reaches, goes, given, Calls, Handles}
use Rattle.plain_machine.proofs.Composed.{reaches_then, native_done, native_handler}
use Rattle.line_session.specs.Script.{filter_name}
use Rattle.session_laws.specs.Standing.{Parts, session_program, editor_with, outside, inside}
use Rattle.session_laws.specs.Filtering.{FilterPuts, FilterStops}
use Rattle.session_laws.proofs.Calling.{asks_only, sets, concerns, changes, barred}
use Rattle.session_laws.proofs.Inserting.{inherits_nothing, piece_is, at_end, put_behind, puts}

-- point at the end
abbrev pub pointed : Parts → Parts
pointed parts = record parts { point = length parts.text }

goes_to_end : (n : ℕ) → clip 0 n (n + 1 - 1) ≡ n
goes_to_end n = omega arith

pub goto_is : (parts : Parts) → apply (editor_with 1 parts) GotoChar (at_place (length parts.text) ∷ []) ≡ record { editor = editor_with 1 (pointed parts); reply = Answered (at_place (length parts.text)) }
goto_is parts =
    let to : ℕ → Applied = λ k. record { editor = editor_with 1 (record parts { point = k }); reply = Answered (at_place (length parts.text)) } in
    ap to (goes_to_end (length parts.text))

-- NO PROPERTIES ARE INHERITED
abbrev IsBare : Option PropSet → Type 0
IsBare o = (o ≡ None) ⊎ (o ≡ Some [])

abbrev set_at : Option Cell → Option PropSet
set_at o = option_map (λ c. c.1) o

bare_at : (text : List Ch) (k : ℕ) → IsBare (set_at (slice_get (bare text) k))
bare_at [] k = inl refl
bare_at (c ∷ text) zero = inr refl
bare_at (c ∷ text) (suc k) = bare_at text k

bare_where : (b : Bool) (o : Option Cell) → IsBare (set_at o) → IsBare (set_at (if b then o else None))
bare_where true o h = h
bare_where false o h = inl refl

bare_unless : (b : Bool) (o : Option Cell) → IsBare (set_at o) → IsBare (set_at (if b then None else o))
bare_unless true o h = inl refl
bare_unless false o h = h

bars_none : (a b : Option PropSet) → IsBare a → IsBare b → bars (inherited a b) ≡ false
bars_none a b (inl h) (inl k) = ap₂ (λ a b. bars (inherited a b)) h k
bars_none a b (inl h) (inr k) = ap₂ (λ a b. bars (inherited a b)) h k
bars_none a b (inr h) (inl k) = ap₂ (λ a b. bars (inherited a b)) h k
bars_none a b (inr h) (inr k) = ap₂ (λ a b. bars (inherited a b)) h k

takes_text : (parts : Parts) → takes_no_text (editor_with 1 (pointed parts)) 1 (length parts.text) ≡ false
takes_text parts =
    let n : ℕ = length parts.text in
    bars_none _ _
    (bare_unless (n == 0) _ (bare_where (nat_le 0 (n - 1) && nat_lt (n - 1) n) _ (bare_at parts.text (n - 1))))
    (bare_where (nat_le 0 n && nat_lt n n) _ (bare_at parts.text n))

writable : (tested : Bool) → must_be_writable tested false false ≡ None
writable true = refl
writable false = refl

-- a piece is prepared by whether there is room
pub prepared_by : (parts : Parts) (piece : List Ch) (b : Bool) → has_room (editor_with 1 (pointed parts)) 1 (length (bare piece)) ≡ b →
    prepare (editor_with 1 (pointed parts)) Insert (Str (bare piece) ∷ []) ≡ prepared_of (first_fault (None ∷ refuse BufferFull b ∷ [])) (insertion 1 (length parts.text) (bare piece) false)
prepared_by parts piece b room =
    let e = editor_with 1 (pointed parts) in
    let by : List Cell → List Cell → Prepared = λ l m. prepared (None ∷ must_take_text e (length l) ∷ must_have_room e 1 (length l) ∷ []) (insertion 1 (length parts.text) m false) in
    let test : Option Fault = must_take_text e (length (bare piece)) in
    let free : test ≡ None = ap (λ b. must_be_writable (is_tested e (nat_lt 0 (length (bare piece)))) false b) (takes_text parts) ∙ writable (is_tested e (nat_lt 0 (length (bare piece)))) in
    ap (λ l. by l (with_inherited [] l)) (piece_is piece) ∙ ap (by (bare piece)) (inherits_nothing piece)
    ∙ ap₂ (λ t r. prepared_of (first_fault (None ∷ t ∷ refuse BufferFull r ∷ [])) (insertion 1 (length parts.text) (bare piece) false)) free room

-- It goes from an item to this, in front of any rest. It asks nothing, whatever it says.
pub record Leads (program : Program) (bound : ℕ) (item : Item) (s : State) (to : List Item → Config) : Type 0 where
  pub said : List Said
  pub way : (rest : List Item) → Reaches program bound (record { state = s; work = item ∷ rest }) [] said (to rest)

-- the item is done
abbrev pub done_in : State → List Item → Config
done_in t rest = record { state = t; work = rest }

pub changes_one : (s : State) (p : ℕ) (f : Process → Process) (x : Process) → process s p ≡ Some x → change_process p f s ≡ record s { processes = slice_set s.processes p (f x) }
changes_one s p f x e = rw (e, change_process) refl

-- a native makes its call
pub native_makes : (program : Program) (bound i : ℕ) (args : List Value) (past : List Reply) (c : Prim × List Value) (s : State) (rest : List Item) → nat_lt (length past) 256 ≡ true → program.does i args past ≡ Some c → is_callable program s c ≡ true →
    native program s i args past rest ≡ on s (MakeCall c.0 (map normal c.1) ToNative ∷ Called i args past ∷ rest)
native_makes program bound i args past c s rest room does callable = rw (room, does, native, callable, native_call) refl

-- a call, and what the native does behind it
pub calls_then : (program : Program) (bound i : ℕ) (args : List Value) (past : List Reply) (c : Prim × List Value) (s t : State) (said : List Said) (reply : Reply) (to : List Item → Config) →
    nat_lt (length past) 256 ≡ true → program.does i args past ≡ Some c → is_callable program s c ≡ true →
    Calls program bound c.0 (map normal c.1) s [] said reply t → Leads program bound (Native i args (past ++ reply ∷ [])) t to → Leads program bound (Native i args past) s to
calls_then program bound i args past c s t said reply to room does callable h k = record { said = said ++ k.said; way = λ rest. goes (native_makes program bound i args past c s rest room does callable) (reaches_then program bound _ _ _ [] [] said k.said (replied reply rest (h ToNative (Called i args past ∷ rest))) (k.way rest)) }
  where
    replied : (reply : Reply) (rest : List Item) → Reaches program bound (record { state = s; work = MakeCall c.0 (map normal c.1) ToNative ∷ Called i args past ∷ rest }) [] said (given reply ToNative t (Called i args past ∷ rest)) →
        Reaches program bound (record { state = s; work = MakeCall c.0 (map normal c.1) ToNative ∷ Called i args past ∷ rest }) [] said (record { state = t; work = Native i args (past ++ reply ∷ []) ∷ rest })
    replied (Answered v) rest r = r
    replied (Refused f) rest r = r

-- the native is done
pub ends_there : (program : Program) (bound i : ℕ) (args : List Value) (past : List Reply) (s : State) → nat_lt (length past) 256 ≡ true → program.does i args past ≡ None → Leads program bound (Native i args past) s (done_in s)
ends_there program bound i args past s room does = record { said = []; way = native_done program bound i args past s room does }

module _ (limit : ℕ) (command : List Value) (bound : ℕ) (parts : Parts) (p : ℕ) (x : Process) (at : slice_get parts.processes p ≡ Some x) (made : nat_lt p (length parts.processes) ≡ true) (text : Value) where
  abbrev program : Program
  program = session_program limit command

  abbrev q : Value
  q = TheProcess p

  abbrev args : List Value
  args = q ∷ text ∷ []

  abbrev n : ℕ
  n = length parts.text

  -- what both natives are answered first
  abbrev there : List Reply
  there = Answered (TheBuffer 1) ∷ Answered (TheBuffer 1) ∷ Answered (at_place n) ∷ Answered (at_place n) ∷ []

  process_made : is_callable program (inside 0 parts) (ProcessBuffer, q ∷ []) ≡ true
  process_made = rw made refl

  -- both go to the end of the buffer
  pub to_the_end : (i : ℕ) (to : List Item → Config) → x.buffer ≡ Some 1 →
      program.does i args [] ≡ Some (ProcessBuffer, q ∷ []) → program.does i args (Answered (TheBuffer 1) ∷ []) ≡ Some (SetBuffer, TheBuffer 1 ∷ []) →
      program.does i args (Answered (TheBuffer 1) ∷ Answered (TheBuffer 1) ∷ []) ≡ Some (PointMax, []) → program.does i args (Answered (TheBuffer 1) ∷ Answered (TheBuffer 1) ∷ Answered (at_place n) ∷ []) ≡ Some (GotoChar, at_place n ∷ []) →
      Leads program bound (Native i args there) (inside 1 (pointed parts)) to → Leads program bound (Native i args []) (inside 0 parts) to
  to_the_end i to buffer first second third fourth behind =
      calls_then program bound i args [] (ProcessBuffer, q ∷ []) (inside 0 parts) (inside 0 parts) _ (Answered (TheBuffer 1)) to refl first process_made
      (concerns program bound ProcessBuffer (q ∷ []) (inside 0 parts) (inside 0 parts) (TheBuffer 1) refl refl (λ target rest. ap (λ o. on (inside 0 parts) (GiveAnswer (told_of_one ProcessBuffer o) target ∷ rest)) at ∙ ap (λ b. on (inside 0 parts) (GiveAnswer (buffer_value b) target ∷ rest)) buffer))
      (calls_then program bound i args (Answered (TheBuffer 1) ∷ []) (SetBuffer, TheBuffer 1 ∷ []) (inside 0 parts) (inside 1 parts) _ (Answered (TheBuffer 1)) to refl second refl
      (sets program bound SetBuffer (TheBuffer 1 ∷ []) (inside 0 parts) (editor_with 1 parts) (TheBuffer 1) refl refl)
      (calls_then program bound i args (Answered (TheBuffer 1) ∷ Answered (TheBuffer 1) ∷ []) (PointMax, []) (inside 1 parts) (inside 1 parts) _ (Answered (at_place n)) to refl third refl
      (asks_only program bound PointMax [] (inside 1 parts) (at_place n) refl refl)
      (calls_then program bound i args (Answered (TheBuffer 1) ∷ Answered (TheBuffer 1) ∷ Answered (at_place n) ∷ []) (GotoChar, at_place n ∷ []) (inside 1 parts) (inside 1 (pointed parts)) _ (Answered (at_place n)) to refl fourth refl
      (sets program bound GotoChar (at_place n ∷ []) (inside 1 parts) (editor_with 1 (pointed parts)) (at_place n) refl (goto_is parts))
      behind)))

-- nothing more is read from a process
abbrev pub stopped : (p : ℕ) → Process → Parts → Parts
stopped p x parts = record parts { processes = slice_set parts.processes p (with_filter Off x) }

module _ (limit : ℕ) (command : List Value) (bound : ℕ) (parts : Parts) (p : ℕ) (x : Process) (at : slice_get parts.processes p ≡ Some x) (made : nat_lt p (length parts.processes) ≡ true) (buffer : x.buffer ≡ Some 1) where
  -- a process is stopped by a native
  pub stops : (i : ℕ) (args : List Value) (past : List Reply) (to : List Item → Config) → nat_lt (length past) 256 ≡ true → (session_program limit command).does i args past ≡ Some (SetProcessFilter, TheProcess p ∷ T ∷ []) →
      Leads (session_program limit command) bound (Native i args (past ++ Answered T ∷ [])) (inside 1 (stopped p x (pointed parts))) to → Leads (session_program limit command) bound (Native i args past) (inside 1 (pointed parts)) to
  stops i args past to room does behind =
      calls_then (session_program limit command) bound i args past (SetProcessFilter, TheProcess p ∷ T ∷ []) (inside 1 (pointed parts)) (inside 1 (stopped p x (pointed parts))) _ (Answered T) to room does (rw made refl)
      (concerns (session_program limit command) bound SetProcessFilter (TheProcess p ∷ T ∷ []) (inside 1 (pointed parts)) (inside 1 (stopped p x (pointed parts))) T refl refl
      (λ target rest. ap (λ (u : State). on u (GiveAnswer T target ∷ rest)) (changes_one (inside 1 (pointed parts)) p (with_filter Off) x at)))
      behind

module _ (limit : ℕ) (command : List Value) (bound : ℕ) (parts : Parts) (p : ℕ) (x : Process) (at : slice_get parts.processes p ≡ Some x) (made : nat_lt p (length parts.processes) ≡ true) (buffer : x.buffer ≡ Some 1) (c : Ch) (more : List Ch) where
  abbrev piece : List Ch
  piece = c ∷ more

  abbrev told_args : List Value
  told_args = TheProcess p ∷ Str (bare piece) ∷ []

  abbrev room_is : Bool → Type 0
  room_is b = has_room (editor_with 1 (pointed parts)) 1 (length (bare piece)) ≡ b

  nothing_held : (text : List Ch) → list_all (λ (d : Cell). set_was_made (session_program limit command) d.1) (bare text) ≡ true
  nothing_held [] = refl
  nothing_held (d ∷ text) = nothing_held text

  insert_made : is_callable (session_program limit command) (inside 1 (pointed parts)) (Insert, Str (bare piece) ∷ []) ≡ true
  insert_made = rw (nothing_held more) refl

  -- where there is room, the text goes in at the end
  filter_puts : room_is true → Leads (session_program limit command) bound (Native 0 told_args []) (inside 0 parts) (done_in (inside 1 (put_behind (pointed parts) piece)))
  filter_puts room =
      to_the_end limit command bound parts p x at made (Str (bare piece)) 0 _ buffer refl refl refl refl
      (calls_then (session_program limit command) bound 0 told_args _ (Insert, Str (bare piece) ∷ []) (inside 1 (pointed parts)) (inside 1 (put_behind (pointed parts) piece)) _ (Answered Nil) _ refl refl insert_made
      (changes (session_program limit command) bound Insert (Str (bare piece) ∷ []) (inside 1 (pointed parts)) (inside 1 (put_behind (pointed parts) piece)) (at_end (pointed parts) piece) [] refl (prepared_by parts piece true room)
      (puts (session_program limit command) bound (pointed parts) c more room))
      (ends_there (session_program limit command) bound 0 told_args _ (inside 1 (put_behind (pointed parts) piece)) refl refl))

  -- else the process is stopped
  filter_gives_up : room_is false → Leads (session_program limit command) bound (Native 0 told_args []) (inside 0 parts) (done_in (inside 1 (stopped p x (pointed parts))))
  filter_gives_up room =
      to_the_end limit command bound parts p x at made (Str (bare piece)) 0 _ buffer refl refl refl refl
      (calls_then (session_program limit command) bound 0 told_args _ (Insert, Str (bare piece) ∷ []) (inside 1 (pointed parts)) (inside 1 (pointed parts)) _ (Refused BufferFull) _ refl refl insert_made
      (barred (session_program limit command) bound Insert (Str (bare piece) ∷ []) (inside 1 (pointed parts)) BufferFull refl (prepared_by parts piece false room))
      (stops limit command bound parts p x at made buffer 0 told_args _ _ refl refl
      (ends_there (session_program limit command) bound 0 told_args _ (inside 1 (stopped p x (pointed parts))) refl refl)))

  -- the whole handler, by whether there is room
  filter_handles : (after : Parts) → Leads (session_program limit command) bound (Native 0 told_args []) (inside 0 parts) (done_in (inside 1 after)) →
      (said : List Said) × Handles (session_program limit command) bound (OfFilter p) (Some filter_name) told_args (outside parts) [] said false (outside after)
  filter_handles after g = (_, native_handler (session_program limit command) bound (OfFilter p) filter_name told_args (outside parts) (inside 1 after) [] g.said refl g.way)

  pub filter_heard : room_is true → (said : List Said) × Handles (session_program limit command) bound (OfFilter p) (Some filter_name) told_args (outside parts) [] said false (outside (put_behind (pointed parts) piece))
  filter_heard room = filter_handles (put_behind (pointed parts) piece) (filter_puts room)

  pub filter_full : room_is false → (said : List Said) × Handles (session_program limit command) bound (OfFilter p) (Some filter_name) told_args (outside parts) [] said false (outside (stopped p x (pointed parts)))
  filter_full room = filter_handles (stopped p x (pointed parts)) (filter_gives_up room)

-- THE LAWS
made_one : (parts : Parts) (p : ℕ) (x : Process) → slice_get parts.processes p ≡ Some x → nat_lt p (length parts.processes) ≡ true
made_one parts p x at = lt-ltb p (length parts.processes) (slice_get_within parts.processes p x at)

same_room : (parts : Parts) (piece : List Ch) (b : Bool) → has_room (editor_with 1 parts) 1 (length piece) ≡ b → has_room (editor_with 1 (pointed parts)) 1 (length (bare piece)) ≡ b
same_room parts piece b h = ap (has_room (editor_with 1 parts) 1) (length-map piece (λ c. (c, []))) ∙ h

pub filter_puts_its_text : (limit : ℕ) (command : List Value) (bound : ℕ) → FilterPuts limit command bound
filter_puts_its_text limit command bound parts p c more g room = record {
  after = put_behind (pointed parts) (c ∷ more);
  leaves = filter_heard limit command bound parts p g.one g.there (made_one parts p g.one g.there) g.buffer c more (same_room parts (c ∷ more) true room);
  grown = refl;
  processes = refl;
  asked = refl;
}

pub filter_stops_its_process : (limit : ℕ) (command : List Value) (bound : ℕ) → FilterStops limit command bound
filter_stops_its_process limit command bound parts p c more g room = record {
  after = stopped p g.one (pointed parts);
  leaves = filter_full limit command bound parts p g.one g.there (made_one parts p g.one g.there) g.buffer c more (same_room parts (c ∷ more) false room);
  same = refl;
  processes = sym (ap (λ (s : State). s.processes) (changes_one (outside parts) p (with_filter Off) g.one g.there));
  asked = refl;
}
