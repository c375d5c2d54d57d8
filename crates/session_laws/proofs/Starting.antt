-- How a sentinel is entered and left, and what stands behind the start of a child.
use Rattle.std.proofs.Common.{◌≡◌, ℕ, ◌+◌, List, [], ◌∷◌, ◌++◌, length, refl, ap, ◌∙◌, arith, length-append}
use Rattle.std.specs.Prelude.{Some, None, true, false, codes, nat_lt, slice_get, slice_set}
use Rattle.std.proofs.lemmas.Bool.{lt-ltb}
use Rattle.text_model.specs.Codings.{Utf8}
use Rattle.editor_model.specs.Values.{Value, Sym, TheProcess, Reply, Answered, SetProcessFilter, SetProcessSentinel}
use Rattle.editor_model.specs.Arguments.{name_of}
use Rattle.plain_machine.specs.State.{State, Process, Program, Runs, Default, Named, change_process}
use Rattle.plain_machine.specs.Arguments.{process_name}
use Rattle.plain_machine.specs.Lines.{OfSentinel}
use Rattle.plain_machine.specs.Items.{Item, GiveAnswer, Enter, Native, Exit, Config}
use Rattle.plain_machine.specs.Calls.{on, started, with_filter, with_sentinel}
use Rattle.plain_machine.specs.Handling.{enter, exit, unlisted}
use Rattle.plain_machine.specs.Run.{stays, goes}
use Rattle.line_session.specs.Handlers.{ascii}
use Rattle.line_session.specs.Script.{filter_name, sentinel_name}
use Rattle.session_laws.specs.Standing.{Parts, session_program, outside, inside}
use Rattle.session_laws.proofs.Filtering.{Leads, done_in, changes_one, calls_then, ends_there}
use Rattle.session_laws.proofs.Calling.{concerns}

module _ (limit : ℕ) (command : List Value) (bound : ℕ) (parts : Parts) (p : ℕ) where
  abbrev program : Program
  program = session_program limit command

  abbrev pub leave : Item
  leave = Exit (OfSentinel p) (Some sentinel_name) 0 false

  -- a sentinel is entered
  pub enters : (args : List Value) (to : List Item → Config) → Leads program bound (Native 1 args []) (inside 0 parts) to →
      Leads program bound (Enter (OfSentinel p) (Some sentinel_name) args) (outside parts) (λ rest. to (leave ∷ rest))
  enters args to k = record {
    said = (enter program (outside parts) (OfSentinel p) (Some sentinel_name) args []).said ++ k.said;
    way = λ rest. goes refl (k.way (leave ∷ rest));
  }

  -- and left: its process is off the list
  pub leaves : Leads program bound leave (inside 1 parts) (done_in (change_process p unlisted (outside parts)))
  leaves = record { said = (exit program (inside 1 parts) (OfSentinel p) (Some sentinel_name) 0 false []).said; way = λ rest. goes refl stays }

-- A CHILD MORE
abbrev pub session_word : Value
session_word = ascii (codes "session")

abbrev pub buffer_word : Value
buffer_word = ascii (codes "*session*")

abbrev pub new_one : Parts → (child : ℕ) → Process
new_one parts child = record {
  name = process_name parts.processes (name_of session_word);
  child = child;
  status = Runs;
  buffer = Some 1;
  mark = length parts.markers;
  filter = Default;
  sentinel = None;
  coding = Utf8;
  bytes = None;
  drained = false;
  closed = false;
  listed = true;
}

abbrev pub with_child : Parts → (child : ℕ) → Parts
with_child parts child = record parts {
  markers = parts.markers ++ record { spot = Some (record { buffer = 1; place = length parts.text }); advances = false } ∷ [];
  processes = parts.processes ++ new_one parts child ∷ [];
  asked = parts.asked + 1;
}

pub child_started : (parts : Parts) (child : ℕ) → started (inside 1 parts) session_word buffer_word child ≡ inside 1 (with_child parts child)
child_started parts child = refl

-- ITS HANDLERS
module _ {X : Type 0} (x : X) where
  pub last_there : (xs : List X) → slice_get (xs ++ x ∷ []) (length xs) ≡ Some x
  last_there [] = refl
  last_there (y ∷ xs) = last_there xs

  pub last_set : (xs : List X) (y : X) → slice_set (xs ++ x ∷ []) (length xs) y ≡ xs ++ y ∷ []
  last_set [] y = refl
  last_set (z ∷ xs) y = ap (λ l. z ∷ l) (last_set xs y)

  pub last_made : (xs : List X) → nat_lt (length xs) (length (xs ++ x ∷ [])) ≡ true
  last_made xs = lt-ltb (length xs) (length (xs ++ x ∷ [])) (omega (arith, length-append xs (x ∷ [])))

-- a process more, with some handlers
abbrev pub with_one : Parts → (child : ℕ) → (Process → Process) → Parts
with_one parts child set = record (with_child parts child) { processes = parts.processes ++ set (new_one parts child) ∷ [] }

abbrev pub set_both : Process → Process
set_both x = with_sentinel (Some sentinel_name) (with_filter (Named filter_name) x)

changed_last : (parts : Parts) (child : ℕ) (before change : Process → Process) → change_process (length parts.processes) change (inside 1 (with_one parts child before)) ≡ inside 1 (with_one parts child (λ x. change (before x)))
changed_last parts child before change =
    let one : Process = before (new_one parts child) in
    changes_one (inside 1 (with_one parts child before)) (length parts.processes) change one (last_there one parts.processes)
    ∙ ap (λ l. record (inside 1 (with_one parts child before)) { processes = l }) (last_set one parts.processes (change one))

module _ (limit : ℕ) (command : List Value) (bound : ℕ) (parts : Parts) (child : ℕ) (args : List Value) where
  abbrev k : ℕ
  k = length parts.processes

  -- the child's process gets the two natives, and then the sentinel is done
  pub sets_both : (past : List Reply) → nat_lt (length past) 256 ≡ true → nat_lt (length (past ++ Answered (Sym filter_name) ∷ [])) 256 ≡ true → nat_lt (length ((past ++ Answered (Sym filter_name) ∷ []) ++ Answered (Sym sentinel_name) ∷ [])) 256 ≡ true →
      (session_program limit command).does 1 args past ≡ Some (SetProcessFilter, TheProcess k ∷ Sym filter_name ∷ []) →
      (session_program limit command).does 1 args (past ++ Answered (Sym filter_name) ∷ []) ≡ Some (SetProcessSentinel, TheProcess k ∷ Sym sentinel_name ∷ []) →
      (session_program limit command).does 1 args ((past ++ Answered (Sym filter_name) ∷ []) ++ Answered (Sym sentinel_name) ∷ []) ≡ None →
      Leads (session_program limit command) bound (Native 1 args past) (inside 1 (with_child parts child)) (done_in (inside 1 (with_one parts child set_both)))
  sets_both past room0 room1 room2 does0 does1 does2 =
      let done : List Item → Config = done_in (inside 1 (with_one parts child set_both)) in
      calls_then (session_program limit command) bound 1 args past (SetProcessFilter, TheProcess k ∷ Sym filter_name ∷ []) (inside 1 (with_child parts child)) (inside 1 (with_one parts child (with_filter (Named filter_name)))) _ (Answered (Sym filter_name)) done room0 does0 (rw (last_made (new_one parts child) parts.processes) refl)
      (concerns (session_program limit command) bound SetProcessFilter (TheProcess k ∷ Sym filter_name ∷ []) (inside 1 (with_child parts child)) (inside 1 (with_one parts child (with_filter (Named filter_name)))) (Sym filter_name) refl refl
      (λ target rest. ap (λ (u : State). on u (GiveAnswer (Sym filter_name) target ∷ rest)) (changed_last parts child (λ x. x) (with_filter (Named filter_name)))))
      (calls_then (session_program limit command) bound 1 args _ (SetProcessSentinel, TheProcess k ∷ Sym sentinel_name ∷ []) (inside 1 (with_one parts child (with_filter (Named filter_name)))) (inside 1 (with_one parts child set_both)) _ (Answered (Sym sentinel_name)) done room1 does1
      (rw (last_made (with_filter (Named filter_name) (new_one parts child)) parts.processes) refl)
      (concerns (session_program limit command) bound SetProcessSentinel (TheProcess k ∷ Sym sentinel_name ∷ []) (inside 1 (with_one parts child (with_filter (Named filter_name)))) (inside 1 (with_one parts child set_both)) (Sym sentinel_name) refl refl
      (λ target rest. ap (λ (u : State). on u (GiveAnswer (Sym sentinel_name) target ∷ rest)) (changed_last parts child (with_filter (Named filter_name)) (with_sentinel (Some sentinel_name)))))
      (ends_there (session_program limit command) bound 1 args _ (inside 1 (with_one parts child set_both)) room2 does2))
