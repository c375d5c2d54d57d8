-- Calls that ask a child: what the machine asks, and what it comes to by each answer.
use Rattle.std.proofs.Common.{◌≡◌, ℕ, ◌+◌, ◌≤◌, Bool, slice_get, true, false, List, [], ◌∷◌, map, length, refl, ap, sym, ◌∙◌}
use Rattle.std.specs.Prelude.{Some, None, drop, not, ◌==◌, ◌||◌}
use Rattle.std.specs.List.{list_any}
use Rattle.std.proofs.lemmas.Bool.{eq-eqb, ne_eqb}
use Rattle.std.proofs.lemmas.List.{drop_all, length-map}
use Rattle.text_model.proofs.Lists.{drop_at}
use Rattle.editor_model.specs.Values.{Value, Nil, TheProcess, StartProcess, ProcessSendString, ProcessSendEof}
use Rattle.editor_model.specs.Arguments.{arg}
use Rattle.plain_machine.specs.Arguments.{child_of, is_closed, process_of}
use Rattle.plain_machine.specs.Exchanges.{Spawn, Send, Close, Started, Sent, Broken, Closed, Refused}
use Rattle.plain_machine.specs.State.{State, Program, Process, change_process}
use Rattle.plain_machine.specs.Items.{Item, MakeCall, GiveAnswer, Target, Asks}
use Rattle.plain_machine.specs.Calls.{on, silent, send, sent_answer, send_eof, closed_answer, with_input_closed, spawned, spawned_child, started, is_new_child}
use Rattle.plain_machine.specs.Step.{step}
use Rattle.process_table.specs.Table.{kept}
use Rattle.kernel_steps.specs.Outside.{deepest}
use Rattle.plain_machine.specs.Waits.{asked_more}
use Rattle.kernel_steps.specs.Processes.{bytes_of, words_of, counted}
use Rattle.kernel_steps.specs.Waits.{Passes}
use Rattle.kernel_steps.specs.Work.{working}
use Rattle.kernel_steps.specs.Worlds.{Stands}
use Rattle.kernel_steps.proofs.KeptProcesses.{process_alike, child_kept, closed_kept}
use Rattle.kernel_steps.proofs.Hosting.{changed_kept, input_mild}
use Rattle.kernel_steps.proofs.Launching.{started_kept}
use Rattle.host_link.specs.declared.asking.Answer.{Answer as Given}
use Rattle.host_link.specs.declared.asking.Answer.TheVariants as given
use Rattle.host_link.specs.Meaning.{answer_of}
use Rattle.trace_check.proofs.CallItems.{effect_step}

child_alike : (known s : State) (p : ℕ) → Stands known s → child_of known p ≡ child_of s p
child_alike known s p h = ap (λ t. child_of t p) h ∙ child_kept s p

closed_alike : (known s : State) (p : ℕ) → Stands known s → is_closed known p ≡ is_closed s p
closed_alike known s p h = ap (λ t. is_closed t p) h ∙ closed_kept s p

module _ (program : Program) (known : State) (args : List Value) (target : Target) (rest : List Item) where
  -- SENDING
  send_of : (s : State) (child : ℕ) (bytes : List ℕ) → (bytes ≡ [] → ⊥) → send s target rest child bytes ≡ Asks (Send child bytes) (sent_answer s target rest (length bytes))
  send_of s child [] h = absurd (h refl)
  send_of s child (b ∷ bytes) h = refl

  pub send_asks : (p : ℕ) (bytes : List ℕ) → Passes program known ProcessSendString args → p ≡ process_of known (arg args 0) → bytes ≡ bytes_of (arg args 1) → (bytes ≡ [] → ⊥) → (s : State) → Stands known s →
      step program deepest (working s (MakeCall ProcessSendString args target ∷ rest)) ≡ Asks (Send (child_of known p) bytes) (sent_answer s target rest (length bytes))
  send_asks p bytes passes is are some s h =
      effect_step program known args target rest ProcessSendString refl passes s h
      ∙ ap (λ b. send s target rest (child_of s (process_of s (arg args 0))) b) (sym are)
      ∙ ap (λ q. send s target rest (child_of s q) bytes) (sym (is ∙ process_alike known s (arg args 0) h))
      ∙ ap (λ c. send s target rest c bytes) (sym (child_alike known s p h))
      ∙ send_of s (child_of known p) bytes some

  pub send_nothing : (bytes : List ℕ) → Passes program known ProcessSendString args → bytes ≡ bytes_of (arg args 1) → bytes ≡ [] → (s : State) → Stands known s →
      step program deepest (working s (MakeCall ProcessSendString args target ∷ rest)) ≡ on s (GiveAnswer Nil target ∷ rest)
  send_nothing bytes passes are none s h =
      effect_step program known args target rest ProcessSendString refl passes s h ∙ ap (λ b. send s target rest (child_of s (process_of s (arg args 0))) b) (sym are ∙ none)

  -- CLOSING
  pub close_asks : (p : ℕ) → Passes program known ProcessSendEof args → p ≡ process_of known (arg args 0) → is_closed known p ≡ false → (s : State) → Stands known s →
      step program deepest (working s (MakeCall ProcessSendEof args target ∷ rest)) ≡ Asks (Close (child_of known p)) (closed_answer s target rest p)
  close_asks p passes is open_still s h =
      effect_step program known args target rest ProcessSendEof refl passes s h
      ∙ ap (λ q. send_eof s target rest q (is_closed s q)) (sym (is ∙ process_alike known s (arg args 0) h))
      ∙ ap (send_eof s target rest p) (sym (closed_alike known s p h) ∙ open_still)
      ∙ ap (λ c. Asks (Close c) (closed_answer s target rest p)) (sym (child_alike known s p h))

  pub close_nothing : (p : ℕ) → Passes program known ProcessSendEof args → p ≡ process_of known (arg args 0) → is_closed known p ≡ true → (s : State) → Stands known s →
      step program deepest (working s (MakeCall ProcessSendEof args target ∷ rest)) ≡ on s (GiveAnswer (TheProcess p) target ∷ rest)
  close_nothing p passes is closed s h =
      effect_step program known args target rest ProcessSendEof refl passes s h
      ∙ ap (λ q. send_eof s target rest q (is_closed s q)) (sym (is ∙ process_alike known s (arg args 0) h))
      ∙ ap (send_eof s target rest p) (sym (closed_alike known s p h) ∙ closed)

  -- STARTING
  pub start_asks : (program_bytes : List ℕ) (words : List (List ℕ)) → Passes program known StartProcess args → program_bytes ≡ bytes_of (arg args 2) → words ≡ words_of args → (s : State) → Stands known s →
      step program deepest (working s (MakeCall StartProcess args target ∷ rest)) ≡ Asks (Spawn program_bytes words) (spawned s target rest (arg args 0) (arg args 1))
  start_asks program_bytes words passes is are s h =
      effect_step program known args target rest StartProcess refl passes s h
      ∙ ap (λ b. Asks (Spawn b (map bytes_of (drop 3 args))) (spawned s target rest (arg args 0) (arg args 1))) (sym is)
      ∙ ap (λ w. Asks (Spawn program_bytes w) (spawned s target rest (arg args 0) (arg args 1))) (sym are)

-- WHAT THE ANSWERS COME TO
pub counts_stand : (known known2 s : State) (n : ℕ) → known2 ≡ counted n known → Stands known s → Stands known2 (counted n s)
counts_stand known known2 s n now h = now ∙ ap (counted n) h

pub started_stands : (known known2 s : State) (name b : Value) (child : ℕ) → known2 ≡ started known name b child → Stands known s → Stands known2 (started s name b child)
started_stands known known2 s name b child now h = now ∙ ap (λ t. started t name b child) h ∙ started_kept s name b child

pub new_child : (s : State) (target : Target) (rest : List Item) (name b : Value) (child p : ℕ) → is_new_child s child ≡ true → p ≡ length s.processes →
    spawned s target rest name b (Started child) ≡ Some (silent (started s name b child) (GiveAnswer (TheProcess p) target ∷ rest))
new_child s target rest name b child p new is = ap (λ n. spawned_child n s target rest name b child) new ∙ ap (λ q. Some (silent (started s name b child) (GiveAnswer (TheProcess q) target ∷ rest))) (sym is)

pub old_child : (s : State) (target : Target) (rest : List Item) (name b : Value) (child : ℕ) → is_new_child s child ≡ false → spawned s target rest name b (Started child) ≡ None
old_child s target rest name b child old = ap (λ n. spawned_child n s target rest name b child) old

-- answers that may not be given
pub other_spawned : (s : State) (target : Target) (rest : List Item) (name b : Value) (answer : Given) → ((child : _) → answer ≡ given.Started child → ⊥) → (answer ≡ given.Refused → ⊥) → spawned s target rest name b (answer_of answer) ≡ None
other_spawned s target rest name b (given.Started child) x y = absurd (x child refl)
other_spawned s target rest name b given.Refused x y = absurd (y refl)
other_spawned s target rest name b (given.Bytes bytes) x y = refl
other_spawned s target rest name b given.Nothing x y = refl
other_spawned s target rest name b given.End x y = refl
other_spawned s target rest name b (given.Code code) x y = refl
other_spawned s target rest name b given.Signal x y = refl
other_spawned s target rest name b given.Running x y = refl
other_spawned s target rest name b given.Sent x y = refl
other_spawned s target rest name b given.Broken x y = refl
other_spawned s target rest name b given.Closed x y = refl
other_spawned s target rest name b given.Killed x y = refl
other_spawned s target rest name b given.Failed x y = refl

pub other_sent : (s : State) (target : Target) (rest : List Item) (size : ℕ) (answer : Given) → (answer ≡ given.Sent → ⊥) → (answer ≡ given.Broken → ⊥) → sent_answer s target rest size (answer_of answer) ≡ None
other_sent s target rest size given.Sent x y = absurd (x refl)
other_sent s target rest size given.Broken x y = absurd (y refl)
other_sent s target rest size (given.Started child) x y = refl
other_sent s target rest size given.Refused x y = refl
other_sent s target rest size (given.Bytes bytes) x y = refl
other_sent s target rest size given.Nothing x y = refl
other_sent s target rest size given.End x y = refl
other_sent s target rest size (given.Code code) x y = refl
other_sent s target rest size given.Signal x y = refl
other_sent s target rest size given.Running x y = refl
other_sent s target rest size given.Closed x y = refl
other_sent s target rest size given.Killed x y = refl
other_sent s target rest size given.Failed x y = refl

pub other_closed : (s : State) (target : Target) (rest : List Item) (p : ℕ) (answer : Given) → (answer ≡ given.Closed → ⊥) → closed_answer s target rest p (answer_of answer) ≡ None
other_closed s target rest p given.Closed x = absurd (x refl)
other_closed s target rest p (given.Started child) x = refl
other_closed s target rest p given.Refused x = refl
other_closed s target rest p (given.Bytes bytes) x = refl
other_closed s target rest p given.Nothing x = refl
other_closed s target rest p given.End x = refl
other_closed s target rest p (given.Code code) x = refl
other_closed s target rest p given.Signal x = refl
other_closed s target rest p given.Running x = refl
other_closed s target rest p given.Sent x = refl
other_closed s target rest p given.Broken x = refl
other_closed s target rest p given.Killed x = refl
other_closed s target rest p given.Failed x = refl

-- WHAT IS LEFT BEHIND AN ANSWER
any_kept : (child : ℕ) (xs : List Process) → list_any (λ x. x.child == child) (map kept xs) ≡ list_any (λ x. x.child == child) xs
any_kept child [] = refl
any_kept child (x ∷ xs) = ap (λ b. (x.child == child) || b) (any_kept child xs)

new_alike : (known s : State) (child : ℕ) → Stands known s → is_new_child known child ≡ is_new_child s child
new_alike known s child h = ap (λ t. is_new_child t child) h ∙ ap not (any_kept child s.processes)

module _ (known : State) (target : Target) (rest : List Item) (name b : Value) (child : ℕ) where
  pub child_refused : is_new_child known child ≡ false → (s : State) → Stands known s → spawned s target rest name b (Started child) ≡ None
  child_refused old s h = old_child s target rest name b child (sym (new_alike known s child h) ∙ old)

  pub child_taken : (known2 : State) (p : ℕ) (left : List Item) → is_new_child known child ≡ true → known2 ≡ started known name b child → p ≡ length known.processes → left ≡ GiveAnswer (TheProcess p) target ∷ rest → (s : State) → Stands known s →
      (t : State) × Stands known2 t × (spawned s target rest name b (Started child) ≡ Some (silent t left))
  child_taken known2 p left new now number e s h = (
    started s name b child,
    started_stands known known2 s name b child now h,
    new_child s target rest name b child p (sym (new_alike known s child h) ∙ new) (number ∙ ap (λ (t : State). length t.processes) h ∙ length-map s.processes kept)
        ∙ ap (λ l. Some (silent (started s name b child) l)) (sym e),
  )

pub close_taken : (known known2 : State) (target : Target) (rest left : List Item) (p : ℕ) → known2 ≡ change_process p with_input_closed (asked_more known) → left ≡ GiveAnswer (TheProcess p) target ∷ rest → (s : State) → Stands known s →
    (t : State) × Stands known2 t × (closed_answer s target rest p Closed ≡ Some (silent t left))
close_taken known known2 target rest left p now e s h =
    let closes : State → State = λ t. change_process p with_input_closed (asked_more t) in
    (closes s, now ∙ ap closes h ∙ changed_kept with_input_closed input_mild p (asked_more s), ap (λ l. Some (silent (closes s) l)) (sym e))

-- CHILDREN THAT ARE THERE
abbrev has_child : ℕ → List Process → Bool
has_child child xs = list_any (λ x. x.child == child) xs

module _ (child : ℕ) (xs : List Process) (i : ℕ) (x : Process) (at : slice_get xs i ≡ Some x) (so_far : has_child child xs ≡ has_child child (drop i xs)) where
  from_here : has_child child xs ≡ ((x.child == child) || has_child child (drop (i + 1) xs))
  from_here = so_far ∙ ap (has_child child) (drop_at xs i x at)

  pub child_there : x.child ≡ child → false ≡ not (has_child child xs)
  child_there e = sym (ap not (from_here ∙ ap (λ b. b || has_child child (drop (i + 1) xs)) (eq-eqb x.child child e)))

  pub child_elsewhere : (x.child ≡ child → ⊥) → has_child child xs ≡ has_child child (drop (i + 1) xs)
  child_elsewhere other = from_here ∙ ap (λ b. b || has_child child (drop (i + 1) xs)) (ne_eqb x.child child other)

pub child_nowhere : (child : ℕ) (xs : List Process) (n : ℕ) → length xs ≤ n → has_child child xs ≡ has_child child (drop n xs) → true ≡ not (has_child child xs)
child_nowhere child xs n past so_far = sym (ap not (so_far ∙ ap (has_child child) (drop_all n xs past)))
