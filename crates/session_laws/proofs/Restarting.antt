-- The start of a child by the sentinel of the one before it: it is refused, or the new process gets both natives.
use Rattle.std.proofs.Common.{◌≡◌, ℕ, ◌+◌, Bool, true, false, List, [], ◌∷◌, ◌++◌, length, map, refl, sym, ap, ◌∙◌, subst, arith, append_assoc}
use Rattle.std.specs.Prelude.{Option, Some, None, nat_lt}
use Rattle.editor_model.specs.Values.{Value, Sym, TheProcess, Fault, SpawnFailed, Reply, Answered, Refused, StartProcess}
use Rattle.editor_model.specs.Arguments.{name_of}
use Rattle.editor_model.specs.Answers.{first_fault}
use Rattle.plain_machine.specs.Exchanges.{Ask, Answer, Started}
use Rattle.plain_machine.specs.Exchanges as exchanges
use Rattle.plain_machine.specs.State.{Process, Program, Status, change_process}
use Rattle.plain_machine.specs.Arguments.{process_name}
use Rattle.plain_machine.specs.Items.{Item, MakeCall, GiveAnswer, Refuse, Called, ToNative, Said, Config, Next, Step, Goes, Asks, Ended}
use Rattle.plain_machine.specs.Natives.{normal}
use Rattle.plain_machine.specs.Refusals.{process_tests}
use Rattle.plain_machine.specs.Calls.{silent, unless_fault, process_effect, spawned, spawned_child, is_new_child}
use Rattle.plain_machine.specs.Handling.{unlisted}
use Rattle.plain_machine.specs.Step.{step}
use Rattle.plain_machine.specs.Run.{Reaches, goes}
use Rattle.plain_machine.proofs.Composed.{reaches_then, native_done}
use Rattle.line_session.specs.Script.{filter_name, sentinel_name}
use Rattle.session_laws.specs.Standing.{Parts, session_program, outside, inside}
use Rattle.session_laws.specs.Sessions.{session_command, is_spawn}
use Rattle.session_laws.proofs.Filtering.{changes_one}
use Rattle.session_laws.proofs.Starting.{session_word, buffer_word, with_child, with_one, set_both, sets_both, leaves, leave}
use Rattle.session_laws.proofs.Lasting.{mid_there, mid_set}
use Rattle.session_laws.proofs.Living.{Child, living, with_last, change_last}
use Rattle.session_laws.proofs.Dying.{ended, restarts, Based, behind_both, does_again, few_behind}

-- the parts with one exchange more
abbrev pub asked_once : Parts → Parts
asked_once parts = record parts { asked = parts.asked + 1 }

-- whether a step asks for a child
abbrev pub spawns_by : Step → Bool
spawns_by (Asks ask next) = is_spawn ask
spawns_by _ = false

-- a child that was just started
abbrev pub new_child : Parts → (child : ℕ) → Child
new_child parts child = record { name = process_name parts.processes (name_of session_word); child = child; mark = length parts.markers; bytes = None; drained = false; closed = false }

module _ (limit : ℕ) (words : List Value) (bound : ℕ) (olds : List Process) (k : Child) (status : Status) (how : Value) (base : List Reply) (based : Based limit (session_command words) (length olds) how base) (more : restarts limit (length olds) how ≡ true) (rest : List Item) where
  abbrev command : List Value
  command = session_command words

  abbrev program : Program
  program = session_program limit command

  abbrev p : ℕ
  p = length olds

  abbrev x : Process
  x = ended k status

  abbrev told : List Value
  told = TheProcess p ∷ how ∷ []

  abbrev here : Parts → Parts
  here parts = with_last parts olds x

  abbrev behind : Parts → List Item
  behind parts = Called 1 told (behind_both base) ∷ leave limit command bound parts p ∷ rest

  -- the native that starts it
  abbrev pub calling : Parts → Config
  calling parts = record { state = inside 1 (here parts); work = MakeCall StartProcess (map normal command) ToNative ∷ behind parts }

  abbrev pub left : Parts → Config
  left parts = record { state = outside (with_last parts olds (unlisted x)); work = rest }

  -- REFUSED
  pub refused_then : (parts old : Parts) (f : Fault) → (said : List Said) × Reaches program bound (record { state = inside 1 (here parts); work = Refuse f ∷ behind old }) [] said (left parts)
  refused_then parts old f =
      let out = leaves limit command bound (here parts) p in
      let done = native_done program bound 1 told (behind_both base ++ Refused f ∷ []) (inside 1 (here parts)) (few_behind limit command p how base based (Refused f ∷ []) (omega arith)) (does_again limit command p how base based more (Refused f ∷ [])) (leave limit command bound parts p ∷ rest) in
      let way = subst (λ u. Reaches program bound (record { state = inside 1 (here parts); work = leave limit command bound parts p ∷ rest }) [] out.said (record { state = u; work = rest })) (change_last parts olds x unlisted) (out.way rest) in
      (_, goes refl (reaches_then program bound _ _ _ [] [] [] out.said done way))

  -- STARTED
  abbrev fresh : Parts → (child : ℕ) → Parts
  fresh parts child = with_one (here parts) child set_both

  abbrev pub alive : Parts → (child : ℕ) → Config
  alive parts child = record { state = outside (with_last (fresh parts child) (olds ++ unlisted x ∷ []) (living (new_child (here parts) child))); work = rest }

  unlisted_there : (parts : Parts) (child : ℕ) → change_process p unlisted (outside (fresh parts child)) ≡ (alive parts child).state
  unlisted_there parts child =
      changes_one (outside (fresh parts child)) p unlisted x (mid_there x olds (living (new_child (here parts) child) ∷ []))
      ∙ ap (λ l. outside (record (fresh parts child) { processes = l })) (mid_set x olds (living (new_child (here parts) child) ∷ []) (unlisted x))

  pub started_then : (parts : Parts) (child : ℕ) → (said : List Said) × Reaches program bound (record { state = inside 1 (with_child (here parts) child); work = GiveAnswer (TheProcess (length (olds ++ x ∷ []))) ToNative ∷ behind parts }) [] said (alive parts child)
  started_then parts child =
      let q : Reply = Answered (TheProcess (length (olds ++ x ∷ []))) in
      let f : Reply = Answered (Sym filter_name) in
      let g : Reply = Answered (Sym sentinel_name) in
      let list : List Reply = behind_both base in
      let one = append_assoc list (q ∷ []) (f ∷ []) in
      let two = ap (λ l. l ++ g ∷ []) one ∙ append_assoc list (q ∷ f ∷ []) (g ∷ []) in
      let sets = sets_both limit command bound (here parts) child told (list ++ q ∷ [])
      (few_behind limit command p how base based (q ∷ []) (omega arith))
      (ap (λ l. nat_lt (length l) 256) one ∙ few_behind limit command p how base based (q ∷ f ∷ []) (omega arith))
      (ap (λ l. nat_lt (length l) 256) two ∙ few_behind limit command p how base based (q ∷ f ∷ g ∷ []) (omega arith))
      (does_again limit command p how base based more (q ∷ []))
      (ap (program.does 1 told) one ∙ does_again limit command p how base based more (q ∷ f ∷ []))
      (ap (program.does 1 told) two ∙ does_again limit command p how base based more (q ∷ f ∷ g ∷ [])) in
      let out = leaves limit command bound (fresh parts child) p in
      let way = subst (λ u. Reaches program bound (record { state = inside 1 (fresh parts child); work = leave limit command bound parts p ∷ rest }) [] out.said (record { state = u; work = rest })) (unlisted_there parts child) (out.way rest) in
      (_, goes refl (reaches_then program bound _ _ _ [] [] sets.said out.said (sets.way (leave limit command bound parts p ∷ rest)) way))

  -- THE STEPS
  abbrev stepped : Option Fault → Parts → Step
  stepped o parts = unless_fault o (inside 1 (here parts)) (behind parts) (process_effect (inside 1 (here parts)) ToNative (behind parts) StartProcess (map normal command))

  pub start_goes : (parts : Parts) (n : Next) → step program bound (calling parts) ≡ Goes n → (said : List Said) × Reaches program bound n.config [] said (left parts)
  start_goes parts n h = by (first_fault (process_tests program bound (inside 1 (here parts)) StartProcess (map normal command))) h
    where
      by : (o : Option Fault) → stepped o parts ≡ Goes n → (said : List Said) × Reaches program bound n.config [] said (left parts)
      by None h = absurd (let k = h in cc)
      by (Some f) h =
          let one : silent (inside 1 (here parts)) (Refuse f ∷ behind parts) ≡ n = cc in
          let r = refused_then parts parts f in
          (r.0, subst (λ (n : Next). Reaches program bound n.config [] r.0 (left parts)) one r.1)

  -- by the answer of a start
  pub data Answered_start (parts : Parts) (answer : Answer) (n : Next) : Type 0 where
    was_refused : answer ≡ exchanges.Refused → ((said : List Said) × Reaches program bound n.config [] said (left (asked_once parts))) → Answered_start parts answer n
    was_started : (child : ℕ) → answer ≡ Started child → ((said : List Said) × Reaches program bound n.config [] said (alive parts child)) → Answered_start parts answer n

  answered_start : (parts : Parts) (answer : Answer) (n : Next) → spawned (inside 1 (here parts)) ToNative (behind parts) session_word buffer_word answer ≡ Some n → Answered_start parts answer n
  answered_start parts (Started child) n e = by (is_new_child (inside 1 (here parts)) child) e
    where
      by : (b : Bool) → spawned_child b (inside 1 (here parts)) ToNative (behind parts) session_word buffer_word child ≡ Some n → Answered_start parts (Started child) n
      by false e = absurd (let k = e in cc)
      by true e =
          let one : silent (inside 1 (with_child (here parts) child)) (GiveAnswer (TheProcess (length (olds ++ x ∷ []))) ToNative ∷ behind parts) ≡ n = let k = e in cc in
          let r = started_then parts child in
          was_started child refl (r.0, subst (λ (n : Next). Reaches program bound n.config [] r.0 (alive parts child)) one r.1)
  answered_start parts exchanges.Refused n e =
      let one : silent (inside 1 (here (asked_once parts))) (Refuse SpawnFailed ∷ behind parts) ≡ n = let k = e in cc in
      let r = refused_then (asked_once parts) parts SpawnFailed in
      was_refused refl (r.0, subst (λ (n : Next). Reaches program bound n.config [] r.0 (left (asked_once parts))) one r.1)
  answered_start parts _ n e = absurd (let k = e in cc)

  pub start_asks : (parts : Parts) (ask : Ask) (next : Answer → Option Next) → step program bound (calling parts) ≡ Asks ask next → (is_spawn ask ≡ true) × ((answer : Answer) (n : Next) → next answer ≡ Some n → Answered_start parts answer n)
  start_asks parts ask next h = by (first_fault (process_tests program bound (inside 1 (here parts)) StartProcess (map normal command))) h
    where
      by : (o : Option Fault) → stepped o parts ≡ Asks ask next → (is_spawn ask ≡ true) × ((answer : Answer) (n : Next) → next answer ≡ Some n → Answered_start parts answer n)
      by (Some f) h = absurd (let k = h in cc)
      by None h =
          let same : spawned (inside 1 (here parts)) ToNative (behind parts) session_word buffer_word ≡ next = let k = h in cc in
          (sym (ap spawns_by h), λ answer n e. answered_start parts answer n (ap (λ f. f answer) same ∙ e))

  pub start_stays : (parts : Parts) → step program bound (calling parts) ≡ Ended → ⊥
  start_stays parts h = by (first_fault (process_tests program bound (inside 1 (here parts)) StartProcess (map normal command))) h
    where
      by : (o : Option Fault) → stepped o parts ≡ Ended → ⊥
      by (Some f) h = let k = h in cc
      by None h = let k = h in cc
