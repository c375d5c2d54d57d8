-- The script of a session up to its first wait: its child is started and gets both natives, or there is none.
use Rattle.std.proofs.Common.{◌≡◌, ◌⊎◌, inl, inr, ℕ, true, false, List, [], ◌∷◌, map, refl, sym, ap, ◌∙◌, subst}
use Rattle.std.specs.Prelude.{Option, Some, None, replicate}
use Rattle.editor_model.specs.Values.{Value, Sym, TheProcess, Fault, SpawnFailed, Form, Forms, Then, Do, Setq, Const, Name, Prim, StartProcess, SetProcessFilter, SetProcessSentinel}
use Rattle.editor_model.specs.Editor.{new_undo}
use Rattle.editor_model.specs.Answers.{first_fault}
use Rattle.plain_machine.specs.Exchanges.{Ask, Answer, Started}
use Rattle.plain_machine.specs.Exchanges as exchanges
use Rattle.plain_machine.specs.State.{State, Program, new_state}
use Rattle.plain_machine.specs.Items.{Item, Top, DoForm, MakeCall, GiveAnswer, Refuse, ToName, Said, Config, Next, Step, Goes, Asks, Ended}
use Rattle.plain_machine.specs.Refusals.{process_tests}
use Rattle.plain_machine.specs.Calls.{silent, unless_fault, process_effect, spawned, started}
use Rattle.plain_machine.specs.Forms.{evaluate, call_with}
use Rattle.plain_machine.specs.Drill.{call, in_order}
use Rattle.plain_machine.specs.Step.{step}
use Rattle.plain_machine.specs.Run.{Reaches, stays, goes, start}
use Rattle.line_session.specs.Script.{p, filter_name, sentinel_name, wait_form, session_script}
use Rattle.session_laws.specs.Standing.{Parts, session_program, outside}
use Rattle.session_laws.specs.Sessions.{session_command, is_spawn}
use Rattle.session_laws.proofs.Starting.{session_word, buffer_word}
use Rattle.session_laws.proofs.Living.{living, with_last}
use Rattle.session_laws.proofs.Waiting.{IsWaits}
use Rattle.session_laws.proofs.Restarting.{new_child, spawns_by}

pub waits_only : (n : ℕ) → IsWaits (in_order (replicate n wait_form))
waits_only ℕ.zero = tt
waits_only (ℕ.suc n) = (refl, waits_only n)

evaluates : (s : State) (words : List Value) → evaluate s (map Const words) ≡ Some words
evaluates s [] = refl
evaluates s (v ∷ words) = ap (λ o. elim o [ Some vs ↦ Some (v ∷ vs) | None ↦ None ]) (evaluates s words)

-- the two forms behind the start
abbrev handled : Prim → (name : ℕ) → Form
handled prim name = Do (call prim (Name p ∷ Const (Sym name) ∷ []))

abbrev pub behind_start : (waits : Forms) → Forms
behind_start waits = Then (handled SetProcessFilter filter_name) (Then (handled SetProcessSentinel sentinel_name) waits)

-- the parts behind the first start
abbrev pub first_parts : Parts
first_parts = record {
  text = [];
  point = 0;
  modified = false;
  undo = new_undo;
  markers = record { spot = Some (record { buffer = 1; place = 0 }); advances = false } ∷ [];
  registers = (p, TheProcess 0) ∷ [];
  processes = [];
  asked = 1;
}

abbrev pub no_parts : Parts
no_parts = record first_parts { markers = [] }

abbrev pub asked_new : State
asked_new = record new_state { asked = 1 }

module _ (limit : ℕ) (words : List Value) (bound : ℕ) (waits : Forms) where
  abbrev command : List Value
  command = session_command words

  abbrev program : Program
  program = session_program limit command

  abbrev behind : List Item
  behind = Top (behind_start waits) ∷ []

  -- the start is the next call
  abbrev pub beginning : Config
  beginning = record { state = new_state; work = MakeCall StartProcess command (ToName p) ∷ behind }

  -- without a process the two forms have no value
  pub unstarted : (s : State) → (s ≡ new_state) ⊎ (s ≡ asked_new) → (f : Fault) → (said : List Said) × Reaches program bound (record { state = s; work = Refuse f ∷ behind }) [] said (record { state = s; work = Top waits ∷ [] })
  unstarted s (inl e) f =
      let r : (said : List Said) × Reaches program bound (record { state = new_state; work = Refuse f ∷ behind }) [] said (record { state = new_state; work = Top waits ∷ [] }) =
      (_, goes refl (goes refl (goes refl (goes refl (goes refl (goes refl (goes refl stays))))))) in
      subst (λ s. (said : List Said) × Reaches program bound (record { state = s; work = Refuse f ∷ behind }) [] said (record { state = s; work = Top waits ∷ [] })) (sym e) r
  unstarted s (inr e) f =
      let r : (said : List Said) × Reaches program bound (record { state = asked_new; work = Refuse f ∷ behind }) [] said (record { state = asked_new; work = Top waits ∷ [] }) =
      (_, goes refl (goes refl (goes refl (goes refl (goes refl (goes refl (goes refl stays))))))) in
      subst (λ s. (said : List Said) × Reaches program bound (record { state = s; work = Refuse f ∷ behind }) [] said (record { state = s; work = Top waits ∷ [] })) (sym e) r

  -- with one they give it both natives
  abbrev pub first_state : (child : ℕ) → State
  first_state child = outside (with_last first_parts [] (living (new_child no_parts child)))

  started_first : (child : ℕ) → (said : List Said) × Reaches program bound (record { state = started new_state session_word buffer_word child; work = GiveAnswer (TheProcess 0) (ToName p) ∷ behind }) [] said (record { state = first_state child; work = Top waits ∷ [] })
  started_first child = (_, goes refl (goes refl (goes refl (goes refl (goes refl (goes refl (goes refl (goes refl (goes refl stays)))))))))

  -- THE STEPS
  abbrev stepped : Option Fault → Step
  stepped o = unless_fault o new_state behind (process_effect new_state (ToName p) behind StartProcess command)

  pub first_goes : (n : Next) → step program bound beginning ≡ Goes n → (said : List Said) × Reaches program bound n.config [] said (record { state = new_state; work = Top waits ∷ [] })
  first_goes n h = by (first_fault (process_tests program bound new_state StartProcess command)) h
    where
      by : (o : Option Fault) → stepped o ≡ Goes n → (said : List Said) × Reaches program bound n.config [] said (record { state = new_state; work = Top waits ∷ [] })
      by None h = absurd (let k = h in cc)
      by (Some f) h =
          let one : silent new_state (Refuse f ∷ behind) ≡ n = cc in
          let r = unstarted new_state (inl refl) f in
          (r.0, subst (λ (n : Next). Reaches program bound n.config [] r.0 (record { state = new_state; work = Top waits ∷ [] })) one r.1)

  pub data Answered_first (answer : Answer) (n : Next) : Type 0 where
    was_refused : answer ≡ exchanges.Refused → ((said : List Said) × Reaches program bound n.config [] said (record { state = asked_new; work = Top waits ∷ [] })) → Answered_first answer n
    was_started : (child : ℕ) → answer ≡ Started child → ((said : List Said) × Reaches program bound n.config [] said (record { state = first_state child; work = Top waits ∷ [] })) → Answered_first answer n

  answered_first : (answer : Answer) (n : Next) → spawned new_state (ToName p) behind session_word buffer_word answer ≡ Some n → Answered_first answer n
  answered_first (Started child) n e =
      let one : silent (started new_state session_word buffer_word child) (GiveAnswer (TheProcess 0) (ToName p) ∷ behind) ≡ n = let k = e in cc in
      let r = started_first child in
      was_started child refl (r.0, subst (λ (n : Next). Reaches program bound n.config [] r.0 (record { state = first_state child; work = Top waits ∷ [] })) one r.1)
  answered_first exchanges.Refused n e =
      let one : silent asked_new (Refuse SpawnFailed ∷ behind) ≡ n = let k = e in cc in
      let r = unstarted asked_new (inr refl) SpawnFailed in
      was_refused refl (r.0, subst (λ (n : Next). Reaches program bound n.config [] r.0 (record { state = asked_new; work = Top waits ∷ [] })) one r.1)
  answered_first _ n e = absurd (let k = e in cc)

  pub first_asks : (ask : Ask) (next : Answer → Option Next) → step program bound beginning ≡ Asks ask next → (is_spawn ask ≡ true) × ((answer : Answer) (n : Next) → next answer ≡ Some n → Answered_first answer n)
  first_asks ask next h = by (first_fault (process_tests program bound new_state StartProcess command)) h
    where
      by : (o : Option Fault) → stepped o ≡ Asks ask next → (is_spawn ask ≡ true) × ((answer : Answer) (n : Next) → next answer ≡ Some n → Answered_first answer n)
      by (Some f) h = absurd (let k = h in cc)
      by None h =
          let same : spawned new_state (ToName p) behind session_word buffer_word ≡ next = let k = h in cc in
          (sym (ap spawns_by h), λ answer n e. answered_first answer n (ap (λ f. f answer) same ∙ e))

  pub first_stays : step program bound beginning ≡ Ended → ⊥
  first_stays h = by (first_fault (process_tests program bound new_state StartProcess command)) h
    where
      by : (o : Option Fault) → stepped o ≡ Ended → ⊥
      by (Some f) h = let k = h in cc
      by None h = let k = h in cc

-- THE FIRST STEP
abbrev pub waits_left : Forms
waits_left = in_order (replicate 65536 wait_form)

pub begins : (limit : ℕ) (words : List Value) (bound : ℕ) (n : Next) → step (session_program limit (session_command words)) bound (start (session_script (session_command words))) ≡ Goes n →
    (said : List Said) × Reaches (session_program limit (session_command words)) bound n.config [] said (beginning limit words bound waits_left)
begins limit words bound n h =
    let program : Program = session_program limit (session_command words) in
    let rest : List Item = Top (behind_start waits_left) ∷ [] in
    let form : Form = Setq p (call StartProcess (map Const (session_command words))) in
    let one : silent new_state (DoForm form ∷ rest) ≡ n = let k = h in cc in
    let r : Reaches program bound (record { state = new_state; work = DoForm form ∷ rest }) [] [] (beginning limit words bound waits_left) =
    goes (ap (λ o. call_with o StartProcess (ToName p) new_state rest) (evaluates new_state (session_command words))) stays in
    ([], subst (λ (n : Next). Reaches program bound n.config [] [] (beginning limit words bound waits_left)) one r)

pub begins_by_itself : (limit : ℕ) (words : List Value) (bound : ℕ) (ask : Ask) (next : Answer → Option Next) → step (session_program limit (session_command words)) bound (start (session_script (session_command words))) ≡ Asks ask next → ⊥
begins_by_itself limit words bound ask next h = let k = h in cc
