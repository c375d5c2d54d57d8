-- What an item comes to by what its function came to, and the turn of the machine.
use Rattle.std.proofs.Common.{◌≡◌, ℕ, zero, suc, ◌+◌, ◌≤◌, List, [], ◌∷◌, length, Result, Ok, Err, refl, ap, ◌∙◌, arith}
use Rattle.std.specs.Prelude.{Option, Some, None, OnOk, slice_get}
use Rattle.editor_model.specs.Values.{Value, Prim, Fault}
use Rattle.editor_model.specs.Prims.{ConcernsHandlers, manner_of}
use Rattle.plain_machine.specs.Exchanges.{Exchange}
use Rattle.plain_machine.specs.State.{State, Program}
use Rattle.plain_machine.specs.Items.{Item, MakeCall, Refuse, Target}
use Rattle.ek_types.specs.Io.{SinkState, HasCause}
use Rattle.kernel_steps.specs.Waits.{refusal_of}
use Rattle.trace_check.proofs.CallItems.{refused_put}
use Rattle.ek_types.specs.declared.memory.NoMemory.{NoMemory}
use Rattle.trace_check.specs.Steps.{Aloud, Quietly, Comes, Unheard, IsSame}
use Rattle.trace_check.specs.Turns.{Turns, seen, alone_by, told_by, heard_by, quiet_by}
use Rattle.trace_check.specs.declared.turn.Done.{Done}
use Rattle.trace_check.specs.declared.turn.Done.TheVariants as done
use Rattle.trace_check.specs.declared.turn.Turn.TheVariants as turn
use Rattle.trace_check.specs.declared.turn.StepFault.{StepFault}
use Rattle.trace_check.specs.declared.turn.StepFault.TheVariants as fault

-- WHAT AN ITEM COMES TO
module _ (program : Program) (next : Option Exchange) (known known2 : State) (work left : List Item) where
  pub quiet_comes : {T : Type 0} (r : Result T NoMemory) → OnOk r (Quietly program known known2 work left) → Unheard (quiet_by r) program next known known2 work left
  quiet_comes (Ok x) h = h
  quiet_comes (Err e) h = λ sink. tt

  pub alone_comes : {T : Type 0} (r : Result T NoMemory) (sink : SinkState) → OnOk r (Quietly program known known2 work left) → Comes (alone_by r) program next known known2 work left sink sink
  alone_comes (Ok x) sink h = h sink
  alone_comes (Err e) sink h = tt

  pub told_comes : {T : Type 0} (r : Result T StepFault) (old new : SinkState) → OnOk r (Aloud program known known2 work left old new) → Comes (told_by r) program next known known2 work left old new
  told_comes (Ok x) old new h = h
  told_comes (Err e) old new h = tt

  pub heard_comes : (r : Result Done NoMemory) (sink : SinkState) → Unheard r program next known known2 work left → Comes (heard_by r) program next known known2 work left sink sink
  heard_comes (Ok done.Alone) sink h = h sink
  heard_comes (Ok done.Answered) sink h = h sink
  heard_comes (Ok done.Waits) sink h = h sink
  heard_comes (Ok done.Off) sink h = h sink
  heard_comes (Err e) sink h = tt

-- a call that is refused
pub quiet_refused : (program : Program) (next : Option Exchange) (known : State) (args : List Value) (target : Target) (rest left : List Item) (prim : Prim) (f : Fault) {T : Type 0} (r : Result T NoMemory) → manner_of prim ≡ ConcernsHandlers → Some f ≡ refusal_of program known prim args →
    OnOk r (left ≡ Refuse f ∷ rest) → Unheard (quiet_by r) program next known known (MakeCall prim args target ∷ rest) left
quiet_refused program next known args target rest left prim f (Ok x) manner refused h = refused_put program known args target rest prim f left manner refused h
quiet_refused program next known args target rest left prim f (Err e) manner refused h = λ sink. tt

-- CAUSES
unsaid : {T : Type 0} (r : Result T StepFault) (n : ℕ) → (r ≡ Err fault.Sink → ⊥) → HasCause n n (r ≡ Err fault.Sink)
unsaid r n h = record { later = omega arith; rose = λ e. absurd (h e) }

pub alone_cause : {T : Type 0} (r : Result T NoMemory) (n : ℕ) → HasCause n n (alone_by r ≡ Err fault.Sink)
alone_cause r n = unsaid (alone_by r) n (no r)
  where
    no : {T : Type 0} (r : Result T NoMemory) → alone_by r ≡ Err fault.Sink → ⊥
    no (Ok x) e = let f : Ok done.Alone ≡ Err fault.Sink = e in cc
    no (Err x) e = let f : Err fault.NoMemory ≡ Err fault.Sink = e in cc

pub heard_cause : (r : Result Done NoMemory) (n : ℕ) → HasCause n n (heard_by r ≡ Err fault.Sink)
heard_cause r n = unsaid (heard_by r) n (no r)
  where
    no : (r : Result Done NoMemory) → heard_by r ≡ Err fault.Sink → ⊥
    no (Ok x) e = let f : Ok x ≡ Err fault.Sink = e in cc
    no (Err x) e = let f : Err fault.NoMemory ≡ Err fault.Sink = e in cc

pub told_cause : {T : Type 0} (r : Result T StepFault) (a b : ℕ) → HasCause a b (r ≡ Err fault.Sink) → HasCause a b (told_by r ≡ Err fault.Sink)
told_cause (Ok x) a b h = record { later = h.later; rose = λ e. absurd (let f : Ok done.Alone ≡ Err fault.Sink = e in cc) }
told_cause (Err why) a b h = record { later = h.later; rose = λ e. let f : why ≡ fault.Sink = (let g : Err why ≡ Err fault.Sink = e in cc) in h.rose (ap Err f) }

-- TURNS
past_end : (xs : List Exchange) (i : ℕ) → slice_get xs i ≡ None → length xs ≤ i
past_end [] i h = omega arith
past_end (x ∷ xs) zero h = absurd (let e : Some x ≡ None = h in cc)
past_end (x ∷ xs) (suc i) h = omega (arith, past_end xs i h)

module _ (program : Program) (journal : List Exchange) (known known2 : State) (work left : List Item) (used : ℕ) (old new : SinkState) where
  abbrev next : Option Exchange
  next = slice_get journal used

  pub goes_alone : (E : Type 0) → Comes {E = E} (Ok done.Alone) program next known known2 work left old new → Turns (Ok turn.Went) program journal (seen known work used) (seen known2 left used) old new
  goes_alone E h = ([], refl, h)

  pub goes_answered : (E : Type 0) → Comes {E = E} (Ok done.Answered) program next known known2 work left old new → Turns (Ok turn.Went) program journal (seen known work used) (seen known2 left (used + 1)) old new
  goes_answered E h = let (x, is, steps) = h in (x ∷ [], (is, refl), steps)

  same_seen : IsSame known known2 work left old new → seen known2 left used ≡ seen known work used
  same_seen h = ap (λ s. seen s left used) h.state ∙ ap (λ l. seen known l used) h.work_is

  pub waits_now : (E : Type 0) → Comes {E = E} (Ok done.Waits) program next known known2 work left old new → Turns (Ok turn.Waits) program journal (seen known work used) (seen known2 left used) old new
  waits_now E h = let (none, same, asks) = h in (past_end journal used none, same_seen same, same.sink, asks)

  pub is_off : (E : Type 0) → Comes {E = E} (Ok done.Off) program next known known2 work left old new → Turns (Ok turn.Off) program journal (seen known work used) (seen known2 left used) old new
  is_off E h = let (x, is, same, off) = h in (x, is, same_seen same, same.sink, off)
