-- Asks that agree are the same, and what an item comes to that asks.
use Rattle.std.proofs.Common.{◌≡◌, ℕ, Bool, true, false, List, Result, Ok, Err, refl, ap, ◌∙◌, inl, inr}
use Rattle.std.specs.Prelude.{◌⊎◌, Option, Some, None, ◌==◌}
use Rattle.std.proofs.KnownBytes.{Appends-nil}
use Rattle.std.proofs.lemmas.Bool.{and_parts, eqb-true}
use Rattle.text_model.specs.Properties.{same_list}
use Rattle.text_model.proofs.Sameness.{same_list-sound}
use Rattle.plain_machine.specs.Exchanges.{Ask, Spawn, Read, AskEnd, Send, Close, Kill, Answer, Exchange}
use Rattle.plain_machine.specs.State.{State, Program}
use Rattle.plain_machine.specs.Items.{Item, Next, Asks}
use Rattle.plain_machine.specs.Calls.{silent}
use Rattle.plain_machine.specs.Step.{step}
use Rattle.plain_machine.specs.Run.{same_ask, same_bytes}
use Rattle.kernel_steps.specs.Outside.{deepest}
use Rattle.kernel_steps.specs.Work.{working}
use Rattle.kernel_steps.specs.Worlds.{Stands}
use Rattle.trace_check.specs.Answers.{TakesUp}
use Rattle.trace_check.specs.Questions.{Misses}
use Rattle.trace_check.specs.Steps.{Unheard}
use Rattle.trace_check.specs.declared.turn.Done.{Done}
use Rattle.trace_check.specs.declared.turn.Done.TheVariants as done

-- ASKS
bytes_equal : (xs ys : List ℕ) → same_bytes xs ys ≡ true → xs ≡ ys
bytes_equal xs ys h = same_list-sound (λ x y. x == y) eqb-true xs ys h

pub ask_equal : (a b : Ask) → same_ask a b ≡ true → a ≡ b
ask_equal (Spawn p x) (Spawn q y) h =
    let b : (same_bytes p q ≡ true) × (same_list same_bytes x y ≡ true) = and_parts (same_bytes p q) (same_list same_bytes x y) h in
    λ i. Spawn (bytes_equal p q b.0 i) (same_list-sound same_bytes bytes_equal x y b.1 i)
ask_equal (Read c) (Read d) h = ap Read (eqb-true c d h)
ask_equal (AskEnd c) (AskEnd d) h = ap AskEnd (eqb-true c d h)
ask_equal (Send c x) (Send d y) h =
    let b : ((c == d) ≡ true) × (same_bytes x y ≡ true) = and_parts (c == d) (same_bytes x y) h in
    λ i. Send (eqb-true c d b.0 i) (bytes_equal x y b.1 i)
ask_equal (Close c) (Close d) h = ap Close (eqb-true c d h)
ask_equal (Kill c) (Kill d) h = ap Kill (eqb-true c d h)
ask_equal _ _ h = cc

-- WHAT AN ITEM COMES TO
by_second : (A B C : Type 0) → A ⊎ B → (B → C) → A ⊎ C
by_second A B C (inl a) f = inl a
by_second A B C (inr b) f = inr (f b)

module _ (program : Program) (next : Option Exchange) (known : State) (work : List Item) (ask : Ask) where
  -- in each state that the kernel stands for the machine asks this, and goes on so
  abbrev pub AsksThis : ((s : State) → Answer → Option Next) → Type 0
  AsksThis go = (s : State) → Stands known s → step program deepest (working s work) ≡ Asks ask (go s)

  comes_waiting : (E : Type 0) (known2 : State) (left : List Item) (go : (s : State) → Answer → Option Next) → AsksThis go → next ≡ None → known2 ≡ known → left ≡ work → Unheard {E = E} (Ok done.Waits) program next known known2 work left
  comes_waiting E known2 left go asks none same work_is = λ sink. (none, record { state = same; work_is = work_is; sink = refl }, λ s h. (ask, go s, asks s h))

  comes_astray : (E : Type 0) (known2 : State) (left : List Item) (go : (s : State) → Answer → Option Next) → AsksThis go → (x : Exchange) → next ≡ Some x →
      ((s : State) → Stands known s → (same_ask ask x.ask ≡ false) ⊎ (go s x.answer ≡ None)) → known2 ≡ known → left ≡ work → Unheard {E = E} (Ok done.Off) program next known known2 work left
  comes_astray E known2 left go asks x is off same work_is = λ sink. (x, is, record { state = same; work_is = work_is; sink = refl }, λ s h. (ask, go s, asks s h, off s h))

  -- where the journal has no answer to it
  pub comes_missed : (E : Type 0) (may : Answer → Bool) (missed : Done) (left : List Item) (go : (s : State) → Answer → Option Next) → AsksThis go → Misses ask may next missed →
      ((s : State) → Stands known s → (answer : Answer) → may answer ≡ false → go s answer ≡ None) → left ≡ work → Unheard {E = E} (Ok missed) program next known known work left
  comes_missed E may done.Waits left go asks none barred work_is = comes_waiting E known left go asks none refl work_is
  comes_missed E may done.Off left go asks off barred work_is =
      let (x, is, why) = off in
      comes_astray E known left go asks x is (λ s h. by_second (same_ask ask x.ask ≡ false) (may x.answer ≡ false) (go s x.answer ≡ None) why (barred s h x.answer)) refl work_is
  comes_missed E may done.Alone left go asks missed barred work_is = absurd missed
  comes_missed E may done.Answered left go asks missed barred work_is = absurd missed

  -- where any answer would do
  pub comes_unmet : (E : Type 0) (missed : Done) (left : List Item) (go : (s : State) → Answer → Option Next) → AsksThis go → Misses ask (λ answer. true) next missed → left ≡ work → Unheard {E = E} (Ok missed) program next known known work left
  comes_unmet E missed left go asks misses work_is = comes_missed E (λ answer. true) missed left go asks misses (λ s h answer barred. absurd (let e : true ≡ false = barred in cc)) work_is

  -- by an answer, wherever it leads
  pub comes_heard : (E : Type 0) (known2 : State) (left : List Item) (go : (s : State) → Answer → Option Next) → AsksThis go → (x : Exchange) → next ≡ Some x → same_ask ask x.ask ≡ true →
      ((s : State) → Stands known s → (t : State) × Stands known2 t × (go s x.answer ≡ Some (silent t left))) → Unheard {E = E} (Ok done.Answered) program next known known2 work left
  comes_heard E known2 left go asks x is same goes = λ sink. (
    x,
    is,
    λ s h. (
        let (t, stands, so) = goes s h in
        record {
          next = silent t left;
          steps = (go s, asks s h ∙ ap (λ a. Asks a (go s)) (ask_equal ask x.ask same), so);
          stands = stands;
          left_is = refl;
          written = Appends-nil sink.held;
        }
        ),
  )

  pub comes_answered : (E : Type 0) (known2 : State) (left : List Item) (go : (s : State) → Answer → Option Next) → AsksThis go → (x : Exchange) → next ≡ Some x → same_ask ask x.ask ≡ true →
      (change : State → State) → ((s : State) → Stands known s → Stands known2 (change s)) → ((s : State) → Stands known s → go s x.answer ≡ Some (silent (change s) left)) → Unheard {E = E} (Ok done.Answered) program next known known2 work left
  comes_answered E known2 left go asks x is same change stands goes = comes_heard E known2 left go asks x is same (λ s h. (change s, stands s h, goes s h))

  -- by what became of the answer
  pub comes_taken : {E : Type 0} (r : Result Done E) (known2 : State) (left : List Item) (go : (s : State) → Answer → Option Next) → AsksThis go → (x : Exchange) → next ≡ Some x → same_ask ask x.ask ≡ true →
      TakesUp r (λ s. go s x.answer) known known2 work left → Unheard r program next known known2 work left
  comes_taken {E = E} (Ok done.Answered) known2 left go asks x is same taken = comes_heard E known2 left go asks x is same taken
  comes_taken {E = E} (Ok done.Off) known2 left go asks x is same taken = comes_astray E known2 left go asks x is (λ s h. inr (taken.2 s h)) taken.0 taken.1
  comes_taken (Ok done.Alone) known2 left go asks x is same taken = absurd taken
  comes_taken (Ok done.Waits) known2 left go asks x is same taken = absurd taken
  comes_taken (Err e) known2 left go asks x is same taken = λ sink. tt
