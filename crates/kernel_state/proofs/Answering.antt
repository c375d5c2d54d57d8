-- Answers of children that were told: from the processes to the machine.
use Rattle.std.proofs.Common.{◌≡◌, ◌≢◌, ℕ, ◌≤◌, Bool, true, false, List, [], ◌∷◌, length, refl, ap, sym, ◌∙◌, subst, inl, inr}
use Rattle.std.specs.Prelude.{◌⊎◌, Some, None, nat_le}
use Rattle.std.proofs.lemmas.Bool.{false≢true, leb-true, and_parts}
use Rattle.std.proofs.lemmas.List.{take_all}
use Rattle.plain_machine.specs.Exchanges.{Answer, Started, Refused, Bytes, Nothing, End, Code, Signal, Running, Sent, Broken, Closed, Killed, Failed, most_read}
use Rattle.plain_machine.specs.State.{State, Process, process}
use Rattle.plain_machine.specs.Items.{Item, Wait, Target, Waiting}
use Rattle.plain_machine.specs.Calls.{silent}
use Rattle.plain_machine.specs.Waits.{end_answer}
use Rattle.wait_loop.specs.KeptWaits.{noted}
use Rattle.handler_run.specs.Asking.{MayAnswer, MayBeTold, TakesOutput, TakesToldEnd, TakesAnswer, TakesKill}
use Rattle.handler_run.specs.Entries.{entering as entering_one}
use Rattle.handler_run.specs.declared.entry.Entry.{Entry as Entered}
use Rattle.handler_run.specs.declared.entry.Entry.TheVariants as entered
use Rattle.handler_run.specs.declared.asking.Heard.{Heard as HeardThere}
use Rattle.kernel_steps.specs.Answers.{HearsAnswer, HeardIn, IsAllowed, IsKilled, may_hear, next_by}
use Rattle.kernel_steps.specs.Waits.{entering}
use Rattle.kernel_steps.specs.Worlds.{Stands}
use Rattle.kernel_steps.specs.declared.kernel.Entry.{Entry}
use Rattle.kernel_steps.specs.declared.kernel.Heard.{Heard}
use Rattle.kernel_state.proofs.Exchanges.{stood, heard_state, heard_stands, killed_state, killed_stands}

-- WHICH ANSWERS ARE ALLOWED
may_answer : (drained : Bool) (answer : Answer) → may_hear drained answer ≡ true → MayAnswer drained answer
may_answer false (Bytes []) e = absurd (false≢true e)
may_answer false (Bytes (b ∷ bytes)) e =
    let few : length (b ∷ bytes) ≤ most_read = leb-true (length (b ∷ bytes)) most_read (and_parts (nat_le 1 (length (b ∷ bytes))) (nat_le (length (b ∷ bytes)) most_read) e).1 in
    ap Bytes (take_all most_read (b ∷ bytes) few)
may_answer false Nothing e = refl
may_answer false End e = refl
may_answer false Failed e = refl
may_answer false (Started n) e = absurd (false≢true e)
may_answer false Refused e = absurd (false≢true e)
may_answer false (Code n) e = absurd (false≢true e)
may_answer false Signal e = absurd (false≢true e)
may_answer false Running e = absurd (false≢true e)
may_answer false Sent e = absurd (false≢true e)
may_answer false Broken e = absurd (false≢true e)
may_answer false Closed e = absurd (false≢true e)
may_answer false Killed e = absurd (false≢true e)
may_answer true (Code n) e = refl
may_answer true Signal e = refl
may_answer true Running e = refl
may_answer true Failed e = refl
may_answer true (Started n) e = absurd (false≢true e)
may_answer true Refused e = absurd (false≢true e)
may_answer true (Bytes bytes) e = absurd (false≢true e)
may_answer true Nothing e = absurd (false≢true e)
may_answer true End e = absurd (false≢true e)
may_answer true Sent e = absurd (false≢true e)
may_answer true Broken e = absurd (false≢true e)
may_answer true Closed e = absurd (false≢true e)
may_answer true Killed e = absurd (false≢true e)

pub may_be_told : (known : State) (p : ℕ) (answer : Answer) → IsAllowed known p answer → MayBeTold known.processes p answer
may_be_told known p answer (x, found, may) = λ y there.
    let both : Some x ≡ Some y = sym found ∙ there in
    let same : x ≡ y = cc in
    subst (λ (z : Process). MayAnswer z.drained answer) same (may_answer x.drained answer may)

-- WHAT THEY LEAD TO
module _ (known : State) (table : List Process) (p : ℕ) (answer : Answer) (there : HeardThere) (heard : Heard) (bytes : heard.bytes ≡ there.bytes) (entry : (rest : List Item) → entering heard.entry rest ≡ entering_one p there.entry rest) where
  module _ (s : State) (x : Process) (stands : Stands known s) (found : process s p ≡ Some x) where
    work : (w : Waiting) (target : Target) (rest : List Item) → entering_one p there.entry (Wait (noted p there.bytes w) target ∷ rest) ≡ entering heard.entry (Wait (noted p heard.bytes w) target ∷ rest)
    work w target rest = sym (entry (Wait (noted p there.bytes w) target ∷ rest)) ∙ ap (λ b. entering heard.entry (Wait (noted p b w) target ∷ rest)) (sym bytes)

    output_taken : x.drained ≡ false → TakesOutput known.processes table p answer there → HeardIn s p x answer (heard_state known table) heard
    output_taken drained t =
        let r = t.machine s x (ap (λ (u : State). u.processes) stands) found drained in
        record {
          now = r.now;
          stands = heard_stands known s r.now table stands r.stands r.apart;
          goes = λ w target rest.
              ap (λ d. next_by d s w target rest p x answer) drained
              ∙ r.goes w target rest
              ∙ ap (λ b. Some (silent r.now (entering_one p there.entry (Wait (noted p b w) target ∷ rest)))) (sym t.bytes)
              ∙ ap (λ l. Some (silent r.now l)) (work w target rest);
        }

    end_taken : x.drained ≡ true → TakesToldEnd known.processes table p answer there → HeardIn s p x answer (heard_state known table) heard
    end_taken drained t =
        let r = t.takes.machine s x (ap (λ (u : State). u.processes) stands) found in
        record {
          now = r.now;
          stands = heard_stands known s r.now table stands r.stands r.apart;
          goes = λ w target rest.
              ap (λ d. next_by d s w target rest p x answer) drained
              ∙ ap (λ a. end_answer s w target rest p x a) (sym t.same)
              ∙ r.goes w target rest
              ∙ ap (λ b. Some (silent r.now (entering_one p there.entry (Wait (noted p b w) target ∷ rest)))) (sym t.takes.bytes)
              ∙ ap (λ l. Some (silent r.now l)) (work w target rest);
        }

  pub answer_taken : TakesAnswer known.processes table p answer there → HearsAnswer known (heard_state known table) p answer heard
  answer_taken k = λ s x stands found.
      let y = stood known s p k.one stands k.found in
      let both : Some y.x ≡ Some x = sym y.found ∙ found in
      let same : y.x ≡ x = cc in
      let drained : k.one.drained ≡ x.drained = ap (λ (z : Process). z.drained) y.same ∙ ap (λ (z : Process). z.drained) same in
      by s x stands found drained k.taken
    where
      by : (s : State) (x : Process) → Stands known s → process s p ≡ Some x → k.one.drained ≡ x.drained → ((k.one.drained ≡ false) × TakesOutput known.processes table p answer there) ⊎ ((k.one.drained ≡ true) × TakesToldEnd known.processes table p answer there) → HeardIn s p x answer (heard_state known table) heard
      by s x stands found same (inl (drained, t)) = output_taken s x stands found (sym same ∙ drained) t
      by s x stands found same (inr (drained, t)) = end_taken s x stands found (sym same ∙ drained) t

-- A KILL
pub kill_taken : (known : State) (table : List Process) (p : ℕ) (there : Entered) (entry : Entry) → ((rest : List Item) → entering (Some entry) rest ≡ entering_one p there rest) → TakesKill known.processes table p there → IsKilled known (killed_state known table) p entry
kill_taken known table p there entry same k = λ s x stands found.
    let d = k.machine s x (ap (λ (u : State). u.processes) stands) found in
    record {
      now = d.now;
      stands = killed_stands known s d.now table stands d.stands d.apart;
      goes = λ rest. d.goes rest ∙ ap (λ l. silent d.now l) (sym (same rest));
    }

-- something is entered
pub enters_one : (p : ℕ) (there : Entered) → there ≢ entered.None → ((rest : List Item) → rest ≡ entering_one p there rest) → ⊥
enters_one p entered.None some same = some refl
enters_one p (entered.Filter handler args) some same = let e = same [] in cc
enters_one p (entered.Sentinel handler args) some same = let e = same [] in cc
