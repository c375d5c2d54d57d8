-- Asking a child, and killing it: from the processes and the host to the steps of the machine.
use Rattle.std.proofs.Common.{◌≡◌, ℕ, zero, suc, ◌+◌, ◌<◌, ◌≤◌, Bool, true, false, List, [], ◌∷◌, length, All, slice_get, slice_set, refl, ap, sym, ◌∙◌, subst, arith, inl, inr}
use Rattle.std.specs.Prelude.{◌⊎◌, Option, Some, None, codes, nat_lt}
use Rattle.std.proofs.lemmas.Bool.{false≢true, le-ltb}
use Rattle.std.proofs.lemmas.Option.{slice_get_past}
use Rattle.std.proofs.lemmas.List.{length-set}
use Rattle.std.proofs.lemmas.List.Elements.{All-set}
use Rattle.text_model.proofs.Lists.{All-slice_get}
use Rattle.plain_machine.specs.Exchanges.{Ask, Answer, Read, AskEnd, Kill}
use Rattle.plain_machine.specs.State.{State, Program, Process, Status, Runs, Exited, Signalled, Lost, process}
use Rattle.plain_machine.specs.Arguments.{runs, is_running, child_of}
use Rattle.plain_machine.specs.Items.{Item, Wait, Delete, Target, Waiting, Next, Asks}
use Rattle.plain_machine.specs.Calls.{silent, on}
use Rattle.plain_machine.specs.Refusals.{may_ask}
use Rattle.plain_machine.specs.Waits.{ask_if, ask_next, ask_process, read_answer, end_answer, ends, delete_one, delete_running, kill_answer}
use Rattle.plain_machine.specs.Run.{stays, goes}
use Rattle.process_table.specs.Meaning.{status_of}
use Rattle.process_table.specs.declared.process.Status as declared
use Rattle.process_table.specs.declared.process.Status.TheVariants as written
use Rattle.process_table.specs.Table.{kept, StandsFor, with_table, changed, with_status}
use Rattle.process_table.proofs.Standing.{one_stands}
use Rattle.wait_loop.specs.KeptWaits.{noted}
use Rattle.wait_loop.specs.Rounds.{Leads}
use Rattle.wait_loop.specs.declared.rounds.Step.TheVariants as turn
use Rattle.host_link.specs.Hosts.{HostState, Exchanged, ended_answer, kill_answer as told_kill}
use Rattle.host_link.specs.declared.host.KillAnswer.{KillAnswer}
use Rattle.handler_run.specs.Asking.{TouchesIf, HearsOutput, HearsEnd, Hears, Kills}
use Rattle.handler_run.specs.Entries.{entering}
use Rattle.handler_run.specs.declared.entry.Entry.{Entry}
use Rattle.handler_run.specs.declared.asking.Heard.{Heard}
use Rattle.ek_types.specs.Io.{SinkState}
use Rattle.kernel_steps.specs.HostCalls.{CallsSince}
use Rattle.kernel_steps.specs.Outside.{Past, outside, Goes}
use Rattle.kernel_steps.specs.Worlds.{World, Stands, kept_state, Hosted, Keeps}
use Rattle.kernel_steps.specs.Work.{working, at_item, GoesTo}
use Rattle.kernel_steps.proofs.Finishing.{hosted_below, answered_kill}
use Rattle.kernel_steps.proofs.HostCalls.{adds_call}
use Rattle.kernel_steps.proofs.Hosting.{hosted_set}
use Rattle.kernel_steps.proofs.Journeys.{AddsOne, asked, goes_silently, goes_then}
use Rattle.kernel_steps.proofs.KeptProcesses.{running_kept_at}
use Rattle.kernel_steps.proofs.Passing.{child_found}
use Rattle.kernel_steps.proofs.Works.{Went, went_silently}

-- CHILDREN
set_before : (xs : List Bool) (i j : ℕ) (x : Bool) → j < i → slice_get (slice_set xs i x) j ≡ slice_get xs j
set_before [] i j x h = refl
set_before (z ∷ xs) zero j x h = absurd (omega (arith, h))
set_before (z ∷ xs) (suc i) zero x h = refl
set_before (z ∷ xs) (suc i) (suc j) x h = set_before xs i j x (omega (arith, h))

-- a process that ends by a kill of its child
hosted_killed : (xs : List Process) (p : ℕ) (x : Process) (kills : List Bool) → slice_get xs p ≡ Some x → Hosted xs kills → Hosted (slice_set xs p (with_status Signalled x)) (slice_set kills x.child true)
hosted_killed [] p x kills e h = tt
hosted_killed (z ∷ xs) zero x kills e (small, lives, later, rest) =
    let same : z ≡ x = let s : Some z ≡ Some x = e in cc in
    let number : z.child ≡ x.child = ap (λ (v : Process). v.child) same in (
      omega (arith, small, number, length-set kills x.child true),
      λ r. absurd (false≢true r),
      subst (λ n. All (λ (v : Process). n < v.child) xs) number later,
      hosted_below x.child xs kills (subst (λ n. All (λ (v : Process). n < v.child) xs) number later) rest,
    )
hosted_killed (z ∷ xs) (suc p) x kills e (small, lives, later, rest) =
    let one : z.child < x.child = All-slice_get (λ (v : Process). z.child < v.child) xs p x later e in (
      omega (arith, small, length-set kills x.child true),
      λ r. set_before kills x.child z.child true one ∙ lives r,
      All-set (λ (v : Process). z.child < v.child) xs p (with_status Signalled x) one later,
      hosted_killed xs p x kills e rest,
    )

abbrev changed_by : (change : Process → Process) → List Process → (p : ℕ) → Option Process → State
changed_by change old p o = elim o [ None ↦ with_table old | Some x ↦ record (with_table old) { processes = slice_set old p (change x) } ]

changed_size : (change : Process → Process) (old : List Process) (p : ℕ) → length (changed p change old) ≡ length old
changed_size change old p = by (slice_get old p)
  where
    by : (o : Option Process) → length (changed_by change old p o).processes ≡ length old
    by None = refl
    by (Some x) = length-set old p (change x)

changed_hosted : (change : Process → Process) (old : List Process) (p : ℕ) (kills : List Bool) → ((x : Process) → (change x).child ≡ x.child) → ((x : Process) → runs (change x).status ≡ true → runs x.status ≡ true) → Hosted old kills → Hosted (changed p change old) kills
changed_hosted change old p kills child still h = by (slice_get old p) refl
  where
    by : (o : Option Process) → slice_get old p ≡ o → Hosted (changed_by change old p o).processes kills
    by None e = h
    by (Some x) e = hosted_set old p x (change x) kills e (child x) (still x) h

touched_size : (p : ℕ) (old new : List Process) → TouchesIf p old new → length new ≡ length old
touched_size p old new (inl e) = ap length e
touched_size p old new (inr t) = ap length t.same ∙ changed_size t.change old p

touched_hosted : (p : ℕ) (old new : List Process) (kills : List Bool) → TouchesIf p old new → Hosted old kills → Hosted new kills
touched_hosted p old new kills (inl e) h = subst (λ l. Hosted l kills) (sym e) h
touched_hosted p old new kills (inr t) h = subst (λ l. Hosted l kills) (sym t.same) (changed_hosted t.change old p kills t.child t.ends h)

-- ONE PROCESS
-- the machine's process of a number, where the kernel has one
pub record Stood (known s : State) (p : ℕ) (one : Process) : Type 0 where
  pub x : Process
  pub found : process s p ≡ Some x
  pub same : one ≡ kept x

pub stood : (known s : State) (p : ℕ) (one : Process) → Stands known s → slice_get known.processes p ≡ Some one → Stood known s p one
stood known s p one stands e = let (x, found, same) = one_stands known.processes s p one (ap (λ (t : State). t.processes) stands) e in record { x = x; found = found; same = same }

may_alike : (known s : State) → Stands known s → may_ask known ≡ true → may_ask s ≡ true
may_alike known s stands may = ap (λ (t : State). may_ask t) (sym stands) ∙ may

-- A QUESTION
abbrev pub heard_state : State → List Process → State
heard_state s table = record s { processes = table; asked = s.asked + 1 }

pub heard_stands : (known s t : State) (table : List Process) → Stands known s → StandsFor table t.processes → t ≡ heard_state s t.processes → Stands (heard_state known table) t
heard_stands known s t table stands same apart = ap (λ (u : State). heard_state u table) stands ∙ ap (heard_state (kept_state s)) same ∙ ap kept_state (sym apart)

-- one process is asked, at once or as a round begins
asked_goes : (program : Program) (sink : SinkState) (old new : Past) (s t : State) (w v : Waiting) (target : Target) (rest work : List Item) (p : ℕ) (ask : Ask) (answer : Answer) (next : Answer → Option Next) →
    Leads s w (turn.Ask p) v → ask_process s v target rest p ≡ Asks ask next → next answer ≡ Some (silent t work) → AddsOne old new ask answer →
    Goes program (outside sink old) (outside sink new) (working s (Wait w target ∷ rest)) (working t work)
asked_goes program sink old new s t w v target rest work p ask answer next (inl a) e k x = asked program sink old new (working s (Wait w target ∷ rest)) ask answer next (silent t work) (a target rest ∙ e) k refl x
asked_goes program sink old new s t w v target rest work p ask answer next (inr (u, (g, a))) e k x =
    goes_then program (outside sink old) (outside sink old) (outside sink new) (working s (Wait w target ∷ rest)) (working s (Wait u target ∷ rest)) (working t work)
    (goes_silently program (outside sink old) (working s (Wait w target ∷ rest)) (working s (Wait u target ∷ rest)) (goes (g target rest) stays))
    (asked program sink old new (working s (Wait u target ∷ rest)) ask answer next (silent t work) (a target rest ∙ e) k refl x)

module _ {H : Type 0} (state : H → HostState) (made : H → H → Ask → ℕ → Answer → Type 0) (start host host2 : H) (program : Program) (known : State) (sink : SinkState) (table : List Process) (p : ℕ) where
  abbrev pub before : World
  before = record { state = known; kills = (state host).kills; outside = outside sink (CallsSince state made start host) }

  abbrev pub now : World
  now = record { state = heard_state known table; kills = (state host2).kills; outside = outside sink (CallsSince state made start host2) }

  heard_keeps : TouchesIf p known.processes table → (state host2).kills ≡ (state host).kills → Hosted known.processes (state host).kills → Keeps before now
  heard_keeps touched same hosted = record {
    hosted = subst (λ k. Hosted table k) (sym same) (touched_hosted p known.processes table (state host).kills touched hosted);
    count = omega (arith, ap length same, touched_size p known.processes table touched);
    depth = refl;
    inhibited = refl;
    asked = omega arith;
  }

  module _ (heard : Heard) where
    pub hears_keeps : Hears state made host host2 known.processes table p heard → Hosted known.processes (state host).kills → Keeps before now
    hears_keeps h hosted = by h.answered
      where
        by : ((h.one.drained ≡ false) × HearsOutput state made host host2 known.processes table p heard) ⊎ ((h.one.drained ≡ true) × HearsEnd state made host host2 known.processes table p heard) → Keeps before now
        by (inl (drained, k)) = heard_keeps k.takes.touches k.exchanged.kills hosted
        by (inr (drained, k)) = heard_keeps k.takes.touches k.exchanged.kills hosted

    module _ (s : State) (w v : Waiting) (target : Target) (rest : List Item) (may : may_ask known ≡ true) (stands : Stands known s) (leads : Leads s w (turn.Ask p) v) where
      abbrev going : Type 0
      going = GoesTo program before now (working s (Wait w target ∷ rest)) (λ t. working t (entering p heard.entry (Wait (noted p heard.bytes v) target ∷ rest)))

      ask_step : (x : Process) (drained : Bool) → process s p ≡ Some x → x.drained ≡ drained → ask_process s v target rest p ≡ ask_next drained s v target rest p x
      ask_step x drained found is = ap (λ b. ask_if b (process s p) s v target rest p) (may_alike known s stands may) ∙ ap (λ o. ask_if true o s v target rest p) found ∙ ap (λ b. ask_next b s v target rest p x) is

      child_is : (one : Process) (y : Stood known s p one) → process (with_table known.processes) p ≡ Some one → y.x.child ≡ child_of (with_table known.processes) p
      child_is one y found = ap (λ (z : Process). z.child) (sym y.same) ∙ sym (child_found (with_table known.processes) p one found)

      output_goes : (one : Process) → process (with_table known.processes) p ≡ Some one → one.drained ≡ false → HearsOutput state made host host2 known.processes table p heard → going
      output_goes one found drained k =
          let y = stood known s p one stands found in
          let undrained : y.x.drained ≡ false = ap (λ (z : Process). z.drained) (sym y.same) ∙ drained in
          let r = k.takes.machine s y.x (ap (λ (t : State). t.processes) stands) y.found undrained in
          record {
            state = r.now;
            stands = heard_stands known s r.now table stands r.stands r.apart;
            goes = asked_goes program sink (CallsSince state made start host) (CallsSince state made start host2) s r.now w v target rest (entering p heard.entry (Wait (noted p heard.bytes v) target ∷ rest)) p (Read (child_of (with_table known.processes) p)) k.answer (read_answer s v target rest p y.x) leads
                (ask_step y.x false y.found undrained ∙ ap (λ c. Asks (Read c) (read_answer s v target rest p y.x)) (child_is one y found))
                (r.goes v target rest ∙ ap (λ b. Some (silent r.now (entering p heard.entry (Wait (noted p b v) target ∷ rest)))) (sym k.takes.bytes))
                (adds_call state made start host host2 (state host).kills (Read (child_of (with_table known.processes) p)) k.answer refl tt k.exchanged k.called);
          }

      end_goes : (one : Process) → process (with_table known.processes) p ≡ Some one → one.drained ≡ true → HearsEnd state made host host2 known.processes table p heard → going
      end_goes one found drained k =
          let y = stood known s p one stands found in
          let all_read : y.x.drained ≡ true = ap (λ (z : Process). z.drained) (sym y.same) ∙ drained in
          let r = k.takes.machine s y.x (ap (λ (t : State). t.processes) stands) y.found in
          record {
            state = r.now;
            stands = heard_stands known s r.now table stands r.stands r.apart;
            goes = asked_goes program sink (CallsSince state made start host) (CallsSince state made start host2) s r.now w v target rest (entering p heard.entry (Wait (noted p heard.bytes v) target ∷ rest)) p (AskEnd (child_of (with_table known.processes) p)) (ended_answer k.how) (end_answer s v target rest p y.x) leads
                (ask_step y.x true y.found all_read ∙ ap (λ c. Asks (AskEnd c) (end_answer s v target rest p y.x)) (child_is one y found))
                (r.goes v target rest ∙ ap (λ b. Some (silent r.now (entering p heard.entry (Wait (noted p b v) target ∷ rest)))) (sym k.takes.bytes))
                (adds_call state made start host host2 (state host).kills (AskEnd (child_of (with_table known.processes) p)) (ended_answer k.how) refl tt k.exchanged k.called);
          }

      hears_goes : Hears state made host host2 known.processes table p heard → going
      hears_goes h = by h.answered
        where
          by : ((h.one.drained ≡ false) × HearsOutput state made host host2 known.processes table p heard) ⊎ ((h.one.drained ≡ true) × HearsEnd state made host host2 known.processes table p heard) → going
          by (inl (drained, k)) = output_goes h.one h.found drained k
          by (inr (drained, k)) = end_goes h.one h.found drained k

      pub hears_enters : (more : List Item) → more ≡ entering p heard.entry (Wait (noted p heard.bytes v) target ∷ rest) → Hears state made host host2 known.processes table p heard → GoesTo program before now (working s (Wait w target ∷ rest)) (λ t. working t more)
      hears_enters more is h = subst (λ l. GoesTo program before now (working s (Wait w target ∷ rest)) (λ t. working t l)) (sym is) (hears_goes h)

-- A KILL
abbrev pub killed_state : State → List Process → State
killed_state s table = record s { processes = table }

pub killed_stands : (known s t : State) (table : List Process) → Stands known s → StandsFor table t.processes → t ≡ killed_state s t.processes → Stands (killed_state known table) t
killed_stands known s t table stands same apart = ap (λ (u : State). killed_state u table) stands ∙ ap (killed_state (kept_state s)) same ∙ ap kept_state (sym apart)

resting : (status : Status) (s : State) (p : ℕ) (x : Process) (rest : List Item) → runs status ≡ false → delete_running status s p x rest ≡ on s rest
resting Runs s p x rest e = absurd (false≢true (sym e))
resting (Exited n) s p x rest e = refl
resting Signalled s p x rest e = refl
resting Lost s p x rest e = refl

running : (status : Status) (s : State) (p : ℕ) (x : Process) (rest : List Item) → runs status ≡ true → delete_running status s p x rest ≡ Asks (Kill x.child) (kill_answer (ends s p x Signalled (codes "killed\n") rest))
running Runs s p x rest e = refl
running (Exited n) s p x rest e = absurd (false≢true e)
running Signalled s p x rest e = absurd (false≢true e)
running Lost s p x rest e = absurd (false≢true e)

rests_by : (s : State) (p : ℕ) (rest : List Item) (o : Option Process) → (elim o [ None ↦ false | Some x ↦ runs x.status ]) ≡ false → delete_one s p o rest ≡ on s rest
rests_by s p rest None e = refl
rests_by s p rest (Some x) e = resting x.status s p x rest e

-- a process that doesn't run is left alone
pub rests_went : (program : Program) (w : World) (p : ℕ) → is_running w.state p ≡ false → Went program w w (at_item (Delete p)) (λ s rest. working s rest)
rests_went program w p over = went_silently program w w.state (λ s. s) (at_item (Delete p)) (λ s rest. working s rest) (λ s h. h)
    (λ s rest h. goes (rests_by s p rest (process s p) (sym (running_kept_at s p) ∙ ap (λ (t : State). is_running t p) (sym h) ∙ over)) stays)

pub running_found : (s : State) (p : ℕ) (x : Process) → slice_get s.processes p ≡ Some x → is_running s p ≡ runs x.status
running_found s p x e = ap (λ o. elim o [ None ↦ false | Some y ↦ runs y.status ]) e

unlike_runs : (status : declared.Status) → (status ≡ written.Run → ⊥) → runs (status_of status) ≡ false
unlike_runs written.Run never = absurd (never refl)
unlike_runs (written.Exit n) never = refl
unlike_runs written.Signal never = refl
unlike_runs written.Failed never = refl

pub runs_not : (s : State) (p : ℕ) (x : Process) (status : declared.Status) → slice_get s.processes p ≡ Some x → status_of status ≡ x.status → (status ≡ written.Run → ⊥) → is_running s p ≡ false
runs_not s p x status found is never = running_found s p x found ∙ ap runs (sym is) ∙ unlike_runs status never

pub past_runs : (s : State) (p n : ℕ) → n ≡ length s.processes → n ≤ p → nat_lt p n ≡ is_running s p
past_runs s p n is past = le-ltb p n past ∙ sym (ap (λ o. elim o [ None ↦ false | Some x ↦ runs x.status ]) (slice_get_past s.processes p (omega (arith, is, past))))

lives_at : (xs : List Process) (kills : List Bool) (p : ℕ) (x : Process) → Hosted xs kills → slice_get xs p ≡ Some x → runs x.status ≡ true → slice_get kills x.child ≡ Some false
lives_at [] kills p x h e r = absurd (let n : None ≡ Some x = e in cc)
lives_at (y ∷ xs) kills zero x h e r =
    let same : y ≡ x = (let n : Some y ≡ Some x = e in cc) in
    subst (λ (z : Process). slice_get kills z.child ≡ Some false) same (h.1 (ap (λ (z : Process). runs z.status) same ∙ r))
lives_at (y ∷ xs) kills (suc p) x h e r = lives_at xs kills p x h.3 e r

-- a process that runs was made
record IsRunning (s : State) (p : ℕ) : Type 0 where
  pub one : Process
  pub found : slice_get s.processes p ≡ Some one
  pub runs : runs one.status ≡ true

one_running : (s : State) (p : ℕ) → is_running s p ≡ true → IsRunning s p
one_running s p running = by (slice_get s.processes p) refl running
  where
    by : (o : Option Process) → slice_get s.processes p ≡ o → (elim o [ None ↦ false | Some x ↦ runs x.status ]) ≡ true → IsRunning s p
    by None e h = absurd (false≢true h)
    by (Some x) e h = record { one = x; found = e; runs = h }

-- and its child lives
pub child_lives : (s : State) (kills : List Bool) (p : ℕ) → Hosted s.processes kills → is_running s p ≡ true → slice_get kills (child_of (with_table s.processes) p) ≡ Some false
child_lives s kills p hosted running =
    let r = one_running s p running in
    subst (λ c. slice_get kills c ≡ Some false) (sym (child_found (with_table s.processes) p r.one r.found)) (lives_at s.processes kills p r.one hosted r.found r.runs)

module _ {H : Type 0} (state : H → HostState) (made : H → H → Ask → ℕ → Answer → Type 0) (start host host2 : H) (program : Program) (known : State) (sink : SinkState) (table : List Process) (p : ℕ) where
  abbrev pub alive : World
  alive = record { state = known; kills = (state host).kills; outside = outside sink (CallsSince state made start host) }

  abbrev pub dead : World
  dead = record { state = killed_state known table; kills = (state host2).kills; outside = outside sink (CallsSince state made start host2) }

  module _ (entry : Entry) (runs_now : is_running known p ≡ true) (k : Kills state made host host2 known.processes table p entry) where
    which : IsRunning known p
    which = one_running known p runs_now

    abbrev one : Process
    one = which.one

    found : slice_get known.processes p ≡ Some one
    found = which.found

    abbrev how : KillAnswer
    how = k.how

    is_child : child_of (with_table known.processes) p ≡ one.child
    is_child = child_found (with_table known.processes) p one found

    exchanged : Exchanged (state host) (state host2) (slice_set (state host).kills one.child true) (Kill one.child) (told_kill how)
    exchanged = subst (λ c. Exchanged (state host) (state host2) (slice_set (state host).kills c true) (Kill c) (told_kill how)) is_child k.exchanged

    called : made host host2 (Kill one.child) 0 (told_kill how)
    called = subst (λ c. made host host2 (Kill c) 0 (told_kill how)) is_child k.called

    same : table ≡ changed p (with_status Signalled) known.processes
    same = k.takes.table

    pub kill_keeps : Hosted known.processes (state host).kills → Keeps alive dead
    kill_keeps hosted = record {
      hosted = subst (λ k. Hosted table k) (sym exchanged.kills) (subst (λ l. Hosted l (slice_set (state host).kills one.child true)) (sym same) (by (slice_get known.processes p) found));
      count = omega (arith, ap length exchanged.kills, length-set (state host).kills one.child true, ap length same, changed_size (with_status Signalled) known.processes p);
      depth = refl;
      inhibited = refl;
      asked = omega arith;
    }
      where
        by : (o : Option Process) → o ≡ Some one → Hosted (changed_by (with_status Signalled) known.processes p o).processes (slice_set (state host).kills one.child true)
        by None e = absurd (let n : None ≡ Some one = e in cc)
        by (Some x) e =
            let same : x ≡ one = (let n : Some x ≡ Some one = e in cc) in
            subst (λ (z : Process). Hosted (slice_set known.processes p (with_status Signalled z)) (slice_set (state host).kills one.child true)) (sym same) (hosted_killed known.processes p one (state host).kills found hosted)

    -- the sentinel of one that runs is entered, whatever the host answers
    pub kill_went : (more : List Item → List Item) → ((rest : List Item) → more rest ≡ entering p entry rest) → Went program alive dead (at_item (Delete p)) (λ s rest. working s (more rest))
    kill_went more is = record {
      comes = λ s rest stands behind.
          let y = stood known s p one stands found in
          let d = k.takes.machine s y.x (ap (λ (t : State). t.processes) stands) y.found in
          let runs_so : runs y.x.status ≡ true = ap (λ (z : Process). runs z.status) (sym y.same) ∙ which.runs in
          record {
            state = d.now;
            stands = killed_stands known s d.now table stands d.stands d.apart;
            goes = asked program sink (CallsSince state made start host) (CallsSince state made start host2) (working s (Delete p ∷ rest)) (Kill one.child) (told_kill how) (kill_answer (ends s p y.x Signalled (codes "killed\n") rest)) (silent d.now (more rest))
                (ap (λ o. delete_one s p o rest) y.found ∙ running y.x.status s p y.x rest runs_so ∙ ap (λ c. Asks (Kill c) (kill_answer (ends s p y.x Signalled (codes "killed\n") rest))) (ap (λ (z : Process). z.child) (sym y.same)))
                (answered_kill (ends s p y.x Signalled (codes "killed\n") rest) how ∙ ap Some (d.goes rest ∙ ap (λ l. silent d.now l) (sym (is rest))))
                refl
                (adds_call state made start host host2 (slice_set (state host).kills one.child true) (Kill one.child) (told_kill how) refl tt exchanged called);
          };
      later = omega arith;
    }
