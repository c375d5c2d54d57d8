-- Deletions of processes, and kills at the end of a run.
use Rattle.std.proofs.Common.{◌≡◌, ℕ, ◌+◌, ◌≤◌, List, [], ◌∷◌, length, Ok, refl, ap, sym, ◌∙◌, subst}
use Rattle.std.specs.Prelude.{Option, Some, None, option_map, is_some, Bool, true, false, codes}
use Rattle.std.proofs.lemmas.Option.{slice_get-map, slice_get_past}
use Rattle.std.proofs.lemmas.List.{length-map}
use Rattle.std.specs.Io.KnownBytes.{Appends}
use Rattle.plain_machine.specs.Exchanges.{Exchange, Kill, Answer, Bytes, Nothing, End, Code, Signal, Running, Started, Refused, Sent, Broken, Closed, Killed, Failed}
use Rattle.plain_machine.specs.State.{State, Program, Process, Status, Runs, Exited, Signalled, Lost, process}
use Rattle.plain_machine.specs.Arguments.{is_running, runs}
use Rattle.plain_machine.specs.Lines.{KilledLast, line}
use Rattle.plain_machine.specs.Items.{Item, Delete, Finish, WriteDump, Next, Asks}
use Rattle.plain_machine.specs.Calls.{on, silent}
use Rattle.plain_machine.specs.Forms.{says}
use Rattle.plain_machine.specs.Step.{step}
use Rattle.plain_machine.specs.Run.{same_ask}
use Rattle.plain_machine.specs.Waits.{delete_one, delete_running, ends, finish_one, finish_running, kill_answer}
use Rattle.ek_types.specs.Io.{SinkState, Writes}
use Rattle.process_table.specs.Table.{kept}
use Rattle.kernel_steps.specs.Outside.{deepest}
use Rattle.kernel_steps.specs.Waits.{entry_item}
use Rattle.kernel_steps.specs.Work.{working}
use Rattle.kernel_steps.specs.Worlds.{Stands}
use Rattle.kernel_steps.specs.declared.kernel.Entry.{Entry}
use Rattle.trace_check.specs.Answers.{Deletes, IsKilled, may_kill}
use Rattle.kernel_steps.proofs.Journeys.{lines_of_one}
use Rattle.kernel_steps.proofs.KeptStates.{kill_kept}
use Rattle.trace_check.specs.Steps.{Comes, Quietly}
use Rattle.trace_check.specs.declared.turn.Done.TheVariants as done
use Rattle.trace_check.proofs.Agreement.{ask_equal}
use Rattle.trace_check.proofs.Quiet.{stays_put}
use Rattle.trace_check.proofs.WaitItems.{known_process}

-- ANSWERS
pub kill_taken : (next : Next) (answer : Answer) → may_kill answer ≡ true → kill_answer next answer ≡ Some next
kill_taken next Killed h = refl
kill_taken next Failed h = refl
kill_taken next (Bytes bytes) h = absurd (let e : false ≡ true = h in cc)
kill_taken next Nothing h = absurd (let e : false ≡ true = h in cc)
kill_taken next End h = absurd (let e : false ≡ true = h in cc)
kill_taken next (Code n) h = absurd (let e : false ≡ true = h in cc)
kill_taken next Signal h = absurd (let e : false ≡ true = h in cc)
kill_taken next Running h = absurd (let e : false ≡ true = h in cc)
kill_taken next (Started c) h = absurd (let e : false ≡ true = h in cc)
kill_taken next Refused h = absurd (let e : false ≡ true = h in cc)
kill_taken next Sent h = absurd (let e : false ≡ true = h in cc)
kill_taken next Broken h = absurd (let e : false ≡ true = h in cc)
kill_taken next Closed h = absurd (let e : false ≡ true = h in cc)

pub kill_barred : (next : Next) (answer : Answer) → may_kill answer ≡ false → kill_answer next answer ≡ None
kill_barred next Killed h = absurd (let e : true ≡ false = h in cc)
kill_barred next Failed h = absurd (let e : true ≡ false = h in cc)
kill_barred next (Bytes bytes) h = refl
kill_barred next Nothing h = refl
kill_barred next End h = refl
kill_barred next (Code n) h = refl
kill_barred next Signal h = refl
kill_barred next Running h = refl
kill_barred next (Started c) h = refl
kill_barred next Refused h = refl
kill_barred next Sent h = refl
kill_barred next Broken h = refl
kill_barred next Closed h = refl

-- a process that runs
pub record IsRun (s : State) (p : ℕ) (child : ℕ) : Type 0 where
  pub one : Process
  pub there : process s p ≡ Some one
  pub status : one.status ≡ Runs
  pub child_is : one.child ≡ child

runs_is : (status : Status) → runs status ≡ true → status ≡ Runs
runs_is Runs h = refl
runs_is (Exited n) h = absurd (let e : false ≡ true = h in cc)
runs_is Signalled h = absurd (let e : false ≡ true = h in cc)
runs_is Lost h = absurd (let e : false ≡ true = h in cc)

pub running_known : (known s : State) (p : ℕ) (k : Process) → Stands known s → process known p ≡ Some k → is_running known p ≡ true → IsRun s p k.child
running_known known s p k h there runs_now =
    let found = known_process known s p k h there in
    let same : is_running known p ≡ runs k.status = ap (λ o. elim o [ Some x ↦ runs x.status | None ↦ false ]) there in
    record {
      one = found.one;
      there = found.there;
      status = runs_is found.one.status (ap (λ (y : Process). runs y.status) (sym found.is) ∙ sym same ∙ runs_now);
      child_is = ap (λ (y : Process). y.child) (sym found.is);
    }

-- one that was made and doesn't run, or wasn't made
module _ (s : State) (p : ℕ) (rest : List Item) where
  idle_status : (status : Status) (x : Process) → runs status ≡ false → delete_running status s p x rest ≡ on s rest
  idle_status Runs x h = absurd (let e : true ≡ false = h in cc)
  idle_status (Exited n) x h = refl
  idle_status Signalled x h = refl
  idle_status Lost x h = refl

  idle : (o : Option Process) → (elim o [ Some x ↦ runs x.status | None ↦ false ]) ≡ false → delete_one s p o rest ≡ on s rest
  idle None h = refl
  idle (Some x) h = idle_status x.status x h

  finish_idle_status : (program : Program) (status : Status) (x : Process) → runs status ≡ false → finish_running program status s p x ≡ on s (Finish (p + 1) ∷ [])
  finish_idle_status program Runs x h = absurd (let e : true ≡ false = h in cc)
  finish_idle_status program (Exited n) x h = refl
  finish_idle_status program Signalled x h = refl
  finish_idle_status program Lost x h = refl

abbrev by_status : Option Process → Bool
by_status o = elim o [ Some x ↦ runs x.status | None ↦ false ]

running_alike : (known s : State) (p : ℕ) → Stands known s → is_running known p ≡ is_running s p
running_alike known s p h = ap (λ t. is_running t p) h ∙ ap by_status (slice_get-map kept s.processes p) ∙ go (process s p)
  where
    go : (o : Option Process) → by_status (option_map kept o) ≡ by_status o
    go None = refl
    go (Some x) = refl

module _ (program : Program) (known : State) (p : ℕ) (rest : List Item) where
  pub nothing_deleted : is_running known p ≡ false → Quietly program known known (Delete p ∷ rest) rest
  nothing_deleted stopped = stays_put program known _ rest (λ s h. idle s p rest (process s p) (sym (running_alike known s p h) ∙ stopped))

  abbrev killed_by : State → Option Process → Answer → Option Next
  killed_by s o answer = elim o [ None ↦ None | Some x ↦ kill_answer (ends s p x Signalled (codes "killed\n") rest) answer ]

  abbrev pub kill_goes : State → Answer → Option Next
  kill_goes s answer = killed_by s (process s p) answer

  pub kill_asks : (k : Process) → process known p ≡ Some k → is_running known p ≡ true → (s : State) → Stands known s → step program deepest (working s (Delete p ∷ rest)) ≡ Asks (Kill k.child) (kill_goes s)
  kill_asks k there runs_now s h =
      let one = running_known known s p k h there runs_now in
      ap (λ o. delete_one s p o rest) one.there
      ∙ ap (λ status. delete_running status s p one.one rest) one.status
      ∙ ap (λ c. Asks (Kill c) (killed_by s (Some one.one))) one.child_is
      ∙ ap (λ o. Asks (Kill k.child) (killed_by s o)) (sym one.there)

  pub kill_goes_on : (known2 : State) (left : List Item) (k : Process) (answer : Answer) → process known p ≡ Some k → is_running known p ≡ true → may_kill answer ≡ true → Deletes known known2 p rest left → (s : State) → Stands known s →
      (t : State) × Stands known2 t × (kill_goes s answer ≡ Some (silent t left))
  kill_goes_on known2 left k answer there runs_now may deletes s h =
      let one = running_known known s p k h there runs_now in
      let (t, stands, so) = deletes s one.one h one.there in
      (t, stands, ap (λ o. killed_by s o answer) one.there ∙ kill_taken (ends s p one.one Signalled (codes "killed\n") rest) answer may ∙ ap Some so)

  pub kill_goes_nowhere : (k : Process) (answer : Answer) → process known p ≡ Some k → is_running known p ≡ true → may_kill answer ≡ false → (s : State) → Stands known s → kill_goes s answer ≡ None
  kill_goes_nowhere k answer there runs_now barred s h =
      let one = running_known known s p k h there runs_now in
      ap (λ o. killed_by s o answer) one.there ∙ kill_barred (ends s p one.one Signalled (codes "killed\n") rest) answer barred

-- the sentinel of the killed process is in front
pub killed_put : (known known2 : State) (p : ℕ) (entry : Entry) (rest left : List Item) → IsKilled known known2 p entry → left ≡ entry_item entry ∷ rest → Deletes known known2 p rest left
killed_put known known2 p entry rest left killed e = λ s x h there.
    let one = killed s x h there in
    (one.now, one.stands, one.goes rest ∙ ap (silent one.now) (sym e))

-- AT THE END OF A RUN
module _ (program : Program) (known : State) (p : ℕ) (rest left : List Item) where
  pub finish_over : length known.processes ≤ p → left ≡ WriteDump ∷ [] → Quietly program known known (Finish p ∷ rest) left
  finish_over past e = stays_put program known _ left (λ s h.
      let none : process s p ≡ None = slice_get_past s.processes p (subst (λ n. n ≤ p) (ap (λ (t : State). length t.processes) h ∙ length-map s.processes kept) past) in
      ap (finish_one program s p) none ∙ ap (on s) (sym e))

  finish_stopped : (s : State) (o : Option Process) → is_some o ≡ true → (elim o [ Some x ↦ runs x.status | None ↦ false ]) ≡ false → finish_one program s p o ≡ on s (Finish (p + 1) ∷ [])
  finish_stopped s None made h = absurd (let e : false ≡ true = made in cc)
  finish_stopped s (Some x) made h = finish_idle_status s p [] program x.status x h

  pub finish_next : (k : Process) → process known p ≡ Some k → is_running known p ≡ false → left ≡ Finish (p + 1) ∷ [] → Quietly program known known (Finish p ∷ rest) left
  finish_next k there stopped e = stays_put program known _ left (λ s h.
      let found = known_process known s p k h there in
      finish_stopped s (process s p) (ap is_some found.there) (sym (running_alike known s p h) ∙ stopped) ∙ ap (on s) (sym e))

  abbrev told : State → Next
  told s = says program s (KilledLast p) s (Finish (p + 1) ∷ [])

  abbrev finish_by : State → Option Process → Answer → Option Next
  finish_by s o answer = elim o [ None ↦ None | Some x ↦ kill_answer (told s) answer ]

  abbrev pub finish_goes : State → Answer → Option Next
  finish_goes s answer = finish_by s (process s p) answer

  pub finish_asks : (k : Process) → process known p ≡ Some k → is_running known p ≡ true → (s : State) → Stands known s → step program deepest (working s (Finish p ∷ rest)) ≡ Asks (Kill k.child) (finish_goes s)
  finish_asks k there runs_now s h =
      let one = running_known known s p k h there runs_now in
      ap (finish_one program s p) one.there
      ∙ ap (λ status. finish_running program status s p one.one) one.status
      ∙ ap (λ c. Asks (Kill c) (finish_by s (Some one.one))) one.child_is
      ∙ ap (λ o. Asks (Kill k.child) (finish_by s o)) (sym one.there)

  pub finish_goes_nowhere : (k : Process) (answer : Answer) → process known p ≡ Some k → is_running known p ≡ true → may_kill answer ≡ false → (s : State) → Stands known s → finish_goes s answer ≡ None
  finish_goes_nowhere k answer there runs_now barred s h =
      let one = running_known known s p k h there runs_now in
      ap (λ o. finish_by s o answer) one.there ∙ kill_barred (told s) answer barred

  -- the kill is told
  pub finish_told : (E : Type 0) {F T : Type 0} (y : T) (next : Option Exchange) (k : Process) → process known p ≡ Some k → is_running known p ≡ true → (x : Exchange) → next ≡ Some x → same_ask (Kill k.child) x.ask ≡ true → may_kill x.answer ≡ true → left ≡ Finish (p + 1) ∷ [] →
      (old new : SinkState) → Writes {T = T} {E = F} old new (Ok y) (line program.symbols known (KilledLast p)) → Comes {E = E} (Ok done.Answered) program next known known (Finish p ∷ rest) left old new
  finish_told E y next k there runs_now x is same may e old new written = (
    x,
    is,
    λ s h. (
        let one = running_known known s p k h there runs_now in
        let line_is : line program.symbols known (KilledLast p) ≡ line program.symbols s (KilledLast p) = ap (λ t. line program.symbols t (KilledLast p)) h ∙ kill_kept program.symbols s p in
        record {
          next = told s;
          steps = (finish_goes s, finish_asks k there runs_now s h ∙ ap (λ a. Asks a (finish_goes s)) (ask_equal (Kill k.child) x.ask same), ap (λ o. finish_by s o x.answer) one.there ∙ kill_taken (told s) x.answer may);
          stands = h;
          left_is = sym e;
          written = subst (λ l. Appends old.held new.held l) (line_is ∙ sym (lines_of_one (record { event = KilledLast p; line = line program.symbols s (KilledLast p) }))) written.ok;
        }
        ),
  )
