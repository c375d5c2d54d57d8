-- The end of a run: which children are left, and how the machine kills them.
use Rattle.std.proofs.Common.{◌≡◌, ℕ, zero, suc, ◌+◌, ◌<◌, Bool, true, false, List, [], ◌∷◌, ◌++◌, length, drop, All, slice_get, slice_set, refl, ap, sym, ◌∙◌, subst, arith, append-nil, append_assoc, inl, inr, map, option_map}
use Rattle.std.specs.Prelude.{Option, Some, None, ◌⊎◌, if◌then◌else◌}
use Rattle.std.proofs.lemmas.Bool.{lt-ltb, false≢true}
use Rattle.std.proofs.lemmas.Option.{slice_get-map}
use Rattle.std.proofs.lemmas.List.{drop-map}
use Rattle.std.proofs.lemmas.List.Elements.{All-nil, All-cons, All-append}
use Rattle.text_model.specs.Properties.{insert_name}
use Rattle.text_model.proofs.Lists.{drop_at}
use Rattle.plain_machine.specs.Exchanges.{Exchange, Answer, Kill, Killed, Failed, rising}
use Rattle.plain_machine.specs.Arguments.{runs}
use Rattle.plain_machine.specs.State.{State, Process, Status, Runs, Exited, Signalled, Lost, Program}
use Rattle.plain_machine.specs.Lines.{KilledLast, line}
use Rattle.plain_machine.specs.Items.{Finish, Said, Config, Next, Asks}
use Rattle.plain_machine.specs.Calls.{on}
use Rattle.plain_machine.specs.Forms.{says}
use Rattle.plain_machine.specs.Waits.{kill_answer, finish_one, finish_running}
use Rattle.plain_machine.specs.Step.{step}
use Rattle.plain_machine.specs.Run.{Reaches, stays, goes}
use Rattle.plain_machine.specs.WholeRuns.{AreKills}
use Rattle.process_table.specs.Table.{kept}
use Rattle.machine_laws.specs.Children.{to_kill}
use Rattle.host_link.specs.Hosts.{kill_answer as told_kill}
use Rattle.host_link.specs.declared.host.KillAnswer.{KillAnswer}
use Rattle.host_link.specs.declared.host.KillAnswer.TheVariants as killed
use Rattle.ek_types.specs.Io.{SinkState}
use Rattle.kernel_steps.specs.Outside.{deepest, Past, Outside, outside, Breaks}
use Rattle.kernel_steps.specs.Worlds.{Hosted, Stands, children, running}
use Rattle.kernel_steps.specs.Work.{working}
use Rattle.kernel_steps.specs.Ending.{IsAnsweredKill, Halts}
use Rattle.kernel_steps.specs.declared.stop.Stop.{Stop}
use Rattle.kernel_steps.proofs.Journeys.{AddsOne, adds_then}
use Rattle.kernel_steps.proofs.KeptStates.{running_kept}

-- CHILDREN BY RISING NUMBER
abbrev Below : ℕ → List ℕ → Type 0
Below n [] = Unit {0}
Below n (c ∷ cs) = (n < c) × Below n cs

abbrev AreRising : List ℕ → Type 0
AreRising [] = Unit {0}
AreRising (c ∷ cs) = Below c cs × AreRising cs

below_running : (n : ℕ) (list : List Process) → All (λ (y : Process). n < y.child) list → Below n (children (running list))
below_running n [] all = tt
below_running n (x ∷ list) all =
    by (runs x.status) (all 0 x (omega arith)) (below_running n list (λ i d h. all (suc i) d (omega (arith, h))))
  where
    by : (b : Bool) → n < x.child → Below n (children (running list)) → Below n (children (if b then x ∷ running list else running list))
    by true first rest = (first, rest)
    by false first rest = rest

rising_running : (list : List Process) (kills : List Bool) → Hosted list kills → AreRising (children (running list))
rising_running [] kills h = tt
rising_running (x ∷ list) kills (small, lives, later, rest) = by (runs x.status) (below_running x.child list later) (rising_running list kills rest)
  where
    by : (b : Bool) → Below x.child (children (running list)) → AreRising (children (running list)) → AreRising (children (if b then x ∷ running list else running list))
    by true below rest = (below, rest)
    by false below rest = rest

front : (c : ℕ) (cs : List ℕ) → Below c cs → insert_name c cs ≡ c ∷ cs
front c [] h = refl
front c (d ∷ cs) (less, rest) = rw (lt-ltb c d less) refl

sorted : (cs : List ℕ) → AreRising cs → rising cs ≡ cs
sorted [] h = refl
sorted (c ∷ cs) (below, rest) = ap (insert_name c) (sorted cs rest) ∙ front c cs below

pub sorted_children : (list : List Process) (kills : List Bool) → Hosted list kills → rising (children (running list)) ≡ children (running list)
sorted_children list kills h = sorted (children (running list)) (rising_running list kills h)

-- KILLS
get_other : (xs : List Bool) (i j : ℕ) (x : Bool) → i < j → slice_get (slice_set xs i x) j ≡ slice_get xs j
get_other [] i j x h = refl
get_other (z ∷ xs) zero zero x h = absurd (omega (arith, h))
get_other (z ∷ xs) zero (suc j) x h = refl
get_other (z ∷ xs) (suc i) zero x h = absurd (omega (arith, h))
get_other (z ∷ xs) (suc i) (suc j) x h = get_other xs i j x (omega (arith, h))

set_size : (xs : List Bool) (i : ℕ) (x : Bool) → length (slice_set xs i x) ≡ length xs
set_size [] i x = refl
set_size (z ∷ xs) zero x = refl
set_size (z ∷ xs) (suc i) x = ap suc (set_size xs i x)

pub hosted_below : (child : ℕ) (list : List Process) (kills : List Bool) → All (λ (y : Process). child < y.child) list → Hosted list kills → Hosted list (slice_set kills child true)
hosted_below child [] kills all h = tt
hosted_below child (x ∷ list) kills all (small, lives, later, rest) = (
  omega (arith, small, set_size kills child true),
  (λ r. get_other kills child x.child true (all 0 x (omega arith)) ∙ lives r),
  later,
  hosted_below child list kills (λ i d h. all (suc i) d (omega (arith, h))) rest,
)

-- THE PROCESS OF A NUMBER
module _ (list : List Process) (p : ℕ) (x : Process) (made : slice_get list p ≡ Some x) where
  split_hosted : (kills : List Bool) → Hosted (drop p list) kills → Hosted (x ∷ drop (p + 1) list) kills
  split_hosted kills h = subst (λ l. Hosted l kills) (drop_at list p x made) h

  pub lives : (kills : List Bool) → Hosted (drop p list) kills → runs x.status ≡ true → slice_get kills x.child ≡ Some false
  lives kills h r = (split_hosted kills h).1 r

  pub hosted_skip : (kills : List Bool) → Hosted (drop p list) kills → Hosted (drop (p + 1) list) kills
  hosted_skip kills h = (split_hosted kills h).3

  pub hosted_after : (kills : List Bool) → Hosted (drop p list) kills → Hosted (drop (p + 1) list) (slice_set kills x.child true)
  hosted_after kills h = let (small, alive, later, rest) = split_hosted kills h in hosted_below x.child (drop (p + 1) list) kills later rest

  left_by : children (running (drop p list)) ≡ children (if runs x.status then x ∷ running (drop (p + 1) list) else running (drop (p + 1) list))
  left_by = ap (λ l. children (running l)) (drop_at list p x made)

  pub left_skip : runs x.status ≡ false → children (running (drop p list)) ≡ children (running (drop (p + 1) list))
  left_skip e = left_by ∙ ap (λ b. children (if b then x ∷ running (drop (p + 1) list) else running (drop (p + 1) list))) e

  pub left_kill : runs x.status ≡ true → children (running (drop p list)) ≡ x.child ∷ children (running (drop (p + 1) list))
  left_kill e = left_by ∙ ap (λ b. children (if b then x ∷ running (drop (p + 1) list) else running (drop (p + 1) list))) e

-- HALTED RUNS
more_kills : (done : List ℕ) (kills : List Exchange) (c : ℕ) (answer : Answer) → AreKills done kills → AreKills (done ++ c ∷ []) (kills ++ record { ask = Kill c; answer = answer } ∷ [])
more_kills [] [] c answer h = (refl, tt)
more_kills [] (x ∷ kills) c answer h = absurd h
more_kills (d ∷ done) [] c answer h = absurd h
more_kills (d ∷ done) (x ∷ kills) c answer (first, rest) = (first, more_kills done kills c answer rest)

answered_so : (r : KillAnswer) → (told_kill r ≡ Killed) ⊎ (told_kill r ≡ Failed)
answered_so killed.Killed = inl refl
answered_so killed.Failed = inr refl

pub halts_kill : {why : Stop} (program : Program) (before : Outside) (sink : SinkState) (old new : Past) (from : Config) (c : ℕ) (left : List ℕ) (r : KillAnswer) → AddsOne old new (Kill c) (told_kill r) → Halts why program before (outside sink old) from (c ∷ left) → Halts why program before (outside sink new) from left
halts_kill program before sink old new from c left r x h = record {
  made = h.made;
  kills = h.kills ++ record { ask = Kill c; answer = told_kill r } ∷ [];
  said = h.said;
  last = h.last;
  run = h.run;
  between = h.between;
  bytes = h.bytes;
  front = h.front;
  came = h.came;
  written = h.written;
  adds = rw (append_assoc h.made h.kills (record { ask = Kill c; answer = told_kill r } ∷ [])) at (adds_then before.past old new (h.made ++ h.kills) (record { ask = Kill c; answer = told_kill r } ∷ []) h.adds x);
  later = h.later;
  roomy = h.roomy;
  done = h.done ++ c ∷ [];
  killed = more_kills h.done h.kills c (told_kill r) h.killed;
  answered = All-append IsAnsweredKill h.kills (record { ask = Kill c; answer = told_kill r } ∷ []) h.answered (All-cons IsAnsweredKill (record { ask = Kill c; answer = told_kill r }) [] (answered_so r) (All-nil IsAnsweredKill));
  living = h.living ∙ sym (append_assoc h.done (c ∷ []) left);
}

pub halts_as : {why : Stop} (program : Program) (before now : Outside) (from : Config) (left more : List ℕ) → left ≡ more → Halts why program before now from left → Halts why program before now from more
halts_as {why = why} program before now from left more e h = subst (Halts why program before now from) e h

-- broken off, with no kill made yet
pub halts_of : {why : Stop} (program : Program) (before now : Outside) (from : Config) (left : List ℕ) (b : Breaks why program before now from) → to_kill b.last ≡ left → Halts why program before now from left
halts_of program before now from left b e = record {
  made = b.made;
  kills = [];
  answered = All-nil IsAnsweredKill;
  said = b.said;
  last = b.last;
  run = b.run;
  between = b.between;
  bytes = b.bytes;
  front = b.front;
  came = b.came;
  written = b.written;
  adds = rw append-nil b.adds;
  later = b.later;
  roomy = b.roomy;
  done = [];
  killed = tt;
  living = e;
}

-- THE MACHINE'S STEPS
-- the machine's process of a number, where the kernel has one
pub record Stood (x : Process) (all : List Process) (p : ℕ) : Type 0 where
  pub one : Process
  pub found : slice_get all p ≡ Some one
  pub same : kept one ≡ x

pub stood : (known s : State) (p : ℕ) (x : Process) → Stands known s → slice_get known.processes p ≡ Some x → Stood x s.processes p
stood known s p x stands e = by (slice_get s.processes p) refl (sym (slice_get-map kept s.processes p) ∙ ap (λ (t : State). slice_get t.processes p) (sym stands) ∙ e)
  where
    by : (o : Option Process) → slice_get s.processes p ≡ o → option_map kept o ≡ Some x → Stood x s.processes p
    by None h k = absurd (let no : None ≡ Some x = k in cc)
    by (Some y) h k = record { one = y; found = h; same = let s : Some (kept y) ≡ Some x = k in cc }

abbrev pub finishing : State → ℕ → Config
finishing s n = working s (Finish n ∷ [])

abbrev pub killing : Program → State → (p : ℕ) → Next
killing program s p = says program s (KilledLast p) s (Finish (p + 1) ∷ [])

abbrev pub kill_said : Program → State → (p : ℕ) → Said
kill_said program s p = record { event = KilledLast p; line = line program.symbols s (KilledLast p) }

module _ (program : Program) (known s : State) (stands : Stands known s) (p : ℕ) (x : Process) (made : slice_get known.processes p ≡ Some x) where
  y : Stood x s.processes p
  y = stood known s p x stands made

  found : step program deepest (finishing s p) ≡ finish_running program x.status s p y.one
  found = ap (λ o. finish_one program s p o) y.found ∙ ap (λ (z : Process). finish_running program z.status s p y.one) y.same

  by_status : (status : Status) → runs status ≡ false → finish_running program status s p y.one ≡ on s (Finish (p + 1) ∷ [])
  by_status Runs e = absurd (let no : true ≡ false = e in cc)
  by_status (Exited n) e = refl
  by_status Signalled e = refl
  by_status Lost e = refl

  pub skips : runs x.status ≡ false → Reaches program deepest (finishing s p) [] [] (finishing s (p + 1))
  skips e = goes (found ∙ by_status x.status e) stays

  by_running_status : (status : Status) → runs status ≡ true → finish_running program status s p y.one ≡ Asks (Kill y.one.child) (kill_answer (killing program s p))
  by_running_status Runs e = refl
  by_running_status (Exited n) e = absurd (false≢true e)
  by_running_status Signalled e = absurd (false≢true e)
  by_running_status Lost e = absurd (false≢true e)

  pub kills_it : runs x.status ≡ true → step program deepest (finishing s p) ≡ Asks (Kill x.child) (kill_answer (killing program s p))
  kills_it e = found ∙ by_running_status x.status e ∙ ap (λ (z : Process). Asks (Kill z.child) (kill_answer (killing program s p))) y.same

-- those that are left behind it
pub left_behind : (known s : State) (stands : Stands known s) (p : ℕ) (kills : List Bool) → Hosted (drop p known.processes) kills → to_kill (finishing s p) ≡ children (running (drop p known.processes))
left_behind known s stands p kills h =
    let same : drop p known.processes ≡ map kept (drop p s.processes) = ap (λ (t : State). drop p t.processes) stands ∙ drop-map kept p s.processes in
    let alike : children (running (drop p s.processes)) ≡ children (running (drop p known.processes)) = sym (running_kept (drop p s.processes)) ∙ ap (λ l. children (running l)) (sym same) in
    ap rising alike ∙ sorted_children (drop p known.processes) kills h

pub answered_kill : (next : Next) (r : KillAnswer) → kill_answer next (told_kill r) ≡ Some next
answered_kill next killed.Killed = refl
answered_kill next killed.Failed = refl
