-- How pieces of work are put together.
use Rattle.std.specs.Prelude.{Option, Some}
use Rattle.std.proofs.Common.{◌≡◌, ℕ, ◌≤◌, Bool, List, [], ◌∷◌, Result, Ok, Err, refl, ap, sym, ◌∙◌, arith}
use Rattle.editor_model.specs.Values.{Fault}
use Rattle.plain_machine.specs.State.{State, Program}
use Rattle.plain_machine.specs.Exchanges.{Ask, Answer}
use Rattle.plain_machine.specs.Items.{Item, Config, Next, Asks}
use Rattle.plain_machine.specs.Calls.{silent}
use Rattle.plain_machine.specs.Step.{step}
use Rattle.plain_machine.specs.WholeRuns.{IsBetweenEntries}
use Rattle.plain_machine.specs.Run.{Reaches, stays}
use Rattle.ek_types.specs.Io.{SinkState, HasCause, Writes}
use Rattle.ek_call.specs.Faults.{fault_of}
use Rattle.kernel_steps.specs.Outside.{deepest, Past, outside, unasked, Goes, Breaks}
use Rattle.kernel_steps.specs.Worlds.{World, Stands, quiet_world, Hosted, IsReady, MayEnter, Keeps, children, running}
use Rattle.kernel_steps.specs.Work.{working, IsBeforeTheEnd, MayBreak, IsBehind, GoesTo, BreaksAt, Comes, Stays, Path, Work, outwards, at_item}
use Rattle.kernel_steps.specs.declared.stop.Stop.{Stop}
use Rattle.kernel_steps.specs.declared.stop.Stop.TheVariants as stop
use Rattle.kernel_steps.specs.declared.stop.Halt.{Halt}
use Rattle.kernel_steps.specs.declared.stop.Halt.TheVariants as halt
use Rattle.kernel_steps.proofs.Journeys.{AddsOne, adds_nothing, asked, goes_silently, goes_then, breaks_here, goes_breaks}
use Rattle.kernel_steps.proofs.KeptStates.{running_alike}

-- CHILDREN AND NESTING
pub keeps_self : (w : World) → Hosted w.state.processes w.kills → Keeps w w
keeps_self w hosted = record { hosted = hosted; count = omega arith; depth = refl; inhibited = refl; asked = omega arith }

pub keeps_then : (a b c : World) → Keeps a b → Keeps b c → Keeps a c
keeps_then a b c h k = record { hosted = k.hosted; count = omega (arith, h.count, k.count); depth = k.depth ∙ h.depth; inhibited = k.inhibited ∙ h.inhibited; asked = omega (arith, h.asked, k.asked) }

pub stays_then : {T : Type 0} (r : Result T Halt) (a b c : World) → Keeps a b → Stays r b c → Stays r a c
stays_then (Ok x) a b c h k = keeps_then a b c h k
stays_then (Err (halt.Fault f)) a b c h k = keeps_then a b c h k
stays_then (Err (halt.Stop why)) a b c h k = k

pub ready_then : (a b : World) → IsReady a.state a.kills → Keeps a b → IsReady b.state b.kills
ready_then a b r k = record { hosted = k.hosted; few = omega (arith, r.few, k.count); depth = omega (arith, r.depth, k.depth); in_hook = λ e. k.inhibited ∙ r.in_hook (sym k.depth ∙ e) }

pub may_then : (a b : World) → MayEnter a.state → Keeps a b → MayEnter b.state
may_then a b r k = record { depth = omega (arith, r.depth, k.depth); in_hook = λ e. k.inhibited ∙ r.in_hook (sym k.depth ∙ e) }

-- BREAKING OFF
-- broken off where the processes are those of the kernel
pub breaks_at : (program : Program) (a b : World) (c : Config) (why : Stop) (s : State) (broken : Breaks why program a.outside b.outside c) → Stands b.state s →
    IsBeforeTheEnd broken.last → broken.last.state.processes ≡ s.processes → BreaksAt program a b c why
breaks_at program a b c why s broken stands before is = record {
  breaks = broken;
  before_end = before;
  left = ap (λ l. children (running l)) is ∙ running_alike b.state s stands;
}

-- memory was wanting before anything was done
pub no_memory : (program : Program) (w : World) (s : State) (c : Config) → Stands w.state s → c.state.processes ≡ s.processes → MayBreak c → BreaksAt program w w c stop.NoMemory
no_memory program w s c stands is may = breaks_at program w w c stop.NoMemory s (breaks_here program w.outside c may.between) stands may.before_end is

-- the same break, where the kernel has the same children
pub breaks_alike : (program : Program) (a b : World) (known : State) (x : Config) (why : Stop) → known.processes ≡ b.state.processes → BreaksAt program a b x why → BreaksAt program a (record b { state = known }) x why
breaks_alike program a b known x why same h = record {
  breaks = h.breaks;
  before_end = h.before_end;
  left = h.left ∙ ap (λ l. children (running l)) (sym same);
}

pub breaks_behind : (program : Program) (a b c : World) (x y : Config) (why : Stop) → Goes program a.outside b.outside x y → BreaksAt program b c y why → BreaksAt program a c x why
breaks_behind program a b c x y why g h = record { breaks = goes_breaks program a.outside b.outside c.outside x y g h.breaks; before_end = h.before_end; left = h.left }

-- ONE AFTER THE OTHER
module _ {T : Type 0} (program : Program) where
  -- behind steps that were done
  pub comes_behind : (r : Result T Halt) (a b c : World) (x y : Config) (to : T → State → Config) (thrown : Fault → State → Config) → Goes program a.outside b.outside x y → Comes r program b c y to thrown → Comes r program a c x to thrown
  comes_behind (Ok v) a b c x y to thrown g h = record { state = h.state; stands = h.stands; goes = goes_then program a.outside b.outside c.outside x y _ g h.goes }
  comes_behind (Err (halt.Fault f)) a b c x y to thrown g h = record { state = h.state; stands = h.stands; goes = goes_then program a.outside b.outside c.outside x y _ g h.goes }
  comes_behind (Err (halt.Stop why)) a b c x y to thrown g h = breaks_behind program a b c x y why g h

  -- and in front of steps that say nothing
  pub comes_on : (r : Result T Halt) (a b : World) (x : Config) (to to2 : T → State → Config) (thrown thrown2 : Fault → State → Config) →
      ((v : T) (t : State) → Stands b.state t → Reaches program deepest (to v t) [] [] (to2 v t)) → ((f : Fault) (t : State) → Stands b.state t → Reaches program deepest (thrown f t) [] [] (thrown2 f t)) →
      Comes r program a b x to thrown → Comes r program a b x to2 thrown2
  comes_on (Ok v) a b x to to2 thrown thrown2 on off h = record { state = h.state; stands = h.stands; goes = goes_then program a.outside b.outside b.outside x _ _ h.goes (goes_silently program b.outside _ _ (on v h.state h.stands)) }
  comes_on (Err (halt.Fault f)) a b x to to2 thrown thrown2 on off h = record { state = h.state; stands = h.stands; goes = goes_then program a.outside b.outside b.outside x _ _ h.goes (goes_silently program b.outside _ _ (off (fault_of f) h.state h.stands)) }
  comes_on (Err (halt.Stop why)) a b x to to2 thrown thrown2 on off h = h

  -- the kernel's state was changed behind it
  pub comes_changed : (r : Result T Halt) (a b : World) (known : State) (x : Config) (to to2 : T → State → Config) (thrown thrown2 : Fault → State → Config) (change : State → State) →
      ((t : State) → Stands b.state t → Stands known (change t)) → known.processes ≡ b.state.processes →
      ((v : T) (t : State) → Reaches program deepest (to v t) [] [] (to2 v (change t))) → ((f : Fault) (t : State) → Reaches program deepest (thrown f t) [] [] (thrown2 f (change t))) →
      Comes r program a b x to thrown → Comes r program a (record b { state = known }) x to2 thrown2
  comes_changed (Ok v) a b known x to to2 thrown thrown2 change stands same on off h = record { state = change h.state; stands = stands h.state h.stands; goes = goes_then program a.outside b.outside b.outside x _ _ h.goes (goes_silently program b.outside _ _ (on v h.state)) }
  comes_changed (Err (halt.Fault f)) a b known x to to2 thrown thrown2 change stands same on off h = record { state = change h.state; stands = stands h.state h.stands; goes = goes_then program a.outside b.outside b.outside x _ _ h.goes (goes_silently program b.outside _ _ (off (fault_of f) h.state)) }
  comes_changed (Err (halt.Stop why)) a b known x to to2 thrown thrown2 change stands same on off h = breaks_alike program a b known x why same h

-- CAUSES
pub cause_then : (a b c : ℕ) (P : Type 0) → a ≤ b → HasCause b c P → HasCause a c P
cause_then a b c P h k = record { later = omega (arith, h, k.later); rose = λ failed. omega (arith, h, k.rose failed) }

-- PIECES OF WORK
-- a run may be broken off at this item
abbrev pub IsMiddle : Item → Type 0
IsMiddle item = (s : State) (rest : List Item) → MayBreak (working s (item ∷ rest))

-- an item that is no entry, and isn't the end
abbrev pub middle : {item : Item} → ((s : State) (rest : List Item) → IsBetweenEntries (working s (item ∷ rest)) × IsBeforeTheEnd (working s (item ∷ rest))) → IsMiddle item
middle h = λ s rest. record { between = (h s rest).0; before_end = (h s rest).1 }

-- the machine has gone on so far, in front of every rest
pub record Went (program : Program) (a b : World) (from to : State → List Item → Config) : Type 0 where
  pub comes : (s : State) (rest : List Item) → Stands a.state s → IsBehind rest → GoesTo program a b (from s rest) (λ t. to t rest)
  pub later : a.outside.sink.faults ≤ b.outside.sink.faults

-- the machine's next step asks this, and goes on by this answer
pub record Asking (program : Program) (c : Config) (ask : Ask) (answer : Answer) (d : Config) : Type 0 where
  pub next : Answer → Option Next
  pub steps : step program deepest c ≡ Asks ask next
  pub answers : next answer ≡ Some (silent d.state d.work)

module _ (program : Program) where
  pub went_self : (w : World) (from : State → List Item → Config) → Went program w w from from
  went_self w from = record { comes = λ s rest stands behind. record { state = s; stands = stands; goes = goes_silently program w.outside _ _ stays }; later = omega arith }

  pub went_of : {T : Type 0} (v : T) (a b : World) (from : State → List Item → Config) (to : T → State → List Item → Config) (thrown : Fault → State → List Item → Config) → Path (Ok v) program a b from to thrown → Went program a b from (to v)
  went_of v a b from to thrown w = record { comes = w.comes; later = w.cause.later }

  pub went_then : (a b c : World) (from mid to : State → List Item → Config) → Went program a b from mid → Went program b c mid to → Went program a c from to
  went_then a b c from mid to g h = record {
    comes = λ s rest stands behind.
        let first = g.comes s rest stands behind in
        let second = h.comes first.state rest first.stands behind in
        record { state = second.state; stands = second.stands; goes = goes_then program a.outside b.outside c.outside _ _ _ first.goes second.goes };
    later = omega (arith, g.later, h.later);
  }

  -- steps that say nothing, from a state of the kernel to another one
  pub went_silently : (w : World) (known : State) (change : State → State) (from to : State → List Item → Config) → ((s : State) → Stands w.state s → Stands known (change s)) →
      ((s : State) (rest : List Item) → Stands w.state s → Reaches program deepest (from s rest) [] [] (to (change s) rest)) → Went program w (record w { state = known }) from to
  went_silently w known change from to stands reaches = record {
    comes = λ s rest h behind. record { state = change s; stands = stands s h; goes = goes_silently program w.outside _ _ (reaches s rest h) };
    later = omega arith;
  }

  -- one exchange, whose answer is told in no line
  pub went_asked : (w : World) (known : State) (kills : List Bool) (past : Past) (ask : Ask) (answer : Answer) (change : State → State) (from to : State → List Item → Config) → AddsOne w.outside.past past ask answer → ((s : State) → Stands w.state s → Stands known (change s)) →
      ((s : State) (rest : List Item) → Stands w.state s → Asking program (from s rest) ask answer (to (change s) rest)) → Went program w (record { state = known; kills = kills; outside = outside w.outside.sink past }) from to
  went_asked w known kills past ask answer change from to exchange stands asks = record {
    comes = λ s rest h behind.
        let x = asks s rest h in
        record { state = change s; stands = stands s h; goes = asked program w.outside.sink w.outside.past past (from s rest) ask answer x.next (silent (to (change s) rest).state (to (change s) rest).work) x.steps x.answers refl exchange };
    later = omega arith;
  }

  pub went_before : (a b : World) (more : List Item → List Item) (from to : State → List Item → Config) → ((rest : List Item) → IsBehind rest → IsBehind (more rest)) → Went program a b from to →
      Went program a b (λ s rest. from s (more rest)) (λ t rest. to t (more rest))
  went_before a b more from to behind w = record { comes = λ s rest stands h. w.comes s (more rest) stands (behind rest h); later = w.later }

  module _ {T : Type 0} (r : Result T Halt) where
    pub path_behind : (a b c : World) (from mid : State → List Item → Config) (to : T → State → List Item → Config) (thrown : Fault → State → List Item → Config) → Went program a b from mid →
        Path r program b c mid to thrown → Path r program a c from to thrown
    path_behind a b c from mid to thrown g w = record {
      comes = λ s rest stands behind.
          let first = g.comes s rest stands behind in
          comes_behind {T = T} program r a b c _ _ (λ v t. to v t rest) (λ f t. thrown f t rest) first.goes (w.comes first.state rest first.stands behind);
      cause = cause_then a.outside.sink.faults b.outside.sink.faults c.outside.sink.faults _ g.later w.cause;
    }

    -- in front of more that stands behind it
    pub path_before : (a b : World) (more : List Item → List Item) (from : State → List Item → Config) (to : T → State → List Item → Config) (thrown : Fault → State → List Item → Config) →
        ((rest : List Item) → IsBehind rest → IsBehind (more rest)) → Path r program a b from to thrown → Path r program a b (λ s rest. from s (more rest)) (λ v t rest. to v t (more rest)) (λ f t rest. thrown f t (more rest))
    path_before a b more from to thrown behind w = record { comes = λ s rest stands h. w.comes s (more rest) stands (behind rest h); cause = w.cause }

    -- the kernel's state was changed behind it
    pub path_changed : (a b : World) (known : State) (change : State → State) (from : State → List Item → Config) (to to2 : T → State → List Item → Config) (thrown thrown2 : Fault → State → List Item → Config) →
        ((t : State) → Stands b.state t → Stands known (change t)) → known.processes ≡ b.state.processes →
        ((v : T) (t : State) (rest : List Item) → Reaches program deepest (to v t rest) [] [] (to2 v (change t) rest)) → ((f : Fault) (t : State) (rest : List Item) → Reaches program deepest (thrown f t rest) [] [] (thrown2 f (change t) rest)) →
        Path r program a b from to thrown → Path r program a (record b { state = known }) from to2 thrown2
    path_changed a b known change from to to2 thrown thrown2 stands same on off w = record {
      comes = λ s rest h behind. comes_changed {T = T} program r a b known _ (λ v t. to v t rest) (λ v t. to2 v t rest) (λ f t. thrown f t rest) (λ f t. thrown2 f t rest) change stands same (λ v t. on v t rest) (λ f t. off f t rest) (w.comes s rest h behind);
      cause = w.cause;
    }

  -- RESULTS OF ANOTHER TYPE
  -- a piece of work that was left early, by whatever its result would have been
  pub path_left : {T U : Type 0} (h : Halt) (a b : World) (from : State → List Item → Config) (to : T → State → List Item → Config) (to2 : U → State → List Item → Config) (thrown : Fault → State → List Item → Config) →
      Path {T = T} (Err h) program a b from to thrown → Path {T = U} (Err h) program a b from to2 thrown
  path_left (halt.Fault f) a b from to to2 thrown w = record { comes = w.comes; cause = record { later = w.cause.later; rose = λ e. absurd (let never = e in cc) } }
  path_left (halt.Stop why) a b from to to2 thrown w = record { comes = w.comes; cause = record { later = w.cause.later; rose = λ e. w.cause.rose (ap Err (let s : halt.Stop why ≡ halt.Stop stop.WriteFault = cc in s)) } }

  -- one that was broken off, whatever a fault would have done
  pub work_stopped : {T U : Type 0} (why : Stop) (a b : World) (from : State → List Item → Config) (to : T → State → List Item → Config) (to2 : U → State → List Item → Config) (thrown thrown2 : Fault → State → List Item → Config) →
      Work {T = T} (Err (halt.Stop why)) program a b from to thrown → Work {T = U} (Err (halt.Stop why)) program a b from to2 thrown2
  work_stopped why a b from to to2 thrown thrown2 w = record {
    path = record { comes = w.path.comes; cause = record { later = w.path.cause.later; rose = λ e. w.path.cause.rose (ap Err (let s : halt.Stop why ≡ halt.Stop stop.WriteFault = cc in s)) } };
    stays = w.stays;
  }

  -- memory was wanting behind what went so far
  pub path_wants : {T : Type 0} (a b : World) (from mid : State → List Item → Config) (to : T → State → List Item → Config) (thrown : Fault → State → List Item → Config) → Went program a b from mid →
      ((s : State) (rest : List Item) → IsBehind rest → MayBreak (mid s rest) × ((mid s rest).state.processes ≡ s.processes)) → Path {T = T} (Err (halt.Stop stop.NoMemory)) program a b from to thrown
  path_wants a b from mid to thrown g may = record {
    comes = λ s rest stands behind.
        let first = g.comes s rest stands behind in
        let broken = may first.state rest behind in
        breaks_behind program a b b _ _ stop.NoMemory first.goes (no_memory program b first.state (mid first.state rest) first.stands broken.1 broken.0);
    cause = record { later = g.later; rose = λ e. absurd (let never = e in cc) };
  }

  -- done, as far as it went
  pub path_done : {T : Type 0} (v : T) (a b : World) (from : State → List Item → Config) (to : T → State → List Item → Config) (thrown : Fault → State → List Item → Config) → Went program a b from (to v) → Path (Ok v) program a b from to thrown
  path_done v a b from to thrown g = record { comes = g.comes; cause = record { later = g.later; rose = λ e. absurd (let never = e in cc) } }

  -- WORK
  pub work_behind : {T : Type 0} (r : Result T Halt) (a b c : World) (from mid : State → List Item → Config) (to : T → State → List Item → Config) (thrown : Fault → State → List Item → Config) → Went program a b from mid → Keeps a b →
      Work r program b c mid to thrown → Work r program a c from to thrown
  work_behind r a b c from mid to thrown g k w = record { path = path_behind r a b c from mid to thrown g w.path; stays = stays_then r a b c k w.stays }

  pub work_before : {T : Type 0} (r : Result T Halt) (a b : World) (more : List Item → List Item) (from : State → List Item → Config) (to : T → State → List Item → Config) (thrown : Fault → State → List Item → Config) →
      ((rest : List Item) → IsBehind rest → IsBehind (more rest)) → Work r program a b from to thrown → Work r program a b (λ s rest. from s (more rest)) (λ v t rest. to v t (more rest)) (λ f t rest. thrown f t (more rest))
  work_before r a b more from to thrown behind w = record { path = path_before r a b more from to thrown behind w.path; stays = w.stays }

  stays_left : (T U : Type 0) (h : Halt) (a b : World) → Stays {T = T} (Err h) a b → Stays {T = U} (Err h) a b
  stays_left T U (halt.Fault f) a b k = k
  stays_left T U (halt.Stop why) a b k = k

  pub work_left : {T U : Type 0} (h : Halt) (a b : World) (from : State → List Item → Config) (to : T → State → List Item → Config) (to2 : U → State → List Item → Config) (thrown : Fault → State → List Item → Config) →
      Work {T = T} (Err h) program a b from to thrown → Work {T = U} (Err h) program a b from to2 thrown
  work_left {T = T} {U = U} h a b from to to2 thrown w = record { path = path_left h a b from to to2 thrown w.path; stays = stays_left T U h a b w.stays }

  pub work_wants : {T : Type 0} (a b : World) (from mid : State → List Item → Config) (to : T → State → List Item → Config) (thrown : Fault → State → List Item → Config) → Went program a b from mid → Hosted b.state.processes b.kills →
      ((s : State) (rest : List Item) → IsBehind rest → MayBreak (mid s rest) × ((mid s rest).state.processes ≡ s.processes)) → Work {T = T} (Err (halt.Stop stop.NoMemory)) program a b from to thrown
  work_wants a b from mid to thrown g hosted may = record { path = path_wants a b from mid to thrown g may; stays = hosted }

  -- at an item no more was done than memory asked for
  pub item_wants : {T : Type 0} (w : World) (item : Item) (to : T → State → List Item → Config) → Hosted w.state.processes w.kills → IsMiddle item → Work {T = T} (Err (halt.Stop stop.NoMemory)) program w w (at_item item) to outwards
  item_wants w item to hosted middle = work_wants w w (at_item item) (at_item item) to outwards (went_self w (at_item item)) hosted (λ s rest behind. (middle s rest, refl))

  pub work_done : {T : Type 0} (v : T) (a b : World) (from : State → List Item → Config) (to : T → State → List Item → Config) (thrown : Fault → State → List Item → Config) → Went program a b from (to v) → Keeps a b → Work (Ok v) program a b from to thrown
  work_done v a b from to thrown g k = record { path = path_done v a b from to thrown g; stays = k }

-- NOTHING ASKED
-- what needed no exchange is so whatever was made before
module _ (program : Program) (sink sink2 : SinkState) (past : Past) where
  pub goes_unasked : (x y : Config) → Goes program (unasked sink) (unasked sink2) x y → Goes program (outside sink past) (outside sink2 past) x y
  goes_unasked x y g = record {
    made = g.made;
    said = g.said;
    run = g.run;
    written = g.written;
    adds = rw (g.adds [] refl) (adds_nothing past);
    later = g.later;
    roomy = g.roomy;
  }

  module _ (old new : State) (kills : List Bool) where
    abbrev here : World
    here = record { state = old; kills = kills; outside = outside sink past }

    abbrev there : World
    there = record { state = new; kills = kills; outside = outside sink2 past }

    comes_unasked : {T : Type 0} (r : Result T Halt) (x : Config) (to : T → State → Config) (thrown : Fault → State → Config) → Comes r program (quiet_world old kills sink) (quiet_world new kills sink2) x to thrown → Comes r program here there x to thrown
    comes_unasked (Ok v) x to thrown h = record { state = h.state; stands = h.stands; goes = goes_unasked x _ h.goes }
    comes_unasked (Err (halt.Fault f)) x to thrown h = record { state = h.state; stands = h.stands; goes = goes_unasked x _ h.goes }
    comes_unasked (Err (halt.Stop why)) x to thrown h = record {
      breaks = record {
        made = h.breaks.made;
        said = h.breaks.said;
        last = h.breaks.last;
        run = h.breaks.run;
        between = h.breaks.between;
        bytes = h.breaks.bytes;
        front = h.breaks.front;
        came = h.breaks.came;
        written = h.breaks.written;
        adds = rw (h.breaks.adds [] refl) (adds_nothing past);
        later = h.breaks.later;
        roomy = h.breaks.roomy;
      };
      before_end = h.before_end;
      left = h.left;
    }

    stays_unasked : {T : Type 0} (r : Result T Halt) → Stays r (quiet_world old kills sink) (quiet_world new kills sink2) → Stays r here there
    stays_unasked (Ok v) h = record { hosted = h.hosted; count = h.count; depth = h.depth; inhibited = h.inhibited; asked = h.asked }
    stays_unasked (Err (halt.Fault f)) h = record { hosted = h.hosted; count = h.count; depth = h.depth; inhibited = h.inhibited; asked = h.asked }
    stays_unasked (Err (halt.Stop why)) h = h

    pub work_unasked : {T : Type 0} (r : Result T Halt) (from : State → List Item → Config) (to : T → State → List Item → Config) (thrown : Fault → State → List Item → Config) →
        Work r program (quiet_world old kills sink) (quiet_world new kills sink2) from to thrown → Work r program here there from to thrown
    work_unasked r from to thrown w = record { path = record { comes = λ s rest stands behind. comes_unasked r (from s rest) (λ v t. to v t rest) (λ f t. thrown f t rest) (w.path.comes s rest stands behind); cause = w.path.cause }; stays = stays_unasked r w.stays }

-- A LINE
-- what stops a result because a write failed
pub cause_of : {T U E : Type 0} (r : Result T Halt) (written : Result U E) (old new : SinkState) (bytes : List ℕ) → Writes old new written bytes → (r ≡ Err (halt.Stop stop.WriteFault) → (e : E) × (written ≡ Err e)) → HasCause old.faults new.faults (r ≡ Err (halt.Stop stop.WriteFault))
cause_of r written old new bytes w failed = record { later = w.later; rose = λ e. let (why, is) = failed e in rw is at w.rose }
