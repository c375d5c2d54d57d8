-- A reply is told.
use Rattle.std.proofs.Common.{◌≡◌, ℕ, List, [], ◌∷◌, Result, Ok, Err, refl, ap, ◌∙◌, subst, Bool, arith}
use Rattle.editor_model.specs.Values.{Value, Reply, Answered, Refused}
use Rattle.plain_machine.specs.State.{State, Program}
use Rattle.plain_machine.specs.Items.{Item, Target, Nowhere, ToName, ToNative, Said, Config, Next, Goes as Steps}
use Rattle.plain_machine.specs.Forms.{assigned}
use Rattle.plain_machine.specs.Lines.{Event, Replied, line}
use Rattle.plain_machine.specs.Step.{step}
use Rattle.plain_machine.specs.Run.{given}
use Rattle.ek_types.specs.Io.{SinkState, Writes}
use Rattle.ek_call.specs.Faults.{fault_of}
use Rattle.ek_call.specs.declared.fault.Fault as declared
use Rattle.kernel_steps.specs.Outside.{deepest, nothing, unasked, Goes}
use Rattle.kernel_steps.specs.Worlds.{World, Stands, quiet_world, Hosted}
use Rattle.kernel_steps.specs.Work.{working, MayBreak, IsBehind, BreaksAt, Work, outwards, at_item, reply_item}
use Rattle.kernel_steps.specs.declared.stop.Halt.TheVariants as halt
use Rattle.kernel_steps.specs.declared.stop.Stop.TheVariants as stop
use Rattle.kernel_steps.proofs.Journeys.{says, says_front}
use Rattle.kernel_steps.proofs.KeptStates.{reply_kept, dropped_processes, assigned_apart}
use Rattle.kernel_steps.proofs.Works.{breaks_at}

-- the configuration behind a reply
abbrev pub behind : Reply → Target → State → List Item → Config
behind r target s rest = given r target s rest

may_be : (r : Reply) (target : Target) (s : State) (rest : List Item) → IsBehind rest → MayBreak (given r target s rest)
may_be (Answered v) Nowhere s rest h = h.next s
may_be (Answered v) (ToName name) s rest h = h.next (assigned name v s)
may_be (Answered v) ToNative s rest h = h.replied (Answered v) s
may_be (Refused f) target s rest h = h.faulted f s

same : (r : Reply) (target : Target) (s : State) (rest : List Item) → (given r target s rest).state.processes ≡ s.processes
same (Answered v) Nowhere s rest = refl
same (Answered v) (ToName name) s rest = (assigned_apart name v).processes s
same (Answered v) ToNative s rest = refl
same (Refused f) target s rest = dropped_processes f rest s

module _ (program : Program) (target : Target) where
  abbrev said : Reply → State → Said
  said r s = record { event = Replied s.depth r; line = line program.symbols s (Replied s.depth r) }

  abbrev next : Reply → State → List Item → Next
  next r s rest = record { said = said r s ∷ []; config = given r target s rest }

  steps : (r : Reply) (s : State) (rest : List Item) → step program deepest (working s (reply_item r target ∷ rest)) ≡ Steps (next r s rest)
  steps (Answered v) s rest = by target
    where
      by : (target : Target) → step program deepest (working s (reply_item (Answered v) target ∷ rest)) ≡ Steps (record { said = record { event = Replied s.depth (Answered v); line = line program.symbols s (Replied s.depth (Answered v)) } ∷ []; config = given (Answered v) target s rest })
      by Nowhere = refl
      by (ToName name) = refl
      by ToNative = refl
  steps (Refused f) s rest = refl

  module _ (r : Reply) (known : State) (kills : List Bool) (sink sink2 : SinkState) where
    abbrev w : World
    w = quiet_world known kills sink

    abbrev v : World
    v = quiet_world known kills sink2

    -- the line that the program writes is the machine's
    pub same_line : (s : State) → Stands known s → line program.symbols known (Replied known.depth r) ≡ line program.symbols s (Replied s.depth r)
    same_line s stands = ap (λ (t : State). line program.symbols t (Replied t.depth r)) stands ∙ reply_kept program.symbols s s.depth r

    pub goes_told : {T E : Type 0} (x : T) (s : State) (rest : List Item) → Stands known s → Writes {T = T} {E = E} sink sink2 (Ok x) (line program.symbols known (Replied known.depth r)) →
        Goes program (unasked sink) (unasked sink2) (working s (reply_item r target ∷ rest)) (given r target s rest)
    goes_told {T = T} {E = E} x s rest stands written =
        says program sink sink2 nothing (working s (reply_item r target ∷ rest)) (next r s rest) (said r s) x (steps r s rest) refl (subst (λ l. Writes {T = T} {E = E} sink sink2 (Ok x) l) (same_line s stands) written)

    pub breaks_told : {T E : Type 0} (e : E) (s : State) (rest : List Item) → Stands known s → IsBehind rest → Writes {T = T} {E = E} sink sink2 (Err e) (line program.symbols known (Replied known.depth r)) →
        BreaksAt program w v (working s (reply_item r target ∷ rest)) stop.WriteFault
    breaks_told {T = T} {E = E} e s rest stands behind written =
        breaks_at program w v (working s (reply_item r target ∷ rest)) stop.WriteFault s
        (says_front program sink sink2 nothing (working s (reply_item r target ∷ rest)) (next r s rest) (said r s) e (steps r s rest) refl (may_be r target s rest behind).between (subst (λ l. Writes {T = T} {E = E} sink sink2 (Err e) l) (same_line s stands) written))
        stands (may_be r target s rest behind).before_end (same r target s rest)

    -- the line couldn't be written
    pub work_unwritten : {T U E : Type 0} (e : E) (to : T → State → List Item → Config) → Hosted known.processes kills → Writes {T = U} {E = E} sink sink2 (Err e) (line program.symbols known (Replied known.depth r)) →
        Work {T = T} (Err (halt.Stop stop.WriteFault)) program w v (at_item (reply_item r target)) to outwards
    work_unwritten {U = U} e to hosted written = record {
      path = record {
        comes = λ s rest stands behind. breaks_told {T = U} e s rest stands behind written;
        cause = record { later = written.later; rose = λ _. written.rose };
      };
      stays = hosted;
    }

  -- the line of an answer was written, and that of a refusal
  pub work_answered : {T U E : Type 0} (x : T) (value : T → Value) (known : State) (kills : List Bool) (sink sink2 : SinkState) (u : U) → Hosted known.processes kills → Writes {T = U} {E = E} sink sink2 (Ok u) (line program.symbols known (Replied known.depth (Answered (value x)))) →
      Work (Ok x) program (quiet_world known kills sink) (quiet_world known kills sink2) (at_item (reply_item (Answered (value x)) target)) (λ x s rest. given (Answered (value x)) target s rest) outwards
  work_answered {U = U} {E = E} x value known kills sink sink2 u hosted written = record {
    path = record {
      comes = λ s rest stands behind. record { state = s; stands = stands; goes = goes_told (Answered (value x)) known kills sink sink2 {T = U} {E = E} u s rest stands written };
      cause = record { later = written.later; rose = λ e. absurd (let never = e in cc) };
    };
    stays = record { hosted = hosted; count = omega arith; depth = refl; inhibited = refl; asked = omega arith };
  }

  pub work_refused : {T U E : Type 0} (f : declared.Fault) (to : T → State → List Item → Config) (known : State) (kills : List Bool) (sink sink2 : SinkState) (u : U) → Hosted known.processes kills → Writes {T = U} {E = E} sink sink2 (Ok u) (line program.symbols known (Replied known.depth (Refused (fault_of f)))) →
      Work {T = T} (Err (halt.Fault f)) program (quiet_world known kills sink) (quiet_world known kills sink2) (at_item (reply_item (Refused (fault_of f)) target)) to outwards
  work_refused {U = U} {E = E} f to known kills sink sink2 u hosted written = record {
    path = record {
      comes = λ s rest stands behind. record { state = s; stands = stands; goes = goes_told (Refused (fault_of f)) known kills sink sink2 {T = U} {E = E} u s rest stands written };
      cause = record { later = written.later; rose = λ e. absurd (let never = e in cc) };
    };
    stays = record { hosted = hosted; count = omega arith; depth = refl; inhibited = refl; asked = omega arith };
  }

-- the line with the program's names
pub by_names : {T E : Type 0} (r : Result T E) (old new : SinkState) (names symbols : List (List ℕ)) (known : State) (event : Event) → names ≡ symbols → Writes {T = T} {E = E} old new r (line names known event) → Writes {T = T} {E = E} old new r (line symbols known event)
by_names {T = T} {E = E} r old new names symbols known event e w = subst (λ l. Writes {T = T} {E = E} old new r (line l known event)) e w
