-- Steps that say a line.
use Rattle.std.proofs.Common.{◌≡◌, ℕ, List, [], ◌∷◌, Ok, refl, ap, sym, ◌∙◌, subst}
use Rattle.std.specs.Io.KnownBytes.{Appends}
use Rattle.editor_model.specs.Values.{Value, Reply, Answered, Refused, Fault}
use Rattle.plain_machine.specs.State.{State, Program}
use Rattle.plain_machine.specs.Lines.{Event, Replied, Dumped, line}
use Rattle.plain_machine.specs.Items.{Item, Config, GiveAnswer, Refuse, WriteDump, Target, Nowhere, ToName, ToNative, Goes}
use Rattle.plain_machine.specs.Forms.{says, assigned, kept_reply, refused}
use Rattle.plain_machine.specs.Step.{step}
use Rattle.ek_types.specs.Io.{SinkState, Writes}
use Rattle.kernel_steps.specs.Outside.{deepest}
use Rattle.kernel_steps.specs.Work.{working}
use Rattle.kernel_steps.specs.Worlds.{Stands, kept_state}
use Rattle.kernel_steps.proofs.Journeys.{lines_of_one}
use Rattle.kernel_steps.proofs.KeptStates.{reply_kept, dump_kept, assigned_apart}
use Rattle.trace_check.specs.Steps.{Aloud, Drops}
use Rattle.trace_check.specs.Replies.{HandsOn}

-- the line of a reply is the machine's
reply_alike : (symbols : List (List ℕ)) (known s : State) (r : Reply) → Stands known s → line symbols known (Replied known.depth r) ≡ line symbols s (Replied s.depth r)
reply_alike symbols known s r h = ap (λ (t : State). line symbols t (Replied t.depth r)) h ∙ reply_kept symbols s s.depth r

module _ (program : Program) (known known2 : State) (work left : List Item) (old new : SinkState) {T E : Type 0} (x : T) where
  pub aloud : (event : State → Event) (change : State → State) → ((s : State) → Stands known s → Stands known2 (change s)) →
      ((s : State) → Stands known s → step program deepest (working s work) ≡ Goes (says program s (event s) (change s) left)) →
      ((s : State) → Stands known s → line program.symbols known (event known) ≡ line program.symbols s (event s)) →
      Writes {T = T} {E = E} old new (Ok x) (line program.symbols known (event known)) → Aloud program known known2 work left old new
  aloud event change stands steps same written = λ s h. record {
    next = says program s (event s) (change s) left;
    steps = steps s h;
    stands = stands s h;
    left_is = refl;
    written = subst (λ l. Appends old.held new.held l) (same s h ∙ sym (lines_of_one (record { event = event s; line = line program.symbols s (event s) }))) written.ok;
  }

-- REPLIES
module _ (program : Program) (known : State) (rest : List Item) (old new : SinkState) {T E : Type 0} (x : T) (v : Value) (written : Writes {T = T} {E = E} old new (Ok x) (line program.symbols known (Replied known.depth (Answered v)))) where
  pub given_away : Aloud program known known (GiveAnswer v Nowhere ∷ rest) rest old new
  given_away = aloud program known known _ rest old new {T = T} {E = E} x (λ s. Replied s.depth (Answered v)) (λ s. s) (λ s h. h) (λ s h. refl) (λ s h. reply_alike program.symbols known s (Answered v) h) written

  pub given_name : (known2 : State) (name : ℕ) → known2 ≡ assigned name v known → Aloud program known known2 (GiveAnswer v (ToName name) ∷ rest) rest old new
  given_name known2 name now = aloud program known known2 _ rest old new {T = T} {E = E} x (λ s. Replied s.depth (Answered v)) (assigned name v)
      (λ s h. now ∙ ap (assigned name v) h ∙ (assigned_apart name v).kept_same s) (λ s h. refl) (λ s h. reply_alike program.symbols known s (Answered v) h) written

  pub given_native : (left : List Item) → left ≡ kept_reply (Answered v) rest → Aloud program known known (GiveAnswer v ToNative ∷ rest) left old new
  given_native left e = aloud program known known _ left old new {T = T} {E = E} x (λ s. Replied s.depth (Answered v)) (λ s. s) (λ s h. h)
      (λ s h. ap (λ l. Goes (says program s (Replied s.depth (Answered v)) s l)) (sym e)) (λ s h. reply_alike program.symbols known s (Answered v) h) written

-- by where it goes
pub given_on : (program : Program) (known known2 : State) (rest left : List Item) (old new : SinkState) {T E : Type 0} (x : T) (v : Value) → (target : Target) → HandsOn target (Answered v) known known2 rest left →
    Writes {T = T} {E = E} old new (Ok x) (line program.symbols known (Replied known.depth (Answered v))) → Aloud program known known2 (GiveAnswer v target ∷ rest) left old new
given_on program known known2 rest left old new {T = T} {E = E} x v Nowhere h written =
    subst (λ k. Aloud program known k (GiveAnswer v Nowhere ∷ rest) left old new) (sym h.0)
    (subst (λ l. Aloud program known known (GiveAnswer v Nowhere ∷ rest) l old new) (sym h.1) (given_away program known rest old new {T = T} {E = E} x v written))
given_on program known known2 rest left old new {T = T} {E = E} x v (ToName name) h written =
    subst (λ l. Aloud program known known2 (GiveAnswer v (ToName name) ∷ rest) l old new) (sym h.1) (given_name program known rest old new {T = T} {E = E} x v written known2 name (h.0 v refl))
given_on program known known2 rest left old new {T = T} {E = E} x v ToNative h written =
    subst (λ k. Aloud program known k (GiveAnswer v ToNative ∷ rest) left old new) (sym h.0) (given_native program known rest old new {T = T} {E = E} x v written left h.1)

-- FAULTS
pub refused_drops : (program : Program) (known known2 : State) (rest left : List Item) (old new : SinkState) {T E : Type 0} (x : T) (f : Fault) → Drops f known known2 rest left →
    Writes {T = T} {E = E} old new (Ok x) (line program.symbols known (Replied known.depth (Refused f))) → Aloud program known known2 (Refuse f ∷ rest) left old new
refused_drops program known known2 rest left old new x f drops written = λ s h.
    let (t, stands, is) = drops s h in
    record {
      next = refused program s f rest;
      steps = refl;
      stands = stands ∙ ap (λ (c : Config). kept_state c.state) (sym is);
      left_is = ap (λ (c : Config). c.work) is;
      written = subst (λ l. Appends old.held new.held l) (reply_alike program.symbols known s (Refused f) h ∙ sym (lines_of_one (record { event = Replied s.depth (Refused f); line = line program.symbols s (Replied s.depth (Refused f)) }))) written.ok;
    }

-- THE DUMP
pub dump_written : (program : Program) (known : State) (rest left : List Item) (old new : SinkState) {T E : Type 0} (x : T) → left ≡ [] → Writes {T = T} {E = E} old new (Ok x) (line program.symbols known Dumped) → Aloud program known known (WriteDump ∷ rest) left old new
dump_written program known rest left old new {T = T} {E = E} x e written = aloud program known known _ left old new {T = T} {E = E} x (λ s. Dumped) (λ s. s) (λ s h. h)
    (λ s h. ap (λ l. Goes (says program s Dumped s l)) (sym e)) (λ s h. ap (λ t. line program.symbols t Dumped) h ∙ dump_kept program.symbols s) written
