-- Calls that change a text, and how a change is made: its hook functions before it, its commit, and those behind it.
use Rattle.std.proofs.Common.{◌≡◌, ℕ, ◌≤◌, List, [], ◌∷◌, length, map, Err, refl, ap, sym, ◌∙◌, subst, arith, ◌<◌, inl, inr}
use Rattle.std.specs.Prelude.{Bool, true, false, ◌⊎◌}
use Rattle.std.proofs.Math.Nat.{eq-or-lt_of_le}
use Rattle.std.proofs.lemmas.Bool.{false≢true}
use Rattle.editor_model.specs.Values.{Value, Answered, Fault, Prim}
use Rattle.editor_model.specs.Prims.{ChangesText, manner_of}
use Rattle.editor_model.specs.Answers.{Change, Prepared, Changes, Quiet, Nothing, Barred, Committed, Done, Failed}
use Rattle.editor_model.specs.Commits.{commit}
use Rattle.editor_model.specs.Table.{prepare}
use Rattle.plain_machine.specs.State.{State, Program}
use Rattle.plain_machine.specs.Lines.{Kind, OfFilter, OfSentinel, OfBefore, OfAfter}
use Rattle.plain_machine.specs.Items.{Item, Config, MakeCall, MakeChange, CommitChange, Hooks, Calm, GiveAnswer, Refuse, Target}
use Rattle.plain_machine.specs.Calls.{call_by, change_call}
use Rattle.plain_machine.specs.Forms.{popped, bracket, after_commit}
use Rattle.plain_machine.specs.Step.{step}
use Rattle.plain_machine.specs.Run.{Reaches, stays, goes}
use Rattle.kernel_steps.specs.Outside.{deepest}
use Rattle.kernel_steps.specs.Changes.{begun, done_at, behind_commit, ends_of, ends_behind}
use Rattle.kernel_steps.specs.Handlers.{IsHook, hook_names, around}
use Rattle.kernel_steps.specs.Worlds.{World, Stands, kept_state, Hosted, IsReady, MayEnter, Keeps}
use Rattle.kernel_steps.specs.Work.{working, MayBreak, IsBehind, Work, onwards, outwards, at_item, reply_item}
use Rattle.kernel_steps.specs.declared.stop.Halt.TheVariants as halt
use Rattle.kernel_steps.specs.declared.stop.Stop.TheVariants as stop
use Rattle.kernel_steps.proofs.Works.{Went, went_silently, went_self, work_wants}
use Rattle.kernel_steps.proofs.Calling.{keeps_same}

pub none_mapped : {A : Type 0} (f : A → ℕ) (xs : List A) → length xs ≡ 0 → map f xs ≡ []
none_mapped f [] e = refl
none_mapped f (x ∷ xs) e = absurd (omega (arith, e))

-- BEHIND
pub answer_behind : (v : Value) (target : Target) (rest : List Item) → IsBehind rest → IsBehind (GiveAnswer v target ∷ rest)
answer_behind v target rest h = record {
  next = λ s. record { between = tt; before_end = tt };
  replied = λ r s. record { between = tt; before_end = tt };
  unhooked = λ s. record { between = tt; before_end = tt };
  faulted = λ f s. h.faulted f s;
}

pub commit_behind : (c : Change) (rest : List Item) → IsBehind rest → IsBehind (CommitChange c ∷ rest)
commit_behind c rest h = record {
  next = λ s. record { between = tt; before_end = tt };
  replied = λ r s. record { between = tt; before_end = tt };
  unhooked = λ s. record { between = tt; before_end = tt };
  faulted = λ f s. h.faulted f (popped s);
}

pub calm_behind : (old : Bool) (rest : List Item) → IsBehind rest → IsBehind (Calm old ∷ rest)
calm_behind old rest h = record {
  next = λ s. record { between = tt; before_end = tt };
  replied = λ r s. record { between = tt; before_end = tt };
  unhooked = λ s. record { between = tt; before_end = tt };
  faulted = λ f s. h.faulted f s;
}

-- the same configuration
pub reaches_same : (program : Program) (c d : Config) → c ≡ d → Reaches program deepest c [] [] d
reaches_same program c d e = subst (λ d. Reaches program deepest c [] [] d) e stays

module _ (program : Program) (w : World) where
  -- PREPARED CALLS
  module _ (prim : Prim) (args : List Value) (target : Target) (manner : manner_of prim ≡ ChangesText) (p : Prepared) (is : p ≡ prepare w.state.editor prim args) where
    prepared_step : (s : State) (rest : List Item) → Stands w.state s → step program deepest (working s (MakeCall prim args target ∷ rest)) ≡ change_call s target rest p
    prepared_step s rest h =
        ap (λ m. call_by m program deepest s target rest prim args) manner
        ∙ ap (change_call s target rest) (ap (λ (t : State). prepare t.editor prim args) (sym h) ∙ sym is)

  pub changes_went : (prim : Prim) (args : List Value) (target : Target) (c : Change) → manner_of prim ≡ ChangesText → Changes c ≡ prepare w.state.editor prim args →
      Went program w w (at_item (MakeCall prim args target)) (λ s rest. working s (MakeChange c ∷ GiveAnswer c.reply target ∷ rest))
  changes_went prim args target c manner is = went_silently program w w.state (λ s. s) _ (λ s rest. working s (MakeChange c ∷ GiveAnswer c.reply target ∷ rest)) (λ s h. h)
      (λ s rest h. goes (prepared_step prim args target manner (Changes c) is s rest h) stays)

  pub nothing_went : (prim : Prim) (args : List Value) (target : Target) (v : Value) → manner_of prim ≡ ChangesText → Nothing v ≡ prepare w.state.editor prim args →
      Went program w w (at_item (MakeCall prim args target)) (at_item (reply_item (Answered v) target))
  nothing_went prim args target v manner is = went_silently program w w.state (λ s. s) _ (at_item (reply_item (Answered v) target)) (λ s h. h)
      (λ s rest h. goes (prepared_step prim args target manner (Nothing v) is s rest h) stays)

  pub barred_went : (prim : Prim) (args : List Value) (target : Target) (f : Fault) → manner_of prim ≡ ChangesText → Barred f ≡ prepare w.state.editor prim args →
      Went program w w (at_item (MakeCall prim args target)) (at_item (Refuse f))
  barred_went prim args target f manner is = went_silently program w w.state (λ s. s) _ (at_item (Refuse f)) (λ s h. h)
      (λ s rest h. goes (prepared_step prim args target manner (Barred f) is s rest h) stays)

  abbrev quietly : Change → State → State
  quietly c s = record s { editor = (commit s.editor c).editor }

  pub quiet_went : (known : State) (prim : Prim) (args : List Value) (target : Target) (c : Change) → manner_of prim ≡ ChangesText → Quiet c ≡ prepare w.state.editor prim args → known ≡ record w.state { editor = (commit w.state.editor c).editor } →
      Went program w (record w { state = known }) (at_item (MakeCall prim args target)) (at_item (reply_item (Answered c.reply) target))
  quiet_went known prim args target c manner is now = went_silently program w known (quietly c) _ (at_item (reply_item (Answered c.reply) target)) (λ s h. now ∙ ap (quietly c) h)
      (λ s rest h. goes (prepared_step prim args target manner (Quiet c) is s rest h) stays)

  -- A CHANGE BEGINS
  pub begun_went : (known : State) (c : Change) → known ≡ begun c w.state → Went program w (record w { state = known }) (at_item (MakeChange c)) (λ s rest. around (OfBefore c.buffer) (ends_of c.from c.to) s (CommitChange c ∷ rest))
  begun_went known c now = went_silently program w known (begun c) _ (λ s rest. around (OfBefore c.buffer) (ends_of c.from c.to) s (CommitChange c ∷ rest)) (λ s h. now ∙ ap (begun c) h) (λ s rest h. goes refl stays)

  -- ITS COMMIT
  commit_step : (c : Change) (d : Committed) → d ≡ (done_at c w.state).committed → (s : State) (rest : List Item) → Stands w.state s → step program deepest (working s (CommitChange c ∷ rest)) ≡ after_commit (done_at c s).editor d s c rest
  commit_step c d is s rest h = ap (λ d. after_commit (done_at c s).editor d s c rest) (ap (λ (t : State). (done_at c t).committed) (sym h) ∙ sym is)

  behind_kept : (c : Change) (d : Committed) (known : State) → known ≡ behind_commit c d w.state → (s : State) → Stands w.state s → Stands known (behind_commit c d s)
  behind_kept c (Done from to old) known now s h = now ∙ ap (behind_commit c (Done from to old)) h
  behind_kept c (Failed f) known now s h = now ∙ ap (behind_commit c (Failed f)) h

  pub failed_went : (known : State) (c : Change) (f : Fault) → Failed f ≡ (done_at c w.state).committed → known ≡ behind_commit c (Failed f) w.state → Went program w (record w { state = known }) (at_item (CommitChange c)) (at_item (Refuse f))
  failed_went known c f is now = went_silently program w known (behind_commit c (Failed f)) _ (at_item (Refuse f)) (behind_kept c (Failed f) known now) (λ s rest h. goes (commit_step c (Failed f) is s rest h) stays)

  pub done_went : (known : State) (c : Change) (from to old : ℕ) → Done from to old ≡ (done_at c w.state).committed → known ≡ behind_commit c (Done from to old) w.state →
      Went program w (record w { state = known }) (at_item (CommitChange c)) (around (OfAfter c.buffer) (ends_behind from to old))
  done_went known c from to old is now =
      went_silently program w known (behind_commit c (Done from to old)) _ (around (OfAfter c.buffer) (ends_behind from to old)) (behind_kept c (Done from to old) known now) (λ s rest h. goes (commit_step c (Done from to old) is s rest h) stays)

  -- HOOK FUNCTIONS AROUND IT
  abbrev as_inhibited : Kind → List Value → List Item → State → Bool → Config
  as_inhibited kind args rest s i = working (record s { inhibited = true }) (bracket i kind (hook_names kind s) args rest)

  pub inhibited_went : (kind : Kind) (args : List Value) → w.state.inhibited ≡ true → Went program w w (around kind args) (λ s rest. working s rest)
  inhibited_went kind args on_now = went_silently program w w.state (λ s. s) (around kind args) (λ s rest. working s rest) (λ s h. h)
      (λ s rest h.
      let is : s.inhibited ≡ true = ap (λ (t : State). t.inhibited) (sym h) ∙ on_now in
      reaches_same program (around kind args s rest) (working s rest) (ap (as_inhibited kind args rest s) is ∙ ap (λ i. working (record s { inhibited = i }) rest) (sym is)))

  may_break : (kind : Kind) (args : List Value) (s : State) (rest : List Item) (i : Bool) → IsBehind rest → MayBreak (as_inhibited kind args rest s i)
  may_break kind args s rest true h = h.next (record s { inhibited = true })
  may_break kind args s rest false h = record { between = tt; before_end = tt }

  pub around_wants : {T : Type 0} (kind : Kind) (args : List Value) → Hosted w.state.processes w.kills → Work {T = T} (Err (halt.Stop stop.NoMemory)) program w w (around kind args) onwards outwards
  around_wants kind args hosted = work_wants program w w (around kind args) (around kind args) onwards outwards (went_self program w (around kind args)) hosted (λ s rest h. (may_break kind args s rest s.inhibited h, refl))

  names_kept : (kind : Kind) (s : State) → IsHook kind → hook_names kind (kept_state s) ≡ hook_names kind s
  names_kept (OfBefore b) s h = refl
  names_kept (OfAfter b) s h = refl
  names_kept (OfFilter p) s h = absurd h
  names_kept (OfSentinel p) s h = absurd h

  abbrev inhibit : Bool → State → State
  inhibit i s = record s { inhibited = i }

  pub hooks_went : (known : State) (kind : Kind) (names : List ℕ) (args : List Value) → IsHook kind → w.state.inhibited ≡ false → names ≡ hook_names kind w.state → known ≡ record w.state { inhibited = true } →
      Went program w (record w { state = known }) (around kind args) (λ s rest. working s (Hooks kind names args ∷ Calm false ∷ rest))
  hooks_went known kind names args hook off_now are now = went_silently program w known (inhibit true) (around kind args) (λ s rest. working s (Hooks kind names args ∷ Calm false ∷ rest)) (λ s h. now ∙ ap (inhibit true) h)
      (λ s rest h.
      let is : s.inhibited ≡ false = ap (λ (t : State). t.inhibited) (sym h) ∙ off_now in
      let same : hook_names kind s ≡ names = sym (names_kept kind s hook) ∙ ap (hook_names kind) (sym h) ∙ sym are in
      reaches_same program (around kind args s rest) (working (inhibit true s) (Hooks kind names args ∷ Calm false ∷ rest)) (ap (as_inhibited kind args rest s) is ∙ ap (λ l. working (inhibit true s) (Hooks kind l args ∷ Calm false ∷ rest)) same))

  -- no function is entered where there is none
  none_is_entered : (kind : Kind) (args : List Value) (s : State) (rest : List Item) → s.inhibited ≡ false → hook_names kind s ≡ [] → Reaches program deepest (around kind args s rest) [] [] (working s rest)
  none_is_entered kind args s rest off none =
      let begins : around kind args s rest ≡ working (inhibit true s) (Hooks kind [] args ∷ Calm false ∷ rest) = ap (as_inhibited kind args rest s) off ∙ ap (λ l. working (inhibit true s) (Hooks kind l args ∷ Calm false ∷ rest)) none in
      let ends : working (inhibit false (inhibit true s)) rest ≡ working s rest = ap (λ i. working (record s { inhibited = i }) rest) (sym off) in
      subst (λ c. Reaches program deepest c [] [] (working s rest)) (sym begins)
      (subst (λ d. Reaches program deepest (working (inhibit true s) (Hooks kind [] args ∷ Calm false ∷ rest)) [] [] d) ends (goes refl (goes refl stays)))

  pub unheard_went : (kind : Kind) (args : List Value) → IsHook kind → w.state.inhibited ≡ false → hook_names kind w.state ≡ [] → Went program w w (around kind args) (λ s rest. working s rest)
  unheard_went kind args hook off_now none = went_silently program w w.state (λ s. s) (around kind args) (λ s rest. working s rest) (λ s h. h)
      (λ s rest h. none_is_entered kind args s rest (ap (λ (t : State). t.inhibited) (sym h) ∙ off_now) (sym (names_kept kind s hook) ∙ ap (hook_names kind) (sym h) ∙ none))

  pub calm_went : (known : State) → known ≡ record w.state { inhibited = false } → Went program w (record w { state = known }) (at_item (Calm false)) (λ s rest. working s rest)
  calm_went known now = went_silently program w known (inhibit false) (at_item (Calm false)) (λ s rest. working s rest) (λ s h. now ∙ ap (inhibit false) h) (λ s rest h. goes refl stays)

-- a state that differs in the editor alone
pub keeps_behind : (w : World) (known : State) (c : Change) (d : Committed) → Hosted w.state.processes w.kills → known ≡ behind_commit c d w.state → Keeps w (record w { state = known })
keeps_behind w known c (Done from to old) hosted now = keeps_same w known hosted (ap (λ (s : State). s.processes) now) (ap (λ (s : State). s.depth) now) (ap (λ (s : State). s.inhibited) now) (ap (λ (s : State). s.asked) now)
keeps_behind w known c (Failed f) hosted now = keeps_same w known hosted (ap (λ (s : State). s.processes) now) (ap (λ (s : State). s.depth) now) (ap (λ (s : State). s.inhibited) now) (ap (λ (s : State). s.asked) now)

-- while hook functions are entered hooks are inhibited, and not behind them
pub around_keeps : (a b : World) (known mid : State) → mid ≡ record a.state { inhibited = true } → a.state.inhibited ≡ false → Keeps (record a { state = mid }) b → known ≡ record b.state { inhibited = false } → Keeps a (record b { state = known })
around_keeps a b known mid is off_now k now = record {
  hosted = subst (λ l. Hosted l b.kills) (sym (ap (λ (s : State). s.processes) now)) k.hosted;
  count = omega (arith, k.count, ap (λ (s : State). length s.processes) now, ap (λ (s : State). length s.processes) is);
  depth = ap (λ (s : State). s.depth) now ∙ k.depth ∙ ap (λ (s : State). s.depth) is;
  inhibited = ap (λ (s : State). s.inhibited) now ∙ sym off_now;
  asked = omega (arith, k.asked, ap (λ (s : State). s.asked) now, ap (λ (s : State). s.asked) is);
}

pub inhibited_ready : (s mid : State) (kills : List Bool) → mid ≡ record s { inhibited = true } → IsReady s kills → IsReady mid kills
inhibited_ready s mid kills is r = record {
  hosted = subst (λ l. Hosted l kills) (sym (ap (λ (t : State). t.processes) is)) r.hosted;
  few = omega (arith, r.few, ap (λ (t : State). length t.processes) is);
  depth = omega (arith, r.depth, ap (λ (t : State). t.depth) is);
  in_hook = λ e. ap (λ (t : State). t.inhibited) is;
}

-- a depth below the deepest, where that would be contradicted
not_deepest : (d : ℕ) → d ≤ 17 → (d ≡ 17 → false ≡ true) → d ≤ 16
not_deepest d h never = by (eq-or-lt_of_le h)
  where
    by : (d ≡ 17) ⊎ (d < 17) → d ≤ 16
    by (inr low) = omega arith
    by (inl e) = absurd (false≢true (never e))

pub inhibited_may : (s mid : State) (kills : List Bool) → mid ≡ record s { inhibited = true } → s.inhibited ≡ false → IsReady s kills → MayEnter mid
inhibited_may s mid kills is off_now r = record { depth = omega (arith, below, ap (λ (t : State). t.depth) is); in_hook = λ e. ap (λ (t : State). t.inhibited) is }
  where
    below : s.depth ≤ 16
    below = not_deepest s.depth r.depth (λ e. sym off_now ∙ r.in_hook e)
