-- Changes, and the hook functions round them.
use Rattle.std.proofs.Common.{◌≡◌, ℕ, List, [], ◌∷◌, refl, ap, sym, ◌∙◌}
use Rattle.std.specs.Prelude.{Some, true, false}
use Rattle.editor_model.specs.Values.{Value, Fault}
use Rattle.editor_model.specs.Answers.{Change, Committed, Done, Failed}
use Rattle.plain_machine.specs.State.{State, Program}
use Rattle.plain_machine.specs.Lines.{Kind, OfFilter, OfSentinel, OfBefore, OfAfter}
use Rattle.plain_machine.specs.Items.{Item, Config, MakeChange, CommitChange, Hooks, Calm, Refuse, Enter}
use Rattle.plain_machine.specs.Calls.{on}
use Rattle.plain_machine.specs.Forms.{bracket, after_commit}
use Rattle.plain_machine.specs.Step.{step}
use Rattle.kernel_steps.specs.Changes.{begun, done_at, behind_commit, ends_of, ends_behind}
use Rattle.kernel_steps.specs.Handlers.{hook_names, around}
use Rattle.kernel_steps.specs.Outside.{deepest}
use Rattle.kernel_steps.specs.Work.{working}
use Rattle.kernel_steps.specs.Worlds.{Stands, kept_state}
use Rattle.trace_check.specs.Steps.{Quietly}
use Rattle.trace_check.proofs.Quiet.{quietly, stays_put}

-- HOOK FUNCTIONS
names_kept : (kind : Kind) (s : State) → hook_names kind (kept_state s) ≡ hook_names kind s
names_kept (OfFilter p) s = refl
names_kept (OfSentinel p) s = refl
names_kept (OfBefore b) s = refl
names_kept (OfAfter b) s = refl

-- the work round which hook functions stand, in a state that the kernel stands for
around_alike : (kind : Kind) (args : List Value) (known s : State) (rest : List Item) → Stands known s →
    around kind args known rest ≡ working (kept_state (record s { inhibited = true })) (bracket s.inhibited kind (hook_names kind s) args rest)
around_alike kind args known s rest h =
    ap (λ (t : State). around kind args t rest) h
    ∙ ap (λ names. working (kept_state (record s { inhibited = true })) (bracket s.inhibited kind names args rest)) (names_kept kind s)

module _ (program : Program) (known known2 : State) (work left : List Item) where
  -- a step behind which hook functions stand round some work
  pub surrounded : (change : State → State) (mid : State) (kind : Kind) (args : List Value) (rest : List Item) →
      ((s : State) → Stands known s → Stands mid (change s)) → working known2 left ≡ around kind args mid rest →
      ((s : State) → Stands known s → step program deepest (working s work) ≡ on (record (change s) { inhibited = true }) (bracket (change s).inhibited kind (hook_names kind (change s)) args rest)) →
      Quietly program known known2 work left
  surrounded change mid kind args rest stands now steps =
      let whole = λ (s : State) (h : Stands known s). now ∙ around_alike kind args mid (change s) rest (stands s h) in
      quietly program known known2 work left (λ s. record (change s) { inhibited = true })
      (λ s h. ap (λ (c : Config). c.state) (whole s h))
      (λ s h. steps s h ∙ ap (λ l. on (record (change s) { inhibited = true }) l) (sym (ap (λ (c : Config). c.work) (whole s h))))

module _ (program : Program) (known known2 : State) (rest left : List Item) where
  -- A CHANGE BEGINS
  pub change_begins : (mid : State) (c : Change) → mid ≡ begun c known → working known2 left ≡ around (OfBefore c.buffer) (ends_of c.from c.to) mid (CommitChange c ∷ rest) → Quietly program known known2 (MakeChange c ∷ rest) left
  change_begins mid c kept now = surrounded program known known2 (MakeChange c ∷ rest) left (begun c) mid (OfBefore c.buffer) (ends_of c.from c.to) (CommitChange c ∷ rest)
      (λ s h. kept ∙ ap (begun c) h) now (λ s h. refl)

  -- ITS COMMIT
  commit_step : (c : Change) (d : Committed) → d ≡ (done_at c known).committed → (s : State) → Stands known s → step program deepest (working s (CommitChange c ∷ rest)) ≡ after_commit (done_at c s).editor d s c rest
  commit_step c d is s h = ap (λ d. after_commit (done_at c s).editor d s c rest) (ap (λ (t : State). (done_at c t).committed) (sym h) ∙ sym is)

  pub commit_done : (mid : State) (c : Change) (from to old : ℕ) → Done from to old ≡ (done_at c known).committed → mid ≡ behind_commit c (Done from to old) known →
      working known2 left ≡ around (OfAfter c.buffer) (ends_behind from to old) mid rest → Quietly program known known2 (CommitChange c ∷ rest) left
  commit_done mid c from to old is kept now = surrounded program known known2 (CommitChange c ∷ rest) left (behind_commit c (Done from to old)) mid (OfAfter c.buffer) (ends_behind from to old) rest
      (λ s h. kept ∙ ap (behind_commit c (Done from to old)) h) now (commit_step c (Done from to old) is)

  pub commit_fails : (c : Change) (f : Fault) → Failed f ≡ (done_at c known).committed → known2 ≡ behind_commit c (Failed f) known → left ≡ Refuse f ∷ rest → Quietly program known known2 (CommitChange c ∷ rest) left
  commit_fails c f is now e = quietly program known known2 (CommitChange c ∷ rest) left (behind_commit c (Failed f)) (λ s h. now ∙ ap (behind_commit c (Failed f)) h)
      (λ s h. commit_step c (Failed f) is s h ∙ ap (λ l. on (behind_commit c (Failed f) s) l) (sym e))

-- THE FUNCTIONS OF A HOOK
module _ (program : Program) (known : State) (rest : List Item) (kind : Kind) (args : List Value) where
  pub hooks_go : (n : ℕ) (names : List ℕ) → Quietly program known known (Hooks kind (n ∷ names) args ∷ rest) (Enter kind (Some n) args ∷ Hooks kind names args ∷ rest)
  hooks_go n names = stays_put program known _ _ (λ s h. refl)

  pub hooks_end : Quietly program known known (Hooks kind [] args ∷ rest) rest
  hooks_end = stays_put program known _ _ (λ s h. refl)

-- PUTTING HOOK FUNCTIONS ROUND WORK
pub unhooked : (known : State) (rest : List Item) (kind : Kind) (args : List Value) → known.inhibited ≡ true → working known rest ≡ around kind args known rest
unhooked known rest kind args on =
    ap (λ b. working (record known { inhibited = b }) rest) on
    ∙ ap (λ b. working (record known { inhibited = true }) (bracket b kind (hook_names kind known) args rest)) (sym on)

pub hooked : (known known2 : State) (rest left : List Item) (kind : Kind) (names : List ℕ) (args : List Value) → known.inhibited ≡ false → known2 ≡ record known { inhibited = true } → names ≡ hook_names kind known →
    left ≡ Hooks kind names args ∷ Calm false ∷ rest → working known2 left ≡ around kind args known rest
hooked known known2 rest left kind names args off now are e =
    ap (λ s. working s left) now
    ∙ ap (working (record known { inhibited = true })) (e ∙ ap (λ n. Hooks kind n args ∷ Calm false ∷ rest) are)
    ∙ ap (λ b. working (record known { inhibited = true }) (bracket b kind (hook_names kind known) args rest)) (sym off)
