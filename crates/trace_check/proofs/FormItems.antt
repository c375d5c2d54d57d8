-- Forms, blocks and their ends.
use Rattle.std.proofs.Common.{◌≡◌, ℕ, List, [], ◌∷◌, refl, ap, sym, ◌∙◌}
use Rattle.std.specs.Prelude.{Option, Some, None, Bool, true, false}
use Rattle.editor_model.specs.Values.{Value, Reply, VoidVariable, Call, Arg, Form, Forms, NoForms, Then, In, WhenEq, Block, SaveExcursion, SaveRestriction, SaveCurrentBuffer, InhibitHooks, InhibitReadOnly}
use Rattle.plain_machine.specs.State.{State, Program}
use Rattle.plain_machine.specs.Items.{Item, Top, Body, DoForm, MakeCall, Leave, Refuse, Calm, Called, Finish, Kept, Step}
use Rattle.plain_machine.specs.Calls.{on}
use Rattle.plain_machine.specs.Forms.{evaluate, call_with, when_eq, opened, restored, kept_of}
use Rattle.plain_machine.specs.Step.{step}
use Rattle.kernel_steps.specs.Arguments.{test_of}
use Rattle.kernel_steps.specs.Outside.{deepest}
use Rattle.kernel_steps.specs.Work.{working, call_form, target_of}
use Rattle.kernel_steps.specs.Worlds.{Stands, kept_state}
use Rattle.kernel_steps.proofs.Evaluating.{evaluates_alike, are_both, not_both, test_alike}
use Rattle.kernel_steps.proofs.KeptStates.{opened_apart, restored_apart}
use Rattle.trace_check.specs.Steps.{Quietly}
use Rattle.trace_check.proofs.Quiet.{quietly, quietly_apart, stays_put}

-- what a block keeps has nothing to do with processes
kept_kept : (kind : Block) (s : State) → kept_of kind (kept_state s) ≡ kept_of kind s
kept_kept SaveExcursion s = refl
kept_kept SaveRestriction s = refl
kept_kept SaveCurrentBuffer s = refl
kept_kept InhibitHooks s = refl
kept_kept InhibitReadOnly s = refl

module _ (program : Program) (known : State) (rest : List Item) where
  -- LISTS OF FORMS
  pub body_goes : (f : Form) (fs : Forms) → Quietly program known known (Body (Then f fs) ∷ rest) (DoForm f ∷ Body fs ∷ rest)
  body_goes f fs = stays_put program known _ _ (λ s h. refl)

  pub body_ends : Quietly program known known (Body NoForms ∷ rest) rest
  body_ends = stays_put program known _ _ (λ s h. refl)

  pub top_goes : (f : Form) (fs : Forms) → Quietly program known known (Top (Then f fs) ∷ rest) (DoForm f ∷ Top fs ∷ rest)
  top_goes f fs = stays_put program known _ _ (λ s h. refl)

  pub top_ends : Quietly program known known (Top NoForms ∷ rest) (Finish 0 ∷ [])
  top_ends = stays_put program known _ _ (λ s h. refl)

  -- CALLS
  form_step : (name : Option ℕ) (c : Call) (s : State) → step program deepest (working s (DoForm (call_form name c) ∷ rest)) ≡ call_with (evaluate s c.args) c.prim (target_of name) s rest
  form_step None c s = refl
  form_step (Some name) c s = refl

  call_step : (name : Option ℕ) (c : Call) (o : Option (List Value)) → evaluate known c.args ≡ o → (s : State) → Stands known s →
      step program deepest (working s (DoForm (call_form name c) ∷ rest)) ≡ call_with o c.prim (target_of name) s rest
  call_step name c o e s h = form_step name c s ∙ ap (λ o. call_with o c.prim (target_of name) s rest) (sym (evaluates_alike known s c.args h) ∙ e)

  pub call_put : (name : Option ℕ) (c : Call) (args : List Value) → evaluate known c.args ≡ Some args →
      Quietly program known known (DoForm (call_form name c) ∷ rest) (MakeCall c.prim args (target_of name) ∷ rest)
  call_put name c args e = stays_put program known _ _ (call_step name c (Some args) e)

  pub call_void : (name : Option ℕ) (c : Call) → evaluate known c.args ≡ None → Quietly program known known (DoForm (call_form name c) ∷ rest) (Refuse VoidVariable ∷ rest)
  call_void name c e = stays_put program known _ _ (call_step name c None e)

  -- TESTS
  pub when_void : (a b : Arg) (forms : Forms) → test_of known a b ≡ None → Quietly program known known (DoForm (WhenEq a b forms) ∷ rest) (Refuse VoidVariable ∷ rest)
  when_void a b forms e = stays_put program known _ _ (λ s h. ap (λ o. when_eq o forms s rest) (not_both s a b (sym (test_alike known s a b h) ∙ e)))

  abbrev if_equal : Bool → Forms → State → Step
  if_equal v forms s = elim v [ true ↦ on s (Body forms ∷ rest) | false ↦ on s rest ]

  when_step : (a b : Arg) (forms : Forms) (v : Bool) → test_of known a b ≡ Some v → (s : State) → Stands known s → step program deepest (working s (DoForm (WhenEq a b forms) ∷ rest)) ≡ if_equal v forms s
  when_step a b forms v e s h =
      let found = are_both s a b v (sym (test_alike known s a b h) ∙ e) in
      ap (λ o. when_eq o forms s rest) found.values ∙ ap (λ v. if_equal v forms s) found.same

  pub when_equal : (a b : Arg) (forms : Forms) → test_of known a b ≡ Some true → Quietly program known known (DoForm (WhenEq a b forms) ∷ rest) (Body forms ∷ rest)
  when_equal a b forms e = stays_put program known _ _ (when_step a b forms true e)

  pub when_other : (a b : Arg) (forms : Forms) → test_of known a b ≡ Some false → Quietly program known known (DoForm (WhenEq a b forms) ∷ rest) rest
  when_other a b forms e = stays_put program known _ _ (when_step a b forms false e)

  -- BLOCKS
  pub block_opens : (known2 : State) (kind : Block) (forms : Forms) → known2 ≡ opened kind known → Quietly program known known2 (DoForm (In kind forms) ∷ rest) (Body forms ∷ Leave (kept_of kind known) ∷ rest)
  block_opens known2 kind forms now = quietly_apart program known known2 _ _ (opened kind) (opened_apart kind) now
      (λ s h. ap (λ k. on (opened kind s) (Body forms ∷ Leave k ∷ rest)) (sym (kept_kept kind s) ∙ ap (kept_of kind) (sym h)))

  pub block_ends : (known2 : State) (k : Kept) → known2 ≡ restored k known → Quietly program known known2 (Leave k ∷ rest) rest
  block_ends known2 k now = quietly_apart program known known2 _ _ (restored k) (restored_apart k) now (λ s h. refl)

  -- INHIBITION
  abbrev calmed : Bool → State → State
  calmed old s = record s { inhibited = old }

  pub calms : (known2 : State) (old : Bool) → known2 ≡ record known { inhibited = old } → Quietly program known known2 (Calm old ∷ rest) rest
  calms known2 old now = quietly program known known2 _ _ (calmed old) (λ s h. now ∙ ap (calmed old) h) (λ s h. refl)

  -- a native whose reply was lost
  pub called_goes : (i : ℕ) (args : List Value) (past : List Reply) → Quietly program known known (Called i args past ∷ rest) rest
  called_goes i args past = stays_put program known _ _ (λ s h. refl)
