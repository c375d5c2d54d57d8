-- How calls on the editor go, and forms that are calls.
use Rattle.std.proofs.Common.{◌≡◌, ℕ, List, ◌∷◌, length, refl, ap, sym, ◌∙◌, subst, arith}
use Rattle.std.specs.Prelude.{Option, Some, None, Bool, true, false}
use Rattle.editor_model.specs.Values.{Value, Reply, Answered, Refused, VoidVariable, Prim, Call, Arg, Forms, WhenEq}
use Rattle.editor_model.specs.Prims.{OnlyAsks, SetsState, manner_of}
use Rattle.editor_model.specs.Table.{query, apply}
use Rattle.plain_machine.specs.State.{State, Program}
use Rattle.plain_machine.specs.Items.{Item, Body, DoForm, MakeCall, Refuse, Target, Step}
use Rattle.plain_machine.specs.Calls.{on, answered, call_by}
use Rattle.plain_machine.specs.Forms.{evaluate, call_with, when_eq}
use Rattle.plain_machine.specs.Step.{step}
use Rattle.plain_machine.specs.Run.{stays, goes}
use Rattle.kernel_steps.specs.Outside.{deepest}
use Rattle.kernel_steps.specs.Arguments.{test_of}
use Rattle.kernel_steps.specs.Worlds.{World, Stands, Hosted, Keeps}
use Rattle.kernel_steps.specs.Work.{working, at_item, reply_item, call_form, target_of}
use Rattle.kernel_steps.proofs.Works.{Went, went_silently, IsMiddle, middle}
use Rattle.kernel_steps.proofs.Evaluating.{evaluates_alike, are_both, not_both, test_alike}

is_answered : (s : State) (target : Target) (r : Reply) (rest : List Item) → answered s target r rest ≡ on s (reply_item r target ∷ rest)
is_answered s target (Answered v) rest = refl
is_answered s target (Refused f) rest = refl

-- a state of the kernel that differs in the editor alone
pub keeps_same : (w : World) (known : State) → Hosted w.state.processes w.kills → known.processes ≡ w.state.processes → known.depth ≡ w.state.depth → known.inhibited ≡ w.state.inhibited → known.asked ≡ w.state.asked → Keeps w (record w { state = known })
keeps_same w known hosted same depth inhibited asked = record { hosted = subst (λ l. Hosted l w.kills) (sym same) hosted; count = omega (arith, ap length same); depth = depth; inhibited = inhibited; asked = omega (arith, asked) }

module _ (program : Program) (w : World) where
  pub asks_went : (prim : Prim) (args : List Value) (target : Target) (r : Reply) → manner_of prim ≡ OnlyAsks → r ≡ query w.state.editor prim args → Went program w w (at_item (MakeCall prim args target)) (at_item (reply_item r target))
  asks_went prim args target r manner is = went_silently program w w.state (λ s. s) (at_item (MakeCall prim args target)) (at_item (reply_item r target)) (λ s h. h) (λ s rest h. goes (steps s rest h) stays)
    where
      steps : (s : State) (rest : List Item) → Stands w.state s → step program deepest (working s (MakeCall prim args target ∷ rest)) ≡ on s (reply_item r target ∷ rest)
      steps s rest h =
          ap (λ m. call_by m program deepest s target rest prim args) manner ∙ is_answered s target (query s.editor prim args) rest
          ∙ ap (λ q. on s (reply_item q target ∷ rest)) (ap (λ (t : State). query t.editor prim args) (sym h) ∙ sym is)

  abbrev applied_to : Prim → List Value → State → State
  applied_to prim args s = record s { editor = (apply s.editor prim args).editor }

  pub sets_went : (known : State) (prim : Prim) (args : List Value) (target : Target) (r : Reply) → manner_of prim ≡ SetsState → known ≡ record w.state { editor = (apply w.state.editor prim args).editor } → r ≡ (apply w.state.editor prim args).reply →
      Went program w (record w { state = known }) (at_item (MakeCall prim args target)) (at_item (reply_item r target))
  sets_went known prim args target r manner now is = went_silently program w known (applied_to prim args) (at_item (MakeCall prim args target)) (at_item (reply_item r target)) (λ s h. now ∙ ap (applied_to prim args) h) (λ s rest h. goes (steps s rest h) stays)
    where
      steps : (s : State) (rest : List Item) → Stands w.state s → step program deepest (working s (MakeCall prim args target ∷ rest)) ≡ on (applied_to prim args s) (reply_item r target ∷ rest)
      steps s rest h =
          ap (λ m. call_by m program deepest s target rest prim args) manner ∙ is_answered (applied_to prim args s) target (apply s.editor prim args).reply rest
          ∙ ap (λ q. on (applied_to prim args s) (reply_item q target ∷ rest)) (ap (λ (t : State). (apply t.editor prim args).reply) (sym h) ∙ sym is)

  -- FORMS
  form_steps : (name : Option ℕ) (c : Call) (s : State) (rest : List Item) → step program deepest (working s (DoForm (call_form name c) ∷ rest)) ≡ call_with (evaluate s c.args) c.prim (target_of name) s rest
  form_steps None c s rest = refl
  form_steps (Some name) c s rest = refl

  pub form_went : (name : Option ℕ) (c : Call) (args : List Value) → evaluate w.state c.args ≡ Some args → Went program w w (at_item (DoForm (call_form name c))) (at_item (MakeCall c.prim args (target_of name)))
  form_went name c args e = went_silently program w w.state (λ s. s) (at_item (DoForm (call_form name c))) (at_item (MakeCall c.prim args (target_of name))) (λ s h. h)
      (λ s rest h. goes (form_steps name c s rest ∙ ap (λ o. call_with o c.prim (target_of name) s rest) (sym (evaluates_alike w.state s c.args h) ∙ e)) stays)

  pub form_void : (name : Option ℕ) (c : Call) → evaluate w.state c.args ≡ None → Went program w w (at_item (DoForm (call_form name c))) (at_item (Refuse VoidVariable))
  form_void name c e = went_silently program w w.state (λ s. s) (at_item (DoForm (call_form name c))) (at_item (Refuse VoidVariable)) (λ s h. h)
      (λ s rest h. goes (form_steps name c s rest ∙ ap (λ o. call_with o c.prim (target_of name) s rest) (sym (evaluates_alike w.state s c.args h) ∙ e)) stays)

  -- TESTS
  abbrev if_equal : Bool → Forms → State → List Item → Step
  if_equal v forms s rest = elim v [ true ↦ on s (Body forms ∷ rest) | false ↦ on s rest ]

  pub when_void : (a b : Arg) (forms : Forms) → test_of w.state a b ≡ None → Went program w w (at_item (DoForm (WhenEq a b forms))) (at_item (Refuse VoidVariable))
  when_void a b forms e = went_silently program w w.state (λ s. s) (at_item (DoForm (WhenEq a b forms))) (at_item (Refuse VoidVariable)) (λ s h. h)
      (λ s rest h. goes (ap (λ o. when_eq o forms s rest) (not_both s a b (sym (test_alike w.state s a b h) ∙ e))) stays)

  when_steps : (a b : Arg) (forms : Forms) (v : Bool) → test_of w.state a b ≡ Some v → (s : State) (rest : List Item) → Stands w.state s → step program deepest (working s (DoForm (WhenEq a b forms) ∷ rest)) ≡ if_equal v forms s rest
  when_steps a b forms v e s rest h =
      let found = are_both s a b v (sym (test_alike w.state s a b h) ∙ e) in
      ap (λ o. when_eq o forms s rest) found.values ∙ ap (λ v. if_equal v forms s rest) found.same

  pub when_equal : (a b : Arg) (forms : Forms) → test_of w.state a b ≡ Some true → Went program w w (at_item (DoForm (WhenEq a b forms))) (at_item (Body forms))
  when_equal a b forms e = went_silently program w w.state (λ s. s) (at_item (DoForm (WhenEq a b forms))) (at_item (Body forms)) (λ s h. h) (λ s rest h. goes (when_steps a b forms true e s rest h) stays)

  pub when_other : (a b : Arg) (forms : Forms) → test_of w.state a b ≡ Some false → Went program w w (at_item (DoForm (WhenEq a b forms))) (λ s rest. working s rest)
  when_other a b forms e = went_silently program w w.state (λ s. s) (at_item (DoForm (WhenEq a b forms))) (λ s rest. working s rest) (λ s h. h) (λ s rest h. goes (when_steps a b forms false e s rest h) stays)

pub form_middle : (name : Option ℕ) (c : Call) → IsMiddle (DoForm (call_form name c))
form_middle name c = middle (λ s rest. (tt, tt))
