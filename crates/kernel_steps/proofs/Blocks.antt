-- Blocks: what they keep is restored behind their forms.
use Rattle.std.proofs.Common.{◌≡◌, ℕ, List, [], ◌∷◌, length, Result, Ok, Err, refl, ap, sym, ◌∙◌, subst, arith}
use Rattle.std.specs.Prelude.{Option, Some, None, Bool, true, false, drop}
use Rattle.text_model.specs.Marks.{Saved, Excursion, Restriction, Pending}
use Rattle.editor_model.specs.Values.{Value, Forms, In, Block, SaveExcursion, SaveRestriction, SaveCurrentBuffer, InhibitHooks, InhibitReadOnly}
use Rattle.editor_model.specs.Editor.{is_live, register, with_register}
use Rattle.plain_machine.specs.State.{State, Program}
use Rattle.plain_machine.specs.Items.{Item, Config, Body, DoForm, Leave, Kept, KeptExcursion, KeptRestriction, KeptBuffer, KeptInhibition, KeptLifting}
use Rattle.plain_machine.specs.Calls.{on}
use Rattle.plain_machine.specs.Forms.{opened, restored, kept_of, put_back, with_saved, saved_of, assigned, scope_of}
use Rattle.plain_machine.specs.Run.{stays, goes}
use Rattle.kernel_steps.specs.Worlds.{World, kept_state, Hosted, IsReady, Keeps}
use Rattle.kernel_steps.specs.Work.{working, IsBehind, Stays, Work, onwards, outwards, at_item}
use Rattle.kernel_steps.specs.declared.stop.Halt.{Halt}
use Rattle.kernel_steps.specs.declared.stop.Halt.TheVariants as halt
use Rattle.kernel_steps.proofs.KeptStates.{opened_apart, restored_apart, assigned_apart}
use Rattle.kernel_steps.proofs.Works.{Went, went_silently, went_then, path_behind, path_before, path_changed, work_done, work_wants, keeps_then}
use Rattle.kernel_steps.proofs.Calling.{keeps_same}
use Rattle.kernel_steps.specs.declared.stop.Stop.TheVariants as stop

-- BEHIND
pub leave_behind : (k : Kept) (rest : List Item) → IsBehind rest → IsBehind (Leave k ∷ rest)
leave_behind k rest h = record {
  next = λ s. record { between = tt; before_end = tt };
  replied = λ r s. record { between = tt; before_end = tt };
  unhooked = λ s. record { between = tt; before_end = tt };
  faulted = λ f s. h.faulted f (restored k s);
}

pub body_behind : (fs : Forms) (rest : List Item) → IsBehind rest → IsBehind (Body fs ∷ rest)
body_behind fs rest h = record {
  next = λ s. record { between = tt; before_end = tt };
  replied = λ r s. record { between = tt; before_end = tt };
  unhooked = λ s. record { between = tt; before_end = tt };
  faulted = λ f s. h.faulted f s;
}

-- NESTING
-- what is neither nested deeper nor inhibited by a change of the state
record IsLevel (change : State → State) : Type 0 where
  depth : (s : State) → (change s).depth ≡ s.depth
  inhibited : (s : State) → (change s).inhibited ≡ s.inhibited

abbrev chosen : Bool → (s t : State) → State
chosen live s t = elim live [ true ↦ t | false ↦ s ]

chosen_depth : (live : Bool) (s t : State) → t.depth ≡ s.depth → (chosen live s t).depth ≡ s.depth
chosen_depth true s t e = e
chosen_depth false s t e = refl

chosen_inhibited : (live : Bool) (s t : State) → t.inhibited ≡ s.inhibited → (chosen live s t).inhibited ≡ s.inhibited
chosen_inhibited true s t e = e
chosen_inhibited false s t e = refl

back_depth : (k : Saved) (s : State) → (put_back k s).depth ≡ s.depth
back_depth (Excursion b p) s = chosen_depth (is_live s.editor b) s _ refl
back_depth (Restriction b None) s = chosen_depth (is_live s.editor b) s _ refl
back_depth (Restriction b (Some ends)) s = chosen_depth (is_live s.editor b) s _ refl
back_depth (Pending b from to) s = refl

back_inhibited : (k : Saved) (s : State) → (put_back k s).inhibited ≡ s.inhibited
back_inhibited (Excursion b p) s = chosen_inhibited (is_live s.editor b) s _ refl
back_inhibited (Restriction b None) s = chosen_inhibited (is_live s.editor b) s _ refl
back_inhibited (Restriction b (Some ends)) s = chosen_inhibited (is_live s.editor b) s _ refl
back_inhibited (Pending b from to) s = refl

abbrev popped_by : State → List Saved → State
popped_by s saved = elim saved [ [] ↦ s | kept ∷ rest ↦ put_back kept (with_saved rest s) ]

pop_depth : (s : State) (saved : List Saved) → (popped_by s saved).depth ≡ s.depth
pop_depth s [] = refl
pop_depth s (k ∷ rest) = back_depth k (with_saved rest s)

pop_inhibited : (s : State) (saved : List Saved) → (popped_by s saved).inhibited ≡ s.inhibited
pop_inhibited s [] = refl
pop_inhibited s (k ∷ rest) = back_inhibited k (with_saved rest s)

pub restored_depth : (k : Kept) (s : State) → (restored k s).depth ≡ s.depth
restored_depth KeptExcursion s = pop_depth s (saved_of s)
restored_depth KeptRestriction s = pop_depth s (saved_of s)
restored_depth (KeptBuffer b) s = chosen_depth (is_live s.editor b) s _ refl
restored_depth (KeptInhibition old) s = refl
restored_depth (KeptLifting old) s = refl

pub opened_depth : (kind : Block) (s : State) → (opened kind s).depth ≡ s.depth
opened_depth SaveExcursion s = refl
opened_depth SaveRestriction s = refl
opened_depth SaveCurrentBuffer s = refl
opened_depth InhibitHooks s = refl
opened_depth InhibitReadOnly s = refl

opened_hooks : (kind : Block) (s : State) → s.inhibited ≡ true → (opened kind s).inhibited ≡ true
opened_hooks SaveExcursion s e = e
opened_hooks SaveRestriction s e = e
opened_hooks SaveCurrentBuffer s e = e
opened_hooks InhibitHooks s e = refl
opened_hooks InhibitReadOnly s e = e

-- exchanges
chosen_asked : (live : Bool) (s t : State) → t.asked ≡ s.asked → (chosen live s t).asked ≡ s.asked
chosen_asked true s t e = e
chosen_asked false s t e = refl

back_asked : (k : Saved) (s : State) → (put_back k s).asked ≡ s.asked
back_asked (Excursion b p) s = chosen_asked (is_live s.editor b) s _ refl
back_asked (Restriction b None) s = chosen_asked (is_live s.editor b) s _ refl
back_asked (Restriction b (Some ends)) s = chosen_asked (is_live s.editor b) s _ refl
back_asked (Pending b from to) s = refl

pop_asked : (s : State) (saved : List Saved) → (popped_by s saved).asked ≡ s.asked
pop_asked s [] = refl
pop_asked s (k ∷ rest) = back_asked k (with_saved rest s)

pub restored_asked : (k : Kept) (s : State) → (restored k s).asked ≡ s.asked
restored_asked KeptExcursion s = pop_asked s (saved_of s)
restored_asked KeptRestriction s = pop_asked s (saved_of s)
restored_asked (KeptBuffer b) s = chosen_asked (is_live s.editor b) s _ refl
restored_asked (KeptInhibition old) s = refl
restored_asked (KeptLifting old) s = refl

opened_asked : (kind : Block) (s : State) → (opened kind s).asked ≡ s.asked
opened_asked SaveExcursion s = refl
opened_asked SaveRestriction s = refl
opened_asked SaveCurrentBuffer s = refl
opened_asked InhibitHooks s = refl
opened_asked InhibitReadOnly s = refl

-- hooks are as inhibited behind a block as in front of it
same_hooks : (kind : Block) (s t : State) → t.inhibited ≡ (opened kind s).inhibited → (restored (kept_of kind s) t).inhibited ≡ s.inhibited
same_hooks SaveExcursion s t e = pop_inhibited t (saved_of t) ∙ e
same_hooks SaveRestriction s t e = pop_inhibited t (saved_of t) ∙ e
same_hooks SaveCurrentBuffer s t e = chosen_inhibited (is_live t.editor s.editor.current) t _ refl ∙ e
same_hooks InhibitHooks s t e = refl
same_hooks InhibitReadOnly s t e = e

pub opened_ready : (kind : Block) (s : State) (kills : List Bool) → IsReady s kills → IsReady (opened kind s) kills
opened_ready kind s kills r = record {
  hosted = subst (λ l. Hosted l kills) (sym ((opened_apart kind).processes s)) r.hosted;
  few = omega (arith, r.few, ap length ((opened_apart kind).processes s));
  depth = omega (arith, r.depth, opened_depth kind s);
  in_hook = λ e. opened_hooks kind s (r.in_hook (sym (opened_depth kind s) ∙ e));
}

-- BLOCKS
kept_alike : (kind : Block) (s : State) → kept_of kind (kept_state s) ≡ kept_of kind s
kept_alike SaveExcursion s = refl
kept_alike SaveRestriction s = refl
kept_alike SaveCurrentBuffer s = refl
kept_alike InhibitHooks s = refl
kept_alike InhibitReadOnly s = refl

module _ (program : Program) (kind : Block) (forms : Forms) (w : World) where
  abbrev k : Kept
  k = kept_of kind w.state

  abbrev pub inside : World
  inside = record w { state = opened kind w.state }

  opened_went : Went program w inside (at_item (DoForm (In kind forms))) (λ s rest. working s (Body forms ∷ Leave k ∷ rest))
  opened_went = went_silently program w (opened kind w.state) (opened kind) (at_item (DoForm (In kind forms))) (λ s rest. working s (Body forms ∷ Leave k ∷ rest))
      (λ s h. ap (opened kind) h ∙ (opened_apart kind).kept_same s)
      (λ s rest h. goes (ap (λ k. on (opened kind s) (Body forms ∷ Leave k ∷ rest)) (sym (kept_alike kind s) ∙ ap (kept_of kind) (sym h))) stays)

  module _ {T : Type 0} (r : Result T Halt) (b : World) where
    abbrev pub outside_again : World
    outside_again = record b { state = restored k b.state }

    keeps_block : Keeps inside b → Keeps w outside_again
    keeps_block h = record {
      hosted = subst (λ l. Hosted l b.kills) (sym ((restored_apart k).processes b.state)) h.hosted;
      count = omega (arith, h.count, ap length ((restored_apart k).processes b.state), ap length ((opened_apart kind).processes w.state));
      depth = restored_depth k b.state ∙ h.depth ∙ opened_depth kind w.state;
      inhibited = same_hooks kind w.state b.state h.inhibited;
      asked = omega (arith, h.asked, restored_asked k b.state, opened_asked kind w.state);
    }

    stays_block : (r : Result T Halt) → Stays r inside b → Stays r w outside_again
    stays_block (Ok x) h = keeps_block h
    stays_block (Err (halt.Fault f)) h = keeps_block h
    stays_block (Err (halt.Stop why)) h = subst (λ l. Hosted l b.kills) (sym ((restored_apart k).processes b.state)) h

    pub block_work : Work r program inside b (at_item (Body forms)) onwards outwards → Work r program w outside_again (at_item (DoForm (In kind forms))) onwards outwards
    block_work h = record {
      path =
          path_changed program r w b (restored k b.state) (restored k) (at_item (DoForm (In kind forms))) (λ v t rest. working t (Leave k ∷ rest)) onwards (λ f t rest. outwards f t (Leave k ∷ rest)) outwards
          (λ t e. ap (restored k) e ∙ (restored_apart k).kept_same t) ((restored_apart k).processes b.state) (λ v t rest. goes refl stays) (λ f t rest. stays)
          (path_behind program r w inside b _ _ _ _ opened_went
          (path_before program r inside b (λ rest. Leave k ∷ rest) (at_item (Body forms)) onwards outwards (leave_behind k) h.path));
      stays = stays_block r h.stays;
    }

-- ASSIGNING
abbrev assigned_by : ℕ → Value → State → Option Value → State
assigned_by name v s o = elim o [
  | Some old ↦ record s { scopes = with_register name v (scope_of s) ∷ drop 1 s.scopes }
  | None ↦ record s { editor = record s.editor { registers = with_register name v s.editor.registers } }
]

assigned_depth : (name : ℕ) (v : Value) (s : State) → (assigned name v s).depth ≡ s.depth
assigned_depth name v s = by (register (scope_of s) name)
  where
    by : (o : Option Value) → (assigned_by name v s o).depth ≡ s.depth
    by (Some old) = refl
    by None = refl

assigned_inhibited : (name : ℕ) (v : Value) (s : State) → (assigned name v s).inhibited ≡ s.inhibited
assigned_inhibited name v s = by (register (scope_of s) name)
  where
    by : (o : Option Value) → (assigned_by name v s o).inhibited ≡ s.inhibited
    by (Some old) = refl
    by None = refl

assigned_asked : (name : ℕ) (v : Value) (s : State) → (assigned name v s).asked ≡ s.asked
assigned_asked name v s = by (register (scope_of s) name)
  where
    by : (o : Option Value) → (assigned_by name v s o).asked ≡ s.asked
    by (Some old) = refl
    by None = refl

module _ (program : Program) (a b : World) (name : ℕ) (v : Value) (from : State → List Item → Config) where
  abbrev named : State → List Item → Config
  named s rest = working (assigned name v s) rest

  pub assigned_work : (known : State) → known ≡ assigned name v b.state → Went program a b from named → Keeps a b → Work {T = Unit {0}} (Ok tt) program a (record b { state = known }) from onwards outwards
  assigned_work known is g kept =
      let alike = assigned_apart name v in
      let unit : Unit {0} = tt in
      work_done program unit a (record b { state = known }) from onwards outwards
      (went_then program a b (record b { state = known }) from named (λ s rest. working s rest) g
      (went_silently program b known (assigned name v) named (λ s rest. working s rest) (λ s h. is ∙ ap (assigned name v) h ∙ alike.kept_same s) (λ s rest h. stays)))
      (keeps_then a b (record b { state = known }) kept
      (keeps_same b known kept.hosted (ap (λ (s : State). s.processes) is ∙ alike.processes b.state) (ap (λ (s : State). s.depth) is ∙ assigned_depth name v b.state) (ap (λ (s : State). s.inhibited) is ∙ assigned_inhibited name v b.state) (ap (λ (s : State). s.asked) is ∙ assigned_asked name v b.state)))

  pub assigned_wants : Went program a b from named → Keeps a b → Work {T = Unit {0}} (Err (halt.Stop stop.NoMemory)) program a b from onwards outwards
  assigned_wants g kept = work_wants program a b from named onwards outwards g kept.hosted (λ s rest behind. (behind.next (assigned name v s), (assigned_apart name v).processes s))
