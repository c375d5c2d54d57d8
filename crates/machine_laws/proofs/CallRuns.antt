-- Runs of refused calls: what is left so far, whether a handler runs in the call or not.
use Rattle.std.proofs.Common.{◌≡◌, ℕ, suc, ◌+◌, ◌-◌, ◌≤◌, Bool, true, false, List, [], ◌∷◌, ◌++◌, drop, refl, ap, sym, ◌∙◌, subst, arith, append_assoc}
use Rattle.std.specs.Prelude.{Option, Some, None, ◌&&◌}
use Rattle.std.specs.List.{list_all}
use Rattle.std.proofs.lemmas.List.{append-nil}
use Rattle.std.proofs.lemmas.Bool.{false≢true}
use Rattle.editor_model.specs.Values.{Value, Fault, Script, HandlerDef}
use Rattle.editor_model.specs.Editor.{Editor, is_live}
use Rattle.editor_model.specs.Answers.{Prepared, Changes, Quiet, Nothing, Barred}
use Rattle.editor_model.specs.TextCalls.{prepare_output}
use Rattle.text_model.specs.Properties.{Cell}
use Rattle.text_model.specs.Marks.{Saved, Excursion, Restriction, Pending}
use Rattle.plain_machine.specs.Exchanges.{Exchange, Ask, Answer}
use Rattle.plain_machine.specs.State.{State, Program}
use Rattle.plain_machine.specs.Lines.{Kind, OfBefore, OfAfter, OfFilter, OfSentinel}
use Rattle.plain_machine.specs.Items.{Item, Top, Body, MakeCall, Leave, Finish, WriteDump, Kept, KeptExcursion, KeptRestriction, KeptBuffer, KeptInhibition, KeptLifting, Refuse, MakeChange, Hooks, Calm, CommitChange, Enter, Native, Exit, Wait, Delete, Said, Config, Next, Step, Goes, Asks}
use Rattle.plain_machine.specs.Arguments.{handler_def}
use Rattle.plain_machine.specs.Hooks.{before_change_functions, after_change_functions, set_hook_list}
use Rattle.plain_machine.specs.Forms.{if_live, current}
use Rattle.plain_machine.specs.Handling.{enter, exit, body_of, named_body, default_handler, output_in, put_in, process_buffer_of, mark_of_process, plain_text, second, sentinel_words, left_state, ended_handler, without_hooks_item, unlisted}
use Rattle.plain_machine.specs.Step.{step}
use Rattle.plain_machine.specs.Run.{Reaches, stays, goes, asks, start}
use Rattle.plain_machine.proofs.Composed.{reaches_then, over_runs}
use Rattle.machine_laws.specs.Brackets.{Levels, levels, shapes}
use Rattle.machine_laws.specs.RefusedCalls.{Handled, without_change, ChangeUnderWay, LeftByCall, nothing, exchanged, ended, handled, hooked, is_within, RefusedCallsLeave}
use Rattle.machine_laws.proofs.GoodConfig.{GoodConfig, IsPendingIn, Stacked}
use Rattle.machine_laws.proofs.Returning.{goes_good, asks_good, start_good, reaches_good}
use Rattle.machine_laws.proofs.LevelStates.{behind_handler, behind_place, behind_block, live_levels, change_levels, left_levels}
use Rattle.machine_laws.proofs.Working.{change_editor}
use Rattle.machine_laws.proofs.Levels.{unwound, Floor, exit_of, Above, above, AnswerStays, StepStays, step_stays}
use Rattle.machine_laws.proofs.RefusedCalls.{Answering, Committing, Calming, Standing, Resumes, based, based_depth, Own, own, Comes, stands, enters, answers, replies, Behind, leaves, ends_one, to_answer, AnswerOwn, StepOwn, own_step, Follows, goes_on, enters_one, has_replied, AnswerFollows, StepFollows, follows_step}

-- LEVELS
abbrev pub one_deeper : Levels → Levels
one_deeper l = record l { depth = l.depth + 1; scopes = suc l.scopes }

lowered : (l : Levels) → behind_handler (one_deeper l) ≡ l
lowered l =
    let a : l.depth + 1 - 1 ≡ l.depth = omega arith in
    let b : suc l.scopes - 1 ≡ l.scopes = omega arith in
    λ i. record { depth = a i; scopes = b i; inhibited = l.inhibited; lifted = l.lifted; kept = l.kept }

block_depth : (k : Kept) (l : Levels) → (behind_block k l).depth ≡ l.depth
block_depth KeptExcursion l = refl
block_depth KeptRestriction l = refl
block_depth (KeptBuffer b) l = refl
block_depth (KeptInhibition old) l = refl
block_depth (KeptLifting old) l = refl

-- unwinding never goes deeper
unwound_depth : (front : List Item) (l : Levels) → (unwound front l).depth ≤ l.depth
unwound_depth [] l = omega arith
unwound_depth (Top forms ∷ work) l = omega arith
unwound_depth (Finish p ∷ work) l = omega arith
unwound_depth (WriteDump ∷ work) l = omega arith
unwound_depth (Leave kept ∷ work) l =
    let a : (unwound work (behind_block kept l)).depth ≤ (behind_block kept l).depth = unwound_depth work (behind_block kept l) in
    let b : (behind_block kept l).depth ≡ l.depth = block_depth kept l in
    omega arith
unwound_depth (Calm old ∷ work) l = unwound_depth work (record l { inhibited = old })
unwound_depth (CommitChange c ∷ work) l = unwound_depth work (behind_place l)
unwound_depth (Exit kind name c faulted ∷ work) l =
    let a : (unwound work (behind_handler l)).depth ≤ l.depth - 1 = unwound_depth work (behind_handler l) in
    omega arith
unwound_depth (_ ∷ work) l = unwound_depth work l

above_depth : (base : Levels) (floor : Floor) (c : Config) → Above base floor c → base.depth ≤ c.state.depth
above_depth base floor c (above front faulted e u b) =
    let a : (unwound front (levels c.state)).depth ≤ c.state.depth = unwound_depth front (levels c.state) in
    let q : (unwound front (levels c.state)).depth ≡ base.depth = ap (λ (l : Levels). l.depth) u in
    omega arith

ended_levels : (kind : Kind) (faulted : Bool) (t : State) (rest : List Item) → levels (ended_handler kind faulted t rest).state ≡ levels t
ended_levels (OfFilter p) faulted t rest = refl
ended_levels (OfSentinel p) faulted t rest = change_levels p unlisted t
ended_levels (OfBefore b) true t rest = live_levels t b (set_hook_list b before_change_functions [] t) refl
ended_levels (OfBefore b) false t rest = refl
ended_levels (OfAfter b) true t rest = live_levels t b (set_hook_list b after_change_functions [] t) refl
ended_levels (OfAfter b) false t rest = refl

live_editor : (t : State) (b : ℕ) (x : State) → x.editor ≡ t.editor → (if_live t b x).editor ≡ t.editor
live_editor t b x h = go (is_live t.editor b)
  where
    go : (v : Bool) → let y : State = elim v [ true ↦ x | false ↦ t ] in y.editor ≡ t.editor
    go true = h
    go false = refl

pub ended_editor : (kind : Kind) (faulted : Bool) (t : State) (rest : List Item) → (ended_handler kind faulted t rest).state.editor ≡ t.editor
ended_editor (OfFilter p) faulted t rest = refl
ended_editor (OfSentinel p) faulted t rest = change_editor p unlisted t
ended_editor (OfBefore b) true t rest = live_editor t b (set_hook_list b before_change_functions [] t) refl
ended_editor (OfBefore b) false t rest = refl
ended_editor (OfAfter b) true t rest = live_editor t b (set_hook_list b after_change_functions [] t) refl
ended_editor (OfAfter b) false t rest = refl

pub left_current : (v : State) (c : ℕ) → is_live (left_state v c).editor c ≡ true → (left_state v c).editor.current ≡ c
left_current v c = go (is_live v.editor c) refl
  where
    out : State
    out = record v { depth = v.depth - 1; scopes = drop 1 v.scopes }

    go : (b : Bool) → is_live v.editor c ≡ b → let t : State = elim b [ true ↦ current c out | false ↦ out ] in is_live t.editor c ≡ true → t.editor.current ≡ c
    go true q l = refl
    go false q l = absurd (false≢true (sym q ∙ l))

-- A HANDLER ENTERED, above its own end
module _ (program : Program) (s : State) (kind : Kind) (name : Option ℕ) (c : ℕ) (rest : List Item) where
  abbrev pub Inside : Config → Type 0
  Inside d = Above (one_deeper (levels s)) (exit_of kind name c rest) d

  put_inside : (t : State) (p : Prepared) → levels t ≡ one_deeper (levels s) → Inside (put_in t p (Exit kind name c false ∷ rest))
  put_inside t (Changes x) e = above (MakeChange x ∷ []) false refl e (tt, tt)
  put_inside t (Quiet x) e = above [] false refl e tt
  put_inside t (Nothing v) e = above [] false refl e tt
  put_inside t (Barred f) e = above (Refuse f ∷ []) false refl e (tt, tt)

  output_inside : (t : State) (o : Option ℕ) (mark : ℕ) (text : List Cell) → levels t ≡ one_deeper (levels s) → Inside (output_in t o mark text (Exit kind name c false ∷ rest))
  output_inside t None mark text e = above [] false refl e tt
  output_inside t (Some b) mark text e = put_inside (current b t) (prepare_output t.editor b mark text) e

  default_inside : (t : State) (k : Kind) (args : List Value) → levels t ≡ one_deeper (levels s) → Inside (default_handler t k args (Exit kind name c false ∷ rest))
  default_inside t (OfFilter p) args e = output_inside t (process_buffer_of t p) (mark_of_process t p) (plain_text (second args)) e
  default_inside t (OfSentinel p) args e = output_inside t (process_buffer_of t p) (mark_of_process t p) (sentinel_words t p (plain_text (second args))) e
  default_inside t (OfBefore b) args e = above [] false refl e tt
  default_inside t (OfAfter b) args e = above [] false refl e tt

  pub body_inside : (o : Option ℕ) (args : List Value) → Inside (body_of program (record s { depth = s.depth + 1 }) kind o args (Exit kind name c false ∷ rest))
  body_inside None args = default_inside (record s { depth = s.depth + 1; scopes = [] ∷ s.scopes }) kind args refl
  body_inside (Some n) args = go (handler_def program.handlers n)
    where
      go : (o : Option HandlerDef) → Inside (named_body program (record s { depth = s.depth + 1 }) o n args (Exit kind name c false ∷ rest))
      go None = above (Native _ args [] ∷ []) false refl refl (tt, tt)
      go (Some x) = above (Body x.body ∷ []) false refl refl (tt, tt)

-- RUNS ONE STEP LONGER
module _ (program : Program) (bound : ℕ) where
  goes_more : {c d : Config} {xs : List Exchange} {said : List Said} → Reaches program bound c xs said d → (n : Next) → step program bound d ≡ Goes n → Reaches program bound c xs (said ++ n.said) n.config
  goes_more {c} {d} {xs} {said} r n h = rw (append-nil xs, append-nil n.said) at (reaches_then program bound c d n.config xs [] said (n.said ++ []) r (goes h stays))

  asks_more : {c d : Config} {xs : List Exchange} {said : List Said} → Reaches program bound c xs said d → (ask : Ask) (answer : Answer) (k : Answer → Option Next) (n : Next) → step program bound d ≡ Asks ask k → k answer ≡ Some n →
      Reaches program bound c (xs ++ record { ask = ask; answer = answer } ∷ []) (said ++ n.said) n.config
  asks_more {c} {d} {xs} {said} r ask answer k n h e = rw (append-nil n.said) at (reaches_then program bound c d n.config xs (record { ask = ask; answer = answer } ∷ []) said (n.said ++ []) r (asks h e stays))

-- LINES
all_front : {A : Type 0} (f : A → Bool) (xs ys : List A) → list_all f xs ≡ false → list_all f (xs ++ ys) ≡ false
all_front f [] ys h = absurd (false≢true (sym h))
all_front f (x ∷ xs) ys h = go (f x) h (λ k. all_front f xs ys k)
  where
    go : (b : Bool) → (b && list_all f xs) ≡ false → (list_all f xs ≡ false → list_all f (xs ++ ys) ≡ false) → (b && list_all f (xs ++ ys)) ≡ false
    go true k more = more k
    go false k more = refl

all_last : {A : Type 0} (f : A → Bool) (xs : List A) (x : A) → f x ≡ false → list_all f (xs ++ x ∷ []) ≡ false
all_last f [] x h = rw h refl
all_last f (y ∷ xs) x h = go (f y) (all_last f xs x h)
  where
    go : (b : Bool) → list_all f (xs ++ x ∷ []) ≡ false → (b && list_all f (xs ++ x ∷ [])) ≡ false
    go true more = more
    go false more = refl

appended : {A : Type 0} (first second last all : List A) → all ≡ first ++ second → all ++ last ≡ first ++ (second ++ last)
appended first second last all e = ap (λ l. l ++ last) e ∙ append_assoc first second last

-- a step that says nothing
said_same : (said more : List Said) → more ≡ [] → said ++ more ≡ said
said_same said more e = ap (λ l. said ++ l) e ∙ append-nil said

-- BEHIND A HANDLER
standing_of : (rest : List Item) → Resumes rest → Standing rest
standing_of (Wait w target ∷ work) r = tt
standing_of (Item.KillBuffer b target ∷ work) r = tt
standing_of (Delete p ∷ work) r = r
standing_of (Hooks kind names args ∷ work) r = r
standing_of _ r = absurd r

calming_of : (work : List Item) → Calming work → Standing work
calming_of (Calm old ∷ work) r = r
calming_of _ r = absurd r

calming_based : (work : List Item) (t : State) → Calming work → based work t ≡ without_change t
calming_based (Calm old ∷ work) t r = refl
calming_based _ t r = absurd r

-- a call stands behind a handler that ended, also where the other functions of its list are dropped
record Resumed (rest work : List Item) (t : State) : Type 0 where
  standing : Standing work
  same : based work t ≡ based rest t

resumed_same : (rest : List Item) (t : State) → Resumes rest → Resumed rest rest t
resumed_same rest t r = record { standing = standing_of rest r; same = refl }

resumed_unhooked : (rest : List Item) (t : State) → Resumes rest → Resumed rest (without_hooks_item rest) t
resumed_unhooked (Hooks kind names args ∷ work) t r = record { standing = calming_of work r; same = calming_based work t r }
resumed_unhooked (Wait w target ∷ work) t r = record { standing = tt; same = refl }
resumed_unhooked (Item.KillBuffer b target ∷ work) t r = record { standing = tt; same = refl }
resumed_unhooked (Delete p ∷ work) t r = record { standing = r; same = refl }
resumed_unhooked _ t r = absurd r

resumed : (kind : Kind) (faulted : Bool) (t : State) (rest : List Item) → Resumes rest → Resumed rest (ended_handler kind faulted t rest).work (ended_handler kind faulted t rest).state
resumed (OfFilter p) faulted t rest r = resumed_same rest _ r
resumed (OfSentinel p) faulted t rest r = resumed_same rest _ r
resumed (OfBefore b) true t rest r = resumed_unhooked rest _ r
resumed (OfBefore b) false t rest r = resumed_same rest _ r
resumed (OfAfter b) true t rest r = resumed_unhooked rest _ r
resumed (OfAfter b) false t rest r = resumed_same rest _ r

answering_unhooked : (rest : List Item) → Answering rest → Answering (without_hooks_item rest)
answering_unhooked [] r = r
answering_unhooked (Hooks kind names args ∷ work) r = r
answering_unhooked (_ ∷ work) r = r

answering_resumed : (kind : Kind) (faulted : Bool) (t : State) (rest : List Item) → Answering rest → Answering (ended_handler kind faulted t rest).work
answering_resumed (OfFilter p) faulted t rest r = r
answering_resumed (OfSentinel p) faulted t rest r = r
answering_resumed (OfBefore b) true t rest r = answering_unhooked rest r
answering_resumed (OfBefore b) false t rest r = r
answering_resumed (OfAfter b) true t rest r = answering_unhooked rest r
answering_resumed (OfAfter b) false t rest r = r

-- A CHANGE UNDER WAY
not_pending : (n : ℕ) → n ≤ 1 → n ≡ 2 → ⊥
not_pending n l e = absurd (omega arith)

kept_change : (b : ℕ) (saved : List Saved) → IsPendingIn b (shapes saved) → (a : ℕ) × (from : ℕ) × (to : ℕ) × (saved ≡ Pending a from to ∷ drop 1 saved)
kept_change b [] h = absurd h
kept_change b (Excursion a p ∷ ks) h = absurd (not_pending 0 (omega arith) (ap (λ (k : ℕ × ℕ). k.0) h))
kept_change b (Restriction a ends ∷ ks) h = absurd (not_pending 1 (omega arith) (ap (λ (k : ℕ × ℕ). k.0) h))
kept_change b (Pending a from to ∷ ks) h = (a, from, to, refl)

committing_change : (work : List Item) (t : State) → Committing work → Stacked work (shapes t.editor.marks.saved) → ChangeUnderWay t
committing_change (CommitChange c ∷ work) t r k = kept_change c.buffer t.editor.marks.saved k.0
committing_change _ t r k = absurd r

calming_change : (work : List Item) (t : State) → Calming work → Stacked work (shapes t.editor.marks.saved) → ChangeUnderWay t
calming_change (Calm old ∷ work) t r k = committing_change work t r.1 k
calming_change _ t r k = absurd r

-- hook functions that are entered in a call are those before a change
abbrev Under : List Item → State → Type 0
Under (Hooks kind names args ∷ work) t = ChangeUnderWay t
Under _ t = Unit {0}

under : (rest : List Item) (t : State) → Resumes rest → Stacked rest (shapes t.editor.marks.saved) → Under rest t
under (Hooks kind names args ∷ work) t r k = calming_change work t r k
under (Wait w target ∷ work) t r k = tt
under (Item.KillBuffer b target ∷ work) t r k = tt
under (Delete p ∷ work) t r k = tt
under _ t r k = absurd r

module _ (program : Program) (bound : ℕ) (s : State) where
  abbrev Left : List Exchange → List Said → State → Type 0
  Left xs said t = LeftByCall program bound s xs said t

  left_same : (xs ys : List Exchange) (said more : List Said) (t : State) → xs ≡ ys → said ≡ more → Left ys more t → Left xs said t
  left_same xs ys said more t p q l = subst (λ (zs : List Exchange). Left zs said t) (sym p) (subst (λ (zs : List Said). Left ys zs t) (sym q) l)

  -- a handler's part of what is left
  handled_left : (rest : List Item) (first second : List Exchange) (said more : List Said) (u e t : State) → Resumes rest → Left first said u → based rest e ≡ u → Under rest e → Handled program bound e t second more → Left (first ++ second) (said ++ more) (based rest t)
  handled_left (Hooks kind names args ∷ work) first second said more u e t r l q x h = hooked first second said more u e t l q x h
  handled_left (Wait w target ∷ work) first second said more u e t r l q x h = handled first second said more e t (subst (λ (z : State). Left first said z) (sym q) l) h
  handled_left (Item.KillBuffer b target ∷ work) first second said more u e t r l q x h = handled first second said more e t (subst (λ (z : State). Left first said z) (sym q) l) h
  handled_left (Delete p ∷ work) first second said more u e t r l q x h = handled first second said more e t (subst (λ (z : State). Left first said z) (sym q) l) h
  handled_left _ first second said more u e t r l q x h = absurd r

  -- WHERE A RUN FROM THE CALL STANDS: behind its reply; at the call's own depth; in a handler that was entered in it
  data Phase (xs : List Exchange) (said : List Said) (c : Config) : Type 0 where
    over : list_all (λ x. is_within s.depth x.event) said ≡ false → Phase xs said c
    calls : (u : State) → Left xs said u → u.depth ≡ s.depth → c.state.depth ≡ s.depth → Own u c → Phase xs said c
    entering : (u : State) (kind : Kind) (name : Option ℕ) (args : List Value) (rest : List Item) → Left xs said u → u.depth ≡ s.depth → c.state.depth ≡ s.depth → c.work ≡ Enter kind name args ∷ rest → Resumes rest → based rest c.state ≡ u → Phase xs said c
    inside : (u e : State) (first second : List Exchange) (earlier : List Said) (kind : Kind) (name : Option ℕ) (args : List Value) (rest : List Item) (more : List Said) → xs ≡ first ++ second → said ≡ earlier ++ more → Left first earlier u → e.depth ≡ s.depth → Resumes rest → based rest e ≡ u → Under rest e →
        Reaches program bound (record { state = e; work = Enter kind name args ∷ rest }) second more c → Above (one_deeper (levels e)) (exit_of kind name e.editor.current rest) c → Phase xs said c
    answering : c.state.depth ≡ s.depth → Answering c.work → Phase xs said c
    answering_entry : (kind : Kind) (name : Option ℕ) (args : List Value) (rest : List Item) → c.state.depth ≡ s.depth → c.work ≡ Enter kind name args ∷ rest → Answering rest → Phase xs said c
    answering_inside : (e : State) (kind : Kind) (name : Option ℕ) (rest : List Item) → e.depth ≡ s.depth → Answering rest → Above (one_deeper (levels e)) (exit_of kind name e.editor.current rest) c → Phase xs said c

  abbrev Lines : List Said → Bool
  Lines said = list_all (λ x. is_within s.depth x.event) said

  -- ONE STEP
  own_depth : (u : State) (c : Config) → u.depth ≡ s.depth → Own u c → c.state.depth ≡ s.depth
  own_depth u c q (own work e r h) = sym (based_depth work c.state) ∙ ap (λ (t : State). t.depth) h ∙ q

  comes_phase : (xs : List Exchange) (said : List Said) (u : State) (n : Next) → Left xs said u → u.depth ≡ s.depth → Comes u s.depth n → Phase xs (said ++ n.said) n.config
  comes_phase xs said u n l q (stands e o) = calls u (left_same xs xs (said ++ n.said) said u refl (said_same said n.said e) l) q (own_depth u n.config q o) o
  comes_phase xs said u n l q (enters kind name args rest e w r h) = entering u kind name args rest (left_same xs xs (said ++ n.said) said u refl (said_same said n.said e) l) q (sym (based_depth rest n.config.state) ∙ ap (λ (t : State). t.depth) h ∙ q) w r h
  comes_phase xs said u n l q (answers e r k) = answering k r
  comes_phase xs said u n l q (replies x e w) = over (subst (λ (more : List Said). Lines (said ++ more) ≡ false) (sym e) (all_last (λ x. is_within s.depth x.event) said x w))

  behind_phase : (xs : List Exchange) (said : List Said) (u : State) (ask : Ask) (answer : Answer) (n : Next) → Left xs said u → u.depth ≡ s.depth → Behind u s.depth ask answer n → Phase (xs ++ record { ask = ask; answer = answer } ∷ []) (said ++ n.said) n.config
  behind_phase xs said u ask answer n l q (leaves v x e c) = comes_phase _ said v n (exchanged (record { ask = ask; answer = answer }) xs said u v l x) (e ∙ q) c
  behind_phase xs said u ask answer n l q (ends_one v x e c) = comes_phase _ said v n (ended (record { ask = ask; answer = answer }) xs said u v l x) (e ∙ q) c
  behind_phase xs said u ask answer n l q (to_answer e r k) = answering k r

  follows_phase : (xs : List Exchange) (said : List Said) (n : Next) → Follows s.depth n → Phase xs (said ++ n.said) n.config
  follows_phase xs said n (goes_on e r k) = answering k r
  follows_phase xs said n (enters_one kind name args rest e w r k) = answering_entry kind name args rest k w r
  follows_phase xs said n (has_replied x e w) = over (subst (λ (more : List Said). Lines (said ++ more) ≡ false) (sym e) (all_last (λ x. is_within s.depth x.event) said x w))

  -- the step of an item that goes on by itself
  abbrev IsStep : Step → Next → Type 0
  IsStep t n = t ≡ Goes n

  same_next : (a b : Next) → Goes a ≡ Goes b → a ≡ b
  same_next a b e = cc

  pub goes_is : (c : Config) (work : List Item) (m n : Next) → c.work ≡ work → step program bound (record { state = c.state; work = work }) ≡ Goes m → step program bound c ≡ Goes n → m ≡ n
  goes_is c work m n e g h = same_next m n (sym g ∙ subst (λ (w : List Item). IsStep (step program bound (record { state = c.state; work = w })) n) e h)

  pub never_asks : (c : Config) (work : List Item) (m : Next) (ask : Ask) (k : Answer → Option Next) → c.work ≡ work → step program bound (record { state = c.state; work = work }) ≡ Goes m → step program bound c ≡ Asks ask k → ⊥
  never_asks c work m ask k e g h = apart (sym g ∙ subst (λ (w : List Item). step program bound (record { state = c.state; work = w }) ≡ Asks ask k) e h)
    where
      apart : Goes m ≡ Asks ask k → ⊥
      apart e = cc

  -- a handler is entered
  entered_inside : (c : Config) (n : Next) (kind : Kind) (name : Option ℕ) (args : List Value) (rest : List Item) → c.work ≡ Enter kind name args ∷ rest → step program bound c ≡ Goes n → Above (one_deeper (levels c.state)) (exit_of kind name c.state.editor.current rest) n.config
  entered_inside c n kind name args rest w h =
      let m : Next = enter program c.state kind name args rest in
      subst (λ (n : Next). Above (one_deeper (levels c.state)) (exit_of kind name c.state.editor.current rest) n.config) (goes_is c (Enter kind name args ∷ rest) m n w refl h) (body_inside program c.state kind name c.state.editor.current rest name args)

  -- a handler is left
  left_handled : (e : State) (second : List Exchange) (kind : Kind) (name : Option ℕ) (args : List Value) (rest : List Item) (more : List Said) (c : Config) (faulted : Bool) → Reaches program bound (record { state = e; work = Enter kind name args ∷ rest }) second more c →
      c.work ≡ Exit kind name e.editor.current faulted ∷ rest → levels c.state ≡ one_deeper (levels e) → Handled program bound e (ended_handler kind faulted (left_state c.state e.editor.current) rest).state second (more ++ (exit program c.state kind name e.editor.current faulted rest).said)
  left_handled e second kind name args rest more c faulted r w u = record {
    kind = kind;
    handler = name;
    args = args;
    faulted = faulted;
    rest = rest;
    before_exit = more;
    says = refl;
    last = c.state;
    way = subst (λ (work : List Item). Reaches program bound (record { state = e; work = Enter kind name args ∷ rest }) second more (record { state = c.state; work = work })) w r;
    end = refl;
    bracket = ended_levels kind faulted (left_state c.state e.editor.current) rest ∙ left_levels c.state e.editor.current ∙ ap behind_handler u ∙ lowered (levels e);
    current = λ l. ap (λ (x : Editor). x.current) (ended_editor kind faulted (left_state c.state e.editor.current) rest) ∙
        left_current c.state e.editor.current (subst (λ (x : Editor). is_live x e.editor.current ≡ true) (ended_editor kind faulted (left_state c.state e.editor.current) rest) l);
  }

  goes_phase : (xs : List Exchange) (said : List Said) (c : Config) (n : Next) → GoodConfig c → Phase xs said c → step program bound c ≡ Goes n → Phase xs (said ++ n.said) n.config
  goes_phase xs said c n g (over e) h = over (all_front (λ x. is_within s.depth x.event) said n.said e)
  goes_phase xs said c n g (calls u l q k o) h = comes_phase xs said u n l q (subst (λ t. StepOwn u s.depth t) h (own_step program bound u s.depth c k o))
  goes_phase xs said c n g (entering u kind name args rest l q k w r b) h =
      inside u c.state xs [] said kind name args rest (n.said ++ []) (sym (append-nil xs)) (ap (λ (l : List Said). said ++ l) (sym (append-nil n.said))) l k r b
      (under rest c.state r (subst (λ (work : List Item). Stacked work (shapes c.state.editor.marks.saved)) w g.stack))
      (subst (λ (work : List Item). Reaches program bound (record { state = c.state; work = work }) [] (n.said ++ []) n.config) w (goes h stays)) (entered_inside c n kind name args rest w h)
  goes_phase xs said c n g (inside u e first second earlier kind name args rest more p q l k r b j way (above (item ∷ front) faulted w v y)) h =
      inside u e first second earlier kind name args rest (more ++ n.said) p (appended earlier more n.said said q) l k r b j (goes_more program bound way n h)
      (subst (λ t. StepStays (one_deeper (levels e)) (exit_of kind name e.editor.current rest) t) h (step_stays (one_deeper (levels e)) (exit_of kind name e.editor.current rest) program bound c item front faulted g w v y))
  goes_phase xs said c n g (inside u e first second earlier kind name args rest more p q l k r b j way (above [] faulted w v y)) h =
      let t : State = left_state c.state e.editor.current in
      let m : Next = exit program c.state kind name e.editor.current faulted rest in
      let x : Handled program bound e (ended_handler kind faulted t rest).state second (more ++ m.said) = left_handled e second kind name args rest more c faulted way w v in
      let after : Resumed rest (ended_handler kind faulted t rest).work (ended_handler kind faulted t rest).state = resumed kind faulted t rest r in
      let z : State = (ended_handler kind faulted t rest).state in
      let d : z.depth ≡ s.depth = ap (λ (l : Levels). l.depth) x.bracket ∙ k in
      subst (λ (n : Next). Phase xs (said ++ n.said) n.config) (goes_is c (Exit kind name e.editor.current faulted ∷ rest) m n w refl h)
      (calls (based rest z) (left_same xs (first ++ second) (said ++ m.said) (earlier ++ (more ++ m.said)) (based rest z) p (appended earlier more m.said said q) (handled_left rest first second earlier (more ++ m.said) u e z r l b j x)) (based_depth rest z ∙ d) d (own (ended_handler kind faulted t rest).work refl after.standing after.same))
  goes_phase xs said c n g (answering k r) h = follows_phase xs said n (subst (λ t. StepFollows s.depth t) h (follows_step program bound s.depth c k r))
  goes_phase xs said c n g (answering_entry kind name args rest k w r) h = answering_inside c.state kind name rest k r (entered_inside c n kind name args rest w h)
  goes_phase xs said c n g (answering_inside e kind name rest k r (above (item ∷ front) faulted w v y)) h =
      answering_inside e kind name rest k r (subst (λ t. StepStays (one_deeper (levels e)) (exit_of kind name e.editor.current rest) t) h (step_stays (one_deeper (levels e)) (exit_of kind name e.editor.current rest) program bound c item front faulted g w v y))
  goes_phase xs said c n g (answering_inside e kind name rest k r (above [] faulted w v y)) h =
      let t : State = left_state c.state e.editor.current in
      let m : Next = exit program c.state kind name e.editor.current faulted rest in
      let a : levels (ended_handler kind faulted t rest).state ≡ levels e = ended_levels kind faulted t rest ∙ left_levels c.state e.editor.current ∙ ap behind_handler v ∙ lowered (levels e) in
      subst (λ (n : Next). Phase xs (said ++ n.said) n.config) (goes_is c (Exit kind name e.editor.current faulted ∷ rest) m n w refl h)
      (answering (ap (λ (l : Levels). l.depth) a ∙ k) (answering_resumed kind faulted t rest r))

  asks_phase : (xs : List Exchange) (said : List Said) (c : Config) (ask : Ask) (answer : Answer) (k : Answer → Option Next) (n : Next) → GoodConfig c → Phase xs said c → step program bound c ≡ Asks ask k → k answer ≡ Some n → Phase (xs ++ record { ask = ask; answer = answer } ∷ []) (said ++ n.said) n.config
  asks_phase xs said c ask answer k n g (over e) h f = over (all_front (λ x. is_within s.depth x.event) said n.said e)
  asks_phase xs said c ask answer k n g (calls u l q d o) h f =
      let a : StepOwn u s.depth (Asks ask k) = subst (λ t. StepOwn u s.depth t) h (own_step program bound u s.depth c d o) in
      behind_phase xs said u ask answer n l q (subst (λ o. AnswerOwn u s.depth ask answer o) f (a answer))
  asks_phase xs said c ask answer k n g (entering u kind name args rest l q d w r b) h f = absurd (never_asks c (Enter kind name args ∷ rest) (enter program c.state kind name args rest) ask k w refl h)
  asks_phase xs said c ask answer k n g (inside u e first second earlier kind name args rest more p q l d r b j way (above (item ∷ front) faulted w v y)) h f =
      let x : Exchange = record { ask = ask; answer = answer } in
      let a : StepStays (one_deeper (levels e)) (exit_of kind name e.editor.current rest) (Asks ask k) = subst (λ t. StepStays (one_deeper (levels e)) (exit_of kind name e.editor.current rest) t) h (step_stays (one_deeper (levels e)) (exit_of kind name e.editor.current rest) program bound c item front faulted g w v y) in
      inside u e first (second ++ x ∷ []) earlier kind name args rest (more ++ n.said) (appended first second (x ∷ []) xs p) (appended earlier more n.said said q) l d r b j (asks_more program bound way ask answer k n h f)
      (subst (λ o. AnswerStays (one_deeper (levels e)) (exit_of kind name e.editor.current rest) o) f (a answer))
  asks_phase xs said c ask answer k n g (inside u e first second earlier kind name args rest more p q l d r b j way (above [] faulted w v y)) h f = absurd (never_asks c (Exit kind name e.editor.current faulted ∷ rest) (exit program c.state kind name e.editor.current faulted rest) ask k w refl h)
  asks_phase xs said c ask answer k n g (answering d r) h f =
      let a : StepFollows s.depth (Asks ask k) = subst (λ t. StepFollows s.depth t) h (follows_step program bound s.depth c d r) in
      follows_phase _ said n (subst (λ o. AnswerFollows s.depth o) f (a answer))
  asks_phase xs said c ask answer k n g (answering_entry kind name args rest d w r) h f = absurd (never_asks c (Enter kind name args ∷ rest) (enter program c.state kind name args rest) ask k w refl h)
  asks_phase xs said c ask answer k n g (answering_inside e kind name rest d r (above (item ∷ front) faulted w v y)) h f =
      let a : StepStays (one_deeper (levels e)) (exit_of kind name e.editor.current rest) (Asks ask k) = subst (λ t. StepStays (one_deeper (levels e)) (exit_of kind name e.editor.current rest) t) h (step_stays (one_deeper (levels e)) (exit_of kind name e.editor.current rest) program bound c item front faulted g w v y) in
      answering_inside e kind name rest d r (subst (λ o. AnswerStays (one_deeper (levels e)) (exit_of kind name e.editor.current rest) o) f (a answer))
  asks_phase xs said c ask answer k n g (answering_inside e kind name rest d r (above [] faulted w v y)) h f = absurd (never_asks c (Exit kind name e.editor.current faulted ∷ rest) (exit program c.state kind name e.editor.current faulted rest) ask k w refl h)

  -- THE REFUSAL
  not_entering : (fault : Fault) (more rest : List Item) (kind : Kind) (name : Option ℕ) (args : List Value) → (Refuse fault ∷ more) ≡ (Enter kind name args ∷ rest) → ⊥
  not_entering fault more rest kind name args e = cc

  inside_is_deeper : (e t : State) (floor : Floor) (work : List Item) → e.depth ≡ s.depth → t.depth ≡ s.depth → Above (one_deeper (levels e)) floor (record { state = t; work = work }) → ⊥
  inside_is_deeper e t floor work q k x =
      let a : e.depth + 1 ≤ t.depth = above_depth (one_deeper (levels e)) floor (record { state = t; work = work }) x in
      absurd (omega arith)

  refusal_left : (xs : List Exchange) (said : List Said) (t : State) (fault : Fault) (more : List Item) → Lines said ≡ true → t.depth ≡ s.depth → Phase xs said (record { state = t; work = Refuse fault ∷ more }) → Left xs said t
  refusal_left xs said t fault more w k (over e) = absurd (false≢true (sym e ∙ w))
  refusal_left xs said t fault more w k (calls u l q d (own work e r h)) = subst (λ (z : State). Left xs said z) (sym (subst (λ (work : List Item). based work t ≡ u) (sym e) h)) l
  refusal_left xs said t fault more w k (entering u kind name args rest l q d e r b) = absurd (not_entering fault more rest kind name args e)
  refusal_left xs said t fault more w k (inside u e first second earlier kind name args rest others p m l d r b j way x) = absurd (inside_is_deeper e t (exit_of kind name e.editor.current rest) (Refuse fault ∷ more) d k x)
  refusal_left xs said t fault more w k (answering d r) = absurd r
  refusal_left xs said t fault more w k (answering_entry kind name args rest d e r) = absurd (not_entering fault more rest kind name args e)
  refusal_left xs said t fault more w k (answering_inside e kind name rest d r x) = absurd (inside_is_deeper e t (exit_of kind name e.editor.current rest) (Refuse fault ∷ more) d k x)

  -- EACH RUN
  record KeptPhase (xs : List Exchange) (said : List Said) (c : Config) : Type 0 where
    good : GoodConfig c
    phase : Phase xs said c

  call_run : (c d : Config) (xs : List Exchange) (said : List Said) → GoodConfig c → Phase [] [] c → Reaches program bound c xs said d → Phase xs said d
  call_run c d xs said g p r = (over_runs program bound KeptPhase
      (λ xs said c n x h. record { good = goes_good program bound c n x.good h; phase = goes_phase xs said c n x.good x.phase h })
      (λ xs said c ask answer k n x h e. record { good = asks_good program bound c ask answer k n x.good h e; phase = asks_phase xs said c ask answer k n x.good x.phase h e })
      r [] [] (record { good = g; phase = p })).phase

pub refused_calls_leave : (program : Program) (bound : ℕ) (script : Script) → RefusedCallsLeave program bound (start script)
refused_calls_leave program bound script before exchanges earlier said s t prim args target rest more fault first r w k =
    let c : Config = record { state = s; work = MakeCall prim args target ∷ rest } in
    refusal_left program bound s exchanges said t fault more w k
    (call_run program bound s c (record { state = t; work = Refuse fault ∷ more }) exchanges said (reaches_good program bound (start script) c before earlier (start_good script) first) (calls s nothing refl refl (own (MakeCall prim args target ∷ rest) refl tt refl)) r)
