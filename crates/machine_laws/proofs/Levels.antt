-- Levels: each step gives back what it raised, behind the items that it puts in front, and leaves what stands below.
use Rattle.std.proofs.Common.{◌≡◌, ℕ, zero, suc, ◌+◌, Bool, true, false, List, [], ◌∷◌, ◌++◌, length, map, refl, ap, sym, ◌∙◌, subst}
use Rattle.std.specs.Prelude.{Option, Some, None, nat_lt, codes}
use Rattle.text_model.specs.Characters.{Ch}
use Rattle.text_model.specs.Marks.{Pending}
use Rattle.text_model.specs.Properties.{Cell}
use Rattle.editor_model.specs.Values.{Value, Nil, T, ExchangesSpent, VoidVariable, WrongType, at_place, Reply, Answered, Fault, Prim, AddHook, RemoveHook, KillBuffer, StartProcess, SetProcessFilter, SetProcessSentinel, SetProcessBuffer, SetProcessCodingSystem, ProcessSendString, ProcessSendEof, DeleteProcess, AcceptProcessOutput, Form, Forms, NoForms, Then, Do, Setq, In, WhenEq, Block, SaveExcursion, SaveRestriction, SaveCurrentBuffer, InhibitHooks, HandlerDef, equal, InhibitReadOnly}
use Rattle.editor_model.specs.Editor.{is_live, killed}
use Rattle.editor_model.specs.Arguments.{arg, string_of, buffer_of}
use Rattle.editor_model.specs.Answers.{Test, first_fault}
use Rattle.editor_model.specs.TextCalls.{prepare_output}
use Rattle.editor_model.specs.Table.{Change, Commit, Committed, query, apply, prepare, Prepared, Changes, Quiet, Nothing, Barred, Done, Failed, commit}
use Rattle.editor_model.specs.Prims.{OnlyAsks, SetsState, ChangesText, ConcernsHandlers, manner_of}
use Rattle.plain_machine.specs.Exchanges.{Answer, Started, Sent, Broken, Closed, Killed, Bytes, End, Code, Signal, Running}
use Rattle.plain_machine.specs.State.{State, hooks_of, Program, Process, Status, Runs, Exited, Signalled, Lost, process, change_process, read_so_far}
use Rattle.plain_machine.specs.Lines.{Kind, KilledLast, OfBefore, OfAfter, OfFilter, OfSentinel}
use Rattle.plain_machine.specs.Items.{Item, Top, Body, DoForm, MakeCall, Leave, GiveAnswer, Refuse, MakeChange, Hooks, Calm, CommitChange, Enter, Native, Called, Exit, Wait, Delete, Finish, WriteDump, Target, Nowhere, ToName, ToNative, KeptExcursion, KeptRestriction, KeptBuffer, KeptInhibition, Waiting, Config, Next, Step, Goes, Asks, Ended, KeptLifting}
use Rattle.plain_machine.specs.Calls.{on, answered, unless, call, process_effect, spawned, spawned_child, is_new_child, started, sent_answer, closed_answer, with_input_closed, with_filter, with_sentinel, of_buffer, process_buffer, send, send_eof, change_call, with_editor, call_by, unless_fault, with_coding}
use Rattle.plain_machine.specs.Refusals.{process_tests, may_ask, must_be_replaceable}
use Rattle.plain_machine.specs.Arguments.{process_of, filter_of, sentinel_of, child_of, is_closed, encoded, handler_def, running_in, coding_of}
use Rattle.plain_machine.specs.Hooks.{before_change_functions, after_change_functions, set_hook_list}
use Rattle.plain_machine.specs.Natives.{is_callable, normal}
use Rattle.plain_machine.specs.Forms.{with_saved, saved_of, dropped, restored, evaluate, do_form, block, kept_reply, give, make_change, commit_change, at_kept, popped, bracket, current, says, after_commit, call_with, when_eq}
use Rattle.plain_machine.specs.Handling.{mark_of_process, second, sentinel_words, plain_text, bound_params, unlisted, body_of, default_handler, put_in, output_in, process_buffer_of, native, left_state, ended_handler, without_hooks_item, named_body, native_next}
use Rattle.plain_machine.specs.Waits.{ask_process, asked_more, read_answer, end_answer, drain, is_room, entry_of, exit_text, target_is_eligible, from_eligible, eligible, delete, kill_answer, ends, kill_at_end, finish, wait, ask_if, ask_next, delete_one, delete_running, hear, kill_live, wait_case, finish_one, finish_running}
use Rattle.plain_machine.specs.Step.{step, item_step}
use Rattle.machine_laws.specs.Brackets.{Levels, levels, shapes}
use Rattle.machine_laws.proofs.GoodEditor.{GoodEditor, FineWhat}
use Rattle.machine_laws.proofs.GoodConfig.{GoodConfig, IsPendingIn, WorkFine, Stacked}
use Rattle.machine_laws.proofs.Applying.{apply_steady}
use Rattle.machine_laws.proofs.Committing.{commit_steady, prepare_fine, FinePrepared}
use Rattle.machine_laws.proofs.Settling.{killed_steady}
use Rattle.machine_laws.proofs.Working.{kinds}
use Rattle.machine_laws.proofs.Stepping.{kept_change}
use Rattle.machine_laws.proofs.Lifted.{apply_lifted, commit_lifted, killed_lifted}
use Rattle.machine_laws.proofs.LevelStates.{behind_handler, behind_place, behind_block, editor_levels, inhibited_levels, live_levels, popped_levels, restored_levels, assigned_levels, change_levels, started_levels, left_levels, entered_levels}

-- WORK
-- the levels behind these items
abbrev pub unwound : List Item → Levels → Levels
unwound [] l = l
unwound (Top forms ∷ work) l = l
unwound (Finish p ∷ work) l = l
unwound (WriteDump ∷ work) l = l
unwound (Leave kept ∷ work) l = unwound work (behind_block kept l)
unwound (Calm old ∷ work) l = unwound work (record l { inhibited = old })
unwound (CommitChange c ∷ work) l = unwound work (behind_place l)
unwound (Exit kind handler c faulted ∷ work) l = unwound work (behind_handler l)
unwound (_ ∷ work) l = unwound work l

-- what these items stand on: nothing, or the end of a handler
pub data Floor : Type 0 where
  ground : Floor
  exit_of : Kind → Option ℕ → (current : ℕ) → (rest : List Item) → Floor

abbrev pub below : Floor → (faulted : Bool) → List Item
below ground faulted = []
below (exit_of kind name c rest) faulted = Exit kind name c faulted ∷ rest

-- a fault that arises in front of these items drops no end of inhibition
abbrev pub DropsNoCalm : List Item → Type 0
DropsNoCalm [] = Unit {0}
DropsNoCalm (Top forms ∷ work) = Unit {0}
DropsNoCalm (Called i args past ∷ work) = Unit {0}
DropsNoCalm (Exit kind handler c faulted ∷ work) = Unit {0}
DropsNoCalm (Calm old ∷ work) = ⊥
DropsNoCalm (Finish p ∷ work) = ⊥
DropsNoCalm (WriteDump ∷ work) = ⊥
DropsNoCalm (_ ∷ work) = DropsNoCalm work

abbrev pub Built : Floor → List Item → Type 0
Built floor [] = Unit {0}
Built floor (Top forms ∷ work) = floor ≡ ground
Built floor (Finish p ∷ work) = floor ≡ ground
Built floor (WriteDump ∷ work) = floor ≡ ground
Built floor (Hooks kind names args ∷ work) = Built floor work
Built floor (Enter kind handler args ∷ work) = Built floor work
Built floor (Exit kind handler c faulted ∷ work) = Built floor work
Built floor (_ ∷ work) = DropsNoCalm work × Built floor work

-- the items above the floor, and the levels behind them
pub data Above (base : Levels) (floor : Floor) (c : Config) : Type 0 where
  above : (front : List Item) (faulted : Bool) → c.work ≡ front ++ below floor faulted → unwound front (levels c.state) ≡ base → Built floor front → Above base floor c

module _ (base : Levels) (floor : Floor) where
  abbrev pub Stays : State → List Item → Type 0
  Stays t work = Above base floor (record { state = t; work = work })

  abbrev pub AnswerStays : Option Next → Type 0
  AnswerStays None = Unit {0}
  AnswerStays (Some n) = Above base floor n.config

  abbrev pub StepStays : Step → Type 0
  StepStays (Goes n) = Above base floor n.config
  StepStays (Asks ask next) = (answer : Answer) → AnswerStays (next answer)
  StepStays Ended = Unit {0}

  -- FAULTS AND REPLIES
  floor_dropped : (f : Fault) (s : State) (faulted : Bool) → levels s ≡ base → (g : Floor) → g ≡ floor → Above base floor (dropped f (below g faulted) s)
  floor_dropped f s faulted u ground q = above [] faulted (ap (λ g. below g faulted) q) u tt
  floor_dropped f s faulted u (exit_of kind name c rest) q = above [] true (ap (λ g. below g true) q) u tt

  front_dropped : (f : Fault) (front : List Item) (faulted : Bool) (s : State) → unwound front (levels s) ≡ base → DropsNoCalm front → Built floor front → Above base floor (dropped f (front ++ below floor faulted) s)
  front_dropped f [] faulted s u d b = floor_dropped f s faulted u floor refl
  front_dropped f (Top forms ∷ rest) faulted s u d b = above (Top forms ∷ rest) faulted refl u b
  front_dropped f (Called i args past ∷ rest) faulted s u d b = above (Native i args (past ++ Reply.Refused f ∷ []) ∷ rest) faulted refl u b
  front_dropped f (Exit kind name c x ∷ rest) faulted s u d b = above (Exit kind name c true ∷ rest) faulted refl u b
  front_dropped f (Leave kept ∷ rest) faulted s u d b = front_dropped f rest faulted (restored kept s) (ap (unwound rest) (restored_levels kept s) ∙ u) b.0 b.1
  front_dropped f (CommitChange c ∷ rest) faulted s u d b = front_dropped f rest faulted (popped s) (ap (unwound rest) (popped_levels s) ∙ u) b.0 b.1
  front_dropped f (Calm old ∷ rest) faulted s u d b = absurd d
  front_dropped f (Finish p ∷ rest) faulted s u d b = absurd d
  front_dropped f (WriteDump ∷ rest) faulted s u d b = absurd d
  front_dropped f (Hooks kind names args ∷ rest) faulted s u d b = front_dropped f rest faulted s u d b
  front_dropped f (Enter kind name args ∷ rest) faulted s u d b = front_dropped f rest faulted s u d b
  front_dropped f (_ ∷ rest) faulted s u d b = front_dropped f rest faulted s u b.0 b.1

  front_replied : (y : Reply) (front : List Item) (faulted : Bool) (s : State) → unwound front (levels s) ≡ base → Built floor front → Stays s (kept_reply y (front ++ below floor faulted))
  front_replied y [] faulted s u b = go floor refl
    where
      go : (g : Floor) → g ≡ floor → Stays s (kept_reply y (below g faulted))
      go ground q = above [] faulted (ap (λ g. below g faulted) q) u tt
      go (exit_of kind name c rest) q = above [] faulted (ap (λ g. below g faulted) q) u tt
  front_replied y (Called i args past ∷ rest) faulted s u b = above (Native i args (past ++ y ∷ []) ∷ rest) faulted refl u b
  front_replied y (item ∷ rest) faulted s u b = above (item ∷ rest) faulted refl u b

  front_unhooked : (front : List Item) (faulted : Bool) (s : State) → unwound front (levels s) ≡ base → Built floor front → Stays s (without_hooks_item (front ++ below floor faulted))
  front_unhooked [] faulted s u b = go floor refl
    where
      go : (g : Floor) → g ≡ floor → Stays s (without_hooks_item (below g faulted))
      go ground q = above [] faulted (ap (λ g. below g faulted) q) u tt
      go (exit_of kind name c rest) q = above [] faulted (ap (λ g. below g faulted) q) u tt
  front_unhooked (Hooks kind names args ∷ rest) faulted s u b = above rest faulted refl u b
  front_unhooked (item ∷ rest) faulted s u b = above (item ∷ rest) faulted refl u b

  -- EACH ITEM, in front of others
  module _ (s : State) (front : List Item) (faulted : Bool) where
    abbrev rest : List Item
    rest = front ++ below floor faulted

    -- a state of the same levels, and items in front that raise nothing
    same : (t : State) (new : List Item) → levels t ≡ levels s → unwound new (levels s) ≡ base → Built floor new → Stays t (new ++ below floor faulted)
    same t new e u b = above new faulted refl (ap (unwound new) e ∙ u) b

    -- the levels behind the items, of a state that raised nothing, where a fault may arise
    module _ (u : unwound front (levels s) ≡ base) (d : DropsNoCalm front) (b : Built floor front) where
      -- CALLS
      answered_stays : (t : State) (target : Target) (y : Reply) → levels t ≡ levels s → StepStays (answered t target y rest)
      answered_stays t target (Answered v) e = same t (GiveAnswer v target ∷ front) e u (d, b)
      answered_stays t target (Reply.Refused f) e = same t (Refuse f ∷ front) e u (d, b)

      unless_stays : (tests : List Test) (x : Step) → StepStays x → StepStays (unless tests s rest x)
      unless_stays tests x h = go (first_fault tests)
        where
          go : (o : Option Fault) → StepStays (unless_fault o s rest x)
          go (Some f) = same s (Refuse f ∷ front) refl u (d, b)
          go None = h

      change_call_stays : (target : Target) (p : Prepared) → GoodEditor s.editor → FinePrepared s.editor p → StepStays (change_call s target rest p)
      change_call_stays target (Changes c) g f = same s (MakeChange c ∷ GiveAnswer c.reply target ∷ front) refl u (d, (d, b))
      change_call_stays target (Quiet c) g f = same (with_editor (commit s.editor c).editor s) (GiveAnswer c.reply target ∷ front) (editor_levels s (commit s.editor c).editor (commit_steady s.editor c g (λ q. f.fine)).same_shapes (commit_lifted s.editor c)) u (d, b)
      change_call_stays target (Nothing v) g f = same s (GiveAnswer v target ∷ front) refl u (d, b)
      change_call_stays target (Barred y) g f = same s (Refuse y ∷ front) refl u (d, b)

      process_answer : (p : ℕ) (f : Process → Process) (t : State) (v : Value) (target : Target) → levels t ≡ levels s → Stays (change_process p f t) (GiveAnswer v target ∷ rest)
      process_answer p f t v target e = same (change_process p f t) (GiveAnswer v target ∷ front) (change_levels p f t ∙ e) u (d, b)

      send_stays : (target : Target) (child : ℕ) (bytes : List ℕ) → StepStays (send s target rest child bytes)
      send_stays target child [] = same s (GiveAnswer Nil target ∷ front) refl u (d, b)
      send_stays target child (x ∷ bytes) = go
        where
          go : (answer : Answer) → AnswerStays (sent_answer s target rest (length (x ∷ bytes)) answer)
          go Sent = same _ (GiveAnswer Nil target ∷ front) refl u (d, b)
          go Broken = same _ (Refuse Fault.BrokenPipe ∷ front) refl u (d, b)
          go _ = tt

      eof_stays : (target : Target) (p : ℕ) (closed : Bool) → StepStays (send_eof s target rest p closed)
      eof_stays target p true = same s (GiveAnswer (Value.TheProcess p) target ∷ front) refl u (d, b)
      eof_stays target p false = go
        where
          go : (answer : Answer) → AnswerStays (closed_answer s target rest p answer)
          go Closed = process_answer p with_input_closed (asked_more s) (Value.TheProcess p) target refl
          go _ = tt

      spawn_stays : (target : Target) (name v : Value) (answer : Answer) → AnswerStays (spawned s target rest name v answer)
      spawn_stays target name v (Started child) = go (is_new_child s child)
        where
          go : (new : Bool) → AnswerStays (spawned_child new s target rest name v child)
          go false = tt
          go true = same (started s name v child) (GiveAnswer (Value.TheProcess (length s.processes)) target ∷ front) (started_levels s name v child) u (d, b)
      spawn_stays target name v Answer.Refused = same _ (Refuse Fault.SpawnFailed ∷ front) refl u (d, b)
      spawn_stays target name v _ = tt

      deletes_joined : (ps : List ℕ) (work tail : List Item) → map Delete ps ++ (work ++ tail) ≡ (map Delete ps ++ work) ++ tail
      deletes_joined [] work tail = refl
      deletes_joined (p ∷ ps) work tail = ap (λ l. Delete p ∷ l) (deletes_joined ps work tail)

      deletes_unwound : (ps : List ℕ) (work : List Item) → unwound (map Delete ps ++ work) (levels s) ≡ unwound work (levels s)
      deletes_unwound [] work = refl
      deletes_unwound (p ∷ ps) work = deletes_unwound ps work

      deletes_dropped : (ps : List ℕ) (work : List Item) → DropsNoCalm work → DropsNoCalm (map Delete ps ++ work)
      deletes_dropped [] work h = h
      deletes_dropped (p ∷ ps) work h = deletes_dropped ps work h

      deletes_built : (ps : List ℕ) (work : List Item) → DropsNoCalm work → Built floor work → Built floor (map Delete ps ++ work)
      deletes_built [] work h k = k
      deletes_built (p ∷ ps) work h k = (deletes_dropped ps work h, deletes_built ps work h k)

      deletes_stay : (ps : List ℕ) (n : ℕ) (target : Target) → Stays s (map Delete ps ++ (Item.KillBuffer n target ∷ rest))
      deletes_stay ps n target =
          let work : List Item = Item.KillBuffer n target ∷ front in
          above (map Delete ps ++ work) faulted (deletes_joined ps work (below floor faulted)) (deletes_unwound ps work ∙ u) (deletes_built ps work d (d, b))

      effect_stays : (target : Target) (prim : Prim) (args : List Value) → StepStays (process_effect s target rest prim args)
      effect_stays target AddHook args = above (GiveAnswer _ target ∷ front) faulted refl u (d, b)
      effect_stays target RemoveHook args = above (GiveAnswer _ target ∷ front) faulted refl u (d, b)
      effect_stays target KillBuffer args = deletes_stay (running_in s (buffer_of s.editor (arg args 0))) (buffer_of s.editor (arg args 0)) target
      effect_stays target StartProcess args = spawn_stays target (arg args 0) (arg args 1)
      effect_stays target SetProcessFilter args = process_answer (process_of s (arg args 0)) (with_filter (filter_of (arg args 1))) s (arg args 1) target refl
      effect_stays target SetProcessSentinel args = process_answer (process_of s (arg args 0)) (with_sentinel (sentinel_of (arg args 1))) s (arg args 1) target refl
      effect_stays target SetProcessBuffer args = process_answer (process_of s (arg args 0)) (of_buffer (process_buffer s.editor (arg args 1))) s (arg args 1) target refl
      effect_stays target SetProcessCodingSystem args = process_answer (process_of s (arg args 0)) (with_coding (coding_of (arg args 1))) s (arg args 1) target refl
      effect_stays target ProcessSendString args = send_stays target (child_of s (process_of s (arg args 0))) (encoded (string_of (arg args 1)))
      effect_stays target ProcessSendEof args = eof_stays target (process_of s (arg args 0)) (is_closed s (process_of s (arg args 0)))
      effect_stays target DeleteProcess args = same s (Delete (process_of s (arg args 0)) ∷ GiveAnswer Nil target ∷ front) refl u (d, (d, b))
      effect_stays target AcceptProcessOutput args = same s (Wait _ target ∷ front) refl u (d, b)
      effect_stays target prim args = same s (GiveAnswer _ target ∷ front) refl u (d, b)

      call_stays : (program : Program) (bound : ℕ) (target : Target) (prim : Prim) (args : List Value) → GoodEditor s.editor → StepStays (call program bound s target rest prim args)
      call_stays program bound target prim args g =
          (elim (manner_of prim) as (λ m. StepStays (call_by m program bound s target rest prim args)) [
            | OnlyAsks ↦ answered_stays s target (query s.editor prim args) refl
            | SetsState ↦ answered_stays (with_editor (apply s.editor prim args).editor s) target (apply s.editor prim args).reply (editor_levels s (apply s.editor prim args).editor (apply_steady s.editor prim args g).same_shapes (apply_lifted s.editor prim args))
            | ChangesText ↦ change_call_stays target (prepare s.editor prim args) g (prepare_fine s.editor prim args g)
            | ConcernsHandlers ↦ unless_stays (process_tests program bound s prim args) (process_effect s target rest prim args) (effect_stays target prim args)
          ])

      -- FORMS
      evaluated_stays : (o : Option (List Value)) (prim : Prim) (target : Target) → StepStays (call_with o prim target s rest)
      evaluated_stays None prim target = same s (Refuse VoidVariable ∷ front) refl u (d, b)
      evaluated_stays (Some args) prim target = same s (MakeCall prim args target ∷ front) refl u (d, b)

      block_stays : (k : Block) (forms : Forms) → StepStays (block k forms s rest)
      block_stays SaveExcursion forms = above (Body forms ∷ Leave KeptExcursion ∷ front) faulted refl u (d, (d, b))
      block_stays SaveRestriction forms = above (Body forms ∷ Leave KeptRestriction ∷ front) faulted refl u (d, (d, b))
      block_stays SaveCurrentBuffer forms = above (Body forms ∷ Leave (KeptBuffer s.editor.current) ∷ front) faulted refl u (d, (d, b))
      block_stays InhibitReadOnly forms = above (Body forms ∷ Leave (KeptLifting s.editor.lifted) ∷ front) faulted refl u (d, (d, b))
      block_stays InhibitHooks forms = above (Body forms ∷ Leave (KeptInhibition s.inhibited) ∷ front) faulted refl u (d, (d, b))

      pair_stays : (o : Option (List Value)) (forms : Forms) → StepStays (when_eq o forms s rest)
      pair_stays None forms = same s (Refuse VoidVariable ∷ front) refl u (d, b)
      pair_stays (Some []) forms = same s (Refuse VoidVariable ∷ front) refl u (d, b)
      pair_stays (Some (x ∷ [])) forms = same s (Refuse VoidVariable ∷ front) refl u (d, b)
      pair_stays (Some (x ∷ y ∷ [])) forms = go (equal x y)
        where
          go : (v : Bool) → StepStays (elim v [ true ↦ on s (Body forms ∷ rest) | false ↦ on s rest ])
          go true = same s (Body forms ∷ front) refl u (d, b)
          go false = same s front refl u b
      pair_stays (Some (x ∷ y ∷ z ∷ more)) forms = same s (Refuse VoidVariable ∷ front) refl u (d, b)

      form_stays : (f : Form) → StepStays (do_form s rest f)
      form_stays (Do c) = evaluated_stays (evaluate s c.args) c.prim Nowhere
      form_stays (Setq name c) = evaluated_stays (evaluate s c.args) c.prim (ToName name)
      form_stays (In k forms) = block_stays k forms
      form_stays (WhenEq x y forms) = pair_stays (evaluate s (x ∷ y ∷ [])) forms

      -- NATIVES
      native_stays : (program : Program) (i : ℕ) (args : List Value) (past : List Reply) → StepStays (native program s i args past rest)
      native_stays program i args past = go (nat_lt (length past) 256) (program.does i args past)
        where
          made : (v : Bool) (c : Prim × List Value) → Stays s ((elim v [ true ↦ MakeCall c.0 (map normal c.1) ToNative | false ↦ Refuse WrongType ]) ∷ Called i args past ∷ rest)
          made true c = same s (MakeCall c.0 (map normal c.1) ToNative ∷ Called i args past ∷ front) refl u (tt, (d, b))
          made false c = same s (Refuse WrongType ∷ Called i args past ∷ front) refl u (tt, (d, b))

          go : (v : Bool) (o : Option (Prim × List Value)) → StepStays (native_next v o program s i args past rest)
          go false o = same s front refl u b
          go true None = same s front refl u b
          go true (Some c) = made (is_callable program s c) c

      -- WAITS
      entered_stays : (t : State) (p : ℕ) (x : Process) (text : List Ch) (w : Waiting) (target : Target) → levels t ≡ levels s → Stays t (entry_of s p x text (Wait w target ∷ rest))
      entered_stays t p x [] w target e = same t (Wait w target ∷ front) e u (d, b)
      entered_stays t p x (c ∷ text) w target e = same t (Enter _ _ _ ∷ Wait w target ∷ front) e u (d, b)

      drain_stays : (w : Waiting) (target : Target) (p : ℕ) (x : Process) → AnswerStays (drain s w target rest p x)
      drain_stays w target p x = entered_stays _ p x _ w target (change_levels p (λ y. record y { drained = true }) (asked_more s))

      read_stays : (w : Waiting) (target : Target) (p : ℕ) (x : Process) (answer : Answer) → AnswerStays (read_answer s w target rest p x answer)
      read_stays w target p x (Bytes bytes) = go (is_room bytes)
        where
          go : (fits : Bool) → AnswerStays (hear fits s w target rest p x bytes)
          go false = tt
          go true = entered_stays _ p x _ _ target (change_levels p (λ y. record y { bytes = Some (read_so_far x ++ bytes) }) (asked_more s))
      read_stays w target p x Answer.Nothing = same (asked_more s) (Wait w target ∷ front) refl u (d, b)
      read_stays w target p x End = drain_stays w target p x
      read_stays w target p x Answer.Failed = drain_stays w target p x
      read_stays w target p x _ = tt

      ended_stays : (t : State) (p : ℕ) (x : Process) (status : Status) (text : List ℕ) (w : Waiting) (target : Target) → levels t ≡ levels s → Above base floor (ends t p x status text (Wait w target ∷ rest)).config
      ended_stays t p x status text w target e = same _ (Enter _ _ _ ∷ Wait w target ∷ front) (change_levels p (λ y. record y { status = status }) t ∙ e) u (d, b)

      end_stays : (w : Waiting) (target : Target) (p : ℕ) (x : Process) (answer : Answer) → AnswerStays (end_answer s w target rest p x answer)
      end_stays w target p x (Code n) = ended_stays (asked_more s) p x (Exited n) (exit_text n) w target refl
      end_stays w target p x Signal = ended_stays (asked_more s) p x Signalled (codes "killed\n") w target refl
      end_stays w target p x Answer.Failed = ended_stays (asked_more s) p x Lost (codes "failed\n") w target refl
      end_stays w target p x Running = same (asked_more s) (Wait w target ∷ front) refl u (d, b)
      end_stays w target p x _ = tt

      ask_stays : (w : Waiting) (target : Target) (p : ℕ) → StepStays (ask_process s w target rest p)
      ask_stays w target p = go (may_ask s) (process s p)
        where
          by_drained : (x : Process) (v : Bool) → StepStays (ask_next v s w target rest p x)
          by_drained x false = read_stays w target p x
          by_drained x true = end_stays w target p x

          go : (v : Bool) (o : Option Process) → StepStays (ask_if v o s w target rest p)
          go false o = same s (Refuse ExchangesSpent ∷ front) refl u (d, b)
          go true None = same s front refl u b
          go true (Some x) = by_drained x x.drained

      wait_stays : (w : Waiting) (target : Target) → StepStays (wait s w target rest)
      wait_stays w target = go w.counted (target_is_eligible s w) (from_eligible s w w.asking) (eligible s w) w.rounds
        where
          go : (counted fit : Bool) (asking all : List ℕ) (rounds : ℕ) → StepStays (wait_case counted fit asking all rounds s w target rest)
          go true fit asking all rounds = same s (GiveAnswer T target ∷ front) refl u (d, b)
          go false false asking all rounds = same s (GiveAnswer Nil target ∷ front) refl u (d, b)
          go false true (p ∷ more) all rounds = ask_stays (record w { asking = more }) target p
          go false true [] [] rounds = same s (GiveAnswer Nil target ∷ front) refl u (d, b)
          go false true [] (p ∷ more) zero = same s (GiveAnswer Nil target ∷ front) refl u (d, b)
          go false true [] (p ∷ more) (suc rounds) = same s (Wait (record w { rounds = rounds; asking = p ∷ more }) target ∷ front) refl u (d, b)

      -- DELETIONS AND KILLING
      delete_stays : (p : ℕ) → StepStays (delete s p rest)
      delete_stays p = go (process s p)
        where
          killed_stays : (x : Process) (answer : Answer) → AnswerStays (kill_answer (ends s p x Signalled (codes "killed\n") rest) answer)
          killed_stays x Killed = same _ (Enter _ _ _ ∷ front) (change_levels p (λ y. record y { status = Signalled }) s) u b
          killed_stays x Answer.Failed = same _ (Enter _ _ _ ∷ front) (change_levels p (λ y. record y { status = Signalled }) s) u b
          killed_stays x _ = tt

          by_status : (x : Process) (k : Status) → StepStays (delete_running k s p x rest)
          by_status x Runs = killed_stays x
          by_status x _ = same s front refl u b

          go : (o : Option Process) → StepStays (delete_one s p o rest)
          go None = same s front refl u b
          go (Some x) = by_status x x.status

      kill_stays : (n : ℕ) (target : Target) → GoodEditor s.editor → StepStays (kill_at_end s n target rest)
      kill_stays n target g = go (is_live s.editor n)
        where
          go : (v : Bool) → StepStays (kill_live v s n target rest)
          go false = same s (GiveAnswer Nil target ∷ front) refl u (d, b)
          go true = unless_stays (must_be_replaceable s.editor n ∷ []) (on (with_editor (killed n s.editor) s) (GiveAnswer T target ∷ rest)) (same (with_editor (killed n s.editor) s) (GiveAnswer T target ∷ front) (editor_levels s (killed n s.editor) (killed_steady n s.editor g).same_shapes (killed_lifted s.editor n)) u (d, b))

      -- CHANGES
      change_stays : (c : Change) → StepStays (make_change s c rest)
      change_stays c = go s.inhibited refl
        where
          begun : State
          begun = record (with_saved (Pending c.buffer c.from c.to ∷ saved_of s) s) { inhibited = true }

          go : (i : Bool) → s.inhibited ≡ i → Stays begun (bracket i (OfBefore c.buffer) (hooks_of s.hooks c.buffer).before (at_place c.from ∷ at_place c.to ∷ []) (CommitChange c ∷ rest))
          go true q = above (CommitChange c ∷ front) faulted refl (ap (unwound front) (inhibited_levels s true q) ∙ u) (d, b)
          go false q = above (Hooks _ _ _ ∷ Calm false ∷ CommitChange c ∷ front) faulted refl (ap (unwound front) (inhibited_levels s false q) ∙ u) (d, (d, b))

    -- HANDLERS
    handler_entered : unwound front (levels s) ≡ base → Built floor front → (program : Program) (kind : Kind) (name : Option ℕ) (args : List Value) → Above base floor (body_of program (record s { depth = s.depth + 1 }) kind name args (Exit kind name s.editor.current false ∷ rest))
    handler_entered u b program kind name args = go name
      where
        exit : Item
        exit = Exit kind name s.editor.current false

        begun : State → Type 0
        begun t = behind_handler (levels t) ≡ levels s

        put_stays : (t : State) (p : Prepared) → begun t → Above base floor (put_in t p (exit ∷ rest))
        put_stays t (Changes c) e = above (MakeChange c ∷ exit ∷ front) faulted refl (ap (unwound front) e ∙ u) (tt, b)
        put_stays t (Quiet c) e = above (exit ∷ front) faulted refl (ap (unwound front) e ∙ u) b
        put_stays t (Nothing v) e = above (exit ∷ front) faulted refl (ap (unwound front) e ∙ u) b
        put_stays t (Barred y) e = above (Refuse y ∷ exit ∷ front) faulted refl (ap (unwound front) e ∙ u) (tt, b)

        output_stays : (t : State) (o : Option ℕ) (mark : ℕ) (text : List Cell) → begun t → Above base floor (output_in t o mark text (exit ∷ rest))
        output_stays t None mark text e = above (exit ∷ front) faulted refl (ap (unwound front) e ∙ u) b
        output_stays t (Some n) mark text e = put_stays (current n t) (prepare_output t.editor n mark text) e

        default_stays : (t : State) (k : Kind) → begun t → Above base floor (default_handler t k args (exit ∷ rest))
        default_stays t (OfFilter p) e = output_stays t (process_buffer_of t p) (mark_of_process t p) (plain_text (second args)) e
        default_stays t (OfSentinel p) e = output_stays t (process_buffer_of t p) (mark_of_process t p) (sentinel_words t p (plain_text (second args))) e
        default_stays t (OfBefore n) e = above (exit ∷ front) faulted refl (ap (unwound front) e ∙ u) b
        default_stays t (OfAfter n) e = above (exit ∷ front) faulted refl (ap (unwound front) e ∙ u) b

        named : (o : Option HandlerDef) (n : ℕ) → Above base floor (named_body program (record s { depth = s.depth + 1 }) o n args (exit ∷ rest))
        named None n = above (Native _ args [] ∷ exit ∷ front) faulted refl (ap (unwound front) (entered_levels s (record s { depth = s.depth + 1; scopes = [] ∷ s.scopes }) refl refl refl refl refl) ∙ u) (tt, b)
        named (Some x) n = above (Body x.body ∷ exit ∷ front) faulted refl (ap (unwound front) (entered_levels s (record s { depth = s.depth + 1; scopes = bound_params x.params args ∷ s.scopes }) refl refl refl refl refl) ∙ u) (tt, b)

        go : (o : Option ℕ) → Above base floor (body_of program (record s { depth = s.depth + 1 }) kind o args (exit ∷ rest))
        go None = default_stays (record s { depth = s.depth + 1; scopes = [] ∷ s.scopes }) kind (entered_levels s (record s { depth = s.depth + 1; scopes = [] ∷ s.scopes }) refl refl refl refl refl)
        go (Some n) = named (handler_def program.handlers n) n

    exit_stays : (kind : Kind) (x : Bool) (t : State) → unwound front (levels t) ≡ base → Built floor front → Above base floor (ended_handler kind x t rest)
    exit_stays (OfFilter p) x t u b = above front faulted refl u b
    exit_stays (OfSentinel p) x t u b = above front faulted refl (ap (unwound front) (change_levels p unlisted t) ∙ u) b
    exit_stays (OfBefore n) true t u b = front_unhooked front faulted _ (ap (unwound front) (live_levels t n (set_hook_list n before_change_functions [] t) refl) ∙ u) b
    exit_stays (OfBefore n) false t u b = above front faulted refl u b
    exit_stays (OfAfter n) true t u b = front_unhooked front faulted _ (ap (unwound front) (live_levels t n (set_hook_list n after_change_functions [] t) refl) ∙ u) b
    exit_stays (OfAfter n) false t u b = above front faulted refl u b

    -- COMMITS
    after_stays : (i : Bool) (t : State) (kind : Kind) (names : List ℕ) (args : List Value) → unwound front (record (levels t) { inhibited = i }) ≡ base → t.inhibited ≡ true → DropsNoCalm front → Built floor front → Stays t (bracket i kind names args rest)
    after_stays true t kind names args u q d b = above front faulted refl (ap (unwound front) (sym (inhibited_levels t true q)) ∙ u) b
    after_stays false t kind names args u q d b = above (Hooks kind names args ∷ Calm false ∷ front) faulted refl u (d, b)

    commit_stays : (c : Change) → GoodEditor s.editor → FineWhat c.what → IsPendingIn c.buffer (kinds s) → unwound front (behind_place (levels s)) ≡ base → DropsNoCalm front → Built floor front → StepStays (commit_change s c rest)
    commit_stays c g w p u d b = by_kind done.committed
      where
        done : Commit
        done = commit s.editor (at_kept c (saved_of s))

        kept : shapes done.editor.marks.saved ≡ shapes s.editor.marks.saved
        kept = (commit_steady s.editor (at_kept c (saved_of s)) g (kept_change s c g w p (saved_of s) refl)).same_shapes

        by_kind : (o : Committed) → StepStays (after_commit done.editor o s c rest)
        by_kind (Failed a) = above (Refuse a ∷ front) faulted refl (ap (unwound front) (popped_levels s) ∙ u) (d, b)
        by_kind (Done from to old) =
            after_stays s.inhibited _ (OfAfter c.buffer) _ _ (ap (unwound front) (popped_levels (with_editor done.editor s) ∙ ap behind_place (editor_levels s done.editor kept (commit_lifted s.editor (at_kept c (saved_of s))))) ∙ u) refl d b

    -- THE ENDS OF RUNS
    finish_stays : (program : Program) (p : ℕ) → floor ≡ ground → levels s ≡ base → StepStays (finish program s p)
    finish_stays program p e u = go (process s p)
      where
        next : Stays s (Finish (p + 1) ∷ [])
        next = above (Finish (p + 1) ∷ []) false (ap (λ g. Finish (p + 1) ∷ below g false) (sym e)) u e

        killed_stays : (answer : Answer) → AnswerStays (kill_answer (says program s (KilledLast p) s (Finish (p + 1) ∷ [])) answer)
        killed_stays Killed = next
        killed_stays Answer.Failed = next
        killed_stays _ = tt

        by_status : (x : Process) (k : Status) → StepStays (finish_running program k s p x)
        by_status x Runs = killed_stays
        by_status x _ = next

        go : (o : Option Process) → StepStays (finish_one program s p o)
        go None = above (WriteDump ∷ []) false (ap (λ g. WriteDump ∷ below g false) (sym e)) u e
        go (Some x) = by_status x x.status

    give_stays : (program : Program) (v : Value) (target : Target) → unwound front (levels s) ≡ base → Built floor front → Above base floor (give program s v target rest).config
    give_stays program v Nowhere u b = above front faulted refl u b
    give_stays program v (ToName name) u b = above front faulted refl (ap (unwound front) (assigned_levels name v s) ∙ u) b
    give_stays program v ToNative u b = front_replied (Answered v) front faulted s u b

  -- EACH STEP
  item_stays : (program : Program) (bound : ℕ) (s : State) (item : Item) (front : List Item) (faulted : Bool) → GoodEditor s.editor → WorkFine s.editor (item ∷ (front ++ below floor faulted)) → Stacked (item ∷ (front ++ below floor faulted)) (kinds s) →
      unwound (item ∷ front) (levels s) ≡ base → Built floor (item ∷ front) → StepStays (item_step program bound s (front ++ below floor faulted) item)
  item_stays program bound s (Top NoForms) front faulted g w k u b = above (Finish 0 ∷ []) false (ap (λ g. Finish 0 ∷ below g false) (sym b)) u b
  item_stays program bound s (Top (Then form forms)) front faulted g w k u b = above (DoForm form ∷ Top forms ∷ front) faulted refl u (tt, b)
  item_stays program bound s (Body NoForms) front faulted g w k u b = above front faulted refl u b.1
  item_stays program bound s (Body (Then form forms)) front faulted g w k u b = above (DoForm form ∷ Body forms ∷ front) faulted refl u (b.0, b)
  item_stays program bound s (DoForm form) front faulted g w k u b = form_stays s front faulted u b.0 b.1 form
  item_stays program bound s (MakeCall prim args target) front faulted g w k u b = call_stays s front faulted u b.0 b.1 program bound target prim args g
  item_stays program bound s (Leave kept) front faulted g w k u b = above front faulted refl (ap (unwound front) (restored_levels kept s) ∙ u) b.1
  item_stays program bound s (GiveAnswer v target) front faulted g w k u b = give_stays s front faulted program v target u b.1
  item_stays program bound s (Refuse f) front faulted g w k u b = front_dropped f front faulted s u b.0 b.1
  item_stays program bound s (MakeChange c) front faulted g w k u b = change_stays s front faulted u b.0 b.1 c
  item_stays program bound s (Hooks kind [] args) front faulted g w k u b = above front faulted refl u b
  item_stays program bound s (Hooks kind (n ∷ names) args) front faulted g w k u b = above (Enter kind (Some n) args ∷ Hooks kind names args ∷ front) faulted refl u b
  item_stays program bound s (Calm old) front faulted g w k u b = above front faulted refl u b.1
  item_stays program bound s (CommitChange c) front faulted g w k u b = commit_stays s front faulted c g w.0 k.0 u b.0 b.1
  item_stays program bound s (Enter kind name args) front faulted g w k u b = handler_entered s front faulted u b program kind name args
  item_stays program bound s (Native i args past) front faulted g w k u b = native_stays s front faulted u b.0 b.1 program i args past
  item_stays program bound s (Called i args past) front faulted g w k u b = above front faulted refl u b.1
  item_stays program bound s (Exit kind name c x) front faulted g w k u b = exit_stays s front faulted kind x (left_state s c) (ap (unwound front) (left_levels s c) ∙ u) b
  item_stays program bound s (Wait w target) front faulted g f k u b = wait_stays s front faulted u b.0 b.1 w target
  item_stays program bound s (Delete p) front faulted g w k u b = delete_stays s front faulted u b.0 b.1 p
  item_stays program bound s (Item.KillBuffer n target) front faulted g w k u b = kill_stays s front faulted u b.0 b.1 n target g
  item_stays program bound s (Finish p) front faulted g w k u b = finish_stays s front faulted program p b u
  item_stays program bound s WriteDump front faulted g w k u b = above [] false (ap (λ g. below g false) (sym b)) u tt

  -- a step that doesn't begin at the floor
  pub step_stays : (program : Program) (bound : ℕ) (c : Config) (item : Item) (front : List Item) (faulted : Bool) → GoodConfig c → c.work ≡ item ∷ (front ++ below floor faulted) →
      unwound (item ∷ front) (levels c.state) ≡ base → Built floor (item ∷ front) → StepStays (step program bound c)
  step_stays program bound c item front faulted g e u b =
      subst (λ (work : List Item). StepStays (elim work [ [] ↦ Ended | item ∷ rest ↦ item_step program bound c.state rest item ])) (sym e)
      (item_stays program bound c.state item front faulted g.editor (subst (λ work. WorkFine c.state.editor work) e g.work) (subst (λ work. Stacked work (kinds c.state)) e g.stack) u b)
