-- How handlers are entered and left, and hook functions one after another.
use Rattle.std.proofs.Common.{◌≡◌, ℕ, ◌+◌, ◌-◌, ◌≤◌, List, [], ◌∷◌, length, Result, Ok, Err, refl, ap, sym, ◌∙◌, subst, arith, drop}
use Rattle.std.specs.Prelude.{Option, Some, None, Bool, true, false}
use Rattle.text_model.specs.Properties.{Cell}
use Rattle.editor_model.specs.Values.{Value, HandlerDef}
use Rattle.editor_model.specs.Editor.{is_live}
use Rattle.editor_model.specs.Answers.{Prepared, Changes, Quiet, Nothing, Barred}
use Rattle.editor_model.specs.TextCalls.{prepare_output}
use Rattle.plain_machine.specs.State.{State, Program, change_process}
use Rattle.plain_machine.specs.Lines.{Kind, OfFilter, OfSentinel, OfBefore, OfAfter, Event, Entered, Left, line}
use Rattle.plain_machine.specs.Items.{Item, Config, Body, Native, Enter, Exit, Hooks, Said, Next}
use Rattle.plain_machine.specs.Arguments.{handler_def}
use Rattle.plain_machine.specs.Hooks.{set_hook_list, before_change_functions, after_change_functions}
use Rattle.plain_machine.specs.Forms.{if_live, current}
use Rattle.plain_machine.specs.Handling.{bound_params, in_scope, body_of, named_body, default_handler, output_in, put_in, process_buffer_of, mark_of_process, second, plain_text, sentinel_words, unlisted, left_state, ended_handler}
use Rattle.plain_machine.specs.Run.{stays, goes}
use Rattle.ek_types.specs.Io.{SinkState, Writes}
use Rattle.kernel_steps.specs.Outside.{outside, Goes}
use Rattle.kernel_steps.specs.Handlers.{IsHook, entered, code_of, native_of, ended_state, ended_work, ended_by}
use Rattle.kernel_steps.specs.Worlds.{World, Stands, kept_state, Hosted, IsReady, MayEnter, Keeps, children, running}
use Rattle.kernel_steps.specs.Work.{working, MayBreak, IsBehind, Stays, Work, Path, outwards, at_item}
use Rattle.kernel_steps.specs.declared.stop.Halt.{Halt}
use Rattle.kernel_steps.specs.declared.stop.Halt.TheVariants as halt
use Rattle.kernel_steps.specs.declared.stop.Stop.{Stop}
use Rattle.kernel_steps.specs.declared.stop.Stop.TheVariants as stop
use Rattle.kernel_steps.proofs.Journeys.{says, says_front}
use Rattle.kernel_steps.proofs.KeptStates.{entry_kept, running_alike}
use Rattle.kernel_steps.proofs.Hosting.{unlisted_kept, unlisted_hosted, unlisted_length, unlisted_children, unlisted_depth, unlisted_inhibited, unlisted_asked}
use Rattle.kernel_steps.proofs.Works.{Went, went_silently, went_then, breaks_at}
use Rattle.kernel_steps.proofs.Changing.{reaches_same}

-- HOOK FUNCTIONS
pub hooks_behind : (kind : Kind) (names : List ℕ) (args : List Value) (rest : List Item) → IsBehind rest → IsBehind (Hooks kind names args ∷ rest)
hooks_behind kind names args rest h = record {
  next = λ s. record { between = tt; before_end = tt };
  replied = λ r s. record { between = tt; before_end = tt };
  unhooked = λ s. h.next s;
  faulted = λ f s. h.faulted f s;
}

pub not_faulted : (kind : Kind) (rest : List Item) → ended_work kind false rest ≡ rest
not_faulted (OfFilter p) rest = refl
not_faulted (OfSentinel p) rest = refl
not_faulted (OfBefore b) rest = refl
not_faulted (OfAfter b) rest = refl

pub hook_faulted : (kind : Kind) (names : List ℕ) (args : List Value) (rest : List Item) → IsHook kind → ended_work kind true (Hooks kind names args ∷ rest) ≡ rest
hook_faulted (OfFilter p) names args rest h = absurd h
hook_faulted (OfSentinel p) names args rest h = absurd h
hook_faulted (OfBefore b) names args rest h = refl
hook_faulted (OfAfter b) names args rest h = refl

module _ (program : Program) where
  -- to the same configurations
  pub went_same : (a b : World) (from to to2 : State → List Item → Config) → ((s : State) (rest : List Item) → to s rest ≡ to2 s rest) → Went program a b from to → Went program a b from to2
  went_same a b from to to2 same g = went_then program a b b from to to2 g (went_silently program b b.state (λ s. s) to to2 (λ s h. h) (λ s rest h. reaches_same program (to s rest) (to2 s rest) (same s rest)))

  pub hook_went : (w : World) (kind : Kind) (n : ℕ) (names : List ℕ) (args : List Value) → Went program w w (at_item (Hooks kind (n ∷ names) args)) (λ s rest. working s (Enter kind (Some n) args ∷ Hooks kind names args ∷ rest))
  hook_went w kind n names args = went_silently program w w.state (λ s. s) _ (λ s rest. working s (Enter kind (Some n) args ∷ Hooks kind names args ∷ rest)) (λ s h. h) (λ s rest h. goes refl stays)

  pub hooks_over : (w : World) (kind : Kind) (args : List Value) → Went program w w (at_item (Hooks kind [] args)) (λ s rest. working s rest)
  hooks_over w kind args = went_silently program w w.state (λ s. s) _ (λ s rest. working s rest) (λ s h. h) (λ s rest h. goes refl stays)

  -- ENTERING
  abbrev params_by : Option HandlerDef → List ℕ
  params_by o = elim o [ Some d ↦ d.params | None ↦ [] ]

  abbrev code_by : Option HandlerDef → (name : ℕ) → List Value → State → List Item → Config
  code_by o name args s rest = elim o [ Some d ↦ working s (Body d.body ∷ rest) | None ↦ working s (Native (native_of program name) args [] ∷ rest) ]

  pub body_code : (kind : Kind) (handler : Option ℕ) (args : List Value) (s : State) (rest : List Item) → body_of program (record s { depth = s.depth + 1 }) kind handler args rest ≡ code_of program kind handler args (entered program handler args s) rest
  body_code kind None args s rest = refl
  body_code kind (Some name) args s rest = by (handler_def program.handlers name)
    where
      by : (o : Option HandlerDef) → named_body program (record s { depth = s.depth + 1 }) o name args rest ≡ code_by o name args (in_scope (bound_params (params_by o) args) (record s { depth = s.depth + 1 })) rest
      by (Some d) = refl
      by None = refl

  pub exit_behind : (kind : Kind) (handler : Option ℕ) (c : ℕ) (f : Bool) (rest : List Item) → IsBehind rest → IsBehind (Exit kind handler c f ∷ rest)
  exit_behind kind handler c f rest h = record {
    next = λ s. record { between = tt; before_end = tt };
    replied = λ r s. record { between = tt; before_end = tt };
    unhooked = λ s. record { between = tt; before_end = tt };
    faulted = λ g s. record { between = tt; before_end = tt };
  }

  -- a run may be broken off where a handler's code begins
  record Begins (c : Config) (s : State) : Type 0 where
    may : MayBreak c
    processes : c.state.processes ≡ s.processes

  put_begins : (s t : State) (pr : Prepared) (kind : Kind) (handler : Option ℕ) (b : ℕ) (rest : List Item) → s.processes ≡ t.processes → Begins (put_in s pr (Exit kind handler b false ∷ rest)) t
  put_begins s t (Changes c) kind handler b rest e = record { may = record { between = tt; before_end = tt }; processes = e }
  put_begins s t (Quiet c) kind handler b rest e = record { may = record { between = tt; before_end = tt }; processes = e }
  put_begins s t (Nothing v) kind handler b rest e = record { may = record { between = tt; before_end = tt }; processes = e }
  put_begins s t (Barred f) kind handler b rest e = record { may = record { between = tt; before_end = tt }; processes = e }

  output_begins : (s : State) (p : ℕ) (text : List Cell) (o : Option ℕ) (kind : Kind) (handler : Option ℕ) (b : ℕ) (rest : List Item) → Begins (output_in s o (mark_of_process s p) text (Exit kind handler b false ∷ rest)) s
  output_begins s p text None kind handler b rest = record { may = record { between = tt; before_end = tt }; processes = refl }
  output_begins s p text (Some buffer) kind handler b rest = put_begins (current buffer s) s (prepare_output s.editor buffer (mark_of_process s p) text) kind handler b rest refl

  default_begins : (k : Kind) (args : List Value) (s : State) (kind : Kind) (handler : Option ℕ) (b : ℕ) (rest : List Item) → Begins (default_handler s k args (Exit kind handler b false ∷ rest)) s
  default_begins (OfFilter p) args s kind handler b rest = output_begins s p (plain_text (second args)) (process_buffer_of s p) kind handler b rest
  default_begins (OfSentinel p) args s kind handler b rest = output_begins s p (sentinel_words s p (plain_text (second args))) (process_buffer_of s p) kind handler b rest
  default_begins (OfBefore c) args s kind handler b rest = record { may = record { between = tt; before_end = tt }; processes = refl }
  default_begins (OfAfter c) args s kind handler b rest = record { may = record { between = tt; before_end = tt }; processes = refl }

  code_begins : (k : Kind) (handler : Option ℕ) (args : List Value) (s : State) (kind : Kind) (h : Option ℕ) (b : ℕ) (rest : List Item) → Begins (code_of program k handler args s (Exit kind h b false ∷ rest)) s
  code_begins k None args s kind h b rest = default_begins k args s kind h b rest
  code_begins k (Some name) args s kind h b rest = by (handler_def program.handlers name)
    where
      by : (o : Option HandlerDef) → Begins (code_by o name args s (Exit kind h b false ∷ rest)) s
      by (Some d) = record { may = record { between = tt; before_end = tt }; processes = refl }
      by None = record { may = record { between = tt; before_end = tt }; processes = refl }

  body_begins : (kind : Kind) (handler : Option ℕ) (args : List Value) (s : State) (b : ℕ) (rest : List Item) → Begins (body_of program (record s { depth = s.depth + 1 }) kind handler args (Exit kind handler b false ∷ rest)) s
  body_begins kind handler args s b rest =
      let there = code_begins kind handler args (entered program handler args s) kind handler b rest in
      let same = sym (body_code kind handler args s (Exit kind handler b false ∷ rest)) in
      subst (λ c. Begins c s) same (record { may = there.may; processes = there.processes })

  module _ (w : World) (kind : Kind) (handler : Option ℕ) (args : List Value) where
    abbrev pub written : SinkState → World
    written sink = record w { outside = outside sink w.outside.past }

    abbrev pub inside : State → List Item → Config
    inside s rest = body_of program (record s { depth = s.depth + 1 }) kind handler args (Exit kind handler w.state.editor.current false ∷ rest)

    abbrev event : State → Event
    event s = Entered s.depth kind handler args

    abbrev said : State → Said
    said s = record { event = event s; line = line program.symbols s (event s) }

    abbrev next : State → List Item → Next
    next s rest = record { said = said s ∷ []; config = body_of program (record s { depth = s.depth + 1 }) kind handler args (Exit kind handler s.editor.current false ∷ rest) }

    same_line : (s : State) → Stands w.state s → line program.symbols w.state (event w.state) ≡ line program.symbols s (event s)
    same_line s stands = ap (λ (t : State). line program.symbols t (event t)) stands ∙ entry_kept program.symbols s s.depth kind handler args

    same_inside : (s : State) (rest : List Item) → Stands w.state s → (next s rest).config ≡ inside s rest
    same_inside s rest stands = ap (λ (t : State). body_of program (record s { depth = s.depth + 1 }) kind handler args (Exit kind handler t.editor.current false ∷ rest)) (sym stands)

    pub entry_told : {U E : Type 0} (u : U) (sink : SinkState) → Writes {T = U} {E = E} w.outside.sink sink (Ok u) (line program.symbols w.state (event w.state)) → Went program w (written sink) (at_item (Enter kind handler args)) inside
    entry_told {U = U} {E = E} u sink wrote = record {
      comes = λ s rest stands behind. record {
        state = s;
        stands = stands;
        goes = subst (λ c. Goes program w.outside (outside sink w.outside.past) (working s (Enter kind handler args ∷ rest)) c) (same_inside s rest stands)
            (says program w.outside.sink sink w.outside.past (working s (Enter kind handler args ∷ rest)) (next s rest) (said s) u refl refl (subst (λ l. Writes {T = U} {E = E} w.outside.sink sink (Ok u) l) (same_line s stands) wrote));
      };
      later = wrote.later;
    }

    pub entry_unwritten : {T U E : Type 0} (e : E) (sink : SinkState) (to : T → State → List Item → Config) → Hosted w.state.processes w.kills → Writes {T = U} {E = E} w.outside.sink sink (Err e) (line program.symbols w.state (event w.state)) →
        Work {T = T} (Err (halt.Stop stop.WriteFault)) program w (written sink) (at_item (Enter kind handler args)) to outwards
    entry_unwritten {U = U} {E = E} e sink to hosted wrote = record {
      path = record {
        comes = λ s rest stands behind.
            let begins = body_begins kind handler args s s.editor.current rest in
            breaks_at program w (written sink) (working s (Enter kind handler args ∷ rest)) stop.WriteFault s
            (says_front program w.outside.sink sink w.outside.past (working s (Enter kind handler args ∷ rest)) (next s rest) (said s) e refl refl begins.may.between (subst (λ l. Writes {T = U} {E = E} w.outside.sink sink (Err e) l) (same_line s stands) wrote))
            stands begins.may.before_end begins.processes;
        cause = record { later = wrote.later; rose = λ _. wrote.rose };
      };
      stays = hosted;
    }

    pub scoped : (known : State) (b : World) → b.state ≡ w.state → known ≡ entered program handler args b.state → Went program b (record b { state = known }) inside (λ s rest. code_of program kind handler args s (Exit kind handler w.state.editor.current false ∷ rest))
    scoped known b same now = went_silently program b known (entered program handler args) inside (λ s rest. code_of program kind handler args s (Exit kind handler w.state.editor.current false ∷ rest))
        (λ s h. now ∙ ap (entered program handler args) h) (λ s rest h. reaches_same program _ _ (body_code kind handler args s (Exit kind handler w.state.editor.current false ∷ rest)))

    pub inside_may : (s : State) (rest : List Item) → IsBehind rest → MayBreak (inside s rest) × ((inside s rest).state.processes ≡ s.processes)
    inside_may s rest h = let begins = body_begins kind handler args s w.state.editor.current rest in (begins.may, begins.processes)

  -- LEAVING
  -- the code of a handler ended so, and the handler is about to be left
  pub ran_as : {T : Type 0} (r : Result T Halt) (faulted : Bool) (a b : World) (from : State → List Item → Config) (kind : Kind) (handler : Option ℕ) (c : ℕ) → ended_by r ≡ Ok faulted →
      Path r program a b from (λ v s rest. working s (Exit kind handler c false ∷ rest)) (λ f s rest. working s (Exit kind handler c true ∷ rest)) → Went program a b from (λ s rest. working s (Exit kind handler c faulted ∷ rest))
  ran_as (Ok x) faulted a b from kind handler c e p = let is : false ≡ faulted = (let o : Ok false ≡ Ok faulted = e in cc) in subst (λ f. Went program a b from (λ s rest. working s (Exit kind handler c f ∷ rest))) is (record { comes = p.comes; later = p.cause.later })
  ran_as (Err (halt.Fault f)) faulted a b from kind handler c e p = let is : true ≡ faulted = (let o : Ok true ≡ Ok faulted = e in cc) in subst (λ f. Went program a b from (λ s rest. working s (Exit kind handler c f ∷ rest))) is (record { comes = p.comes; later = p.cause.later })
  ran_as (Err (halt.Stop why)) faulted a b from kind handler c e p = absurd (let o : Err why ≡ Ok faulted = e in cc)

  pub ran_keeps : {T : Type 0} (r : Result T Halt) (faulted : Bool) (a b : World) → ended_by r ≡ Ok faulted → Stays r a b → Keeps a b
  ran_keeps (Ok x) faulted a b e k = k
  ran_keeps (Err (halt.Fault f)) faulted a b e k = k
  ran_keeps (Err (halt.Stop why)) faulted a b e k = absurd (let o : Err why ≡ Ok faulted = e in cc)

  pub ran_stopped : {T : Type 0} (r : Result T Halt) (why : Stop) → ended_by r ≡ Err why → r ≡ Err (halt.Stop why)
  ran_stopped (Ok x) why e = absurd (let o : Ok false ≡ Err why = e in cc)
  ran_stopped (Err (halt.Fault f)) why e = absurd (let o : Ok true ≡ Err why = e in cc)
  ran_stopped (Err (halt.Stop reason)) why e = let same : reason ≡ why = (let o : Err reason ≡ Err why = e in cc) in ap (λ w. Err (halt.Stop w)) same

  -- the end of a handler in the states that the kernel stands for
  abbrev chosen : Bool → (s t : State) → State
  chosen live s t = elim live [ true ↦ t | false ↦ s ]

  chosen_kept : (live : Bool) (s t : State) → chosen live (kept_state s) (kept_state t) ≡ kept_state (chosen live s t)
  chosen_kept true s t = refl
  chosen_kept false s t = refl

  record IsCalm (change : State → State) : Type 0 where
    kept : (s : State) → change (kept_state s) ≡ kept_state (change s)
    hosted : (s : State) (kills : List Bool) → Hosted s.processes kills → Hosted (change s).processes kills
    size : (s : State) → length (change s).processes ≡ length s.processes
    alike : (s : State) → children (running (change s).processes) ≡ children (running s.processes)
    depth : (s : State) → (change s).depth ≡ s.depth
    inhibited : (s : State) → (change s).inhibited ≡ s.inhibited
    asked : (s : State) → (change s).asked ≡ s.asked

  calm_self : IsCalm (λ s. s)
  calm_self = record { kept = λ s. refl; hosted = λ s kills h. h; size = λ s. refl; alike = λ s. refl; depth = λ s. refl; inhibited = λ s. refl; asked = λ s. refl }

  calm_if : (b : ℕ) (change : State → State) → ((s : State) → change (kept_state s) ≡ kept_state (change s)) → ((s : State) → (change s).processes ≡ s.processes) → ((s : State) → (change s).depth ≡ s.depth) → ((s : State) → (change s).inhibited ≡ s.inhibited) → ((s : State) → (change s).asked ≡ s.asked) →
      IsCalm (λ s. if_live s b (change s))
  calm_if b change kept processes depth inhibited asked = record {
    kept = λ s. ap (chosen (is_live s.editor b) (kept_state s)) (kept s) ∙ chosen_kept (is_live s.editor b) s (change s);
    hosted = λ s kills h. subst (λ l. Hosted l kills) (sym (same s)) h;
    size = λ s. ap length (same s);
    alike = λ s. ap (λ l. children (running l)) (same s);
    depth = λ s. by_depth (is_live s.editor b) s (change s) (depth s);
    inhibited = λ s. by_inhibited (is_live s.editor b) s (change s) (inhibited s);
    asked = λ s. by_asked (is_live s.editor b) s (change s) (asked s);
  }
    where
      by_processes : (live : Bool) (s t : State) → t.processes ≡ s.processes → (chosen live s t).processes ≡ s.processes
      by_processes true s t e = e
      by_processes false s t e = refl

      same : (s : State) → (if_live s b (change s)).processes ≡ s.processes
      same s = by_processes (is_live s.editor b) s (change s) (processes s)

      by_depth : (live : Bool) (s t : State) → t.depth ≡ s.depth → (chosen live s t).depth ≡ s.depth
      by_depth true s t e = e
      by_depth false s t e = refl

      by_inhibited : (live : Bool) (s t : State) → t.inhibited ≡ s.inhibited → (chosen live s t).inhibited ≡ s.inhibited
      by_inhibited true s t e = e
      by_inhibited false s t e = refl

      by_asked : (live : Bool) (s t : State) → t.asked ≡ s.asked → (chosen live s t).asked ≡ s.asked
      by_asked true s t e = e
      by_asked false s t e = refl

  unlisted_calm : (p : ℕ) → IsCalm (λ s. change_process p unlisted s)
  unlisted_calm p = record { kept = unlisted_kept p; hosted = unlisted_hosted p; size = unlisted_length p; alike = unlisted_children p; depth = unlisted_depth p; inhibited = unlisted_inhibited p; asked = unlisted_asked p }

  ended_calm : (kind : Kind) (faulted : Bool) → IsCalm (ended_state kind faulted)
  ended_calm (OfFilter p) faulted = calm_self
  ended_calm (OfSentinel p) faulted = unlisted_calm p
  ended_calm (OfBefore b) true = calm_if b (set_hook_list b before_change_functions []) (λ s. refl) (λ s. refl) (λ s. refl) (λ s. refl) (λ s. refl)
  ended_calm (OfBefore b) false = calm_self
  ended_calm (OfAfter b) true = calm_if b (set_hook_list b after_change_functions []) (λ s. refl) (λ s. refl) (λ s. refl) (λ s. refl) (λ s. refl)
  ended_calm (OfAfter b) false = calm_self

  abbrev out : State → State
  out s = record s { depth = s.depth - 1; scopes = drop 1 s.scopes }

  current_calm : (c : ℕ) → IsCalm (λ s. if_live s c (current c s))
  current_calm c = calm_if c (current c) (λ s. refl) (λ s. refl) (λ s. refl) (λ s. refl) (λ s. refl)

  pub ended_config : (kind : Kind) (faulted : Bool) (s : State) (rest : List Item) → ended_handler kind faulted s rest ≡ working (ended_state kind faulted s) (ended_work kind faulted rest)
  ended_config (OfFilter p) faulted s rest = refl
  ended_config (OfSentinel p) faulted s rest = refl
  ended_config (OfBefore b) true s rest = refl
  ended_config (OfBefore b) false s rest = refl
  ended_config (OfAfter b) true s rest = refl
  ended_config (OfAfter b) false s rest = refl

  ended_may : (kind : Kind) (faulted : Bool) (s : State) (rest : List Item) → IsBehind rest → MayBreak (working s (ended_work kind faulted rest))
  ended_may (OfFilter p) faulted s rest h = h.next s
  ended_may (OfSentinel p) faulted s rest h = h.next s
  ended_may (OfBefore b) true s rest h = h.unhooked s
  ended_may (OfBefore b) false s rest h = h.next s
  ended_may (OfAfter b) true s rest h = h.unhooked s
  ended_may (OfAfter b) false s rest h = h.next s

  module _ (w : World) (kind : Kind) (handler : Option ℕ) (c : ℕ) (faulted : Bool) where
    abbrev pub left : SinkState → World
    left sink = record w { outside = outside sink w.outside.past }

    abbrev leaves : State → State
    leaves s = ended_state kind faulted (left_state s c)

    abbrev event_out : State → Event
    event_out s = Left (s.depth - 1) handler

    abbrev said_out : State → Said
    said_out s = record { event = event_out s; line = line program.symbols s (event_out s) }

    abbrev next_out : State → List Item → Next
    next_out s rest = record { said = said_out s ∷ []; config = ended_handler kind faulted (left_state s c) rest }

    out_line : (s : State) → Stands w.state s → line program.symbols w.state (event_out w.state) ≡ line program.symbols s (event_out s)
    out_line s stands = ap (λ (t : State). line program.symbols t (event_out t)) stands

    pub leaves_kept : (s : State) → leaves (kept_state s) ≡ kept_state (leaves s)
    leaves_kept s = ap (ended_state kind faulted) ((current_calm c).kept (out s)) ∙ (ended_calm kind faulted).kept (left_state s c)

    pub leave_told : {U E : Type 0} (u : U) (sink : SinkState) (known : State) → known ≡ leaves w.state → Writes {T = U} {E = E} w.outside.sink sink (Ok u) (line program.symbols w.state (event_out w.state)) →
        Went program w (record (left sink) { state = known }) (at_item (Exit kind handler c faulted)) (λ s rest. working s (ended_work kind faulted rest))
    leave_told {U = U} {E = E} u sink known now wrote = record {
      comes = λ s rest stands behind. record {
        state = leaves s;
        stands = now ∙ ap leaves stands ∙ leaves_kept s;
        goes = subst (λ d. Goes program w.outside (outside sink w.outside.past) (working s (Exit kind handler c faulted ∷ rest)) d) (ended_config kind faulted (left_state s c) rest)
            (says program w.outside.sink sink w.outside.past (working s (Exit kind handler c faulted ∷ rest)) (next_out s rest) (said_out s) u refl refl (subst (λ l. Writes {T = U} {E = E} w.outside.sink sink (Ok u) l) (out_line s stands) wrote));
      };
      later = wrote.later;
    }

    leaves_alike : (s : State) → children (running (leaves s).processes) ≡ children (running s.processes)
    leaves_alike s = (ended_calm kind faulted).alike (left_state s c) ∙ (current_calm c).alike (out s)

    pub leave_unwritten : {T U E : Type 0} (e : E) (sink : SinkState) (to : T → State → List Item → Config) → Writes {T = U} {E = E} w.outside.sink sink (Err e) (line program.symbols w.state (event_out w.state)) →
        Path {T = T} (Err (halt.Stop stop.WriteFault)) program w (left sink) (at_item (Exit kind handler c faulted)) to outwards
    leave_unwritten {U = U} {E = E} e sink to wrote = record {
      comes = λ s rest stands behind.
          let end = ended_config kind faulted (left_state s c) rest in
          let may = subst MayBreak (sym end) (ended_may kind faulted (leaves s) rest behind) in
          record {
            breaks = says_front program w.outside.sink sink w.outside.past (working s (Exit kind handler c faulted ∷ rest)) (next_out s rest) (said_out s) e refl refl may.between (subst (λ l. Writes {T = U} {E = E} w.outside.sink sink (Err e) l) (out_line s stands) wrote);
            before_end = may.before_end;
            left = ap (λ (d : Config). children (running d.state.processes)) end ∙ leaves_alike s ∙ running_alike w.state s stands;
          };
      cause = record { later = wrote.later; rose = λ _. wrote.rose };
    }

    pub leave_keeps : (before : World) (known : State) (sink : SinkState) → known ≡ leaves w.state → Hosted w.state.processes w.kills → length w.kills + length before.state.processes ≤ length before.kills + length w.state.processes →
        w.state.depth ≡ before.state.depth + 1 → w.state.inhibited ≡ before.state.inhibited → before.state.asked ≤ w.state.asked → Keeps before (record (left sink) { state = known })
    leave_keeps before known sink now hosted count depth inhibited asked = record {
      hosted = subst (λ (s : State). Hosted s.processes w.kills) (sym now) ((ended_calm kind faulted).hosted (left_state w.state c) w.kills ((current_calm c).hosted (out w.state) w.kills hosted));
      count = omega (arith, count, ap (λ (s : State). length s.processes) now, (ended_calm kind faulted).size (left_state w.state c), (current_calm c).size (out w.state));
      depth = ap (λ (s : State). s.depth) now ∙ (ended_calm kind faulted).depth (left_state w.state c) ∙ (current_calm c).depth (out w.state) ∙ (let e : w.state.depth - 1 ≡ before.state.depth = omega (arith, depth) in e);
      inhibited = ap (λ (s : State). s.inhibited) now ∙ (ended_calm kind faulted).inhibited (left_state w.state c) ∙ (current_calm c).inhibited (out w.state) ∙ inhibited;
      asked = omega (arith, asked, ap (λ (s : State). s.asked) now, (ended_calm kind faulted).asked (left_state w.state c), (current_calm c).asked (out w.state));
    }

-- the state in which a handler's code begins may run it
pub entered_ready : (program : Program) (handler : Option ℕ) (args : List Value) (s known : State) (kills : List Bool) → known ≡ entered program handler args s → IsReady s kills → MayEnter s → IsReady known kills
entered_ready program handler args s known kills now r m = record {
  hosted = subst (λ (t : State). Hosted t.processes kills) (sym now) r.hosted;
  few = omega (arith, r.few, ap (λ (t : State). length t.processes) now);
  depth = omega (arith, m.depth, ap (λ (t : State). t.depth) now);
  in_hook = λ e. ap (λ (t : State). t.inhibited) now ∙ m.in_hook (let d : s.depth ≡ 16 = omega (arith, e, ap (λ (t : State). t.depth) now) in d);
}
