-- How handlers are entered and left.
use Rattle.std.proofs.Common.{◌≡◌, ℕ, ◌-◌, List, [], ◌∷◌, Ok, refl, ap, sym, ◌∙◌, subst}
use Rattle.std.specs.Prelude.{Option, Some, None, option_map, Bool, false}
use Rattle.std.specs.Io.KnownBytes.{Appends}
use Rattle.editor_model.specs.Values.{Value, HandlerDef, Forms}
use Rattle.editor_model.specs.Answers.{Prepared, Changes, Quiet, Nothing, Barred}
use Rattle.plain_machine.specs.State.{State, Program}
use Rattle.plain_machine.specs.Lines.{Kind, Entered, Left, line}
use Rattle.plain_machine.specs.Items.{Item, Config, Body, Native, Enter, Exit}
use Rattle.plain_machine.specs.Arguments.{handler_def}
use Rattle.plain_machine.specs.Handling.{default_handler, put_in, left_state, enter, exit}
use Rattle.ek_types.specs.Io.{SinkState, Writes}
use Rattle.kernel_steps.specs.Handlers.{code_of, entered, ended_state, ended_work, default_state, default_prepared, named_code, native_of}
use Rattle.kernel_steps.specs.Work.{working}
use Rattle.kernel_steps.specs.Worlds.{Stands, kept_state, quiet_world}
use Rattle.kernel_steps.proofs.Defaults.{default_is, state_kept, prepared_kept}
use Rattle.kernel_steps.proofs.Handling.{body_code, ended_config, leaves_kept}
use Rattle.kernel_steps.proofs.Journeys.{lines_of_one}
use Rattle.kernel_steps.proofs.KeptStates.{entry_kept}
use Rattle.trace_check.specs.Steps.{Aloud}

-- a configuration as the program keeps it
abbrev kept_config : Config → Config
kept_config c = working (kept_state c.state) c.work

put_kept : (s : State) (p : Prepared) (rest : List Item) → put_in (kept_state s) p rest ≡ kept_config (put_in s p rest)
put_kept s (Changes c) rest = refl
put_kept s (Quiet c) rest = refl
put_kept s (Nothing v) rest = refl
put_kept s (Barred f) rest = refl

module _ (program : Program) (kind : Kind) (args : List Value) where
  -- the code of a handler, in a state as the program keeps it
  abbrev code_by : Option HandlerDef → (name : ℕ) → State → List Item → Config
  code_by o name s rest = elim o [ Some d ↦ working s (Body d.body ∷ rest) | None ↦ working s (Native (native_of program name) args [] ∷ rest) ]

  code_kept : (handler : Option ℕ) (s : State) (rest : List Item) → code_of program kind handler args (kept_state s) rest ≡ kept_config (code_of program kind handler args s rest)
  code_kept None s rest =
      default_is kind args (kept_state s) rest
      ∙ ap (λ t. put_in t (default_prepared kind args (kept_state s)) rest) (state_kept kind s)
      ∙ ap (λ p. put_in (kept_state (default_state kind s)) p rest) (prepared_kept kind args s)
      ∙ put_kept (default_state kind s) (default_prepared kind args s) rest
      ∙ ap kept_config (sym (default_is kind args s rest))
  code_kept (Some name) s rest = by (handler_def program.handlers name)
    where
      by : (o : Option HandlerDef) → code_by o name (kept_state s) rest ≡ kept_config (code_by o name s rest)
      by (Some d) = refl
      by None = refl

  -- ENTERING
  module _ (handler : Option ℕ) (known mid known2 : State) (rest left : List Item) where
    abbrev begins : State → Config
    begins s = (enter program s kind handler args rest).config

    entered_alike : mid ≡ entered program handler args known → working known2 left ≡ code_of program kind handler args mid (Exit kind handler known.editor.current false ∷ rest) → (s : State) → Stands known s →
        working known2 left ≡ kept_config (begins s)
    entered_alike scoped now s h =
        now
        ∙ ap (λ m. code_of program kind handler args m (Exit kind handler known.editor.current false ∷ rest)) (scoped ∙ ap (entered program handler args) h)
        ∙ ap (λ (t : State). code_of program kind handler args (kept_state (entered program handler args s)) (Exit kind handler t.editor.current false ∷ rest)) h
        ∙ code_kept handler (entered program handler args s) (Exit kind handler s.editor.current false ∷ rest)
        ∙ ap kept_config (sym (body_code program kind handler args s (Exit kind handler s.editor.current false ∷ rest)))

    pub handler_entered : (old new : SinkState) {T E : Type 0} (x : T) → mid ≡ entered program handler args known → working known2 left ≡ code_of program kind handler args mid (Exit kind handler known.editor.current false ∷ rest) →
        Writes {T = T} {E = E} old new (Ok x) (line program.symbols known (Entered known.depth kind handler args)) → Aloud program known known2 (Enter kind handler args ∷ rest) left old new
    handler_entered old new x scoped now written = λ s h.
        let whole = entered_alike scoped now s h in
        let same : line program.symbols known (Entered known.depth kind handler args) ≡ line program.symbols s (Entered s.depth kind handler args) =
        ap (λ (t : State). line program.symbols t (Entered t.depth kind handler args)) h ∙ entry_kept program.symbols s s.depth kind handler args in
        record {
          next = enter program s kind handler args rest;
          steps = refl;
          stands = ap (λ (c : Config). c.state) whole;
          left_is = sym (ap (λ (c : Config). c.work) whole);
          written = subst (λ l. Appends old.held new.held l) (same ∙ sym (lines_of_one (record { event = Entered s.depth kind handler args; line = line program.symbols s (Entered s.depth kind handler args) }))) written.ok;
        }

-- CODE
-- the body of a script's handler, or a native
module _ (program : Program) (name : ℕ) (args : List Value) (s : State) (rest : List Item) where
  abbrev named_by : Option HandlerDef → Config
  named_by o = elim o [ Some d ↦ working s (Body d.body ∷ rest) | None ↦ working s (Native (native_of program name) args [] ∷ rest) ]

  body_by : (o : Option HandlerDef) (b : Forms) → Some b ≡ option_map (λ d. d.body) o → working s (Body b ∷ rest) ≡ named_by o
  body_by (Some d) b e = let same : b ≡ d.body = (let x : Some b ≡ Some d.body = e in cc) in ap (λ f. working s (Body f ∷ rest)) same
  body_by None b e = absurd (let x : Some b ≡ None = e in cc)

  native_by : (o : Option HandlerDef) → None ≡ option_map (λ d. d.body) o → working s (Native (native_of program name) args [] ∷ rest) ≡ named_by o
  native_by (Some d) e = absurd (let x : None ≡ Some d.body = e in cc)
  native_by None e = refl

  pub body_named : (b : Forms) (left : List Item) → left ≡ Body b ∷ rest → Some b ≡ option_map (λ d. d.body) (handler_def program.handlers name) → working s left ≡ named_code program name args s rest
  body_named b left e is = ap (working s) e ∙ body_by (handler_def program.handlers name) b is

  pub native_named : (i : ℕ) (left : List Item) → left ≡ Native i args [] ∷ rest → i ≡ native_of program name → None ≡ option_map (λ d. d.body) (handler_def program.handlers name) → working s left ≡ named_code program name args s rest
  native_named i left e number is = ap (working s) (e ∙ ap (λ n. Native n args [] ∷ rest) number) ∙ native_by (handler_def program.handlers name) is

-- the insertion of a default handler
pub default_put : (kind : Kind) (args : List Value) (known known2 : State) (rest left : List Item) (p : Prepared) → p ≡ default_prepared kind args known → known2 ≡ default_state kind known → working known2 left ≡ put_in known2 p rest →
    working known2 left ≡ default_handler known kind args rest
default_put kind args known known2 rest left p is now put =
    put ∙ ap (λ t. put_in t p rest) now ∙ ap (λ q. put_in (default_state kind known) q rest) is ∙ sym (default_is kind args known rest)

-- LEAVING
module _ (program : Program) (kind : Kind) (handler : Option ℕ) (c : ℕ) (faulted : Bool) (known known2 : State) (rest left : List Item) where
  pub handler_left : (old new : SinkState) {T E : Type 0} (x : T) → known2 ≡ ended_state kind faulted (left_state known c) → left ≡ ended_work kind faulted rest →
      Writes {T = T} {E = E} old new (Ok x) (line program.symbols known (Left (known.depth - 1) handler)) → Aloud program known known2 (Exit kind handler c faulted ∷ rest) left old new
  handler_left old new x now work written = λ s h.
      let end = ended_config program kind faulted (left_state s c) rest in
      let same : line program.symbols known (Left (known.depth - 1) handler) ≡ line program.symbols s (Left (s.depth - 1) handler) =
      ap (λ (t : State). line program.symbols t (Left (t.depth - 1) handler)) h in
      record {
        next = exit program s kind handler c faulted rest;
        steps = refl;
        stands = now ∙ ap (λ t. ended_state kind faulted (left_state t c)) h ∙ leaves_kept program (quiet_world known [] old) kind handler c faulted s ∙ ap (λ (d : Config). kept_state d.state) (sym end);
        left_is = ap (λ (d : Config). d.work) end ∙ sym work;
        written = subst (λ l. Appends old.held new.held l) (same ∙ sym (lines_of_one (record { event = Left (s.depth - 1) handler; line = line program.symbols s (Left (s.depth - 1) handler) }))) written.ok;
      }
