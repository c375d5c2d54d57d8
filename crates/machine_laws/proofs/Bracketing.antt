-- Runs stay above what they began on; so at the top level nothing is left over, and calls and handlers give back what they raised.
use Rattle.std.proofs.Common.{◌≡◌, ℕ, Bool, true, false, List, [], ◌∷◌, ◌++◌, length, refl, ap, sym, ◌∙◌, subst}
use Rattle.std.specs.Prelude.{Option, Some}
use Rattle.text_model.specs.Marks.{Saved}
use Rattle.editor_model.specs.Values.{Reply, Answered, Script}
use Rattle.plain_machine.specs.Exchanges.{Exchange, Ask, Answer}
use Rattle.plain_machine.specs.State.{State, Scope, Program}
use Rattle.plain_machine.specs.Lines.{Kind, OfBefore, OfAfter, OfFilter, OfSentinel}
use Rattle.plain_machine.specs.Items.{Item, Top, MakeCall, Enter, Finish, WriteDump, Nowhere, Said, Config, Next, Goes, Asks, Ended}
use Rattle.plain_machine.specs.Hooks.{before_change_functions, after_change_functions, set_hook_list}
use Rattle.plain_machine.specs.Handling.{unlisted, ended_handler}
use Rattle.plain_machine.specs.Step.{step, item_step}
use Rattle.plain_machine.specs.Run.{Reaches, stays, goes, asks, start, given}
use Rattle.machine_laws.specs.Brackets.{Levels, levels, shapes, IsTop, NothingLeft, TopIsClear, CallsBracket, HandlersBracket}
use Rattle.machine_laws.proofs.Currents.{current_born, call_current, handler_current}
use Rattle.machine_laws.proofs.GoodEditor.{GoodEditor}
use Rattle.machine_laws.proofs.GoodConfig.{GoodConfig}
use Rattle.machine_laws.proofs.Returning.{goes_good, asks_good, start_good, reaches_good}
use Rattle.machine_laws.proofs.LevelStates.{live_levels, change_levels}
use Rattle.machine_laws.proofs.Levels.{unwound, ground, Above, above, AnswerStays, StepStays, step_stays}

module _ (program : Program) (bound : ℕ) (base : Levels) where
  -- ABOVE THE GROUND
  ground_step : (c : Config) → GoodConfig c → Above base ground c → StepStays base ground (step program bound c)
  ground_step c g (above [] faulted e u b) = subst (λ (work : List Item). StepStays base ground (elim work [ [] ↦ Ended | item ∷ rest ↦ item_step program bound c.state rest item ])) (sym e) tt
  ground_step c g (above (item ∷ front) faulted e u b) = step_stays base ground program bound c item front faulted g e u b

  ground_goes : (c : Config) (n : Next) → GoodConfig c → Above base ground c → step program bound c ≡ Goes n → Above base ground n.config
  ground_goes c n g x h = subst (λ t. StepStays base ground t) h (ground_step c g x)

  ground_asks : (c : Config) (ask : Ask) (answer : Answer) (k : Answer → Option Next) (n : Next) → GoodConfig c → Above base ground c → step program bound c ≡ Asks ask k → k answer ≡ Some n → Above base ground n.config
  ground_asks c ask answer k n g x h e = subst (λ o. AnswerStays base ground o) e ((subst (λ t. StepStays base ground t) h (ground_step c g x)) answer)

  pub ground_run : {c d : Config} {exchanges : List Exchange} {said : List Said} → GoodConfig c → Above base ground c → Reaches program bound c exchanges said d → Above base ground d
  ground_run g x stays = x
  ground_run g x (goes {c = c} {n = n} h r) = ground_run (goes_good program bound c n g h) (ground_goes c n g x h) r
  ground_run g x (asks {c = c} {ask = ask} {answer = answer} {next = next} {n = n} h k r) = ground_run (asks_good program bound c ask answer next n g h k) (ground_asks c ask answer next n g x h k) r

  -- where nothing is left to do, the levels are those at the ground
  pub ground_done : (c : Config) → Above base ground c → c.work ≡ [] → levels c.state ≡ base
  ground_done c (above [] faulted e u b) q = u
  ground_done c (above (item ∷ front) faulted e u b) q = absurd (some_work item (front ++ []) (sym e ∙ q))
    where
      some_work : (item : Item) (work : List Item) → (item ∷ work) ≡ [] → ⊥
      some_work item work e = cc

-- THE TOP LEVEL
abbrev nothing : Levels
nothing = record { depth = 0; scopes = 0; inhibited = false; lifted = false; kept = [] }

top_levels : (front : List Item) (l : Levels) → IsTop front → unwound front l ≡ l
top_levels [] l h = refl
top_levels (Top forms ∷ front) l h = refl
top_levels (Finish p ∷ front) l h = refl
top_levels (WriteDump ∷ front) l h = refl
top_levels (_ ∷ front) l h = absurd h

front_top : (work front : List Item) → work ≡ front ++ [] → IsTop work → IsTop front
front_top work [] e h = tt
front_top work (item ∷ front) e h = at_item item (subst (λ l. IsTop l) e h)
  where
    at_item : (item : Item) → IsTop (item ∷ (front ++ [])) → IsTop (item ∷ front)
    at_item (Top forms) h = tt
    at_item (Finish p) h = tt
    at_item WriteDump h = tt
    at_item _ h = absurd h

no_scopes : (xs : List Scope) → length xs ≡ 0 → xs ≡ []
no_scopes [] h = refl
no_scopes (x ∷ xs) h = cc

no_kept : (xs : List Saved) → shapes xs ≡ [] → xs ≡ []
no_kept [] h = refl
no_kept (x ∷ xs) h = cc

nothing_left : (s : State) → levels s ≡ nothing → NothingLeft s
nothing_left s h = record {
  depth = ap (λ (l : Levels). l.depth) h;
  scopes = no_scopes s.scopes (ap (λ (l : Levels). l.scopes) h);
  kept = no_kept s.editor.marks.saved (ap (λ (l : Levels). l.kept) h);
  inhibited = ap (λ (l : Levels). l.inhibited) h;
  lifted = ap (λ (l : Levels). l.lifted) h;
}

pub top_is_clear : (program : Program) (bound : ℕ) (script : Script) → TopIsClear program bound (start script)
top_is_clear program bound script exchanges said c r t = go (ground_run program bound nothing (start_good script) (above (Top script.forms ∷ []) false refl refl refl) r)
  where
    go : Above nothing ground c → NothingLeft c.state
    go (above front faulted e u b) = nothing_left c.state (sym (top_levels front (levels c.state) (front_top c.work front e t)) ∙ u)

-- CALLS AND HANDLERS
editor_good : (program : Program) (bound : ℕ) (script : Script) (before : List Exchange) (earlier : List Said) (s : State) (work : List Item) → Reaches program bound (start script) before earlier (record { state = s; work = work }) → GoodEditor s.editor
editor_good program bound script before earlier s work r = (reaches_good program bound (start script) (record { state = s; work = work }) before earlier (start_good script) r).editor

pub calls_bracket : (program : Program) (bound : ℕ) (script : Script) → CallsBracket program bound (start script)
calls_bracket program bound script before exchanges earlier said s t prim args target rest reply r calls =
    (go reply (calls Nowhere []), λ n. call_current program bound s t prim args reply exchanges said good (current_born program bound script (record { state = s; work = MakeCall prim args target ∷ rest }) before earlier r) n calls)
  where
    c : Config
    c = record { state = s; work = MakeCall prim args Nowhere ∷ [] }

    good : GoodConfig c
    good = record { editor = editor_good program bound script before earlier s (MakeCall prim args target ∷ rest) r; work = (tt, tt); stack = tt }

    go : (y : Reply) → Reaches program bound c exchanges said (given y Nowhere t []) → levels t ≡ levels s
    go (Answered v) k = ground_done program bound (levels s) (record { state = t; work = [] }) (ground_run program bound (levels s) good (above (MakeCall prim args Nowhere ∷ []) false refl refl (tt, tt)) k) refl
    go (Reply.Refused f) k = ground_done program bound (levels s) (record { state = t; work = [] }) (ground_run program bound (levels s) good (above (MakeCall prim args Nowhere ∷ []) false refl refl (tt, tt)) k) refl

pub handlers_bracket : (program : Program) (bound : ℕ) (script : Script) → HandlersBracket program bound (start script)
handlers_bracket program bound script before exchanges earlier said s t kind name args rest faulted r handles = (
  go kind faulted refl refl (ground_run program bound (levels s) good (above (Enter kind name args ∷ []) false refl refl tt) (handles [])),
  handler_current program bound s t kind name args faulted exchanges said good (current_born program bound script (record { state = s; work = Enter kind name args ∷ rest }) before earlier r) handles,
)
  where
    c : Config
    c = record { state = s; work = Enter kind name args ∷ [] }

    good : GoodConfig c
    good = record { editor = editor_good program bound script before earlier s (Enter kind name args ∷ rest) r; work = (tt, tt); stack = tt }

    done : (u : State) → Above (levels s) ground (record { state = u; work = [] }) → levels u ≡ levels t → levels t ≡ levels s
    done u x e = sym e ∙ ground_done program bound (levels s) (record { state = u; work = [] }) x refl

    go : (k : Kind) (x : Bool) → k ≡ kind → x ≡ faulted → Above (levels s) ground (ended_handler kind faulted t []) → levels t ≡ levels s
    go k x q p y = by_kind k x (subst (λ x. Above (levels s) ground (ended_handler k x t [])) (sym p) (subst (λ k. Above (levels s) ground (ended_handler k faulted t [])) (sym q) y))
      where
        by_kind : (k : Kind) (x : Bool) → Above (levels s) ground (ended_handler k x t []) → levels t ≡ levels s
        by_kind (OfFilter p) x y = done t y refl
        by_kind (OfSentinel p) x y = done _ y (change_levels p unlisted t)
        by_kind (OfBefore n) true y = done _ y (live_levels t n (set_hook_list n before_change_functions [] t) refl)
        by_kind (OfBefore n) false y = done t y refl
        by_kind (OfAfter n) true y = done _ y (live_levels t n (set_hook_list n after_change_functions [] t) refl)
        by_kind (OfAfter n) false y = done t y refl
