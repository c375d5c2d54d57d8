-- A run in which nothing is refused for want of depth is the same where more depth is allowed.
use Rattle.std.proofs.Common.{◌≡◌, ℕ, ◌≤◌, Bool, true, false, List, [], ◌∷◌, ◌++◌, refl, ap, sym, ◌∙◌, subst, arith}
use Rattle.std.proofs.lemmas.List.Folds.{list_any-append}
use Rattle.std.specs.Prelude.{Option, Some, None, ◌||◌, nat_lt, length}
use Rattle.std.specs.List.{list_any}
use Rattle.editor_model.specs.Values.{Value, Nesting, WrongType, ArgsOutOfRange, Fault, Prim, KillBuffer, DeleteProcess, AcceptProcessOutput}
use Rattle.editor_model.specs.Arguments.{arg, buffer_of, must_be_buffer_or_nil, buffer_there}
use Rattle.editor_model.specs.Answers.{Test, refuse, first_fault}
use Rattle.editor_model.specs.Prims.{OnlyAsks, SetsState, ChangesText, ConcernsHandlers, manner_of}
use Rattle.plain_machine.specs.Exchanges.{Exchange}
use Rattle.plain_machine.specs.State.{State, Program}
use Rattle.plain_machine.specs.Items.{Item, MakeCall, Refuse, Target, Said, Config, Next, Step, Goes, Asks, Ended}
use Rattle.plain_machine.specs.Arguments.{process_of, is_running, running_in}
use Rattle.plain_machine.specs.Refusals.{process_tests, must_nest, only_where, must_be_process, must_be_process_or_nil, must_be_replaceable, process_there, is_rounds, rounds_of, most_rounds}
use Rattle.plain_machine.specs.Calls.{on, unless, call, process_effect, call_by, unless_fault}
use Rattle.plain_machine.specs.Step.{step, item_step}
use Rattle.plain_machine.specs.Run.{Reaches, stays, goes, asks}
use Rattle.machine_laws.specs.Nesting.{is_nesting, IsNesting, SameDeeper}

-- two lists of tests, of which the first may refuse for want of depth
data Alike (t u : Option Fault) : Type 0 where
  same : t ≡ u → Alike t u
  nesting : t ≡ Some Nesting → Alike t u

last_alike : (front : List Test) (t u : Test) → Alike t u → Alike (first_fault (front ++ t ∷ [])) (first_fault (front ++ u ∷ []))
last_alike [] t u (same e) = same (ap (λ t. first_fault (t ∷ [])) e)
last_alike [] t u (nesting e) = nesting (ap (λ t. first_fault (t ∷ [])) e)
last_alike (None ∷ front) t u a = last_alike front t u a
last_alike (Some f ∷ front) t u a = same refl

less_deep : (d b c : ℕ) → b ≤ c → nat_lt d b ≡ true → nat_lt d c ≡ true
less_deep d b c h e = grind arith

module _ (program : Program) (bound deeper : ℕ) (more : bound ≤ deeper) where
  nest_alike : (s : State) → Alike (must_nest bound s) (must_nest deeper s)
  nest_alike s = go (nat_lt s.depth bound) refl
    where
      go : (b : Bool) → nat_lt s.depth bound ≡ b → Alike (must_nest bound s) (must_nest deeper s)
      go true e = same (ap (refuse Nesting) (e ∙ sym (less_deep s.depth bound deeper more e)))
      go false e = nesting (ap (refuse Nesting) e)

  only_alike : (w : Bool) (s : State) → Alike (only_where w (must_nest bound s)) (only_where w (must_nest deeper s))
  only_alike true s = nest_alike s
  only_alike false s = same refl

  tests_alike : (s : State) (prim : Prim) (args : List Value) → Alike (first_fault (process_tests program bound s prim args)) (first_fault (process_tests program deeper s prim args))
  tests_alike s KillBuffer args =
      let b : ℕ = buffer_of s.editor (arg args 0) in
      last_alike (must_be_buffer_or_nil (arg args 0) ∷ buffer_there s.editor (arg args 0) ∷ must_be_replaceable s.editor b ∷ []) _ _ (only_alike (nat_lt 0 (length (running_in s b))) s)
  tests_alike s DeleteProcess args = last_alike (must_be_process (arg args 0) ∷ process_there s (arg args 0) ∷ []) _ _ (only_alike (is_running s (process_of s (arg args 0))) s)
  tests_alike s AcceptProcessOutput args =
      last_alike (must_be_process_or_nil (arg args 0) ∷ refuse WrongType (is_rounds (arg args 1)) ∷ process_there s (arg args 0) ∷ refuse ArgsOutOfRange (Rattle.std.specs.Prelude.◌&&◌ (Rattle.std.specs.Prelude.nat_le 1 (rounds_of (arg args 1))) (Rattle.std.specs.Prelude.nat_le (rounds_of (arg args 1)) most_rounds)) ∷ []) _ _ (nest_alike s)
  tests_alike s prim args = same refl

  -- two steps, of which the first may lead to such a refusal
  data Beside (c : Config) (t u : Step) : Type 0 where
    equal : t ≡ u → Beside c t u
    refused : (s : State) (rest : List Item) → t ≡ on s (Refuse Nesting ∷ rest) → Beside c t u

  unless_beside : (c : Config) (s : State) (rest : List Item) (step : Step) (first second : List Test) → Alike (first_fault first) (first_fault second) → Beside c (unless first s rest step) (unless second s rest step)
  unless_beside c s rest step first second (same e) = equal (ap (λ (o : Option Fault). unless_fault o s rest step) e)
  unless_beside c s rest step first second (nesting e) = refused s rest (ap (λ (o : Option Fault). unless_fault o s rest step) e)

  call_beside : (c : Config) (s : State) (target : Target) (rest : List Item) (prim : Prim) (args : List Value) → Beside c (call program bound s target rest prim args) (call program deeper s target rest prim args)
  call_beside c s target rest prim args =
      (elim (manner_of prim) as (λ m. Beside c
      (call_by m program bound s target rest prim args)
      (call_by m program deeper s target rest prim args)) [
        | OnlyAsks ↦ equal refl
        | SetsState ↦ equal refl
        | ChangesText ↦ equal refl
        | ConcernsHandlers ↦ unless_beside c s rest (process_effect s target rest prim args) (process_tests program bound s prim args) (process_tests program deeper s prim args) (tests_alike s prim args)
      ])

  step_beside : (c : Config) → Beside c (step program bound c) (step program deeper c)
  step_beside c = go c.work
    where
      go : (work : List Item) → Beside c (elim work [ [] ↦ Ended | item ∷ rest ↦ item_step program bound c.state rest item ]) (elim work [ [] ↦ Ended | item ∷ rest ↦ item_step program deeper c.state rest item ])
      go [] = equal refl
      go (MakeCall prim args target ∷ rest) = call_beside c c.state target rest prim args
      go (item ∷ rest) = equal refl

  -- behind such a refusal comes its line
  told : (s : State) (rest : List Item) (exchanges : List Exchange) (said : List Said) (c d : Config) → d ≡ record { state = s; work = Refuse Nesting ∷ rest } → Reaches program bound d exchanges said c →
      list_any (λ x. is_nesting x.event) said ≡ false → (IsNesting c → ⊥) → ⊥
  told s rest exchanges said c d e stays n h = h (rest, ap (λ (c : Config). c.work) e)
  told s rest exchanges said c d e (goes {n = x} {said = later} k r) n h =
      let m : step program bound (record { state = s; work = Refuse Nesting ∷ rest }) ≡ Goes x = ap (λ c. step program bound c) (sym e) ∙ k in
      let q : (Rattle.plain_machine.specs.Forms.refused program s Nesting rest) ≡ x = cc in
      let o : list_any (λ x. is_nesting x.event) (x.said ++ later) ≡ true = subst (λ (x : Next). list_any (λ x. is_nesting x.event) (x.said ++ later) ≡ true) q refl in
      let p : true ≡ false = sym o ∙ n in cc
  told s rest exchanges said c d e (asks {ask = ask} {next = next} k i r) n h =
      let m : step program bound (record { state = s; work = Refuse Nesting ∷ rest }) ≡ Asks ask next = ap (λ c. step program bound c) (sym e) ∙ k in cc

  quiet_parts : (a b : List Said) → list_any (λ x. is_nesting x.event) (a ++ b) ≡ false → list_any (λ x. is_nesting x.event) b ≡ false
  quiet_parts a b h = go (list_any (λ x. is_nesting x.event) a) (sym (list_any-append (λ x. is_nesting x.event) a b) ∙ h)
    where
      go : (v : Bool) → (v || list_any (λ x. is_nesting x.event) b) ≡ false → list_any (λ x. is_nesting x.event) b ≡ false
      go true e = cc
      go false e = e

  deeper_run : {from c : Config} {exchanges : List Exchange} {said : List Said} → Reaches program bound from exchanges said c → list_any (λ x. is_nesting x.event) said ≡ false → (IsNesting c → ⊥) → Reaches program deeper from exchanges said c
  deeper_run stays n h = stays
  deeper_run {c = e} (goes {c = c} {n = x} {exchanges = exchanges} {said = said} k r) n h = go (step_beside c) (deeper_run r (quiet_parts x.said said n) h)
    where
      go : Beside c (step program bound c) (step program deeper c) → Reaches program deeper x.config exchanges said e → Reaches program deeper c exchanges (x.said ++ said) e
      go (equal q) t = goes (sym q ∙ k) t
      go (refused s rest q) t =
          let m : on s (Refuse Nesting ∷ rest) ≡ Goes x = sym q ∙ k in
          let p : x ≡ record { said = []; config = record { state = s; work = Refuse Nesting ∷ rest } } = cc in
          absurd (told s rest exchanges said e x.config (ap (λ (x : Next). x.config) p) r (quiet_parts x.said said n) h)
  deeper_run {c = e} (asks {c = c} {ask = ask} {answer = answer} {next = next} {n = x} {exchanges = exchanges} {said = said} k i r) n h = go (step_beside c) (deeper_run r (quiet_parts x.said said n) h)
    where
      go : Beside c (step program bound c) (step program deeper c) → Reaches program deeper x.config exchanges said e → Reaches program deeper c (record { ask = ask; answer = answer } ∷ exchanges) (x.said ++ said) e
      go (equal q) t = asks (sym q ∙ k) i t
      go (refused s rest q) t = let m : on s (Refuse Nesting ∷ rest) ≡ Asks ask next = sym q ∙ k in cc

pub same_deeper : (program : Program) (bound deeper : ℕ) (from : Config) → SameDeeper program bound deeper from
same_deeper program bound deeper from exchanges said c more r n h = deeper_run program bound deeper more r n h
