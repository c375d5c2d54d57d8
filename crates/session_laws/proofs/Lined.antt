-- What the state of a run says of the lines of its exchanges, as long as nothing was killed.
use Rattle.std.proofs.Common.{◌≡◌, ℕ, suc, Bool, true, false, ◌&&◌, ◌||◌, not, List, [], ◌∷◌, ◌++◌, map, refl, sym, ap, ap₂, ◌∙◌, subst}
use Rattle.std.proofs.lemmas.List.Folds.{list_any-append}
use Rattle.std.specs.Prelude.{Some, flat_map, slice_get, if◌then◌else◌}
use Rattle.std.specs.List.{list_any}
use Rattle.text_model.specs.Characters.{Ch, Scalar}
use Rattle.text_model.specs.Codings.{Utf8, decoded, all_decoded}
use Rattle.editor_model.specs.Values.{Script}
use Rattle.plain_machine.specs.Exchanges.{Ask, AskEnd, Kill, Answer, Code, Signal, Failed, Exchange, goes_by, gone, children_started}
use Rattle.plain_machine.specs.State.{Process, Program, read_so_far}
use Rattle.plain_machine.specs.Arguments.{runs}
use Rattle.plain_machine.specs.Items.{Said, Config}
use Rattle.plain_machine.specs.Run.{Reaches, start}
use Rattle.machine_laws.specs.Entries.{heard}
use Rattle.machine_laws.specs.Children.{is_kill}
use Rattle.machine_laws.proofs.Keeping.{core, cores}
use Rattle.machine_laws.proofs.Moves.{Working, phase, coming}
use Rattle.machine_laws.proofs.Steps.{get_cores}
use Rattle.machine_laws.proofs.Traced.{HoldsAt}
use Rattle.machine_laws.proofs.Alive.{Alive, Lives, cores_children, not_below}
use Rattle.machine_laws.proofs.Killing.{killed_fairly}
use Rattle.machine_laws.proofs.Basics.{or_nil}
use Rattle.line_session.specs.Lines.{tells_end, has_ended, is_open, closed, session_lines}

-- OF ONE PROCESS
abbrev pub heard_by : Process → List Ch
heard_by x = if x.drained then all_decoded Utf8 (read_so_far x) else decoded Utf8 (read_so_far x)

abbrev pub feed_behind : (ended : Bool) → List Ch → List Ch
feed_behind ended text = if ended && is_open text then Scalar 10 ∷ [] else []

abbrev pub closed_by : Process → List Ch
closed_by x = heard_by x ++ feed_behind (not (runs x.status)) (heard_by x)

abbrev pub lines_by : List Process → List Ch
lines_by list = flat_map closed_by list

-- NO KILLS
abbrev pub NoKills : List Exchange → Type 0
NoKills exchanges = list_any (λ x. is_kill x.ask) exchanges ≡ false

or_none : (a b : Bool) → (a || b) ≡ false → (a ≡ false) × (b ≡ false)
or_none true b h = absurd (let k = h in cc)
or_none false b h = (refl, h)

pub no_kills_more : (exchanges : List Exchange) (x : Exchange) → NoKills exchanges → is_kill x.ask ≡ false → NoKills (exchanges ++ x ∷ [])
no_kills_more exchanges x h k = list_any-append (λ x. is_kill x.ask) exchanges (x ∷ []) ∙ ap₂ (λ a b. a || (b || false)) h k

ended_one : (child : ℕ) (ask : Ask) (answer : Answer) → is_kill ask ≡ false → tells_end child ask answer ≡ goes_by child ask answer
ended_one child (AskEnd c) (Code n) h = refl
ended_one child (AskEnd c) Signal h = refl
ended_one child (AskEnd c) Failed h = refl
ended_one child (AskEnd c) _ h = refl
ended_one child (Kill c) answer h = absurd (let k = h in cc)
ended_one child _ answer h = refl

ended_gone : (child : ℕ) (exchanges : List Exchange) → NoKills exchanges → has_ended child exchanges ≡ gone child exchanges
ended_gone child [] h = refl
ended_gone child (x ∷ exchanges) h =
    let k = or_none (is_kill x.ask) (list_any (λ x. is_kill x.ask) exchanges) h in
    ap₂ (λ a b. a || b) (ended_one child x.ask x.answer k.0) (ended_gone child exchanges k.1)

-- THE LINES
each_line : (exchanges : List Exchange) (list : List Process) → ((p : ℕ) (x : Process) → slice_get list p ≡ Some x → closed x.child exchanges ≡ closed_by x) →
    flat_map (λ child. closed child exchanges) (map (λ x. x.child) list) ≡ lines_by list
each_line exchanges [] h = refl
each_line exchanges (x ∷ list) h = ap₂ (λ a b. a ++ b) (h 0 x refl) (each_line exchanges list (λ p y e. h (suc p) y e))

module _ (program : Program) (bound : ℕ) (script : Script) (exchanges : List Exchange) (said : List Said) (c : Config) (way : Reaches program bound (start script) exchanges said c) where
  lives : Lives exchanges said c
  lives = (killed_fairly program bound script exchanges said c way).0

  -- children are those of the processes, in their order
  pub children_are : children_started exchanges ≡ map (λ x. x.child) c.state.processes
  children_are = lives.1.children ∙ cores_children c.state.processes

  one_line : NoKills exchanges → phase c.work ≡ Working → (p : ℕ) (x : Process) → slice_get c.state.processes p ≡ Some x → closed x.child exchanges ≡ closed_by x
  one_line none works p x g =
      let h : HoldsAt exchanges said (coming c.work) p (core x) = lives.0.0.each p (core x) (get_cores c.state.processes p x g) in
      let a : Alive exchanges (cores c.state) Working = subst (λ g. Alive exchanges (cores c.state) g) works lives.1 in
      let same : heard_by x ≡ heard Utf8 x.child exchanges = λ i. if h.drained i then all_decoded Utf8 (h.bytes i) else decoded Utf8 (h.bytes i) in
      let ended : has_ended x.child exchanges ≡ not (runs x.status) =
      ended_gone x.child exchanges none ∙ a.dead p (core x) (get_cores c.state.processes p x g) ∙ ap (λ b. not (runs x.status) || b) (not_below p) ∙ or_nil (not (runs x.status)) in
      ap₂ (λ t b. t ++ feed_behind b t) (sym same) ended

  -- the lines are told by the processes
  pub lines_are : NoKills exchanges → phase c.work ≡ Working → session_lines exchanges ≡ lines_by c.state.processes
  lines_are none works = ap (λ children. flat_map (λ child. closed child exchanges) children) children_are ∙ each_line exchanges c.state.processes (one_line none works)
