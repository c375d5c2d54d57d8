-- How far a run comes on a journal, step by step, and the verdict where it stops.
use Rattle.std.proofs.Common.{◌≡◌, ℕ, zero, suc, ◌+◌, ◌-◌, ◌<◌, ◌≤◌, Bool, true, false, List, [], ◌∷◌, ◌++◌, length, take, inl, inr, refl, sym, ap, subst, ◌∙◌, arith, append-nil}
use Rattle.std.specs.Prelude.{◌⊎◌, Option, Some, None, Ok, ◌==◌, nat_le, slice_get}
use Rattle.std.proofs.lemmas.Bool.{eq-eqb, leb-true, leb-false}
use Rattle.std.proofs.lemmas.List.{take_all}
use Rattle.text_model.specs.Properties.{same_list}
use Rattle.text_model.proofs.Sameness.{same_list-same}
use Rattle.plain_machine.specs.Exchanges.{Ask, Spawn, Read, AskEnd, Send, Close, Kill, Answer, Exchange}
use Rattle.plain_machine.specs.State.{State, Program, new_state}
use Rattle.plain_machine.specs.Items.{Item, Said, Config, Next, Goes, Asks, Ended}
use Rattle.plain_machine.specs.Step.{step}
use Rattle.editor_model.specs.Values.{Script}
use Rattle.plain_machine.specs.Run.{Reaches, stays, goes, asks, start, lines, same_ask, same_bytes}
use Rattle.plain_machine.proofs.Composed.{reaches_then}
use Rattle.machine_laws.specs.OneRun.{GoesOn}
use Rattle.machine_laws.proofs.OneRun.{one_run}
use Rattle.kernel_steps.specs.Outside.{deepest, IsStep}
use Rattle.kernel_steps.specs.Work.{working}
use Rattle.kernel_steps.specs.Worlds.{Stands}
use Rattle.kernel_steps.proofs.Journeys.{lines_then}
use Rattle.trace_check.specs.Comparing.{Compared, comparing_state, DiffersAt}
use Rattle.trace_check.specs.Steps.{IsAsking, IsOff}
use Rattle.trace_check.specs.Turns.{Seen, Turns, Uses as UsesMade}
use Rattle.trace_check.specs.Runs.{IsWhole, GoesThrough}
use Rattle.trace_check.specs.Verdicts.{HasCome, IsVerdict}
use Rattle.trace_check.specs.declared.checking.Verdict.TheVariants as verdict
use Rattle.trace_check.proofs.Agreeing.{Kept, kept}
use Rattle.trace_check.specs.declared.turn.Turn.TheVariants as turn

-- FRONTS OF A JOURNAL
take_one : (xs : List Exchange) (i : ℕ) (x : Exchange) → slice_get xs i ≡ Some x → (i < length xs) × (take (suc i) xs ≡ take i xs ++ x ∷ [])
take_one [] i x h = absurd (let e : None ≡ Some x = h in cc)
take_one (y ∷ xs) zero x h = let same : y ≡ x = (let e : Some y ≡ Some x = h in cc) in (omega arith, ap (λ z. z ∷ []) same)
take_one (y ∷ xs) (suc i) x h = let (within, is) = take_one xs i x h in (omega (arith, within), ap (λ l. y ∷ l) is)

-- a longer front goes on with the next exchange
pub record Longer (xs : List Exchange) (i j : ℕ) : Type 0 where
  pub next : Exchange
  pub others : List Exchange
  pub there : slice_get xs i ≡ Some next
  pub is : take j xs ≡ take i xs ++ next ∷ others

longer : (xs : List Exchange) (i j : ℕ) → i < j → j ≤ length xs → Longer xs i j
longer [] i j less within = absurd (omega (arith, less, within))
longer (x ∷ xs) i zero less within = absurd (omega (arith, less))
longer (x ∷ xs) zero (suc j) less within = record { next = x; others = take j xs; there = refl; is = refl }
longer (x ∷ xs) (suc i) (suc j) less within =
    let more = longer xs i j (omega (arith, less)) (omega (arith, within)) in
    record { next = more.next; others = more.others; there = more.there; is = ap (λ l. x ∷ l) more.is }

take_made : (journal : List Exchange) (old new : ℕ) (made : List Exchange) → UsesMade journal old new made → old ≤ length journal → (new ≤ length journal) × (take new journal ≡ take old journal ++ made)
take_made journal old new [] uses within = (omega (arith, uses, within), ap (λ n. take n journal) uses ∙ sym (append-nil (take old journal)))
take_made journal old new (x ∷ []) uses within =
    let (there, one) = uses in
    let (less, is) = take_one journal old x there in
    let next : new ≡ suc old = omega (arith, one) in
    (omega (arith, less, one), ap (λ n. take n journal) next ∙ is)
take_made journal old new (x ∷ y ∷ more) uses within = absurd uses

-- STEPS
module _ (program : Program) where
  run_of_step : (c : Config) (made : List Exchange) (n : Next) → IsStep program c made n → Reaches program deepest c made (n.said ++ []) n.config
  run_of_step c [] n h = goes h stays
  run_of_step c (x ∷ []) n h = let (next, asked, on) = h in asks asked on stays
  run_of_step c (x ∷ y ∷ more) n h = absurd h

  ended_first : {c d : Config} {all : List Exchange} {said : List Said} → Reaches program deepest c all said d → step program deepest c ≡ Ended → (y : Exchange) (others : List Exchange) → all ≡ y ∷ others → ⊥
  ended_first stays e y others is = let never : [] ≡ y ∷ others = is in cc
  ended_first (goes {n = n} h r) e y others is = let never : Goes n ≡ Ended = sym h ∙ e in cc
  ended_first (asks {ask = ask} {next = next} h k r) e y others is = let never : Asks ask next ≡ Ended = sym h ∙ e in cc

  -- a run that goes on where the machine asks has the exchange
  asked_first : {c d : Config} {all : List Exchange} {said : List Said} {ask : Ask} {next : Answer → Option Next} → Reaches program deepest c all said d → step program deepest c ≡ Asks ask next →
      (y : Exchange) (others : List Exchange) → all ≡ y ∷ others → (ask ≡ y.ask) × ((n : Next) × (next y.answer ≡ Some n))
  asked_first stays e y others is = absurd (let never : [] ≡ y ∷ others = is in cc)
  asked_first {ask = ask} {next = next} (goes {n = n} h r) e y others is = absurd (let never : Goes n ≡ Asks ask next = sym h ∙ e in cc)
  asked_first {ask = ask} {next = next} (asks {ask = ask'} {answer = answer} {next = next'} {n = n} {exchanges = exchanges} h k r) e y others is =
      let both : Asks ask' next' ≡ Asks ask next = sym h ∙ e in
      let same_ask : ask' ≡ ask = cc in
      let same_next : next' ≡ next = cc in
      let made : Exchange = record { ask = ask'; answer = answer } in
      let head : made ≡ y = (let all : made ∷ exchanges ≡ y ∷ others = is in cc) in
      (sym same_ask ∙ ap (λ (x : Exchange). x.ask) head, (n, sym (λ i. same_next i ((ap (λ (x : Exchange). x.answer) head) i)) ∙ k))

  -- without an exchange no run goes on from there, and it hasn't ended
  asked_last : {c d : Config} {all : List Exchange} {said : List Said} {ask : Ask} {next : Answer → Option Next} → Reaches program deepest c all said d → step program deepest c ≡ Asks ask next → all ≡ [] → step program deepest d ≡ Ended → ⊥
  asked_last {ask = ask} {next = next} stays e none over = let never : Asks ask next ≡ Ended = sym e ∙ over in cc
  asked_last {ask = ask} {next = next} (goes {n = n} h r) e none over = let never : Goes n ≡ Asks ask next = sym h ∙ e in cc
  asked_last (asks {ask = ask'} {answer = answer} {exchanges = exchanges} h k r) e none over =
      let made : Exchange = record { ask = ask'; answer = answer } in
      let never : made ∷ exchanges ≡ [] = none in cc

  ended_is_last : {c d : Config} {all : List Exchange} {said : List Said} {ask : Ask} {next : Answer → Option Next} → Reaches program deepest c all said d → step program deepest c ≡ Ended → step program deepest d ≡ Asks ask next → ⊥
  ended_is_last {ask = ask} {next = next} stays over e = let never : Asks ask next ≡ Ended = sym e ∙ over in cc
  ended_is_last (goes {n = n} h r) over e = let never : Goes n ≡ Ended = sym h ∙ over in cc
  ended_is_last (asks {ask = ask} {next = next} h k r) over e = let never : Asks ask next ≡ Ended = sym h ∙ over in cc

-- THE RUN
-- an ask is the same as itself
bytes_same : (xs : List ℕ) → same_bytes xs xs ≡ true
bytes_same xs = same_list-same (λ x y. x == y) (λ n. eq-eqb n n refl) xs

ask_same : (ask : Ask) → same_ask ask ask ≡ true
ask_same (Spawn program args) = rw (bytes_same program, same_list-same same_bytes bytes_same args) refl
ask_same (Read child) = eq-eqb child child refl
ask_same (AskEnd child) = eq-eqb child child refl
ask_same (Send child bytes) = rw (eq-eqb child child refl, bytes_same bytes) refl
ask_same (Close child) = eq-eqb child child refl
ask_same (Kill child) = eq-eqb child child refl

module _ (program : Program) (from : Config) (journal : List Exchange) where
  pub begins : (known : State) (work : List Item) (used : ℕ) (written : List ℕ) → from ≡ working new_state work → known ≡ new_state → used ≡ 0 → written ≡ [] → HasCome program from journal (record { state = known; work = work; used = used }) written
  begins known work used written is fresh unused nothing = record {
    state = new_state;
    stands = fresh;
    said = [];
    within = omega (arith, unused);
    run = subst (λ n. Reaches program deepest from (take n journal) [] (working new_state work)) (sym unused) (subst (λ d. Reaches program deepest from [] [] d) is stays);
    bytes = nothing;
  }

  -- one step more
  pub goes_on : (old new : Seen) (sink sink2 : Compared) → Turns (Ok turn.Went) program journal old new (comparing_state sink) (comparing_state sink2) →
      HasCome program from journal old sink.given → HasCome program from journal new sink2.given × (sink2.claimed ≡ sink.claimed)
  goes_on old new sink sink2 turned come =
      let (made, uses, steps) = turned in
      let moves = steps come.state come.stands in
      let front = take_made journal old.used new.used made uses come.within in
      let one : Reaches program deepest (working come.state old.work) made moves.next.said moves.next.config = rw append-nil at (run_of_step program (working come.state old.work) made moves.next moves.steps) in
      let all = reaches_then program deepest from (working come.state old.work) moves.next.config (take old.used journal) made come.said moves.next.said come.run one in
      let more : Kept sink sink2 (lines moves.next.said) = kept sink sink2 (lines moves.next.said) moves.written in (
        record {
          state = moves.next.config.state;
          stands = moves.stands;
          said = come.said ++ moves.next.said;
          within = front.0;
          run =
              subst (λ l. Reaches program deepest from l (come.said ++ moves.next.said) (working moves.next.config.state new.work)) (sym front.1)
              (subst (λ w. Reaches program deepest from (take old.used journal ++ made) (come.said ++ moves.next.said) (working moves.next.config.state w)) moves.left_is all);
          bytes = more.given ∙ ap (λ l. l ++ lines moves.next.said) come.bytes ∙ sym (lines_then come.said moves.next.said);
        },
        more.claimed,
      )

-- WHERE IT STOPS
module _ (program : Program) (script : Script) (journal : List Exchange) where
  module _ (now : Seen) (given : List ℕ) (come : HasCome program (start script) journal now given) where
    abbrev there : Config
    there = working come.state now.work

    -- no run goes on from there by the next exchange
    abbrev Stuck : Type 0
    Stuck = (y : Exchange) (others : List Exchange) (further : List Said) (d : Config) → slice_get journal now.used ≡ Some y → Reaches program deepest there (y ∷ others) further d → ⊥

    no_more : Stuck → (k : ℕ) → k ≤ length journal → GoesThrough program script (take k journal) → k ≤ now.used
    no_more stuck k within way = by (nat_le k now.used) refl
      where
        past : Longer journal now.used k → ⊥
        past more = side (one_run program deepest (start script) (take now.used journal) (more.next ∷ more.others) come.said way.said there way.last come.run (subst (λ l. Reaches program deepest (start script) l way.said way.last) more.is way.run))
          where
            side : GoesOn program deepest come.said way.said there way.last (more.next ∷ more.others) ⊎ ((more.next ∷ more.others ≡ []) × GoesOn program deepest way.said come.said way.last there []) → ⊥
            side (inl on) = stuck more.next more.others on.further way.last more.there on.way
            side (inr (none, on)) = let never : more.next ∷ more.others ≡ [] = none in cc

        by : (b : Bool) → nat_le k now.used ≡ b → k ≤ now.used
        by true e = leb-true k now.used e
        by false e = absurd (past (longer journal now.used k (leb-false k now.used e) within))

    abbrev goes_now : GoesThrough program script (take now.used journal)
    goes_now = record { said = come.said; last = there; run = come.run }

    all_of : IsWhole program script journal → GoesThrough program script (take (length journal) journal)
    all_of whole = record {
      said = whole.ran.said;
      last = whole.ran.last;
      run = subst (λ l. Reaches program deepest (start script) l whole.ran.said whole.ran.last) (sym (take_all (length journal) journal (omega arith))) whole.ran.run;
    }

    -- with exchanges left
    pub strays : (claimed : List ℕ) → Stuck → now.used < length journal → IsVerdict program script journal claimed (verdict.Strayed now.used)
    strays claimed stuck left = record {
      unended = λ whole. let most : length journal ≤ now.used = no_more stuck (length journal) (omega arith) (all_of whole) in omega (arith, left, most);
      within = come.within;
      goes = goes_now;
      no_more = no_more stuck;
    }

    -- the journal is used up, and the machine asks
    pub waits : (claimed : List ℕ) → length journal ≤ now.used → ((s : State) → Stands now.state s → IsAsking program s now.work) → IsVerdict program script journal claimed (verdict.Strayed now.used)
    waits claimed over asking = record {
      unended = λ whole. unended whole (asking come.state come.stands);
      within = come.within;
      goes = goes_now;
      no_more = λ k within way. omega (arith, over, within);
    }
      where
        unended : IsWhole program script journal → IsAsking program come.state now.work → ⊥
        unended whole (ask, next, is) =
            side (one_run program deepest (start script) (take now.used journal) [] come.said whole.ran.said there whole.ran.last come.run
            (subst (λ l. Reaches program deepest (start script) l whole.ran.said whole.ran.last) (sym (append-nil (take now.used journal) ∙ take_all now.used journal over)) whole.ran.run))
          where
            side : GoesOn program deepest come.said whole.ran.said there whole.ran.last [] ⊎ (◌≡◌ {A = List Exchange} [] [] × GoesOn program deepest whole.ran.said come.said whole.ran.last there []) → ⊥
            side (inl on) = asked_last program on.way is refl whole.ran.ended
            side (inr (none, on)) = ended_is_last program on.way whole.ran.ended is

    -- the next exchange isn't the one that the machine makes
    pub is_off : (claimed : List ℕ) (x : Exchange) → slice_get journal now.used ≡ Some x → ((s : State) → Stands now.state s → IsOff program s now.work x) → IsVerdict program script journal claimed (verdict.Strayed now.used)
    is_off claimed x is off = strays claimed (stuck (off come.state come.stands)) (take_one journal now.used x is).0
      where
        stuck : IsOff program come.state now.work x → Stuck
        stuck (ask, next, asked, how) y others further d found run =
            let same : y ≡ x = (let e : Some y ≡ Some x = sym found ∙ is in cc) in
            side how (asked_first program run asked y others refl) same
          where
            side : (same_ask ask x.ask ≡ false) ⊎ (next x.answer ≡ None) → (ask ≡ y.ask) × ((n : Next) × (next y.answer ≡ Some n)) → y ≡ x → ⊥
            side (inl other) (one, on) same =
                let agrees : same_ask ask x.ask ≡ true = ap (same_ask ask) (sym (one ∙ ap (λ (z : Exchange). z.ask) same)) ∙ ask_same ask in
                let never : true ≡ false = sym agrees ∙ other in cc
            side (inr none) (one, (n, on)) same =
                let never : Some n ≡ None = sym on ∙ ap (λ (z : Exchange). next z.answer) same ∙ none in cc

    -- THE RUN HAS ENDED
    module _ (over : now.work ≡ []) where
      has_ended : step program deepest there ≡ Ended
      has_ended = ap (λ w. step program deepest (working come.state w)) over

      pub ended_early : (claimed : List ℕ) → now.used < length journal → IsVerdict program script journal claimed (verdict.Strayed now.used)
      ended_early claimed left = strays claimed (λ y others further d found run. ended_first program run has_ended y others refl) left

      module _ (used_up : length journal ≤ now.used) where
        abbrev whole : IsWhole program script journal
        whole = record {
          lines = given;
          ran = record {
            said = come.said;
            last = there;
            run = subst (λ l. Reaches program deepest (start script) l come.said there) (take_all now.used journal used_up) come.run;
            ended = has_ended;
            bytes = come.bytes;
          };
        }

        pub are_claimed : (claimed : List ℕ) → claimed ≡ given → IsVerdict program script journal claimed verdict.Yes
        are_claimed claimed same = record { whole = whole; same = same }

        pub differ : (claimed : List ℕ) (line : ℕ) → DiffersAt line claimed given → IsVerdict program script journal claimed (verdict.Differs line)
        differ claimed line differs = record { whole = whole; first = differs }
