-- One child more is dealt with at the end of a run.
use Rattle.std.proofs.Common.{◌≡◌, ℕ, ◌+◌, Bool, true, false, List, [], ◌∷◌, length, drop, slice_get, refl, ap, sym, ◌∙◌, subst, Ok, Err, Result, arith}
use Rattle.std.specs.Prelude.{Some, None}
use Rattle.std.proofs.lemmas.Option.{slice_get_past}
use Rattle.std.proofs.lemmas.List.{length-map, drop_all}
use Rattle.editor_model.specs.Values.{NoForms}
use Rattle.machine_laws.specs.Children.{to_kill, running_children}
use Rattle.plain_machine.specs.Exchanges.{Kill, rising}
use Rattle.plain_machine.specs.State.{State, Process, Program}
use Rattle.plain_machine.specs.Arguments.{runs}
use Rattle.plain_machine.specs.Items.{Item, Top, Body, DoForm, MakeCall, Leave, GiveAnswer, Refuse, MakeChange, Hooks, Calm, CommitChange, Enter, Native, Called, Exit, Wait, Delete, KillBuffer, Finish, WriteDump, Said, Config, Ended}
use Rattle.plain_machine.specs.Forms.{says as machine_says}
use Rattle.plain_machine.specs.Waits.{finish_one}
use Rattle.plain_machine.specs.Step.{step}
use Rattle.plain_machine.specs.Run.{goes, stays}
use Rattle.plain_machine.specs.Lines.{line, KilledLast, Dumped}
use Rattle.process_table.specs.Table.{kept}
use Rattle.host_link.specs.Hosts.{kill_answer}
use Rattle.host_link.specs.declared.host.KillAnswer.{KillAnswer}
use Rattle.ek_types.specs.Io.{SinkState, Writes, HasCause}
use Rattle.kernel_steps.specs.Outside.{deepest, Past, outside, Goes}
use Rattle.kernel_steps.specs.Worlds.{World, Stands, Hosted, children, running}
use Rattle.kernel_steps.specs.Work.{working, IsBeforeTheEnd, GoesTo, Comes, lifted}
use Rattle.kernel_steps.specs.Ending.{CameSoFar, DealsWith, IsAtEnd, IsOver, Halts}
use Rattle.kernel_steps.specs.declared.stop.Stop.{Stop}
use Rattle.kernel_steps.specs.declared.stop.Stop.TheVariants as stop
use Rattle.kernel_steps.proofs.Journeys.{AddsOne, goes_silently, goes_then, goes_breaks, says, says_front, asked_says, asked_front}
use Rattle.kernel_steps.proofs.KeptStates.{kill_kept, dump_kept}
use Rattle.kernel_steps.proofs.Works.{cause_then}
use Rattle.kernel_steps.proofs.Finishing.{sorted_children, halts_as, halts_of, halts_kill, left_skip, left_kill, left_behind, skips, kills_it, killing, kill_said, finishing, answered_kill}

-- the line that the program writes is the machine's
kill_line : (symbols : List (List ℕ)) (known s : State) (p : ℕ) → Stands known s → line symbols known (KilledLast p) ≡ line symbols s (KilledLast p)
kill_line symbols known s p stands = ap (λ (t : State). line symbols t (KilledLast p)) stands ∙ kill_kept symbols s p

dump_line : (symbols : List (List ℕ)) (known s : State) → Stands known s → line symbols known Dumped ≡ line symbols s Dumped
dump_line symbols known s stands = ap (λ (t : State). line symbols t Dumped) stands ∙ dump_kept symbols s

module _ (program : Program) (before : World) (from : Config) (now : World) (p : ℕ) (x : Process) (made : slice_get now.state.processes p ≡ Some x) where
  deals_skip : {T : Type 0} (so_far : Result T Stop) → runs x.status ≡ false → DealsWith so_far program p before now from → DealsWith so_far program (p + 1) before now from
  deals_skip (Ok t) e h = record {
    state = h.state;
    stands = h.stands;
    goes = goes_then program before.outside now.outside now.outside from (finishing h.state p) (finishing h.state (p + 1)) h.goes (goes_silently program now.outside (finishing h.state p) (finishing h.state (p + 1)) (skips program now.state h.state h.stands p x made e));
  }
  deals_skip (Err why) e h = halts_as program before.outside now.outside from _ _ (left_skip now.state.processes p x made e) h

  pub skipped : {T : Type 0} (so_far : Result T Stop) → runs x.status ≡ false → IsAtEnd so_far program p before now from → IsAtEnd so_far program (p + 1) before now from
  skipped so_far e h = record { deals = deals_skip so_far e h.deals; cause = h.cause }

  module _ (runs_it : runs x.status ≡ true) (kills : List Bool) (sink : SinkState) (past : Past) (r : KillAnswer) (exchange : AddsOne now.outside.past past (Kill x.child) (kill_answer r)) where
    abbrev then : World
    then = record { state = now.state; kills = kills; outside = outside sink past }

    abbrev the_line : List ℕ
    the_line = line program.symbols now.state (KilledLast p)

    -- of a run that was broken off one child more is killed
    pub killed_silently : {T : Type 0} (why : Stop) → sink ≡ now.outside.sink → IsAtEnd {T = T} (Err why) program p before now from → IsAtEnd {T = T} (Err why) program (p + 1) before then from
    killed_silently {T = T} why same h = record {
      deals = subst (λ k. Halts why program before.outside (outside k past) from (children (running (drop (p + 1) now.state.processes)))) (sym same)
          (halts_kill program before.outside now.outside.sink now.outside.past past from x.child _ r exchange (halts_as program before.outside now.outside from _ _ (left_kill now.state.processes p x made runs_it) h.deals));
      cause = let so_far : Result T Stop = Err why in subst (λ (k : SinkState). HasCause before.outside.sink.faults k.faults (so_far ≡ Err stop.WriteFault)) (sym same) h.cause;
    }

    module _ (h : GoesTo program before now from (λ s. finishing s p)) where
      abbrev s : State
      s = h.state

      own_line : {T E : Type 0} (w : Result T E) → Writes now.outside.sink sink w the_line → Writes now.outside.sink sink w (line program.symbols s (KilledLast p))
      own_line w written = subst (λ l. Writes now.outside.sink sink w l) (kill_line program.symbols now.state s p h.stands) written

      goes_killing : {T E : Type 0} (v : T) → Writes {T = T} {E = E} now.outside.sink sink (Ok v) the_line → GoesTo program before then from (λ s. finishing s (p + 1))
      goes_killing {T = T} {E = E} v written = record {
        state = s;
        stands = h.stands;
        goes = goes_then program before.outside now.outside (outside sink past) from (finishing s p) (finishing s (p + 1)) h.goes
            (asked_says program now.outside.sink sink now.outside.past past (finishing s p) (Kill x.child) (kill_answer r) _ (killing program s p) (kill_said program s p) v
            (kills_it program now.state s h.stands p x made runs_it) (answered_kill (killing program s p) r) refl exchange (own_line {T = T} {E = E} (Ok v) written));
      }

      halts_killing : {T E : Type 0} (e : E) → Hosted (drop (p + 1) now.state.processes) kills → Writes {T = T} {E = E} now.outside.sink sink (Err e) the_line → Halts stop.WriteFault program before.outside (outside sink past) from (children (running (drop (p + 1) now.state.processes)))
      halts_killing {T = T} {E = E} e hosted written =
          let broken = asked_front program now.outside.sink sink now.outside.past past (finishing s p) (Kill x.child) (kill_answer r) _ (killing program s p) (kill_said program s p) e
          (kills_it program now.state s h.stands p x made runs_it) (answered_kill (killing program s p) r) refl tt exchange (own_line {T = T} {E = E} (Err e) written) in
          halts_of program before.outside (outside sink past) from _ (goes_breaks program before.outside now.outside (outside sink past) from (finishing s p) h.goes broken)
          (left_behind now.state s h.stands (p + 1) kills hosted)

    -- the line of the kill was written
    pub killed_aloud : {T U E : Type 0} (t : T) (v : U) → Writes {T = U} {E = E} now.outside.sink sink (Ok v) the_line → IsAtEnd (Ok t) program p before now from → IsAtEnd (Ok t) program (p + 1) before then from
    killed_aloud {U = U} {E = E} t v written h = record {
      deals = goes_killing h.deals {T = U} {E = E} v written;
      cause = cause_then before.outside.sink.faults now.outside.sink.faults sink.faults _ h.cause.later (record { later = written.later; rose = λ e. absurd (let never = e in cc) });
    }

    -- or couldn't be
    pub killed_unwritten : {T U E : Type 0} (t : T) (e : E) → Hosted (drop (p + 1) now.state.processes) kills → Writes {T = U} {E = E} now.outside.sink sink (Err e) the_line → IsAtEnd (Ok t) program p before now from → IsAtEnd {T = T} (Err stop.WriteFault) program (p + 1) before then from
    killed_unwritten {U = U} {E = E} t e hosted written h = record {
      deals = halts_killing h.deals {T = U} {E = E} e hosted written;
      cause = cause_then before.outside.sink.faults now.outside.sink.faults sink.faults _ h.cause.later (record { later = written.later; rose = λ _. written.rose });
    }

-- THE END
before_the_end : (c : Config) → IsBeforeTheEnd c → to_kill c ≡ running_children c.state.processes
before_the_end c h = by c.work h
  where
    by : (work : List Item) → IsBeforeTheEnd (working c.state work) → to_kill (working c.state work) ≡ running_children c.state.processes
    by [] h = absurd h
    by (Top fs ∷ rest) h = refl
    by (Body fs ∷ rest) h = refl
    by (DoForm f ∷ rest) h = refl
    by (MakeCall prim args target ∷ rest) h = refl
    by (Leave kept ∷ rest) h = refl
    by (GiveAnswer v target ∷ rest) h = refl
    by (Refuse f ∷ rest) h = refl
    by (MakeChange change ∷ rest) h = refl
    by (Hooks kind names args ∷ rest) h = refl
    by (Calm b ∷ rest) h = refl
    by (CommitChange change ∷ rest) h = refl
    by (Enter kind handler args ∷ rest) h = refl
    by (Native n args past ∷ rest) h = refl
    by (Called n args past ∷ rest) h = refl
    by (Exit kind handler current faulted ∷ rest) h = refl
    by (Wait w target ∷ rest) h = refl
    by (Delete p ∷ rest) h = refl
    by (KillBuffer b target ∷ rest) h = refl
    by (Finish p ∷ rest) h = absurd h
    by (WriteDump ∷ rest) h = absurd h

none_after : (known s : State) → Stands known s → slice_get s.processes (length known.processes) ≡ None
none_after known s stands = slice_get_past s.processes (length known.processes) (let same : length known.processes ≡ length s.processes = ap (λ (t : State). length t.processes) stands ∙ length-map s.processes kept in omega (arith, same))

module _ (program : Program) (before : World) (from : Config) (now : World) where
  deals_first : {T : Type 0} (so_far : Result T Stop) → Hosted now.state.processes now.kills →
      Comes (lifted so_far) program before now from (λ x s. working s (Top NoForms ∷ [])) (λ f s. working s (Top NoForms ∷ [])) → DealsWith so_far program 0 before now from
  deals_first (Ok t) hosted h = record {
    state = h.state;
    stands = h.stands;
    goes = goes_then program before.outside now.outside now.outside from (working h.state (Top NoForms ∷ [])) (finishing h.state 0) h.goes (goes_silently program now.outside (working h.state (Top NoForms ∷ [])) (finishing h.state 0) (goes refl stays));
  }
  deals_first (Err why) hosted b =
      halts_of program before.outside now.outside from (children (running now.state.processes)) b.breaks (before_the_end b.breaks.last b.before_end ∙ ap rising b.left ∙ sorted_children now.state.processes now.kills hosted)

  -- the run so far, where nothing is dealt with yet
  pub at_first : {T : Type 0} (so_far : Result T Stop) → Hosted now.state.processes now.kills → CameSoFar so_far program before now from → IsAtEnd so_far program 0 before now from
  at_first so_far hosted h = record { deals = deals_first so_far hosted h.comes; cause = h.cause }

  -- all processes are dealt with
  pub over_halted : {T : Type 0} (why : Stop) → IsAtEnd {T = T} (Err why) program (length now.state.processes) before now from → IsOver {T = T} (Err why) program before now from
  over_halted why h = record { finishes = halts_as program before.outside now.outside from _ _ (ap (λ l. children (running l)) (drop_all (length now.state.processes) now.state.processes (omega arith))) h.deals; cause = h.cause }

  module _ (sink : SinkState) where
    abbrev told : World
    told = record { state = now.state; kills = now.kills; outside = outside sink now.outside.past }

    module _ (h : GoesTo program before now from (λ s. finishing s (length now.state.processes))) where
      abbrev last_state : State
      last_state = h.state

      abbrev dumping : Config
      dumping = working last_state (WriteDump ∷ [])

      to_dump : Goes program before.outside now.outside from dumping
      to_dump = goes_then program before.outside now.outside now.outside from (finishing last_state (length now.state.processes)) dumping h.goes
          (goes_silently program now.outside (finishing last_state (length now.state.processes)) dumping (goes (ap (λ o. finish_one program last_state (length now.state.processes) o) (none_after now.state last_state h.stands)) stays))

      abbrev dumped : Said
      dumped = record { event = Dumped; line = line program.symbols last_state Dumped }

      the_dump : {T E : Type 0} (w : Result T E) → Writes now.outside.sink sink w (line program.symbols now.state Dumped) → Writes now.outside.sink sink w (line program.symbols last_state Dumped)
      the_dump w written = subst (λ l. Writes now.outside.sink sink w l) (dump_line program.symbols now.state last_state h.stands) written

      ends_whole : {T E : Type 0} (v : T) → Writes {T = T} {E = E} now.outside.sink sink (Ok v) (line program.symbols now.state Dumped) →
          (last : Config) × (step program deepest last ≡ Ended) × Stands now.state last.state × Goes program before.outside (outside sink now.outside.past) from last
      ends_whole {T = T} {E = E} v written = (
        working last_state [],
        refl,
        h.stands,
        goes_then program before.outside now.outside (outside sink now.outside.past) from dumping (working last_state []) to_dump
            (says program now.outside.sink sink now.outside.past dumping (machine_says program last_state Dumped last_state []) dumped v refl refl (the_dump {T = T} {E = E} (Ok v) written)),
      )

      ends_broken : {T E : Type 0} (e : E) → Writes {T = T} {E = E} now.outside.sink sink (Err e) (line program.symbols now.state Dumped) → Halts stop.WriteFault program before.outside (outside sink now.outside.past) from []
      ends_broken {T = T} {E = E} e written = halts_of program before.outside (outside sink now.outside.past) from [] (goes_breaks program before.outside now.outside (outside sink now.outside.past) from dumping to_dump
          (says_front program now.outside.sink sink now.outside.past dumping (machine_says program last_state Dumped last_state []) dumped e refl refl tt (the_dump {T = T} {E = E} (Err e) written))) refl

    pub over_whole : {T U E : Type 0} (t : T) (v : U) → Writes {T = U} {E = E} now.outside.sink sink (Ok v) (line program.symbols now.state Dumped) → IsAtEnd (Ok t) program (length now.state.processes) before now from → IsOver (Ok t) program before told from
    over_whole {U = U} {E = E} t v written h = record {
      finishes = ends_whole h.deals {T = U} {E = E} v written;
      cause = cause_then before.outside.sink.faults now.outside.sink.faults sink.faults _ h.cause.later (record { later = written.later; rose = λ e. absurd (let never = e in cc) });
    }

    pub over_broken : {T U E : Type 0} (t : T) (e : E) → Writes {T = U} {E = E} now.outside.sink sink (Err e) (line program.symbols now.state Dumped) → IsAtEnd (Ok t) program (length now.state.processes) before now from → IsOver {T = T} (Err stop.WriteFault) program before told from
    over_broken {U = U} {E = E} t e written h = record {
      finishes = ends_broken h.deals {T = U} {E = E} e written;
      cause = cause_then before.outside.sink.faults now.outside.sink.faults sink.faults _ h.cause.later (record { later = written.later; rose = λ _. written.rose });
    }
