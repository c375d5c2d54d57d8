-- Whole sessions: each comes to rest again and again, so what is known there is known at its end.
use Rattle.std.proofs.Common.{◌≡◌, ◌⊎◌, inl, inr, ℕ, ◌+◌, ◌≤◌, true, false, List, [], ◌∷◌, ◌++◌, length, map, refl, sym, ap, ◌∙◌, subst, arith, append-nil, length-append}
use Rattle.std.proofs.lemmas.List.{map-append}
use Rattle.std.specs.Prelude.{Option, Some, None}
use Rattle.text_model.specs.Characters.{Ch}
use Rattle.editor_model.specs.Values.{Value, Script}
use Rattle.editor_model.specs.Limits.{longest_text}
use Rattle.plain_machine.specs.Exchanges.{Ask, Kill, Answer, Exchange, started_by}
use Rattle.plain_machine.specs.Exchanges as heard
use Rattle.plain_machine.specs.State.{State, Process, Program, Status, Runs, new_state, process}
use Rattle.plain_machine.specs.Items.{Item, Top, Finish, WriteDump, Said, Config, Next, Step, Goes, Asks, Ended}
use Rattle.plain_machine.specs.Lines.{KilledLast, Dumped}
use Rattle.plain_machine.specs.Calls.{silent}
use Rattle.plain_machine.specs.Forms.{says}
use Rattle.plain_machine.specs.Handling.{unlisted}
use Rattle.plain_machine.specs.Waits.{kill_answer, finish_one, finish_running}
use Rattle.plain_machine.specs.Step.{step}
use Rattle.plain_machine.specs.Run.{Reaches, stays, goes, asks, start}
use Rattle.plain_machine.proofs.Composed.{reaches_then}
use Rattle.machine_laws.specs.Children.{is_kill}
use Rattle.machine_laws.proofs.Moves.{Working, phase}
use Rattle.machine_laws.proofs.Basics.{none_first}
use Rattle.line_session.specs.Lines.{session_lines}
use Rattle.line_session.specs.Script.{session_script}
use Rattle.session_laws.specs.Resting.{Resting, Soon, GoesOn, AsksOn}
use Rattle.session_laws.specs.Standing.{Parts, session_program, outside}
use Rattle.session_laws.specs.Sessions.{session_command, SessionText, SessionEnds, is_spawn, LastFailed, StartsInTurn, SessionStarts}
use Rattle.session_laws.proofs.Resting.{soon_always, rests_at_end}
use Rattle.session_laws.proofs.Starting.{with_one, set_both}
use Rattle.session_laws.proofs.Waiting.{AtWait, in_wait, between, Settles, Asked, reads, asks_end, waits_go, waits_ask, waits_stay}
use Rattle.session_laws.proofs.Lined.{heard_by, lines_by, NoKills, no_kills_more, children_are, lines_are}
use Rattle.session_laws.proofs.Lasting.{all_old_more, last_stopped, lines_last}
use Rattle.session_laws.proofs.Living.{living, with_last}
use Rattle.session_laws.proofs.Dying.{ended}
use Rattle.session_laws.proofs.Restarting.{asked_once, new_child, calling, start_goes, start_asks, start_stays, Answered_start, was_refused, was_started}
use Rattle.session_laws.proofs.Beginning.{waits_only, waits_left, first_parts, no_parts, asked_new, beginning, first_goes, first_asks, first_stays, Answered_first, begins, begins_by_itself}
use Rattle.session_laws.proofs.Beginning as beginning
use Rattle.session_laws.proofs.Counted.{InTurn, in_turn_more, spawns_one_more}
use Rattle.session_laws.proofs.Held.{gathered_is, Kept, all_kept, kept_text, Counts, starts_by, Live, Quiet, all_quiet, Again, AtFinish, in_finish, in_dump, over, text_still, starts_still, Shape, first, waits, starts_more, finishes, Comes}
use Rattle.session_laws.proofs.Held as held
use Rattle.session_laws.proofs.Hearing.{live_asks}

-- SMALL THINGS
spawn_no_kill : (ask : Ask) → is_spawn ask ≡ true → is_kill ask ≡ false
spawn_no_kill (heard.Spawn program args) h = refl
spawn_no_kill _ h = absurd (let k = h in cc)

no_turns : InTurn []
no_turns before after x e spawn = absurd (let never = (none_first before (x ∷ after) (sym e)).1 in cc)

phase_at : (work : List Item) → AtWait work → phase work ≡ Working
phase_at work (in_wait w forms only e) = ap phase e
phase_at work (between forms only e) = ap phase e

-- a process that is off the list tells the same
same_lines : (olds : List Process) (x : Process) → lines_by (olds ++ x ∷ []) ≡ lines_by (olds ++ unlisted x ∷ [])
same_lines olds x = lines_last olds x ∙ sym (lines_last olds (unlisted x))

-- WHAT IS HELD AT A WAIT
module _ (limit : ℕ) (exchanges : List Exchange) (s : State) where
  live_kept : Live limit exchanges s → Kept exchanges s
  live_kept l =
      let told : l.parts.text ≡ lines_by (l.olds ++ living l.child ∷ []) = l.text ∙ ap (λ t. lines_by l.olds ++ t) (sym (append-nil (heard_by (living l.child)))) ∙ sym (lines_last l.olds (living l.child)) in
      subst (λ u. Kept exchanges u) (sym l.is)
      (all_kept (last_stopped l.olds (living l.child) l.old) (gathered_is (with_last l.parts l.olds (living l.child)) ∙ told) (subst (λ (l : List Ch). length l ≤ longest_text) told l.fits))

  held_kept : Live limit exchanges s ⊎ Quiet limit exchanges s → Kept exchanges s
  held_kept (inl l) = live_kept l
  held_kept (inr q) = q.kept

  held_none : Live limit exchanges s ⊎ Quiet limit exchanges s → NoKills exchanges
  held_none (inl l) = l.counts.none
  held_none (inr q) = q.none

  held_starts : Live limit exchanges s ⊎ Quiet limit exchanges s → StartsInTurn limit exchanges
  held_starts (inl l) = starts_by limit exchanges (length l.olds) l.counts
  held_starts (inr q) = q.starts

module _ (limit : ℕ) (words : List Value) (bound : ℕ) where
  abbrev program : Program
  program = session_program limit (session_command words)

  abbrev script : Script
  script = session_script (session_command words)

  abbrev Reached : List Exchange → Config → Type 0
  Reached exchanges c = (said : List Said) × Reaches program bound (start script) exchanges said c

  abbrev Rests : Resting
  Rests exchanges c = Reached exchanges c × Shape limit words bound exchanges c

  abbrev ComesTo : List Exchange → Config → Type 0
  ComesTo exchanges c = Comes limit words bound exchanges c

  -- WITHOUT A PROCESS
  quiet_none : (exchanges : List Exchange) (s : State) → (s ≡ new_state) ⊎ (s ≡ asked_new) → NoKills exchanges → StartsInTurn limit exchanges → Quiet limit exchanges s
  quiet_none exchanges s (inl e) none starts =
      subst (λ u. Quiet limit exchanges u) (sym e) (record { idle = λ p y there live hears. let k = there in cc; none = none; starts = starts; kept = all_kept refl refl (omega arith) })
  quiet_none exchanges s (inr e) none starts =
      subst (λ u. Quiet limit exchanges u) (sym e) (record { idle = λ p y there live hears. let k = there in cc; none = none; starts = starts; kept = all_kept refl refl (omega arith) })

  pub no_starts : StartsInTurn limit []
  no_starts = record { few = omega arith; behind = no_turns }

  first_counts : (exchanges : List Exchange) (x : Exchange) → exchanges ≡ [] → is_spawn x.ask ≡ true → Counts limit (exchanges ++ x ∷ []) 0
  first_counts exchanges x none spawn =
      subst (λ l. Counts limit (l ++ x ∷ []) 0) (sym none)
      (record { none = no_kills_more [] x refl (spawn_no_kill x.ask spawn); turn = in_turn_more [] x no_turns (λ s. inl refl); count = spawns_one_more [] x spawn; few = omega arith })

  -- A WAIT
  wait_goes : (exchanges : List Exchange) (s : State) (work : List Item) (n : Next) → Reached exchanges (record { state = s; work = work }) → AtWait work → (h : Live limit exchanges s ⊎ Quiet limit exchanges s) →
      step program bound (record { state = s; work = work }) ≡ Goes n → ComesTo exchanges n.config
  wait_goes exchanges s work n reach at h e = by k.at
    where
      k : Settles program bound s n.config
      k = waits_go program bound s work n at e

      by : AtWait k.work ⊎ (k.work ≡ Finish 0 ∷ []) → ComesTo exchanges n.config
      by (inl again) = record { said = k.said; there = _; way = k.way; shape = waits s k.work refl again h }
      by (inr last) =
          let lines : session_lines exchanges ≡ lines_by s.processes = lines_are program bound script exchanges reach.0 (record { state = s; work = work }) reach.1 (held_none limit exchanges s h) (phase_at work at) in
          record { said = k.said; there = _; way = k.way; shape = finishes s k.work refl (in_finish 0 last) (kept_text exchanges s lines (held_kept limit exchanges s h)) (held_starts limit exchanges s h) }

  live_lines : (exchanges : List Exchange) (s : State) (work : List Item) → Reached exchanges (record { state = s; work = work }) → AtWait work → (l : Live limit exchanges s) → session_lines exchanges ≡ l.parts.text
  live_lines exchanges s work reach at l =
      lines_are program bound script exchanges reach.0 (record { state = s; work = work }) reach.1 l.counts.none (phase_at work at) ∙ ap (λ (u : State). lines_by u.processes) l.is
      ∙ lines_last l.olds (living l.child) ∙ ap (λ t. lines_by l.olds ++ t) (append-nil (heard_by (living l.child))) ∙ sym l.text

  wait_asks : (exchanges : List Exchange) (s : State) (work : List Item) (ask : Ask) (answer : Answer) (next : Answer → Option Next) (n : Next) → Reached exchanges (record { state = s; work = work }) → AtWait work → Live limit exchanges s ⊎ Quiet limit exchanges s →
      step program bound (record { state = s; work = work }) ≡ Asks ask next → next answer ≡ Some n → ComesTo (exchanges ++ record { ask = ask; answer = answer } ∷ []) n.config
  wait_asks exchanges s work ask answer next n reach at (inl l) h e =
      live_asks limit words bound exchanges l.parts l.olds l.child l.old l.text l.fits l.counts (live_lines exchanges s work reach at l) ask answer next n
      (subst (λ u. Asked u ask next) l.is (waits_ask program bound s work ask next at h)) e
  wait_asks exchanges s work ask answer next n reach at (inr q) h e = absurd (never (waits_ask program bound s work ask next at h))
    where
      never : Asked s ask next → ⊥
      never (reads w forms p y only there live hears drained is_ask is_next) = q.idle p y there live hears
      never (asks_end w forms p y only there live hears drained is_ask is_next) = q.idle p y there live hears

  -- A START
  dead_quiet : (exchanges : List Exchange) (parts : Parts) (a : Again limit words exchanges) (more : List Exchange) → parts.text ≡ a.parts.text → NoKills more → StartsInTurn limit more → Quiet limit more (outside (with_last parts a.olds (unlisted (ended a.child a.status))))
  dead_quiet exchanges parts a more same none starts =
      let y : Process = unlisted (ended a.child a.status) in
      all_quiet limit more parts a.olds y (all_old_more a.olds y a.old (record { ended = a.dead; goes_on = refl })) a.old refl (same ∙ a.text ∙ same_lines a.olds (ended a.child a.status)) (subst (λ (l : List Ch). length l ≤ longest_text) (sym same) a.fits) none starts

  last_failed : (exchanges : List Exchange) (c : Config) → Reached exchanges c → (a : Again limit words exchanges) → c ≡ calling limit words bound a.olds a.child a.status a.how a.base a.based a.more a.rest a.parts → LastFailed exchanges
  last_failed exchanges c reach a e = record {
    earlier = map (λ x. x.child) a.olds;
    child = a.child.child;
    last = children_are program bound script exchanges reach.0 c reach.1 ∙ ap (λ (c : Config). map (λ x. x.child) c.state.processes) e ∙ map-append (λ x. x.child) a.olds (ended a.child a.status ∷ []);
    failed = a.failed;
  }

  again_counts : (exchanges : List Exchange) (x : Exchange) (y : Process) → (a : Again limit words exchanges) → LastFailed exchanges → is_spawn x.ask ≡ true → Counts limit (exchanges ++ x ∷ []) (length (a.olds ++ y ∷ []))
  again_counts exchanges x y a failed spawn = record {
    none = no_kills_more exchanges x a.counts.none (spawn_no_kill x.ask spawn);
    turn = in_turn_more exchanges x a.counts.turn (λ s. inr failed);
    count = omega (arith, spawns_one_more exchanges x spawn, a.counts.count, length-append a.olds (y ∷ []));
    few = omega (arith, a.few, length-append a.olds (y ∷ []));
  }

  again_asks : (exchanges : List Exchange) (x : Exchange) (n : Next) (a : Again limit words exchanges) → LastFailed exchanges → is_spawn x.ask ≡ true →
      Answered_start limit words bound a.olds a.child a.status a.how a.base a.based a.more a.rest a.parts x.answer n → ComesTo (exchanges ++ x ∷ []) n.config
  again_asks exchanges x n a failed spawn (was_refused q r) =
      let y : Process = unlisted (ended a.child a.status) in
      let counts : Counts limit (exchanges ++ x ∷ []) (length (a.olds ++ y ∷ [])) = again_counts exchanges x y a failed spawn in
      record {
        said = r.0;
        there = _;
        way = r.1;
        shape = waits (outside (with_last (asked_once a.parts) a.olds y)) a.rest refl a.at (inr (dead_quiet exchanges (asked_once a.parts) a (exchanges ++ x ∷ []) refl counts.none (starts_by limit (exchanges ++ x ∷ []) (length (a.olds ++ y ∷ [])) counts)));
      }
  again_asks exchanges x n a failed spawn (was_started child q r) =
      let y : Process = unlisted (ended a.child a.status) in
      let here : Parts = with_last a.parts a.olds (ended a.child a.status) in
      record {
        said = r.0;
        there = _;
        way = r.1;
        shape = waits (outside (with_last (with_one here child set_both) (a.olds ++ y ∷ []) (living (new_child here child)))) a.rest refl a.at
            (inl (record {
              parts = with_one here child set_both;
              olds = a.olds ++ y ∷ [];
              child = new_child here child;
              is = refl;
              old = all_old_more a.olds y a.old (record { ended = a.dead; goes_on = refl });
              text = a.text ∙ same_lines a.olds (ended a.child a.status) ∙ sym (append-nil (lines_by (a.olds ++ y ∷ [])));
              fits = a.fits;
              counts = again_counts exchanges x y a failed spawn;
            }));
      }

  first_asked : (exchanges : List Exchange) (x : Exchange) (n : Next) → exchanges ≡ [] → is_spawn x.ask ≡ true → Answered_first limit words bound waits_left x.answer n → ComesTo (exchanges ++ x ∷ []) n.config
  first_asked exchanges x n none spawn (beginning.was_refused q r) =
      let counts : Counts limit (exchanges ++ x ∷ []) 0 = first_counts exchanges x none spawn in
      record {
        said = r.0;
        there = _;
        way = r.1;
        shape = waits asked_new (Top waits_left ∷ []) refl (between waits_left (waits_only 65536) refl) (inr (quiet_none (exchanges ++ x ∷ []) asked_new (inr refl) counts.none (starts_by limit (exchanges ++ x ∷ []) 0 counts)));
      }
  first_asked exchanges x n none spawn (beginning.was_started child q r) = record {
    said = r.0;
    there = _;
    way = r.1;
    shape = waits (outside (with_last first_parts [] (living (new_child no_parts child)))) (Top waits_left ∷ []) refl (between waits_left (waits_only 65536) refl)
        (inl (record {
          parts = first_parts;
          olds = [];
          child = new_child no_parts child;
          is = refl;
          old = tt;
          text = refl;
          fits = omega arith;
          counts = first_counts exchanges x none spawn;
        }));
  }

  -- THE END
  finish_goes : (exchanges : List Exchange) (s : State) (p : ℕ) (n : Next) (o : Option Process) → SessionText exchanges s → StartsInTurn limit exchanges → finish_one program s p o ≡ Goes n → ComesTo exchanges n.config
  finish_goes exchanges s p n None text starts h =
      let one : silent s (WriteDump ∷ []) ≡ n = let k = h in cc in
      subst (λ (n : Next). ComesTo exchanges n.config) one (record { said = []; there = _; way = stays; shape = finishes s (WriteDump ∷ []) refl (in_dump refl) text starts })
  finish_goes exchanges s p n (Some x) text starts h = by x.status h
    where
      on_to_next : silent s (Finish (p + 1) ∷ []) ≡ n → ComesTo exchanges n.config
      on_to_next one = subst (λ (n : Next). ComesTo exchanges n.config) one (record { said = []; there = _; way = stays; shape = finishes s (Finish (p + 1) ∷ []) refl (in_finish (p + 1) refl) text starts })

      by : (status : Status) → finish_running program status s p x ≡ Goes n → ComesTo exchanges n.config
      by Runs h = absurd (let k = h in cc)
      by _ h = on_to_next (let k = h in cc)

  finish_asks : (exchanges : List Exchange) (s : State) (p : ℕ) (ask : Ask) (answer : Answer) (next : Answer → Option Next) (n : Next) (o : Option Process) → SessionText exchanges s → StartsInTurn limit exchanges →
      finish_one program s p o ≡ Asks ask next → next answer ≡ Some n → ComesTo (exchanges ++ record { ask = ask; answer = answer } ∷ []) n.config
  finish_asks exchanges s p ask answer next n None text starts h e = absurd (let k = h in cc)
  finish_asks exchanges s p ask answer next n (Some x) text starts h e = by x.status h
    where
      killed : is_kill ask ≡ true → started_by answer ≡ [] → says program s (KilledLast p) s (Finish (p + 1) ∷ []) ≡ n → ComesTo (exchanges ++ record { ask = ask; answer = answer } ∷ []) n.config
      killed kill none one =
          let x : Exchange = record { ask = ask; answer = answer } in
          subst (λ (n : Next). ComesTo (exchanges ++ x ∷ []) n.config) one
          (record { said = []; there = _; way = stays; shape = finishes s (Finish (p + 1) ∷ []) refl (in_finish (p + 1) refl) (text_still exchanges x s kill none text) (starts_still limit exchanges x kill starts) })

      answered : (a : Answer) → kill_answer (says program s (KilledLast p) s (Finish (p + 1) ∷ [])) a ≡ Some n → (started_by a ≡ []) × (says program s (KilledLast p) s (Finish (p + 1) ∷ []) ≡ n)
      answered heard.Killed e = (refl, let k = e in cc)
      answered heard.Failed e = (refl, let k = e in cc)
      answered _ e = absurd (let k = e in cc)

      by : (status : Status) → finish_running program status s p x ≡ Asks ask next → ComesTo (exchanges ++ record { ask = ask; answer = answer } ∷ []) n.config
      by Runs h =
          let same : kill_answer (says program s (KilledLast p) s (Finish (p + 1) ∷ [])) ≡ next = let k = h in cc in
          let kill : Kill x.child ≡ ask = let k = h in cc in
          let a = answered answer (ap (λ f. f answer) same ∙ e) in
          killed (ap is_kill (sym kill)) a.0 a.1
      by _ h = absurd (let k = h in cc)

  end_goes : (exchanges : List Exchange) (s : State) (work : List Item) (n : Next) → AtFinish work → SessionText exchanges s → StartsInTurn limit exchanges → step program bound (record { state = s; work = work }) ≡ Goes n → ComesTo exchanges n.config
  end_goes exchanges s work n (in_finish p q) text starts h = finish_goes exchanges s p n (process s p) text starts (ap (λ k. step program bound (record { state = s; work = k })) (sym q) ∙ h)
  end_goes exchanges s work n (in_dump q) text starts h =
      let k : step program bound (record { state = s; work = WriteDump ∷ [] }) ≡ Goes n = ap (λ k. step program bound (record { state = s; work = k })) (sym q) ∙ h in
      let one : says program s Dumped s [] ≡ n = cc in
      subst (λ (n : Next). ComesTo exchanges n.config) one (record { said = []; there = _; way = stays; shape = finishes s [] refl (over refl) text starts })
  end_goes exchanges s work n (over q) text starts h =
      let k : step program bound (record { state = s; work = [] }) ≡ Goes n = ap (λ k. step program bound (record { state = s; work = k })) (sym q) ∙ h in
      absurd cc

  end_asks : (exchanges : List Exchange) (s : State) (work : List Item) (ask : Ask) (answer : Answer) (next : Answer → Option Next) (n : Next) → AtFinish work → SessionText exchanges s → StartsInTurn limit exchanges →
      step program bound (record { state = s; work = work }) ≡ Asks ask next → next answer ≡ Some n → ComesTo (exchanges ++ record { ask = ask; answer = answer } ∷ []) n.config
  end_asks exchanges s work ask answer next n (in_finish p q) text starts h e = finish_asks exchanges s p ask answer next n (process s p) text starts (ap (λ k. step program bound (record { state = s; work = k })) (sym q) ∙ h) e
  end_asks exchanges s work ask answer next n (in_dump q) text starts h e =
      let k : step program bound (record { state = s; work = WriteDump ∷ [] }) ≡ Asks ask next = ap (λ k. step program bound (record { state = s; work = k })) (sym q) ∙ h in
      absurd cc
  end_asks exchanges s work ask answer next n (over q) text starts h e =
      let k : step program bound (record { state = s; work = [] }) ≡ Asks ask next = ap (λ k. step program bound (record { state = s; work = k })) (sym q) ∙ h in
      absurd cc

  -- EACH STEP FROM REST
  at_step : (c d : Config) (r : Step) → c ≡ d → step program bound c ≡ r → step program bound d ≡ r
  at_step c d r e h = ap (step program bound) (sym e) ∙ h

  goes_shape : (exchanges : List Exchange) (c : Config) (n : Next) → Reached exchanges c → Shape limit words bound exchanges c → step program bound c ≡ Goes n → ComesTo exchanges n.config
  goes_shape exchanges c n reach (held.begins e none) h =
      let r = begins limit words bound n (at_step c _ (Goes n) e h) in
      record { said = r.0; there = _; way = r.1; shape = first refl none }
  goes_shape exchanges c n reach (first e none) h =
      let r = first_goes limit words bound waits_left n (at_step c _ (Goes n) e h) in
      record {
        said = r.0;
        there = _;
        way = r.1;
        shape = waits new_state (Top waits_left ∷ []) refl (between waits_left (waits_only 65536) refl) (inr (subst (λ l. Quiet limit l new_state) (sym none) (quiet_none [] new_state (inl refl) refl no_starts)));
      }
  goes_shape exchanges c n reach (waits s work e at held) h = wait_goes exchanges s work n (subst (λ d. Reached exchanges d) e reach) at held (at_step c _ (Goes n) e h)
  goes_shape exchanges c n reach (starts_more a e) h =
      let r = start_goes limit words bound a.olds a.child a.status a.how a.base a.based a.more a.rest a.parts n (at_step c _ (Goes n) e h) in
      record {
        said = r.0;
        there = _;
        way = r.1;
        shape = waits (outside (with_last a.parts a.olds (unlisted (ended a.child a.status)))) a.rest refl a.at (inr (dead_quiet exchanges a.parts a exchanges refl a.counts.none (starts_by limit exchanges (length a.olds) a.counts)));
      }
  goes_shape exchanges c n reach (finishes s work e at text starts) h = end_goes exchanges s work n at text starts (at_step c _ (Goes n) e h)

  asks_shape : (exchanges : List Exchange) (c : Config) (ask : Ask) (answer : Answer) (next : Answer → Option Next) (n : Next) → Reached exchanges c → Shape limit words bound exchanges c → step program bound c ≡ Asks ask next → next answer ≡ Some n →
      ComesTo (exchanges ++ record { ask = ask; answer = answer } ∷ []) n.config
  asks_shape exchanges c ask answer next n reach (held.begins e none) h k = absurd (begins_by_itself limit words bound ask next (at_step c _ (Asks ask next) e h))
  asks_shape exchanges c ask answer next n reach (first e none) h k =
      let r = first_asks limit words bound waits_left ask next (at_step c _ (Asks ask next) e h) in
      first_asked exchanges (record { ask = ask; answer = answer }) n none r.0 (r.1 answer n k)
  asks_shape exchanges c ask answer next n reach (waits s work e at held) h k = wait_asks exchanges s work ask answer next n (subst (λ d. Reached exchanges d) e reach) at held (at_step c _ (Asks ask next) e h) k
  asks_shape exchanges c ask answer next n reach (starts_more a e) h k =
      let r = start_asks limit words bound a.olds a.child a.status a.how a.base a.based a.more a.rest a.parts ask next (at_step c _ (Asks ask next) e h) in
      again_asks exchanges (record { ask = ask; answer = answer }) n a (last_failed exchanges c reach a e) r.0 (r.1 answer n k)
  asks_shape exchanges c ask answer next n reach (finishes s work e at text starts) h k = end_asks exchanges s work ask answer next n at text starts (at_step c _ (Asks ask next) e h) k

  goes_on : GoesOn program bound Rests
  goes_on exchanges c n rests h =
      let k = goes_shape exchanges c n rests.0 rests.1 h in
      let way = reaches_then program bound _ _ _ exchanges [] rests.0.0 (n.said ++ k.said) rests.0.1 (goes h k.way) in
      record { said = k.said; there = k.there; way = k.way; rest = ((_, subst (λ l. Reaches program bound (start script) l (rests.0.0 ++ (n.said ++ k.said)) k.there) (append-nil exchanges) way), k.shape) }

  asks_on : AsksOn program bound Rests
  asks_on exchanges c ask answer next n rests h e =
      let k = asks_shape exchanges c ask answer next n rests.0 rests.1 h e in
      let way = reaches_then program bound _ _ _ exchanges (record { ask = ask; answer = answer } ∷ []) rests.0.0 (n.said ++ k.said) rests.0.1 (asks h e k.way) in
      record { said = k.said; there = k.there; way = k.way; rest = ((_, way), k.shape) }

  soon : Soon program bound Rests [] (start script)
  soon = record { said = []; there = start script; way = stays; rest = (([], stays), held.begins refl refl) }

  -- THE LAWS
  ended_text : (exchanges : List Exchange) (c : Config) → Shape limit words bound exchanges c → step program bound c ≡ Ended → SessionText exchanges c.state
  ended_text exchanges c (held.begins e none) h = absurd (let k = at_step c _ Ended e h in cc)
  ended_text exchanges c (first e none) h = absurd (first_stays limit words bound waits_left (at_step c _ Ended e h))
  ended_text exchanges c (waits s work e at held) h = absurd (waits_stay program bound s work at (at_step c _ Ended e h))
  ended_text exchanges c (starts_more a e) h = absurd (start_stays limit words bound a.olds a.child a.status a.how a.base a.based a.more a.rest a.parts (at_step c _ Ended e h))
  ended_text exchanges c (finishes s work e at text starts) h = subst (λ (d : Config). SessionText exchanges d.state) (sym e) text

  pub session_ends : SessionEnds limit words bound
  session_ends exchanges said c way h = ended_text exchanges c (rests_at_end program bound Rests goes_on asks_on soon way h).1 h

  shape_starts : (exchanges : List Exchange) (c : Config) → Shape limit words bound exchanges c → StartsInTurn limit exchanges
  shape_starts exchanges c (held.begins e none) = subst (λ l. StartsInTurn limit l) (sym none) no_starts
  shape_starts exchanges c (first e none) = subst (λ l. StartsInTurn limit l) (sym none) no_starts
  shape_starts exchanges c (waits s work e at held) = held_starts limit exchanges s held
  shape_starts exchanges c (starts_more a e) = starts_by limit exchanges (length a.olds) a.counts
  shape_starts exchanges c (finishes s work e at text starts) = starts

  pub session_starts : SessionStarts limit words bound
  session_starts exchanges said c way = let i = soon_always program bound Rests goes_on asks_on soon way in shape_starts exchanges i.there i.rest.1
