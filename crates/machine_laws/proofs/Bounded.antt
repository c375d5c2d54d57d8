-- How many exchanges a run makes in all: the kills are no more than the processes, and these are at most 256.
use Rattle.std.proofs.Common.{◌≡◌, ℕ, zero, suc, ◌+◌, ◌≤◌, Bool, true, false, List, [], ◌∷◌, ◌++◌, length, refl, ap, sym, ◌∙◌, subst, arith, append_assoc}
use Rattle.std.proofs.lemmas.List.{append-nil, length-append, length-map}
use Rattle.std.proofs.lemmas.List.Elements.{filter-append}
use Rattle.std.specs.Prelude.{Option, Some, None, not, ◌||◌, filter, nat_lt, slice_get, slice_set, codes, if◌then◌else◌}
use Rattle.editor_model.specs.Values.{Value, Script}
use Rattle.plain_machine.specs.Exchanges.{Exchange, Ask, Spawn, Read, AskEnd, Send, Close, Kill, Answer, Started, Bytes, Code, End, Signal, Running, Sent, Broken, Closed, Killed, gone, goes_by, children_started}
use Rattle.plain_machine.specs.State.{State, Program, Process, Exited, Signalled, Lost, process, change_process, read_so_far}
use Rattle.plain_machine.specs.Lines.{KilledLast}
use Rattle.plain_machine.specs.Items.{Item, Finish, Target, Waiting, Said, Config, Next}
use Rattle.plain_machine.specs.Calls.{spawned, spawned_child, is_new_child, sent_answer, closed_answer, with_input_closed}
use Rattle.plain_machine.specs.Refusals.{most_exchanges, most_processes}
use Rattle.plain_machine.specs.Forms.{says}
use Rattle.plain_machine.specs.Waits.{read_answer, hear, end_answer, ends, kill_answer, asked_more, is_room}
use Rattle.plain_machine.specs.Run.{Reaches, start}
use Rattle.plain_machine.proofs.Composed.{over_runs}
use Rattle.machine_laws.specs.Children.{is_kill, FewInAll}
use Rattle.machine_laws.proofs.Basics.{set_length, is_same, or_right}
use Rattle.machine_laws.proofs.Keeping.{Asking, spawns, sends, closes, reads, asks_end, deletes, finishes, Keeps, step_keeps}
use Rattle.machine_laws.proofs.Stopping.{same_count}
use Rattle.machine_laws.proofs.Alive.{Lives, cores_children, started-append, gone-append}
use Rattle.machine_laws.proofs.Spent.{few_exchanges}
use Rattle.machine_laws.proofs.Killing.{Fresh, Fair, killed_fairly}

-- PROCESSES
-- where an answer is taken, there are no more processes than may be
abbrev Few : Option Next → Type 0
Few None = Unit {0}
Few (Some n) = length n.config.state.processes ≤ most_processes

change_length : (p : ℕ) (f : Process → Process) (s : State) → length (change_process p f s).processes ≡ length s.processes
change_length p f s = (elim (process s p) as (λ o. let k : State = elim o [ None ↦ s | Some x ↦ record s { processes = slice_set s.processes p (f x) } ] in length k.processes ≡ length s.processes) [ None ↦ refl | Some x ↦ set_length s.processes p (f x) ])

changed_few : (t : State) (p : ℕ) (f : Process → Process) → length t.processes ≤ most_processes → length (change_process p f t).processes ≤ most_processes
changed_few t p f h = let e : length (change_process p f t).processes ≡ length t.processes = change_length p f t in omega arith

below : (n : ℕ) → nat_lt n most_processes ≡ true → n + 1 ≤ most_processes
below n h = grind arith

module _ (s : State) (few : length s.processes ≤ most_processes) where
  spawned_few : (target : Target) (rest : List Item) (name b : Value) (answer : Answer) → nat_lt (length s.processes) most_processes ≡ true → Few (spawned s target rest name b answer)
  spawned_few target rest name b (Started child) l = go (is_new_child s child)
    where
      go : (new : Bool) → Few (spawned_child new s target rest name b child)
      go true = rw length-append (below (length s.processes) l)
      go false = tt
  spawned_few target rest name b Answer.Refused l = few
  spawned_few target rest name b _ l = tt

  sent_few : (target : Target) (rest : List Item) (size : ℕ) (answer : Answer) → Few (sent_answer s target rest size answer)
  sent_few target rest size Sent = few
  sent_few target rest size Broken = few
  sent_few target rest size _ = tt

  closed_few : (target : Target) (rest : List Item) (p : ℕ) (answer : Answer) → Few (closed_answer s target rest p answer)
  closed_few target rest p Closed = changed_few (record s { asked = s.asked + 1 }) p with_input_closed few
  closed_few target rest p _ = tt

  read_few : (w : Waiting) (target : Target) (rest : List Item) (p : ℕ) (x : Process) (answer : Answer) → Few (read_answer s w target rest p x answer)
  read_few w target rest p x (Bytes bytes) = go (is_room bytes)
    where
      go : (fits : Bool) → Few (hear fits s w target rest p x bytes)
      go true = changed_few (asked_more s) p (λ y. record y { bytes = Some (read_so_far x ++ bytes) }) few
      go false = tt
  read_few w target rest p x Answer.Nothing = few
  read_few w target rest p x End = changed_few (asked_more s) p (λ y. record y { drained = true }) few
  read_few w target rest p x Answer.Failed = changed_few (asked_more s) p (λ y. record y { drained = true }) few
  read_few w target rest p x _ = tt

  end_few : (w : Waiting) (target : Target) (rest : List Item) (p : ℕ) (x : Process) (answer : Answer) → Few (end_answer s w target rest p x answer)
  end_few w target rest p x (Code c) = changed_few (asked_more s) p (λ y. record y { status = Exited c }) few
  end_few w target rest p x Signal = changed_few (asked_more s) p (λ y. record y { status = Signalled }) few
  end_few w target rest p x Answer.Failed = changed_few (asked_more s) p (λ y. record y { status = Lost }) few
  end_few w target rest p x Running = few
  end_few w target rest p x _ = tt

  kill_few : (n : Next) (answer : Answer) → length n.config.state.processes ≤ most_processes → Few (kill_answer n answer)
  kill_few n Killed h = h
  kill_few n Answer.Failed h = h
  kill_few n _ h = tt

  asking_few : (ask : Ask) (next : Answer → Option Next) (answer : Answer) → Asking s ask next → Few (next answer)
  asking_few ask next answer (spawns target rest name b words args m l e f) = rw f (spawned_few target rest name b answer l)
  asking_few ask next answer (sends target rest child size bytes m e f) = rw f (sent_few target rest size answer)
  asking_few ask next answer (closes target rest child p m e f) = rw f (closed_few target rest p answer)
  asking_few ask next answer (reads w target rest p x m h d e f) = rw f (read_few w target rest p x answer)
  asking_few ask next answer (asks_end w target rest p x m h d e f) = rw f (end_few w target rest p x answer)
  asking_few ask next answer (deletes rest p x h r e f) = rw f (kill_few (ends s p x Signalled (codes "killed\n") rest) answer (changed_few s p (λ y. record y { status = Signalled }) few))
  asking_few ask next answer (finishes program p x h r e f) = rw f (kill_few (says program s (KilledLast p) s (Finish (p + 1) ∷ [])) answer few)

few_processes : (program : Program) (bound : ℕ) (script : Script) (xs : List Exchange) (said : List Said) (c : Config) → Reaches program bound (start script) xs said c → length c.state.processes ≤ most_processes
few_processes program bound script xs said c r =
    over_runs program bound (λ xs said c. length c.state.processes ≤ most_processes)
    (λ xs said c n i e. rw (same_count program bound c n e) i)
    (λ xs said c ask answer next n i e h.
    let k : Asking c.state ask next = subst (λ t. Keeps c.state t) e (step_keeps program bound c) in
    let f : Few (Some n) = subst (λ o. Few o) h (asking_few c.state i ask next answer k) in f)
    r [] [] (omega arith)

-- KILLS
-- a list filtered by a test that more pass
filter_more : (f g : ℕ → Bool) → ((c : ℕ) → f c ≡ true → g c ≡ true) → (cs : List ℕ) → length (filter f cs) ≤ length (filter g cs)
filter_more f g more [] = omega arith
filter_more f g more (c ∷ cs) = go (f c) (g c) refl refl (filter_more f g more cs)
  where
    go : (v w : Bool) → f c ≡ v → g c ≡ w → length (filter f cs) ≤ length (filter g cs) → length (if v then c ∷ filter f cs else filter f cs) ≤ length (if w then c ∷ filter g cs else filter g cs)
    go true true e k h = omega arith
    go true false e k h = let q : true ≡ false = sym (more c e) ∙ k in cc
    go false true e k h = omega arith
    go false false e k h = h

-- and one passes that didn't
filter_one_more : (f g : ℕ → Bool) → ((c : ℕ) → f c ≡ true → g c ≡ true) → (cs : List ℕ) (n c : ℕ) → slice_get cs n ≡ Some c → f c ≡ false → g c ≡ true → length (filter f cs) + 1 ≤ length (filter g cs)
filter_one_more f g more [] n c e h k = cc
filter_one_more f g more (d ∷ cs) zero c e h k =
    let q : d ≡ c = cc in
    let l : length (filter f cs) ≤ length (filter g cs) = filter_more f g more cs in
    rw (q, h, k) (omega arith)
filter_one_more f g more (d ∷ cs) (suc n) c e h k = go (f d) (g d) refl refl (filter_one_more f g more cs n c e h k)
  where
    go : (v w : Bool) → f d ≡ v → g d ≡ w → length (filter f cs) + 1 ≤ length (filter g cs) → length (if v then d ∷ filter f cs else filter f cs) + 1 ≤ length (if w then d ∷ filter g cs else filter g cs)
    go true true e k h = omega arith
    go true false e k h = let q : true ≡ false = sym (more d e) ∙ k in cc
    go false true e k h = omega arith
    go false false e k h = h

abbrev kills : List Exchange → List Exchange
kills xs = filter (λ x. is_kill x.ask) xs

-- the children that are gone, of those that were started
abbrev gone_children : List Exchange → List ℕ
gone_children xs = filter (λ c. gone c xs) (children_started xs)

still_gone : (seen : List Exchange) (x : Exchange) (c : ℕ) → gone c seen ≡ true → gone c (seen ++ x ∷ []) ≡ true
still_gone seen x c h = gone-append c seen (x ∷ []) ∙ ap (λ b. b || gone c (x ∷ [])) h

goes_now : (seen : List Exchange) (x : Exchange) (c : ℕ) → x.ask ≡ Kill c → gone c (seen ++ x ∷ []) ≡ true
goes_now seen x c e =
    let now : goes_by c x.ask x.answer ≡ true = rw e (is_same c c refl) in
    gone-append c seen (x ∷ []) ∙ or_right (gone c seen) (gone c (x ∷ [])) (rw now refl)

-- one more exchange: a kill adds a child to those that are gone
one_kill : (seen : List Exchange) (x : Exchange) → ((c : ℕ) → x.ask ≡ Kill c → Fresh seen c) → length (kills (x ∷ [])) + length (gone_children seen) ≤ length (gone_children (seen ++ x ∷ []))
one_kill seen x fresh = rw (started-append seen (x ∷ []), filter-append (λ c. gone c (seen ++ x ∷ [])) (children_started seen) (children_started (x ∷ [])), length-append) (by_ask x.ask refl)
  where
    now : ℕ → Bool
    now c = gone c (seen ++ x ∷ [])

    plain : is_kill x.ask ≡ false → length (if is_kill x.ask then x ∷ [] else []) + length (filter (λ c. gone c seen) (children_started seen)) ≤ length (filter (λ c. gone c (seen ++ x ∷ [])) (children_started seen)) + length (filter (λ c. gone c (seen ++ x ∷ [])) (children_started (x ∷ [])))
    plain e =
        let l : length (filter (λ c. gone c seen) (children_started seen)) ≤ length (filter (λ c. gone c (seen ++ x ∷ [])) (children_started seen)) = filter_more (λ c. gone c seen) (λ c. gone c (seen ++ x ∷ [])) (still_gone seen x) (children_started seen) in
        rw e (omega arith)

    by_ask : (ask : Ask) → x.ask ≡ ask → length (if is_kill x.ask then x ∷ [] else []) + length (filter (λ c. gone c seen) (children_started seen)) ≤ length (filter (λ c. gone c (seen ++ x ∷ [])) (children_started seen)) + length (filter (λ c. gone c (seen ++ x ∷ [])) (children_started (x ∷ [])))
    by_ask (Kill c) e =
        let f : Fresh seen c = fresh c e in
        let l : length (filter (λ c. gone c seen) (children_started seen)) + 1 ≤ length (filter (λ c. gone c (seen ++ x ∷ [])) (children_started seen)) = filter_one_more (λ c. gone c seen) (λ c. gone c (seen ++ x ∷ [])) (still_gone seen x) (children_started seen) f.0.0 c f.0.1 f.1 (goes_now seen x c e) in
        rw (ap is_kill e) (omega arith)
    by_ask (Spawn program args) e = plain (ap is_kill e)
    by_ask (Read c) e = plain (ap is_kill e)
    by_ask (AskEnd c) e = plain (ap is_kill e)
    by_ask (Send c bytes) e = plain (ap is_kill e)
    by_ask (Close c) e = plain (ap is_kill e)

kills_few : (seen xs : List Exchange) → Fair seen xs → length (kills xs) + length (gone_children seen) ≤ length (gone_children (seen ++ xs))
kills_few seen [] h = rw append-nil (omega arith)
kills_few seen (x ∷ xs) h =
    let more : length (kills xs) + length (gone_children (seen ++ x ∷ [])) ≤ length (gone_children (seen ++ x ∷ xs)) = rw append_assoc at (kills_few (seen ++ x ∷ []) xs h.1) in
    let one : length (kills (x ∷ [])) + length (gone_children seen) ≤ length (gone_children (seen ++ x ∷ [])) = one_kill seen x h.0 in
    let both : length (kills (x ∷ xs)) ≡ length (kills (x ∷ [])) + length (kills xs) = parts x xs in
    omega arith
  where
    parts : (x : Exchange) (xs : List Exchange) → length (kills (x ∷ xs)) ≡ length (kills (x ∷ [])) + length (kills xs)
    parts x xs = go (is_kill x.ask)
      where
        go : (v : Bool) → length (if v then x ∷ filter (λ x. is_kill x.ask) xs else filter (λ x. is_kill x.ask) xs) ≡ length (if v then x ∷ [] else []) + length (filter (λ x. is_kill x.ask) xs)
        go true = omega arith
        go false = omega arith

-- IN ALL
filter_below : (f : ℕ → Bool) (cs : List ℕ) → length (filter f cs) ≤ length cs
filter_below f [] = omega arith
filter_below f (c ∷ cs) = go (f c) (filter_below f cs)
  where
    go : (v : Bool) → length (filter f cs) ≤ length cs → length (if v then c ∷ filter f cs else filter f cs) ≤ length (c ∷ cs)
    go true h = omega arith
    go false h = omega arith

parted : (xs : List Exchange) → length xs ≡ length (filter (λ x. not (is_kill x.ask)) xs) + length (kills xs)
parted [] = refl
parted (x ∷ xs) = go (is_kill x.ask) (parted xs)
  where
    go : (v : Bool) → length xs ≡ length (filter (λ x. not (is_kill x.ask)) xs) + length (filter (λ x. is_kill x.ask) xs) →
        length (x ∷ xs) ≡ length (if not v then x ∷ filter (λ x. not (is_kill x.ask)) xs else filter (λ x. not (is_kill x.ask)) xs) + length (if v then x ∷ filter (λ x. is_kill x.ask) xs else filter (λ x. is_kill x.ask) xs)
    go true h = omega arith
    go false h = omega arith

pub few_in_all : (program : Program) (bound : ℕ) (script : Script) → FewInAll program bound (start script)
few_in_all program bound script xs said c r =
    let i : Lives xs said c × Fair [] xs = killed_fairly program bound script xs said c r in
    let a : length (kills xs) + 0 ≤ length (filter (λ c. gone c xs) (children_started xs)) = kills_few [] xs i.1 in
    let b : length (filter (λ c. gone c xs) (children_started xs)) ≤ length (children_started xs) = filter_below (λ c. gone c xs) (children_started xs) in
    let d : length (children_started xs) ≡ length c.state.processes = ap length i.0.1.children ∙ (ap length (cores_children c.state.processes) ∙ length-map c.state.processes (λ x. x.child)) in
    let e : length c.state.processes ≤ most_processes = few_processes program bound script xs said c r in
    let f : length (filter (λ x. not (is_kill x.ask)) xs) ≤ most_exchanges = few_exchanges program bound script xs said c r in
    let g : length xs ≡ length (filter (λ x. not (is_kill x.ask)) xs) + length (kills xs) = parted xs in
    omega arith
