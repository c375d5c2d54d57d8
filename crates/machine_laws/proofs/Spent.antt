-- How many exchanges other than kills were made: as many as the state counts, and no more than may be.
use Rattle.std.proofs.Common.{◌≡◌, ℕ, ◌+◌, ◌<◌, ◌≤◌, Bool, true, false, List, [], ◌∷◌, ◌++◌, length, refl, ap, sym, ◌∙◌, subst, arith}
use Rattle.std.proofs.lemmas.List.{length-append}
use Rattle.std.proofs.lemmas.List.Elements.{filter-append}
use Rattle.std.specs.Prelude.{Option, Some, None, not, filter, codes, if◌then◌else◌}
use Rattle.editor_model.specs.Values.{Value, Script}
use Rattle.plain_machine.specs.Exchanges.{Exchange, Ask, Answer, Started, Bytes, Code, End, Signal, Running, Sent, Broken, Closed, Killed}
use Rattle.plain_machine.specs.State.{State, Program, Process, Exited, Signalled, Lost, change_process, read_so_far}
use Rattle.plain_machine.specs.Lines.{KilledLast}
use Rattle.plain_machine.specs.Items.{Item, Finish, Target, Waiting, Said, Config, Next, Goes, Asks}
use Rattle.plain_machine.specs.Calls.{spawned, spawned_child, is_new_child, sent_answer, closed_answer, with_input_closed}
use Rattle.plain_machine.specs.Refusals.{may_ask, most_exchanges}
use Rattle.plain_machine.specs.Forms.{says}
use Rattle.plain_machine.specs.Waits.{read_answer, hear, end_answer, ends, kill_answer, asked_more, is_room}
use Rattle.plain_machine.specs.Step.{step}
use Rattle.plain_machine.specs.Run.{start}
use Rattle.plain_machine.proofs.Composed.{over_runs}
use Rattle.machine_laws.specs.Children.{is_kill, FewExchanges}
use Rattle.machine_laws.proofs.Keeping.{Asking, spawns, sends, closes, reads, asks_end, deletes, finishes, Keeps, kept, change_asked, step_keeps}

-- what a step does to the count
abbrev Counted : (is_kill : Bool) → (before after : ℕ) → Type 0
Counted true a b = b ≡ a
Counted false a b = (a < most_exchanges) × (b ≡ a + 1)

-- where an answer is taken, it is counted, or not
abbrev Counts : (is_kill : Bool) → State → Option Next → Type 0
Counts k s None = Unit {0}
Counts k s (Some n) = Counted k s.asked n.config.state.asked

may_is : (s : State) → may_ask s ≡ true → s.asked < most_exchanges
may_is s h = grind arith

-- a change of one process leaves the count
changed_counts : (k : Bool) (s t : State) (p : ℕ) (f : Process → Process) → Counted k s.asked t.asked → Counted k s.asked (change_process p f t).asked
changed_counts k s t p f h = subst (λ n. Counted k s.asked n) (sym (change_asked p f t)) h

-- EACH ANSWER
spawned_counts : (s : State) (target : Target) (rest : List Item) (name b : Value) (answer : Answer) → s.asked < most_exchanges → Counts false s (spawned s target rest name b answer)
spawned_counts s target rest name b (Started child) l = go (is_new_child s child)
  where
    go : (new : Bool) → Counts false s (spawned_child new s target rest name b child)
    go true = (l, refl)
    go false = tt
spawned_counts s target rest name b Answer.Refused l = (l, refl)
spawned_counts s target rest name b _ l = tt

sent_counts : (s : State) (target : Target) (rest : List Item) (size : ℕ) (answer : Answer) → s.asked < most_exchanges → Counts false s (sent_answer s target rest size answer)
sent_counts s target rest size Sent l = (l, refl)
sent_counts s target rest size Broken l = (l, refl)
sent_counts s target rest size _ l = tt

closed_counts : (s : State) (target : Target) (rest : List Item) (p : ℕ) (answer : Answer) → s.asked < most_exchanges → Counts false s (closed_answer s target rest p answer)
closed_counts s target rest p Closed l = changed_counts false s (record s { asked = s.asked + 1 }) p with_input_closed (l, refl)
closed_counts s target rest p _ l = tt

read_counts : (s : State) (w : Waiting) (target : Target) (rest : List Item) (p : ℕ) (x : Process) (answer : Answer) → s.asked < most_exchanges → Counts false s (read_answer s w target rest p x answer)
read_counts s w target rest p x (Bytes bytes) l = go (is_room bytes)
  where
    go : (fits : Bool) → Counts false s (hear fits s w target rest p x bytes)
    go true = changed_counts false s (asked_more s) p (λ y. record y { bytes = Some (read_so_far x ++ bytes) }) (l, refl)
    go false = tt
read_counts s w target rest p x Answer.Nothing l = (l, refl)
read_counts s w target rest p x End l = changed_counts false s (asked_more s) p (λ y. record y { drained = true }) (l, refl)
read_counts s w target rest p x Answer.Failed l = changed_counts false s (asked_more s) p (λ y. record y { drained = true }) (l, refl)
read_counts s w target rest p x _ l = tt

end_counts : (s : State) (w : Waiting) (target : Target) (rest : List Item) (p : ℕ) (x : Process) (answer : Answer) → s.asked < most_exchanges → Counts false s (end_answer s w target rest p x answer)
end_counts s w target rest p x (Code c) l = changed_counts false s (asked_more s) p (λ y. record y { status = Exited c }) (l, refl)
end_counts s w target rest p x Signal l = changed_counts false s (asked_more s) p (λ y. record y { status = Signalled }) (l, refl)
end_counts s w target rest p x Answer.Failed l = changed_counts false s (asked_more s) p (λ y. record y { status = Lost }) (l, refl)
end_counts s w target rest p x Running l = (l, refl)
end_counts s w target rest p x _ l = tt

kill_counts : (s : State) (n : Next) (answer : Answer) → n.config.state.asked ≡ s.asked → Counts true s (kill_answer n answer)
kill_counts s n Killed h = h
kill_counts s n Answer.Failed h = h
kill_counts s n _ h = tt

-- each ask by its answer
asking_counts : (s : State) (ask : Ask) (next : Answer → Option Next) (answer : Answer) → Asking s ask next → Counts (is_kill ask) s (next answer)
asking_counts s ask next answer (spawns target rest name b words args m l e f) = rw (e, f) (spawned_counts s target rest name b answer (may_is s m))
asking_counts s ask next answer (sends target rest child size bytes m e f) = rw (e, f) (sent_counts s target rest size answer (may_is s m))
asking_counts s ask next answer (closes target rest child p m e f) = rw (e, f) (closed_counts s target rest p answer (may_is s m))
asking_counts s ask next answer (reads w target rest p x m h d e f) = rw (e, f) (read_counts s w target rest p x answer (may_is s m))
asking_counts s ask next answer (asks_end w target rest p x m h d e f) = rw (e, f) (end_counts s w target rest p x answer (may_is s m))
asking_counts s ask next answer (deletes rest p x h r e f) = rw (e, f) (kill_counts s (ends s p x Signalled (codes "killed\n") rest) answer (change_asked p (λ y. record y { status = Signalled }) s))
asking_counts s ask next answer (finishes program p x h r e f) = rw (e, f) (kill_counts s (says program s (KilledLast p) s (Finish (p + 1) ∷ [])) answer refl)

-- EACH STEP
goes_same : (program : Program) (bound : ℕ) (c : Config) (n : Next) → step program bound c ≡ Goes n → n.config.state.asked ≡ c.state.asked
goes_same program bound c n e = let k : kept n.config.state ≡ kept c.state = subst (λ t. Keeps c.state t) e (step_keeps program bound c) in ap (λ k. k.1) k

asks_counted : (program : Program) (bound : ℕ) (c : Config) (ask : Ask) (next : Answer → Option Next) (answer : Answer) (n : Next) → step program bound c ≡ Asks ask next → next answer ≡ Some n → Counted (is_kill ask) c.state.asked n.config.state.asked
asks_counted program bound c ask next answer n e h =
    let k : Asking c.state ask next = subst (λ t. Keeps c.state t) e (step_keeps program bound c) in
    let x : Counts (is_kill ask) c.state (Some n) = subst (λ o. Counts (is_kill ask) c.state o) h (asking_counts c.state ask next answer k) in x

-- OVER A RUN
abbrev others : List Exchange → List Exchange
others xs = filter (λ x. not (is_kill x.ask)) xs

abbrev Tally : List Exchange → List Said → Config → Type 0
Tally xs said c = (length (others xs) ≡ c.state.asked) × (c.state.asked ≤ most_exchanges)

tally_asking : (xs : List Exchange) (s t : State) (ask : Ask) (answer : Answer) → length (others xs) ≡ s.asked → s.asked ≤ most_exchanges → Counted (is_kill ask) s.asked t.asked → (length (others (xs ++ record { ask = ask; answer = answer } ∷ [])) ≡ t.asked) × (t.asked ≤ most_exchanges)
tally_asking xs s t ask answer e l c = go (is_kill ask) c (filter-append (λ (x : Exchange). not (is_kill x.ask)) xs (record { ask = ask; answer = answer } ∷ []))
  where
    go : (b : Bool) → Counted b s.asked t.asked → others (xs ++ record { ask = ask; answer = answer } ∷ []) ≡ others xs ++ (if not b then record { ask = ask; answer = answer } ∷ [] else []) → (length (others (xs ++ record { ask = ask; answer = answer } ∷ [])) ≡ t.asked) × (t.asked ≤ most_exchanges)
    go true c k =
        let m : length (others (xs ++ record { ask = ask; answer = answer } ∷ [])) ≡ length (others xs) + 0 = ap length k ∙ length-append (others xs) [] in
        let d : t.asked ≡ s.asked = c in
        (omega arith, omega arith)
    go false c k =
        let m : length (others (xs ++ record { ask = ask; answer = answer } ∷ [])) ≡ length (others xs) + 1 = ap length k ∙ length-append (others xs) (record { ask = ask; answer = answer } ∷ []) in
        let d : t.asked ≡ s.asked + 1 = c.1 in
        let f : s.asked < most_exchanges = c.0 in
        (omega arith, omega arith)

pub few_exchanges : (program : Program) (bound : ℕ) (script : Script) → FewExchanges program bound (start script)
few_exchanges program bound script xs said c r =
    let i : Tally xs said c = over_runs program bound Tally
    (λ xs said c x i e. let k : x.config.state.asked ≡ c.state.asked = goes_same program bound c x e in (i.0 ∙ sym k, rw k i.1))
    (λ xs said c ask answer k x i e h. tally_asking xs c.state x.config.state ask answer i.0 i.1 (asks_counted program bound c ask k answer x e h))
    r [] [] (refl, omega arith) in
    rw i.0 i.1
