-- Entries: what the filters and sentinels of a process are entered with, in every run.
use Rattle.std.specs.Prelude.{◌≡◌, ◌⊎◌, ℕ, Bool, true, false, ◌==◌, List, [], ◌∷◌, ◌++◌, map, flat_map}
use Rattle.std.specs.Prelude.{slice_get, if◌then◌else◌, Some, None}
use Rattle.std.specs.List.{list_any}
use Rattle.text_model.specs.Characters.{Ch}
use Rattle.text_model.specs.Codings.{Coding, Utf8, decoded, all_decoded}
use Rattle.editor_model.specs.Values.{Script}
use Rattle.plain_machine.specs.Exchanges.{Ask, Read, AskEnd, Kill, Answer, Bytes, End, Exchange}
use Rattle.plain_machine.specs.Exchanges.{children_started}
use Rattle.plain_machine.specs.State.{State, Process, Program, process}
use Rattle.plain_machine.specs.Lines.{OfFilter, OfSentinel, Event, Entered}
use Rattle.plain_machine.specs.Items.{Said, Config}
use Rattle.plain_machine.specs.Arguments.{runs}
use Rattle.plain_machine.specs.Handling.{second}
use Rattle.plain_machine.specs.WholeRuns.{IsBetweenEntries, Ran, BrokenOff}
use Rattle.plain_machine.specs.Run.{Reaches}

-- OF ONE PROCESS
-- the text with which its filter was entered
abbrev pub entered_text : (p : ℕ) → Event → List Ch
entered_text p (Entered depth (OfFilter q) handler args) = if q == p then map (λ c. c.0) (second args) else []
entered_text p _ = []

-- the texts of its filter entries, joined
abbrev pub entered : (p : ℕ) → List Said → List Ch
entered p said = flat_map (λ x. entered_text p x.event) said

abbrev pub read_bytes : (child : ℕ) → Ask → Answer → List ℕ
read_bytes child (Read c) (Bytes bytes) = if c == child then bytes else []
read_bytes child _ _ = []

-- the bytes that were read from its child, joined
abbrev pub read : (child : ℕ) → List Exchange → List ℕ
read child exchanges = flat_map (λ x. read_bytes child x.ask x.answer) exchanges

abbrev pub is_end : (child : ℕ) → Ask → Answer → Bool
is_end child (Read c) End = c == child
is_end child (Read c) Answer.Failed = c == child
is_end child _ _ = false

-- whether a read of the child was answered by its end
abbrev pub output_ended : (child : ℕ) → List Exchange → Bool
output_ended child exchanges = list_any (λ x. is_end child x.ask x.answer) exchanges

-- what was heard of it, in a coding
abbrev pub heard : Coding → (child : ℕ) → List Exchange → List Ch
heard coding child exchanges = if output_ended child exchanges
    then all_decoded coding (read child exchanges) else decoded coding (read child exchanges)

-- how the output of a process is decoded
abbrev pub coding_in : State → (p : ℕ) → Coding
coding_in s p = elim (process s p) [ Some x ↦ x.coding | None ↦ Utf8 ]

-- a sentinel's entry, or a filter's, of a process
abbrev pub is_entry : (sentinel : Bool) → (p : ℕ) → Event → Bool
is_entry false p (Entered depth (OfFilter q) handler args) = q == p
is_entry true p (Entered depth (OfSentinel q) handler args) = q == p
is_entry sentinel p _ = false

abbrev pub has_entry : (sentinel : Bool) → (p : ℕ) → List Said → Bool
has_entry sentinel p said = list_any (λ x. is_entry sentinel p x.event) said

-- OF ALL PROCESSES
-- The filter of each process was entered with just what was read from its child, decoded as this state
-- says. Process p is the one whose child was started as number p, counted from 0.
abbrev pub AreHeard : State → List Exchange → List Said → Type 0
AreHeard s exchanges said = (p child : ℕ) → slice_get (children_started exchanges) p ≡ Some child →
    entered p said ≡ heard (coding_in s p) child exchanges

-- each process has at most one sentinel entry, and no filter entry behind it
abbrev pub SentinelsComeLast : List Said → Type 0
SentinelsComeLast said =
    (before after : List Said) (x : Said) (p : ℕ) → said ≡ before ++ x ∷ after →
    is_entry true p x.event ≡ true → (has_entry true p after ≡ false) × (has_entry false p after ≡ false)

-- the end of a child is asked after a read of it that was answered by its end
abbrev pub EndsComeAfterOutput : List Exchange → Type 0
EndsComeAfterOutput exchanges =
    (before after : List Exchange) (x : Exchange) (child : ℕ) → exchanges ≡ before ++ x ∷ after →
    x.ask ≡ AskEnd child → output_ended child before ≡ true

-- THE LAWS, of a run from some start over these exchanges
-- what the filters were entered with is the decoding of what was read
abbrev pub Entries : Program → ℕ → Config → Type 0
Entries program bound from =
    (exchanges : List Exchange) (said : List Said) (c : Config) →
    Reaches program bound from exchanges said c → IsBetweenEntries c →
    (p : ℕ) (x : Process) → process c.state p ≡ Some x → entered p said ≡ heard x.coding x.child exchanges

-- the same by the exchanges and the lines
abbrev pub EntriesOfChildren : Program → ℕ → Config → Type 0
EntriesOfChildren program bound from =
    (exchanges : List Exchange) (said : List Said) (c : Config) →
    Reaches program bound from exchanges said c → IsBetweenEntries c → AreHeard c.state exchanges said

-- once bytes were read of a process its coding stays
abbrev pub CodingsStay : Program → ℕ → Config → Type 0
CodingsStay program bound from =
    (before after : List Exchange) (said more : List Said) (c d : Config) →
    Reaches program bound from before said c → Reaches program bound c after more d →
    (p : ℕ) (x : Process) → process c.state p ≡ Some x → (read x.child before ≡ [] → ⊥) →
    (y : Process) × (process d.state p ≡ Some y) × (y.coding ≡ x.coding)

abbrev pub Sentinels : Program → ℕ → Config → Type 0
Sentinels program bound from =
    (exchanges : List Exchange) (said : List Said) (c : Config) →
    Reaches program bound from exchanges said c → SentinelsComeLast said

abbrev pub EndsAfterOutput : Program → ℕ → Config → Type 0
EndsAfterOutput program bound from =
    (exchanges : List Exchange) (said : List Said) (c : Config) →
    Reaches program bound from exchanges said c → EndsComeAfterOutput exchanges

-- whether the child was asked to be killed
abbrev pub asks_kill : (child : ℕ) → Ask → Bool
asks_kill child (Kill c) = c == child
asks_kill child _ = false

abbrev pub killed : (child : ℕ) → List Exchange → Bool
killed child exchanges = list_any (λ x. asks_kill child x.ask) exchanges

-- A process whose sentinel was entered runs no more: its child was killed, or a read of it was answered by
-- its end before.
abbrev pub SentinelsAfterOutput : Program → ℕ → Config → Type 0
SentinelsAfterOutput program bound from =
    (exchanges : List Exchange) (said : List Said) (c : Config) → Reaches program bound from exchanges said c →
    (p : ℕ) (x : Process) → process c.state p ≡ Some x → has_entry true p said ≡ true →
    (runs x.status ≡ false) × ((killed x.child exchanges ≡ true) ⊎ (output_ended x.child exchanges ≡ true))

-- WHOLE RUNS
-- Of a whole run, and of one that was broken off: what the filters were entered with is what was read, decoded.
abbrev pub RanEntries : Program → ℕ → Script → Type 0
RanEntries program bound script =
    (exchanges : List Exchange) (written : List ℕ)
    (r : Ran program bound script exchanges written) → AreHeard r.last.state exchanges r.said

abbrev pub BrokenEntries : Program → ℕ → Script → Type 0
BrokenEntries program bound script =
    (exchanges : List Exchange) (written : List ℕ)
    (r : BrokenOff program bound script exchanges written) → AreHeard r.last.state r.made r.said
