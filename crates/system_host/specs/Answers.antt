-- What real children answer, and what each call did to them.
use Rattle.std.specs.Prelude.{◌≡◌, ◌≢◌, ◌≤◌, ℕ, List, [], ◌∷◌, ◌++◌, length, slice_get, Bool, Option}
use Rattle.std.specs.Prelude.{Some, None, IsSome, IfSome}
use Rattle.std.specs.Option.{option_and_then}
use Rattle.std.specs.Io.KnownBytes.{Appends, Consumes, Keeps, IsAtEnd}
use Rattle.std.specs.Process.{child_status, exit_code}
use Rattle.std.specs.declared.process.child.Child.{Child}
use Rattle.std.specs.declared.process.status.ExitStatus.{ExitStatus}
use Rattle.plain_machine.specs.Exchanges.{Ask, Answer, Spawn, Read, AskEnd, Send, Close, Kill, Started}
use Rattle.plain_machine.specs.Exchanges.{Refused, Bytes, End, Code, Signal, Sent, Broken, Closed}
use Rattle.plain_machine.specs.Exchanges.{Killed, Failed}
use Rattle.host_link.specs.Hosts.{HostState, faults_after}

-- THE HOST
-- the children that were started, by number; for each whether it was asked Kill; and how many calls failed
pub record Children (C : Type 0) : Type 0 where
  pub children : List C
  pub kills : List Bool
  pub faults : ℕ

-- a host of real children tells no exchanges
abbrev pub untold : {C : Type 0} → Children C → HostState
untold h = record { told = None; faults = h.faults; kills = h.kills }

-- A CHILD BY ITS NUMBER
-- a part of a child, if it was started and has that part
abbrev pub of_child : {C A : Type 0} → (part : C → Option A) → List C → (child : ℕ) → Option A
of_child part children child = option_and_then part (slice_get children child)

abbrev pub input_of : {P I O E : Type 0} → List (Child P I O E) → (child : ℕ) → Option I
input_of children child = of_child (λ c. c.stdin) children child

abbrev pub output_of : {P I O E : Type 0} → List (Child P I O E) → (child : ℕ) → Option O
output_of children child = of_child (λ c. c.stdout) children child

-- how it ended, once it was waited for
abbrev pub status_of : {P I O E : Type 0} → List (Child P I O E) → (child : ℕ) → Option ExitStatus
status_of children child = of_child child_status children child

-- WHICH CHILDREN STAY
-- the child that is asked; a spawn asks none
abbrev pub asked_child : Ask → Option ℕ
asked_child (Spawn program args) = None
asked_child (Read child) = Some child
asked_child (AskEnd child) = Some child
asked_child (Send child bytes) = Some child
asked_child (Close child) = Some child
asked_child (Kill child) = Some child

-- all children but one are as they were, and there are as many as before
pub record OthersStay {C : Type 0} (child : ℕ) (old new : List C) : Type 0 where
  pub others : (other : ℕ) → other ≢ child → slice_get new other ≡ slice_get old other
  pub count : length new ≡ length old

-- all children are as they were, and there is one more behind them
abbrev pub AddsChild : {C : Type 0} → (old new : List C) → Type 0
AddsChild {C} old new = (c : C) × (new ≡ old ++ c ∷ [])

-- READS
-- What a read took from the bytes that are left, where they are known: some, no more than there was room
-- for; or none, at the end and where it failed.
abbrev pub Gives : (old new : Option (List ℕ)) → (room : ℕ) → Answer → Type 0
Gives old new room (Bytes bytes) = (1 ≤ length bytes) × (length bytes ≤ room) × Consumes old new bytes
Gives old new room End = Keeps old new × IsAtEnd old
Gives old new room Failed = Keeps old new
Gives old new room _ = ⊥

-- the same of an output that may be none: there the end is answered
abbrev pub OutputGives : {O : Type 0} → (left : O → Option (List ℕ)) → (old new : Option O) →
    (room : ℕ) → Answer → Type 0
OutputGives left None None room End = Unit {0}
OutputGives left (Some old) (Some new) room answer = Gives (left old) (left new) room answer
OutputGives left _ _ room _ = ⊥

-- WRITES
-- all the bytes went into the input, which is there
abbrev pub InputTakes : {I : Type 0} → (held : I → Option (List ℕ)) → (old new : Option I) →
    (bytes : List ℕ) → Type 0
InputTakes held (Some old) (Some new) bytes = Appends (held old) (held new) bytes
InputTakes held _ _ bytes = ⊥

-- ENDS
-- How a child that was waited for has ended: by its exit code, or by a signal where it has none. Where the
-- wait failed nothing is said.
abbrev pub EndsAs : (status : Option ExitStatus) → Answer → Type 0
EndsAs status Failed = Unit {0}
EndsAs (Some status) (Code code) = exit_code status ≡ Some code
EndsAs (Some status) Signal = exit_code status ≡ None
EndsAs _ _ = ⊥

-- WHAT A CALL CHANGES
-- nothing of the child has changed but its input
abbrev pub ChangesInput : {P I O E : Type 0} → (old new : List (Child P I O E)) → (child : ℕ) → Type 0
ChangesInput old new child =
    IfSome (slice_get old child) (λ c. slice_get new child ≡ Some (record c { stdin = input_of new child }))

-- nothing of the child has changed but its output
abbrev pub ChangesOutput : {P I O E : Type 0} → (old new : List (Child P I O E)) → (child : ℕ) → Type 0
ChangesOutput old new child =
    IfSome (slice_get old child) (λ c. slice_get new child ≡ Some (record c { stdout = output_of new child }))

-- a child that was waited for before has ended as it had then
abbrev pub KeepsEnd : {P I O E : Type 0} → (old new : List (Child P I O E)) → (child : ℕ) → Type 0
KeepsEnd old new child = IfSome (status_of old child) (λ status. status_of new child ≡ Some status)

-- WHAT A CALL DID
-- What a call did to the child that was asked, by the ask and the answer. `left` are the bytes of an output
-- that are still to be read, `held` those that an input was given, where they are known. The question how a
-- child has ended closes its input first, and a child that was killed has no input either. Where a wait or
-- a kill failed nothing is said of how a child stands that wasn't waited for before, and behind a wait or a
-- kill nothing is said of its output.
abbrev pub Did : {P I O E : Type 0} → (left : O → Option (List ℕ)) → (held : I → Option (List ℕ)) →
    (old new : List (Child P I O E)) → Ask → (room : ℕ) → Answer → Type 0
Did left held old new (Spawn program args) room (Started child) = (child ≡ length old) × AddsChild old new
Did left held old new (Spawn program args) room Refused = new ≡ old
Did left held old new (Read child) room answer =
    OutputGives left (output_of old child) (output_of new child) room answer × ChangesOutput old new child
Did left held old new (AskEnd child) room answer =
    EndsAs (status_of new child) answer × KeepsEnd old new child × (input_of new child ≡ None)
Did left held old new (Send child bytes) room Sent =
    InputTakes held (input_of old child) (input_of new child) bytes × ChangesInput old new child
Did left held old new (Send child bytes) room Broken = ChangesInput old new child
Did left held old new (Close child) room Closed = (input_of new child ≡ None) × ChangesInput old new child
Did left held old new (Kill child) room Killed =
    IsSome (status_of new child) × KeepsEnd old new child × (input_of new child ≡ None)
Did left held old new (Kill child) room Failed = KeepsEnd old new child
Did left held old new _ room _ = ⊥

-- One call: each answer that is a fault counts once, and no other answer counts; no child changes but the
-- one that is asked.
pub record IsChildCall {P I O E : Type 0} (left : O → Option (List ℕ)) (held : I → Option (List ℕ))
    (old new : Children (Child P I O E)) (ask : Ask) (room : ℕ) (answer : Answer) : Type 0 where
  pub faults : new.faults ≡ faults_after answer old.faults
  pub others : IfSome (asked_child ask) (λ child. OthersStay child old.children new.children)
  pub did : Did left held old.children new.children ask room answer
