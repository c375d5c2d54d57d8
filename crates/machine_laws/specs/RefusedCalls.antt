-- Refused calls, with whatever handlers between: what is left of one is what these did, and the exchanges,
-- and nothing else. The lines of the call are those of these handlers.
use Rattle.std.specs.Prelude.{◌≡◌, ℕ, Bool, true, false, nat_lt, nat_le, List, [], ◌∷◌, ◌++◌, drop}
use Rattle.std.specs.Prelude.{Option, Some}
use Rattle.std.specs.List.{list_all}
use Rattle.text_model.specs.Marks.{Pending}
use Rattle.editor_model.specs.Values.{Value, Fault, Prim}
use Rattle.editor_model.specs.Editor.{is_live}
use Rattle.plain_machine.specs.Exchanges.{Ask, AskEnd, Kill, Answer, Code, Signal, Killed, Failed, Exchange}
use Rattle.plain_machine.specs.State.{State, Process, Status, Exited, Signalled, Lost, Program, process}
use Rattle.plain_machine.specs.State.{change_process}
use Rattle.plain_machine.specs.Lines.{Kind, Event, Replied, Entered, Left}
use Rattle.plain_machine.specs.Items.{Item, MakeCall, Refuse, Enter, Exit, Target, Said, Config}
use Rattle.plain_machine.specs.Forms.{saved_of, popped}
use Rattle.plain_machine.specs.Handling.{left_state, ended_handler, exit}
use Rattle.plain_machine.specs.Waits.{asked_more}
use Rattle.plain_machine.specs.Run.{Reaches}
use Rattle.machine_laws.specs.Brackets.{levels}
use Rattle.machine_laws.specs.Refusals.{Leaves}

-- HANDLERS
-- A handler that was entered in the one state and left in the other, whatever it did. Its lines begin with
-- that of its entry and end with that of its exit. Its end makes the buffer of its entry current again,
-- if this lives, and takes back what the entry raised; a hook list that a fault emptied is empty.
pub record Handled (program : Program) (bound : ℕ) (s t : State) (exchanges : List Exchange)
    (said : List Said) : Type 0 where
  pub kind : Kind
  pub handler : Option ℕ
  pub args : List Value
  pub faulted : Bool
  pub rest : List Item
  pub before_exit : List Said
  pub last : State
  pub way : Reaches program bound (record { state = s; work = Enter kind handler args ∷ rest })
      exchanges before_exit (record { state = last; work = Exit kind handler s.editor.current faulted ∷ rest })
  pub says : said ≡ before_exit ++ (exit program last kind handler s.editor.current faulted rest).said
  pub end : t ≡ (ended_handler kind faulted (left_state last s.editor.current) rest).state
  pub bracket : levels t ≡ levels s
  pub current : is_live t.editor s.editor.current ≡ true → t.editor.current ≡ s.editor.current

-- PROCESSES THAT END
abbrev pub EndedAs : (child : ℕ) → Status → State → State → Type 0
EndedAs child status s t = (p : ℕ) × (x : Process) × (process s p ≡ Some x) × (x.child ≡ child) ×
    (t ≡ change_process p (λ y. record y { status = status }) s)

-- An exchange by which a process ends, and its sentinel is entered: its end was told to a wait, or it was
-- killed before its buffer is.
abbrev pub Ends : Ask → Answer → State → State → Type 0
Ends (AskEnd child) (Code n) s t = EndedAs child (Exited n) (asked_more s) t
Ends (AskEnd child) Signal s t = EndedAs child Signalled (asked_more s) t
Ends (AskEnd child) Failed s t = EndedAs child Lost (asked_more s) t
Ends (Kill child) Killed s t = EndedAs child Signalled s t
Ends (Kill child) Failed s t = EndedAs child Signalled s t
Ends _ _ s t = ⊥

-- A CALL
-- a state without the kept ends of a change under way, whose hook functions are entered with hooks inhibited
abbrev pub without_change : State → State
without_change s = popped (record s { inhibited = false })

-- the kept ends of a change are the uppermost of the kept places
abbrev pub ChangeUnderWay : State → Type 0
ChangeUnderWay s = (b : ℕ) × (from : ℕ) × (to : ℕ) × (saved_of s ≡ Pending b from to ∷ drop 1 (saved_of s))

-- What a call that isn't answered yet has made of a state, over these exchanges and lines: what exchanges
-- left, and what handlers did that were entered in it. The functions before a change are entered while its
-- ends are kept. All the lines are those of the handlers, one after the other.
pub data LeftByCall (program : Program) (bound : ℕ) (s : State) : List Exchange → List Said → State → Type 0 where
  nothing : LeftByCall program bound s [] [] s
  exchanged : (x : Exchange) (exchanges : List Exchange) (said : List Said) (u t : State) →
      LeftByCall program bound s exchanges said u → Leaves x.ask x.answer u t →
      LeftByCall program bound s (exchanges ++ x ∷ []) said t
  ended : (x : Exchange) (exchanges : List Exchange) (said : List Said) (u t : State) →
      LeftByCall program bound s exchanges said u → Ends x.ask x.answer u t →
      LeftByCall program bound s (exchanges ++ x ∷ []) said t
  handled : (first second : List Exchange) (said more : List Said) (u t : State) →
      LeftByCall program bound s first said u → Handled program bound u t second more →
      LeftByCall program bound s (first ++ second) (said ++ more) t
  hooked : (first second : List Exchange) (said more : List Said) (u v w : State) →
      LeftByCall program bound s first said u → without_change v ≡ u → ChangeUnderWay v →
      Handled program bound v w second more →
      LeftByCall program bound s (first ++ second) (said ++ more) (without_change w)

-- a line of a handler that was entered at this depth, or of what ran in it
abbrev pub is_within : (depth : ℕ) → Event → Bool
is_within d (Replied depth reply) = nat_lt d depth
is_within d (Entered depth kind handler args) = nat_le d depth
is_within d (Left depth handler) = nat_le d depth
is_within d _ = false

-- From a call that a run comes to, to its refusal, whose own line comes next: all lines between are of
-- handlers that ran in it. The state is left by pieces that say just these lines.
abbrev pub RefusedCallsLeave : Program → ℕ → Config → Type 0
RefusedCallsLeave program bound from =
    (before exchanges : List Exchange) (earlier said : List Said) (s t : State) (prim : Prim)
    (args : List Value) (target : Target) (rest more : List Item) (fault : Fault) →
    Reaches program bound from before earlier (record { state = s; work = MakeCall prim args target ∷ rest }) →
    Reaches program bound (record { state = s; work = MakeCall prim args target ∷ rest }) exchanges said
    (record { state = t; work = Refuse fault ∷ more }) →
    list_all (λ x. is_within s.depth x.event) said ≡ true → t.depth ≡ s.depth →
    LeftByCall program bound s exchanges said t
