-- Refusals: a call that is refused leaves the state as it was, but for just what the exchanges on the way
-- leave.
use Rattle.std.specs.Prelude.{◌≡◌, ℕ, ◌+◌, true, List, [], ◌∷◌, ◌++◌, length, Some}
use Rattle.editor_model.specs.Values.{Fault, Do, Setq}
use Rattle.plain_machine.specs.Exchanges.{Ask, Spawn, Read, AskEnd, Send, Answer, Bytes, Refused}
use Rattle.plain_machine.specs.Exchanges.{Nothing, End, Running, Broken, Failed, Exchange}
use Rattle.plain_machine.specs.State.{State, Process, Program, process, change_process, read_so_far}
use Rattle.plain_machine.specs.Items.{Item, DoForm, MakeCall, GiveAnswer, Refuse, Hooks, Calm}
use Rattle.plain_machine.specs.Items.{CommitChange, Enter, Exit, Wait, Delete}
use Rattle.plain_machine.specs.Forms.{popped}
use Rattle.plain_machine.specs.Waits.{asked_more}
use Rattle.plain_machine.specs.Run.{Reaches}

-- WHAT EXCHANGES LEAVE
-- the process of a child, and it alone, changed so; and the exchange counted
abbrev pub Noted : (child : ℕ) → (Process → Process) → State → State → Type 0
Noted child change s t = (p : ℕ) × (x : Process) × (process s p ≡ Some x) × (x.child ≡ child) ×
    (t ≡ change_process p change (asked_more s))

-- What an exchange leaves that enters no handler and answers no call. A read leaves its bytes, or that the
-- output has ended, in the process that it names; a send leaves the count of its bytes; and all are
-- counted.
abbrev pub Leaves : Ask → Answer → State → State → Type 0
Leaves (Read child) (Bytes bytes) s t =
    Noted child (λ x. record x { bytes = Some (read_so_far x ++ bytes) }) s t
Leaves (Read child) End s t = Noted child (λ x. record x { drained = true }) s t
Leaves (Read child) Failed s t = Noted child (λ x. record x { drained = true }) s t
Leaves (Read child) Nothing s t = t ≡ asked_more s
Leaves (AskEnd child) Running s t = t ≡ asked_more s
Leaves (Spawn program args) Refused s t = t ≡ asked_more s
Leaves (Send child bytes) Broken s t = t ≡ record s { asked = s.asked + 1; sent = s.sent + length bytes }
Leaves _ _ s t = ⊥

-- what these exchanges leave, one after the other: where there are none, the state is the same
abbrev pub AllLeave : List Exchange → State → State → Type 0
AllLeave [] s t = t ≡ s
AllLeave (x ∷ exchanges) s t = (u : State) × Leaves x.ask x.answer s u × AllLeave exchanges u t

-- CALLS
-- the next line that this work writes is an answer, the entry of a handler, or an exit
abbrev pub AnswersNext : List Item → Type 0
AnswersNext (GiveAnswer v target ∷ work) = Unit {0}
AnswersNext (Enter kind handler args ∷ work) = Unit {0}
AnswersNext (Exit kind handler current faulted ∷ work) = Unit {0}
AnswersNext (Hooks kind [] args ∷ work) = AnswersNext work
AnswersNext (Hooks kind (name ∷ names) args ∷ work) = Unit {0}
AnswersNext (Calm old ∷ work) = AnswersNext work
AnswersNext (Delete p ∷ work) = AnswersNext work
AnswersNext _ = ⊥

-- The items of a call that can still be refused: the call itself, as a form or made by a native; a wait; a
-- change that is to be committed, behind which its answer stands; a buffer that is to be killed.
abbrev pub IsOfCall : Item → (rest : List Item) → Type 0
IsOfCall (DoForm (Do c)) rest = Unit {0}
IsOfCall (DoForm (Setq name c)) rest = Unit {0}
IsOfCall (MakeCall prim args target) rest = Unit {0}
IsOfCall (Wait w target) rest = Unit {0}
IsOfCall (CommitChange c) rest = AnswersNext rest
IsOfCall (Item.KillBuffer b target) rest = Unit {0}
IsOfCall _ rest = ⊥

-- a state without the kept ends of the change that is to be committed
abbrev pub without_ends : Item → State → State
without_ends (CommitChange c) s = popped s
without_ends _ s = s

-- From an item of a call to the refusal of this call, with no line between: no handler was entered on the
-- way. (From the start of the call this says that a refused call in which no handler ran has changed
-- nothing but for its exchanges. Where handlers ran, it says the same from the moment at which the last of
-- them was left.)
abbrev pub RefusalsLeave : Program → ℕ → Type 0
RefusalsLeave program bound =
    (item : Item) (rest more : List Item) (s t : State) (exchanges : List Exchange) (fault : Fault) →
    IsOfCall item rest →
    Reaches program bound (record { state = s; work = item ∷ rest }) exchanges []
    (record { state = t; work = Refuse fault ∷ more }) →
    AllLeave exchanges (without_ends item s) t
