-- Processes as arguments of calls.
use Rattle.std.specs.Prelude.{◌≡◌, ℕ, ◌<◌, [], ◌∷◌, Option, Some, None, Result, MatchResult}
use Rattle.editor_model.specs.Values.{Value, TheProcess, Fault}
use Rattle.editor_model.specs.Answers.{first_fault}
use Rattle.plain_machine.specs.State.{State}
use Rattle.plain_machine.specs.Arguments.{process_of}
use Rattle.plain_machine.specs.Refusals.{must_be_process, process_there}
use Rattle.ek_call.specs.Faults.{fault_of}
use Rattle.ek_call.specs.declared.fault.Fault as declared

-- the first of the machine's tests of a process argument that refuses it
abbrev pub refusal : State → Value → Option Fault
refusal s v = first_fault (must_be_process v ∷ process_there s v ∷ [])

-- that refusal, or the process where there is none
abbrev pub Resolves : State → Value → Result ℕ declared.Fault → Type 0
Resolves s v result =
    MatchResult result (λ p. (refusal s v ≡ None) × (process_of s v ≡ p)) (λ f. refusal s v ≡ Some (fault_of f))

-- a process that is given is one of the first so many
abbrev pub IsMade : (count : ℕ) → Value → Type 0
IsMade count (TheProcess p) = p < count
IsMade count _ = Unit {0}
