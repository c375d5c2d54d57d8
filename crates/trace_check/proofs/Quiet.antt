-- Steps that ask and say nothing.
use Rattle.std.proofs.Common.{◌≡◌, List, refl, ap, ◌∙◌}
use Rattle.std.proofs.KnownBytes.{Appends-nil}
use Rattle.plain_machine.specs.State.{State, Program}
use Rattle.plain_machine.specs.Items.{Item}
use Rattle.plain_machine.specs.Calls.{silent, on}
use Rattle.plain_machine.specs.Step.{step}
use Rattle.kernel_steps.specs.Outside.{deepest}
use Rattle.kernel_steps.specs.Work.{working}
use Rattle.kernel_steps.specs.Worlds.{Stands}
use Rattle.kernel_steps.proofs.KeptStates.{IsApart}
use Rattle.trace_check.specs.Steps.{Quietly}

module _ (program : Program) (known known2 : State) (work left : List Item) where
  -- the machine's state goes over into another one, for which the kernel stands then
  pub quietly : (change : State → State) → ((s : State) → Stands known s → Stands known2 (change s)) →
      ((s : State) → Stands known s → step program deepest (working s work) ≡ on (change s) left) → Quietly program known known2 work left
  quietly change stands steps = λ sink s h. record {
    next = silent (change s) left;
    steps = steps s h;
    stands = stands s h;
    left_is = refl;
    written = Appends-nil sink.held;
  }

  -- by a change in which processes have no part
  pub quietly_apart : (change : State → State) → IsApart change → known2 ≡ change known →
      ((s : State) → Stands known s → step program deepest (working s work) ≡ on (change s) left) → Quietly program known known2 work left
  quietly_apart change apart now steps = quietly change (λ s h. now ∙ ap change h ∙ apart.kept_same s) steps

-- the state stays
pub stays_put : (program : Program) (known : State) (work left : List Item) → ((s : State) → Stands known s → step program deepest (working s work) ≡ on s left) → Quietly program known known work left
stays_put program known work left steps = quietly program known known work left (λ s. s) (λ s h. h) steps
