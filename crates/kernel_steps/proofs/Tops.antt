-- The forms of the top level.
use Rattle.std.proofs.Common.{◌≡◌, List, [], ◌∷◌, Bool, Result, Ok, Err, refl}
use Rattle.editor_model.specs.Values.{Form, Forms, Then}
use Rattle.plain_machine.specs.State.{State, Program}
use Rattle.plain_machine.specs.Items.{Item, Config, Top, DoForm}
use Rattle.plain_machine.specs.Run.{stays, goes}
use Rattle.kernel_steps.specs.Handlers.{ended_by}
use Rattle.kernel_steps.specs.Worlds.{World}
use Rattle.kernel_steps.specs.Work.{working, IsBehind, Path, at_top}
use Rattle.kernel_steps.specs.declared.stop.Halt.{Halt}
use Rattle.kernel_steps.specs.declared.stop.Halt.TheVariants as halt
use Rattle.kernel_steps.proofs.Works.{Went, went_silently}

pub top_before : (forms : Forms) → IsBehind (Top forms ∷ [])
top_before forms = record {
  next = λ s. record { between = tt; before_end = tt };
  replied = λ r s. record { between = tt; before_end = tt };
  unhooked = λ s. record { between = tt; before_end = tt };
  faulted = λ f s. record { between = tt; before_end = tt };
}

pub top_behind : (forms : Forms) (rest : List Item) → IsBehind rest → IsBehind (Top forms ∷ [])
top_behind forms rest h = top_before forms

module _ (program : Program) where
  pub top_went : (w : World) (left : Forms) (form : Form) → Went program w w (at_top (Then form left)) (λ s rest. working s (DoForm form ∷ Top left ∷ []))
  top_went w left form = went_silently program w w.state (λ s. s) _ (λ s rest. working s (DoForm form ∷ Top left ∷ [])) (λ s h. h) (λ s rest h. goes refl stays)

  -- a form has ended, well or by a fault
  pub top_as : {T : Type 0} (r : Result T Halt) (faulted : Bool) (a b : World) (from : State → List Item → Config) (left : Forms) → ended_by r ≡ Ok faulted →
      Path r program a b from (λ v s rest. working s (Top left ∷ [])) (λ f s rest. working s (Top left ∷ [])) → Went program a b from (at_top left)
  top_as (Ok x) faulted a b from left e p = record { comes = p.comes; later = p.cause.later }
  top_as (Err (halt.Fault f)) faulted a b from left e p = record { comes = p.comes; later = p.cause.later }
  top_as (Err (halt.Stop why)) faulted a b from left e p = absurd (let o : Err why ≡ Ok faulted = e in cc)
