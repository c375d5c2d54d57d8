-- Where the answer of a call goes, once it was told.
use Rattle.std.specs.Prelude.{◌≡◌, List}
use Rattle.editor_model.specs.Values.{Value, Reply, Answered}
use Rattle.plain_machine.specs.State.{State}
use Rattle.plain_machine.specs.Forms.{assigned, kept_reply}
use Rattle.plain_machine.specs.Items.{Item, Target, Nowhere, ToName, ToNative}

abbrev pub HandsOn : Target → Reply → (known known2 : State) → (work left : List Item) → Type 0
HandsOn Nowhere reply known known2 work left = (known2 ≡ known) × (left ≡ work)
HandsOn (ToName name) reply known known2 work left =
    ((v : Value) → reply ≡ Answered v → known2 ≡ assigned name v known) × (left ≡ work)
HandsOn ToNative reply known known2 work left = (known2 ≡ known) × (left ≡ kept_reply reply work)
