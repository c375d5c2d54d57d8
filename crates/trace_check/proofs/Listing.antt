-- The list of work, whose next item lies at the end.
use Rattle.std.proofs.Common.{◌≡◌, List, [], ◌∷◌, ◌++◌, refl}
use Rattle.std.specs.Prelude.{Result, Ok, Err, OnOk}
use Rattle.std.proofs.lemmas.Result.{on_ok_weaker}
use Rattle.plain_machine.specs.Items.{Item}
use Rattle.trace_check.specs.declared.item.Item.{Item as Written}
use Rattle.trace_check.specs.Meaning.{item_of, in_front, work_of}

in_front_more : (items : List Written) (x : Written) (rest : List Item) → in_front (items ++ x ∷ []) rest ≡ item_of x ∷ in_front items rest
in_front_more [] x rest = refl
in_front_more (y ∷ items) x rest = in_front_more items x (item_of y ∷ rest)

pub work_more : (items : List Written) (x : Written) → work_of (items ++ x ∷ []) ≡ item_of x ∷ work_of items
work_more items x = in_front_more items x []

-- what follows once an item was put in front, where no step comes behind it
pub once_put : {T E P Q : Type 0} (r : Result T E) → OnOk r P → (P → Q) → OnOk r Q
once_put r put go = on_ok_weaker r go put

pub both_done : {T E P Q R : Type 0} (r : Result T E) → OnOk r P → OnOk r Q → (P → Q → R) → OnOk r R
both_done (Ok x) p q go = go p q
both_done (Err e) p q go = tt
