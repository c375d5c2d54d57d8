-- The forms of a body, one after another, and how many there are.
use Rattle.std.proofs.Common.{◌≡◌, ℕ, zero, suc, ◌+◌, ◌-◌, ◌*◌, ◌<◌, ◌≤◌, List, [], ◌∷◌, map, drop, length, slice_get, Result, refl, ap, arith}
use Rattle.std.specs.Prelude.{Some}
use Rattle.std.proofs.lemmas.List.{length-map, drop_all}
use Rattle.text_model.proofs.Lists.{drop_at, mapped_at}
use Rattle.editor_model.specs.Values.{Form, Forms, NoForms, Then}
use Rattle.plain_machine.specs.State.{State, Program}
use Rattle.plain_machine.specs.Items.{Item, Body, DoForm, Config}
use Rattle.plain_machine.specs.Run.{stays, goes}
use Rattle.ek_call.specs.declared.form.Form.{Form as Written}
use Rattle.ek_call.specs.Meaning.{form_of, joined}
use Rattle.kernel_steps.specs.Sizes.{form_size, forms_size, longest, weight}
use Rattle.kernel_steps.specs.Worlds.{World}
use Rattle.kernel_steps.specs.Work.{working, Path, onwards, outwards, at_item}
use Rattle.kernel_steps.specs.declared.stop.Halt.{Halt}
use Rattle.kernel_steps.proofs.Works.{Went, went_silently, went_then, path_behind, path_before}
use Rattle.kernel_steps.proofs.Blocks.{body_behind}

pub next_form : (forms : List Written) (i : ℕ) (f : Written) → slice_get forms i ≡ Some f → joined (drop i (map form_of forms)) ≡ Then (form_of f) (joined (drop (i + 1) (map form_of forms)))
next_form forms i f h = ap joined (drop_at (map form_of forms) i (form_of f) (mapped_at form_of forms i f h))

pub no_form : (forms : List Written) (i : ℕ) → length forms ≤ i → joined (drop i (map form_of forms)) ≡ NoForms
no_form forms i h = ap joined (drop_all i (map form_of forms) (rw length-map h))

-- how many are left is no more than how many there are
size_left : (forms : List Form) (i : ℕ) → forms_size (joined (drop i forms)) ≤ forms_size (joined forms)
size_left [] zero = omega arith
size_left [] (suc i) = omega arith
size_left (f ∷ forms) zero = omega arith
size_left (f ∷ forms) (suc i) = omega (arith, size_left forms i)

pub form_within : (forms : List Written) (i : ℕ) (f : Written) → slice_get forms i ≡ Some f → form_size (form_of f) ≤ forms_size (joined (map form_of forms))
form_within forms i f h = omega (arith, size_left (map form_of forms) i, ap forms_size (next_form forms i f h))

-- the first form of those that are left
module _ (program : Program) (w : World) (fs : Forms) (f : Form) where
  pub first_went : Went program w w (at_item (Body (Then f fs))) (λ s rest. working s (DoForm f ∷ Body fs ∷ rest))
  first_went = went_silently program w w.state (λ s. s) (at_item (Body (Then f fs))) (λ s rest. working s (DoForm f ∷ Body fs ∷ rest)) (λ s h. h) (λ s rest h. goes refl stays)

pub none_went : (program : Program) (w : World) → Went program w w (at_item (Body NoForms)) (λ s rest. working s rest)
none_went program w = went_silently program w w.state (λ s. s) (at_item (Body NoForms)) (λ s rest. working s rest) (λ s h. h) (λ s rest h. goes refl stays)

-- the path of a form is that of the body, as far as it comes
pub form_path : {T : Type 0} (program : Program) (r : Result T Halt) (a b c : World) (from : State → List Item → Config) (fs : Forms) (f : Form) → Went program a b from (at_item (Body (Then f fs))) → Path r program b c (at_item (DoForm f)) onwards outwards →
    Path r program a c from (λ v. at_item (Body fs)) outwards
form_path program r a b c from fs f g h =
    path_behind program r a b c from (λ s rest. working s (DoForm f ∷ Body fs ∷ rest)) (λ v. at_item (Body fs)) outwards
    (went_then program a b b from (at_item (Body (Then f fs))) (λ s rest. working s (DoForm f ∷ Body fs ∷ rest)) g (first_went program b fs f))
    (path_before program r b c (λ rest. Body fs ∷ rest) (at_item (DoForm f)) onwards outwards (body_behind fs) h)

-- MEASURES
pub same_weight : (program : Program) (s t : State) → s.depth ≡ t.depth → weight program s ≡ weight program t
same_weight program s t e = ap (λ d. (18 - d) * (3 * longest program.handlers + 20)) e

pub form_falls : (program : Program) (s t : State) (n m total : ℕ) → s.depth ≡ t.depth → m ≤ n → weight program t + 3 * n + 10 ≡ total → weight program s + 3 * m + 9 < total
form_falls program s t n m total e h is = omega (arith, same_weight program s t e)

pub block_falls : (program : Program) (s t : State) (n total : ℕ) → s.depth ≡ t.depth → weight program t + 3 * n + 11 ≡ total → weight program s + 3 * n + 10 < total
block_falls program s t n total e is = omega (arith, same_weight program s t e)

pub level_falls : (program : Program) (s t : State) (less more total : ℕ) → s.depth ≡ t.depth → less < more → weight program t + more ≡ total → weight program s + less < total
level_falls program s t less more total e low is = omega (arith, same_weight program s t e)

-- a handler is entered one deeper
pub enter_falls : (program : Program) (s t : State) (total : ℕ) → t.depth ≡ s.depth + 1 → s.depth ≤ 16 → weight program s ≡ total → weight program t + 3 * longest program.handlers + 15 < total
enter_falls program s t total e low is =
    let one : 18 - s.depth ≡ (18 - t.depth) + 1 = omega (arith, e, low) in
    let more : weight program s ≡ ((18 - t.depth) + 1) * (3 * longest program.handlers + 20) = ap (λ d. d * (3 * longest program.handlers + 20)) one in
    let spread : ((18 - t.depth) + 1) * (3 * longest program.handlers + 20) ≡ (18 - t.depth) * (3 * longest program.handlers + 20) + (3 * longest program.handlers + 20) = grind arith in
    omega (arith, more, spread, is)
