-- What is read-only: the tests of the code, and what a change comes to.
use Rattle.std.proofs.Common.{◌≡◌, ℕ, ◌+◌, Bool, true, false, ◌&&◌, ◌||◌, not, List, [], ◌∷◌, length, refl, ap, sym, ◌∙◌, arith}
use Rattle.std.proofs.lemmas.Bool.{lt-ltb}
use Rattle.std.specs.Prelude.{Option, Some, None, is_some, nat_lt}
use Rattle.text_model.specs.Properties.{Cell, PropVal, get, same_option, same_value}
use Rattle.text_model.specs.PropertyQuestions.{first_where, has_value}
use Rattle.text_model.specs.Undo.{Rec}
use Rattle.editor_model.specs.Values.{Fault, Nil}
use Rattle.editor_model.specs.Answers.{Change, Changes, Nothing, Barred, prepared}
use Rattle.editor_model.specs.ReadOnly.{read_only, has_read_only, must_be_writable}
use Rattle.editor_model.specs.PropertyCalls.{change_of}
use Rattle.buffer_core.specs.Changes.{is_some_record}
use Rattle.prim_questions.specs.Searches.{wanted}

differs : (o : Option PropVal) → not (same_option same_value o None) ≡ is_some o
differs None = refl
differs (Some v) = refl

-- a character with some value of the property is found where there is one
pub some_found : (cells : List Cell) (at : ℕ) → is_some (first_where (λ c. wanted false (has_value read_only None c)) at cells) ≡ has_read_only cells
some_found [] at = refl
some_found (c ∷ cells) at = go (not (same_option same_value (get c.1 read_only) None)) (some_found cells (at + 1)) ∙ ap (λ b. b || has_read_only cells) (differs (get c.1 read_only))
  where
    go : (b : Bool) → is_some (first_where (λ c. wanted false (has_value read_only None c)) (at + 1) cells) ≡ has_read_only cells → is_some (let o : Option ℕ = elim b [ true ↦ Some at | false ↦ first_where (λ c. wanted false (has_value read_only None c)) (at + 1) cells ] in o) ≡ (b || has_read_only cells)
    go true h = refl
    go false h = h

-- a change that isn't tested
pub untested : (tested buffer text : Bool) → tested ≡ false → None ≡ must_be_writable tested buffer text
untested tested buffer text h = ap (λ t. must_be_writable t buffer text) (sym h)

is_longer : (r : Rec) (rs : List Rec) → nat_lt 0 (length (r ∷ rs)) ≡ true
is_longer r rs = lt-ltb 0 (length (r ∷ rs)) (omega arith)

-- what a change of properties comes to, by whether there is something to record
pub nothing_to_change : (rs : List Rec) (lifted buffer text : Bool) (c : Change) → is_some_record rs ≡ false → Nothing Nil ≡ prepared (must_be_writable (nat_lt 0 (length rs) && not lifted) buffer text ∷ []) (change_of rs c Nil)
nothing_to_change [] lifted buffer text c h = refl
nothing_to_change (r ∷ rs) lifted buffer text c h = cc

pub something_to_change : (rs : List Rec) (lifted buffer text : Bool) (c : Change) → is_some_record rs ≡ true → None ≡ must_be_writable (true && not lifted) buffer text
    → Changes c ≡ prepared (must_be_writable (nat_lt 0 (length rs) && not lifted) buffer text ∷ []) (change_of rs c Nil)
something_to_change [] lifted buffer text c h k = cc
something_to_change (r ∷ rs) lifted buffer text c h k = rw (is_longer r rs) (ap (λ t. prepared (t ∷ []) (Changes c)) k)

pub barred_change : (rs : List Rec) (lifted buffer text : Bool) (c : Change) (f : Fault) → is_some_record rs ≡ true → Some f ≡ must_be_writable (true && not lifted) buffer text
    → Barred f ≡ prepared (must_be_writable (nat_lt 0 (length rs) && not lifted) buffer text ∷ []) (change_of rs c Nil)
barred_change [] lifted buffer text c f h k = cc
barred_change (r ∷ rs) lifted buffer text c f h k = rw (is_longer r rs) (ap (λ t. prepared (t ∷ []) (Changes c)) k)
