-- A form that is put behind others.
use Rattle.std.proofs.Common.{◌≡◌, ℕ, List, [], ◌∷◌, ◌++◌, map, refl, sym, ap, ◌∙◌, Some}
use Rattle.std.proofs.lemmas.List.{map-append}
use Rattle.editor_model.specs.Values.{Form, Prim, Do}
use Rattle.ek_call.specs.Meaning.{call_of, form_of}
use Rattle.ek_call.specs.declared.call.Call.{Call}
use Rattle.ek_call.specs.declared.form.Form.{fold-roll-Form}
use Rattle.ek_call.specs.declared.form.Form.TheOpen.{Form-F}
use Rattle.ek_call.specs.declared.form.Form.TheVariants as form
use Rattle.script_read.specs.Reading.{State, Read, mapped}
use Rattle.script_read.specs.Forms.{prim_of_word, call_by, block_of, form_by, form_after, put_behind}

pub pushed : {A : Type 0} (g : A → Form) (items all : List A) (x : A) (one : Read Form) (next : State) → all ≡ items ++ x ∷ [] → one ≡ Some (g x, next) → Some (map g all, next) ≡ put_behind (map g items) one
pushed g items all x one next e is = rw (e, map-append g items (x ∷ []), is) refl

pub do_is : (c : Call) → form_of (form.Do c) ≡ Do (call_of c)
do_is c = ap form_of (sym (form.rolls-Do c)) ∙ fold-roll-Form _ _ (Form-F.Do c)

pub call_behind_word : (inside : State → Read (List Form)) (w : List ℕ) (s : State) (p : Prim) → Some p ≡ prim_of_word w → form_after w inside s ≡ mapped Do (call_by (Some p) s)
call_behind_word inside w s p e = ap (λ o. form_by o (block_of w) w inside s) (sym e)
