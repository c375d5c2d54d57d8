-- Forms that are put one behind another, and what they stand for.
use Rattle.std.proofs.Common.{◌≡◌, ℕ, zero, suc, ◌+◌, ◌≤◌, length, take, List, [], ◌∷◌, ◌++◌, map, refl, ap, sym, ◌∙◌, append_assoc, arith}
use Rattle.std.specs.Prelude.{replicate}
use Rattle.std.proofs.lemmas.List.{map-append}
use Rattle.text_model.specs.Characters.{Scalar}
use Rattle.text_model.specs.Properties.{Cell, bare}
use Rattle.editor_model.specs.Values as model
use Rattle.editor_model.specs.Values.{Then}
use Rattle.plain_machine.specs.Drill.{in_order}
use Rattle.ek_types.specs.Listing.{items_of}
use Rattle.ek_types.specs.declared.list.ListOf.{ListOf}
use Rattle.ek_types.specs.declared.symbol.Sym.{Sym}
use Rattle.ek_call.specs.Meaning.{call_of, form_of, forms_of, joined, view}
use Rattle.ek_call.specs.declared.call.Call.{Call}
use Rattle.ek_call.specs.declared.form.Form.{Form, fold-roll-Form}
use Rattle.ek_call.specs.declared.form.Form.TheOpen.{Form-F}
use Rattle.ek_call.specs.declared.form.Form.TheVariants as form
use Rattle.ek_call.specs.declared.value.Value.{fold-roll-Value}
use Rattle.ek_call.specs.declared.value.Value.TheOpen.{Value-F}
use Rattle.ek_call.specs.declared.value.Value.TheVariants as value

-- WHAT THEY STAND FOR
pub do_is : (c : Call) → form_of (form.Do c) ≡ model.Do (call_of c)
do_is c = ap form_of (sym (form.rolls-Do c)) ∙ fold-roll-Form _ _ (Form-F.Do c)

pub setq_is : (name : Sym) (c : Call) → form_of (form.Setq name c) ≡ model.Setq name.0 (call_of c)
setq_is name c = ap form_of (sym (form.rolls-Setq name c)) ∙ fold-roll-Form _ _ (Form-F.Setq name c)

pub symbol_is : (s : Sym) → view (value.Sym s) ≡ model.Sym s.0
symbol_is s = ap view (sym (value.rolls-Sym s)) ∙ fold-roll-Value _ _ (Value-F.Sym s)

pub text_is : (text : List Cell) → view (value.Str text) ≡ model.Str text
text_is text = ap view (sym (value.rolls-Str text)) ∙ fold-roll-Value _ _ (Value-F.Str text)

pub bare_scalars : (bytes : List ℕ) → bare (map Scalar bytes) ≡ map (λ c. (Scalar c, [])) bytes
bare_scalars [] = refl
bare_scalars (c ∷ bytes) = ap (λ l. (Scalar c, []) ∷ l) (bare_scalars bytes)

pub take_all : (i : ℕ) (bytes : List ℕ) → length bytes ≤ i → take i bytes ≡ bytes
take_all zero [] h = refl
take_all zero (c ∷ bytes) h = absurd (omega (arith, h))
take_all (suc i) [] h = refl
take_all (suc i) (c ∷ bytes) h = ap (λ l. c ∷ l) (take_all i bytes (omega (arith, h)))

-- ONE BEHIND ANOTHER
pub one_more : (old new : ListOf Form) (f : Form) (meant : model.Form) → items_of new ≡ items_of old ++ f ∷ [] → form_of f ≡ meant → forms_of new ≡ forms_of old ++ meant ∷ []
one_more old new f meant e is = ap (map form_of) e ∙ map-append form_of (items_of old) (f ∷ []) ∙ ap (λ g. forms_of old ++ g ∷ []) is

pub joined_in_order : (forms : List model.Form) → joined forms ≡ in_order forms
joined_in_order [] = refl
joined_in_order (f ∷ forms) = ap (Then f) (joined_in_order forms)

-- WAITS
replicate_last : {X : Type 0} (n : ℕ) (x : X) → replicate n x ++ x ∷ [] ≡ replicate (suc n) x
replicate_last zero x = refl
replicate_last (suc n) x = ap (λ l. x ∷ l) (replicate_last n x)

pub one_more_wait : {X : Type 0} (before now later : List X) (n : ℕ) (x : X) → now ≡ before ++ replicate n x → later ≡ now ++ x ∷ [] → later ≡ before ++ replicate (n + 1) x
one_more_wait before now later n x so_far more =
    let e : n + 1 ≡ suc n = omega arith in
    more ∙ ap (λ l. l ++ x ∷ []) so_far ∙ append_assoc before (replicate n x) (x ∷ []) ∙ ap (λ l. before ++ l) (replicate_last n x) ∙ ap (λ i. before ++ replicate i x) (sym e)
