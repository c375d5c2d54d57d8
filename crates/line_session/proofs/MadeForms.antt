-- Arguments and forms that are put one behind another, and the script of them.
use Rattle.std.proofs.Common.{◌≡◌, ℕ, ◌+◌, List, [], ◌∷◌, ◌++◌, map, take, slice_get, refl, ap, sym, ◌∙◌}
use Rattle.std.specs.Prelude.{Some}
use Rattle.std.proofs.lemmas.List.{map-append}
use Rattle.text_model.proofs.Lists.{take_one_more}
use Rattle.editor_model.specs.Values as model
use Rattle.editor_model.specs.Values.{Const, Then}
use Rattle.plain_machine.specs.Drill.{in_order}
use Rattle.ek_types.specs.Listing.{items_of}
use Rattle.ek_types.specs.declared.list.ListOf.{ListOf}
use Rattle.ek_call.specs.Meaning.{view, arg_of, form_of, forms_of, handler_of, joined}
use Rattle.ek_call.specs.declared.call.Arg.{Arg}
use Rattle.ek_call.specs.declared.call.Arg.TheVariants as arg
use Rattle.ek_call.specs.declared.form.Form.{Form}
use Rattle.ek_call.specs.declared.script.HandlerDef.{HandlerDef}
use Rattle.ek_call.specs.declared.value.Value.{Value}
use Rattle.line_session.specs.Script.{session_symbols, waiting_forms, script_with}

-- ARGUMENTS
pub one_more_argument : (old new : List Arg) (values : List Value) (i : ℕ) (value copy : Value) → map arg_of old ≡ map Const (map view (take i values)) → new ≡ old ++ arg.Const copy ∷ [] → slice_get values i ≡ Some value → view copy ≡ view value → map arg_of new ≡ map Const (map view (take (i + 1) values))
one_more_argument old new values i value copy so_far more at same =
    let front : List model.Arg = map Const (map view (take i values)) in
    ap (map arg_of) more ∙ map-append arg_of old (arg.Const copy ∷ []) ∙ ap (λ l. l ++ Const (view copy) ∷ []) so_far ∙ ap (λ v. front ++ Const v ∷ []) same ∙
    sym (ap (λ l. map Const (map view l)) (take_one_more values i value at) ∙ ap (map Const) (map-append view (take i values) (value ∷ [])) ∙ map-append Const (map view (take i values)) (view value ∷ []))

-- THE SCRIPT
joined_in_order : (forms : List model.Form) → joined forms ≡ in_order forms
joined_in_order [] = refl
joined_in_order (f ∷ forms) = ap (Then f) (joined_in_order forms)

abbrev made : List (List ℕ) → List model.HandlerDef → model.Forms → model.Script
made symbols handlers forms = record { symbols = symbols; handlers = handlers; forms = forms }

pub script_is : (waits : ℕ) (symbols : List (List ℕ)) (handlers : ListOf HandlerDef) (forms : ListOf Form) (command : List model.Value) → symbols ≡ session_symbols → items_of handlers ≡ [] → forms_of forms ≡ waiting_forms waits command → made symbols (map handler_of (items_of handlers)) (joined (map form_of (items_of forms))) ≡ script_with waits command
script_is waits symbols handlers forms command names none all =
    ap (λ s. made s (map handler_of (items_of handlers)) (joined (forms_of forms))) names ∙
    ap (λ h. made session_symbols (map handler_of h) (joined (forms_of forms))) none ∙
    ap (made session_symbols []) (joined_in_order (forms_of forms) ∙ ap in_order all)
