use Rattle.std.proofs.Common.{◌≡◌, ◌==◌, ◌∙◌, ◌∷◌, ◌++◌, map, ap}
use Rattle.std.specs.List.{list_any}
use Rattle.std.proofs.lemmas.Result.{IfOk-weaker}
use Rattle.editor_model.specs.Values.{Sym}
use Rattle.ek_types.specs.Listing.{items_of}
use Rattle.ek_types.specs.Property.{number_of}
use Rattle.ek_call.specs.Meaning.{view}
use Rattle.kernel_state.specs.Setting.{added}
use Rattle.kernel_state.proofs.HookCalls.{added_there, added_new}
use Rattle.kernel_state.proofs.setting.with_hook.Goals as goal

pub returns-then-holds : goal.returns-then-holds
returns-then-holds c =
    let name = c.args.name.0 in
    let names = items_of c.args.names.now in
    IfOk-weaker c.with_symbols.result (λ all. map view (items_of all) ≡ map view (items_of c.new.result) ++ map Sym (map number_of c.as_slice-then-holds.result.now)) (λ all. map view (items_of all) ≡ map Sym (added name (map number_of names)))
    (λ all e. e
    ∙ ap (λ vs. map view vs ++ map Sym (map number_of c.as_slice-then-holds.result.now)) c.new.ensures
    ∙ ap (λ syms. map Sym (map number_of syms)) c.as_slice-then-holds.ensures
    ∙ ap (map Sym) (added_there c.holds.result name (map number_of names) (c.holds.ensures ∙ ap (λ syms. list_any (λ n. n == name) (map number_of syms)) c.as_slice.ensures) c.if-holds.true))
    c.with_symbols.ensures

pub returns-else-holds : goal.returns-else-holds
returns-else-holds c =
    let name = c.args.name.0 in
    let names = items_of c.args.names.now in
    IfOk-weaker c.with_first.result (λ all. map view (items_of all) ≡ map Sym (name ∷ map number_of c.as_slice-else-holds.result.now)) (λ all. map view (items_of all) ≡ map Sym (added name (map number_of names)))
    (λ all e. e
    ∙ ap (λ syms. map Sym (name ∷ map number_of syms)) c.as_slice-else-holds.ensures
    ∙ ap (map Sym) (added_new c.holds.result name (map number_of names) (c.holds.ensures ∙ ap (λ syms. list_any (λ n. n == name) (map number_of syms)) c.as_slice.ensures) c.if-holds.false))
    c.with_first.ensures
