use Rattle.std.proofs.Common.{◌≡◌, ℕ, ◌+◌, true, false, List, map, sym, ap, ◌∙◌}
use Rattle.std.specs.Prelude.{◌==◌}
use Rattle.std.specs.List.{list_any}
use Rattle.std.proofs.lemmas.List.{length-map}
use Rattle.editor_model.specs.Arguments.{symbol_of}
use Rattle.plain_machine.specs.State.{hooks_of}
use Rattle.plain_machine.specs.Hooks.{hook_list, hook_here}
use Rattle.ek_types.specs.Listing.{items_of}
use Rattle.ek_types.specs.Property.{number_of}
use Rattle.ek_call.specs.Meaning.{view}
use Rattle.change_hooks.specs.Hooked.{hook}
use Rattle.kernel_state.specs.Meaning.{state_of}
use Rattle.kernel_state.proofs.Refusing.{list_of_hook, stands_there, stands_not}
use Rattle.kernel_state.proofs.refusals.hooks_with.Goals as goal

pub returns-then-holds : goal.returns-then-holds
returns-then-holds c =
    let s = state_of c.args.kernel.now in
    let v = view c.args.hook.now in
    let fn = view c.args.function.now in
    let items = items_of c.list-names.result.now in
    let names : List ℕ = map number_of items in
    let same : names ≡ hook_here s v =
    c.list-names.ensures.names
    ∙ ap (λ (b : ℕ). hook_list (hook c.is_before-before.result) (hooks_of s.hooks b)) c.current.ensures.number
    ∙ list_of_hook c.is_before-before.result (symbol_of v) (hooks_of s.hooks s.editor.current) c.is_before-before.ensures in
    let found : true ≡ list_any (λ k. k == symbol_of fn) names =
    sym c.if-holds.true ∙ c.holds.ensures
    ∙ ap (λ syms. list_any (λ k. k == c.symbol_of-number.result.0) (map number_of syms)) c.as_slice.ensures
    ∙ ap (λ (m : ℕ). list_any (λ k. k == m) names) c.symbol_of-number.ensures in
    c.len-length.ensures ∙ sym (length-map items number_of) ∙ stands_there s v fn names same found

pub returns-else-holds : goal.returns-else-holds
returns-else-holds c =
    let s = state_of c.args.kernel.now in
    let v = view c.args.hook.now in
    let fn = view c.args.function.now in
    let items = items_of c.list-names.result.now in
    let names : List ℕ = map number_of items in
    let same : names ≡ hook_here s v =
    c.list-names.ensures.names
    ∙ ap (λ (b : ℕ). hook_list (hook c.is_before-before.result) (hooks_of s.hooks b)) c.current.ensures.number
    ∙ list_of_hook c.is_before-before.result (symbol_of v) (hooks_of s.hooks s.editor.current) c.is_before-before.ensures in
    let absent : false ≡ list_any (λ k. k == symbol_of fn) names =
    sym c.if-holds.false ∙ c.holds.ensures
    ∙ ap (λ syms. list_any (λ k. k == c.symbol_of-number.result.0) (map number_of syms)) c.as_slice.ensures
    ∙ ap (λ (m : ℕ). list_any (λ k. k == m) names) c.symbol_of-number.ensures in
    ap (λ (n : ℕ). n + 1) (c.len-length.ensures ∙ sym (length-map items number_of)) ∙ stands_not s v fn names same absent
