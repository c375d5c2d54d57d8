use Rattle.std.proofs.Common.{◌≡◌, ℕ, ◌+◌, List, [], ◌∷◌, ◌++◌, map, take, get_or, ap, sym, ◌∙◌, add-one}
use Rattle.std.proofs.lemmas.List.{map-append}
use Rattle.editor_model.specs.Values.{Value as Meant}
use Rattle.editor_model.specs.Arguments.{arg}
use Rattle.plain_machine.specs.Handling.{bound_params}
use Rattle.ek_types.specs.Listing.{items_of}
use Rattle.ek_types.specs.Property.{number_of}
use Rattle.ek_types.specs.declared.symbol.Sym.{Sym}
use Rattle.ek_call.specs.Meaning.{view}
use Rattle.ek_call.specs.declared.value.Value.{Value}
use Rattle.buffer_table.specs.Kept.{registers_of}
use Rattle.kernel_state.proofs.Parameters.{bound_more, named_at}
use Rattle.kernel_state.proofs.scopes.bound.Goals as goal

pub loop-i-preserved : goal.loop-i-preserved
loop-i-preserved c =
    let ps : List ℕ = map number_of c.args.params.now in
    let given : List Meant = map view (items_of c.args.args.now) in
    let i = c.loop-i.i in
    let n : ℕ = number_of (get_or c.args.params.now i (record { 0 = 0 })) in
    let more : bound_params (take (i + 1) ps) given ≡ bound_params (take i ps) given ++ (n, arg given i) ∷ [] = rw add-one (bound_more ps given i n (named_at c.args.params.now i (record { 0 = 0 }) c.loop-i-test.true)) in
    ap registers_of c.in_ok-push.ensures.items
    ∙ map-append (λ (r : Sym × Value). (number_of r.0, view r.1)) c.loop-i.scope.items ((get_or c.args.params.now i (record { 0 = 0 }), c.in_ok-given.field-0) ∷ [])
    ∙ ap (λ (rs : List (ℕ × Meant)). rs ++ (n, view c.in_ok-given.field-0) ∷ []) c.loop-i.invariant
    ∙ ap (λ (v : Meant). bound_params (take i ps) given ++ (n, v) ∷ []) c.in_ok-given.ensures
    ∙ sym more
