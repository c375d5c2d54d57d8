use Rattle.std.proofs.Common.{◌≡◌, ◌<◌, Vec, Global, List, ◌∷◌, length, drop, refl, ap, sym, ◌∙◌, arith}
use Rattle.std.specs.Prelude.{vec_len}
use Rattle.editor_model.specs.Editor.{with_register}
use Rattle.plain_machine.specs.State.{Scope}
use Rattle.ek_types.specs.Property.{number_of}
use Rattle.ek_types.specs.declared.symbol.Sym.{Sym}
use Rattle.ek_call.specs.Meaning.{view}
use Rattle.ek_call.specs.declared.value.Value.{Value}
use Rattle.buffer_table.specs.Kept.{registers_of}
use Rattle.kernel_state.specs.Meaning.{innermost, scopes_of}
use Rattle.kernel_state.proofs.Parameters.{topmost_of, top_set_of}
use Rattle.kernel_state.proofs.scopes.Scopes.set.Goals as goal

abbrev meant : Vec (Sym × Value) Global → Scope
meant scope = registers_of scope.items

pub returns : goal.returns
returns c =
    let list = c.args.self.now.list in
    let n = number_of c.args.name in
    let all : List (Vec (Sym × Value) Global) = list.items in
    let many : vec_len list ≡ length all = omega (arith, list.ok.0) in
    let some : 0 < vec_len list = c.in-Some.ensures.variant.0 refl in
    let top : scopes_of c.args.self.now ≡ meant c.in-Some.scope.now ∷ drop 1 (scopes_of c.args.self.now) = topmost_of meant all c.in-Some.scope.now (vec_len list) many some c.in-Some.ensures.value in
    top_set_of meant all c.set_in.new.scope (vec_len list) many some
    ∙ ap (λ (s : Scope). s ∷ drop 1 (scopes_of c.args.self.now))
    (c.set_in.ensures ∙ ap (λ (s : Scope). with_register n (view c.args.value) s) (sym (ap innermost top)))
