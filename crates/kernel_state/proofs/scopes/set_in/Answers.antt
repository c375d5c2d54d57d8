use Rattle.std.proofs.Common.{◌≡◌, true, false, List, ap, sym, ◌∙◌}
use Rattle.std.specs.Prelude.{Some, None, is_some, slice_set}
use Rattle.std.specs.List.{position}
use Rattle.ek_types.specs.Property.{number_of}
use Rattle.ek_types.specs.declared.symbol.Sym.{Sym}
use Rattle.ek_call.specs.declared.value.Value.{Value}
use Rattle.buffer_table.specs.Kept.{registers_of}
use Rattle.kernel_state.proofs.Parameters.{is_named, absent, set_found}
use Rattle.kernel_state.proofs.scopes.set_in.Goals as goal

pub unreachable-requires : goal.unreachable-requires
unreachable-requires c =
    let items : List (Sym × Value) = c.args.scope.now.items in
    let n = number_of c.args.name in
    let none : position (is_named n) items ≡ None = ap (λ (l : List (Sym × Value)). position (is_named n) l) (sym c.as_slice.ensures.value) ∙ sym c.in-None.ensures in
    let e : false ≡ true = sym (ap is_some (absent n items none)) ∙ c.requires in
    cc

pub returns : goal.returns
returns c =
    let items : List (Sym × Value) = c.args.scope.now.items in
    let n = number_of c.args.name in
    let found : position (is_named n) items ≡ Some c.in-Some.i = ap (λ (l : List (Sym × Value)). position (is_named n) l) (sym c.as_slice.ensures.value) ∙ sym c.in-Some.ensures in
    ap (λ (p : Sym × Value). registers_of (slice_set items c.in-Some.i p)) c.replace-before.ensures.after ∙ set_found c.args.name c.args.value items c.in-Some.i found
