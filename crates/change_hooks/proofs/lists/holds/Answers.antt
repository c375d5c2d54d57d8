use Rattle.std.proofs.Common.{◌≡◌, sym, ◌∙◌, rules, tests}
use Rattle.std.specs.Prelude.{◌==◌}
use Rattle.std.specs.List.{list_any}
use Rattle.std.proofs.lemmas.Iterator.{YieldsList-from_slice}
use Rattle.std.proofs.lemmas.Iterator.Search.{any_from_yields_List}
use Rattle.ek_types.specs.Property.{number_of}
use Rattle.ek_types.specs.declared.symbol.Sym.{Sym}
use Rattle.change_hooks.proofs.Names.{any_mapped}
use Rattle.change_hooks.proofs.lists.holds.Goals as goal

pub returns : goal.returns
returns c =
    let names = c.args.names.now in
    let found : c.any.result ≡ list_any (λ (s : Sym). s.0 == c.args.name.0) names =
    any_from_yields_List (λ (s : Sym). s.0 == c.args.name.0) _ _ _ c.any.ensures.ran (YieldsList-from_slice names cc) (λ x b q k. search (rules, tests)) in
    found ∙ sym (any_mapped number_of (λ n. n == c.args.name.0) names)
