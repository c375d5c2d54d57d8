use Rattle.std.proofs.Common.{◌≡◌, ap, sym, ◌∙◌, rules, tests}
use Rattle.std.specs.Prelude.{◌==◌}
use Rattle.std.specs.List.{list_any}
use Rattle.std.proofs.lemmas.Iterator.{YieldsList-from_slice}
use Rattle.std.proofs.lemmas.Iterator.Search.{any_from_yields_List}
use Rattle.ek_types.specs.Listing.{items_of}
use Rattle.ek_types.specs.Property.{number_of}
use Rattle.prim_arguments.specs.declared.property_lists.Pair.{Pair}
use Rattle.prim_arguments.proofs.Pairing.{any_back}
use Rattle.prim_arguments.proofs.property_lists.has_name.Goals as goal

pub returns : goal.returns
returns c =
    let pairs = c.as_slice.result.now in
    let found : c.any.result ≡ list_any (λ (p : Pair). number_of p.name == number_of c.args.name) pairs =
    any_from_yields_List (λ (p : Pair). number_of p.name == number_of c.args.name) _ _ _ c.any.ensures.ran (YieldsList-from_slice pairs cc) (λ x b q k. search (rules, tests)) in
    found ∙ ap (list_any (λ (p : Pair). number_of p.name == number_of c.args.name)) c.as_slice.ensures ∙ sym (any_back (number_of c.args.name) (items_of c.args.list.now))
