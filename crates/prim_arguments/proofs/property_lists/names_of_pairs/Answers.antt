use Rattle.std.proofs.Common.{◌≡◌, ◌+◌, ◌-◌, ◌++◌, ◌∙◌, ap, sym, map, take, arith}
use Rattle.std.proofs.lemmas.List.{map-append}
use Rattle.ek_types.specs.Listing.{items_of}
use Rattle.ek_types.specs.Property.{number_of}
use Rattle.editor_model.specs.PropertyCalls.{names_of_pairs}
use Rattle.prim_arguments.specs.PropertyArguments.{backwards, pair_of}
use Rattle.prim_arguments.proofs.Pairing.{one_back, name_front}
use Rattle.prim_arguments.proofs.property_lists.names_of_pairs.Goals as goal

pub pairs-preserved : goal.pairs-preserved
pairs-preserved c =
    let items = items_of c.args.list.now in
    let i = c.pairs.i - 1 in
    let next : i + 1 ≡ c.pairs.i = omega arith in
    let front = map number_of (items_of c.pairs.names) in
    let p = c.at.result.now in
    record {
      read =
          ap (λ f. f ++ names_of_pairs (backwards (take i items))) (ap (map number_of) c.in_ok-push.ensures.ok ∙ map-append number_of (items_of c.pairs.names) _)
          ∙ name_front (pair_of p) front _ (backwards (take i items))
          (ap (λ ps. front ++ names_of_pairs ps) (sym (one_back items i p c.at.ensures)) ∙ ap (λ k. front ++ names_of_pairs (backwards (take k items))) next ∙ c.pairs.invariant.read);
      within = omega arith;
    }
