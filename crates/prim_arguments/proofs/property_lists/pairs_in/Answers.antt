use Rattle.std.proofs.Common.{◌≡◌, ◌+◌, ◌-◌, ◌*◌, ◌/◌, ◌∙◌, ap, sym, map, drop, option_map, length, slice_get, Some, arith}
use Rattle.std.proofs.lemmas.Option.{slice_get-map}
use Rattle.std.proofs.lemmas.List.{length-map, drop_all}
use Rattle.ek_types.specs.Listing.{items_of}
use Rattle.ek_call.specs.Meaning.{view}
use Rattle.editor_model.specs.Values.{pairs_of}
use Rattle.prim_arguments.specs.PropertyArguments.{backwards, paired}
use Rattle.prim_arguments.proofs.Pairing.{odd_none, two_first, paired_first, items_values}
use Rattle.prim_arguments.proofs.property_lists.pairs_in.Goals as goal

pub returns-then-len-eq1 : goal.returns-then-len-eq1
returns-then-len-eq1 c =
    let xs = map view (items_of c.args.words.now) in
    sym (odd_none (length xs / 2) xs (omega (arith, length-map (items_of c.args.words.now) view))) ∙ ap pairs_of (sym (items_values xs))

pub pairs-init : goal.pairs-init
pairs-init c =
    let xs = map view (items_of c.args.words.now) in
    record { read = ap (λ l. Some (backwards l)) c.new.ensures ∙ ap pairs_of (sym (drop_all _ xs (omega (arith, length-map (items_of c.args.words.now) view)))); within = omega arith }

pub pairs-preserved : goal.pairs-preserved
pairs-preserved c =
    let items = items_of c.args.words.now in
    let xs = map view items in
    let n = c.pairs.n - 1 in
    let next : n + 1 ≡ c.pairs.n = omega arith in
    let x = view c.at.result.now in
    let y = view c.at-in-pairs.result.now in
    let first : slice_get xs (2 * n) ≡ Some x = slice_get-map view items (2 * n) ∙ ap (option_map view) c.at.ensures in
    let second : slice_get xs (2 * n + 1) ≡ Some y = slice_get-map view items (2 * n + 1) ∙ ap (option_map view) c.at-in-pairs.ensures in
    record {
      read =
          c.in_ok-list.ensures
          ∙ ap (paired x y) (c.pairs.invariant.read ∙ ap (λ k. pairs_of (drop (2 * k) xs)) (sym next))
          ∙ paired_first x y (drop (2 * (n + 1)) xs)
          ∙ ap pairs_of (sym (two_first xs n x y first second));
      within = omega arith;
    }

pub returns : goal.returns
returns c =
    let xs = map view (items_of c.args.words.now) in
    let none_left : 2 * c.pairs.n ≡ 0 = omega arith in
    c.pairs.invariant.read ∙ ap (λ k. pairs_of (drop k xs)) none_left ∙ ap pairs_of (sym (items_values xs))
