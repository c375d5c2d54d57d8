use Rattle.std.proofs.Common.{rules, ◌≡◌, ap, ◌∙◌, map, option_map, slice_get, Some, length, arith}
use Rattle.std.proofs.lemmas.Option.{slice_get-map}
use Rattle.std.proofs.lemmas.List.{length-map}
use Rattle.ek_types.specs.Listing.{items_of}
use Rattle.ek_call.specs.Meaning.{view}
use Rattle.ek_call.specs.Faults.{fault_of}
use Rattle.prim_arguments.specs.Meaning.{fault_in}
use Rattle.prim_changes.proofs.Strings.{string_met, other_met, all_strings, counted, all_counted}
use Rattle.prim_changes.proofs.inserts.must_be_strings.Goals as goal

pub returns-in_err-string-clause-test : goal.returns-in_err-string-clause-test
returns-in_err-string-clause-test c =
    let items = items_of c.args.args.now in
    let told : fault_in c.from_residual.result ≡ Some (fault_of c.in_err-string.field-0.0) = search rules in
    told ∙ other_met (map view items) c.loop-i.i _ _ _ (slice_get-map view items c.loop-i.i ∙ ap (option_map view) c.at.ensures) c.in_err-string.ensures.test c.loop-i.invariant.test

pub loop-i-preserved : goal.loop-i-preserved
loop-i-preserved c =
    let items = items_of c.args.args.now in
    let at : slice_get (map view items) c.loop-i.i ≡ Some (view c.at.result.now) = slice_get-map view items c.loop-i.i ∙ ap (option_map view) c.at.ensures in
    record {
      test = string_met (map view items) c.loop-i.i _ _ at c.in_ok-string.ensures.test c.loop-i.invariant.test;
      count = counted (map view items) c.loop-i.i c.loop-i.total c.len.result _ _ at (c.len.ensures ∙ ap length c.in_ok-string.ensures.content) c.loop-i.invariant.count;
      few = omega arith;
    }

pub returns-clause-test : goal.returns-clause-test
returns-clause-test c = all_strings (map view (items_of c.args.args.now)) c.loop-i.i _ (omega (arith, length-map (items_of c.args.args.now) view)) c.loop-i.invariant.test

pub returns-clause-length : goal.returns-clause-length
returns-clause-length c = all_counted (map view (items_of c.args.args.now)) c.loop-i.i _ _ (omega (arith, length-map (items_of c.args.args.now) view)) c.loop-i.invariant.count
