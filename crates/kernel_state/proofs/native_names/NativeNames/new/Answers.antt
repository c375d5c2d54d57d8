use Rattle.std.proofs.Common.{◌∙◌, [], ap, arith, length-append}
use Rattle.std.specs.Prelude.{slice_get, unwrap_or}
use Rattle.text_model.specs.Names.{number_from}
use Rattle.ek_types.specs.Listing.{items_of}
use Rattle.ek_types.specs.Property.{number_of}
use Rattle.prim_arguments.proofs.Loops.{seen_more}
use Rattle.kernel_state.proofs.RunNames.{name_there}
use Rattle.kernel_state.proofs.native_names.NativeNames.new.Goals as goal

pub loop-i-preserved : goal.loop-i-preserved
loop-i-preserved g c =
    let names = g.N.Natives.names c.args.natives.now in
    let name = unwrap_or (slice_get names c.loop-i.i) [] in
    record {
      names = seen_more number_of (λ n. unwrap_or (number_from 0 c.args.symbols.now n) 0) names (items_of c.loop-i.list) (items_of c.push.new.self) c.loop-i.i name c.symbol_in.result
          c.in_ok-push.ensures.ok (name_there names c.loop-i.i (omega (arith, c.loop-i-test.true, c.count-i-end.ensures.count)))
          (c.symbol_in.ensures ∙ ap (λ n. unwrap_or (number_from 0 c.args.symbols.now n) 0) c.name.ensures) c.loop-i.invariant.names;
      count = grind (arith, length-append, c.in_ok-push.ensures.ok, c.loop-i.invariant.count);
    }
