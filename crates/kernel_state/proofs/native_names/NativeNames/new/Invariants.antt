use Rattle.std.proofs.Common.{◌≡◌, length, map, take}
use Rattle.std.specs.Prelude.{unwrap_or}
use Rattle.text_model.specs.Names.{number_from}
use Rattle.ek_types.specs.Listing.{items_of}
use Rattle.ek_types.specs.Property.{number_of}
use Rattle.kernel_state.proofs.native_names.NativeNames.new.Given as goal

abbrev pub invariant-loop-i : goal.invariant-loop-i
invariant-loop-i g l = record {
  names : map number_of (items_of l.list) ≡ map (λ name. unwrap_or (number_from 0 l.symbols name) 0) (take l.i (g.N.Natives.names l.natives));
  count : length (items_of l.list) ≡ l.i;
}
