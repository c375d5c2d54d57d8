use Rattle.std.proofs.Common.{◌≡◌, map, drop}
use Rattle.plain_machine.specs.Arguments.{native_from}
use Rattle.ek_types.specs.Listing.{items_of}
use Rattle.ek_types.specs.Property.{number_of}
use Rattle.kernel_state.proofs.native_names.NativeNames.find.Given as goal

abbrev pub invariant-loop-i : goal.invariant-loop-i
invariant-loop-i l =
    let numbers = map number_of (items_of l.self.list) in
    native_from l.i (drop l.i numbers) l.name.0 ≡ native_from 0 numbers l.name.0
