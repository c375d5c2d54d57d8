use Rattle.std.proofs.Common.{◌∙◌, map, option_map, ap, eq-eqb}
use Rattle.std.proofs.lemmas.Option.{slice_get-map}
use Rattle.std.proofs.lemmas.Bool.{ne_eqb}
use Rattle.plain_machine.specs.Arguments.{native_from}
use Rattle.ek_types.specs.Listing.{items_of}
use Rattle.ek_types.specs.Property.{number_of}
use Rattle.kernel_state.proofs.RunNames.{native_met, native_passed}
use Rattle.kernel_state.proofs.native_names.NativeNames.find.Goals as goal

pub returns-then-at-name : goal.returns-then-at-name
returns-then-at-name c =
    let numbers = map number_of (items_of c.args.self.now.list) in
    let n = number_of c.at.result.now in
    native_met numbers c.loop-i.i n c.args.name.0 (native_from 0 numbers c.args.name.0)
    (slice_get-map number_of (items_of c.args.self.now.list) c.loop-i.i ∙ ap (option_map number_of) c.at.ensures)
    (eq-eqb n c.args.name.0 c.if-at-name.true) c.loop-i.invariant

pub loop-i-preserved : goal.loop-i-preserved
loop-i-preserved c =
    let numbers = map number_of (items_of c.args.self.now.list) in
    let n = number_of c.at.result.now in
    native_passed numbers c.loop-i.i n c.args.name.0 (native_from 0 numbers c.args.name.0)
    (slice_get-map number_of (items_of c.args.self.now.list) c.loop-i.i ∙ ap (option_map number_of) c.at.ensures)
    (ne_eqb n c.args.name.0 c.if-at-name.false) c.loop-i.invariant
