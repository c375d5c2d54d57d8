use Rattle.std.proofs.Common.{◌∙◌, map, option_map, ap, eq-eqb}
use Rattle.std.proofs.lemmas.Option.{slice_get-map}
use Rattle.std.proofs.lemmas.Bool.{ne_eqb}
use Rattle.plain_machine.specs.Arguments.{handler_def}
use Rattle.ek_types.specs.Listing.{items_of}
use Rattle.ek_call.specs.Meaning.{handler_of}
use Rattle.kernel_state.proofs.RunNames.{def_met, def_passed}
use Rattle.kernel_state.proofs.program.RunProgram.handler.Goals as goal

pub returns-then-handler-name : goal.returns-then-handler-name
returns-then-handler-name g c =
    let items = items_of c.args.self.now.handlers.now in
    let d = handler_of c.at-handler.result.now in
    def_met (map handler_of items) c.loop-i.i d c.args.name.0 (handler_def (map handler_of items) c.args.name.0)
    (slice_get-map handler_of items c.loop-i.i ∙ ap (option_map handler_of) c.at-handler.ensures)
    (eq-eqb d.name c.args.name.0 c.if-handler-name.true) c.loop-i.invariant

pub loop-i-preserved : goal.loop-i-preserved
loop-i-preserved g c =
    let items = items_of c.args.self.now.handlers.now in
    let d = handler_of c.at-handler.result.now in
    def_passed (map handler_of items) c.loop-i.i d c.args.name.0 (handler_def (map handler_of items) c.args.name.0)
    (slice_get-map handler_of items c.loop-i.i ∙ ap (option_map handler_of) c.at-handler.ensures)
    (ne_eqb d.name c.args.name.0 c.if-handler-name.false) c.loop-i.invariant
