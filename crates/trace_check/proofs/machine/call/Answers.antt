use Rattle.std.proofs.Common.{◌∷◌, map, sym}
use Rattle.std.specs.Prelude.{option_map}
use Rattle.plain_machine.specs.Items.{MakeCall}
use Rattle.ek_types.specs.Listing.{items_of}
use Rattle.ek_call.specs.Meaning.{view}
use Rattle.ek_call.specs.Primitives.{prim_of}
use Rattle.host_link.specs.Meaning.{exchange_of}
use Rattle.trace_check.specs.Meaning.{list_of, target_of}
use Rattle.trace_check.proofs.Turning.{quiet_comes}
use Rattle.trace_check.proofs.machine.call.Goals as goal

pub ask_editor-requires : goal.ask_editor-requires
ask_editor-requires g c = sym (rw c.in-OnlyAsks.is at c.manner.ensures)

pub set_editor-requires : goal.set_editor-requires
set_editor-requires g c = sym (rw c.in-SetsState.is at c.manner.ensures)

pub change_text-requires : goal.change_text-requires
change_text-requires g c = sym (rw c.in-ChangesText.is at c.manner.ensures)

pub call_process-requires : goal.call_process-requires
call_process-requires g c = record { place = c.requires; manner = sym (rw c.in-ConcernsHandlers.is at c.manner.ensures) }

pub returns-in-OnlyAsks : goal.returns-in-OnlyAsks
returns-in-OnlyAsks g c = rw c.quiet.ensures
    (quiet_comes (g.P.Program.meant c.args.program.now) (option_map (λ x. exchange_of x.now) c.args.next) (g.M.Kernel.state c.args.kernel.now) (g.M.Kernel.state c.args.kernel.now) (MakeCall (prim_of c.args.prim) (map view (items_of c.args.args)) (target_of c.args.target) ∷ list_of c.args.work.now) (list_of c.ask_editor.new.work) c.ask_editor.result (c.ask_editor.ensures (g.P.Program.meant c.args.program.now)))

pub returns-in-SetsState : goal.returns-in-SetsState
returns-in-SetsState g c = rw c.quiet-in-SetsState.ensures
    (quiet_comes (g.P.Program.meant c.args.program.now) (option_map (λ x. exchange_of x.now) c.args.next) (g.M.Kernel.state c.args.kernel.now) (g.M.Kernel.state c.set_editor.new.kernel) (MakeCall (prim_of c.args.prim) (map view (items_of c.args.args)) (target_of c.args.target) ∷ list_of c.args.work.now) (list_of c.set_editor.new.work) c.set_editor.result (c.set_editor.ensures (g.P.Program.meant c.args.program.now)))

pub returns-in-ChangesText : goal.returns-in-ChangesText
returns-in-ChangesText g c = rw c.quiet-in-ChangesText.ensures
    (quiet_comes (g.P.Program.meant c.args.program.now) (option_map (λ x. exchange_of x.now) c.args.next) (g.M.Kernel.state c.args.kernel.now) (g.M.Kernel.state c.change_text.new.kernel) (MakeCall (prim_of c.args.prim) (map view (items_of c.args.args)) (target_of c.args.target) ∷ list_of c.args.work.now) (list_of c.change_text.new.work) c.change_text.result (c.change_text.ensures (g.P.Program.meant c.args.program.now)))
