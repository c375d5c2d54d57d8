use Rattle.std.proofs.Common.{◌∷◌, map}
use Rattle.std.specs.Prelude.{option_map}
use Rattle.editor_model.specs.Values.{AcceptProcessOutput, DeleteProcess, KillBuffer}
use Rattle.plain_machine.specs.Items.{MakeCall}
use Rattle.ek_types.specs.Listing.{items_of}
use Rattle.ek_call.specs.Meaning.{view}
use Rattle.ek_call.specs.Primitives.{prim_of}
use Rattle.host_link.specs.Meaning.{exchange_of}
use Rattle.kernel_steps.proofs.Silently.{silent_other}
use Rattle.trace_check.specs.Meaning.{list_of, target_of}
use Rattle.trace_check.proofs.Turning.{quiet_comes}
use Rattle.trace_check.proofs.machine.call_passed.Goals as goal

pub start_process-requires : goal.start_process-requires
start_process-requires g c = record { place = c.requires.place; passes = rw c.in-StartProcess.is at c.requires.passes }

pub send_string-requires : goal.send_string-requires
send_string-requires g c = record { place = c.requires.place; passes = rw c.in-ProcessSendString.is at c.requires.passes }

pub send_eof-requires : goal.send_eof-requires
send_eof-requires g c = record { place = c.requires.place; passes = rw c.in-ProcessSendEof.is at c.requires.passes }

pub accept_output-requires : goal.accept_output-requires
accept_output-requires g c = rw c.in-AcceptProcessOutput.is at c.requires.passes

pub delete_process-requires : goal.delete_process-requires
delete_process-requires g c = rw c.in-DeleteProcess.is at c.requires.passes

pub kill_buffer-requires : goal.kill_buffer-requires
kill_buffer-requires g c = rw c.in-KillBuffer.is at c.requires.passes

pub call_silently-requires : goal.call_silently-requires
call_silently-requires g c = record {
  silent = silent_other c.args.prim c.in_default.not-StartProcess c.in_default.not-ProcessSendString c.in_default.not-ProcessSendEof c.in_default.not-AcceptProcessOutput c.in_default.not-DeleteProcess c.in_default.not-KillBuffer;
  manner = c.requires.manner;
  passes = c.requires.passes;
}

pub returns-in-StartProcess : goal.returns-in-StartProcess
returns-in-StartProcess g c = rw c.in-StartProcess.is c.start_process.ensures

pub returns-in-ProcessSendString : goal.returns-in-ProcessSendString
returns-in-ProcessSendString g c = rw c.in-ProcessSendString.is c.send_string.ensures

pub returns-in-ProcessSendEof : goal.returns-in-ProcessSendEof
returns-in-ProcessSendEof g c = rw c.in-ProcessSendEof.is c.send_eof.ensures

pub returns-in-AcceptProcessOutput : goal.returns-in-AcceptProcessOutput
returns-in-AcceptProcessOutput g c = rw (c.in-AcceptProcessOutput.is, c.quiet.ensures)
    (quiet_comes (g.P.Program.meant c.args.program.now) (option_map (λ x. exchange_of x.now) c.args.next) (g.M.Kernel.state c.args.kernel.now) (g.M.Kernel.state c.args.kernel.now) (MakeCall AcceptProcessOutput (map view (items_of c.args.args)) (target_of c.args.target) ∷ list_of c.args.work.now) (list_of c.accept_output.new.work) c.accept_output.result c.accept_output.ensures)

pub returns-in-DeleteProcess : goal.returns-in-DeleteProcess
returns-in-DeleteProcess g c = rw (c.in-DeleteProcess.is, c.quiet-in-DeleteProcess.ensures)
    (quiet_comes (g.P.Program.meant c.args.program.now) (option_map (λ x. exchange_of x.now) c.args.next) (g.M.Kernel.state c.args.kernel.now) (g.M.Kernel.state c.args.kernel.now) (MakeCall DeleteProcess (map view (items_of c.args.args)) (target_of c.args.target) ∷ list_of c.args.work.now) (list_of c.delete_process.new.work) c.delete_process.result c.delete_process.ensures)

pub returns-in-KillBuffer : goal.returns-in-KillBuffer
returns-in-KillBuffer g c = rw (c.in-KillBuffer.is, c.quiet-in-KillBuffer.ensures)
    (quiet_comes (g.P.Program.meant c.args.program.now) (option_map (λ x. exchange_of x.now) c.args.next) (g.M.Kernel.state c.args.kernel.now) (g.M.Kernel.state c.args.kernel.now) (MakeCall KillBuffer (map view (items_of c.args.args)) (target_of c.args.target) ∷ list_of c.args.work.now) (list_of c.kill_buffer.new.work) c.kill_buffer.result c.kill_buffer.ensures)

pub returns-in_default : goal.returns-in_default
returns-in_default g c = rw c.quiet-in_default.ensures
    (quiet_comes (g.P.Program.meant c.args.program.now) (option_map (λ x. exchange_of x.now) c.args.next) (g.M.Kernel.state c.args.kernel.now) (g.M.Kernel.state c.call_silently.new.kernel) (MakeCall (prim_of c.args.prim) (map view (items_of c.args.args)) (target_of c.args.target) ∷ list_of c.args.work.now) (list_of c.call_silently.new.work) c.call_silently.result c.call_silently.ensures)
