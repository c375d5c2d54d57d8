use Rattle.kernel_steps.specs.HostCalls.{CallsSince}
use Rattle.kernel_steps.proofs.Works.{work_unasked}
use Rattle.kernel_steps.proofs.Silently.{silent_other}
use Rattle.kernel_steps.proofs.processes.call_other.Goals as goal

pub returns-in-StartProcess : goal.returns-in-StartProcess
returns-in-StartProcess g c = λ start target. rw c.in-StartProcess.is (c.start_process.ensures start target)

pub returns-in-ProcessSendString : goal.returns-in-ProcessSendString
returns-in-ProcessSendString g c = λ start target. rw c.in-ProcessSendString.is (c.send_string.ensures start target)

pub returns-in-ProcessSendEof : goal.returns-in-ProcessSendEof
returns-in-ProcessSendEof g c = λ start target. rw c.in-ProcessSendEof.is (c.send_eof.ensures start target)

pub start_process-requires : goal.start_process-requires
start_process-requires g c = record { ready = c.requires.ready; passes = rw c.in-StartProcess.is at c.requires.passes }

pub send_string-requires : goal.send_string-requires
send_string-requires g c = record { ready = c.requires.ready; passes = rw c.in-ProcessSendString.is at c.requires.passes }

pub send_eof-requires : goal.send_eof-requires
send_eof-requires g c = record { ready = c.requires.ready; passes = rw c.in-ProcessSendEof.is at c.requires.passes }

pub returns-in_default : goal.returns-in_default
returns-in_default g c = λ start target.
    let s = g.M.Kernel.state c.args.kernel.now in
    let known = g.M.Kernel.state c.call_silent.new.kernel in
    let kills = (g.H.Host.state c.args.host.now).kills in
    work_unasked (g.P.Program.meant c.args.program.now) (g.K.Sink.state c.args.sink.now) (g.K.Sink.state c.call_silent.new.sink) (CallsSince g.H.Host.state g.H.Host.made start c.args.host.now) s known kills c.call_silent.result _ _ _ (c.call_silent.ensures kills c.requires.ready.hosted target)

pub call_silent-requires : goal.call_silent-requires
call_silent-requires g c = record {
  silent = silent_other c.args.prim c.in_default.not-StartProcess c.in_default.not-ProcessSendString c.in_default.not-ProcessSendEof c.requires.other.0 c.requires.other.1 c.requires.other.2;
  manner = c.requires.manner;
  passes = c.requires.passes;
}
