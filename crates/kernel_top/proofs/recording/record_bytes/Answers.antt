use Rattle.std.proofs.Common.{[], arith}
use Rattle.std.proofs.KnownBytes.{Appends-nil}
use Rattle.ek_call.specs.Meaning.{script_of}
use Rattle.kernel_state.specs.Whole.{program_with}
use Rattle.kernel_top.specs.Outcomes.{seen, RunsAndRecords}
use Rattle.kernel_top.proofs.Outcomes.{came_refused, refused_no_read, refused_no_write}
use Rattle.kernel_top.proofs.Recorded.{broke_off, recorded, told_all, tells_still, no_read_fault}
use Rattle.kernel_top.proofs.recording.record_bytes.Goals as goal

pub returns-in-Err-clause-outcome : goal.returns-in-Err-clause-outcome
returns-in-Err-clause-outcome g c =
    came_refused (RunsAndRecords (λ script. program_with g.N.Natives.names g.N.Natives.does script c.args.natives.now)) g.H.Host.state g.H.Host.made c.in-Err.status c.args.bytes.now c.args.host.now (g.K.Sink.state c.args.sink.now) c.in-Err.ensures.none

pub returns-in-Err-clause-no_read : goal.returns-in-Err-clause-no_read
returns-in-Err-clause-no_read g c = λ e. refused_no_read c.in-Err.status c.args.bytes.now c.in-Err.ensures.none e

pub returns-in-Err-clause-write_fault : goal.returns-in-Err-clause-write_fault
returns-in-Err-clause-write_fault g c = record { later = omega arith; rose = λ e. absurd (refused_no_write c.in-Err.status c.args.bytes.now c.in-Err.ensures.none e) }

pub returns-in_default-clause-outcome : goal.returns-in_default-clause-outcome
returns-in_default-clause-outcome g c =
    let (exchanges, calls, why, none) = c.in_default.ensures in
    record {
      written = [];
      exchanges = exchanges;
      put = Appends-nil _;
      calls = calls;
      so = λ source source' ended.
          broke_off (λ script. program_with g.N.Natives.names g.N.Natives.does script c.args.natives.now) (script_of c.in-Ok.script) g.H.Host.state g.H.Host.made c.args.host.now c.run_lined-ran.new.host c.args.bytes.now exchanges
          source source' (g.K.Sink.state c.args.sink.now) ended c.in-Ok.ensures.script calls why;
    }

pub returns-clause-outcome : goal.returns-clause-outcome
returns-clause-outcome g c =
    let (exchanges, calls, whole, lines) = c.in-Ok-ran.ensures in
    let (written, put, row) = c.write_session.ensures.written in
    let list = told_all g.H.Host.state g.H.Host.made c.args.host.now c.run_lined-ran.new.host exchanges _ calls c.requires.told c.in-Some.ensures in
    record {
      written = written;
      exchanges = exchanges;
      put = put;
      calls = calls;
      so = λ source source' ended.
          recorded (λ script. program_with g.N.Natives.names g.N.Natives.does script c.args.natives.now) (script_of c.in-Ok.script) c.args.bytes.now written exchanges
          (seen source (g.K.Sink.state c.args.sink.now) (g.H.Host.state c.args.host.now)) (seen source' (g.K.Sink.state c.write_session.new.sink) (g.H.Host.state c.run_lined-ran.new.host)) c.write_session.result ended c.in-Ok.ensures.script whole lines (rw list at row);
    }

pub unreachable-requires : goal.unreachable-requires
unreachable-requires g c =
    let (exchanges, calls, whole, lines) = c.in-Ok-ran.ensures in
    tells_still g.H.Host.state g.H.Host.made c.args.host.now c.run_lined-ran.new.host exchanges calls c.requires.told c.in-None.ensures

pub returns-clause-no_read : goal.returns-clause-no_read
returns-clause-no_read g c =
    let (written, put, row) = c.write_session.ensures.written in
    λ e. no_read_fault c.write_session.result _ written (g.K.Sink.state c.args.sink.now) (g.K.Sink.state c.write_session.new.sink) row e
