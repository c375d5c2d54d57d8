use Rattle.std.proofs.Common.{refl, sym, ◌∙◌, [], inl, arith}
use Rattle.std.proofs.KnownBytes.{Appends-nil}
use Rattle.ek_call.specs.Meaning.{script_of}
use Rattle.kernel_state.specs.Whole.{program_with}
use Rattle.kernel_top.specs.Outcomes.{seen, Runs}
use Rattle.kernel_top.proofs.Outcomes.{quiet, came, came_refused, refused_no_read, refused_no_write, is_write_fault, is_no_read_fault}
use Rattle.kernel_top.proofs.running.run_bytes.Goals as goal

pub returns-in-Err-clause-outcome : goal.returns-in-Err-clause-outcome
returns-in-Err-clause-outcome g c =
    came_refused (Runs (λ script. program_with g.N.Natives.names g.N.Natives.does script c.args.natives.now)) g.H.Host.state g.H.Host.made c.in-Err.status c.args.bytes.now c.args.host.now (g.K.Sink.state c.args.sink.now) c.in-Err.ensures.none

pub returns-in-Err-clause-no_read : goal.returns-in-Err-clause-no_read
returns-in-Err-clause-no_read g c = λ e. refused_no_read c.in-Err.status c.args.bytes.now c.in-Err.ensures.none e

pub returns-in-Err-clause-write_fault : goal.returns-in-Err-clause-write_fault
returns-in-Err-clause-write_fault g c = record { later = omega arith; rose = λ e. absurd (refused_no_write c.in-Err.status c.args.bytes.now c.in-Err.ensures.none e) }

pub returns-in_default-clause-outcome : goal.returns-in_default-clause-outcome
returns-in_default-clause-outcome g c = record {
  written = [];
  exchanges = [];
  put = Appends-nil _;
  calls = refl;
  so = λ source source' ended. inl (quiet source source' _ _);
}

pub returns-clause-outcome : goal.returns-clause-outcome
returns-clause-outcome g c =
    let (written, exchanges, put, calls, so) = c.run_script-ended.ensures.outcome in
    rw c.status_of.ensures (record {
      written = written;
      exchanges = exchanges;
      put = put;
      calls = calls;
      so = λ source source' ended.
          came (λ script. program_with g.N.Natives.names g.N.Natives.does script c.args.natives.now) (script_of c.in-Ok.script) c.run_script-ended.result c.args.bytes.now written exchanges
          (seen source (g.K.Sink.state c.args.sink.now) (g.H.Host.state c.args.host.now)) (seen source' (g.K.Sink.state c.run_script-ended.new.sink) (g.H.Host.state c.run_script-ended.new.host)) _ ended c.in-Ok.ensures.script so;
    })

pub returns-clause-no_read : goal.returns-clause-no_read
returns-clause-no_read g c = λ e. is_no_read_fault c.run_script-ended.result (sym c.status_of.ensures ∙ e)

pub returns-clause-write_fault : goal.returns-clause-write_fault
returns-clause-write_fault g c =
    record { later = c.run_script-ended.ensures.cause.later; rose = λ e. c.run_script-ended.ensures.cause.rose (is_write_fault c.run_script-ended.result (sym c.status_of.ensures ∙ e)) }
