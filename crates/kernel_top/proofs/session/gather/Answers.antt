use Rattle.std.proofs.Common.{[], refl, inr}
use Rattle.std.proofs.KnownBytes.{Appends-nil}
use Rattle.ek_call.specs.Meaning.{script_of}
use Rattle.kernel_state.specs.Whole.{program_with}
use Rattle.kernel_top.specs.Outcomes.{seen}
use Rattle.kernel_top.proofs.Gathering.{gathers}
use Rattle.kernel_top.proofs.session.gather.Goals as goal

pub returns-in-Ok-clause-outcome : goal.returns-in-Ok-clause-outcome
returns-in-Ok-clause-outcome g c =
    let (exchanges, calls, ran) = c.in-Ok.ensures in
    let (whole, stands) = ran in
    let (written, put, row) = c.write_gathered.ensures.written whole.ran.last.state stands in
    record {
      written = written;
      exchanges = exchanges;
      put = put;
      calls = calls;
      so = λ source source'.
          gathers (program_with g.N.Natives.names g.N.Natives.does (script_of c.args.script.now) c.args.natives.now) (script_of c.args.script.now) exchanges
          (seen source (g.K.Sink.state c.args.sink.now) (g.H.Host.state c.args.host.now)) (seen source' (g.K.Sink.state c.write_gathered.new.sink) (g.H.Host.state c.run_unseen_on.new.host)) c.write_gathered.result written whole row;
    }

pub returns-in-Err-clause-outcome : goal.returns-in-Err-clause-outcome
returns-in-Err-clause-outcome g c =
    let (exchanges, calls, broken) = c.in-Err.ensures in
    record {
      written = [];
      exchanges = exchanges;
      put = Appends-nil _;
      calls = calls;
      so = λ source source'. inr (record { broken = broken; nothing = refl; same = refl });
    }
