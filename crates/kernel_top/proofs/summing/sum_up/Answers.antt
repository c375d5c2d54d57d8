use Rattle.std.proofs.Common.{[], refl, inl, inr}
use Rattle.std.proofs.KnownBytes.{Appends-nil}
use Rattle.kernel_state.specs.Whole.{program_with}
use Rattle.kernel_top.specs.Drills.{line_of}
use Rattle.kernel_top.proofs.Outcomes.{quiet, summed}
use Rattle.kernel_top.proofs.summing.sum_up.Goals as goal

pub returns-in_default-clause-outcome : goal.returns-in_default-clause-outcome
returns-in_default-clause-outcome g c = record {
  written = [];
  exchanges = [];
  put = Appends-nil _;
  calls = refl;
  so = λ source source'. inl (quiet source source' _ _);
}

pub returns-in_default-counted-clause-outcome : goal.returns-in_default-counted-clause-outcome
returns-in_default-counted-clause-outcome g c =
    let (exchanges, calls, broken) = c.in_default-counted.ensures c.args.count c.requires.script in
    record {
      written = [];
      exchanges = exchanges;
      put = Appends-nil _;
      calls = calls;
      so = λ source source'. inr (record { broken = broken; nothing = refl; same = refl });
    }

pub returns-clause-outcome : goal.returns-clause-outcome
returns-clause-outcome g c =
    let (exchanges, calls, sums) = c.in-Ok-counted.ensures c.args.count c.requires.script in
    let (written, put, row) = summed (λ script. program_with g.N.Natives.names g.N.Natives.does script c.args.natives.now) c.args.count c.write_summary.result (line_of c.args.count c.in-Ok-counted.counts) exchanges (g.K.Sink.state c.args.sink.now) (g.K.Sink.state c.write_summary.new.sink) sums c.write_summary.ensures in
    rw c.written_status.ensures (record {
      written = written;
      exchanges = exchanges;
      put = put;
      calls = calls;
      so = λ source source'. row source source' _ _;
    })
