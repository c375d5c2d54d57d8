use Rattle.std.proofs.Common.{[], arith}
use Rattle.std.proofs.KnownBytes.{Appends-nil}
use Rattle.kernel_state.specs.Whole.{program_with}
use Rattle.kernel_top.proofs.Checks.{told_yes, told_else, judged_no_fault}
use Rattle.kernel_top.proofs.checking.answer_bytes.Goals as goal

pub returns-in-Done-clause-written : goal.returns-in-Done-clause-written
returns-in-Done-clause-written g c =
    let (written, put, so) = told_yes (λ script. program_with g.N.Natives.names g.N.Natives.does script c.args.natives.now) c.write_all.result c.args.bytes.now (g.K.Sink.state c.args.sink.now) (g.K.Sink.state c.write_all.new.sink) c.in-Done.ensures c.write_all.ensures in
    rw c.written_status.ensures (written, put, so)

pub returns-in_default : goal.returns-in_default
returns-in_default g c = record {
  written = ([], Appends-nil _, told_else (λ script. program_with g.N.Natives.names g.N.Natives.does script c.args.natives.now) c.check_bytes.result c.args.bytes.now (g.K.Sink.state c.args.sink.now) c.in_default.not-Done c.check_bytes.ensures);
  write_fault = record {
    later = omega arith;
    rose = λ e. absurd ((judged_no_fault (λ script. program_with g.N.Natives.names g.N.Natives.does script c.args.natives.now) c.check_bytes.result c.args.bytes.now c.check_bytes.ensures).1 e);
  };
}
