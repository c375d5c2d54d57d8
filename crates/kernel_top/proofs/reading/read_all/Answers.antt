use Rattle.std.proofs.Common.{◌++◌, take, arith, length-append}
use Rattle.std.proofs.lemmas.List.{length-take}
use Rattle.kernel_top.specs.declared.reading.Refused.TheVariants as refused
use Rattle.kernel_steps.proofs.Results.{stopped_by}
use Rattle.kernel_top.proofs.Taking.{ended, consumes_kept, consumes_more}
use Rattle.kernel_top.proofs.reading.read_all.Goals as goal

pub returns-in_err-extend_from_slice-in-Bytes-clause-some : goal.returns-in_err-extend_from_slice-in-Bytes-clause-some
returns-in_err-extend_from_slice-in-Bytes-clause-some g c =
    rw (stopped_by c.from_residual.result refused.NoMemory c.from_residual.ensures) (record {
      bytes = c.loop-piece.all.items ++ take c.in-Bytes.n c.read.new.into;
      taken = consumes_more _ _ _ c.loop-piece.all.items (take c.in-Bytes.n c.read.new.into) c.loop-piece.invariant.taken c.in-Bytes.ensures.bytes.2;
      few = omega (arith, length-append c.loop-piece.all.items (take c.in-Bytes.n c.read.new.into), length-take c.in-Bytes.n c.read.new.into, c.loop-piece-test.true, c.len.ensures, c.len-in-loop-piece.ensures, c.min-room.ensures, c.read.auto.into, length-take c.min-room.result c.loop-piece.piece);
      long = λ e. cc;
    })

pub returns-in-End-clause-all : goal.returns-in-End-clause-all
returns-in-End-clause-all g c = record {
  taken = consumes_kept _ _ _ c.loop-piece.all.items c.loop-piece.invariant.taken c.in-End.ensures.bytes.0;
  ended = ended _ _ _ c.loop-piece.all.items c.loop-piece.invariant.taken c.in-End.ensures.bytes.0 c.in-End.ensures.bytes.1;
  short = omega (arith, c.loop-piece-test.true, c.len.ensures);
}

pub returns-in-Failed-clause-some : goal.returns-in-Failed-clause-some
returns-in-Failed-clause-some g c = record {
  bytes = c.loop-piece.all.items;
  taken = consumes_kept _ _ _ c.loop-piece.all.items c.loop-piece.invariant.taken c.in-Failed.ensures.bytes;
  few = c.loop-piece.invariant.few;
  long = λ e. cc;
}
