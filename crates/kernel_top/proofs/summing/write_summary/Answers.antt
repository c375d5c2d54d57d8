use Rattle.ek_types.proofs.Printing.{continues_then, writes_of}
use Rattle.kernel_top.proofs.summing.write_summary.Goals as goal

pub returns : goal.returns
returns g c =
    writes_of (continues_then (rw c.from.ensures at c.put_number-so_far.ensures)
    (continues_then c.put_number-so_far-2.ensures (continues_then c.put_number-so_far-3.ensures (continues_then c.put_number-so_far-4.ensures c.put.ensures))))
