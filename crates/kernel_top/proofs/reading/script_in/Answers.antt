use Rattle.std.proofs.Common.{Err, ap}
use Rattle.kernel_top.proofs.reading.script_in.Goals as goal

pub returns-in-Err-Line-clause-none : goal.returns-in-Err-Line-clause-none
returns-in-Err-Line-clause-none c =
    let none = c.in-Err-Line.ensures.none c.in-Err-Line.line (ap Err c.in-Err-Line.field-0-is) in
    let at = c.in-Err-Line.ensures.line c.in-Err-Line.line (ap Err c.in-Err-Line.field-0-is) in
    rw c.in-Err-Line.line-is (record { none = none; at = at })
