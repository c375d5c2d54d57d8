use Rattle.std.proofs.Common.{ap, Err}
use Rattle.kernel_top.proofs.checking.check_bytes.Goals as goal

pub returns-in-Err-Line : goal.returns-in-Err-Line
returns-in-Err-Line g c =
    let none = c.in-Err-Line.ensures.none c.in-Err-Line.line (ap Err c.in-Err-Line.field-0-is) in
    let at = c.in-Err-Line.ensures.line c.in-Err-Line.line (ap Err c.in-Err-Line.field-0-is) in
    rw c.in-Err-Line.line-is (record { none = none; at = at })
