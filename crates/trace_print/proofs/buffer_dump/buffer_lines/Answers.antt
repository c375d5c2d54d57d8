use Rattle.std.proofs.Common.{ap, ◌+◌}
use Rattle.std.specs.Prelude.{codes, decimal, [], if◌then◌else◌}
use Rattle.plain_machine.specs.Lines.{shown_name}
use Rattle.sink_printer.proofs.Printing.{prints_then, prints_same}
use Rattle.trace_print.proofs.buffer_dump.buffer_lines.Goals as goal

pub returns : goal.returns
returns g c =
    let name = prints_same (ap shown_name c.name.ensures) c.unquoted.ensures in
    let point = prints_same (ap (λ n. decimal (n + 1)) c.point.ensures) c.position.ensures in
    let begin = prints_same (ap (λ n. decimal (n + 1)) c.begin.ensures) c.position-2.ensures in
    let end = prints_same (ap (λ n. decimal (n + 1)) c.end.ensures) c.position-3.ensures in
    let modified = prints_same (ap (λ b. if b then codes "t" else codes "nil") c.modified.ensures) c.flag.ensures in
    let read_only = prints_same (ap (λ b. if b then codes " read-only" else []) c.read_only.ensures) c.read_only_word.ensures in
    prints_then c.put.ensures (prints_then name (prints_then c.put-2.ensures (prints_then point (prints_then c.put-3.ensures (prints_then begin
    (prints_then c.put-4.ensures (prints_then end (prints_then c.put-5.ensures (prints_then modified (prints_then read_only (prints_then c.text_word.ensures (prints_then c.whole_text.ensures c.put-6.ensures))))))))))))
