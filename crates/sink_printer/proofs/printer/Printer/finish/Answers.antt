use Rattle.std.proofs.Common.{◌≡◌, sym, ap, ◌∙◌}
use Rattle.ek_types.proofs.Printing.{continues_same}
use Rattle.sink_printer.specs.Outcomes.{outcome}
use Rattle.sink_printer.proofs.Printing.{said_all}
use Rattle.sink_printer.proofs.printer.Printer.finish.Goals as goal
use Rattle.sink_printer.proofs.printer.Printer.finish.Goals.{then-write, else-write}

pub returns : goal.returns
returns g c =
    let came : c.if-write.result ≡ outcome c.write.result = elim c.if-write.branch [ then-write w ↦ w.result-is ∙ ap outcome (sym w.if-write.true) | else-write w ↦ w.result-is ∙ ap outcome (sym w.if-write.false) ] in
    record { by = λ start said s. said_all c.args.self.failed c.write.result start (g.K.Sink.state c.args.self.sink.now) (g.K.Sink.state c.write.new.sink) c.args.self.gathered.items said c.if-write.result came s (continues_same c.as_slice.ensures.value c.write.ensures) }
