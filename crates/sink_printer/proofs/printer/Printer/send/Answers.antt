use Rattle.std.proofs.Common.{sym, ap, ◌∙◌, refl}
use Rattle.sink_printer.proofs.Printing.{sent, as_err}
use Rattle.sink_printer.proofs.printer.Printer.send.Goals as goal

pub returns-then-is_err : goal.returns-then-is_err
returns-then-is_err g c =
    let kept = as_err c.try_extend_from_slice.result (sym c.is_err.ensures.value ∙ c.if-is_err.true) c.try_extend_from_slice.ensures.err in
    sent c.requires (ap (λ v. v.items) kept ∙ c.requires) refl c.write-self.ensures
