use Rattle.std.proofs.Common.{◌≡◌, length, ap, sym, ◌∙◌, arith}
use Rattle.std.proofs.lemmas.List.{length-map}
use Rattle.text_model.specs.Characters.{code}
use Rattle.plain_machine.specs.Lines.{shown_ch}
use Rattle.sink_printer.proofs.Printing.{prints_then, prints_same, prints_nothing}
use Rattle.trace_print.proofs.Gathering.{all_of}
use Rattle.trace_print.proofs.Codes.{scalar_on}
use Rattle.trace_print.proofs.text.scalars.Goals as goal

pub loop-n-init : goal.loop-n-init
loop-n-init g c = λ chars are. prints_nothing

pub loop-n-preserved : goal.loop-n-preserved
loop-n-preserved g c = λ chars are. prints_same (scalar_on c.args.codes.now chars c.loop-n.n c.from_u32.result _ are c.loop-n-test.true c.from_u32.ensures.value c.from_u32.ensures.cases c.in-Some.is) (prints_then (c.loop-n.invariant chars are) c.shown.ensures)

pub returns-in-None-clause-prints : goal.returns-in-None-clause-prints
returns-in-None-clause-prints g c = c.loop-n.invariant

pub returns-clause-prints : goal.returns-clause-prints
returns-clause-prints g c = λ chars are.
    let size : length c.args.codes.now ≡ length chars = ap length are ∙ length-map chars code in
    prints_same (all_of shown_ch chars c.loop-n.n (omega (arith, size, c.loop-n-test.false)) ∙ sym (all_of shown_ch chars (length c.args.codes.now) (omega (arith, size)))) (c.loop-n.invariant chars are)

pub returns-then-is_plain-clause-prints : goal.returns-then-is_plain-clause-prints
returns-then-is_plain-clause-prints g c = c.loop-n.invariant
