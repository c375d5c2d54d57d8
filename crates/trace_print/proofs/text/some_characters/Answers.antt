use Rattle.std.proofs.Common.{length, take, drop, ◌∙◌, arith}
use Rattle.plain_machine.specs.Lines.{shown_ch}
use Rattle.ek_types.specs.Seen.{ch_of}
use Rattle.sink_printer.proofs.Printing.{prints_then, prints_same}
use Rattle.trace_print.proofs.Gathering.{none_then_one, some_of}
use Rattle.trace_print.proofs.Codes.{lent_within}
use Rattle.trace_print.proofs.text.some_characters.Goals as goal

pub returns-then-count-gt0-clause-prints : goal.returns-then-count-gt0-clause-prints
returns-then-count-gt0-clause-prints g c =
    let from = drop c.args.i (g.T.Characters.chars c.args.text.now) in
    prints_same (c.show_front-count.ensures.bytes (take (length c.codes-codes.result.now) from) c.codes-codes.ensures.codes ∙ some_of shown_ch c.show_front-count.result.0 (length c.codes-codes.result.now) from c.show_front-count.ensures.range) c.put.ensures

pub returns-then-others-gt0-clause-prints : goal.returns-then-others-gt0-clause-prints
returns-then-others-gt0-clause-prints g c =
    let from = drop c.args.i (g.T.Characters.chars c.args.text.now) in
    prints_same (some_of shown_ch c.scalars-others.result (length c.codes-codes.result.now) from c.scalars-others.ensures.range) (c.scalars-others.ensures.prints (take (length c.codes-codes.result.now) from) c.codes-codes.ensures.codes)

pub returns-then-others-gt0-clause-range : goal.returns-then-others-gt0-clause-range
returns-then-others-gt0-clause-range g c =
    omega (arith, c.requires, c.scalars-others.ensures.range, lent_within c.codes-codes.result.now (g.T.Characters.chars c.args.text.now) c.args.i c.codes-codes.ensures.codes)

pub returns-clause-prints : goal.returns-clause-prints
returns-clause-prints g c =
    let chars = g.T.Characters.chars c.args.text.now in
    let from = take (length c.codes-codes.result.now) (drop c.args.i chars) in
    prints_same (none_then_one shown_ch chars from c.args.i c.scalars-others.result (ch_of c.character.result) (omega (arith, c.if-others-gt0.false)) c.character.ensures) (prints_then (c.scalars-others.ensures.prints from c.codes-codes.ensures.codes) c.shown.ensures)
