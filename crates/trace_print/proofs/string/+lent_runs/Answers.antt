use Rattle.std.proofs.Common.{◌+◌, ◌<◌, ◌^◌, ◌∷◌, length, length-append, ap, sym, refl, arith, rules}
use Rattle.plain_machine.specs.Lines.{run_words}
use Rattle.prop_intervals.specs.Runs.{size}
use Rattle.prop_intervals.proofs.RunLemmas.{size-append}
use Rattle.trace_print.specs.Strings.{led, placed}
use Rattle.trace_print.proofs.Placed.{words_parted}
use Rattle.sink_printer.proofs.Printing.{prints_then, prints_same, prints_nothing}
use Rattle.trace_print.proofs.string.+lent_runs.Goals as goal

pub overflow_add-from : goal.overflow_add-from
overflow_add-from g t c =
    let p = c.in-Some.parted in
    omega (arith, c.requires, c.len.ensures, ap size c.in-Some.ensures.some, size-append p.front ((p.set.now, p.len) ∷ p.behind))

pub overflow_add-to : goal.overflow_add-to
overflow_add-to g t c =
    let p = c.in-Some.parted in
    omega (arith, c.requires, c.len.ensures, ap size c.in-Some.ensures.some, size-append p.front ((p.set.now, p.len) ∷ p.behind))

pub lent_runs-requires : goal.lent_runs-requires
lent_runs-requires g t c =
    let p = c.in-Some.parted in
    let room : c.args.start + size p.front < 2 ^ 64 = omega (arith, c.requires, ap size c.in-Some.ensures.some, size-append p.front ((p.set.now, p.len) ∷ p.behind)) in
    let fewer : length p.front < length c.args.runs.now = omega (arith, ap length c.in-Some.ensures.some, length-append p.front ((p.set.now, p.len) ∷ p.behind)) in
    search (rules, room, fewer)

pub lent_runs-requires-2 : goal.lent_runs-requires-2
lent_runs-requires-2 g t c =
    let p = c.in-Some.parted in
    let room : c.args.start + c.len.result + p.len + size p.behind < 2 ^ 64 = omega (arith, c.requires, c.len.ensures, ap size c.in-Some.ensures.some, size-append p.front ((p.set.now, p.len) ∷ p.behind)) in
    let fewer : length p.behind < length c.args.runs.now = omega (arith, ap length c.in-Some.ensures.some, length-append p.front ((p.set.now, p.len) ∷ p.behind)) in
    search (rules, room, fewer)

pub returns-in_default : goal.returns-in_default
returns-in_default g t c = prints_same (ap (λ l. led (run_words c.args.symbols.now (placed c.args.start l))) (sym c.in_default.ensures.none)) prints_nothing

pub returns : goal.returns
returns g t c =
    let p = c.in-Some.parted in
    prints_same
    (words_parted c.args.symbols.now c.args.start (c.args.start + c.len.result) (c.args.start + c.len.result + p.len) p.front p.behind c.args.runs.now p.set.now p.len (ap (λ n. c.args.start + n) c.len.ensures) refl c.in-Some.ensures.some)
    (prints_then c.lent_runs.ensures (prints_then c.run.ensures c.lent_runs-2.ensures))
