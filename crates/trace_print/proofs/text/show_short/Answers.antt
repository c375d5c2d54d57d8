use Rattle.std.proofs.Common.{◌<◌, ◌++◌, length, slice_index, refl, ap, ◌∙◌, arith}
use Rattle.plain_machine.specs.Lines.{shown_code}
use Rattle.trace_print.proofs.Codes.{low_on}
use Rattle.trace_print.proofs.text.show_short.Goals as goal

pub loop-n-preserved : goal.loop-n-preserved
loop-n-preserved c =
    let before = c.loop-n.invariant in
    let code = slice_index c.args.codes.now c.loop-n.n in
    let some : 0 < c.put_short-more.result = omega (arith, c.if-more-eq0.false) in
    let inside : c.loop-n.n < length c.args.codes.now = omega (arith, c.loop-n-test.true, c.min-count.ensures) in
    record {
      bytes = λ chars are. c.put_short-more.ensures.bytes some ∙ ap (λ l. l ++ shown_code code) (before.bytes chars are)
          ∙ low_on c.args.codes.now chars c.loop-n.n (shown_code code) are inside refl (c.put_short-more.ensures.low some);
      fits = omega (arith, before.fits, c.put_short-more.ensures.few);
      room = c.put_short-more.array_long;
    }
