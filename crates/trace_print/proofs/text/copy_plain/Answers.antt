use Rattle.std.proofs.Common.{◌≡◌, ◌<◌, ◌%◌, ◌∷◌, [], ◌++◌, take, flat_map, slice_index, ap, subst, ◌∙◌, arith}
use Rattle.std.proofs.lemmas.List.{take_more_set, length-set}
use Rattle.plain_machine.specs.Lines.{shown_ch}
use Rattle.trace_print.proofs.Codes.{low_on}
use Rattle.trace_print.proofs.text.copy_plain.Goals as goal

pub loop-n-preserved : goal.loop-n-preserved
loop-n-preserved c =
    let before = c.loop-n.invariant in
    let inside : c.loop-n.n < 16 = omega (arith, c.loop-n-test.true) in
    let code = slice_index c.args.codes.now c.loop-n.n in
    let low = c.requires.low c.loop-n.n inside in
    let same : code % 256 ≡ code = omega (arith, low) in
    record {
      bytes = λ chars are.
          take_more_set c.loop-n.out c.loop-n.n (code % 256) (omega (arith, before.size, inside)) ∙ ap (λ l. l ++ code % 256 ∷ []) (before.bytes chars are) ∙
          low_on c.args.codes.now chars c.loop-n.n (code % 256 ∷ []) are (omega (arith, c.requires.many, inside)) (ap (λ b. b ∷ []) same ∙ c.requires.shown c.loop-n.n inside) low;
      size = length-set c.loop-n.out c.loop-n.n (code % 256) ∙ before.size;
    }

pub returns : goal.returns
returns c = λ chars are.
    let whole : c.loop-n.n ≡ 16 = omega (arith, c.loop-n-test.false, c.loop-n.auto.n-end) in
    subst (λ n. take n c.loop-n.out ≡ flat_map shown_ch (take n chars)) whole (c.loop-n.invariant.bytes chars are)
