use Rattle.std.proofs.Common.{arith, ◌∙◌, sym}
use Rattle.std.proofs.lemmas.List.{at_drop_more, at_drop_all}
use Rattle.plain_machine.specs.Words.{digits_value}
use Rattle.plain_machine.proofs.Digits.{few_digits, one_more_digit, digit_at}
use Rattle.command_words.proofs.words.value.Goals as goal

pub overflow_mul-n : goal.overflow_mul-n
overflow_mul-n c = let h = few_digits c.loop-d.d-index 4 c.loop-d.n (omega arith) c.loop-d.invariant.below in omega (arith, h)

pub overflow_add-n : goal.overflow_add-n
overflow_add-n c =
    let h = few_digits c.loop-d.d-index 4 c.loop-d.n (omega arith) c.loop-d.invariant.below in
    let k = digit_at c.args.digits.now c.loop-d.d-index c.requires.all c.loop-d-test.true in
    omega (arith, h, k)

pub loop-d-preserved : goal.loop-d-preserved
loop-d-preserved c = record {
  value = rw c.from.ensures (sym (at_drop_more (digits_value c.loop-d.n) c.args.digits.now c.loop-d.d-index 0 c.loop-d-test.true) ∙ c.loop-d.invariant.value);
  below = rw c.from.ensures (one_more_digit c.loop-d.d-index c.loop-d.n _ c.loop-d.invariant.below (digit_at c.args.digits.now c.loop-d.d-index c.requires.all c.loop-d-test.true));
}

pub returns : goal.returns
returns c = sym (at_drop_all (digits_value c.loop-d.n) c.args.digits.now c.loop-d.d-index c.loop-d-test.false) ∙ c.loop-d.invariant.value
