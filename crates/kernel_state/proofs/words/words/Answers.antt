use Rattle.std.proofs.Common.{◌≡◌, true, sym, subst}
use Rattle.plain_machine.specs.Arguments.{is_word}
use Rattle.ek_call.specs.Meaning.{view}
use Rattle.ek_call.specs.declared.value.Value.{Value}
use Rattle.kernel_state.proofs.Coding.{each_holds}
use Rattle.kernel_state.proofs.words.words.Goals as goal

pub word_of-requires : goal.word_of-requires
word_of-requires c =
    subst (λ (v : Value). is_word (view v) ≡ true) (sym c.value-item.is) (each_holds is_word view c.args.values.now c.loop-value.value-index c.value-item.result c.requires c.loop-value-test.true)
