use Rattle.std.proofs.Common.{◌≡◌, map, drop}
use Rattle.editor_model.specs.Answers.{first_fault}
use Rattle.plain_machine.specs.Refusals.{must_be_word}
use Rattle.ek_call.specs.Meaning.{view}
use Rattle.kernel_state.proofs.refusals.must_be_words.Given as goal

abbrev pub invariant-loop-word : goal.invariant-loop-word
invariant-loop-word l = first_fault (map must_be_word (drop l.word-index (map view l.args))) ≡ first_fault (map must_be_word (map view l.args))
