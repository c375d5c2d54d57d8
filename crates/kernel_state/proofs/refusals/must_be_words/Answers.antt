use Rattle.std.proofs.Common.{◌≡◌, ◌∙◌, map, rules}
use Rattle.std.specs.Prelude.{Some}
use Rattle.text_model.proofs.Lists.{mapped_at}
use Rattle.editor_model.specs.Answers.{first_fault}
use Rattle.plain_machine.specs.Refusals.{must_be_word}
use Rattle.ek_call.specs.Meaning.{view}
use Rattle.ek_call.specs.Faults.{fault_of}
use Rattle.prim_arguments.specs.Meaning.{fault_in}
use Rattle.kernel_state.proofs.Refusing.{item_at, word_met, other_met}
use Rattle.kernel_state.proofs.refusals.must_be_words.Goals as goal

pub returns-in_err-must_be_word : goal.returns-in_err-must_be_word
returns-in_err-must_be_word c =
    let xs = c.args.args.now in
    let i = c.loop-word.word-index in
    let told : fault_in c.from_residual.result ≡ Some (fault_of c.in_err-must_be_word.field-0.0) = search rules in
    told
    ∙ other_met (map view xs) i (first_fault (map must_be_word (map view xs))) (view c.word-item.result) _ (mapped_at view xs i c.word-item.result (item_at xs i c.word-item.result c.loop-word-test.true c.word-item.is))
    c.in_err-must_be_word.ensures c.loop-word.invariant

pub loop-word-preserved : goal.loop-word-preserved
loop-word-preserved c =
    let xs = c.args.args.now in
    let i = c.loop-word.word-index in
    word_met (map view xs) i (first_fault (map must_be_word (map view xs))) (view c.word-item.result) (mapped_at view xs i c.word-item.result (item_at xs i c.word-item.result c.loop-word-test.true c.word-item.is))
    c.in_ok-must_be_word.ensures c.loop-word.invariant
