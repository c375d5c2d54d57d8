use Rattle.std.proofs.Common.{◌≡◌, ℕ, [], ◌∷◌, ◌+◌, ◌&&◌, not, length, ap, ◌∙◌, rules}
use Rattle.std.specs.Prelude.{Some, nat_le}
use Rattle.editor_model.specs.Values.{ProcessEnded, TooMany}
use Rattle.editor_model.specs.Answers.{Test, refuse}
use Rattle.plain_machine.specs.Arguments.{is_running, is_closed, encoded}
use Rattle.plain_machine.specs.Refusals.{must_ask, most_sent}
use Rattle.ek_call.specs.Faults.{fault_of}
use Rattle.prim_arguments.specs.Meaning.{fault_in}
use Rattle.prim_changes.proofs.Strings.{alone}
use Rattle.kernel_state.specs.Meaning.{state_of}
use Rattle.kernel_state.proofs.Refusing.{stops, goes}
use Rattle.kernel_state.proofs.refusals.must_send.Goals as goal

pub returns-in_err-must : goal.returns-in_err-must
returns-in_err-must c =
    let s = state_of c.args.kernel.now in
    let runs : Test = refuse ProcessEnded (is_running s c.args.p && not (is_closed s c.args.p)) in
    let few : Test = refuse TooMany (nat_le (s.sent + length (encoded c.args.text.now)) most_sent) in
    let told : fault_in c.from_residual.result ≡ Some (fault_of c.in_err-must.field-0.0) = search rules in
    told ∙ stops runs (few ∷ must_ask s ∷ []) _ (c.in_err-must.ensures ∙ ap (refuse ProcessEnded) c.is_open.ensures)

pub returns-in_err-must-2 : goal.returns-in_err-must-2
returns-in_err-must-2 c =
    let s = state_of c.args.kernel.now in
    let runs : Test = refuse ProcessEnded (is_running s c.args.p && not (is_closed s c.args.p)) in
    let few : Test = refuse TooMany (nat_le (s.sent + length (encoded c.args.text.now)) most_sent) in
    let told : fault_in c.from_residual-in_err-must-2.result ≡ Some (fault_of c.in_err-must-2.field-0.0) = search rules in
    told
    ∙ stops few (must_ask s ∷ []) _ (c.in_err-must-2.ensures ∙ ap (refuse TooMany) (c.may_send.ensures ∙ ap (λ (n : ℕ). nat_le (s.sent + n) most_sent) c.encoded_length.ensures))
    ∙ goes runs (few ∷ must_ask s ∷ []) (c.in_ok-must.ensures ∙ ap (refuse ProcessEnded) c.is_open.ensures)

pub returns : goal.returns
returns c =
    let s = state_of c.args.kernel.now in
    let runs : Test = refuse ProcessEnded (is_running s c.args.p && not (is_closed s c.args.p)) in
    let few : Test = refuse TooMany (nat_le (s.sent + length (encoded c.args.text.now)) most_sent) in
    c.must_ask.ensures
    ∙ alone (must_ask s)
    ∙ goes few (must_ask s ∷ []) (c.in_ok-must-2.ensures ∙ ap (refuse TooMany) (c.may_send.ensures ∙ ap (λ (n : ℕ). nat_le (s.sent + n) most_sent) c.encoded_length.ensures))
    ∙ goes runs (few ∷ must_ask s ∷ []) (c.in_ok-must.ensures ∙ ap (refuse ProcessEnded) c.is_open.ensures)
