use Rattle.std.proofs.Common.{◌≡◌, ◌∷◌, ap, sym, ◌∙◌, subst, false, slice_get}
use Rattle.std.specs.Prelude.{Some, option_map}
use Rattle.plain_machine.specs.Exchanges.{Answer}
use Rattle.plain_machine.specs.Items.{Wait}
use Rattle.host_link.specs.Meaning.{exchange_of}
use Rattle.trace_check.specs.Answers.{Hears, may_hear}
use Rattle.trace_check.specs.Meaning.{list_of, target_of}
use Rattle.trace_check.specs.Questions.{Meets, allows, asked, asked_about}
use Rattle.trace_check.proofs.Agreement.{comes_missed, comes_heard}
use Rattle.trace_check.proofs.WaitItems.{asked_is_made, asks_spent, asks_process, goes, goes_nowhere, goes_heard}
use Rattle.trace_check.proofs.waits.ask.Goals as goal

pub returns-then-not-may_ask : goal.returns-then-not-may_ask
returns-then-not-may_ask g c = λ program.
    asks_spent program (g.M.Kernel.state c.args.kernel.now) c.args.waiting (target_of c.args.target) (list_of c.args.work.now) c.args.p c.requires.ahead (list_of c.put_back.new.self) (sym c.may_ask.ensures ∙ c.if-not-may_ask.true) c.put_back.ensures

pub get-process-requires : goal.get-process-requires
get-process-requires g c = rw c.processes.ensures (asked_is_made (g.M.Kernel.state c.args.kernel.now).processes c.args.waiting c.args.p c.requires.ahead)

pub returns-in-Err : goal.returns-in-Err
returns-in-Err g c = λ program.
    let known = g.M.Kernel.state c.args.kernel.now in
    let w = c.args.waiting in
    let target = target_of c.args.target in
    let rest = list_of c.args.work.now in
    let next = option_map (λ x. exchange_of x.now) c.args.next in
    let k = c.get-process.result.now in
    let made : slice_get known.processes c.args.p ≡ Some k = subst (λ l. slice_get l c.args.p ≡ Some k) c.processes.ensures c.get-process.ensures in
    let may_ask = sym c.may_ask.ensures ∙ c.if-not-may_ask.false in
    let about : asked c.question_about-question.result ≡ asked_about k.drained k.child = c.question_about-question.ensures.asks ∙ ap (λ d. asked_about d c.child.result) c.drained-drained.ensures ∙ ap (asked_about k.drained) c.child.ensures in
    let asks = asks_process program known w target rest c.args.p c.requires.ahead k made may_ask in
    let go = goes program known w target rest c.args.p c.requires.ahead in
    let may = allows c.question_about-question.result in
    let barred = λ (answer : Answer) (no : may answer ≡ false). ap (λ d. may_hear d answer) (sym c.drained-drained.ensures) ∙ sym (c.question_about-question.ensures.allows answer) ∙ no in
    let met : Meets (asked_about k.drained k.child) may next c.meet.result = subst (λ a. Meets a may next c.meet.result) about c.meet.ensures in
    comes_missed program next known (Wait w target ∷ rest) (asked_about k.drained k.child) (Unit {0}) may c.in-Err.missed (list_of c.put_back-in-Err.new.self) go asks (rw c.in-Err.is at met)
    (λ s h answer no. goes_nowhere program known w target rest c.args.p c.requires.ahead k answer made (barred answer no) s h) c.put_back-in-Err.ensures

pub returns-in_ok-hear-in-Ok : goal.returns-in_ok-hear-in-Ok
returns-in_ok-hear-in-Ok g c = λ program.
    let known = g.M.Kernel.state c.args.kernel.now in
    let w = c.args.waiting in
    let target = target_of c.args.target in
    let rest = list_of c.args.work.now in
    let next = option_map (λ x. exchange_of x.now) c.args.next in
    let k = c.get-process.result.now in
    let made : slice_get known.processes c.args.p ≡ Some k = subst (λ l. slice_get l c.args.p ≡ Some k) c.processes.ensures c.get-process.ensures in
    let may_ask = sym c.may_ask.ensures ∙ c.if-not-may_ask.false in
    let about : asked c.question_about-question.result ≡ asked_about k.drained k.child = c.question_about-question.ensures.asks ∙ ap (λ d. asked_about d c.child.result) c.drained-drained.ensures ∙ ap (asked_about k.drained) c.child.ensures in
    let asks = asks_process program known w target rest c.args.p c.requires.ahead k made may_ask in
    let go = goes program known w target rest c.args.p c.requires.ahead in
    let may = allows c.question_about-question.result in
    let met : Meets (asked_about k.drained k.child) may next c.meet.result = subst (λ a. Meets a may next c.meet.result) about c.meet.ensures in
    let (x, is, same, allowed, answer) = rw c.in-Ok.is at met in
    let known2 = g.M.Kernel.state c.hear.new.kernel in
    let left = list_of c.hear.new.work in
    let heard : Hears known known2 w target c.args.p x.answer rest left = subst (λ a. Hears known known2 w target c.args.p a rest left) (sym answer) c.in_ok-hear-in-Ok.ensures in
    comes_heard program next known (Wait w target ∷ rest) (asked_about k.drained k.child) (Unit {0}) known2 left go asks x is same (goes_heard program known w target rest c.args.p c.requires.ahead known2 left k x.answer made heard)

pub hear-requires-clause-allowed : goal.hear-requires-clause-allowed
hear-requires-clause-allowed g c =
    let known = g.M.Kernel.state c.args.kernel.now in
    let k = c.get-process.result.now in
    let made : slice_get known.processes c.args.p ≡ Some k = subst (λ l. slice_get l c.args.p ≡ Some k) c.processes.ensures c.get-process.ensures in
    let question = c.question_about-question.result in
    let next = option_map (λ x. exchange_of x.now) c.args.next in
    let met : Meets (asked question) (allows question) next c.meet.result = c.meet.ensures in
    let (x, is, same, allowed, answer) = rw c.in-Ok.is at met in
    (k, made, ap (may_hear k.drained) (sym answer) ∙ ap (λ d. may_hear d x.answer) (sym c.drained-drained.ensures) ∙ sym (c.question_about-question.ensures.allows x.answer) ∙ allowed)
