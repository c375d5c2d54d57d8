use Rattle.std.proofs.Common.{◌≡◌, ◌-◌, ◌≤◌, [], length, append-nil, refl, sym, ap, subst, ◌∙◌, arith}
use Rattle.plain_machine.specs.State.{new_state}
use Rattle.plain_machine.specs.Run.{start}
use Rattle.host_link.specs.Meaning.{exchanges_of}
use Rattle.kernel_steps.specs.Work.{working}
use Rattle.trace_check.specs.Comparing.{Compared}
use Rattle.trace_check.specs.Meaning.{list_of}
use Rattle.trace_check.specs.Turns.{Seen, seen}
use Rattle.trace_check.specs.Verdicts.{HasCome, IsVerdict}
use Rattle.trace_check.specs.declared.checking.Verdict.TheVariants as verdict
use Rattle.trace_check.proofs.Agreeing.{kept, same_held}
use Rattle.trace_check.proofs.Judging.{begins, goes_on, waits, is_off}
use Rattle.trace_check.proofs.checking.compare.Goals as goal

pub steps-init : goal.steps-init
steps-init g c = record {
  come = begins (g.P.Program.meant c.args.program.now) (working new_state (list_of c.args.machine.now.work)) (exchanges_of c.args.journal.now) (g.M.Kernel.state c.args.machine.now.kernel) (list_of c.args.machine.now.work) c.args.machine.now.used c.new-sink.result.given refl c.requires.new c.requires.unused (ap (λ (s : Compared). s.given) c.new-sink.ensures);
  claimed = ap (λ (s : Compared). s.claimed) c.new-sink.ensures;
}

pub steps-preserved : goal.steps-preserved
steps-preserved g c =
    let program = g.P.Program.meant c.args.program.now in
    let from = working new_state (list_of c.args.machine.now.work) in
    let journal = exchanges_of c.args.journal.now in
    let old = seen (g.M.Kernel.state c.steps.machine.kernel) (list_of c.steps.machine.work) c.steps.machine.used in
    let new = seen (g.M.Kernel.state c.step.new.self.kernel) (list_of c.step.new.self.work) c.step.new.self.used in
    let on = goes_on program from journal old new c.steps.sink c.step.new.sink (rw (c.in-Ok-Went.is, c.in-Ok-Went.field-0-is) at c.step.ensures.turn) c.steps.invariant.come in
    record { come = on.0; claimed = on.1 ∙ c.steps.invariant.claimed }

pub returns-in-Ok-Ended : goal.returns-in-Ok-Ended
returns-in-Ok-Ended g c = λ script is.
    let program = g.P.Program.meant c.args.program.now in
    let journal = exchanges_of c.args.journal.now in
    let old = seen (g.M.Kernel.state c.steps.machine.kernel) (list_of c.steps.machine.work) c.steps.machine.used in
    let come = subst (λ f. HasCome program f journal old c.steps.sink.given) (ap (working new_state) is) c.steps.invariant.come in
    let turned = rw (c.in-Ok-Ended.is, c.in-Ok-Ended.field-0-is) at c.step.ensures.turn in
    let same : c.step.new.sink.given ≡ c.steps.sink.given = (kept c.steps.sink c.step.new.sink [] (same_held c.steps.sink c.step.new.sink turned.2)).given ∙ append-nil c.steps.sink.given in
    let claimed : c.step.new.sink.claimed ≡ c.args.claimed.now = (kept c.steps.sink c.step.new.sink [] (same_held c.steps.sink c.step.new.sink turned.2)).claimed ∙ c.steps.invariant.claimed in
    subst (λ l. IsVerdict program script journal l c.judge.result) claimed
    (c.judge.ensures program script old (sym (c.used.ensures ∙ ap (λ (s : Seen). s.used) turned.1)) turned.0 (subst (HasCome program (start script) journal old) (sym same) come))

pub overflow_cast-result : goal.overflow_cast-result
overflow_cast-result g c =
    let turned = rw (c.in-Ok-Waits.is, c.in-Ok-Waits.field-0-is) at c.step.ensures.turn in
    let same : c.used-in-Ok-Waits.result ≡ c.steps.machine.used = c.used-in-Ok-Waits.ensures ∙ ap (λ (s : Seen). s.used) turned.1 in
    let within : c.steps.machine.used ≤ length (exchanges_of c.args.journal.now) = c.steps.invariant.come.within in
    omega (arith, same, within, c.requires.few)

pub returns-in-Ok-Waits : goal.returns-in-Ok-Waits
returns-in-Ok-Waits g c = λ script is.
    let program = g.P.Program.meant c.args.program.now in
    let journal = exchanges_of c.args.journal.now in
    let claimed = c.args.claimed.now in
    let old = seen (g.M.Kernel.state c.steps.machine.kernel) (list_of c.steps.machine.work) c.steps.machine.used in
    let come = subst (λ f. HasCome program f journal old c.steps.sink.given) (ap (working new_state) is) c.steps.invariant.come in
    let turned = rw (c.in-Ok-Waits.is, c.in-Ok-Waits.field-0-is) at c.step.ensures.turn in
    let same : c.used-in-Ok-Waits.result ≡ c.steps.machine.used = c.used-in-Ok-Waits.ensures ∙ ap (λ (s : Seen). s.used) turned.1 in
    subst (λ n. IsVerdict program script journal claimed (verdict.Strayed n)) (sym same) (waits program script journal old c.steps.sink.given come claimed turned.0 turned.3)

pub overflow_cast-result-in-Ok-Off : goal.overflow_cast-result-in-Ok-Off
overflow_cast-result-in-Ok-Off g c =
    let turned = rw (c.in-Ok-Off.is, c.in-Ok-Off.field-0-is) at c.step.ensures.turn in
    let same : c.used-in-Ok-Off.result ≡ c.steps.machine.used = c.used-in-Ok-Off.ensures ∙ ap (λ (s : Seen). s.used) turned.2 in
    let within : c.steps.machine.used ≤ length (exchanges_of c.args.journal.now) = c.steps.invariant.come.within in
    omega (arith, same, within, c.requires.few)

pub returns-in-Ok-Off : goal.returns-in-Ok-Off
returns-in-Ok-Off g c = λ script is.
    let program = g.P.Program.meant c.args.program.now in
    let journal = exchanges_of c.args.journal.now in
    let claimed = c.args.claimed.now in
    let old = seen (g.M.Kernel.state c.steps.machine.kernel) (list_of c.steps.machine.work) c.steps.machine.used in
    let come = subst (λ f. HasCome program f journal old c.steps.sink.given) (ap (working new_state) is) c.steps.invariant.come in
    let turned = rw (c.in-Ok-Off.is, c.in-Ok-Off.field-0-is) at c.step.ensures.turn in
    let same : c.used-in-Ok-Off.result ≡ c.steps.machine.used = c.used-in-Ok-Off.ensures ∙ ap (λ (s : Seen). s.used) turned.2 in
    subst (λ n. IsVerdict program script journal claimed (verdict.Strayed n)) (sym same) (is_off program script journal old c.steps.sink.given come claimed turned.0 turned.1 turned.4)
