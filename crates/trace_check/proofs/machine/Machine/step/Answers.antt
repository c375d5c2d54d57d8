use Rattle.std.proofs.Common.{[], ◌∷◌, refl, sym, subst, ◌∙◌}
use Rattle.std.specs.Prelude.{Ok, option_map}
use Rattle.host_link.specs.Meaning.{exchange_of, exchanges_of}
use Rattle.trace_check.specs.Meaning.{list_of}
use Rattle.trace_check.specs.Steps.{Comes}
use Rattle.trace_check.specs.declared.turn.Done.TheVariants as done
use Rattle.trace_check.proofs.Turning.{is_off}
use Rattle.trace_check.proofs.machine.Machine.step.Goals as goal

pub returns-in-Alone-clause-turn : goal.returns-in-Alone-clause-turn
returns-in-Alone-clause-turn g c = ([], refl, rw (c.in-Alone.is, sym c.in-Some.ensures.some) at c.in_ok-done.ensures.step)

pub returns-in-Answered-clause-turn : goal.returns-in-Answered-clause-turn
returns-in-Answered-clause-turn g c =
    let (x, is, steps) = rw (c.in-Answered.is, sym c.in-Some.ensures.some) at c.in_ok-done.ensures.step in
    (x ∷ [], (sym c.exchange_at-next.ensures ∙ is, refl), steps)

pub returns-in-Off-clause-turn : goal.returns-in-Off-clause-turn
returns-in-Off-clause-turn g c =
    let program = g.P.Program.meant c.args.program.now in
    let journal = exchanges_of c.args.journal.now in
    let known = g.M.Kernel.state c.args.self.now.kernel in
    let known2 = g.M.Kernel.state c.do_item.new.kernel in
    let work = list_of c.args.self.now.work in
    let left = list_of c.do_item.new.work in
    let used = c.args.self.now.used in
    let old = g.K.Sink.state c.args.sink.now in
    let new = g.K.Sink.state c.do_item.new.sink in
    is_off program journal known known2 work left used old new (Unit {0})
    (subst (λ n. Comes {E = Unit {0}} (Ok done.Off) program n known known2 work left old new) c.exchange_at-next.ensures
    (subst (λ w. Comes {E = Unit {0}} (Ok done.Off) program (option_map (λ x. exchange_of x.now) c.exchange_at-next.result) known known2 w left old new) (sym c.in-Some.ensures.some)
    (rw c.in-Off.is at c.in_ok-done.ensures.step)))
