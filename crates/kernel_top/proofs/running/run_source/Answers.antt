use Rattle.std.proofs.Common.{Some, arith, sym, subst, ap, Err}
use Rattle.kernel_state.specs.Whole.{program_with}
use Rattle.plain_machine.specs.Grammar.{longest_script}
use Rattle.kernel_top.specs.Reading.{IsAll}
use Rattle.kernel_top.specs.Outcomes.{OnRun, Runs}
use Rattle.command_words.specs.declared.commands.Command.TheVariants as command
use Rattle.kernel_top.proofs.Outcomes.{on_unread, unread_no_write, came_from, came_left}
use Rattle.kernel_top.proofs.running.run_source.Goals as goal

pub returns-in-Ok-clause-outcome : goal.returns-in-Ok-clause-outcome
returns-in-Ok-clause-outcome g c =
    let all : IsAll longest_script c.as_slice.result.now (g.S.Source.state c.args.source.now) (g.S.Source.state c.read_script.new.source) =
    subst (λ l. IsAll longest_script l (g.S.Source.state c.args.source.now) (g.S.Source.state c.read_script.new.source)) (sym c.as_slice.ensures.value) c.in-Ok.ensures.all in
    came_from g.H.Host.state g.H.Host.made (λ script. program_with g.N.Natives.names g.N.Natives.does script c.args.natives.now) (Some command.Run) c.run_bytes.result c.args.host.now c.run_bytes.new.host
    (g.S.Source.state c.args.source.now) (g.S.Source.state c.read_script.new.source) (g.K.Sink.state c.args.sink.now) (g.K.Sink.state c.run_bytes.new.sink)
    (OnRun (λ script. program_with g.N.Natives.names g.N.Natives.does script c.args.natives.now)) c.as_slice.result.now (λ written exchanges before now row. row) all c.run_bytes.ensures.outcome

pub returns-in-Err-clause-outcome : goal.returns-in-Err-clause-outcome
returns-in-Err-clause-outcome g c =
    came_left g.H.Host.state g.H.Host.made (λ script. program_with g.N.Natives.names g.N.Natives.does script c.args.natives.now) (Some command.Run) c.in-Err.status c.args.host.now c.args.host.now
    (g.S.Source.state c.args.source.now) (g.S.Source.state c.read_script.new.source) (g.K.Sink.state c.args.sink.now) (g.K.Sink.state c.args.sink.now)
    (λ bytes unread. on_unread (Runs (λ script. program_with g.N.Natives.names g.N.Natives.does script c.args.natives.now)) c.in-Err.status bytes unread _ _ _ _) c.in-Err.ensures.none

pub returns-in-Err-clause-write_fault : goal.returns-in-Err-clause-write_fault
returns-in-Err-clause-write_fault g c = record { later = omega arith; rose = λ e. absurd (unread_no_write c.in-Err.status _ c.in-Err.ensures.none.unread e) }

pub returns-in-Ok-clause-read_fault : goal.returns-in-Ok-clause-read_fault
returns-in-Ok-clause-read_fault g c = record { later = c.read_script.ensures.cause.later; rose = λ e. absurd (c.run_bytes.ensures.no_read e) }

pub returns-in-Ok-clause-write_fault : goal.returns-in-Ok-clause-write_fault
returns-in-Ok-clause-write_fault g c = c.run_bytes.ensures.write_fault

pub returns-in-Ok-clause-unfailing : goal.returns-in-Ok-clause-unfailing
returns-in-Ok-clause-unfailing g c = c.read_script.ensures.unfailing

pub returns-in-Err-clause-read_fault : goal.returns-in-Err-clause-read_fault
returns-in-Err-clause-read_fault g c = record { later = c.in-Err.ensures.cause.later; rose = λ e. c.in-Err.ensures.cause.rose (ap Err e) }

pub returns-in-Err-clause-unfailing : goal.returns-in-Err-clause-unfailing
returns-in-Err-clause-unfailing g c = c.read_script.ensures.unfailing
