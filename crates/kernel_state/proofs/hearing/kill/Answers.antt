use Rattle.std.proofs.Common.{◌∙◌, sym}
use Rattle.std.specs.Prelude.{None}
use Rattle.plain_machine.specs.Items.{Delete}
use Rattle.kernel_steps.specs.Waits.{entering}
use Rattle.kernel_steps.specs.Work.{working, at_item, outwards}
use Rattle.kernel_steps.specs.Worlds.{world}
use Rattle.kernel_steps.specs.declared.stop.Stop.TheVariants as stop
use Rattle.kernel_steps.proofs.Passing.{running_within}
use Rattle.kernel_steps.proofs.Results.{stopped_by}
use Rattle.kernel_steps.proofs.Works.{item_wants, middle, work_done, keeps_self}
use Rattle.kernel_state.specs.Meaning.{state_of}
use Rattle.kernel_state.proofs.Exchanges.{rests_went, child_lives, kill_keeps, kill_went}
use Rattle.kernel_state.proofs.hearing.kill.Goals as goal

pub returns-then-not-is_running-clause-kills : goal.returns-then-not-is_running-clause-kills
returns-then-not-is_running-clause-kills g c = λ sink start.
    let program = g.P.Program.meant c.args.program.now in
    let w = world state_of g.H.Host.state g.H.Host.made start c.args.kernel.now c.args.host.now sink in
    work_done program None w w (at_item (Delete c.args.p)) (λ entry s rest. working s (entering entry rest)) outwards
    (rests_went program w c.args.p (sym c.is_running.ensures ∙ c.if-not-is_running.true)) (keeps_self w c.requires.hosted)

pub kill-requires-clause-made : goal.kill-requires-clause-made
kill-requires-clause-made g c = running_within (state_of c.args.kernel.now) c.args.p (sym c.is_running.ensures ∙ c.if-not-is_running.false)

pub kill-requires-clause-lives : goal.kill-requires-clause-lives
kill-requires-clause-lives g c = child_lives (state_of c.args.kernel.now) (g.H.Host.state c.args.host.now).kills c.args.p c.requires.hosted (sym c.is_running.ensures ∙ c.if-not-is_running.false)

pub returns-in_err-entered-clause-kills : goal.returns-in_err-entered-clause-kills
returns-in_err-entered-clause-kills g c = λ sink start.
    rw (stopped_by c.from_residual.result stop.NoMemory c.from_residual.ensures, c.in_err-entered.ensures.table, c.in_err-entered.ensures.host)
    (item_wants (g.P.Program.meant c.args.program.now) (world state_of g.H.Host.state g.H.Host.made start c.args.kernel.now c.args.host.now sink) (Delete c.args.p) _ c.requires.hosted (middle (λ s rest. (tt, tt))))

pub returns-clause-kills : goal.returns-clause-kills
returns-clause-kills g c = λ sink start.
    let program = g.P.Program.meant c.args.program.now in
    let known = state_of c.args.kernel.now in
    let entered = c.in_ok-entered.entered in
    let runs = sym c.is_running.ensures ∙ c.if-not-is_running.false in
    work_done program c.entry_of.result
    (world state_of g.H.Host.state g.H.Host.made start c.args.kernel.now c.args.host.now sink) _
    (at_item (Delete c.args.p)) (λ entry s rest. working s (entering entry rest)) outwards
    (kill_went g.H.Host.state g.H.Host.made start c.args.host.now c.kill.new.host program known sink c.kill.new.table c.args.p entered runs c.in_ok-entered.ensures.ok
    (entering c.entry_of.result) c.entry_of.ensures.entering)
    (kill_keeps g.H.Host.state g.H.Host.made start c.args.host.now c.kill.new.host program known sink c.kill.new.table c.args.p entered runs c.in_ok-entered.ensures.ok c.requires.hosted)

pub returns-clause-running : goal.returns-clause-running
returns-clause-running g c = λ some. sym c.is_running.ensures ∙ c.if-not-is_running.false
