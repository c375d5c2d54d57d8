use Rattle.std.proofs.Common.{◌∷◌, arith}
use Rattle.plain_machine.specs.Items.{Wait}
use Rattle.process_table.specs.Table.{with_table}
use Rattle.wait_loop.specs.KeptWaits.{noted}
use Rattle.kernel_steps.specs.Worlds.{world}
use Rattle.kernel_steps.specs.declared.stop.Stop.TheVariants as stop
use Rattle.kernel_steps.proofs.Passing.{child_found, child_hosted}
use Rattle.kernel_steps.proofs.Results.{stopped_by}
use Rattle.kernel_steps.proofs.Works.{item_wants, middle}
use Rattle.kernel_state.specs.Meaning.{state_of}
use Rattle.kernel_state.proofs.Exchanges.{hears_keeps, hears_enters}
use Rattle.kernel_state.proofs.hearing.hear.Goals as goal

pub hear-requires-clause-there : goal.hear-requires-clause-there
hear-requires-clause-there g c =
    let table = c.args.kernel.now.processes in
    let one = c.requires.asked.one in
    omega (arith, child_found (with_table table) c.args.p one c.requires.asked.found, child_hosted table (g.H.Host.state c.args.host.now).kills c.args.p one c.requires.ready.hosted c.requires.asked.found)

pub returns-in_err-heard-clause-hears : goal.returns-in_err-heard-clause-hears
returns-in_err-heard-clause-hears g c = λ sink v start w target leads.
    rw (stopped_by c.from_residual.result stop.NoMemory c.from_residual.ensures, c.in_err-heard.ensures.table, c.in_err-heard.ensures.host)
    (item_wants (g.P.Program.meant c.args.program.now) (world state_of g.H.Host.state g.H.Host.made start c.args.kernel.now c.args.host.now sink) (Wait w target) _ c.requires.ready.hosted (middle (λ s rest. (tt, tt))))

pub returns-clause-hears : goal.returns-clause-hears
returns-clause-hears g c = λ sink v start w target leads.
    let program = g.P.Program.meant c.args.program.now in
    let known = state_of c.args.kernel.now in
    let heard = c.in_ok-heard.heard in
    record {
      path = record {
        comes = λ s rest stands behind.
            hears_enters g.H.Host.state g.H.Host.made start c.args.host.now c.hear.new.host program known sink c.hear.new.table c.args.p heard s w v target rest c.requires.asked.may stands (leads s stands)
            _ (c.entry_of.ensures.entering (Wait (noted c.args.p heard.bytes v) target ∷ rest)) c.in_ok-heard.ensures.ok;
        cause = record { later = omega arith; rose = λ e. absurd (let never = e in cc) };
      };
      stays = hears_keeps g.H.Host.state g.H.Host.made start c.args.host.now c.hear.new.host program known sink c.hear.new.table c.args.p heard c.in_ok-heard.ensures.ok c.requires.ready.hosted;
    }

pub returns-clause-stays : goal.returns-clause-stays
returns-clause-stays g c = λ sink start.
    hears_keeps g.H.Host.state g.H.Host.made start c.args.host.now c.hear.new.host (g.P.Program.meant c.args.program.now) (state_of c.args.kernel.now) sink c.hear.new.table c.args.p c.in_ok-heard.heard c.in_ok-heard.ensures.ok c.requires.ready.hosted
