use Rattle.std.proofs.Common.{◌≡◌, length, ap, arith, subst}
use Rattle.kernel_steps.specs.Worlds.{world}
use Rattle.kernel_steps.specs.Ending.{IsAtEnd, origin}
use Rattle.plain_machine.specs.Lines.{Dumped}
use Rattle.kernel_steps.proofs.Telling.{by_names}
use Rattle.kernel_steps.proofs.Killing.{at_first, over_halted, over_whole, over_broken}
use Rattle.kernel_steps.proofs.Results.{stopped_by}
use Rattle.kernel_steps.specs.declared.stop.Stop.TheVariants as stop
use Rattle.kernel_steps.proofs.ending.finish.Goals as goal

pub loop-p-init : goal.loop-p-init
loop-p-init g c = record {
  deals = λ before start from h. at_first (g.P.Program.meant c.args.program.now) (origin g.H.Host.state g.H.Host.made start before) from (world g.M.Kernel.state g.H.Host.state g.H.Host.made start c.args.kernel.now c.args.host.now (g.K.Sink.state c.args.sink.now)) c.args.so_far c.requires h;
  hosted = c.requires;
}

pub loop-p-preserved : goal.loop-p-preserved
loop-p-preserved g c = record {
  deals = λ before start from h. c.finish_one-state.ensures.deals before start from (c.loop-p.invariant.deals before start from h);
  hosted = c.finish_one-state.ensures.hosted;
}

pub returns-in_err-state : goal.returns-in_err-state
returns-in_err-state g c = λ before start from h.
    let all : c.loop-p.p ≡ length (g.M.Kernel.state c.args.kernel.now).processes = omega (arith, c.count-p-end.ensures.count, ap length c.processes.ensures) in
    let now = world g.M.Kernel.state g.H.Host.state g.H.Host.made start c.args.kernel.now c.loop-p.host (g.K.Sink.state c.loop-p.sink) in
    let deals = subst (λ n. IsAtEnd c.loop-p.state (g.P.Program.meant c.args.program.now) n (origin g.H.Host.state g.H.Host.made start before) now from) all (c.loop-p.invariant.deals before start from h) in
    rw (stopped_by c.from_residual.result c.in_err-state.field-0.0 c.from_residual.ensures)
    (over_halted (g.P.Program.meant c.args.program.now) (origin g.H.Host.state g.H.Host.made start before) from now c.in_err-state.field-0.0 (rw c.in_err-state.was at deals))

pub returns-in_err-tell_dump : goal.returns-in_err-tell_dump
returns-in_err-tell_dump g c = λ before start from h.
    let all : c.loop-p.p ≡ length (g.M.Kernel.state c.args.kernel.now).processes = omega (arith, c.count-p-end.ensures.count, ap length c.processes.ensures) in
    let now = world g.M.Kernel.state g.H.Host.state g.H.Host.made start c.args.kernel.now c.loop-p.host (g.K.Sink.state c.loop-p.sink) in
    let deals = subst (λ n. IsAtEnd c.loop-p.state (g.P.Program.meant c.args.program.now) n (origin g.H.Host.state g.H.Host.made start before) now from) all (c.loop-p.invariant.deals before start from h) in
    rw (stopped_by c.from_residual-in_err-tell_dump.result stop.WriteFault c.from_residual-in_err-tell_dump.ensures)
    (over_broken (g.P.Program.meant c.args.program.now) (origin g.H.Host.state g.H.Host.made start before) from now (g.K.Sink.state c.tell_dump.new.sink) c.in_ok-state.field-0 c.in_err-tell_dump.field-0.0 (by_names _ (g.K.Sink.state c.loop-p.sink) (g.K.Sink.state c.tell_dump.new.sink) c.symbols.result.now (g.P.Program.meant c.args.program.now).symbols (g.M.Kernel.state c.args.kernel.now) Dumped c.symbols.ensures c.in_err-tell_dump.ensures) (rw c.in_ok-state.was at deals))

pub returns : goal.returns
returns g c = λ before start from h.
    let all : c.loop-p.p ≡ length (g.M.Kernel.state c.args.kernel.now).processes = omega (arith, c.count-p-end.ensures.count, ap length c.processes.ensures) in
    let now = world g.M.Kernel.state g.H.Host.state g.H.Host.made start c.args.kernel.now c.loop-p.host (g.K.Sink.state c.loop-p.sink) in
    let deals = subst (λ n. IsAtEnd c.loop-p.state (g.P.Program.meant c.args.program.now) n (origin g.H.Host.state g.H.Host.made start before) now from) all (c.loop-p.invariant.deals before start from h) in
    over_whole (g.P.Program.meant c.args.program.now) (origin g.H.Host.state g.H.Host.made start before) from now (g.K.Sink.state c.tell_dump.new.sink) c.in_ok-state.field-0 c.in_ok-tell_dump.field-0 (by_names _ (g.K.Sink.state c.loop-p.sink) (g.K.Sink.state c.tell_dump.new.sink) c.symbols.result.now (g.P.Program.meant c.args.program.now).symbols (g.M.Kernel.state c.args.kernel.now) Dumped c.symbols.ensures c.in_ok-tell_dump.ensures) (rw c.in_ok-state.was at deals)
