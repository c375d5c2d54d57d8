use Rattle.std.proofs.Common.{map, arith, Err}
use Rattle.std.specs.Prelude.{string_bytes}
use Rattle.editor_model.specs.Values.{StartProcess}
use Rattle.plain_machine.specs.Items.{MakeCall}
use Rattle.host_link.specs.declared.host.Spawned.TheVariants as spawned
use Rattle.ek_types.specs.Listing.{items_of}
use Rattle.ek_call.specs.Meaning.{view}
use Rattle.kernel_steps.specs.HostCalls.{CallsSince}
use Rattle.kernel_steps.specs.Work.{onwards, outwards}
use Rattle.kernel_steps.specs.Worlds.{World, world}
use Rattle.kernel_steps.specs.declared.stop.Halt.TheVariants as halt
use Rattle.kernel_steps.specs.declared.stop.Stop.TheVariants as stop
use Rattle.kernel_steps.proofs.Results.{stopped_by}
use Rattle.kernel_steps.proofs.Shapes.{process_is}
use Rattle.kernel_steps.proofs.HostCalls.{adds_spawn}
use Rattle.kernel_steps.proofs.Works.{item_wants, middle, work_behind, work_left, work_unasked}
use Rattle.kernel_steps.proofs.Passing.{starts_few, starts_may}
use Rattle.kernel_steps.proofs.Exchanging.{refused_start, started_went, started_keeps, asked_keeps}
use Rattle.kernel_steps.proofs.processes.start_process.Given.{Over}
use Rattle.kernel_steps.proofs.processes.start_process.Goals as goal

abbrev at : (g : Over) → g.row.H.Denot → g.row.M.Denot → g.row.H.Denot → g.row.K.Denot → World
at g start kernel host sink = world g.M.Kernel.state g.H.Host.state g.H.Host.made start kernel host (g.K.Sink.state sink)

pub returns-in_err-command : goal.returns-in_err-command
returns-in_err-command g c = λ start target.
    rw (stopped_by c.from_residual.result (halt.Stop stop.NoMemory) c.from_residual.ensures)
    (item_wants (g.P.Program.meant c.args.program.now) (at g start c.args.kernel.now c.args.host.now c.args.sink.now) (MakeCall StartProcess (map view (items_of c.args.args.now)) target) _ c.requires.ready.hosted (middle (λ s rest. (tt, tt))))

pub returns-in_err-reserve_process : goal.returns-in_err-reserve_process
returns-in_err-reserve_process g c = λ start target.
    let w = at g start c.args.kernel.now c.args.host.now c.args.sink.now in
    rw (stopped_by c.from_residual-in_err-reserve_process.result (halt.Stop stop.NoMemory) c.from_residual-in_err-reserve_process.ensures, c.reserve_process.ensures.state)
    (item_wants (g.P.Program.meant c.args.program.now) w (MakeCall StartProcess (map view (items_of c.args.args.now)) target) _ c.requires.ready.hosted (middle (λ s rest. (tt, tt))))

pub returns-in_err-child : goal.returns-in_err-child
returns-in_err-child g c = λ start target.
    let w = at g start c.args.kernel.now c.args.host.now c.args.sink.now in
    rw (stopped_by c.from_residual-in_err-child.result (halt.Stop stop.NoMemory) c.from_residual-in_err-child.ensures, c.reserve_process.ensures.state, c.in_err-child.ensures.unchanged)
    (item_wants (g.P.Program.meant c.args.program.now) w (MakeCall StartProcess (map view (items_of c.args.args.now)) target) _ c.requires.ready.hosted (middle (λ s rest. (tt, tt))))

pub returns-in-Started : goal.returns-in-Started
returns-in-Started g c = λ start target.
    let program = g.P.Program.meant c.args.program.now in
    let before = at g start c.args.kernel.now c.args.host.now c.args.sink.now in
    let args = map view (items_of c.args.args.now) in
    let s = g.M.Kernel.state c.args.kernel.now in
    let kills = (g.H.Host.state c.args.host.now).kills in
    let made = rw c.in-Started.is at c.in_ok-child.ensures in
    let known = g.M.Kernel.state c.start-p.new.self in
    let now = CallsSince g.H.Host.state g.H.Host.made start c.spawn.new.self in
    let kills2 = (g.H.Host.state c.spawn.new.self).kills in
    let mid : World = record { state = known; kills = kills2; outside = record { sink = g.K.Sink.state c.args.sink.now; past = now } } in
    let exchange = adds_spawn g.H.Host.state g.H.Host.made start c.args.host.now c.spawn.new.self c.as_str.result.now (map string_bytes c.as_slice.result.now) (spawned.Started c.in-Started.child) made.number made.asked made.made in
    let right = rw (c.as_str.ensures.value, c.as_slice.ensures.value, c.in_ok-command.ensures.program, c.in_ok-command.ensures.words) at exchange in
    let state_is = rw c.reserve_process.ensures.state at c.start-p.ensures.state in
    let number_is = rw c.reserve_process.ensures.state at c.start-p.ensures.number in
    let kept = started_keeps program before args target known kills2 now c.in-Started.child state_is made.asked.kills made.number c.requires.ready.hosted in
    let went = started_went program before args target known kills2 now c.start-p.result c.in-Started.child c.requires.passes c.requires.ready.hosted made.number number_is state_is right in
    work_behind program c.tell.result before mid (at g start c.start-p.new.self c.spawn.new.self c.tell.new.sink) _ _ _ outwards went kept
    (work_unasked program (g.K.Sink.state c.args.sink.now) (g.K.Sink.state c.tell.new.sink) now known known kills2 c.tell.result _ _ outwards (rw (process_is c.start-p.result) at (c.tell.ensures kills2 kept.hosted target)))

pub returns : goal.returns
returns g c = λ start target.
    let program = g.P.Program.meant c.args.program.now in
    let before = at g start c.args.kernel.now c.args.host.now c.args.sink.now in
    let args = map view (items_of c.args.args.now) in
    let s = g.M.Kernel.state c.args.kernel.now in
    let kills = (g.H.Host.state c.args.host.now).kills in
    let made = rw c.in-Refused.is at c.in_ok-child.ensures in
    let known = g.M.Kernel.state c.count_asked.new.self in
    let now = CallsSince g.H.Host.state g.H.Host.made start c.spawn.new.self in
    let kills2 = (g.H.Host.state c.spawn.new.self).kills in
    let mid : World = record { state = known; kills = kills2; outside = record { sink = g.K.Sink.state c.args.sink.now; past = now } } in
    let exchange = adds_spawn g.H.Host.state g.H.Host.made start c.args.host.now c.spawn.new.self c.as_str.result.now (map string_bytes c.as_slice.result.now) spawned.Refused made.number made.asked made.made in
    let right = rw (c.as_str.ensures.value, c.as_slice.ensures.value, c.in_ok-command.ensures.program, c.in_ok-command.ensures.words) at exchange in
    let state_is = rw c.reserve_process.ensures.state at c.count_asked.ensures in
    let kept = asked_keeps program before args target known kills2 now state_is made.asked.kills c.requires.ready.hosted in
    let went = refused_start program before args target known kills2 now c.requires.passes state_is right in
    work_behind program (Err c.refuse.result) before mid (at g start c.count_asked.new.self c.spawn.new.self c.refuse.new.sink) _ _ _ outwards went kept
    (work_left program c.refuse.result _ _ _ onwards _ outwards
    (work_unasked program (g.K.Sink.state c.args.sink.now) (g.K.Sink.state c.refuse.new.sink) now known known kills2 (Err c.refuse.result) _ onwards outwards (c.refuse.ensures kills2 kept.hosted)))

pub command-requires : goal.command-requires
command-requires g c = c.requires.passes

pub reserve_process-requires : goal.reserve_process-requires
reserve_process-requires g c = c.requires.passes

pub spawn-requires : goal.spawn-requires
spawn-requires g c =
    omega (arith, c.requires.ready.few, starts_few (g.P.Program.meant c.args.program.now) (g.M.Kernel.state c.args.kernel.now) (map view (items_of c.args.args.now)) c.requires.passes)

pub start-p-requires : goal.start-p-requires
start-p-requires g c = record { passes = rw c.reserve_process.ensures.state c.requires.passes; place = c.in_ok-reserve_process.ensures.place }

pub count_asked-requires : goal.count_asked-requires
count_asked-requires g c = rw c.reserve_process.ensures.state (starts_may (g.P.Program.meant c.args.program.now) (g.M.Kernel.state c.args.kernel.now) (map view (items_of c.args.args.now)) c.requires.passes)
