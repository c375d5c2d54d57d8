use Rattle.std.proofs.Common.{◌≡◌, Some, None, sym, refl, map, string_bytes, arith}
use Rattle.kernel_state.specs.Whole.{program_with}
use Rattle.command_words.specs.Commands.{command_of}
use Rattle.kernel_top.specs.Replaying.{Replayed}
use Rattle.kernel_top.specs.Checking.{Told}
use Rattle.kernel_top.specs.Outcomes.{OnDrill, OnSession, Came}
use Rattle.command_words.specs.declared.commands.Command.TheVariants as command
use Rattle.kernel_top.specs.declared.status.Status.TheVariants as status
use Rattle.kernel_top.proofs.Outcomes.{came_aside, came_settled, came_unknown, completes, drill_reads_nothing, session_reads_nothing}
use Rattle.kernel_top.proofs.top.run.Goals as goal

pub returns-in-Some-Run-clause-outcome : goal.returns-in-Some-Run-clause-outcome
returns-in-Some-Run-clause-outcome g c =
    let asked : command_of (map string_bytes c.args.words.now) ≡ Some command.Run = sym (rw c.in-Some-Run.field-0-is at c.in-Some-Run.ensures) in
    rw asked c.run_source.ensures.outcome

pub returns-in-Some-Run-clause-complete : goal.returns-in-Some-Run-clause-complete
returns-in-Some-Run-clause-complete g c =
    let asked : command_of (map string_bytes c.args.words.now) ≡ Some command.Run = sym (rw c.in-Some-Run.field-0-is at c.in-Some-Run.ensures) in
    rw asked (completes c.run_source.ensures.outcome c.run_source.ensures.read_fault.rose c.run_source.ensures.write_fault.rose)

pub record_source-requires-clause-told : goal.record_source-requires-clause-told
record_source-requires-clause-told g c = c.requires.told (sym (rw c.in-Some-Record.field-0-is at c.in-Some-Record.ensures))

pub returns-in-Some-Record-clause-outcome : goal.returns-in-Some-Record-clause-outcome
returns-in-Some-Record-clause-outcome g c =
    let asked : command_of (map string_bytes c.args.words.now) ≡ Some command.Record = sym (rw c.in-Some-Record.field-0-is at c.in-Some-Record.ensures) in
    rw asked c.record_source.ensures.outcome

pub returns-in-Some-Record-clause-complete : goal.returns-in-Some-Record-clause-complete
returns-in-Some-Record-clause-complete g c =
    let asked : command_of (map string_bytes c.args.words.now) ≡ Some command.Record = sym (rw c.in-Some-Record.field-0-is at c.in-Some-Record.ensures) in
    rw asked (completes c.record_source.ensures.outcome c.record_source.ensures.read_fault.rose c.record_source.ensures.write_fault.rose)

pub returns-in-Some-View-clause-outcome : goal.returns-in-Some-View-clause-outcome
returns-in-Some-View-clause-outcome g c =
    let asked : command_of (map string_bytes c.args.words.now) ≡ Some command.View = sym (rw c.in-Some-View.field-0-is at c.in-Some-View.ensures) in
    rw asked c.view_source.ensures.outcome

pub returns-in-Some-View-clause-complete : goal.returns-in-Some-View-clause-complete
returns-in-Some-View-clause-complete g c =
    let asked : command_of (map string_bytes c.args.words.now) ≡ Some command.View = sym (rw c.in-Some-View.field-0-is at c.in-Some-View.ensures) in
    rw asked (completes c.view_source.ensures.outcome c.view_source.ensures.read_fault.rose c.view_source.ensures.write_fault.rose)

pub returns-in-Some-Replay-clause-outcome : goal.returns-in-Some-Replay-clause-outcome
returns-in-Some-Replay-clause-outcome g c =
    let asked : command_of (map string_bytes c.args.words.now) ≡ Some command.Replay = sym (rw c.in-Some-Replay.field-0-is at c.in-Some-Replay.ensures) in
    rw asked (came_settled g.H.Host.state g.H.Host.made (λ script. program_with g.N.Natives.names g.N.Natives.does script c.args.natives.now) (Some command.Replay) c.replay_source.result c.args.host.now c.args.host.now (g.S.Source.state c.args.source.now) (g.S.Source.state c.replay_source.new.source) (g.K.Sink.state c.args.sink.now) (g.K.Sink.state c.replay_source.new.sink)
    (Replayed (λ script. program_with g.N.Natives.names g.N.Natives.does script c.args.natives.now)) refl (λ read written so. (refl, refl, so)) c.replay_source.ensures.outcome)

pub returns-in-Some-Replay-clause-complete : goal.returns-in-Some-Replay-clause-complete
returns-in-Some-Replay-clause-complete g c =
    let asked : command_of (map string_bytes c.args.words.now) ≡ Some command.Replay = sym (rw c.in-Some-Replay.field-0-is at c.in-Some-Replay.ensures) in
    let so : Came g.H.Host.state g.H.Host.made (λ script. program_with g.N.Natives.names g.N.Natives.does script c.args.natives.now) (Some command.Replay) c.replay_source.result c.args.host.now c.args.host.now (g.S.Source.state c.args.source.now) (g.S.Source.state c.replay_source.new.source) (g.K.Sink.state c.args.sink.now) (g.K.Sink.state c.replay_source.new.sink) =
    came_settled g.H.Host.state g.H.Host.made (λ script. program_with g.N.Natives.names g.N.Natives.does script c.args.natives.now) (Some command.Replay) c.replay_source.result c.args.host.now c.args.host.now (g.S.Source.state c.args.source.now) (g.S.Source.state c.replay_source.new.source) (g.K.Sink.state c.args.sink.now) (g.K.Sink.state c.replay_source.new.sink)
    (Replayed (λ script. program_with g.N.Natives.names g.N.Natives.does script c.args.natives.now)) refl (λ read written so. (refl, refl, so)) c.replay_source.ensures.outcome in
    rw asked (completes so c.replay_source.ensures.read_fault.rose c.replay_source.ensures.write_fault.rose)

pub returns-in-Some-Check-clause-outcome : goal.returns-in-Some-Check-clause-outcome
returns-in-Some-Check-clause-outcome g c =
    let asked : command_of (map string_bytes c.args.words.now) ≡ Some command.Check = sym (rw c.in-Some-Check.field-0-is at c.in-Some-Check.ensures) in
    rw asked (came_settled g.H.Host.state g.H.Host.made (λ script. program_with g.N.Natives.names g.N.Natives.does script c.args.natives.now) (Some command.Check) c.check_source.result c.args.host.now c.args.host.now (g.S.Source.state c.args.source.now) (g.S.Source.state c.check_source.new.source) (g.K.Sink.state c.args.sink.now) (g.K.Sink.state c.check_source.new.sink)
    (Told (λ script. program_with g.N.Natives.names g.N.Natives.does script c.args.natives.now)) refl (λ read written so. (refl, refl, so)) c.check_source.ensures.outcome)

pub returns-in-Some-Check-clause-complete : goal.returns-in-Some-Check-clause-complete
returns-in-Some-Check-clause-complete g c =
    let asked : command_of (map string_bytes c.args.words.now) ≡ Some command.Check = sym (rw c.in-Some-Check.field-0-is at c.in-Some-Check.ensures) in
    let so : Came g.H.Host.state g.H.Host.made (λ script. program_with g.N.Natives.names g.N.Natives.does script c.args.natives.now) (Some command.Check) c.check_source.result c.args.host.now c.args.host.now (g.S.Source.state c.args.source.now) (g.S.Source.state c.check_source.new.source) (g.K.Sink.state c.args.sink.now) (g.K.Sink.state c.check_source.new.sink) =
    came_settled g.H.Host.state g.H.Host.made (λ script. program_with g.N.Natives.names g.N.Natives.does script c.args.natives.now) (Some command.Check) c.check_source.result c.args.host.now c.args.host.now (g.S.Source.state c.args.source.now) (g.S.Source.state c.check_source.new.source) (g.K.Sink.state c.args.sink.now) (g.K.Sink.state c.check_source.new.sink)
    (Told (λ script. program_with g.N.Natives.names g.N.Natives.does script c.args.natives.now)) refl (λ read written so. (refl, refl, so)) c.check_source.ensures.outcome in
    rw asked (completes so c.check_source.ensures.read_fault.rose c.check_source.ensures.write_fault.rose)

pub returns-in-Some-Drill-clause-outcome : goal.returns-in-Some-Drill-clause-outcome
returns-in-Some-Drill-clause-outcome g c =
    let asked : command_of (map string_bytes c.args.words.now) ≡ Some (command.Drill c.in-Some-Drill.count) = sym (rw c.in-Some-Drill.field-0-is at c.in-Some-Drill.ensures) in
    rw asked (came_aside g.H.Host.state g.H.Host.made (λ script. program_with g.N.Natives.names g.N.Natives.does script c.args.natives.now) (Some (command.Drill c.in-Some-Drill.count)) c.run_drill.result c.args.host.now c.run_drill.new.host (g.S.Source.state c.args.source.now) (g.S.Source.state c.args.source.now) (g.K.Sink.state c.args.sink.now) (g.K.Sink.state c.run_drill.new.sink)
    (OnDrill (λ script. program_with g.N.Natives.names g.N.Natives.does script c.args.natives.now) c.in-Some-Drill.count c.run_drill.result) (λ written exchanges before now unread row. (unread, row)) c.run_drill.ensures.outcome)

pub returns-in-Some-Drill-clause-read_fault : goal.returns-in-Some-Drill-clause-read_fault
returns-in-Some-Drill-clause-read_fault g c = record { later = omega arith; rose = λ e. absurd (drill_reads_nothing g.H.Host.state g.H.Host.made (λ script. program_with g.N.Natives.names g.N.Natives.does script c.args.natives.now) c.in-Some-Drill.count c.run_drill.result c.args.host.now c.run_drill.new.host (g.K.Sink.state c.args.sink.now) (g.K.Sink.state c.run_drill.new.sink) (g.S.Source.state c.args.source.now) c.run_drill.ensures.outcome e) }

pub returns-in-Some-Drill-clause-complete : goal.returns-in-Some-Drill-clause-complete
returns-in-Some-Drill-clause-complete g c =
    let asked : command_of (map string_bytes c.args.words.now) ≡ Some (command.Drill c.in-Some-Drill.count) = sym (rw c.in-Some-Drill.field-0-is at c.in-Some-Drill.ensures) in
    let so : Came g.H.Host.state g.H.Host.made (λ script. program_with g.N.Natives.names g.N.Natives.does script c.args.natives.now) (Some (command.Drill c.in-Some-Drill.count)) c.run_drill.result c.args.host.now c.run_drill.new.host (g.S.Source.state c.args.source.now) (g.S.Source.state c.args.source.now) (g.K.Sink.state c.args.sink.now) (g.K.Sink.state c.run_drill.new.sink) =
    came_aside g.H.Host.state g.H.Host.made (λ script. program_with g.N.Natives.names g.N.Natives.does script c.args.natives.now) (Some (command.Drill c.in-Some-Drill.count)) c.run_drill.result c.args.host.now c.run_drill.new.host (g.S.Source.state c.args.source.now) (g.S.Source.state c.args.source.now) (g.K.Sink.state c.args.sink.now) (g.K.Sink.state c.run_drill.new.sink)
    (OnDrill (λ script. program_with g.N.Natives.names g.N.Natives.does script c.args.natives.now) c.in-Some-Drill.count c.run_drill.result) (λ written exchanges before now unread row. (unread, row)) c.run_drill.ensures.outcome in
    rw asked (completes so (returns-in-Some-Drill-clause-read_fault g c).rose c.run_drill.ensures.write_fault.rose)

pub returns-in-Some-Session-clause-outcome : goal.returns-in-Some-Session-clause-outcome
returns-in-Some-Session-clause-outcome g c =
    let asked : command_of (map string_bytes c.args.words.now) ≡ Some (command.Session c.in-Some-Session.wanted) = sym (rw c.in-Some-Session.field-0-is at c.in-Some-Session.ensures) in
    rw asked (came_aside g.H.Host.state g.H.Host.made (λ script. program_with g.N.Natives.names g.N.Natives.does script c.args.natives.now) (Some (command.Session c.in-Some-Session.wanted)) c.run_session.result c.args.host.now c.run_session.new.host (g.S.Source.state c.args.source.now) (g.S.Source.state c.args.source.now) (g.K.Sink.state c.args.sink.now) (g.K.Sink.state c.run_session.new.sink)
    (OnSession c.in-Some-Session.wanted c.run_session.result) (λ written exchanges before now unread row. (unread, row)) c.run_session.ensures.outcome)

pub returns-in-Some-Session-clause-read_fault : goal.returns-in-Some-Session-clause-read_fault
returns-in-Some-Session-clause-read_fault g c = record { later = omega arith; rose = λ e. absurd (session_reads_nothing g.H.Host.state g.H.Host.made c.in-Some-Session.wanted c.run_session.result c.args.host.now c.run_session.new.host (g.K.Sink.state c.args.sink.now) (g.K.Sink.state c.run_session.new.sink) (g.S.Source.state c.args.source.now) c.run_session.ensures.outcome e) }

pub returns-in-Some-Session-clause-complete : goal.returns-in-Some-Session-clause-complete
returns-in-Some-Session-clause-complete g c =
    let asked : command_of (map string_bytes c.args.words.now) ≡ Some (command.Session c.in-Some-Session.wanted) = sym (rw c.in-Some-Session.field-0-is at c.in-Some-Session.ensures) in
    let so : Came g.H.Host.state g.H.Host.made (λ script. program_with g.N.Natives.names g.N.Natives.does script c.args.natives.now) (Some (command.Session c.in-Some-Session.wanted)) c.run_session.result c.args.host.now c.run_session.new.host (g.S.Source.state c.args.source.now) (g.S.Source.state c.args.source.now) (g.K.Sink.state c.args.sink.now) (g.K.Sink.state c.run_session.new.sink) =
    came_aside g.H.Host.state g.H.Host.made (λ script. program_with g.N.Natives.names g.N.Natives.does script c.args.natives.now) (Some (command.Session c.in-Some-Session.wanted)) c.run_session.result c.args.host.now c.run_session.new.host (g.S.Source.state c.args.source.now) (g.S.Source.state c.args.source.now) (g.K.Sink.state c.args.sink.now) (g.K.Sink.state c.run_session.new.sink)
    (OnSession c.in-Some-Session.wanted c.run_session.result) (λ written exchanges before now unread row. (unread, row)) c.run_session.ensures.outcome in
    rw asked (completes so (returns-in-Some-Session-clause-read_fault g c).rose c.run_session.ensures.write_fault.rose)

pub returns-in-None-clause-outcome : goal.returns-in-None-clause-outcome
returns-in-None-clause-outcome g c =
    let asked : command_of (map string_bytes c.args.words.now) ≡ None = sym c.in-None.ensures in
    rw asked (came_unknown g.H.Host.state g.H.Host.made (λ script. program_with g.N.Natives.names g.N.Natives.does script c.args.natives.now) c.args.host.now (g.S.Source.state c.args.source.now) (g.K.Sink.state c.args.sink.now))

pub returns-in-None-clause-complete : goal.returns-in-None-clause-complete
returns-in-None-clause-complete g c =
    let asked : command_of (map string_bytes c.args.words.now) ≡ None = sym c.in-None.ensures in
    rw asked tt

-- WHAT THE CALLS SAY THEMSELVES
pub run_source-requires : goal.run_source-requires
run_source-requires g c = c.requires.few

pub returns-in-Some-Run-clause-read_fault : goal.returns-in-Some-Run-clause-read_fault
returns-in-Some-Run-clause-read_fault g c = c.run_source.ensures.read_fault

pub returns-in-Some-Run-clause-write_fault : goal.returns-in-Some-Run-clause-write_fault
returns-in-Some-Run-clause-write_fault g c = c.run_source.ensures.write_fault

pub returns-in-Some-Run-clause-unfailing : goal.returns-in-Some-Run-clause-unfailing
returns-in-Some-Run-clause-unfailing g c = c.run_source.ensures.unfailing

pub record_source-requires-clause-few : goal.record_source-requires-clause-few
record_source-requires-clause-few g c = c.requires.few

pub returns-in-Some-Record-clause-read_fault : goal.returns-in-Some-Record-clause-read_fault
returns-in-Some-Record-clause-read_fault g c = c.record_source.ensures.read_fault

pub returns-in-Some-Record-clause-write_fault : goal.returns-in-Some-Record-clause-write_fault
returns-in-Some-Record-clause-write_fault g c = c.record_source.ensures.write_fault

pub returns-in-Some-Record-clause-unfailing : goal.returns-in-Some-Record-clause-unfailing
returns-in-Some-Record-clause-unfailing g c = c.record_source.ensures.unfailing

pub view_source-requires : goal.view_source-requires
view_source-requires g c = c.requires.few

pub returns-in-Some-View-clause-read_fault : goal.returns-in-Some-View-clause-read_fault
returns-in-Some-View-clause-read_fault g c = c.view_source.ensures.read_fault

pub returns-in-Some-View-clause-write_fault : goal.returns-in-Some-View-clause-write_fault
returns-in-Some-View-clause-write_fault g c = c.view_source.ensures.write_fault

pub returns-in-Some-View-clause-unfailing : goal.returns-in-Some-View-clause-unfailing
returns-in-Some-View-clause-unfailing g c = c.view_source.ensures.unfailing

pub returns-in-Some-Replay-clause-read_fault : goal.returns-in-Some-Replay-clause-read_fault
returns-in-Some-Replay-clause-read_fault g c = c.replay_source.ensures.read_fault

pub returns-in-Some-Replay-clause-write_fault : goal.returns-in-Some-Replay-clause-write_fault
returns-in-Some-Replay-clause-write_fault g c = c.replay_source.ensures.write_fault

pub returns-in-Some-Replay-clause-unfailing : goal.returns-in-Some-Replay-clause-unfailing
returns-in-Some-Replay-clause-unfailing g c = c.replay_source.ensures.unfailing

pub returns-in-Some-Check-clause-read_fault : goal.returns-in-Some-Check-clause-read_fault
returns-in-Some-Check-clause-read_fault g c = c.check_source.ensures.read_fault

pub returns-in-Some-Check-clause-write_fault : goal.returns-in-Some-Check-clause-write_fault
returns-in-Some-Check-clause-write_fault g c = c.check_source.ensures.write_fault

pub returns-in-Some-Check-clause-unfailing : goal.returns-in-Some-Check-clause-unfailing
returns-in-Some-Check-clause-unfailing g c = c.check_source.ensures.unfailing

pub run_drill-requires : goal.run_drill-requires
run_drill-requires g c = c.requires.few

pub returns-in-Some-Drill-clause-write_fault : goal.returns-in-Some-Drill-clause-write_fault
returns-in-Some-Drill-clause-write_fault g c = c.run_drill.ensures.write_fault

pub returns-in-Some-Drill-clause-unfailing : goal.returns-in-Some-Drill-clause-unfailing
returns-in-Some-Drill-clause-unfailing g c = λ known. refl

pub run_session-requires : goal.run_session-requires
run_session-requires g c = c.requires.few

pub returns-in-Some-Session-clause-write_fault : goal.returns-in-Some-Session-clause-write_fault
returns-in-Some-Session-clause-write_fault g c = c.run_session.ensures.write_fault

pub returns-in-Some-Session-clause-unfailing : goal.returns-in-Some-Session-clause-unfailing
returns-in-Some-Session-clause-unfailing g c = λ known. refl

pub returns-in-None-clause-read_fault : goal.returns-in-None-clause-read_fault
returns-in-None-clause-read_fault g c = record { later = omega arith; rose = λ e. absurd (let no : status.Usage ≡ status.ReadFault = e in cc) }

pub returns-in-None-clause-write_fault : goal.returns-in-None-clause-write_fault
returns-in-None-clause-write_fault g c = record { later = omega arith; rose = λ e. absurd (let no : status.Usage ≡ status.WriteFault = e in cc) }

pub returns-in-None-clause-unfailing : goal.returns-in-None-clause-unfailing
returns-in-None-clause-unfailing g c = λ known. refl
