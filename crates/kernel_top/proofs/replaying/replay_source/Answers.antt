use Rattle.std.proofs.Common.{sym, subst, ap, Err, arith}
use Rattle.std.proofs.KnownBytes.{Appends-nil}
use Rattle.journal_text.specs.Lines.{longest_session}
use Rattle.kernel_state.specs.Whole.{program_with}
use Rattle.kernel_top.specs.Reading.{IsAll}
use Rattle.kernel_top.specs.Replaying.{Replayed, IsUnreadSession}
use Rattle.kernel_top.proofs.Replays.{source_settled, source_unread, no_read_fault}
use Rattle.kernel_top.proofs.replaying.replay_source.Goals as goal

pub replay_bytes-requires : goal.replay_bytes-requires
replay_bytes-requires g c = rw c.as_slice.ensures.value c.in-Ok.ensures.all.short

pub returns-in-Ok-clause-outcome : goal.returns-in-Ok-clause-outcome
returns-in-Ok-clause-outcome g c =
    let all : IsAll longest_session c.as_slice.result.now (g.S.Source.state c.args.source.now) (g.S.Source.state c.read_session.new.source) =
    subst (λ l. IsAll longest_session l (g.S.Source.state c.args.source.now) (g.S.Source.state c.read_session.new.source)) (sym c.as_slice.ensures.value) c.in-Ok.ensures.all in
    let (written, put, so) = c.replay_bytes.ensures.written in
    source_settled (Replayed (λ script. program_with g.N.Natives.names g.N.Natives.does script c.args.natives.now)) c.replay_bytes.result (g.S.Source.state c.args.source.now) (g.S.Source.state c.read_session.new.source) c.as_slice.result.now written (g.K.Sink.state c.args.sink.now) (g.K.Sink.state c.replay_bytes.new.sink) all put so

pub returns-in-Ok-clause-read_fault : goal.returns-in-Ok-clause-read_fault
returns-in-Ok-clause-read_fault g c =
    let (written, put, so) = c.replay_bytes.ensures.written in
    record { later = c.read_session.ensures.cause.later; rose = λ e. absurd (no_read_fault (λ script. program_with g.N.Natives.names g.N.Natives.does script c.args.natives.now) c.replay_bytes.result c.as_slice.result.now written (g.K.Sink.state c.args.sink.now) (g.K.Sink.state c.replay_bytes.new.sink) so e) }

pub returns-in-Ok-clause-write_fault : goal.returns-in-Ok-clause-write_fault
returns-in-Ok-clause-write_fault g c = c.replay_bytes.ensures.write_fault

pub returns-in-Ok-clause-unfailing : goal.returns-in-Ok-clause-unfailing
returns-in-Ok-clause-unfailing g c = c.read_session.ensures.unfailing

pub returns-in-Err-clause-outcome : goal.returns-in-Err-clause-outcome
returns-in-Err-clause-outcome g c = source_unread (Replayed (λ script. program_with g.N.Natives.names g.N.Natives.does script c.args.natives.now)) c.in-Err.status (g.S.Source.state c.args.source.now) (g.S.Source.state c.read_session.new.source) (g.K.Sink.state c.args.sink.now) c.in-Err.ensures.none (Appends-nil _)

pub returns-in-Err-clause-read_fault : goal.returns-in-Err-clause-read_fault
returns-in-Err-clause-read_fault g c = record { later = c.in-Err.ensures.cause.later; rose = λ e. c.in-Err.ensures.cause.rose (ap Err e) }

pub returns-in-Err-clause-write_fault : goal.returns-in-Err-clause-write_fault
returns-in-Err-clause-write_fault g c = record { later = omega arith; rose = λ e. absurd (subst (λ a. IsUnreadSession a c.in-Err.ensures.none.read) e c.in-Err.ensures.none.unread) }

pub returns-in-Err-clause-unfailing : goal.returns-in-Err-clause-unfailing
returns-in-Err-clause-unfailing g c = c.read_session.ensures.unfailing
