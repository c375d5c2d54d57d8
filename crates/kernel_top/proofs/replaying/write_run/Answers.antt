use Rattle.std.proofs.Common.{[], refl, inl, sym, ◌∙◌, arith}
use Rattle.std.proofs.KnownBytes.{Appends-nil}
use Rattle.ek_call.specs.Meaning.{script_of}
use Rattle.kernel_state.specs.Whole.{program_with}
use Rattle.kernel_top.proofs.Outcomes.{is_write_fault}
use Rattle.kernel_top.proofs.Replays.{calls_of_new, replayed_on}
use Rattle.kernel_top.proofs.replaying.write_run.Goals as goal

pub returns-in_default-clause-written : goal.returns-in_default-clause-written
returns-in_default-clause-written g c = ([], Appends-nil _, inl (refl, refl))

pub run_script-ended-requires-clause-few : goal.run_script-ended-requires-clause-few
run_script-ended-requires-clause-few g c = rw c.requires.fresh (omega arith)

pub returns-clause-written : goal.returns-clause-written
returns-clause-written g c =
    let (written, exchanges, put, calls, ends) = c.run_script-ended.ensures.outcome in
    rw c.status_of.ensures (
      written,
      put,
      replayed_on (program_with g.N.Natives.names g.N.Natives.does (script_of c.args.script.now) c.args.natives.now) (script_of c.args.script.now) c.args.host.now.list c.run_script-ended.result c.run_script-ended.new.host exchanges written (g.K.Sink.state c.args.sink.now) (g.K.Sink.state c.run_script-ended.new.sink) _ c.requires.answered
          (calls_of_new c.args.host.now c.run_script-ended.new.host exchanges c.requires.fresh calls) c.requires.whole ends,
    )

pub returns-clause-write_fault : goal.returns-clause-write_fault
returns-clause-write_fault g c =
    record { later = c.run_script-ended.ensures.cause.later; rose = λ e. c.run_script-ended.ensures.cause.rose (is_write_fault c.run_script-ended.result (sym c.status_of.ensures ∙ e)) }
