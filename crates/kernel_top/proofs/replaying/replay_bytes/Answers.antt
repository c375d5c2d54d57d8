use Rattle.std.proofs.Common.{[], refl, inl, ap, subst, drop, Err, arith}
use Rattle.std.proofs.KnownBytes.{Appends-nil}
use Rattle.plain_machine.specs.Grammar.{IsScript}
use Rattle.ek_call.specs.Meaning.{script_of}
use Rattle.host_link.specs.Meaning.{exchanges_of}
use Rattle.kernel_state.specs.Whole.{program_with}
use Rattle.kernel_top.specs.Scripts.{TellsNoScript}
use Rattle.kernel_top.proofs.Outcomes.{refused_no_write}
use Rattle.kernel_top.proofs.Replays.{few_exchanges, rest_is, replayed_bytes, unscripted}
use Rattle.kernel_top.proofs.replaying.replay_bytes.Goals as goal

pub returns-in-Err-Line-clause-written : goal.returns-in-Err-Line-clause-written
returns-in-Err-Line-clause-written g c =
    let none = c.in-Err-Line.ensures.none c.in-Err-Line.line (ap Err c.in-Err-Line.field-0-is) in
    let at = c.in-Err-Line.ensures.line c.in-Err-Line.line (ap Err c.in-Err-Line.field-0-is) in
    ([], Appends-nil _, rw c.in-Err-Line.line-is ((refl, refl), record { none = none; at = at }))

pub returns-in-Err-NoMemory-clause-written : goal.returns-in-Err-NoMemory-clause-written
returns-in-Err-NoMemory-clause-written g c = ([], Appends-nil _, inl (refl, refl))

pub returns-in-Err-clause-written : goal.returns-in-Err-clause-written
returns-in-Err-clause-written g c =
    let none : TellsNoScript c.in-Err.status (drop c.in-Ok.found.1 c.args.bytes.now) = subst (TellsNoScript c.in-Err.status) (rest_is c.args.bytes.now c.in-Ok.found.1) c.in-Err.ensures.none in
    ([], Appends-nil _, unscripted (λ script. program_with g.N.Natives.names g.N.Natives.does script c.args.natives.now) c.in-Err.status c.args.bytes.now (exchanges_of c.in-Ok.found.0) c.in-Ok.found.1 (g.K.Sink.state c.args.sink.now) c.in-Ok.ensures.read none)

pub returns-in-Err-clause-write_fault : goal.returns-in-Err-clause-write_fault
returns-in-Err-clause-write_fault g c = record { later = omega arith; rose = λ e. absurd (refused_no_write c.in-Err.status _ c.in-Err.ensures.none e) }

pub replay_script-requires-clause-few : goal.replay_script-requires-clause-few
replay_script-requires-clause-few g c =
    let few = few_exchanges c.args.bytes.now (exchanges_of c.in-Ok.found.0) c.in-Ok.found.1 c.in-Ok.ensures.read c.requires in
    omega (arith, few)

pub returns-clause-written : goal.returns-clause-written
returns-clause-written g c =
    let (written, put, so) = c.replay_script.ensures.written in
    (written, put, replayed_bytes (λ script. program_with g.N.Natives.names g.N.Natives.does script c.args.natives.now) (script_of c.in-Ok-script_in.script) c.replay_script.result c.args.bytes.now (exchanges_of c.in-Ok.found.0) c.in-Ok.found.1 written (g.K.Sink.state c.args.sink.now) (g.K.Sink.state c.replay_script.new.sink) c.in-Ok.ensures.read (subst (λ l. IsScript l (script_of c.in-Ok-script_in.script)) (rest_is c.args.bytes.now c.in-Ok.found.1) c.in-Ok-script_in.ensures.script) so)
