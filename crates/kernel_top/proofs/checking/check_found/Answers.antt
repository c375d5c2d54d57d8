use Rattle.std.proofs.Common.{subst, drop, arith}
use Rattle.plain_machine.specs.Grammar.{IsScript}
use Rattle.ek_call.specs.Meaning.{script_of}
use Rattle.host_link.specs.Meaning.{exchanges_of}
use Rattle.kernel_state.specs.Whole.{program_with}
use Rattle.kernel_top.specs.Scripts.{TellsNoScript}
use Rattle.kernel_top.proofs.Replays.{rest_is}
use Rattle.kernel_top.proofs.Checks.{few_in, short_claim, checked_bytes, unscripted}
use Rattle.kernel_top.proofs.checking.check_found.Goals as goal

pub returns-in-Err : goal.returns-in-Err
returns-in-Err g c =
    let found = c.args.found.now in
    let none : TellsNoScript c.in-Err.status (drop found.script c.args.bytes.now) = subst (TellsNoScript c.in-Err.status) (rest_is c.args.bytes.now found.script) c.in-Err.ensures.none in
    unscripted (λ script. program_with g.N.Natives.names g.N.Natives.does script c.args.natives.now) c.in-Err.status c.args.bytes.now (exchanges_of found.journal) found.from found.to found.script c.requires.read none

pub judge-requires-clause-few : goal.judge-requires-clause-few
judge-requires-clause-few g c =
    let found = c.args.found.now in
    let few = few_in c.args.bytes.now (exchanges_of found.journal) found.from found.to found.script c.requires.read c.requires.short in
    omega (arith, few)

pub judge-requires-clause-short : goal.judge-requires-clause-short
judge-requires-clause-short g c =
    let found = c.args.found.now in
    let order = c.requires.read.in_order in
    short_claim c.args.bytes.now found.from found.to c.requires.short order.0 (omega (arith, order.1, order.2))

pub returns-in-Ok : goal.returns-in-Ok
returns-in-Ok g c =
    let found = c.args.found.now in
    checked_bytes (λ script. program_with g.N.Natives.names g.N.Natives.does script c.args.natives.now) (script_of c.in-Ok.script) c.judge.result c.args.bytes.now (exchanges_of found.journal) found.from found.to found.script c.requires.read
    (subst (λ l. IsScript l (script_of c.in-Ok.script)) (rest_is c.args.bytes.now found.script) c.in-Ok.ensures.script) c.judge.ensures
