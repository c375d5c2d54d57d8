use Rattle.std.proofs.Common.{sym, ◌∙◌, arith}
use Rattle.ek_call.specs.Meaning.{script_of}
use Rattle.kernel_state.specs.Whole.{program_with}
use Rattle.kernel_top.proofs.Paths.{list_kept}
use Rattle.kernel_top.proofs.Replays.{calls_of_new}
use Rattle.kernel_top.proofs.Strayed.{whole_journal, strays_there}
use Rattle.kernel_top.proofs.replaying.follow.Goals as goal

pub run_unseen-ran-requires : goal.run_unseen-ran-requires
run_unseen-ran-requires g c = rw c.requires.fresh (omega arith)

pub returns-in_default-clause-kept : goal.returns-in_default-clause-kept
returns-in_default-clause-kept g c =
    let (exchanges, calls, why) = c.in_default.ensures in
    list_kept c.args.host.now c.run_unseen-ran.new.host exchanges calls

pub returns-then-is_followed-clause-kept : goal.returns-then-is_followed-clause-kept
returns-then-is_followed-clause-kept g c =
    let (exchanges, calls, whole) = c.in-Ok.ensures in
    list_kept c.args.host.now c.run_unseen-ran.new.host exchanges calls

pub returns-then-is_followed-clause-followed : goal.returns-then-is_followed-clause-followed
returns-then-is_followed-clause-followed g c =
    let (exchanges, calls, whole) = c.in-Ok.ensures in
    whole_journal (program_with g.N.Natives.names g.N.Natives.does (script_of c.args.script.now) c.args.natives.now) (script_of c.args.script.now) c.args.host.now.list c.run_unseen-ran.new.host exchanges (calls_of_new c.args.host.now c.run_unseen-ran.new.host exchanges c.requires.fresh calls) whole
    (rw (← c.requires.count) (sym c.is_followed.ensures ∙ c.if-is_followed.true))

pub returns-else-is_followed-clause-kept : goal.returns-else-is_followed-clause-kept
returns-else-is_followed-clause-kept g c =
    let (exchanges, calls, whole) = c.in-Ok.ensures in
    list_kept c.args.host.now c.run_unseen-ran.new.host exchanges calls

pub returns-else-is_followed-clause-followed : goal.returns-else-is_followed-clause-followed
returns-else-is_followed-clause-followed g c =
    let (exchanges, calls, whole) = c.in-Ok.ensures in
    rw c.matched.ensures (strays_there (program_with g.N.Natives.names g.N.Natives.does (script_of c.args.script.now) c.args.natives.now) (script_of c.args.script.now) c.args.host.now.list c.run_unseen-ran.new.host exchanges c.requires.answered (calls_of_new c.args.host.now c.run_unseen-ran.new.host exchanges c.requires.fresh calls) whole
    (rw (← c.requires.count) (sym c.is_followed.ensures ∙ c.if-is_followed.false)))

pub overflow_cast-result : goal.overflow_cast-result
overflow_cast-result g c =
    let (exchanges, calls, whole) = c.in-Ok.ensures in
    let strays = strays_there (program_with g.N.Natives.names g.N.Natives.does (script_of c.args.script.now) c.args.natives.now) (script_of c.args.script.now) c.args.host.now.list c.run_unseen-ran.new.host exchanges c.requires.answered (calls_of_new c.args.host.now c.run_unseen-ran.new.host exchanges c.requires.fresh calls) whole
    (rw (← c.requires.count) (sym c.is_followed.ensures ∙ c.if-is_followed.false)) in
    omega (arith, strays.within, c.requires.count, c.requires.few, c.matched.ensures)
