use Rattle.std.proofs.Common.{[], refl, sym, ◌∙◌, arith}
use Rattle.std.proofs.KnownBytes.{Appends-nil}
use Rattle.std.proofs.lemmas.List.{length-map}
use Rattle.ek_call.specs.Meaning.{script_of}
use Rattle.ek_types.specs.Listing.{items_of}
use Rattle.host_link.specs.Meaning.{exchange_of, exchanges_of}
use Rattle.kernel_state.specs.Whole.{program_with}
use Rattle.kernel_top.proofs.Replays.{refused_on, no_write_fault}
use Rattle.kernel_top.proofs.replaying.replay_script.Goals as goal

pub follow-requires-clause-fresh : goal.follow-requires-clause-fresh
follow-requires-clause-fresh g c = rw c.new-host.ensures refl

pub follow-requires-clause-count : goal.follow-requires-clause-count
follow-requires-clause-count g c = rw c.new-host.ensures (c.len-count.ensures ∙ sym (length-map (items_of c.args.journal) exchange_of))

pub follow-requires-clause-answered : goal.follow-requires-clause-answered
follow-requires-clause-answered g c = rw c.new-host.ensures c.requires.answered

pub write_run-requires-clause-fresh : goal.write_run-requires-clause-fresh
write_run-requires-clause-fresh g c = rw c.restart.ensures refl

pub write_run-requires-clause-answered : goal.write_run-requires-clause-answered
write_run-requires-clause-answered g c = rw (c.restart.ensures, c.in-Ok.ensures.kept, c.new-host.ensures) c.requires.answered

pub write_run-requires-clause-whole : goal.write_run-requires-clause-whole
write_run-requires-clause-whole g c = rw (c.restart.ensures, c.in-Ok.ensures.kept) c.in-Ok.ensures.followed

pub returns-in-Ok-clause-written : goal.returns-in-Ok-clause-written
returns-in-Ok-clause-written g c = rw (c.restart.ensures, c.in-Ok.ensures.kept, c.new-host.ensures) at c.write_run.ensures.written

pub returns-clause-written : goal.returns-clause-written
returns-clause-written g c = (
  [],
  Appends-nil _,
  refused_on (program_with g.N.Natives.names g.N.Natives.does (script_of c.args.script.now) c.args.natives.now) (script_of c.args.script.now) (exchanges_of c.args.journal) c.in-Err.status (g.K.Sink.state c.args.sink.now) (rw c.new-host.ensures at c.in-Err.ensures.followed),
)

pub returns-clause-write_fault : goal.returns-clause-write_fault
returns-clause-write_fault g c = record {
  later = omega arith;
  rose = λ e. absurd (no_write_fault (program_with g.N.Natives.names g.N.Natives.does (script_of c.args.script.now) c.args.natives.now) (script_of c.args.script.now) _ c.in-Err.status c.in-Err.ensures.followed e);
}
