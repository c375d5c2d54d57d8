use Rattle.std.proofs.Common.{◌≡◌, ◌<◌, length, [], ap, sym, ◌∙◌, arith, get_or}
use Rattle.std.proofs.lemmas.Grind.{common_steps}
use Rattle.ek_types.specs.MemoryIo.{fails_at}
use Rattle.plain_machine.specs.Exchanges as model
use Rattle.host_link.specs.Meaning.{answer_of}
use Rattle.host_link.specs.Played.{PlayState, MemoryHostState, fails_now, next_read, after_read, room_after}
use Rattle.host_link.specs.Cursors.{rests, rest_of}
use Rattle.host_link.proofs.Plays.{rest_at, rests_step}
use Rattle.host_link.proofs.Hosted.{answer_as, host_after}
use Rattle.host_link.proofs.memory_host.MemoryHostHost.read.Goals as goal

pub returns-clause-made : goal.returns-clause-made
returns-clause-made c =
    let none : PlayState = record { reads = []; ends = [] } in
    let within : c.args.child < length c.self.inside.plays.items = grind (arith, common_steps) in
    let started : c.args.child < length c.self.inside.cursors.items = grind (arith, common_steps) in
    let fails : c.is_failing-fails.result ≡ fails_now c.args.self.now =
    c.is_failing-fails.ensures ∙ ap (λ l. fails_at l c.self.inside.calls) c.deref.ensures.value ∙ ap fails_now c.self.view_is in
    let kept : rests c.self.inside.plays.items c.self.inside.cursors.items ≡ c.args.self.now.plays = ap (λ (s : MemoryHostState). s.plays) c.self.view_is in
    let here = rest_at c.self.inside.plays.items c.self.inside.cursors.items c.args.child c.index.result.now c.index-2.result.now none within started c.index.ensures c.index-2.ensures in
    let play = sym (ap (λ l. get_or l c.args.child none) kept) ∙ here in
    let plays = rests_step (λ r. record r { reads = after_read (length c.args.into.now) r.reads }) c.args.self.now.plays none
    c.self.inside.plays.items c.self.inside.cursors.items c.args.child c.index.result.now c.index-2.result.now c.in_ok-turn.turn.cursor
    c.is_failing-fails.result (fails_now c.args.self.now) kept fails within started c.index.ensures c.index-2.ensures c.in_ok-turn.ensures.rest in
    let reply = c.in_ok-turn.ensures.told ∙ answer_as (λ r. next_read (length c.args.into.now) r.reads) model.Failed c.args.self.now.plays c.args.child none (rest_of c.index.result.now c.index-2.result.now) c.is_failing-fails.result (fails_now c.args.self.now) fails play in (
      c.in_ok-turn.ensures.got ∙ reply,
      host_after _ c.args.self.now _ c.args.self.now.kills (model.Read c.args.child) (answer_of c.in_ok-turn.turn.answer) _ _ c.self.inside.kills.items _ _ c.reserve.new.self.told _
          c.self.view_is reply plays (ap (λ (s : MemoryHostState). s.kills) c.self.view_is) c.saturating_add-self-inside.ensures c.faults_after-self-inside.ensures c.in_ok-reserve.ensures.told c.put.ensures.told,
    )

pub returns-clause-room : goal.returns-clause-room
returns-clause-room c =
    let told = returns-clause-made c in
    c.in_ok-turn.ensures.room ∙ ap (room_after c.args.into.now) (sym c.in_ok-turn.ensures.got ∙ told.0)
