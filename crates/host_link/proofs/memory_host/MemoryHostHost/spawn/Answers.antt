use Rattle.std.proofs.Common.{◌≡◌, ◌+◌, [], ◌∷◌, ◌++◌, ap, ◌∙◌, arith, length, map}
use Rattle.std.specs.String.{string_bytes}
use Rattle.ek_types.specs.MemoryIo.{fails_at}
use Rattle.plain_machine.specs.Exchanges as model
use Rattle.plain_machine.specs.Exchanges.{Exchange}
use Rattle.host_link.specs.Hosts.{spawned_answer, after_spawn}
use Rattle.host_link.specs.Meaning.{answer_of}
use Rattle.host_link.specs.Logged.{kills_due, due_by}
use Rattle.host_link.specs.Played.{MemoryHostState, fails_now, spawn_reply, kills_after}
use Rattle.host_link.specs.Cursors.{rests, cursors_by}
use Rattle.host_link.proofs.Due.{due_after_spawn, length-after_spawn, length-cursors}
use Rattle.host_link.proofs.Plays.{length-rests, rests_by}
use Rattle.host_link.proofs.Hosted.{host_after, spawn_as, children_after}
use Rattle.host_link.proofs.memory_host.MemoryHostHost.spawn.Goals as goal

pub invariant_of-self-2 : goal.invariant_of-self-2
invariant_of-self-2 c =
    let spawned = c.next_child-spawned.result in
    let mid = c.reserve_child.new in
    let cursors = ap length c.add_child.ensures.cursors ∙ length-cursors mid.cursors.items spawned in
    let kills = ap length c.add_child.ensures.kills ∙ length-after_spawn mid.kills.items spawned in
    let due = ap kills_due c.add_child.ensures.kills ∙ due_after_spawn mid.kills.items spawned ∙ ap (λ k. kills_due k + due_by spawned) c.in_ok-reserve_child.ensures.kills in
    let kept_cursors = ap length c.in_ok-reserve_child.ensures.cursors in
    let kept_kills = ap length c.in_ok-reserve_child.ensures.kills in (
      omega (arith, cursors, kills, kept_cursors, kept_kills, mid.cursors.ok.0, c.self.inside.cursors.ok.0, c.self.inside.kills.ok.0, c.self.inside.plays.ok.0, c.add_child.new.cursors.ok.0, c.add_child.new.kills.ok.0, c.self.invariant.0),
      (let room = c.next_child-spawned.ensures.room (omega (arith, c.len.ensures, c.len-2.ensures, kept_cursors, mid.cursors.ok.0, c.self.inside.cursors.ok.0, c.self.inside.kills.ok.0, c.self.inside.plays.ok.0, c.self.invariant.1)) in omega (arith, cursors, room, c.len.ensures, c.len-2.ensures, mid.cursors.ok.0, c.self.inside.cursors.ok.0, c.self.inside.kills.ok.0, c.self.inside.plays.ok.0, c.add_child.new.cursors.ok.0)),
      omega (arith, due, c.put_spawn.ensures.due, c.in_ok-reserve_child.ensures.due, c.self.invariant.2),
    )

pub returns-clause-made : goal.returns-clause-made
returns-clause-made c =
    let fails : c.is_failing-fails.result ≡ fails_now c.args.self.now =
    c.is_failing-fails.ensures ∙ ap (λ l. fails_at l c.self.inside.calls) c.deref.ensures.value ∙ ap fails_now c.self.view_is in
    let kept : rests c.self.inside.plays.items c.self.inside.cursors.items ≡ c.args.self.now.plays = ap (λ (s : MemoryHostState). s.plays) c.self.view_is in
    let children : c.len.result ≡ length c.args.self.now.kills =
    omega (arith, c.len.ensures, ap length c.in_ok-reserve_child.ensures.cursors, c.reserve_child.new.cursors.ok.0, c.self.inside.cursors.ok.0, c.self.inside.kills.ok.0, c.self.invariant.0, ap (λ (s : MemoryHostState). length s.kills) c.self.view_is) in
    let given : c.len-2.result ≡ length c.args.self.now.plays =
    omega (arith, c.len-2.ensures, c.self.inside.plays.ok.0, length-rests c.self.inside.plays.items c.self.inside.cursors.items, ap length kept) in
    let reply : spawned_answer c.next_child-spawned.result ≡ spawn_reply c.args.self.now = c.next_child-spawned.ensures.answer ∙ spawn_as _ _ _ _ _ _ fails children given in
    let plays : rests c.self.inside.plays.items c.add_child.new.cursors.items ≡ c.args.self.now.plays =
    ap (rests c.self.inside.plays.items) (c.add_child.ensures.cursors ∙ ap (λ l. l ++ cursors_by c.next_child-spawned.result) c.in_ok-reserve_child.ensures.cursors)
    ∙ rests_by c.self.inside.plays.items c.self.inside.cursors.items c.next_child-spawned.result ∙ kept in
    let kills =
    c.add_child.ensures.kills ∙ ap (λ k. after_spawn k c.next_child-spawned.result) (c.in_ok-reserve_child.ensures.kills ∙ ap (λ (s : MemoryHostState). s.kills) c.self.view_is)
    ∙ children_after c.args.self.now.kills c.args.program.now (map string_bytes c.args.args.now) c.next_child-spawned.result (spawn_reply c.args.self.now) reply in
    let ask = c.in_ok-ask.ensures in (
      reply,
      host_after _ c.args.self.now c.args.self.now.plays (kills_after c.args.self.now.kills (model.Spawn c.args.program.now (map string_bytes c.args.args.now)) (spawn_reply c.args.self.now)) _ (answer_of c.answer_to_spawn-answer.result) (spawn_reply c.args.self.now)
          _ c.add_child.new.kills.items _ _ c.reserve_child.new.log.told _
          c.self.view_is (c.answer_to_spawn-answer.ensures ∙ reply) plays kills c.saturating_add-self-inside.ensures c.faults_after-self-inside.ensures c.in_ok-reserve_child.ensures.told
          (c.put_spawn.ensures.told ∙ ap (λ a. c.reserve_child.new.log.told ++ (let x : Exchange = record { ask = a; answer = answer_of c.answer_to_spawn-answer.result } in x) ∷ []) ask),
    )
