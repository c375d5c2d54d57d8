use Rattle.std.proofs.Common.{◌≡◌, ◌+◌, ◌<◌, ◌^◌, [], ◌∷◌, ◌++◌, length, map, arith, sym, ap, subst, ◌∙◌, refl}
use Rattle.std.specs.String.{string_bytes}
use Rattle.plain_machine.specs.Exchanges.{Exchange, Spawn}
use Rattle.host_link.specs.Meaning.{ask_of, answer_of, exchanges_of}
use Rattle.host_link.specs.Hosts.{spawned_answer, after_spawn}
use Rattle.host_link.specs.Logged.{kills_due, due_by}
use Rattle.host_link.proofs.Due.{due_after_spawn, length-after_spawn}
use Rattle.host_link.proofs.Hosted.{children_after}
use Rattle.journal_text.specs.Allowed.{IsAnswerTo, IsSpawned}
use Rattle.journal_text.specs.Replayed.{ReplayState, IsReply, started_in}
use Rattle.journal_text.proofs.Replies.{started_due, numbered, replay_after, exchanged}
use Rattle.journal_text.proofs.replay.ReplayHost.spawn.Goals as goal

pub invariant_of-self-2 : goal.invariant_of-self-2
invariant_of-self-2 c =
    let list = exchanges_of c.self.inside.list in
    let reply = c.in_ok-reply.ensures in
    let answer = answer_of c.in_ok-reply.reply.answer in
    let k = started_in c.self.inside.course.matched list in
    let spawn = Spawn c.args.program.now (map string_bytes c.args.args.now) in
    let allowed : IsSpawned k answer = subst (λ a. IsAnswerTo k a answer) c.in_ok-ask.ensures reply.allowed in
    let told = c.spawned-spawned.ensures k allowed in
    let spawned = c.spawned-spawned.result in
    let kept = c.in_ok-reserve_child.ensures.kills in
    let kills : length c.add_child.new.kills.items ≡ length c.self.inside.kills.items + due_by spawned =
    ap length c.add_child.ensures ∙ length-after_spawn c.reserve_child.new.kills.items spawned ∙ ap (λ l. length l + due_by spawned) kept in
    let due : kills_due c.add_child.new.kills.items ≡ kills_due c.self.inside.kills.items + due_by spawned =
    ap kills_due c.add_child.ensures ∙ due_after_spawn c.reserve_child.new.kills.items spawned ∙ ap (λ l. kills_due l + due_by spawned) kept in (
      omega (arith, reply.within, c.keep.ensures.matched),
      omega (arith, due, c.owe.ensures.due, c.keep.ensures.due, c.in_ok-reserve_child.ensures.due, c.self.invariant.1),
      c.self.invariant.2,
      omega (arith, kills, reply.started, ap (λ n. started_in n list) c.keep.ensures.matched, started_due spawned answer told, c.self.invariant.3),
    )

pub returns-clause-number : goal.returns-clause-number
returns-clause-number c =
    let list = exchanges_of c.self.inside.list in
    let reply = c.in_ok-reply.ensures in
    let answer = answer_of c.in_ok-reply.reply.answer in
    let k = started_in c.self.inside.course.matched list in
    let allowed : IsSpawned k answer = subst (λ a. IsAnswerTo k a answer) c.in_ok-ask.ensures reply.allowed in
    let told = c.spawned-spawned.ensures k allowed in
    numbered c.spawned-spawned.result answer k (length c.args.self.now.kills) told allowed (c.self.invariant.3 ∙ ap (λ (s : ReplayState). length s.kills) c.self.view_is)

pub returns-clause-made : goal.returns-clause-made
returns-clause-made c =
    let list = exchanges_of c.self.inside.list in
    let reply = c.in_ok-reply.ensures in
    let answer = answer_of c.in_ok-reply.reply.answer in
    let k = started_in c.self.inside.course.matched list in
    let spawn = Spawn c.args.program.now (map string_bytes c.args.args.now) in
    let allowed : IsSpawned k answer = subst (λ a. IsAnswerTo k a answer) c.in_ok-ask.ensures reply.allowed in
    let told = c.spawned-spawned.ensures k allowed in
    let follows = c.in_ok-reply.reply.follows in
    let of_ask = subst (λ a. IsReply c.self.inside.course.strayed list c.self.inside.course.matched a 0 follows answer) c.in_ok-ask.ensures reply.reply in
    let of_answer = subst (IsReply c.self.inside.course.strayed list c.self.inside.course.matched spawn 0 follows) (sym told) of_ask in
    record {
      follows = follows;
      reply = subst (λ (s : ReplayState). IsReply s.strayed s.list s.matched spawn 0 follows (spawned_answer c.spawned-spawned.result)) c.self.view_is of_answer;
      after = replay_after _ c.args.self.now follows (ask_of c.in_ok-ask.ask) answer (spawned_answer c.spawned-spawned.result) spawn _ _ _ _ _
          c.self.view_is c.in_ok-ask.ensures (sym told) (c.keep.ensures.matched ∙ reply.matched_is) c.keep.ensures.strayed
          (c.add_child.ensures ∙ ap (λ l. after_spawn l c.spawned-spawned.result) c.in_ok-reserve_child.ensures.kills ∙ children_after c.self.inside.kills.items c.args.program.now (map string_bytes c.args.args.now) c.spawned-spawned.result (spawned_answer c.spawned-spawned.result) refl)
          c.keep.ensures.faults (c.owe.ensures.told ∙ c.keep.ensures.told ∙ ap (λ l. l ++ (let x : Exchange = record { ask = ask_of c.in_ok-ask.ask; answer = answer } in x) ∷ []) c.in_ok-reserve_child.ensures.told);
    }

pub returns-clause-asked : goal.returns-clause-asked
returns-clause-asked c =
    let made = returns-clause-made c in
    let small = subst (λ (s : ReplayState). s.faults < 2 ^ 64) c.self.view_is c.keep.ensures.counted in
    exchanged c.args.self.now _ (Spawn c.args.program.now (map string_bytes c.args.args.now)) 0 (spawned_answer c.spawned-spawned.result) (after_spawn c.args.self.now.kills c.spawned-spawned.result)
    small made (children_after c.args.self.now.kills c.args.program.now (map string_bytes c.args.args.now) c.spawned-spawned.result (spawned_answer c.spawned-spawned.result) refl)
