use Rattle.std.proofs.Common.{◌≡◌, arith, sym, subst, false, true, Some, slice_get, length-set}
use Rattle.host_link.specs.Hosts.{kill_answer}
use Rattle.host_link.proofs.Due.{due_after_kill}
use Rattle.journal_text.specs.Allowed.{IsKilled}
use Rattle.journal_text.specs.Replayed.{ReplayState}
use Rattle.journal_text.proofs.Replies.{none_started}
use Rattle.journal_text.proofs.replay.ReplayHost.kill.Goals as goal

pub put_kill-requires : goal.put_kill-requires
put_kill-requires c =
    let P : ReplayState → Type 0 = λ s. slice_get s.kills c.args.child ≡ Some false in
    let fresh = subst P (sym c.self.view_is) c.requires in
    omega (arith, due_after_kill c.self.inside.kills.items c.args.child fresh, c.self.invariant.1)

pub invariant_of-self : goal.invariant_of-self
invariant_of-self c =
    let P : ReplayState → Type 0 = λ s. slice_get s.kills c.args.child ≡ Some false in
    let fresh = subst P (sym c.self.view_is) c.requires in
    let reply = c.kill_reply-reply.ensures in
    let none = none_started IsKilled (λ child h. h) (kill_answer c.kill_reply-reply.result.killed) reply.allowed in (
      reply.within,
      omega (arith, due_after_kill c.self.inside.kills.items c.args.child fresh, c.self.invariant.1, c.put_kill.ensures.due),
      c.self.invariant.2,
      omega (arith, reply.started, none, c.self.invariant.3, length-set c.self.inside.kills.items c.args.child true),
    )
