use Rattle.std.proofs.Common.{◌≡◌, arith, ap, ◌∙◌, true, slice_set}
use Rattle.host_link.specs.Logged.{kills_due}
use Rattle.host_link.proofs.Due.{due_after_kill}
use Rattle.host_link.proofs.recorder.RecorderHost.kill.Goals as goal

pub put_kill-requires : goal.put_kill-requires
put_kill-requires g c =
    let counted = due_after_kill (g.H.Host.state c.args.self.now.inner).kills c.args.child c.requires in
    let same : (g.H.Host.state c.self.inside.inner).kills ≡ (g.H.Host.state c.args.self.now.inner).kills = cc in
    let due = c.self.invariant ∙ ap kills_due same in
    omega (arith, counted, due)

pub invariant_of-self : goal.invariant_of-self
invariant_of-self g c =
    let counted = due_after_kill (g.H.Host.state c.args.self.now.inner).kills c.args.child c.requires in
    let same : (g.H.Host.state c.self.inside.inner).kills ≡ (g.H.Host.state c.args.self.now.inner).kills = cc in
    let due = c.self.invariant ∙ ap kills_due same in
    let left = ap kills_due (c.kill-killed.ensures.asked.kills ∙ ap (λ kills. slice_set kills c.args.child true) same) in
    omega (arith, counted, due, left, c.put_kill.ensures.due)
