use Rattle.std.proofs.Common.{◌≡◌, arith, sym, subst, false, Some, slice_get}
use Rattle.host_link.specs.Played.{MemoryHostState}
use Rattle.host_link.proofs.Due.{due_after_kill}
use Rattle.host_link.proofs.memory_host.MemoryHostHost.kill.Goals as goal

pub put_kill-requires : goal.put_kill-requires
put_kill-requires c =
    let P : MemoryHostState → Type 0 = λ s. slice_get s.kills c.args.child ≡ Some false in
    let fresh = subst P (sym c.self.view_is) c.requires in
    omega (arith, due_after_kill c.self.inside.kills.items c.args.child fresh, c.self.invariant.2)

pub invariant_of-self : goal.invariant_of-self
invariant_of-self c =
    let P : MemoryHostState → Type 0 = λ s. slice_get s.kills c.args.child ≡ Some false in
    let fresh = subst P (sym c.self.view_is) c.requires in
    (c.self.invariant.0, c.self.invariant.1, omega (arith, due_after_kill c.self.inside.kills.items c.args.child fresh, c.self.invariant.2, c.put_kill.ensures.due))
