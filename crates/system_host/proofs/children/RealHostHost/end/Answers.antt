use Rattle.std.proofs.Common.{refl, arith}
use Rattle.std.proofs.lemmas.Option.{slice_get_read}
use Rattle.system_host.proofs.Calls.{child_within, OthersStay-slice_set, slice_get-slice_set_same, faults_after-no_fault, HasCause-no_fault}
use Rattle.system_host.proofs.children.RealHostHost.end.Goals as goal

pub returns-in-Ok-clause-asked : goal.returns-in-Ok-clause-asked
returns-in-Ok-clause-asked g c = rw (← c.self.view_is) record {
  told = refl;
  kills = refl;
  cause = HasCause-no_fault _ _ c.in-Ok.ensures.no_fault;
}

pub returns-in-Ok-clause-made : goal.returns-in-Ok-clause-made
returns-in-Ok-clause-made g c =
    let there = child_within c.self.inside.children c.self.inside.kills c.args.child c.self.invariant (rw (← c.self.view_is) at c.requires) in
    let was = slice_get_read c.self.inside.children.items _ c.args.child _ refl there c.index_mut.ensures.value in
    rw (← c.self.view_is) record {
      faults = faults_after-no_fault _ _ c.in-Ok.ensures.no_fault;
      others = OthersStay-slice_set c.self.inside.children.items c.args.child _;
      did = rw (slice_get-slice_set_same, was) (c.in-Ok.ensures.ended, c.waited_for.ensures.again, c.waited_for.ensures.closed);
    }

pub returns-in-Err-clause-asked : goal.returns-in-Err-clause-asked
returns-in-Err-clause-asked g c = rw (← c.self.view_is) record {
  told = refl;
  kills = refl;
  cause = record { later = omega arith; rose = λ _. omega arith };
}

pub returns-in-Err-clause-made : goal.returns-in-Err-clause-made
returns-in-Err-clause-made g c =
    let there = child_within c.self.inside.children c.self.inside.kills c.args.child c.self.invariant (rw (← c.self.view_is) at c.requires) in
    let was = slice_get_read c.self.inside.children.items _ c.args.child _ refl there c.index_mut.ensures.value in
    rw (← c.self.view_is) record {
      faults = c.saturating_add-self-inside.ensures;
      others = OthersStay-slice_set c.self.inside.children.items c.args.child _;
      did = rw (slice_get-slice_set_same, was) (tt, c.waited_for.ensures.again, c.waited_for.ensures.closed);
    }
