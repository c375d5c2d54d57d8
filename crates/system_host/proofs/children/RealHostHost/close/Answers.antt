use Rattle.std.proofs.Common.{refl}
use Rattle.std.proofs.lemmas.Option.{slice_get_read}
use Rattle.plain_machine.specs.Exchanges.{Closed}
use Rattle.system_host.proofs.Calls.{child_within, OthersStay-slice_set, slice_get-slice_set_same, HasCause-no_fault}
use Rattle.system_host.proofs.children.RealHostHost.close.Goals as goal

pub returns-clause-asked : goal.returns-clause-asked
returns-clause-asked g c = rw (← c.self.view_is) record {
  told = refl;
  kills = refl;
  cause = HasCause-no_fault Closed _ refl;
}

pub returns-clause-made : goal.returns-clause-made
returns-clause-made g c =
    let there = child_within c.self.inside.children c.self.inside.kills c.args.child c.self.invariant (rw (← c.self.view_is) at c.requires) in
    let was = slice_get_read c.self.inside.children.items _ c.args.child _ refl there c.index_mut.ensures.value in
    rw (← c.self.view_is) record {
      faults = refl;
      others = OthersStay-slice_set c.self.inside.children.items c.args.child _;
      did = rw (slice_get-slice_set_same, was) (refl, refl);
    }
