use Rattle.std.proofs.Common.{refl, arith}
use Rattle.std.proofs.lemmas.Option.{slice_get_read}
use Rattle.plain_machine.specs.Exchanges.{Sent}
use Rattle.system_host.proofs.Calls.{child_within, OthersStay-slice_set, slice_get-slice_set_same, HasCause-no_fault}
use Rattle.system_host.proofs.children.RealHostHost.send.Goals as goal

pub returns-then-is_sent-clause-asked : goal.returns-then-is_sent-clause-asked
returns-then-is_sent-clause-asked g c = rw (← c.self.view_is) record {
  told = refl;
  kills = refl;
  cause = HasCause-no_fault Sent _ refl;
}

pub returns-then-is_sent-clause-made : goal.returns-then-is_sent-clause-made
returns-then-is_sent-clause-made g c =
    let there = child_within c.self.inside.children c.self.inside.kills c.args.child c.self.invariant (rw (← c.self.view_is) at c.requires) in
    let was = slice_get_read c.self.inside.children.items _ c.args.child _ refl there c.index_mut.ensures.value in
    rw (← c.self.view_is) record {
      faults = refl;
      others = OthersStay-slice_set c.self.inside.children.items c.args.child _;
      did = rw (slice_get-slice_set_same, was) (c.is_sent.ensures c.if-is_sent.true, refl);
    }

pub returns-else-is_sent-clause-asked : goal.returns-else-is_sent-clause-asked
returns-else-is_sent-clause-asked g c = rw (← c.self.view_is) record {
  told = refl;
  kills = refl;
  cause = record { later = omega arith; rose = λ _. omega arith };
}

pub returns-else-is_sent-clause-made : goal.returns-else-is_sent-clause-made
returns-else-is_sent-clause-made g c =
    let there = child_within c.self.inside.children c.self.inside.kills c.args.child c.self.invariant (rw (← c.self.view_is) at c.requires) in
    let was = slice_get_read c.self.inside.children.items _ c.args.child _ refl there c.index_mut.ensures.value in
    rw (← c.self.view_is) record {
      faults = c.saturating_add-self-inside.ensures;
      others = OthersStay-slice_set c.self.inside.children.items c.args.child _;
      did = rw (slice_get-slice_set_same, was) refl;
    }
