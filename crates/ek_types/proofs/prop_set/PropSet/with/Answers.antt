use Rattle.std.proofs.Common.{sym, ◌∙◌}
use Rattle.ek_types.specs.Property.{prop_of}
use Rattle.ek_types.proofs.PropSets.{proper-with_value, value_where}
use Rattle.ek_types.proofs.prop_set.PropSet.with.Goals as goal

pub invariant_of-result : goal.invariant_of-result
invariant_of-result c =
    rw (c.in_ok-put_in.ensures, c.in_ok-copy.ensures) (proper-with_value _ _ _ (value_where (prop_of c.args.value.now) (sym c.is_nil.ensures ∙ c.if-is_nil.false)) c.self.invariant)
