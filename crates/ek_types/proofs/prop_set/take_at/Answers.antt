use Rattle.std.proofs.Common.{◌∙◌, ap, map, arith}
use Rattle.std.proofs.lemmas.Grind.{common_steps}
use Rattle.ek_types.specs.Property.{pair_of}
use Rattle.ek_types.proofs.PropSets.{drop_other, drop_none, taken_found, taken_other}
use Rattle.ek_types.proofs.prop_set.take_at.Goals as goal
use Rattle.ek_types.proofs.prop_set.take_at.Goals.{else-at-len-via-then-at-len+else-index-name, else-at-len-via-else-at-len}

pub returns-then-index-name : goal.returns-then-index-name
returns-then-index-name c =
    ap (map pair_of) c.remove.ensures.items ∙ taken_found pair_of c.args.pairs.now.items c.args.at c.index.result.now c.args.name.0
    (grind (arith, common_steps, c.len.ensures, c.if-at-len.true)) (rw (← c.index.ensures) c.if-index-name.true)

pub returns-else-at-len : goal.returns-else-at-len
returns-else-at-len c = taken_other pair_of c.args.pairs.now.items c.args.at c.args.name.0 (elim c.else-at-len.branch [
  | else-at-len-via-then-at-len+else-index-name w ↦ drop_other pair_of c.args.pairs.now.items c.args.at w.index.result.now c.args.name.0
      (grind (arith, common_steps, c.len.ensures, w.if-at-len.true)) (rw (← w.index.ensures) w.if-index-name.false)
  | else-at-len-via-else-at-len w ↦ drop_none pair_of c.args.pairs.now.items c.args.at c.args.name.0 (grind (arith, common_steps, c.len.ensures, w.if-at-len.false))
])
