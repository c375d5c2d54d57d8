use Rattle.std.proofs.Common.{◌≡◌, ◌-◌, suc, ◌∙◌, ap, arith}
use Rattle.ek_types.specs.Runs.{start_of}
use Rattle.ek_types.proofs.Putting.{start_behind}
use Rattle.ek_types.proofs.content.start.Goals as goal

pub returns-else-number-eq0 : goal.returns-else-number-eq0
returns-else-number-eq0 c =
    let before : suc (c.args.number - 1) ≡ c.args.number = omega (arith, c.if-number-eq0.false) in
    start_behind 0 c.args.runs.now (c.args.number - 1) _ (omega (arith, c.requires, before)) ∙ ap (λ n. start_of 0 n c.args.runs.now) before
