use Rattle.std.proofs.Common.{◌≡◌, [], Some, ap, sym, ◌∙◌, arith}
use Rattle.std.proofs.lemmas.Bool.{eqb-true}
use Rattle.buffer_core.proofs.Runs.{part_alike, no_items}
use Rattle.buffer_core.proofs.pieces.is_plain.Goals as goal

pub returns : goal.returns
returns c = λ yes.
    let none : c.at-set.result.now ≡ [] = no_items c.at-set.result.now (sym c.len.ensures.exact ∙ eqb-true c.len.result 0 yes) in
    part_alike c.args.props.now c.args.from c.args.to [] c.requires.order c.requires.range (λ j a b. c.run_end-end.ensures.equal j a (omega arith) ∙ c.at-set.ensures.exact ∙ ap Some none)
