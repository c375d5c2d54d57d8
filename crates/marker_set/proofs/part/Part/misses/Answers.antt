use Rattle.std.proofs.Common.{inl, inr, ap, sym, ◌∙◌, arith}
use Rattle.std.specs.List.{filter_map}
use Rattle.std.proofs.lemmas.Bool.{ltb-true}
use Rattle.marker_set.specs.Blocks.{Block}
use Rattle.marker_set.specs.Search.{number_between}
use Rattle.marker_set.proofs.SearchLemmas.{cells_outside, none_found}
use Rattle.marker_set.proofs.part.Part.misses.Goals as goal

pub returns-then-self-from-clause-none : goal.returns-then-self-from-clause-none
returns-then-self-from-clause-none c = λ yes.
    let self = c.self.inside in
    none_found c.args.buffer c.args.from c.args.to c.args.self.now
    (ap (λ (b : Block). filter_map (number_between c.args.from c.args.to) b.cells) (sym c.self.view_is)
    ∙ cells_outside self.offset c.args.from c.args.to self.least self.most (inl (omega (arith, c.if-self-from.true))) self.cells.items c.self.invariant)

pub returns-clause-none : goal.returns-clause-none
returns-clause-none c = λ yes.
    let self = c.self.inside in
    none_found c.args.buffer c.args.from c.args.to c.args.self.now
    (ap (λ (b : Block). filter_map (number_between c.args.from c.args.to) b.cells) (sym c.self.view_is)
    ∙ cells_outside self.offset c.args.from c.args.to self.least self.most (inr (ltb-true c.args.to self.least yes)) self.cells.items c.self.invariant)
