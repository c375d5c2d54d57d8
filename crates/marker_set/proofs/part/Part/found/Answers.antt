use Rattle.std.proofs.Common.{◌≡◌, ◌++◌, inl, inr, OnOk, List, [], Option, ap, subst, sym, ◌∙◌, append-nil, arith}
use Rattle.std.specs.List.{filter_map}
use Rattle.std.proofs.lemmas.Bool.{cases_lt}
use Rattle.marker_set.specs.Blocks.{Block}
use Rattle.marker_set.specs.Search.{number_between, found_in}
use Rattle.marker_set.specs.declared.cell.Cell.{Cell}
use Rattle.marker_set.proofs.SearchLemmas.{own_found, cells_above, cells_shifted}
use Rattle.marker_set.proofs.part.Part.found.Goals as goal

pub returns-then-misses : goal.returns-then-misses
returns-then-misses c = let olds = c.args.numbers.now.items in sym (append-nil olds) ∙ ap (λ ns. olds ++ ns) (sym (c.misses.ensures.none c.if-misses.true))

pub returns-in_default : goal.returns-in_default
returns-in_default c =
    let olds = c.args.numbers.now.items in
    let self = c.self.inside in
    let none : filter_map (number_between c.args.from c.args.to) c.args.self.now.cells ≡ [] =
    ap (λ (b : Block). filter_map (number_between c.args.from c.args.to) b.cells) (sym c.self.view_is) ∙ cells_above self.offset c.args.from c.args.to (elim (cases_lt c.args.to self.offset) [ inl h ↦ h | inr h ↦ absurd (c.in_default.ensures h) ]) self.cells.items in
    sym (append-nil olds) ∙ ap (λ ns. olds ++ ns) (sym (own_found c.args.buffer c.args.from c.args.to c.args.self.now (c.misses.ensures.own c.if-misses.false) ∙ none))

pub returns : goal.returns
returns c =
    let self = c.self.inside in
    let found : filter_map (number_between c.saturating_sub-low.result c.in-Some.high) c.as_slice.result.now ≡ found_in c.args.buffer c.args.from c.args.to c.args.self.now =
    ap (λ (cells : List (Option Cell)). filter_map (number_between c.saturating_sub-low.result c.in-Some.high) cells) c.as_slice.ensures.value
    ∙ ap (λ low. filter_map (number_between low c.in-Some.high) self.cells.items) c.saturating_sub-low.ensures
    ∙ cells_shifted self.offset c.args.from c.args.to c.in-Some.high (omega (arith, c.in-Some.ensures)) self.cells.items
    ∙ ap (λ (b : Block). filter_map (number_between c.args.from c.args.to) b.cells) c.self.view_is
    ∙ sym (own_found c.args.buffer c.args.from c.args.to c.args.self.now (c.misses.ensures.own c.if-misses.false)) in
    subst (λ ns. OnOk c.found_cells.result (c.found_cells.new.numbers.items ≡ c.args.numbers.now.items ++ ns)) found c.found_cells.ensures
