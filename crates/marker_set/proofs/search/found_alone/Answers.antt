use Rattle.std.proofs.Common.{◌++◌, [], ◌∷◌, take, ap, sym, ◌∙◌, append_assoc, append-nil, arith}
use Rattle.std.specs.List.{filter_map, enumerate_from}
use Rattle.marker_set.specs.Numbered.{numbered_if}
use Rattle.marker_set.specs.Homes.{no_slot, slot_at}
use Rattle.marker_set.specs.Search.{alone_within}
use Rattle.marker_set.proofs.SearchLemmas.{none_alone, numbers_more, numbers_whole}
use Rattle.marker_set.proofs.search.found_alone.Goals as goal

pub returns-then-not-some_alone : goal.returns-then-not-some_alone
returns-then-not-some_alone c =
    let olds = c.args.numbers.now.items in
    sym (append-nil olds) ∙ ap (λ ns. olds ++ ns) (sym (none_alone c.args.buffer c.args.from c.args.to 0 c.args.slots.now (c.requires.packed c.if-not-some_alone.true)))

pub loop-k-preserved : goal.loop-k-preserved
loop-k-preserved c =
    let olds = c.args.numbers.now.items in
    let slots = c.args.slots.now in
    let test = alone_within c.args.buffer c.args.from c.args.to in
    let so_far = filter_map (numbered_if test) (take c.loop-k.k (enumerate_from 0 slots)) in
    let more = filter_map (numbered_if test) ((c.loop-k.k, slot_at slots c.loop-k.k) ∷ []) in
    c.in_ok-add_alone.ensures ∙ ap (λ ns. ns ++ more) c.loop-k.invariant ∙ append_assoc olds so_far more
    ∙ ap (λ ns. olds ++ ns) (sym (numbers_more test no_slot slots c.loop-k.k (omega (arith, c.loop-k-test.true))))

pub returns : goal.returns
returns c =
    c.loop-k.invariant ∙ ap (λ ns. c.args.numbers.now.items ++ ns) (numbers_whole (alone_within c.args.buffer c.args.from c.args.to) c.args.slots.now c.loop-k.k (omega (arith, c.loop-k-test.false)))
