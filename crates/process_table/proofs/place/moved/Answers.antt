use Rattle.std.proofs.Common.{◌≡◌, ◌++◌, ◌+◌, [], ◌∷◌, length, ap, sym, ◌∙◌, refl, arith, append_assoc, append-nil}
use Rattle.std.proofs.lemmas.List.{length-append, nil_from_length}
use Rattle.process_table.proofs.place.moved.Goals as goal

pub loop-process-init : goal.loop-process-init
loop-process-init c = (rw c.requires.empty search, refl)

pub push_reserved-requires : goal.push_reserved-requires
push_reserved-requires c =
    let step = c.in-Some.ensures.steps.0 in
    let all : length c.loop-process.list.items + length (c.in-Some.process ∷ c.next.new.self.rest.items) ≡ length c.args.processes.items =
    sym (length-append c.loop-process.list.items (c.in-Some.process ∷ c.next.new.self.rest.items)) ∙ ap (λ l. length (c.loop-process.list.items ++ l)) (sym step) ∙ ap length c.loop-process.invariant.0 in
    omega (arith, all, c.requires.fits, c.loop-process.invariant.1)

pub loop-process-preserved : goal.loop-process-preserved
loop-process-preserved c =
    let step = c.in-Some.ensures.steps.0 in (
      ap (λ l. l ++ c.next.new.self.rest.items) c.push_reserved.ensures.items
          ∙ append_assoc c.loop-process.list.items (c.in-Some.process ∷ []) c.next.new.self.rest.items
          ∙ ap (λ l. c.loop-process.list.items ++ l) (sym step) ∙ c.loop-process.invariant.0,
      c.push_reserved.ensures.capacity ∙ c.loop-process.invariant.1,
    )

pub returns-clause-items : goal.returns-clause-items
returns-clause-items c =
    let none : length c.loop-process.process-iterator.rest.items ≡ 0 = omega (arith, c.in-None.ensures.steps.0) in
    sym (append-nil c.loop-process.list.items) ∙ ap (λ l. c.loop-process.list.items ++ l) (sym (nil_from_length c.loop-process.process-iterator.rest.items none)) ∙ c.loop-process.invariant.0

pub returns-clause-capacity : goal.returns-clause-capacity
returns-clause-capacity c = c.loop-process.invariant.1
