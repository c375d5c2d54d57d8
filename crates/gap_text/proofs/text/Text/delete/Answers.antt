use Rattle.std.proofs.Common.{◌≡◌, ◌++◌, ◌≤◌, ◌+◌, ◌-◌, take, drop, length, ap, ◌∙◌, arith, subst}
use Rattle.gap_text.specs.Text.{Gapped, characters}
use Rattle.gap_text.proofs.Texts.{numbers, made, Moved, Spliced, deleted}
use Rattle.gap_text.proofs.text.Text.delete.Goals as goal

pub move_gap-requires-clause-to_fits : goal.move_gap-requires-clause-to_fits
move_gap-requires-clause-to_fits c =
    let n = numbers c.args.pool.now c.args.self.now (made c.self.inside.blocks.items c.self.inside.gap c.self.inside.spare) c.self.view_is c.requires.lies c.self.invariant in
    omega (arith, n.total, ap length c.as_slice-blocks.ensures.value)

pub overflow_add-self : goal.overflow_add-self
overflow_add-self c =
    let n = numbers c.args.pool.now c.args.self.now (made c.self.inside.blocks.items c.self.inside.gap c.self.inside.spare) c.self.view_is c.requires.lies c.self.invariant in
    omega (arith, n.total)

pub invariant_of-self : goal.invariant_of-self
invariant_of-self c =
    let n = numbers c.args.pool.now c.args.self.now (made c.self.inside.blocks.items c.self.inside.gap c.self.inside.spare) c.self.view_is c.requires.lies c.self.invariant in
    record {
      distinct = c.self.invariant.distinct;
      gap = omega (arith, n.total);
      countable = c.self.invariant.countable;
    }

after : (c : goal.After-self-2-1) → Spliced c.move_gap.new.pool (made c.self.inside.blocks.items c.args.from (c.self.inside.spare + (c.args.to - c.args.from)))
    (take c.args.from (characters c.args.pool.now c.args.self.now) ++ drop c.args.to (characters c.args.pool.now c.args.self.now))
after c =
    let t : Gapped = made c.self.inside.blocks.items c.self.inside.gap c.self.inside.spare in
    let n = numbers c.args.pool.now c.args.self.now t c.self.view_is c.requires.lies c.self.invariant in
    let m : Moved c.args.pool.now c.move_gap.new.pool c.self.inside.blocks.items c.self.inside.gap c.self.inside.spare c.min-place.result =
    subst (λ b. Moved c.args.pool.now c.move_gap.new.pool b c.self.inside.gap c.self.inside.spare c.min-place.result) c.as_slice-blocks.ensures.value (record { kept = c.move_gap.ensures.kept; row = c.move_gap.ensures.row }) in
    let same : characters c.args.pool.now t ≡ characters c.args.pool.now c.args.self.now = ap (λ (x : Gapped). characters c.args.pool.now x) c.self.view_is in
    let range : c.args.to ≤ length (characters c.args.pool.now t) = rw same c.requires.range in
    let left : c.args.from ≤ c.min-place.result = omega arith in
    let right : c.min-place.result ≤ c.args.to = omega arith in
    let s = deleted c.args.pool.now c.move_gap.new.pool t c.args.from c.args.to c.min-place.result n.lies c.requires.order range left right m in
    record { lies = s.lies; is = s.is ∙ ap (λ cs. take c.args.from cs ++ drop c.args.to cs) same }

pub returns-clause-lies : goal.returns-clause-lies
returns-clause-lies c = (after c).lies

pub returns-clause-characters : goal.returns-clause-characters
returns-clause-characters c = (after c).is
