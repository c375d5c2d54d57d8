use Rattle.std.proofs.Common.{◌≡◌, ◌++◌, ◌≤◌, ◌+◌, ◌-◌, take, drop, length, ap, ◌∙◌, arith, subst}
use Rattle.gap_text.specs.Text.{Gapped, characters}
use Rattle.gap_text.proofs.Texts.{numbers, made, Moved, Written, Spliced, inserted}
use Rattle.gap_text.proofs.text.Text.insert.Goals as goal

pub move_gap-requires-clause-to_fits : goal.move_gap-requires-clause-to_fits
move_gap-requires-clause-to_fits c =
    let n = numbers c.args.pool.now c.args.self.now (made c.self.inside.blocks.items c.self.inside.gap c.self.inside.spare) c.self.view_is c.requires.lies c.self.invariant in
    omega (arith, n.total, ap length c.as_slice-blocks.ensures.value)

pub write-requires-clause-fits : goal.write-requires-clause-fits
write-requires-clause-fits c =
    let n = numbers c.args.pool.now c.args.self.now (made c.self.inside.blocks.items c.self.inside.gap c.self.inside.spare) c.self.view_is c.requires.lies c.self.invariant in
    omega (arith, n.total, ap length c.as_slice-blocks.ensures.value, ap (λ (t : Gapped). t.spare) c.self.view_is)

pub overflow_add-self : goal.overflow_add-self
overflow_add-self c =
    let n = numbers c.args.pool.now c.args.self.now (made c.self.inside.blocks.items c.self.inside.gap c.self.inside.spare) c.self.view_is c.requires.lies c.self.invariant in
    omega (arith, n.total, ap (λ (t : Gapped). t.spare) c.self.view_is)

pub invariant_of-self : goal.invariant_of-self
invariant_of-self c =
    let n = numbers c.args.pool.now c.args.self.now (made c.self.inside.blocks.items c.self.inside.gap c.self.inside.spare) c.self.view_is c.requires.lies c.self.invariant in
    record {
      distinct = c.self.invariant.distinct;
      gap = omega (arith, n.total, ap (λ (t : Gapped). t.spare) c.self.view_is);
      countable = c.self.invariant.countable;
    }

after : (c : goal.After-self-2-1) → Spliced c.write.new.pool (made c.self.inside.blocks.items (c.args.i + c.len-count.result) (c.self.inside.spare - c.len-count.result))
    (take c.args.i (characters c.args.pool.now c.args.self.now) ++ (c.args.text.now.items ++ drop c.args.i (characters c.args.pool.now c.args.self.now)))
after c =
    let t : Gapped = made c.self.inside.blocks.items c.self.inside.gap c.self.inside.spare in
    let n = numbers c.args.pool.now c.args.self.now t c.self.view_is c.requires.lies c.self.invariant in
    let m : Moved c.args.pool.now c.move_gap.new.pool c.self.inside.blocks.items c.self.inside.gap c.self.inside.spare c.args.i =
    subst (λ b. Moved c.args.pool.now c.move_gap.new.pool b c.self.inside.gap c.self.inside.spare c.args.i) c.as_slice-blocks.ensures.value (record { kept = c.move_gap.ensures.kept; row = c.move_gap.ensures.row }) in
    let w : Written c.move_gap.new.pool c.write.new.pool c.self.inside.blocks.items c.args.i c.args.text.now.items =
    subst (λ b. Written c.move_gap.new.pool c.write.new.pool b c.args.i c.args.text.now.items) c.as_slice-blocks.ensures.value
    (record { written = c.write.ensures.written; behind = c.write.ensures.behind; characters = c.write.ensures.characters; row = c.write.ensures.row }) in
    let same : characters c.args.pool.now t ≡ characters c.args.pool.now c.args.self.now = ap (λ (x : Gapped). characters c.args.pool.now x) c.self.view_is in
    let place : c.args.i ≤ length (characters c.args.pool.now t) = rw same c.requires.place in
    let room : length c.args.text.now.items ≤ c.self.inside.spare = omega (arith, ap (λ (x : Gapped). x.spare) c.self.view_is) in
    let s = inserted c.args.pool.now c.move_gap.new.pool c.write.new.pool t c.args.i c.len-count.result c.args.text.now.items c.len-count.ensures n.lies place room m w in
    record { lies = s.lies; is = s.is ∙ ap (λ cs. take c.args.i cs ++ (c.args.text.now.items ++ drop c.args.i cs)) same }

pub returns-clause-lies : goal.returns-clause-lies
returns-clause-lies c = (after c).lies

pub returns-clause-characters : goal.returns-clause-characters
returns-clause-characters c = (after c).is
