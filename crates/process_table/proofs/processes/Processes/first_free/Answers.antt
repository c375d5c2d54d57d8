use Rattle.std.proofs.Common.{◌≡◌, ◌≢◌, ◌+◌, ◌-◌, true, length, ap, sym, ◌∙◌, arith}
use Rattle.std.specs.Prelude.{is_some}
use Rattle.editor_model.specs.Editor.{numbered_name}
use Rattle.plain_machine.specs.Arguments.{find_process, free_name}
use Rattle.process_table.proofs.Numbering.{last_is_free, tried}
use Rattle.process_table.proofs.processes.Processes.first_free.Goals as goal

pub loop-n-preserved : goal.loop-n-preserved
loop-n-preserved c =
    let some_left : length c.args.self.now + 1 - c.loop-n.n ≢ 0 = omega (arith, c.count-count.ensures.count) in
    let less : length c.args.self.now + 1 - c.loop-n.n - 1 ≡ length c.args.self.now + 1 - (c.loop-n.n + 1) = omega arith in
    let found : is_some (find_process 0 c.args.self.now (numbered_name c.args.name.now.items c.loop-n.n)) ≡ true =
    ap (λ m. is_some (find_process 0 c.args.self.now m)) (sym c.in_ok-longer.ensures) ∙ ap is_some (sym c.find.ensures) ∙ c.if-is_none.ensures in
    c.loop-n.invariant
    ∙ tried (length c.args.self.now + 1 - c.loop-n.n) c.loop-n.n c.args.self.now c.args.name.now.items some_left found
    ∙ ap (λ t. free_name t (c.loop-n.n + 1) c.args.self.now c.args.name.now.items) less

pub returns-clause-free : goal.returns-clause-free
returns-clause-free c =
    let last : c.loop-n.n ≡ length c.args.self.now + 1 = omega (arith, c.count-count.ensures.count) in
    last_is_free c.args.self.now c.args.name.now.items (c.count-count.result + 1) c.loop-n.n c.numbered-2.result c.numbered-2.ensures c.loop-n.invariant (omega (arith, c.count-count.ensures.count)) last c.count-count.ensures.few
