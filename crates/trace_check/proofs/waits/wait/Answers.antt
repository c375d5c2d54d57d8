use Rattle.std.proofs.Common.{◌∷◌, ap, sym, ◌∙◌}
use Rattle.plain_machine.specs.Items.{GiveAnswer, Wait}
use Rattle.process_table.specs.Table.{with_table}
use Rattle.trace_check.specs.Meaning.{list_of, target_of}
use Rattle.trace_check.specs.Waits.{ahead_of, in_next_round}
use Rattle.trace_check.proofs.WaitItems.{truth_alike, wait_done, wait_round}
use Rattle.trace_check.proofs.waits.wait.Goals as goal

pub returns-in-Done : goal.returns-in-Done
returns-in-Done g c = λ program.
    let known = g.M.Kernel.state c.args.kernel.now in
    let rest = list_of c.args.work.now in
    let target = target_of c.args.target in
    wait_done program known c.args.waiting target rest (list_of c.put_back.new.self) c.in-Done.heard (sym c.in-Done.is ∙ c.ahead.ensures ∙ ap (λ l. ahead_of (with_table l) c.args.waiting) c.processes.ensures)
    (c.put_back.ensures ∙ ap (λ v. GiveAnswer v target ∷ rest) (c.truth.ensures ∙ truth_alike c.in-Done.heard))

pub returns-in_ok-begin_round-in-Round : goal.returns-in_ok-begin_round-in-Round
returns-in_ok-begin_round-in-Round g c = λ program.
    let known = g.M.Kernel.state c.args.kernel.now in
    let rest = list_of c.args.work.now in
    let target = target_of c.args.target in
    wait_round program known c.args.waiting target rest (list_of c.put_back-in-Round.new.self) (sym c.in-Round.is ∙ c.ahead.ensures ∙ ap (λ l. ahead_of (with_table l) c.args.waiting) c.processes.ensures)
    (c.put_back-in-Round.ensures ∙ ap (λ v. Wait v target ∷ rest) (c.in_ok-begin_round-in-Round.ensures ∙ ap (λ l. in_next_round (with_table l) c.args.waiting) c.processes-in-Round.ensures))

pub ask-requires : goal.ask-requires
ask-requires g c = record {
  place = c.requires;
  ahead = ap (λ l. ahead_of (with_table l) c.args.waiting) (sym c.processes.ensures) ∙ sym c.ahead.ensures ∙ c.in-Ask.is;
}
