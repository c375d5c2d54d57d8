use Rattle.std.proofs.Common.{◌≡◌, Some, ap, sym, ◌∙◌}
use Rattle.plain_machine.specs.State.{Process}
use Rattle.process_table.specs.Meaning.{filter_of}
use Rattle.host_link.specs.Hosts.{got_answer}
use Rattle.handler_run.proofs.Taking.{entered}
use Rattle.handler_run.proofs.answers.enter.Goals as goal

pub returns-clause-machine : goal.returns-clause-machine
returns-clause-machine c = λ s x stands found undrained.
    let (y, there, kept_is) = c.processes_stand.ensures c.args.table.now s c.args.p c.get.result.now stands c.get.ensures in
    let both : Some y ≡ Some x = sym there ∙ found in
    let same : y ≡ x = cc in
    let filter_is : x.filter ≡ filter_of c.filter-filter.result = ap (λ (z : Process). z.filter) (sym same) ∙ ap (λ (z : Process). z.filter) (sym kept_is) ∙ sym c.filter-filter.ensures in
    entered s c.args.p x (got_answer c.args.bytes.now c.args.got.now) c.decode.new.table c.decode.new.out.items c.filter_entry.result
    (λ rest. c.filter_entry.ensures.machine s x rest filter_is)
    (c.decode.ensures.machine c.slot.invariant.0 s x stands found undrained)
