use Rattle.std.proofs.Common.{◌<◌, ◌++◌, true, ap, sym, subst, ◌∙◌, arith}
use Rattle.std.proofs.lemmas.List.Elements.{All-from_get_or}
use Rattle.text_model.specs.Codings.{all_decoded, decoded}
use Rattle.std.specs.Prelude.{Some}
use Rattle.plain_machine.specs.State.{change_process, read_so_far}
use Rattle.plain_machine.specs.Waits.{asked_more}
use Rattle.process_table.specs.Table.{StandsFor, coding_by, held_by}
use Rattle.handler_run.proofs.Taking.{took_bytes, took_end, took_nothing}
use Rattle.handler_run.proofs.answers.decode.Goals as goal

pub returns-in-Bytes-clause-machine : goal.returns-in-Bytes-clause-machine
returns-in-Bytes-clause-machine c = λ empty s x stands found undrained.
    let p = c.args.p in
    let bytes = c.args.bytes.now in
    let now = asked_more s in
    took_bytes s p x c.feed.new.self c.feed.new.out.items c.args.got.now c.in-Bytes.field-0 bytes c.in-Bytes.is c.requires.read
    (All-from_get_or (λ b. b < 256) bytes 0 (λ i h. omega (arith, c.type_inv.bytes i)))
    (subst (λ t. StandsFor t (change_process p (λ y. record y { bytes = Some (read_so_far x ++ bytes) }) now).processes) (sym c.feed.ensures.table) (c.output_stands.ensures.fed c.args.table.now now p x bytes stands found undrained))
    (c.feed.ensures.items
    ∙ ap (λ l. l ++ decoded (coding_by c.args.table.now p) (held_by c.args.table.now p ++ bytes)) empty
    ∙ c.output_stands.ensures.fed_text c.args.table.now now p x bytes stands found undrained)

pub returns-in-Nothing-clause-machine : goal.returns-in-Nothing-clause-machine
returns-in-Nothing-clause-machine c = λ empty s x stands found undrained.
    took_nothing s c.args.p x c.args.table.now c.args.out.now.items c.args.got.now c.args.bytes.now c.in-Nothing.is stands empty

pub returns-in-End-clause-machine : goal.returns-in-End-clause-machine
returns-in-End-clause-machine c = λ empty s x stands found undrained.
    let p = c.args.p in
    let now = asked_more s in
    took_end s p x c.drain.new.self c.drain.new.out.items c.args.got.now c.args.bytes.now c.in-End.is
    (subst (λ t. StandsFor t (change_process p (λ y. record y { drained = true }) now).processes) (sym c.drain.ensures.table) (c.output_stands.ensures.drained c.args.table.now now p stands))
    (c.drain.ensures.items
    ∙ ap (λ l. l ++ all_decoded (coding_by c.args.table.now p) (held_by c.args.table.now p)) empty
    ∙ c.output_stands.ensures.drained_text c.args.table.now now p x stands found undrained)
