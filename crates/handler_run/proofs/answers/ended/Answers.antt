use Rattle.std.proofs.Common.{◌≡◌, Some, [], ◌∷◌, ◌++◌, map, refl, ap, sym, subst, ◌∙◌}
use Rattle.std.specs.Prelude.{option_map}
use Rattle.text_model.specs.Characters.{Scalar}
use Rattle.text_model.specs.Properties.{bare}
use Rattle.editor_model.specs.Values.{Str, TheProcess}
use Rattle.plain_machine.specs.State.{Process, change_process}
use Rattle.plain_machine.specs.Lines.{OfSentinel}
use Rattle.plain_machine.specs.Items.{Enter}
use Rattle.plain_machine.specs.Waits.{asked_more}
use Rattle.process_table.specs.Meaning.{status_of}
use Rattle.process_table.specs.Table.{StandsFor, with_status}
use Rattle.ek_types.specs.Listing.{items_of}
use Rattle.ek_types.specs.Property.{number_of}
use Rattle.ek_call.specs.Meaning.{view}
use Rattle.handler_run.specs.Answers.{told_of}
use Rattle.handler_run.specs.declared.entry.Entry.TheVariants as entry
use Rattle.handler_run.proofs.Taking.{ended_as, deleted_as, still_runs, running_goes}
use Rattle.handler_run.proofs.answers.ended.Goals as goal

pub returns-in_default-clause-machine : goal.returns-in_default-clause-machine
returns-in_default-clause-machine c = λ s x stands found.
    running_goes s c.args.p x c.args.table.now c.args.how.now (still_runs c.args.how.now c.in_default.ensures) stands

pub returns-clause-machine : goal.returns-clause-machine
returns-clause-machine c = λ s x stands found.
    let p = c.args.p in
    let how = c.args.how.now in
    let args = c.arguments.result in
    let (y, there, kept_is) = c.processes_stand.ensures c.args.table.now s p c.get.result.now stands c.get.ensures in
    let both : Some y ≡ Some x = sym there ∙ found in
    let same : y ≡ x = cc in
    let handler_is : option_map number_of c.sentinel-handler.result ≡ x.sentinel = c.sentinel-handler.ensures ∙ ap (λ (z : Process). z.sentinel) kept_is ∙ ap (λ (z : Process). z.sentinel) same in
    let told_is : c.put_told.new.text.items ≡ map Scalar (told_of how) = c.put_told.ensures ∙ ap (λ l. l ++ map Scalar (told_of how)) c.slot.invariant.0 in
    let become = with_status (status_of c.in-Some.status) in
    let now_stands : StandsFor c.note_end.new.self (change_process p become (asked_more s)).processes =
    subst (λ t. StandsFor t (change_process p become (asked_more s)).processes) (sym c.note_end.ensures.table) (c.changes_stand.ensures.one p become become c.args.table.now (asked_more s) (λ z e. refl) stands) in
    ended_as s p x c.note_end.new.self (entry.Sentinel c.sentinel-handler.result args) how (status_of c.in-Some.status) c.in-Some.ensures now_stands
    (λ rest.
    ap (λ o. Enter (OfSentinel p) o (map view (items_of args)) ∷ rest) handler_is
    ∙ ap (λ l. Enter (OfSentinel p) x.sentinel l ∷ rest) (c.arguments.ensures ∙ ap (λ t. TheProcess p ∷ Str (bare t) ∷ []) told_is))

pub returns-clause-deleted : goal.returns-clause-deleted
returns-clause-deleted c = λ s x is_signal stands found.
    let p = c.args.p in
    let how = c.args.how.now in
    let args = c.arguments.result in
    let (y, there, kept_is) = c.processes_stand.ensures c.args.table.now s p c.get.result.now stands c.get.ensures in
    let both : Some y ≡ Some x = sym there ∙ found in
    let same : y ≡ x = cc in
    let handler_is : option_map number_of c.sentinel-handler.result ≡ x.sentinel = c.sentinel-handler.ensures ∙ ap (λ (z : Process). z.sentinel) kept_is ∙ ap (λ (z : Process). z.sentinel) same in
    let told_is : c.put_told.new.text.items ≡ map Scalar (told_of how) = c.put_told.ensures ∙ ap (λ l. l ++ map Scalar (told_of how)) c.slot.invariant.0 in
    let become = with_status (status_of c.in-Some.status) in
    let now_stands : StandsFor c.note_end.new.self (change_process p become s).processes =
    subst (λ t. StandsFor t (change_process p become s).processes) (sym c.note_end.ensures.table) (c.changes_stand.ensures.one p become become c.args.table.now s (λ z e. refl) stands) in
    deleted_as s p x c.note_end.new.self (entry.Sentinel c.sentinel-handler.result args) how (status_of c.in-Some.status) is_signal c.in-Some.ensures now_stands
    (λ rest.
    ap (λ o. Enter (OfSentinel p) o (map view (items_of args)) ∷ rest) handler_is
    ∙ ap (λ l. Enter (OfSentinel p) x.sentinel l ∷ rest) (c.arguments.ensures ∙ ap (λ t. TheProcess p ∷ Str (bare t) ∷ []) told_is))
