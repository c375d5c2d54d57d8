use Rattle.std.proofs.Common.{◌≡◌, suc, true, List, [], Option, map, take, drop, get_or, drop-cons, ap, sym, ◌∙◌}
use Rattle.std.proofs.lemmas.List.{drop_all}
use Rattle.text_model.specs.Properties.{PropVal, part, get, edited}
use Rattle.text_model.specs.Commit.{touched}
use Rattle.ek_types.specs.Property.{number_of}
use Rattle.ek_types.specs.declared.symbol.Sym.{Sym}
use Rattle.prop_intervals.specs.Edits.{edit_of}
use Rattle.buffer_core.specs.Changes.{records_in, records_from, is_some_record}
use Rattle.buffer_core.proofs.SomeRecord.{some_then}
use Rattle.buffer_core.proofs.Stretches.{records_of_names-in, sets_in-part}
use Rattle.buffer_core.proofs.reprop.has_record.Goals as goal

pub returns-then-has_record_of_name : goal.returns-then-has_record_of_name
returns-then-has_record_of_name c text e =
    let edit = edit_of c.args.edit.now in
    let sets = drop c.args.from (take c.args.to c.args.props.now) in
    let cells = part c.args.from c.args.to text in
    let parts = sets_in-part c.args.from c.args.to text ∙ ap (λ ss. drop c.args.from (take c.args.to ss)) e in
    let items : List Sym = c.deref-name-items.result.now in
    let i = c.loop-name.name-index in
    let none : Sym = record { 0 = 0 } in
    let n = number_of (get_or items i none) in
    let here : is_some_record (records_from n (get (edited edit []) n) c.args.from sets) ≡ true =
    ap (λ (v : Option PropVal). is_some_record (records_from n v c.args.from sets)) (sym c.new_value.ensures) ∙ sym c.has_record_of_name.ensures ∙ c.if-has_record_of_name.true in
    sym (ap (λ (names : List Sym). is_some_record (records_in edit c.args.from sets (map number_of names))) (drop-cons items i none c.loop-name-test.true)
    ∙ some_then (records_from n (get (edited edit []) n) c.args.from sets) (records_in edit c.args.from sets (map number_of (drop (suc i) items))) here)
    ∙ ap is_some_record
    (c.loop-name.invariant
    ∙ ap (λ ns. records_in edit c.args.from sets (map number_of ns)) c.deref-name-items.ensures.value
    ∙ ap (records_in edit c.args.from sets) (c.in_ok-names.ensures cells parts)
    ∙ ap (λ ss. records_in edit c.args.from ss (touched edit cells)) (sym parts)
    ∙ sym (records_of_names-in edit c.args.from cells (touched edit cells)))

pub returns : goal.returns
returns c text e =
    let edit = edit_of c.args.edit.now in
    let sets = drop c.args.from (take c.args.to c.args.props.now) in
    let cells = part c.args.from c.args.to text in
    let parts = sets_in-part c.args.from c.args.to text ∙ ap (λ ss. drop c.args.from (take c.args.to ss)) e in
    ap is_some_record
    (ap (λ ns. records_in edit c.args.from sets (map number_of ns)) (sym (drop_all c.loop-name.name-index c.deref-name-items.result.now c.loop-name-test.false))
    ∙ c.loop-name.invariant
    ∙ ap (λ ns. records_in edit c.args.from sets (map number_of ns)) c.deref-name-items.ensures.value
    ∙ ap (records_in edit c.args.from sets) (c.in_ok-names.ensures cells parts)
    ∙ ap (λ ss. records_in edit c.args.from ss (touched edit cells)) (sym parts)
    ∙ sym (records_of_names-in edit c.args.from cells (touched edit cells)))
