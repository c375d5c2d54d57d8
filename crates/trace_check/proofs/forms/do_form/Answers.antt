use Rattle.std.proofs.Common.{◌≡◌, map, ap, sym, ◌∙◌, refl}
use Rattle.std.specs.Prelude.{Some, None}
use Rattle.editor_model.specs.Values.{Do, Setq, In, WhenEq, SaveExcursion, SaveRestriction, SaveCurrentBuffer, InhibitHooks, InhibitReadOnly}
use Rattle.ek_types.specs.Listing.{items_of}
use Rattle.ek_call.specs.Meaning.{arg_of, call_of, form_of, joined}
use Rattle.ek_call.specs.declared.call.Arg.{Arg}
use Rattle.kernel_steps.proofs.Shapes.{do_is, setq_is, excursion_is, restriction_is, keep_buffer_is, no_hooks_is, read_only_off_is, when_is}
use Rattle.trace_check.proofs.forms.do_form.Goals as goal

pub returns-in-Do : goal.returns-in-Do
returns-in-Do g c = λ program.
    let form : form_of c.args.form ≡ Do (call_of c.in-Do.call) = ap form_of c.in-Do.is ∙ do_is c.in-Do.call in
    rw form (c.do_call.ensures program None refl)

pub returns-in-Setq : goal.returns-in-Setq
returns-in-Setq g c = λ program.
    let form : form_of c.args.form ≡ Setq c.in-Setq.name.0 (call_of c.in-Setq.call) = ap form_of c.in-Setq.is ∙ setq_is c.in-Setq.name c.in-Setq.call in
    rw form (c.do_call-in-Setq.ensures program (Some c.in-Setq.name.0) refl)

pub returns-in-Excursion : goal.returns-in-Excursion
returns-in-Excursion g c = λ program.
    let form : form_of c.args.form ≡ In SaveExcursion (joined (map form_of (items_of c.in-Excursion.forms))) = ap form_of c.in-Excursion.is ∙ excursion_is c.in-Excursion.forms in
    rw form (c.do_block.ensures program)

pub returns-in-Restriction : goal.returns-in-Restriction
returns-in-Restriction g c = λ program.
    let form : form_of c.args.form ≡ In SaveRestriction (joined (map form_of (items_of c.in-Restriction.forms))) = ap form_of c.in-Restriction.is ∙ restriction_is c.in-Restriction.forms in
    rw form (c.do_block-in-Restriction.ensures program)

pub returns-in-KeepBuffer : goal.returns-in-KeepBuffer
returns-in-KeepBuffer g c = λ program.
    let form : form_of c.args.form ≡ In SaveCurrentBuffer (joined (map form_of (items_of c.in-KeepBuffer.forms))) = ap form_of c.in-KeepBuffer.is ∙ keep_buffer_is c.in-KeepBuffer.forms in
    rw form (c.do_block-in-KeepBuffer.ensures program)

pub returns-in-NoHooks : goal.returns-in-NoHooks
returns-in-NoHooks g c = λ program.
    let form : form_of c.args.form ≡ In InhibitHooks (joined (map form_of (items_of c.in-NoHooks.forms))) = ap form_of c.in-NoHooks.is ∙ no_hooks_is c.in-NoHooks.forms in
    rw form (c.do_block-in-NoHooks.ensures program)

pub returns-in-ReadOnlyOff : goal.returns-in-ReadOnlyOff
returns-in-ReadOnlyOff g c = λ program.
    let form : form_of c.args.form ≡ In InhibitReadOnly (joined (map form_of (items_of c.in-ReadOnlyOff.forms))) = ap form_of c.in-ReadOnlyOff.is ∙ read_only_off_is c.in-ReadOnlyOff.forms in
    rw form (c.do_block-in-ReadOnlyOff.ensures program)

pub returns-in-WhenEq : goal.returns-in-WhenEq
returns-in-WhenEq g c = λ program.
    let forms = joined (map form_of (items_of c.in-WhenEq.forms)) in
    let second = c.in-WhenEq.pair.value.1 in
    let form : form_of c.args.form ≡ WhenEq (arg_of c.deref.result.now.0) (arg_of c.deref-in-WhenEq.result.now.1) forms =
    ap form_of c.in-WhenEq.is ∙ when_is c.in-WhenEq.pair c.in-WhenEq.forms
    ∙ ap (λ (pair : Arg × Arg). WhenEq (arg_of pair.0) (arg_of second) forms) (sym c.deref.ensures)
    ∙ ap (λ (pair : Arg × Arg). WhenEq (arg_of c.deref.result.now.0) (arg_of pair.1) forms) (sym c.deref-in-WhenEq.ensures) in
    rw form (c.do_when.ensures program)
