use Rattle.std.proofs.Common.{true, false, [], ◌∷◌, ◌≡◌, ◌+◌, ◌<◌, map, drop, sym, ap, ◌∙◌, refl, arith, rules, Err, Ok}
use Rattle.std.specs.Prelude.{Some, None}
use Rattle.ek_types.specs.Listing.{items_of}
use Rattle.ek_call.specs.declared.call.Arg.{Arg}
use Rattle.ek_call.specs.Meaning.{arg_of, call_of, form_of, joined, view}
use Rattle.editor_model.specs.Values.{Do, Setq, In, WhenEq, SaveExcursion, SaveRestriction, SaveCurrentBuffer, InhibitHooks, InhibitReadOnly}
use Rattle.plain_machine.specs.Items.{DoForm}
use Rattle.kernel_steps.specs.Blocks.{block_of}
use Rattle.kernel_steps.specs.Sizes.{form_size, forms_size}
use Rattle.kernel_steps.specs.HostCalls.{CallsSince}
use Rattle.kernel_steps.specs.Work.{working, at_item, onwards, outwards}
use Rattle.kernel_steps.specs.Worlds.{Hosted, World, world, IsReady}
use Rattle.plain_machine.specs.State.{State}
use Rattle.kernel_steps.specs.declared.stop.Halt.TheVariants as halt
use Rattle.kernel_steps.specs.declared.stop.Stop.TheVariants as stop
use Rattle.kernel_steps.proofs.Results.{stopped_by}
use Rattle.kernel_steps.proofs.Works.{keeps_self, keeps_then, stays_then, ready_then, may_then, item_wants, middle, work_behind, work_left, work_done, work_unasked, went_self, went_of, went_then, path_left}
use Rattle.kernel_steps.proofs.Blocks.{opened_ready, opened_depth, block_work, assigned_work, assigned_wants}
use Rattle.kernel_steps.proofs.Bodies.{next_form, no_form, form_within, form_path, none_went, form_falls, block_falls, level_falls}
use Rattle.kernel_steps.proofs.Calling.{when_void, when_equal, when_other}
use Rattle.plain_machine.specs.Items.{MakeCall, MakeChange, CommitChange, Hooks, Calm, GiveAnswer, Nowhere}
use Rattle.plain_machine.specs.Lines.{OfBefore}
use Rattle.ek_types.specs.Property.{number_of}
use Rattle.ek_call.specs.Meaning.{reply_of}
use Rattle.ek_call.specs.Primitives.{prim_of}
use Rattle.ek_call.specs.Faults.{fault_of}
use Rattle.editor_model.specs.Answers.{Done, Failed}
use Rattle.prim_changes.specs.Meaning.{change_of}
use Rattle.kernel_steps.specs.Changes.{ends_of}
use Rattle.kernel_steps.specs.Handlers.{around, kind_of}
use Rattle.kernel_steps.specs.Work.{lifted, call_form, target_of}
use Rattle.kernel_steps.proofs.Works.{work_stopped, work_before, path_behind, path_before}
use Rattle.kernel_steps.proofs.Calling.{form_went, form_void, form_middle, keeps_same}
use Rattle.kernel_steps.specs.Told.{told_of}
use Rattle.kernel_steps.proofs.Changing.{answer_behind, commit_behind, calm_behind, changes_went, nothing_went, barred_went, quiet_went, begun_went, failed_went, done_went, inhibited_went, around_wants, hooks_went, unheard_went, none_mapped, calm_went, keeps_behind, around_keeps, inhibited_ready, inhibited_may}
use Rattle.plain_machine.specs.Items.{Enter}
use Rattle.text_model.proofs.Lists.{drop_at, mapped_at}
use Rattle.std.proofs.lemmas.List.{length-map, drop_all}
use Rattle.kernel_steps.specs.Handlers.{ended_work}
use Rattle.kernel_steps.proofs.Handling.{hooks_behind, not_faulted, hook_faulted, went_same, hook_went, hooks_over, exit_behind, entry_told, entry_unwritten, scoped, inside_may, ran_as, ran_keeps, ran_stopped, leave_told, leave_unwritten, leave_keeps, entered_ready}
use Rattle.kernel_steps.proofs.Waiting.{wait_nests, deletion_nests, killing_nests, eligible_running, running_asked, nest_enters, heard_work, wait_behind, kills_behind, deletes_behind, refused_went, waits_went, deletes_went, kills_went, killed_went, answers_went, spent_went as waits_spent}
use Rattle.kernel_steps.specs.Waits.{Passes, deleting}
use Rattle.kernel_steps.specs.Worlds.{Stands}
use Rattle.editor_model.specs.Values.{AcceptProcessOutput, DeleteProcess, KillBuffer, Nil}
use Rattle.editor_model.specs.Arguments.{arg, buffer_of}
use Rattle.plain_machine.specs.Arguments.{is_running, running_in}
use Rattle.plain_machine.specs.Items.{Wait, Delete, KillBuffer as KillsBuffer}
use Rattle.wait_loop.specs.KeptWaits.{noted}
use Rattle.std.specs.Prelude.{IsSome}
use Rattle.std.proofs.lemmas.Bool.{ltb-true, lt-ltb}
use Rattle.std.proofs.Math.Seq.{drop-cons}
use Rattle.std.proofs.Common.{get_or, add-one}
use Rattle.kernel_steps.proofs.Telling.{by_names}
use Rattle.plain_machine.specs.Natives.{is_callable}
use Rattle.plain_machine.specs.Handling.{native_call}
use Rattle.kernel_steps.proofs.Defaults.{item_may, default_keeps, default_went, default_wants, script_went, native_went, asks_went as native_asks, over_went, spent_went, called_behind, made_went, barred_call, replied_work, body_within, body_falls}
use Rattle.editor_model.specs.Answers.{Changes, Quiet, Nothing, Barred}
use Rattle.plain_machine.specs.Items.{Called, ToNative}
use Rattle.handler_code.specs.Calls.{call_asked}
use Rattle.kernel_steps.proofs.Evaluating.{map_more}
use Rattle.std.proofs.Common.{◌++◌, ◌≤◌, length-append}
use Rattle.kernel_steps.proofs.Bodies.{enter_falls}
use Rattle.plain_machine.specs.Lines.{Entered, Left}
use Rattle.plain_machine.specs.Items.{Exit}
use Rattle.kernel_steps.specs.Handlers.{code_of}
use Rattle.kernel_steps.proofs.Works.{work_wants}
use Rattle.std.proofs.Common.{◌-◌, length, option_map}
use Rattle.kernel_steps.proofs.+run.Given.{Over}
use Rattle.kernel_steps.proofs.Shapes.{nil_is, do_is, setq_is, excursion_is, restriction_is, keep_buffer_is, no_hooks_is, read_only_off_is, when_is}
use Rattle.kernel_steps.proofs.+run.Goals as goal

-- a world of these
abbrev at : (g : Over) → g.row.H.Denot → g.row.M.Denot → g.row.H.Denot → g.row.K.Denot → World
at g start kernel host sink = world g.M.Kernel.state g.H.Host.state g.H.Host.made start kernel host (g.K.Sink.state sink)

pub forms::run_forms-loop-i-init : goal.forms::run_forms-loop-i-init
forms::run_forms-loop-i-init g t c = record {
  went = λ start. went_self (g.P.Program.meant c.args.program.now) (at g start c.args.kernel.now c.args.host.now c.args.sink.now) _;
  keeps = λ start. keeps_self (at g start c.args.kernel.now c.args.host.now c.args.sink.now) c.requires.hosted;
}

pub forms::run_forms-run_form-requires : goal.forms::run_forms-run_form-requires
forms::run_forms-run_form-requires g t c =
    let k = c.loop-i.invariant.keeps c.args.host.now in
    let within = form_within (items_of c.args.forms.now) c.loop-i.i c.at.result.now c.at.ensures in
    search (
      rules,
      ready_then (at g c.args.host.now c.args.kernel.now c.args.host.now c.args.sink.now) (at g c.args.host.now c.loop-i.kernel c.loop-i.host c.loop-i.sink) c.requires k,
      form_falls (g.P.Program.meant c.args.program.now) (g.M.Kernel.state c.loop-i.kernel) (g.M.Kernel.state c.args.kernel.now) (forms_size (joined (map form_of (items_of c.args.forms.now)))) (form_size (form_of c.at.result.now)) t k.depth within c.decreases,
    )

pub forms::run_forms-returns-in_err-run_form : goal.forms::run_forms-returns-in_err-run_form
forms::run_forms-returns-in_err-run_form g t c = λ start.
    let program = g.P.Program.meant c.args.program.now in
    let before = at g start c.args.kernel.now c.args.host.now c.args.sink.now in
    let mid = at g start c.loop-i.kernel c.loop-i.host c.loop-i.sink in
    let after = at g start c.run_form.new.kernel c.run_form.new.host c.run_form.new.sink in
    let h = c.in_err-run_form.field-0.0 in
    let next = next_form (items_of c.args.forms.now) c.loop-i.i c.at.result.now c.at.ensures in
    let done = c.in_err-run_form.ensures start in
    rw (stopped_by c.from_residual.result h c.from_residual.ensures) (record {
      path = path_left program h before after _ _ onwards outwards (form_path program (Err h) before mid after _ _ _ (rw next at (c.loop-i.invariant.went start)) done.path);
      stays = stays_then {T = Unit {0}} (Err h) before mid after (c.loop-i.invariant.keeps start) done.stays;
    })

pub forms::run_forms-loop-i-preserved : goal.forms::run_forms-loop-i-preserved
forms::run_forms-loop-i-preserved g t c =
    let program = g.P.Program.meant c.args.program.now in
    let next = next_form (items_of c.args.forms.now) c.loop-i.i c.at.result.now c.at.ensures in
    record {
      went = λ start.
          let before = at g start c.args.kernel.now c.args.host.now c.args.sink.now in
          let mid = at g start c.loop-i.kernel c.loop-i.host c.loop-i.sink in
          let after = at g start c.run_form.new.kernel c.run_form.new.host c.run_form.new.sink in
          went_of program c.in_ok-run_form.field-0 before after _ _ outwards (form_path program (Ok c.in_ok-run_form.field-0) before mid after _ _ _ (rw next at (c.loop-i.invariant.went start)) (c.in_ok-run_form.ensures start).path);
      keeps = λ start.
          let before = at g start c.args.kernel.now c.args.host.now c.args.sink.now in
          let mid = at g start c.loop-i.kernel c.loop-i.host c.loop-i.sink in
          let after = at g start c.run_form.new.kernel c.run_form.new.host c.run_form.new.sink in
          keeps_then before mid after (c.loop-i.invariant.keeps start) (c.in_ok-run_form.ensures start).stays;
    }

pub forms::run_forms-returns : goal.forms::run_forms-returns
forms::run_forms-returns g t c = λ start.
    let program = g.P.Program.meant c.args.program.now in
    let before = at g start c.args.kernel.now c.args.host.now c.args.sink.now in
    let after = at g start c.loop-i.kernel c.loop-i.host c.loop-i.sink in
    let none = no_form (items_of c.args.forms.now) c.loop-i.i (omega arith) in
    let unit : Unit {0} = tt in
    work_done program unit before after _ onwards outwards (went_then program before after after _ _ _ (rw none at (c.loop-i.invariant.went start)) (none_went program after)) (c.loop-i.invariant.keeps start)

pub forms::run_form-returns-in_err-run_call-in-Do : goal.forms::run_form-returns-in_err-run_call-in-Do
forms::run_form-returns-in_err-run_call-in-Do g t c = λ start.
    let form : form_of c.args.form.now ≡ Do (call_of c.in-Do.call) = ap form_of c.in-Do.is ∙ do_is c.in-Do.call in
    let h = c.in_err-run_call-in-Do.field-0.0 in
    rw (stopped_by c.from_residual.result h c.from_residual.ensures, form)
    (work_left (g.P.Program.meant c.args.program.now) h _ _ _ _ onwards outwards (c.in_err-run_call-in-Do.ensures start None))

pub forms::run_form-returns-in_err-value-in-Setq : goal.forms::run_form-returns-in_err-value-in-Setq
forms::run_form-returns-in_err-value-in-Setq g t c = λ start.
    let form : form_of c.args.form.now ≡ Setq c.in-Setq.name.0 (call_of c.in-Setq.call) = ap form_of c.in-Setq.is ∙ setq_is c.in-Setq.name c.in-Setq.call in
    let h = c.in_err-value-in-Setq.field-0.0 in
    rw (stopped_by c.from_residual-in_err-value-in-Setq.result h c.from_residual-in_err-value-in-Setq.ensures, form)
    (work_left (g.P.Program.meant c.args.program.now) h _ _ _ _ onwards outwards (c.in_err-value-in-Setq.ensures start (Some c.in-Setq.name.0)))

pub forms::run_form-returns-in_err-assign-in-Setq : goal.forms::run_form-returns-in_err-assign-in-Setq
forms::run_form-returns-in_err-assign-in-Setq g t c = λ start.
    let form : form_of c.args.form.now ≡ Setq c.in-Setq.name.0 (call_of c.in-Setq.call) = ap form_of c.in-Setq.is ∙ setq_is c.in-Setq.name c.in-Setq.call in
    let program = g.P.Program.meant c.args.program.now in
    let before = at g start c.args.kernel.now c.args.host.now c.args.sink.now in
    let mid = at g start c.run_call-in-Setq.new.kernel c.run_call-in-Setq.new.host c.run_call-in-Setq.new.sink in
    let made = c.in_ok-value-in-Setq.ensures start (Some c.in-Setq.name.0) in
    rw (stopped_by c.from_residual-in_err-assign-in-Setq.result (halt.Stop stop.NoMemory) c.from_residual-in_err-assign-in-Setq.ensures, form, c.in_err-assign-in-Setq.ensures.err)
    (assigned_wants program before mid c.in-Setq.name.0 (view c.in_ok-value-in-Setq.value) _ (went_of program c.in_ok-value-in-Setq.value before mid _ _ outwards made.path) made.stays)

pub forms::run_form-returns-in_ok-run_call-in-Do : goal.forms::run_form-returns-in_ok-run_call-in-Do
forms::run_form-returns-in_ok-run_call-in-Do g t c = λ start.
    let form : form_of c.args.form.now ≡ Do (call_of c.in-Do.call) = ap form_of c.in-Do.is ∙ do_is c.in-Do.call in
    let program = g.P.Program.meant c.args.program.now in
    let before = at g start c.args.kernel.now c.args.host.now c.args.sink.now in
    let after = at g start c.run_call.new.kernel c.run_call.new.host c.run_call.new.sink in
    let made = c.in_ok-run_call-in-Do.ensures start None in
    let unit : Unit {0} = tt in
    rw form (work_done program unit before after _ onwards outwards (went_of program c.in_ok-run_call-in-Do.field-0 before after _ _ outwards made.path) made.stays)

pub forms::run_form-returns-in_ok-assign-in-Setq : goal.forms::run_form-returns-in_ok-assign-in-Setq
forms::run_form-returns-in_ok-assign-in-Setq g t c = λ start.
    let form : form_of c.args.form.now ≡ Setq c.in-Setq.name.0 (call_of c.in-Setq.call) = ap form_of c.in-Setq.is ∙ setq_is c.in-Setq.name c.in-Setq.call in
    let program = g.P.Program.meant c.args.program.now in
    let before = at g start c.args.kernel.now c.args.host.now c.args.sink.now in
    let mid = at g start c.run_call-in-Setq.new.kernel c.run_call-in-Setq.new.host c.run_call-in-Setq.new.sink in
    let made = c.in_ok-value-in-Setq.ensures start (Some c.in-Setq.name.0) in
    rw form
    (assigned_work program before mid c.in-Setq.name.0 (view c.in_ok-value-in-Setq.value) _ (g.M.Kernel.state c.assign.new.self) c.in_ok-assign-in-Setq.ensures.ok (went_of program c.in_ok-value-in-Setq.value before mid _ _ outwards made.path) made.stays)

pub forms::run_form-returns-in-Excursion : goal.forms::run_form-returns-in-Excursion
forms::run_form-returns-in-Excursion g t c = λ start.
    let form : form_of c.args.form.now ≡ In SaveExcursion (joined (map form_of (items_of c.in-Excursion.forms))) = ap form_of c.in-Excursion.is ∙ excursion_is c.in-Excursion.forms in
    rw form (c.run_block.ensures start)

pub forms::run_form-returns-in-Restriction : goal.forms::run_form-returns-in-Restriction
forms::run_form-returns-in-Restriction g t c = λ start.
    let form : form_of c.args.form.now ≡ In SaveRestriction (joined (map form_of (items_of c.in-Restriction.forms))) = ap form_of c.in-Restriction.is ∙ restriction_is c.in-Restriction.forms in
    rw form (c.run_block-in-Restriction.ensures start)

pub forms::run_form-returns-in-KeepBuffer : goal.forms::run_form-returns-in-KeepBuffer
forms::run_form-returns-in-KeepBuffer g t c = λ start.
    let form : form_of c.args.form.now ≡ In SaveCurrentBuffer (joined (map form_of (items_of c.in-KeepBuffer.forms))) = ap form_of c.in-KeepBuffer.is ∙ keep_buffer_is c.in-KeepBuffer.forms in
    rw form (c.run_block-in-KeepBuffer.ensures start)

pub forms::run_form-returns-in-NoHooks : goal.forms::run_form-returns-in-NoHooks
forms::run_form-returns-in-NoHooks g t c = λ start.
    let form : form_of c.args.form.now ≡ In InhibitHooks (joined (map form_of (items_of c.in-NoHooks.forms))) = ap form_of c.in-NoHooks.is ∙ no_hooks_is c.in-NoHooks.forms in
    rw form (c.run_block-in-NoHooks.ensures start)

pub forms::run_form-returns-in-ReadOnlyOff : goal.forms::run_form-returns-in-ReadOnlyOff
forms::run_form-returns-in-ReadOnlyOff g t c = λ start.
    let form : form_of c.args.form.now ≡ In InhibitReadOnly (joined (map form_of (items_of c.in-ReadOnlyOff.forms))) = ap form_of c.in-ReadOnlyOff.is ∙ read_only_off_is c.in-ReadOnlyOff.forms in
    rw form (c.run_block-in-ReadOnlyOff.ensures start)

pub forms::run_form-returns-in-WhenEq : goal.forms::run_form-returns-in-WhenEq
forms::run_form-returns-in-WhenEq g t c = λ start.
    let forms = joined (map form_of (items_of c.in-WhenEq.forms)) in
    let second = c.in-WhenEq.pair.value.1 in
    let form : form_of c.args.form.now ≡ WhenEq (arg_of c.deref.result.now.0) (arg_of c.deref-in-WhenEq.result.now.1) forms =
    ap form_of c.in-WhenEq.is ∙ when_is c.in-WhenEq.pair c.in-WhenEq.forms
    ∙ ap (λ (pair : Arg × Arg). WhenEq (arg_of pair.0) (arg_of second) forms) (sym c.deref.ensures)
    ∙ ap (λ (pair : Arg × Arg). WhenEq (arg_of c.deref.result.now.0) (arg_of pair.1) forms) (sym c.deref-in-WhenEq.ensures) in
    rw form (c.run_when.ensures start)

pub forms::run_block-returns-in_err-kept : goal.forms::run_block-returns-in_err-kept
forms::run_block-returns-in_err-kept g t c = λ start.
    rw (stopped_by c.from_residual.result (halt.Stop stop.NoMemory) c.from_residual.ensures, c.in_err-kept.ensures.err)
    (item_wants (g.P.Program.meant c.args.program.now) (at g start c.args.kernel.now c.args.host.now c.args.sink.now) (DoForm (In (block_of c.args.block) (joined (map form_of (items_of c.args.forms.now))))) onwards c.requires.hosted (middle (λ s rest. (tt, tt))))

pub forms::run_block-run_forms-ran-requires : goal.forms::run_block-run_forms-ran-requires
forms::run_block-run_forms-ran-requires g t c =
    let s = g.M.Kernel.state c.args.kernel.now in
    let kind = block_of c.args.block in
    let ready : IsReady (g.M.Kernel.state c.open.new.self) (g.H.Host.state c.args.host.now).kills = rw c.in_ok-kept.ensures.ok (opened_ready kind s (g.H.Host.state c.args.host.now).kills c.requires) in
    search (rules, ready, block_falls (g.P.Program.meant c.args.program.now) (g.M.Kernel.state c.open.new.self) s (forms_size (joined (map form_of (items_of c.args.forms.now)))) t (ap (λ (s : State). s.depth) c.in_ok-kept.ensures.ok ∙ opened_depth kind s) c.decreases)

pub forms::run_block-returns : goal.forms::run_block-returns
forms::run_block-returns g t c = λ start.
    let before = at g start c.args.kernel.now c.args.host.now c.args.sink.now in
    let after = at g start c.run_forms-ran.new.kernel c.run_forms-ran.new.host c.run_forms-ran.new.sink in
    rw (c.restore.ensures, c.in_ok-kept.ensures.kept)
    (block_work (g.P.Program.meant c.args.program.now) (block_of c.args.block) (joined (map form_of (items_of c.args.forms.now))) before c.run_forms-ran.result after (rw c.in_ok-kept.ensures.ok at (c.run_forms-ran.ensures start)))

pub forms::run_when-returns-in-None : goal.forms::run_when-returns-in-None
forms::run_when-returns-in-None g t c = λ start.
    let program = g.P.Program.meant c.args.program.now in
    let before = at g start c.args.kernel.now c.args.host.now c.args.sink.now in
    let kills = (g.H.Host.state c.args.host.now).kills in
    work_behind program (Err c.refuse.result) before before _ _ _ onwards outwards
    (when_void program before (arg_of c.args.a.now) (arg_of c.args.b.now) (joined (map form_of (items_of c.args.forms.now))) (sym c.in-None.ensures)) (keeps_self before c.requires.hosted)
    (work_unasked program (g.K.Sink.state c.args.sink.now) (g.K.Sink.state c.refuse.new.sink) (CallsSince g.H.Host.state g.H.Host.made start c.args.host.now) (g.M.Kernel.state c.args.kernel.now) (g.M.Kernel.state c.args.kernel.now) kills (Err c.refuse.result) _ onwards outwards (c.refuse.ensures kills c.requires.hosted))

pub forms::run_when-returns-in-Some-true : goal.forms::run_when-returns-in-Some-true
forms::run_when-returns-in-Some-true g t c = λ start.
    let program = g.P.Program.meant c.args.program.now in
    let before = at g start c.args.kernel.now c.args.host.now c.args.sink.now in
    work_behind program c.run_forms.result before before _ _ _ onwards outwards
    (when_equal program before (arg_of c.args.a.now) (arg_of c.args.b.now) (joined (map form_of (items_of c.args.forms.now))) (sym (rw c.in-Some-true.field-0-test at c.in-Some-true.ensures))) (keeps_self before c.requires.hosted)
    (c.run_forms.ensures start)

pub forms::run_when-returns-in-Some-false : goal.forms::run_when-returns-in-Some-false
forms::run_when-returns-in-Some-false g t c = λ start.
    let program = g.P.Program.meant c.args.program.now in
    let before = at g start c.args.kernel.now c.args.host.now c.args.sink.now in
    let unit : Unit {0} = tt in
    work_done program unit before before _ onwards outwards (when_other program before (arg_of c.args.a.now) (arg_of c.args.b.now) (joined (map form_of (items_of c.args.forms.now))) (sym (rw c.in-Some-false.field-0-test at c.in-Some-false.ensures))) (keeps_self before c.requires.hosted)

-- work that asked nothing, of whatever was asked before
pub calls::call-returns-in-OnlyAsks : goal.calls::call-returns-in-OnlyAsks
calls::call-returns-in-OnlyAsks g t c = λ start target.
    let kills = (g.H.Host.state c.args.host.now).kills in
    work_unasked (g.P.Program.meant c.args.program.now) (g.K.Sink.state c.args.sink.now) (g.K.Sink.state c.ask_editor.new.sink) (CallsSince g.H.Host.state g.H.Host.made start c.args.host.now) (g.M.Kernel.state c.args.kernel.now) (g.M.Kernel.state c.args.kernel.now) kills c.ask_editor.result _ _ _ (c.ask_editor.ensures kills c.requires.hosted target)

pub calls::call-returns-in-SetsState : goal.calls::call-returns-in-SetsState
calls::call-returns-in-SetsState g t c = λ start target.
    let kills = (g.H.Host.state c.args.host.now).kills in
    work_unasked (g.P.Program.meant c.args.program.now) (g.K.Sink.state c.args.sink.now) (g.K.Sink.state c.set_editor.new.sink) (CallsSince g.H.Host.state g.H.Host.made start c.args.host.now) (g.M.Kernel.state c.args.kernel.now) (g.M.Kernel.state c.set_editor.new.kernel) kills c.set_editor.result _ _ _ (c.set_editor.ensures kills c.requires.hosted target)

pub forms::run_call-returns-in_err-values : goal.forms::run_call-returns-in_err-values
forms::run_call-returns-in_err-values g t c = λ start name.
    rw (stopped_by c.from_residual.result (halt.Stop stop.NoMemory) c.from_residual.ensures, c.in_err-values.ensures.state)
    (item_wants (g.P.Program.meant c.args.program.now) (at g start c.args.kernel.now c.args.host.now c.args.sink.now) (DoForm (call_form name (call_of c.args.form.now))) _ c.requires.hosted (form_middle name (call_of c.args.form.now)))

pub forms::run_call-returns-in-None : goal.forms::run_call-returns-in-None
forms::run_call-returns-in-None g t c = λ start name.
    let program = g.P.Program.meant c.args.program.now in
    let before = at g start c.args.kernel.now c.args.host.now c.args.sink.now in
    let kills = (g.H.Host.state c.args.host.now).kills in
    let hosted : Hosted (g.M.Kernel.state c.values.new.kernel).processes kills = rw c.in_ok-values.ensures.state c.requires.hosted in
    rw c.in_ok-values.ensures.state
    (work_behind program (Err c.refuse.result) before before _ _ _ _ outwards
    (form_void program before name (call_of c.args.form.now) (sym (rw c.in-None.is at c.in_ok-values.ensures.values))) (keeps_self before c.requires.hosted)
    (work_left program c.refuse.result _ _ _ onwards _ outwards
    (work_unasked program (g.K.Sink.state c.args.sink.now) (g.K.Sink.state c.refuse.new.sink) (CallsSince g.H.Host.state g.H.Host.made start c.args.host.now) (g.M.Kernel.state c.args.kernel.now) (g.M.Kernel.state c.args.kernel.now) kills (Err c.refuse.result) _ onwards outwards (rw c.in_ok-values.ensures.state at (c.refuse.ensures kills hosted)))))

pub forms::run_call-returns-in-Some : goal.forms::run_call-returns-in-Some
forms::run_call-returns-in-Some g t c = λ start name.
    let program = g.P.Program.meant c.args.program.now in
    let before = at g start c.args.kernel.now c.args.host.now c.args.sink.now in
    rw c.give_room.ensures
    (work_behind program c.call-answer.result before before _ _ _ _ outwards
    (form_went program before name (call_of c.args.form.now) (map view (items_of c.in-Some.args)) (sym (rw c.in-Some.is at c.in_ok-values.ensures.values))) (keeps_self before c.requires.hosted)
    (rw c.in_ok-values.ensures.state at (c.call-answer.ensures start (target_of name))))

-- CHANGES
pub changes::change_text-returns-in_err-change : goal.changes::change_text-returns-in_err-change
changes::change_text-returns-in_err-change g t c = λ start target.
    rw (stopped_by c.from_residual.result (halt.Stop stop.NoMemory) c.from_residual.ensures)
    (item_wants (g.P.Program.meant c.args.program.now) (at g start c.args.kernel.now c.args.host.now c.args.sink.now) (MakeCall (prim_of c.args.prim) (map view (items_of c.args.args.now)) target) _ c.requires.ready.hosted (middle (λ s rest. (tt, tt))))

pub changes::change_text-returns-in_err-make_change-in-Change : goal.changes::change_text-returns-in_err-make_change-in-Change
changes::change_text-returns-in_err-make_change-in-Change g t c = λ start target.
    let program = g.P.Program.meant c.args.program.now in
    let before = at g start c.args.kernel.now c.args.host.now c.args.sink.now in
    let after = at g start c.make_change.new.kernel c.make_change.new.host c.make_change.new.sink in
    let h = c.in_err-make_change-in-Change.field-0.0 in
    let change = change_of c.in-Change.change in
    rw (stopped_by c.from_residual-in_err-make_change-in-Change.result h c.from_residual-in_err-make_change-in-Change.ensures)
    (work_left program h before after _ _ _ outwards
    (work_behind program (Err h) before before after _ _ _ outwards
    (changes_went program before (prim_of c.args.prim) (map view (items_of c.args.args.now)) target change c.requires.manner (rw c.in-Change.is at c.in_ok-change.ensures)) (keeps_self before c.requires.ready.hosted)
    (work_before program (Err h) before after (λ rest. GiveAnswer change.reply target ∷ rest) (at_item (MakeChange change)) onwards outwards (answer_behind change.reply target) (c.in_err-make_change-in-Change.ensures start))))

pub changes::change_text-returns-in_ok-make_change-in-Change : goal.changes::change_text-returns-in_ok-make_change-in-Change
changes::change_text-returns-in_ok-make_change-in-Change g t c = λ start target.
    let program = g.P.Program.meant c.args.program.now in
    let before = at g start c.args.kernel.now c.args.host.now c.args.sink.now in
    let mid = at g start c.make_change.new.kernel c.make_change.new.host c.make_change.new.sink in
    let after = at g start c.make_change.new.kernel c.make_change.new.host c.tell.new.sink in
    let change = change_of c.in-Change.change in
    let made = c.in_ok-make_change-in-Change.ensures start in
    let kills = (g.H.Host.state c.make_change.new.host).kills in
    let known = g.M.Kernel.state c.make_change.new.kernel in
    let first = work_before program (Ok c.in_ok-make_change-in-Change.field-0) before mid (λ rest. GiveAnswer change.reply target ∷ rest) (at_item (MakeChange change)) onwards outwards (answer_behind change.reply target) made in
    let went = went_then program before before mid _ _ _ (changes_went program before (prim_of c.args.prim) (map view (items_of c.args.args.now)) target change c.requires.manner (rw c.in-Change.is at c.in_ok-change.ensures))
    (went_of program c.in_ok-make_change-in-Change.field-0 before mid _ _ _ first.path) in
    work_behind program c.tell.result before mid after _ _ _ outwards went made.stays
    (work_unasked program (g.K.Sink.state c.make_change.new.sink) (g.K.Sink.state c.tell.new.sink) (CallsSince g.H.Host.state g.H.Host.made start c.make_change.new.host) known known kills c.tell.result _ _ outwards (c.tell.ensures kills made.stays.hosted target))

pub changes::change_text-returns-in_err-commit_quiet-in-Quiet : goal.changes::change_text-returns-in_err-commit_quiet-in-Quiet
changes::change_text-returns-in_err-commit_quiet-in-Quiet g t c = λ start target.
    rw (stopped_by c.from_residual-in_err-commit_quiet-in-Quiet.result (halt.Stop stop.NoMemory) c.from_residual-in_err-commit_quiet-in-Quiet.ensures, c.in_err-commit_quiet-in-Quiet.ensures.err)
    (item_wants (g.P.Program.meant c.args.program.now) (at g start c.args.kernel.now c.args.host.now c.args.sink.now) (MakeCall (prim_of c.args.prim) (map view (items_of c.args.args.now)) target) _ c.requires.ready.hosted (middle (λ s rest. (tt, tt))))

pub changes::change_text-returns-in_ok-commit_quiet-in-Quiet : goal.changes::change_text-returns-in_ok-commit_quiet-in-Quiet
changes::change_text-returns-in_ok-commit_quiet-in-Quiet g t c = λ start target.
    let program = g.P.Program.meant c.args.program.now in
    let before = at g start c.args.kernel.now c.args.host.now c.args.sink.now in
    let mid = at g start c.commit_quiet.new.self c.args.host.now c.args.sink.now in
    let after = at g start c.commit_quiet.new.self c.args.host.now c.tell-in-Quiet.new.sink in
    let change = change_of c.in-Quiet.change in
    let kills = (g.H.Host.state c.args.host.now).kills in
    let known = g.M.Kernel.state c.commit_quiet.new.self in
    let is = c.in_ok-commit_quiet-in-Quiet.ensures.ok in
    let kept = keeps_same before known c.requires.ready.hosted (ap (λ (s : State). s.processes) is) (ap (λ (s : State). s.depth) is) (ap (λ (s : State). s.inhibited) is) (ap (λ (s : State). s.asked) is) in
    work_behind program c.tell-in-Quiet.result before mid after _ _ _ outwards
    (quiet_went program before known (prim_of c.args.prim) (map view (items_of c.args.args.now)) target change c.requires.manner (rw c.in-Quiet.is at c.in_ok-change.ensures) is) kept
    (work_unasked program (g.K.Sink.state c.args.sink.now) (g.K.Sink.state c.tell-in-Quiet.new.sink) (CallsSince g.H.Host.state g.H.Host.made start c.args.host.now) known known kills c.tell-in-Quiet.result _ _ outwards (c.tell-in-Quiet.ensures kills kept.hosted target))

pub changes::change_text-returns-in-Nothing : goal.changes::change_text-returns-in-Nothing
changes::change_text-returns-in-Nothing g t c = λ start target.
    let program = g.P.Program.meant c.args.program.now in
    let before = at g start c.args.kernel.now c.args.host.now c.args.sink.now in
    let kills = (g.H.Host.state c.args.host.now).kills in
    let known = g.M.Kernel.state c.args.kernel.now in
    work_behind program c.tell-in-Nothing.result before before (at g start c.args.kernel.now c.args.host.now c.tell-in-Nothing.new.sink) _ _ _ outwards
    (nothing_went program before (prim_of c.args.prim) (map view (items_of c.args.args.now)) target (view c.in-Nothing.value) c.requires.manner (rw c.in-Nothing.is at c.in_ok-change.ensures)) (keeps_self before c.requires.ready.hosted)
    (work_unasked program (g.K.Sink.state c.args.sink.now) (g.K.Sink.state c.tell-in-Nothing.new.sink) (CallsSince g.H.Host.state g.H.Host.made start c.args.host.now) known known kills c.tell-in-Nothing.result _ _ outwards (c.tell-in-Nothing.ensures kills c.requires.ready.hosted target))

pub changes::change_text-returns-in-Fault : goal.changes::change_text-returns-in-Fault
changes::change_text-returns-in-Fault g t c = λ start target.
    let program = g.P.Program.meant c.args.program.now in
    let before = at g start c.args.kernel.now c.args.host.now c.args.sink.now in
    let kills = (g.H.Host.state c.args.host.now).kills in
    let known = g.M.Kernel.state c.args.kernel.now in
    work_behind program (Err c.refuse.result) before before (at g start c.args.kernel.now c.args.host.now c.refuse.new.sink) _ _ _ outwards
    (barred_went program before (prim_of c.args.prim) (map view (items_of c.args.args.now)) target (fault_of c.in-Fault.fault) c.requires.manner (rw c.in-Fault.is at c.in_ok-change.ensures)) (keeps_self before c.requires.ready.hosted)
    (work_left program c.refuse.result _ _ _ onwards _ outwards
    (work_unasked program (g.K.Sink.state c.args.sink.now) (g.K.Sink.state c.refuse.new.sink) (CallsSince g.H.Host.state g.H.Host.made start c.args.host.now) known known kills (Err c.refuse.result) _ onwards outwards (c.refuse.ensures kills c.requires.ready.hosted)))

pub changes::make_change-returns : goal.changes::make_change-returns
changes::make_change-returns g t c = λ start.
    let program = g.P.Program.meant c.args.program.now in
    let change = change_of c.args.change.now in
    let before = at g start c.args.kernel.now c.args.host.now c.args.sink.now in
    let known = g.M.Kernel.state c.keep_ends.new.self in
    let is = c.in_ok-keep_ends.ensures.ok in
    let kept = keeps_same (at g start c.args.kernel.now c.args.host.now c.args.sink.now) known c.requires.hosted (ap (λ (s : State). s.processes) is) (ap (λ (s : State). s.depth) is) (ap (λ (s : State). s.inhibited) is) (ap (λ (s : State). s.asked) is) in
    let mid = at g start c.keep_ends.new.self c.args.host.now c.args.sink.now in
    let late = at g start c.run_bracket.new.kernel c.run_bracket.new.host c.run_bracket.new.sink in
    let after = at g start c.commit_change.new.kernel c.commit_change.new.host c.commit_change.new.sink in
    let hooks = c.in_ok-run_bracket.ensures start in
    let first = work_before program (Ok c.in_ok-run_bracket.field-0) mid late (λ rest. CommitChange change ∷ rest) (around (OfBefore change.buffer) (ends_of change.from change.to)) onwards outwards (commit_behind change) hooks in
    work_behind program c.commit_change.result before late after _ _ onwards outwards
    (went_then program before mid late _ _ _ (begun_went program before known change is) (went_of program c.in_ok-run_bracket.field-0 mid late _ _ _ first.path)) (keeps_then before mid late kept hooks.stays)
    (c.commit_change.ensures start)

pub changes::make_change-returns-in_err-keep_ends : goal.changes::make_change-returns-in_err-keep_ends
changes::make_change-returns-in_err-keep_ends g t c = λ start.
    rw (stopped_by c.from_residual.result (halt.Stop stop.NoMemory) c.from_residual.ensures, c.in_err-keep_ends.ensures.err)
    (item_wants (g.P.Program.meant c.args.program.now) (at g start c.args.kernel.now c.args.host.now c.args.sink.now) (MakeChange (change_of c.args.change.now)) onwards c.requires.hosted (middle (λ s rest. (tt, tt))))

pub changes::make_change-returns-in_err-run_bracket : goal.changes::make_change-returns-in_err-run_bracket
changes::make_change-returns-in_err-run_bracket g t c = λ start.
    let program = g.P.Program.meant c.args.program.now in
    let change = change_of c.args.change.now in
    let before = at g start c.args.kernel.now c.args.host.now c.args.sink.now in
    let known = g.M.Kernel.state c.keep_ends.new.self in
    let is = c.in_ok-keep_ends.ensures.ok in
    let kept = keeps_same (at g start c.args.kernel.now c.args.host.now c.args.sink.now) known c.requires.hosted (ap (λ (s : State). s.processes) is) (ap (λ (s : State). s.depth) is) (ap (λ (s : State). s.inhibited) is) (ap (λ (s : State). s.asked) is) in
    let mid = at g start c.keep_ends.new.self c.args.host.now c.args.sink.now in
    let after = at g start c.run_bracket.new.kernel c.run_bracket.new.host c.run_bracket.new.sink in
    let h = halt.Stop c.in_err-run_bracket.field-0.0 in
    let hooks = c.in_err-run_bracket.ensures start in
    rw (stopped_by c.from_residual-in_err-run_bracket.result h c.from_residual-in_err-run_bracket.ensures)
    (work_stopped program c.in_err-run_bracket.field-0.0 before after _ _ onwards _ outwards
    (work_behind program (Err h) before mid after _ _ _ _ (begun_went program before known change is) kept
    (work_before program (Err h) mid after (λ rest. CommitChange change ∷ rest) (around (OfBefore change.buffer) (ends_of change.from change.to)) onwards outwards (commit_behind change) hooks)))

pub changes::make_change-run_bracket-requires : goal.changes::make_change-run_bracket-requires
changes::make_change-run_bracket-requires g t c =
    let program = g.P.Program.meant c.args.program.now in
    let change = change_of c.args.change.now in
    let start = c.args.host.now in
    let before = at g start c.args.kernel.now c.args.host.now c.args.sink.now in
    let known = g.M.Kernel.state c.keep_ends.new.self in
    let is = c.in_ok-keep_ends.ensures.ok in
    let kept = keeps_same (at g start c.args.kernel.now c.args.host.now c.args.sink.now) known c.requires.hosted (ap (λ (s : State). s.processes) is) (ap (λ (s : State). s.depth) is) (ap (λ (s : State). s.inhibited) is) (ap (λ (s : State). s.asked) is) in
    search (rules, ready_then before (at g start c.keep_ends.new.self c.args.host.now c.args.sink.now) c.requires kept, level_falls program known (g.M.Kernel.state c.args.kernel.now) 2 4 t kept.depth (omega arith) c.decreases)

pub changes::make_change-commit_change-requires : goal.changes::make_change-commit_change-requires
changes::make_change-commit_change-requires g t c =
    let program = g.P.Program.meant c.args.program.now in
    let change = change_of c.args.change.now in
    let start = c.args.host.now in
    let before = at g start c.args.kernel.now c.args.host.now c.args.sink.now in
    let known = g.M.Kernel.state c.keep_ends.new.self in
    let is = c.in_ok-keep_ends.ensures.ok in
    let kept = keeps_same (at g start c.args.kernel.now c.args.host.now c.args.sink.now) known c.requires.hosted (ap (λ (s : State). s.processes) is) (ap (λ (s : State). s.depth) is) (ap (λ (s : State). s.inhibited) is) (ap (λ (s : State). s.asked) is) in
    let mid = at g start c.keep_ends.new.self c.args.host.now c.args.sink.now in
    let late = at g start c.run_bracket.new.kernel c.run_bracket.new.host c.run_bracket.new.sink in
    let k = keeps_then before mid late kept (c.in_ok-run_bracket.ensures start).stays in
    search (rules, ready_then before late c.requires k, level_falls program (g.M.Kernel.state c.run_bracket.new.kernel) (g.M.Kernel.state c.args.kernel.now) 3 4 t k.depth (omega arith) c.decreases)

pub changes::commit_change-returns-in-Fault : goal.changes::commit_change-returns-in-Fault
changes::commit_change-returns-in-Fault g t c = λ start.
    let program = g.P.Program.meant c.args.program.now in
    let change = change_of c.args.change.now in
    let before = at g start c.args.kernel.now c.args.host.now c.args.sink.now in
    let known = g.M.Kernel.state c.commit.new.self in
    let done = rw c.in-Fault.is at c.in_ok-fault.ensures.done in
    let is = rw c.in-Fault.is at c.in_ok-fault.ensures.ok in
    let kept = keeps_behind (at g start c.args.kernel.now c.args.host.now c.args.sink.now) known change (Failed (fault_of c.in-Fault.fault)) c.requires.hosted is in
    let mid = at g start c.commit.new.self c.args.host.now c.args.sink.now in
    let kills = (g.H.Host.state c.args.host.now).kills in
    work_behind program (Err c.refuse.result) before mid (at g start c.commit.new.self c.args.host.now c.refuse.new.sink) _ _ onwards outwards (failed_went program before known change (fault_of c.in-Fault.fault) done is) kept
    (work_unasked program (g.K.Sink.state c.args.sink.now) (g.K.Sink.state c.refuse.new.sink) (CallsSince g.H.Host.state g.H.Host.made start c.args.host.now) known known kills (Err c.refuse.result) _ onwards outwards (c.refuse.ensures kills kept.hosted))

pub changes::commit_change-returns-in_err-fault : goal.changes::commit_change-returns-in_err-fault
changes::commit_change-returns-in_err-fault g t c = λ start.
    rw (stopped_by c.from_residual.result (halt.Stop stop.NoMemory) c.from_residual.ensures, c.in_err-fault.ensures.err)
    (item_wants (g.P.Program.meant c.args.program.now) (at g start c.args.kernel.now c.args.host.now c.args.sink.now) (CommitChange (change_of c.args.change.now)) onwards c.requires.hosted (middle (λ s rest. (tt, tt))))

pub changes::commit_change-returns-in_err-run_bracket-in-Done : goal.changes::commit_change-returns-in_err-run_bracket-in-Done
changes::commit_change-returns-in_err-run_bracket-in-Done g t c = λ start.
    let program = g.P.Program.meant c.args.program.now in
    let change = change_of c.args.change.now in
    let before = at g start c.args.kernel.now c.args.host.now c.args.sink.now in
    let known = g.M.Kernel.state c.commit.new.self in
    let done = rw c.in-Done.is at c.in_ok-fault.ensures.done in
    let is = rw c.in-Done.is at c.in_ok-fault.ensures.ok in
    let kept = keeps_behind (at g start c.args.kernel.now c.args.host.now c.args.sink.now) known change (Done c.in-Done.from c.in-Done.to c.in-Done.old) c.requires.hosted is in
    let mid = at g start c.commit.new.self c.args.host.now c.args.sink.now in
    let after = at g start c.run_bracket.new.kernel c.run_bracket.new.host c.run_bracket.new.sink in
    let h = halt.Stop c.in_err-run_bracket-in-Done.field-0.0 in
    let hooks = c.in_err-run_bracket-in-Done.ensures start in
    rw (stopped_by c.from_residual-in_err-run_bracket-in-Done.result h c.from_residual-in_err-run_bracket-in-Done.ensures)
    (work_behind program (Err h) before mid after _ _ onwards outwards (done_went program before known change c.in-Done.from c.in-Done.to c.in-Done.old done is) kept hooks)

pub changes::commit_change-returns-in_ok-run_bracket-in-Done : goal.changes::commit_change-returns-in_ok-run_bracket-in-Done
changes::commit_change-returns-in_ok-run_bracket-in-Done g t c = λ start.
    let program = g.P.Program.meant c.args.program.now in
    let change = change_of c.args.change.now in
    let before = at g start c.args.kernel.now c.args.host.now c.args.sink.now in
    let known = g.M.Kernel.state c.commit.new.self in
    let done = rw c.in-Done.is at c.in_ok-fault.ensures.done in
    let is = rw c.in-Done.is at c.in_ok-fault.ensures.ok in
    let kept = keeps_behind (at g start c.args.kernel.now c.args.host.now c.args.sink.now) known change (Done c.in-Done.from c.in-Done.to c.in-Done.old) c.requires.hosted is in
    let mid = at g start c.commit.new.self c.args.host.now c.args.sink.now in
    let after = at g start c.run_bracket.new.kernel c.run_bracket.new.host c.run_bracket.new.sink in
    let unit : Unit {0} = tt in
    let hooks = c.in_ok-run_bracket-in-Done.ensures start in
    work_done program unit before after _ onwards outwards (went_then program before mid after _ _ _ (done_went program before known change c.in-Done.from c.in-Done.to c.in-Done.old done is) (went_of program c.in_ok-run_bracket-in-Done.field-0 mid after _ onwards outwards hooks.path)) (keeps_then before mid after kept hooks.stays)

pub changes::commit_change-run_bracket-requires : goal.changes::commit_change-run_bracket-requires
changes::commit_change-run_bracket-requires g t c =
    let program = g.P.Program.meant c.args.program.now in
    let change = change_of c.args.change.now in
    let start = c.args.host.now in
    let before = at g start c.args.kernel.now c.args.host.now c.args.sink.now in
    let known = g.M.Kernel.state c.commit.new.self in
    let done = rw c.in-Done.is at c.in_ok-fault.ensures.done in
    let is = rw c.in-Done.is at c.in_ok-fault.ensures.ok in
    let kept = keeps_behind (at g start c.args.kernel.now c.args.host.now c.args.sink.now) known change (Done c.in-Done.from c.in-Done.to c.in-Done.old) c.requires.hosted is in
    let mid = at g start c.commit.new.self c.args.host.now c.args.sink.now in
    search (rules, ready_then before mid c.requires kept, level_falls program known (g.M.Kernel.state c.args.kernel.now) 2 3 t kept.depth (omega arith) c.decreases)

pub changes::run_bracket-returns : goal.changes::run_bracket-returns
changes::run_bracket-returns g t c = λ start.
    let program = g.P.Program.meant c.args.program.now in
    let kind = kind_of c.args.kind in
    let args = told_of c.args.change.now c.args.made in
    let before = at g start c.args.kernel.now c.args.host.now c.args.sink.now in
    let off_now = sym c.inhibited.ensures ∙ c.if-inhibited.false in
    let mid = at g start c.inhibit.new.self c.args.host.now c.args.sink.now in
    let names = map number_of (items_of c.in_ok-names.names) in
    let went = hooks_went program before (g.M.Kernel.state c.inhibit.new.self) kind names args c.requires.hook off_now c.in_ok-names.ensures c.inhibit.ensures in
    let late = at g start c.run_hooks.new.kernel c.run_hooks.new.host c.run_hooks.new.sink in
    let after = at g start c.inhibit-2.new.self c.run_hooks.new.host c.run_hooks.new.sink in
    let done = rw c.in_ok-args.ensures at (c.in_ok-run_hooks.ensures start) in
    let known = g.M.Kernel.state c.inhibit-2.new.self in
    let unit : Unit {0} = tt in
    let first = path_before program (Ok c.in_ok-run_hooks.field-0) mid late (λ rest. Calm false ∷ rest) (at_item (Hooks kind names args)) onwards outwards (calm_behind false) done.path in
    work_done program unit before after _ onwards outwards
    (went_then program before late after _ _ _ (went_then program before mid late _ _ _ went (went_of program c.in_ok-run_hooks.field-0 mid late _ _ _ first)) (calm_went program late known c.inhibit-2.ensures))
    (around_keeps before late known (g.M.Kernel.state c.inhibit.new.self) c.inhibit.ensures off_now done.stays c.inhibit-2.ensures)

pub changes::run_bracket-returns-in_err-names : goal.changes::run_bracket-returns-in_err-names
changes::run_bracket-returns-in_err-names g t c = λ start.
    let program = g.P.Program.meant c.args.program.now in
    let kind = kind_of c.args.kind in
    let args = told_of c.args.change.now c.args.made in
    let before = at g start c.args.kernel.now c.args.host.now c.args.sink.now in
    rw (stopped_by c.from_residual.result stop.NoMemory c.from_residual.ensures)
    (around_wants program before kind args c.requires.ready.hosted)

pub changes::run_bracket-returns-in_err-args : goal.changes::run_bracket-returns-in_err-args
changes::run_bracket-returns-in_err-args g t c = λ start.
    let program = g.P.Program.meant c.args.program.now in
    let kind = kind_of c.args.kind in
    let args = told_of c.args.change.now c.args.made in
    let before = at g start c.args.kernel.now c.args.host.now c.args.sink.now in
    rw (stopped_by c.from_residual-in_err-args.result stop.NoMemory c.from_residual-in_err-args.ensures)
    (around_wants program before kind args c.requires.ready.hosted)

pub changes::run_bracket-returns-in_err-run_hooks : goal.changes::run_bracket-returns-in_err-run_hooks
changes::run_bracket-returns-in_err-run_hooks g t c = λ start.
    let program = g.P.Program.meant c.args.program.now in
    let kind = kind_of c.args.kind in
    let args = told_of c.args.change.now c.args.made in
    let before = at g start c.args.kernel.now c.args.host.now c.args.sink.now in
    let off_now = sym c.inhibited.ensures ∙ c.if-inhibited.false in
    let mid = at g start c.inhibit.new.self c.args.host.now c.args.sink.now in
    let names = map number_of (items_of c.in_ok-names.names) in
    let went = hooks_went program before (g.M.Kernel.state c.inhibit.new.self) kind names args c.requires.hook off_now c.in_ok-names.ensures c.inhibit.ensures in
    let after = at g start c.run_hooks.new.kernel c.run_hooks.new.host c.run_hooks.new.sink in
    let h = halt.Stop c.in_err-run_hooks.field-0.0 in
    let done = rw c.in_ok-args.ensures at (c.in_err-run_hooks.ensures start) in
    rw (stopped_by c.from_residual-in_err-run_hooks.result c.in_err-run_hooks.field-0.0 c.from_residual-in_err-run_hooks.ensures)
    (record {
      path = path_left program h before after _ _ onwards outwards (path_behind program (Err h) before mid after _ _ _ outwards went (path_before program (Err h) mid after (λ rest. Calm false ∷ rest) (at_item (Hooks kind names args)) onwards outwards (calm_behind false) done.path));
      stays = done.stays;
    })

pub changes::run_bracket-returns-then-inhibited : goal.changes::run_bracket-returns-then-inhibited
changes::run_bracket-returns-then-inhibited g t c = λ start.
    let program = g.P.Program.meant c.args.program.now in
    let kind = kind_of c.args.kind in
    let args = told_of c.args.change.now c.args.made in
    let before = at g start c.args.kernel.now c.args.host.now c.args.sink.now in
    let unit : Unit {0} = tt in
    work_done program unit before before _ onwards outwards (inhibited_went program before kind args (sym c.inhibited.ensures ∙ c.if-inhibited.true)) (keeps_self before c.requires.ready.hosted)

pub changes::run_bracket-returns-then-len-eq0 : goal.changes::run_bracket-returns-then-len-eq0
changes::run_bracket-returns-then-len-eq0 g t c = λ start.
    let program = g.P.Program.meant c.args.program.now in
    let kind = kind_of c.args.kind in
    let args = told_of c.args.change.now c.args.made in
    let before = at g start c.args.kernel.now c.args.host.now c.args.sink.now in
    let off_now = sym c.inhibited.ensures ∙ c.if-inhibited.false in
    let unit : Unit {0} = tt in
    let none = sym c.in_ok-names.ensures ∙ none_mapped number_of (items_of c.in_ok-names.names) (omega (arith, c.len.ensures, c.if-len-eq0.true)) in
    work_done program unit before before _ onwards outwards (unheard_went program before kind args c.requires.hook off_now none) (keeps_self before c.requires.ready.hosted)

pub changes::run_bracket-run_hooks-requires : goal.changes::run_bracket-run_hooks-requires
changes::run_bracket-run_hooks-requires g t c =
    let program = g.P.Program.meant c.args.program.now in
    let kind = kind_of c.args.kind in
    let args = told_of c.args.change.now c.args.made in
    let off_now = sym c.inhibited.ensures ∙ c.if-inhibited.false in
    let s = g.M.Kernel.state c.args.kernel.now in
    let kills = (g.H.Host.state c.args.host.now).kills in
    search (
      rules,
      inhibited_ready s (g.M.Kernel.state c.inhibit.new.self) kills c.inhibit.ensures c.requires.ready,
      inhibited_may s (g.M.Kernel.state c.inhibit.new.self) kills c.inhibit.ensures off_now c.requires.ready,
      c.requires.hook,
      level_falls program (g.M.Kernel.state c.inhibit.new.self) s 1 2 t (ap (λ (s : State). s.depth) c.inhibit.ensures) (omega arith) c.decreases,
    )

pub changes::run_hooks-handle-requires : goal.changes::run_hooks-handle-requires
changes::run_hooks-handle-requires g t c =
    let program = g.P.Program.meant c.args.program.now in
    let kind = kind_of c.args.kind in
    let args = map view (items_of c.args.args.now) in
    let names = map number_of (items_of c.args.names.now) in
    let start = c.args.host.now in
    let before = at g start c.args.kernel.now c.args.host.now c.args.sink.now in
    let mid = at g start c.loop-i.kernel c.loop-i.host c.loop-i.sink in
    let k = c.loop-i.invariant.keeps start in
    search (rules, ready_then before mid c.requires.ready k, may_then before mid c.requires.nesting k, level_falls program (g.M.Kernel.state c.loop-i.kernel) (g.M.Kernel.state c.args.kernel.now) 0 1 t k.depth (omega arith) c.decreases)

pub changes::run_hooks-loop-i-init : goal.changes::run_hooks-loop-i-init
changes::run_hooks-loop-i-init g t c =
    record {
      went = λ start. went_self (g.P.Program.meant c.args.program.now) (at g start c.args.kernel.now c.args.host.now c.args.sink.now) _;
      keeps = λ start. keeps_self (at g start c.args.kernel.now c.args.host.now c.args.sink.now) c.requires.ready.hosted;
    }

pub changes::run_hooks-loop-i-preserved : goal.changes::run_hooks-loop-i-preserved
changes::run_hooks-loop-i-preserved g t c =
    record {
      went = λ start.
          let program = g.P.Program.meant c.args.program.now in
          let kind = kind_of c.args.kind in
          let args = map view (items_of c.args.args.now) in
          let names = map number_of (items_of c.args.names.now) in
          let before = at g start c.args.kernel.now c.args.host.now c.args.sink.now in
          let left = drop (c.loop-i.i + 1) names in
          let n = number_of c.at.result.now in
          let next = drop_at names c.loop-i.i n (mapped_at number_of (items_of c.args.names.now) c.loop-i.i c.at.result.now c.at.ensures) in
          let mid = at g start c.loop-i.kernel c.loop-i.host c.loop-i.sink in
          let after = at g start c.handle.new.kernel c.handle.new.host c.handle.new.sink in
          let went = went_then program before mid mid _ _ _ (rw next at (c.loop-i.invariant.went start)) (hook_went program mid kind n left args) in
          let made = rw c.if-branch.false at (c.in_ok-handle.ensures start) in
          let first = work_before program (Ok false) mid after (λ rest. Hooks kind left args ∷ rest) (at_item (Enter kind (Some n) args)) (λ faulted s rest. working s (ended_work kind faulted rest)) outwards (hooks_behind kind left args) made in
          let done = went_then program before mid after _ _ _ went (went_of program false mid after _ _ _ first.path) in
          went_same program before after _ _ _ (λ s rest. ap (λ l. working s l) (not_faulted kind (Hooks kind left args ∷ rest))) done;
      keeps = λ start.
          let before = at g start c.args.kernel.now c.args.host.now c.args.sink.now in
          let mid = at g start c.loop-i.kernel c.loop-i.host c.loop-i.sink in
          let after = at g start c.handle.new.kernel c.handle.new.host c.handle.new.sink in
          keeps_then before mid after (c.loop-i.invariant.keeps start) (c.in_ok-handle.ensures start).stays;
    }

pub changes::run_hooks-returns : goal.changes::run_hooks-returns
changes::run_hooks-returns g t c = λ start.
    let program = g.P.Program.meant c.args.program.now in
    let kind = kind_of c.args.kind in
    let args = map view (items_of c.args.args.now) in
    let names = map number_of (items_of c.args.names.now) in
    let before = at g start c.args.kernel.now c.args.host.now c.args.sink.now in
    let after = at g start c.loop-i.kernel c.loop-i.host c.loop-i.sink in
    let over = drop_all c.loop-i.i names (omega (arith, length-map (items_of c.args.names.now) number_of)) in
    let unit : Unit {0} = tt in
    work_done program unit before after _ onwards outwards (went_then program before after after _ _ _ (rw over at (c.loop-i.invariant.went start)) (hooks_over program after kind args)) (c.loop-i.invariant.keeps start)

pub changes::run_hooks-returns-in_err-handle : goal.changes::run_hooks-returns-in_err-handle
changes::run_hooks-returns-in_err-handle g t c = λ start.
    let program = g.P.Program.meant c.args.program.now in
    let kind = kind_of c.args.kind in
    let args = map view (items_of c.args.args.now) in
    let names = map number_of (items_of c.args.names.now) in
    let before = at g start c.args.kernel.now c.args.host.now c.args.sink.now in
    let left = drop (c.loop-i.i + 1) names in
    let n = number_of c.at.result.now in
    let next = drop_at names c.loop-i.i n (mapped_at number_of (items_of c.args.names.now) c.loop-i.i c.at.result.now c.at.ensures) in
    let mid = at g start c.loop-i.kernel c.loop-i.host c.loop-i.sink in
    let after = at g start c.handle.new.kernel c.handle.new.host c.handle.new.sink in
    let went = went_then program before mid mid _ _ _ (rw next at (c.loop-i.invariant.went start)) (hook_went program mid kind n left args) in
    let h = halt.Stop c.in_err-handle.field-0.0 in
    let made = c.in_err-handle.ensures start in
    rw (stopped_by c.from_residual.result c.in_err-handle.field-0.0 c.from_residual.ensures)
    (record {
      path = path_left program h before after _ _ onwards outwards (path_behind program (Err h) before mid after _ _ _ outwards went (path_before program (Err h) mid after (λ rest. Hooks kind left args ∷ rest) (at_item (Enter kind (Some n) args)) (λ faulted s rest. working s (ended_work kind faulted rest)) outwards (hooks_behind kind left args) made.path));
      stays = made.stays;
    })

pub changes::run_hooks-returns-then-branch : goal.changes::run_hooks-returns-then-branch
changes::run_hooks-returns-then-branch g t c = λ start.
    let program = g.P.Program.meant c.args.program.now in
    let kind = kind_of c.args.kind in
    let args = map view (items_of c.args.args.now) in
    let names = map number_of (items_of c.args.names.now) in
    let before = at g start c.args.kernel.now c.args.host.now c.args.sink.now in
    let left = drop (c.loop-i.i + 1) names in
    let n = number_of c.at.result.now in
    let next = drop_at names c.loop-i.i n (mapped_at number_of (items_of c.args.names.now) c.loop-i.i c.at.result.now c.at.ensures) in
    let mid = at g start c.loop-i.kernel c.loop-i.host c.loop-i.sink in
    let after = at g start c.handle.new.kernel c.handle.new.host c.handle.new.sink in
    let went = went_then program before mid mid _ _ _ (rw next at (c.loop-i.invariant.went start)) (hook_went program mid kind n left args) in
    let made = rw c.if-branch.true at (c.in_ok-handle.ensures start) in
    let first = work_before program (Ok true) mid after (λ rest. Hooks kind left args ∷ rest) (at_item (Enter kind (Some n) args)) (λ faulted s rest. working s (ended_work kind faulted rest)) outwards (hooks_behind kind left args) made in
    let done = went_then program before mid after _ _ _ went (went_of program true mid after _ _ _ first.path) in
    let unit : Unit {0} = tt in
    work_done program unit before after _ onwards outwards (went_same program before after _ _ _ (λ s rest. ap (λ l. working s l) (hook_faulted kind left args rest c.requires.hook)) done) (keeps_then before mid after (c.loop-i.invariant.keeps start) made.stays)

pub handlers::call_native-returns-in_err-made : goal.handlers::call_native-returns-in_err-made
handlers::call_native-returns-in_err-made g t c = λ start i args past.
    let program = g.P.Program.meant c.args.program.now in
    let before = at g start c.args.kernel.now c.args.host.now c.args.sink.now in
    let c2 = call_asked c.args.asked in
    rw (stopped_by c.from_residual.result stop.NoMemory c.from_residual.ensures)
    (work_wants program before before _ _ _ outwards (went_self program before (λ s rest. working s (native_call program s c2 ∷ Called i args past ∷ rest))) c.requires.hosted (λ s rest h. (item_may (is_callable program s c2) c2 s (Called i args past ∷ rest), refl)))

pub handlers::call_native-returns-in-None : goal.handlers::call_native-returns-in-None
handlers::call_native-returns-in-None g t c = λ start i args past.
    let program = g.P.Program.meant c.args.program.now in
    let before = at g start c.args.kernel.now c.args.host.now c.args.sink.now in
    let c2 = call_asked c.args.asked in
    let after = at g start c.args.kernel.now c.args.host.now c.refuse.new.sink in
    let kills = (g.H.Host.state c.args.host.now).kills in
    let known = g.M.Kernel.state c.args.kernel.now in
    rw c.as_reply-in-None.ensures
    (replied_work program before c2 i args past (Err c.refuse.result) after _
    (work_behind program (Err c.refuse.result) before before after _ _ _ _ (barred_call program before c2 i args past (rw c.in-None.is at c.in_ok-made.ensures)) (keeps_self before c.requires.hosted)
    (work_left program c.refuse.result before after _ _ _ _
    (work_before program (Err c.refuse.result) before after (λ rest. Called i args past ∷ rest) _ onwards outwards (called_behind i args past)
    (work_unasked program (g.K.Sink.state c.args.sink.now) (g.K.Sink.state c.refuse.new.sink) (CallsSince g.H.Host.state g.H.Host.made start c.args.host.now) known known kills (Err c.refuse.result) _ onwards outwards (c.refuse.ensures kills c.requires.hosted))))))

pub handlers::call_native-returns-in-Some : goal.handlers::call_native-returns-in-Some
handlers::call_native-returns-in-Some g t c = λ start i args past.
    let program = g.P.Program.meant c.args.program.now in
    let before = at g start c.args.kernel.now c.args.host.now c.args.sink.now in
    let c2 = call_asked c.args.asked in
    let after = at g start c.call.new.kernel c.call.new.host c.call.new.sink in
    let made = call_asked c.in-Some.made in
    rw c.as_reply.ensures
    (replied_work program before c2 i args past c.call.result after _
    (work_behind program c.call.result before before after _ _ _ _ (made_went program before c2 i args past made (rw c.in-Some.is at c.in_ok-made.ensures)) (keeps_self before c.requires.hosted)
    (work_before program c.call.result before after (λ rest. Called i args past ∷ rest) _ _ outwards (called_behind i args past) (c.call.ensures start ToNative))))

pub handlers::handle-returns : goal.handlers::handle-returns
handlers::handle-returns g t c = λ start.
    let program = g.P.Program.meant c.args.program.now in
    let kind = kind_of c.args.kind in
    let handler = option_map number_of c.args.handler in
    let args = map view (items_of c.args.args.now) in
    let before = at g start c.args.kernel.now c.args.host.now c.args.sink.now in
    let here = c.args.kernel.now in
    let s = g.M.Kernel.state c.args.kernel.now in
    let told = at g start c.args.kernel.now c.args.host.now c.tell_entry.new.sink in
    let wrote = by_names _ (g.K.Sink.state c.args.sink.now) (g.K.Sink.state c.tell_entry.new.sink) c.symbols.result.now program.symbols s (Entered s.depth kind handler args) c.symbols.ensures c.in_ok-tell_entry.ensures in
    let known = g.M.Kernel.state c.enter.new.self in
    let now = rw c.params.ensures at c.in_ok-enter.ensures.ok in
    let mid = at g start c.enter.new.self c.args.host.now c.tell_entry.new.sink in
    let late = at g start c.run_handler.new.kernel c.run_handler.new.host c.run_handler.new.sink in
    let went = went_then program before told mid _ _ _ (entry_told program before kind handler args tt (g.K.Sink.state c.tell_entry.new.sink) wrote) (scoped program before kind handler args known told refl now) in
    let ran = path_before program c.run_handler.result mid late (λ rest. Exit kind handler s.editor.current false ∷ rest) (code_of program kind handler args) onwards outwards (exit_behind program kind handler s.editor.current false) (c.run_handler.ensures start).path in
    let faulted = c.in_ok-faulted.faulted in
    let ended = sym c.in_ok-faulted.ensures in
    let ran_to = ran_as program c.run_handler.result faulted mid late _ kind handler s.editor.current ended ran in
    let so_far = went_then program before mid late _ _ _ went ran_to in
    let kept = ran_keeps program c.run_handler.result faulted mid late ended (c.run_handler.ensures start).stays in
    let b = g.M.Kernel.state c.run_handler.new.kernel in
    let wrote_out = by_names _ (g.K.Sink.state c.run_handler.new.sink) (g.K.Sink.state c.tell_exit.new.sink) c.symbols-2.result.now program.symbols b (Left (b.depth - 1) handler) c.symbols-2.ensures c.in_ok-tell_exit.ensures in
    let last = g.M.Kernel.state c.end_handler.new.self in
    let after = at g start c.end_handler.new.self c.run_handler.new.host c.tell_exit.new.sink in
    let left = rw (c.leave.ensures, c.current-current.ensures) at c.end_handler.ensures in
    work_done program faulted before after _ _ outwards
    (went_then program before late after _ _ _ so_far (leave_told program late kind handler s.editor.current faulted tt (g.K.Sink.state c.tell_exit.new.sink) last left wrote_out))
    (leave_keeps program late kind handler s.editor.current faulted before last (g.K.Sink.state c.tell_exit.new.sink) left kept.hosted (omega (arith, kept.count, ap (λ (x : State). length x.processes) now)) (kept.depth ∙ ap (λ (x : State). x.depth) now) (kept.inhibited ∙ ap (λ (x : State). x.inhibited) now) (omega (arith, kept.asked, ap (λ (x : State). x.asked) now)))

pub handlers::handle-returns-in_err-enter : goal.handlers::handle-returns-in_err-enter
handlers::handle-returns-in_err-enter g t c = λ start.
    let program = g.P.Program.meant c.args.program.now in
    let kind = kind_of c.args.kind in
    let handler = option_map number_of c.args.handler in
    let args = map view (items_of c.args.args.now) in
    let before = at g start c.args.kernel.now c.args.host.now c.args.sink.now in
    let here = c.args.kernel.now in
    let s = g.M.Kernel.state c.args.kernel.now in
    let told = at g start c.args.kernel.now c.args.host.now c.tell_entry.new.sink in
    let wrote = by_names _ (g.K.Sink.state c.args.sink.now) (g.K.Sink.state c.tell_entry.new.sink) c.symbols.result.now program.symbols s (Entered s.depth kind handler args) c.symbols.ensures c.in_ok-tell_entry.ensures in
    rw (stopped_by c.from_residual-in_err-enter.result stop.NoMemory c.from_residual-in_err-enter.ensures, c.in_err-enter.ensures.err)
    (work_wants program before told _ _ _ outwards (entry_told program before kind handler args tt (g.K.Sink.state c.tell_entry.new.sink) wrote) c.requires.ready.hosted (inside_may program before kind handler args))

pub handlers::handle-returns-in_err-faulted : goal.handlers::handle-returns-in_err-faulted
handlers::handle-returns-in_err-faulted g t c = λ start.
    let program = g.P.Program.meant c.args.program.now in
    let kind = kind_of c.args.kind in
    let handler = option_map number_of c.args.handler in
    let args = map view (items_of c.args.args.now) in
    let before = at g start c.args.kernel.now c.args.host.now c.args.sink.now in
    let here = c.args.kernel.now in
    let s = g.M.Kernel.state c.args.kernel.now in
    let told = at g start c.args.kernel.now c.args.host.now c.tell_entry.new.sink in
    let wrote = by_names _ (g.K.Sink.state c.args.sink.now) (g.K.Sink.state c.tell_entry.new.sink) c.symbols.result.now program.symbols s (Entered s.depth kind handler args) c.symbols.ensures c.in_ok-tell_entry.ensures in
    let known = g.M.Kernel.state c.enter.new.self in
    let now = rw c.params.ensures at c.in_ok-enter.ensures.ok in
    let mid = at g start c.enter.new.self c.args.host.now c.tell_entry.new.sink in
    let late = at g start c.run_handler.new.kernel c.run_handler.new.host c.run_handler.new.sink in
    let went = went_then program before told mid _ _ _ (entry_told program before kind handler args tt (g.K.Sink.state c.tell_entry.new.sink) wrote) (scoped program before kind handler args known told refl now) in
    let ran = path_before program c.run_handler.result mid late (λ rest. Exit kind handler s.editor.current false ∷ rest) (code_of program kind handler args) onwards outwards (exit_behind program kind handler s.editor.current false) (c.run_handler.ensures start).path in
    let why = c.in_err-faulted.field-0.0 in
    let is = ran_stopped program c.run_handler.result why (sym c.in_err-faulted.ensures) in
    let done = c.run_handler.ensures start in
    rw (stopped_by c.from_residual-in_err-faulted.result why c.from_residual-in_err-faulted.ensures)
    (work_stopped program why before late _ _ _ _ outwards (record {
      path = path_behind program (Err (halt.Stop why)) before mid late _ _ _ _ went (rw is at ran);
      stays = rw is at done.stays;
    }))

pub handlers::handle-returns-in_err-tell_entry : goal.handlers::handle-returns-in_err-tell_entry
handlers::handle-returns-in_err-tell_entry g t c = λ start.
    let program = g.P.Program.meant c.args.program.now in
    let kind = kind_of c.args.kind in
    let handler = option_map number_of c.args.handler in
    let args = map view (items_of c.args.args.now) in
    let before = at g start c.args.kernel.now c.args.host.now c.args.sink.now in
    let here = c.args.kernel.now in
    let s = g.M.Kernel.state c.args.kernel.now in
    let told = at g start c.args.kernel.now c.args.host.now c.tell_entry.new.sink in
    rw (stopped_by c.from_residual.result stop.WriteFault c.from_residual.ensures)
    (entry_unwritten program before kind handler args c.in_err-tell_entry.field-0.0 (g.K.Sink.state c.tell_entry.new.sink) _ c.requires.ready.hosted (by_names _ (g.K.Sink.state c.args.sink.now) (g.K.Sink.state c.tell_entry.new.sink) c.symbols.result.now program.symbols s (Entered s.depth kind handler args) c.symbols.ensures c.in_err-tell_entry.ensures))

pub handlers::handle-returns-in_err-tell_exit : goal.handlers::handle-returns-in_err-tell_exit
handlers::handle-returns-in_err-tell_exit g t c = λ start.
    let program = g.P.Program.meant c.args.program.now in
    let kind = kind_of c.args.kind in
    let handler = option_map number_of c.args.handler in
    let args = map view (items_of c.args.args.now) in
    let before = at g start c.args.kernel.now c.args.host.now c.args.sink.now in
    let here = c.args.kernel.now in
    let s = g.M.Kernel.state c.args.kernel.now in
    let told = at g start c.args.kernel.now c.args.host.now c.tell_entry.new.sink in
    let wrote = by_names _ (g.K.Sink.state c.args.sink.now) (g.K.Sink.state c.tell_entry.new.sink) c.symbols.result.now program.symbols s (Entered s.depth kind handler args) c.symbols.ensures c.in_ok-tell_entry.ensures in
    let known = g.M.Kernel.state c.enter.new.self in
    let now = rw c.params.ensures at c.in_ok-enter.ensures.ok in
    let mid = at g start c.enter.new.self c.args.host.now c.tell_entry.new.sink in
    let late = at g start c.run_handler.new.kernel c.run_handler.new.host c.run_handler.new.sink in
    let went = went_then program before told mid _ _ _ (entry_told program before kind handler args tt (g.K.Sink.state c.tell_entry.new.sink) wrote) (scoped program before kind handler args known told refl now) in
    let ran = path_before program c.run_handler.result mid late (λ rest. Exit kind handler s.editor.current false ∷ rest) (code_of program kind handler args) onwards outwards (exit_behind program kind handler s.editor.current false) (c.run_handler.ensures start).path in
    let faulted = c.in_ok-faulted.faulted in
    let ended = sym c.in_ok-faulted.ensures in
    let ran_to = ran_as program c.run_handler.result faulted mid late _ kind handler s.editor.current ended ran in
    let so_far = went_then program before mid late _ _ _ went ran_to in
    let kept = ran_keeps program c.run_handler.result faulted mid late ended (c.run_handler.ensures start).stays in
    let b = g.M.Kernel.state c.run_handler.new.kernel in
    let after = at g start c.run_handler.new.kernel c.run_handler.new.host c.tell_exit.new.sink in
    rw (stopped_by c.from_residual-in_err-tell_exit.result stop.WriteFault c.from_residual-in_err-tell_exit.ensures)
    (record {
      path = path_behind program (Err (halt.Stop stop.WriteFault)) before late after _ _ _ outwards so_far (leave_unwritten program late kind handler s.editor.current faulted c.in_err-tell_exit.field-0.0 (g.K.Sink.state c.tell_exit.new.sink) _ (by_names _ (g.K.Sink.state c.run_handler.new.sink) (g.K.Sink.state c.tell_exit.new.sink) c.symbols-2.result.now program.symbols b (Left (b.depth - 1) handler) c.symbols-2.ensures c.in_err-tell_exit.ensures));
      stays = kept.hosted;
    })

pub handlers::run_default-returns : goal.handlers::run_default-returns
handlers::run_default-returns g t c = λ start.
    let program = g.P.Program.meant c.args.program.now in
    let kind = kind_of c.args.kind in
    let args = map view (items_of c.args.args.now) in
    let before = at g start c.args.kernel.now c.args.host.now c.args.sink.now in
    let known = g.M.Kernel.state c.prepare_default.new.self in
    let now = c.in_ok-change.ensures.ok in
    let is = rw c.in-Nothing.is at c.in_ok-change.ensures.prepared in
    let kept = default_keeps before known kind c.requires.hosted now in
    let mid = at g start c.prepare_default.new.self c.args.host.now c.args.sink.now in
    let unit : Unit {0} = tt in
    work_done program unit before mid _ onwards outwards (default_went program before known kind args (Nothing (view c.in-Nothing.field-0)) now is) kept

pub handlers::run_default-returns-in-Change : goal.handlers::run_default-returns-in-Change
handlers::run_default-returns-in-Change g t c = λ start.
    let program = g.P.Program.meant c.args.program.now in
    let kind = kind_of c.args.kind in
    let args = map view (items_of c.args.args.now) in
    let before = at g start c.args.kernel.now c.args.host.now c.args.sink.now in
    let known = g.M.Kernel.state c.prepare_default.new.self in
    let now = c.in_ok-change.ensures.ok in
    let is = rw c.in-Change.is at c.in_ok-change.ensures.prepared in
    let kept = default_keeps before known kind c.requires.hosted now in
    let mid = at g start c.prepare_default.new.self c.args.host.now c.args.sink.now in
    let change = change_of c.in-Change.change in
    let after = at g start c.make_change.new.kernel c.make_change.new.host c.make_change.new.sink in
    work_behind program c.make_change.result before mid after _ _ onwards outwards (default_went program before known kind args (Changes change) now is) kept (c.make_change.ensures start)

pub handlers::run_default-returns-in-Fault : goal.handlers::run_default-returns-in-Fault
handlers::run_default-returns-in-Fault g t c = λ start.
    let program = g.P.Program.meant c.args.program.now in
    let kind = kind_of c.args.kind in
    let args = map view (items_of c.args.args.now) in
    let before = at g start c.args.kernel.now c.args.host.now c.args.sink.now in
    let known = g.M.Kernel.state c.prepare_default.new.self in
    let now = c.in_ok-change.ensures.ok in
    let is = rw c.in-Fault.is at c.in_ok-change.ensures.prepared in
    let kept = default_keeps before known kind c.requires.hosted now in
    let mid = at g start c.prepare_default.new.self c.args.host.now c.args.sink.now in
    let kills = (g.H.Host.state c.args.host.now).kills in
    let after = at g start c.prepare_default.new.self c.args.host.now c.refuse.new.sink in
    work_behind program (Err c.refuse.result) before mid after _ _ onwards outwards (default_went program before known kind args (Barred (fault_of c.in-Fault.fault)) now is) kept
    (work_unasked program (g.K.Sink.state c.args.sink.now) (g.K.Sink.state c.refuse.new.sink) (CallsSince g.H.Host.state g.H.Host.made start c.args.host.now) known known kills (Err c.refuse.result) _ onwards outwards (c.refuse.ensures kills kept.hosted))

pub handlers::run_default-returns-in_err-change : goal.handlers::run_default-returns-in_err-change
handlers::run_default-returns-in_err-change g t c = λ start.
    let program = g.P.Program.meant c.args.program.now in
    let kind = kind_of c.args.kind in
    let args = map view (items_of c.args.args.now) in
    let before = at g start c.args.kernel.now c.args.host.now c.args.sink.now in
    rw (stopped_by c.from_residual.result (halt.Stop stop.NoMemory) c.from_residual.ensures, c.in_err-change.ensures.err)
    (default_wants program before kind args c.requires.hosted)

pub handlers::run_handler-returns-in-None : goal.handlers::run_handler-returns-in-None
handlers::run_handler-returns-in-None g t c = λ start. rw c.in-None.is (c.run_default.ensures start)

pub handlers::run_handler-returns-in-None-body : goal.handlers::run_handler-returns-in-None-body
handlers::run_handler-returns-in-None-body g t c = λ start.
    let program = g.P.Program.meant c.args.program.now in
    let kind = kind_of c.args.kind in
    let args = map view (items_of c.args.args.now) in
    let before = at g start c.args.kernel.now c.args.host.now c.args.sink.now in
    let after = at g start c.run_native.new.kernel c.run_native.new.host c.run_native.new.sink in
    rw c.in-Some.is (work_behind program c.run_native.result before before after _ _ onwards outwards (native_went program before kind c.in-Some.name.0 c.native.result args c.in-None-body.ensures c.native.ensures) (keeps_self before c.requires.hosted) (c.run_native.ensures start))

pub handlers::run_handler-returns-in-Some-body : goal.handlers::run_handler-returns-in-Some-body
handlers::run_handler-returns-in-Some-body g t c = λ start.
    let program = g.P.Program.meant c.args.program.now in
    let kind = kind_of c.args.kind in
    let args = map view (items_of c.args.args.now) in
    let before = at g start c.args.kernel.now c.args.host.now c.args.sink.now in
    let after = at g start c.run_forms.new.kernel c.run_forms.new.host c.run_forms.new.sink in
    let body = joined (map form_of (items_of c.in-Some-body.body.now)) in
    rw c.in-Some.is (work_behind program c.run_forms.result before before after _ _ onwards outwards (script_went program before kind c.in-Some.name.0 body args c.in-Some-body.ensures) (keeps_self before c.requires.hosted) (c.run_forms.ensures start))

pub handlers::run_handler-run_forms-requires : goal.handlers::run_handler-run_forms-requires
handlers::run_handler-run_forms-requires g t c =
    let program = g.P.Program.meant c.args.program.now in
    let body = joined (map form_of (items_of c.in-Some-body.body.now)) in
    search (rules, c.requires, body_falls program (g.M.Kernel.state c.args.kernel.now) (forms_size body) t (body_within program.handlers c.in-Some.name.0 body c.in-Some-body.ensures) c.decreases)

pub handlers::run_native-call_native-requires : goal.handlers::run_native-call_native-requires
handlers::run_native-call_native-requires g t c =
    let program = g.P.Program.meant c.args.program.now in
    let start = c.args.host.now in
    let before = at g start c.args.kernel.now c.args.host.now c.args.sink.now in
    let mid = at g start c.loop-i.kernel c.loop-i.host c.loop-i.sink in
    let k = c.loop-i.invariant.keeps start in
    search (rules, ready_then before mid c.requires k, level_falls program (g.M.Kernel.state c.loop-i.kernel) (g.M.Kernel.state c.args.kernel.now) 7 8 t k.depth (omega arith) c.decreases)

pub handlers::run_native-returns : goal.handlers::run_native-returns
handlers::run_native-returns g t c = λ start.
    let program = g.P.Program.meant c.args.program.now in
    let args = map view (items_of c.args.args.now) in
    let native = c.args.native in
    let before = at g start c.args.kernel.now c.args.host.now c.args.sink.now in
    let past = map reply_of (items_of c.loop-i.past) in
    let mid = at g start c.loop-i.kernel c.loop-i.host c.loop-i.sink in
    let so_far = c.loop-i.invariant.went start in
    let k = c.loop-i.invariant.keeps start in
    let spent : 256 ≤ length past = omega (arith, length-map (items_of c.loop-i.past) reply_of) in
    let unit : Unit {0} = tt in
    work_done program unit before mid _ onwards outwards (went_then program before mid mid _ _ _ so_far (spent_went program mid native args past spent)) k

pub handlers::run_native-returns-in_default : goal.handlers::run_native-returns-in_default
handlers::run_native-returns-in_default g t c = λ start.
    let program = g.P.Program.meant c.args.program.now in
    let args = map view (items_of c.args.args.now) in
    let native = c.args.native in
    let before = at g start c.args.kernel.now c.args.host.now c.args.sink.now in
    let past = map reply_of (items_of c.loop-i.past) in
    let mid = at g start c.loop-i.kernel c.loop-i.host c.loop-i.sink in
    let so_far = c.loop-i.invariant.went start in
    let k = c.loop-i.invariant.keeps start in
    let room : length past < 256 = omega (arith, length-map (items_of c.loop-i.past) reply_of) in
    let unit : Unit {0} = tt in
    let over = rw c.in_default.is at c.in_ok-asked.ensures in
    work_done program unit before mid _ onwards outwards (went_then program before mid mid _ _ _ so_far (over_went program mid native args past room over)) k

pub handlers::run_native-returns-in_err-asked : goal.handlers::run_native-returns-in_err-asked
handlers::run_native-returns-in_err-asked g t c = λ start.
    let program = g.P.Program.meant c.args.program.now in
    let args = map view (items_of c.args.args.now) in
    let native = c.args.native in
    let before = at g start c.args.kernel.now c.args.host.now c.args.sink.now in
    let past = map reply_of (items_of c.loop-i.past) in
    let mid = at g start c.loop-i.kernel c.loop-i.host c.loop-i.sink in
    let so_far = c.loop-i.invariant.went start in
    let k = c.loop-i.invariant.keeps start in
    rw (stopped_by c.from_residual.result (halt.Stop stop.NoMemory) c.from_residual.ensures)
    (work_wants program before mid _ _ onwards outwards so_far k.hosted (λ s rest h. (record { between = tt; before_end = tt }, refl)))

pub handlers::run_native-returns-in_err-push : goal.handlers::run_native-returns-in_err-push
handlers::run_native-returns-in_err-push g t c = λ start.
    let program = g.P.Program.meant c.args.program.now in
    let args = map view (items_of c.args.args.now) in
    let native = c.args.native in
    let before = at g start c.args.kernel.now c.args.host.now c.args.sink.now in
    let past = map reply_of (items_of c.loop-i.past) in
    let mid = at g start c.loop-i.kernel c.loop-i.host c.loop-i.sink in
    let so_far = c.loop-i.invariant.went start in
    let k = c.loop-i.invariant.keeps start in
    let room : length past < 256 = omega (arith, length-map (items_of c.loop-i.past) reply_of) in
    let asked = call_asked c.in-Call.asked in
    let late = at g start c.call_native.new.kernel c.call_native.new.host c.call_native.new.sink in
    let asking = went_then program before mid mid _ _ _ so_far (native_asks program mid native args past asked room (rw c.in-Call.is at c.in_ok-asked.ensures)) in
    let made = c.in_ok-reply.ensures start native args past in
    let replied = went_then program before mid late _ _ _ asking (went_of program c.in_ok-reply.reply mid late _ _ outwards made.path) in
    let kept = keeps_then before mid late k made.stays in
    rw (stopped_by c.from_residual-in_err-push.result (halt.Stop stop.NoMemory) c.from_residual-in_err-push.ensures)
    (work_wants program before late _ _ onwards outwards replied kept.hosted (λ s rest h. (record { between = tt; before_end = tt }, refl)))

pub handlers::run_native-returns-in_err-reply : goal.handlers::run_native-returns-in_err-reply
handlers::run_native-returns-in_err-reply g t c = λ start.
    let program = g.P.Program.meant c.args.program.now in
    let args = map view (items_of c.args.args.now) in
    let native = c.args.native in
    let before = at g start c.args.kernel.now c.args.host.now c.args.sink.now in
    let past = map reply_of (items_of c.loop-i.past) in
    let mid = at g start c.loop-i.kernel c.loop-i.host c.loop-i.sink in
    let so_far = c.loop-i.invariant.went start in
    let k = c.loop-i.invariant.keeps start in
    let room : length past < 256 = omega (arith, length-map (items_of c.loop-i.past) reply_of) in
    let asked = call_asked c.in-Call.asked in
    let late = at g start c.call_native.new.kernel c.call_native.new.host c.call_native.new.sink in
    let asking = went_then program before mid mid _ _ _ so_far (native_asks program mid native args past asked room (rw c.in-Call.is at c.in_ok-asked.ensures)) in
    let why = c.in_err-reply.field-0.0 in
    let made = c.in_err-reply.ensures start native args past in
    rw (stopped_by c.from_residual-in_err-reply.result (halt.Stop why) c.from_residual-in_err-reply.ensures)
    (work_stopped program why before late _ _ onwards outwards outwards (work_behind program (Err (halt.Stop why)) before mid late _ _ _ outwards asking k made))

pub handlers::handle-run_handler-requires : goal.handlers::handle-run_handler-requires
handlers::handle-run_handler-requires g t c =
    let program = g.P.Program.meant c.args.program.now in
    let now = rw c.params.ensures at c.in_ok-enter.ensures.ok in
    let s = g.M.Kernel.state c.args.kernel.now in
    let known = g.M.Kernel.state c.enter.new.self in
    let kills = (g.H.Host.state c.args.host.now).kills in
    search (
      rules,
      entered_ready program (option_map number_of c.args.handler) (map view (items_of c.args.args.now)) s known kills now c.requires.ready c.requires.nesting,
      enter_falls program s known t (ap (λ (x : State). x.depth) now) c.requires.nesting.depth c.decreases,
    )

pub handlers::run_default-returns-in-Quiet : goal.handlers::run_default-returns-in-Quiet
handlers::run_default-returns-in-Quiet g t c = λ start.
    let program = g.P.Program.meant c.args.program.now in
    let kind = kind_of c.args.kind in
    let args = map view (items_of c.args.args.now) in
    let before = at g start c.args.kernel.now c.args.host.now c.args.sink.now in
    let known = g.M.Kernel.state c.prepare_default.new.self in
    let now = c.in_ok-change.ensures.ok in
    let is = rw c.in-Quiet.is at c.in_ok-change.ensures.prepared in
    let kept = default_keeps before known kind c.requires.hosted now in
    let mid = at g start c.prepare_default.new.self c.args.host.now c.args.sink.now in
    let unit : Unit {0} = tt in
    work_done program unit before mid _ onwards outwards (default_went program before known kind args (Quiet (change_of c.in-Quiet.field-0)) now is) kept

pub handlers::run_default-make_change-requires : goal.handlers::run_default-make_change-requires
handlers::run_default-make_change-requires g t c =
    let program = g.P.Program.meant c.args.program.now in
    let start = c.args.host.now in
    let kind = kind_of c.args.kind in
    let before = at g start c.args.kernel.now c.args.host.now c.args.sink.now in
    let known = g.M.Kernel.state c.prepare_default.new.self in
    let kept = default_keeps before known kind c.requires.hosted c.in_ok-change.ensures.ok in
    search (rules, ready_then before (at g start c.prepare_default.new.self c.args.host.now c.args.sink.now) c.requires kept, level_falls program known (g.M.Kernel.state c.args.kernel.now) 4 5 t kept.depth (omega arith) c.decreases)

pub handlers::run_native-loop-i-init : goal.handlers::run_native-loop-i-init
handlers::run_native-loop-i-init g t c = record {
  went = λ start. rw c.new-past.ensures (went_self (g.P.Program.meant c.args.program.now) (at g start c.args.kernel.now c.args.host.now c.args.sink.now) _);
  keeps = λ start. keeps_self (at g start c.args.kernel.now c.args.host.now c.args.sink.now) c.requires.hosted;
  count = ap length c.new-past.ensures;
}

pub handlers::run_native-loop-i-preserved : goal.handlers::run_native-loop-i-preserved
handlers::run_native-loop-i-preserved g t c = record {
  went = λ start.
      let program = g.P.Program.meant c.args.program.now in
      let args = map view (items_of c.args.args.now) in
      let native = c.args.native in
      let before = at g start c.args.kernel.now c.args.host.now c.args.sink.now in
      let past = map reply_of (items_of c.loop-i.past) in
      let mid = at g start c.loop-i.kernel c.loop-i.host c.loop-i.sink in
      let so_far = c.loop-i.invariant.went start in
      let k = c.loop-i.invariant.keeps start in
      let room : length past < 256 = omega (arith, length-map (items_of c.loop-i.past) reply_of) in
      let asked = call_asked c.in-Call.asked in
      let late = at g start c.call_native.new.kernel c.call_native.new.host c.call_native.new.sink in
      let asking = went_then program before mid mid _ _ _ so_far (native_asks program mid native args past asked room (rw c.in-Call.is at c.in_ok-asked.ensures)) in
      let made = c.in_ok-reply.ensures start native args past in
      let replied = went_then program before mid late _ _ _ asking (went_of program c.in_ok-reply.reply mid late _ _ outwards made.path) in
      let kept = keeps_then before mid late k made.stays in
      let pushed = ap (map reply_of) c.in_ok-push.ensures.ok ∙ map_more reply_of (items_of c.loop-i.past) c.in_ok-reply.reply in
      rw pushed replied;
  keeps = λ start.
      let before = at g start c.args.kernel.now c.args.host.now c.args.sink.now in
      let mid = at g start c.loop-i.kernel c.loop-i.host c.loop-i.sink in
      let late = at g start c.call_native.new.kernel c.call_native.new.host c.call_native.new.sink in
      keeps_then before mid late (c.loop-i.invariant.keeps start) (c.in_ok-reply.ensures start c.args.native (map view (items_of c.args.args.now)) (map reply_of (items_of c.loop-i.past))).stays;
  count = omega (arith, c.loop-i.invariant.count, ap length c.in_ok-push.ensures.ok, length-append (items_of c.loop-i.past) (c.in_ok-reply.reply ∷ []));
}

pub waits::call_process-returns-in-Some : goal.waits::call_process-returns-in-Some
waits::call_process-returns-in-Some g t c = λ start target.
    let program = g.P.Program.meant c.args.program.now in
    let before = at g start c.args.kernel.now c.args.host.now c.args.sink.now in
    let args = map view (items_of c.args.args.now) in
    let s = g.M.Kernel.state c.args.kernel.now in
    let kills = (g.H.Host.state c.args.host.now).kills in
    work_behind program (Err c.refuse.result) before before (at g start c.args.kernel.now c.args.host.now c.refuse.new.sink) _ _ _ outwards
    (refused_went program before (prim_of c.args.prim) args target (fault_of c.in-Some.fault) c.requires.manner c.in-Some.ensures) (keeps_self before c.requires.ready.hosted)
    (work_left program c.refuse.result _ _ _ onwards _ outwards
    (work_unasked program (g.K.Sink.state c.args.sink.now) (g.K.Sink.state c.refuse.new.sink) (CallsSince g.H.Host.state g.H.Host.made start c.args.host.now) s s kills (Err c.refuse.result) _ onwards outwards (c.refuse.ensures kills c.requires.ready.hosted)))

pub waits::call_process-returns-in-AcceptProcessOutput : goal.waits::call_process-returns-in-AcceptProcessOutput
waits::call_process-returns-in-AcceptProcessOutput g t c = λ start target. rw c.in-AcceptProcessOutput.is (c.accept_output.ensures start target)

pub waits::call_process-returns-in-DeleteProcess : goal.waits::call_process-returns-in-DeleteProcess
waits::call_process-returns-in-DeleteProcess g t c = λ start target. rw c.in-DeleteProcess.is (c.delete_process.ensures start target)

pub waits::call_process-returns-in-KillBuffer : goal.waits::call_process-returns-in-KillBuffer
waits::call_process-returns-in-KillBuffer g t c = λ start target. rw c.in-KillBuffer.is (c.kill_buffer.ensures start target)

pub waits::accept_output-returns-in_err-wait : goal.waits::accept_output-returns-in_err-wait
waits::accept_output-returns-in_err-wait g t c = λ start target.
    let program = g.P.Program.meant c.args.program.now in
    let before = at g start c.args.kernel.now c.args.host.now c.args.sink.now in
    let args = map view (items_of c.args.args.now) in
    let s = g.M.Kernel.state c.args.kernel.now in
    rw (stopped_by c.from_residual.result (halt.Stop stop.NoMemory) c.from_residual.ensures)
    (item_wants program before (MakeCall AcceptProcessOutput args target) _ c.requires.ready.hosted (middle (λ s rest. (tt, tt))))

pub waits::accept_output-returns : goal.waits::accept_output-returns
waits::accept_output-returns g t c = λ start target.
    let program = g.P.Program.meant c.args.program.now in
    let before = at g start c.args.kernel.now c.args.host.now c.args.sink.now in
    let args = map view (items_of c.args.args.now) in
    let s = g.M.Kernel.state c.args.kernel.now in
    let after = at g start c.take_turns.new.kernel c.take_turns.new.host c.take_turns.new.sink in
    work_behind program c.take_turns.result before before after _ _ _ outwards (waits_went program before args target c.in_ok-wait.wait.waiting c.requires.passes c.in_ok-wait.ensures.waiting) (keeps_self before c.requires.ready.hosted) (c.take_turns.ensures start target)

pub waits::accept_output-take_turns-requires : goal.waits::accept_output-take_turns-requires
waits::accept_output-take_turns-requires g t c =
    let program = g.P.Program.meant c.args.program.now in
    let args = map view (items_of c.args.args.now) in
    let s = g.M.Kernel.state c.args.kernel.now in
    search (rules, c.requires.ready, wait_nests program s args c.requires.passes, c.in_ok-wait.ensures.room, level_falls program s s 3 4 t refl (omega arith) c.decreases)

pub waits::take_turns-loop-heard-init : goal.waits::take_turns-loop-heard-init
waits::take_turns-loop-heard-init g t c =
    record {
      went = λ start target. went_self (g.P.Program.meant c.args.program.now) (at g start c.args.kernel.now c.args.host.now c.args.sink.now) _;
      keeps = λ start. keeps_self (at g start c.args.kernel.now c.args.host.now c.args.sink.now) c.requires.ready.hosted;
      room = c.requires.room;
    }

pub waits::take_turns-loop-heard-preserved : goal.waits::take_turns-loop-heard-preserved
waits::take_turns-loop-heard-preserved g t c =
    record {
      went = λ start target.
          let program = g.P.Program.meant c.args.program.now in
          let before = at g start c.args.kernel.now c.args.host.now c.args.sink.now in
          let mid = at g start c.loop-heard.kernel c.loop-heard.host c.loop-heard.sink in
          let leads = λ (x : State) (h : Stands (g.M.Kernel.state c.loop-heard.kernel) x). c.in-Ask.ensures.machine x (c.processes-in-loop-heard.ensures ∙ ap (λ (y : State). y.processes) h) in
          let after = at g start c.ask.new.kernel c.ask.new.host c.ask.new.sink in
          let made = c.in_ok-ask-in-Ask.ensures.asks start c.loop-heard.wait.waiting target leads in
          went_then program before mid after _ _ _ (c.loop-heard.invariant.went start target) (went_of program c.in_ok-ask-in-Ask.field-0 mid after _ _ outwards made.path);
      keeps = λ start.
          let before = at g start c.args.kernel.now c.args.host.now c.args.sink.now in
          let mid = at g start c.loop-heard.kernel c.loop-heard.host c.loop-heard.sink in
          let leads = λ (x : State) (h : Stands (g.M.Kernel.state c.loop-heard.kernel) x). c.in-Ask.ensures.machine x (c.processes-in-loop-heard.ensures ∙ ap (λ (y : State). y.processes) h) in
          let after = at g start c.ask.new.kernel c.ask.new.host c.ask.new.sink in
          keeps_then before mid after (c.loop-heard.invariant.keeps start) (c.in_ok-ask-in-Ask.ensures.asks start c.loop-heard.wait.waiting Nowhere leads).stays;
      room = c.in_ok-ask-in-Ask.ensures.room ∙ c.in-Ask.ensures.room ∙ c.loop-heard.invariant.room;
    }

pub waits::take_turns-loop-heard-smaller : goal.waits::take_turns-loop-heard-smaller
waits::take_turns-loop-heard-smaller g t c =
    let room = ltb-true (g.M.Kernel.state c.loop-heard.kernel).asked 65536 c.in_ok-ask-in-Ask.ensures.may in
    omega (arith, room, c.in_ok-ask-in-Ask.ensures.asked)

pub waits::take_turns-returns-in-Done : goal.waits::take_turns-returns-in-Done
waits::take_turns-returns-in-Done g t c = λ start target.
    let program = g.P.Program.meant c.args.program.now in
    let before = at g start c.args.kernel.now c.args.host.now c.args.sink.now in
    let mid = at g start c.loop-heard.kernel c.loop-heard.host c.loop-heard.sink in
    let leads = λ (x : State) (h : Stands (g.M.Kernel.state c.loop-heard.kernel) x). c.in-Done.ensures.machine x (c.processes-in-loop-heard.ensures ∙ ap (λ (y : State). y.processes) h) in
    let k = c.loop-heard.invariant.keeps start in
    let kills = (g.H.Host.state c.loop-heard.host).kills in
    let known = g.M.Kernel.state c.loop-heard.kernel in
    let after = at g start c.loop-heard.kernel c.loop-heard.host c.tell.new.sink in
    let said = c.tell.ensures kills k.hosted target in
    work_behind program c.tell.result before mid after _ _ _ outwards
    (went_then program before mid mid _ _ _ (c.loop-heard.invariant.went start target) (rw c.truth.ensures (answers_went program mid c.loop-heard.wait.waiting target c.in-Done.heard c.next.new.self.waiting leads))) k
    (work_unasked program (g.K.Sink.state c.loop-heard.sink) (g.K.Sink.state c.tell.new.sink) (CallsSince g.H.Host.state g.H.Host.made start c.loop-heard.host) known known kills c.tell.result _ _ outwards said)

pub waits::take_turns-returns-in_err-ask-in-Ask : goal.waits::take_turns-returns-in_err-ask-in-Ask
waits::take_turns-returns-in_err-ask-in-Ask g t c = λ start target.
    let program = g.P.Program.meant c.args.program.now in
    let before = at g start c.args.kernel.now c.args.host.now c.args.sink.now in
    let mid = at g start c.loop-heard.kernel c.loop-heard.host c.loop-heard.sink in
    let leads = λ (x : State) (h : Stands (g.M.Kernel.state c.loop-heard.kernel) x). c.in-Ask.ensures.machine x (c.processes-in-loop-heard.ensures ∙ ap (λ (y : State). y.processes) h) in
    let after = at g start c.ask.new.kernel c.ask.new.host c.ask.new.sink in
    let h = c.in_err-ask-in-Ask.field-0.0 in
    let made = c.in_err-ask-in-Ask.ensures.asks start c.loop-heard.wait.waiting target leads in
    rw (stopped_by c.from_residual.result h c.from_residual.ensures)
    (work_left program h before after _ _ _ outwards (work_behind program (Err h) before mid after _ _ _ outwards (c.loop-heard.invariant.went start target) (c.loop-heard.invariant.keeps start) made))

pub waits::take_turns-ask-requires : goal.waits::take_turns-ask-requires
waits::take_turns-ask-requires g t c =
    let program = g.P.Program.meant c.args.program.now in
    let start = c.args.host.now in
    let before = at g start c.args.kernel.now c.args.host.now c.args.sink.now in
    let mid = at g start c.loop-heard.kernel c.loop-heard.host c.loop-heard.sink in
    let k = c.loop-heard.invariant.keeps start in
    let known = g.M.Kernel.state c.loop-heard.kernel in
    let low : known.depth < 16 = omega (arith, k.depth, c.requires.nesting) in
    search (rules, ready_then before mid c.requires.ready k, low, eligible_running known c.processes-in-loop-heard.result.now c.loop-heard.wait.waiting c.in-Ask.p c.processes-in-loop-heard.ensures c.in-Ask.ensures.eligible, level_falls program known (g.M.Kernel.state c.args.kernel.now) 2 3 t k.depth (omega arith) c.decreases)

pub waits::take_turns-next-requires : goal.waits::take_turns-next-requires
waits::take_turns-next-requires g t c =
    omega (arith, ap length c.processes.ensures, ap length c.processes-in-loop-heard.ensures, c.count-few.ensures.few, c.loop-heard.invariant.room)

pub waits::ask-returns-then-not-may_ask : goal.waits::ask-returns-then-not-may_ask
waits::ask-returns-then-not-may_ask g t c =
    let program = g.P.Program.meant c.args.program.now in
    let s = g.M.Kernel.state c.args.kernel.now in
    let kills = (g.H.Host.state c.args.host.now).kills in
    record {
      asks = λ start w target leads.
          let before = at g start c.args.kernel.now c.args.host.now c.args.sink.now in
          work_behind program (Err c.refuse.result) before before (at g start c.args.kernel.now c.args.host.now c.refuse.new.sink) _ _ _ outwards
          (waits_spent program before w target c.args.p c.args.wait.now.waiting (sym c.may_ask.ensures ∙ c.if-not-may_ask.true) leads) (keeps_self before c.requires.ready.hosted)
          (work_left program c.refuse.result _ _ _ onwards _ outwards
          (work_unasked program (g.K.Sink.state c.args.sink.now) (g.K.Sink.state c.refuse.new.sink) (CallsSince g.H.Host.state g.H.Host.made start c.args.host.now) s s kills (Err c.refuse.result) _ onwards outwards (c.refuse.ensures kills c.requires.ready.hosted)));
      asked = tt;
      may = tt;
      room = refl;
    }

pub waits::ask-returns-in_err-heard : goal.waits::ask-returns-in_err-heard
waits::ask-returns-in_err-heard g t c =
    let program = g.P.Program.meant c.args.program.now in
    let why = c.in_err-heard.field-0.0 in
    rw (stopped_by c.from_residual.result (halt.Stop why) c.from_residual.ensures) (record {
      asks = λ start w target leads. work_stopped program why _ _ _ _ _ outwards outwards (c.in_err-heard.ensures.hears (g.K.Sink.state c.args.sink.now) c.args.wait.now.waiting start w target leads);
      asked = tt;
      may = tt;
      room = refl;
    })

pub waits::ask-returns-in_err-enter_if : goal.waits::ask-returns-in_err-enter_if
waits::ask-returns-in_err-enter_if g t c =
    let program = g.P.Program.meant c.args.program.now in
    let why = c.in_err-enter_if.field-0.0 in
    rw (stopped_by c.from_residual-in_err-enter_if.result (halt.Stop why) c.from_residual-in_err-enter_if.ensures, c.note.ensures.waiting) (record {
      asks = λ start w target leads.
          let before = at g start c.args.kernel.now c.args.host.now c.args.sink.now in
          let mid = at g start c.hear.new.self c.hear.new.host c.args.sink.now in
          let after = at g start c.enter_if.new.kernel c.enter_if.new.host c.enter_if.new.sink in
          let heard = c.in_ok-heard.heard in
          let v2 = noted c.args.p heard.bytes c.args.wait.now.waiting in
          let first = c.in_ok-heard.ensures.hears (g.K.Sink.state c.args.sink.now) c.args.wait.now.waiting start w target leads in
          let went = went_of program heard before mid _ _ outwards first.path in
          work_stopped program why before after _ _ _ outwards outwards (work_behind program (Err (halt.Stop why)) before mid after _ _ _ outwards went first.stays
          (work_before program (Err (halt.Stop why)) mid after (λ rest. Wait v2 target ∷ rest) _ onwards outwards (wait_behind v2 target) (c.in_err-enter_if.ensures start)));
      asked = tt;
      may = tt;
      room = c.note.ensures.room;
    })

pub waits::ask-returns : goal.waits::ask-returns
waits::ask-returns g t c =
    let program = g.P.Program.meant c.args.program.now in
    rw c.note.ensures.waiting (record {
      asks = λ start w target leads.
          let before = at g start c.args.kernel.now c.args.host.now c.args.sink.now in
          let mid = at g start c.hear.new.self c.hear.new.host c.args.sink.now in
          let after = at g start c.enter_if.new.kernel c.enter_if.new.host c.enter_if.new.sink in
          let heard = c.in_ok-heard.heard in
          let v2 = noted c.args.p heard.bytes c.args.wait.now.waiting in
          let first = c.in_ok-heard.ensures.hears (g.K.Sink.state c.args.sink.now) c.args.wait.now.waiting start w target leads in
          let went = went_of program heard before mid _ _ outwards first.path in
          let entered = work_before program (Ok c.in_ok-enter_if.field-0) mid after (λ rest. Wait v2 target ∷ rest) _ onwards outwards (wait_behind v2 target) (c.in_ok-enter_if.ensures start) in
          let unit : Unit {0} = tt in
          work_done program unit before after _ _ outwards (went_then program before mid after _ _ _ went (went_of program c.in_ok-enter_if.field-0 mid after _ _ _ entered.path)) (keeps_then before mid after first.stays entered.stays);
      asked = (let later = (c.in_ok-enter_if.ensures c.args.host.now).stays in omega (arith, c.in_ok-heard.ensures.asked, later.asked));
      may = sym c.may_ask.ensures ∙ c.if-not-may_ask.false;
      room = c.note.ensures.room;
    })

pub waits::ask-enter_if-requires : goal.waits::ask-enter_if-requires
waits::ask-enter_if-requires g t c =
    let program = g.P.Program.meant c.args.program.now in
    let start = c.args.host.now in
    let before = at g start c.args.kernel.now c.args.host.now c.args.sink.now in
    let mid = at g start c.hear.new.self c.hear.new.host c.args.sink.now in
    let k = c.in_ok-heard.ensures.stays (g.K.Sink.state c.args.sink.now) start in
    let known = g.M.Kernel.state c.hear.new.self in
    let low : IsSome c.in_ok-heard.heard.entry → known.depth < 16 = λ some. omega (arith, k.depth, c.requires.nesting) in
    search (rules, ready_then before mid c.requires.ready k, low, c.in_ok-heard.ensures.heard, level_falls program known (g.M.Kernel.state c.args.kernel.now) 1 2 t k.depth (omega arith) c.decreases)

pub waits::enter_if-returns-in-None : goal.waits::enter_if-returns-in-None
waits::enter_if-returns-in-None g t c = λ start.
    let program = g.P.Program.meant c.args.program.now in
    let before = at g start c.args.kernel.now c.args.host.now c.args.sink.now in
    let unit : Unit {0} = tt in
    rw c.in-None.is (work_done program unit before before _ onwards outwards (went_self program before (λ s rest. working s rest)) (keeps_self before c.requires.ready.hosted))

pub waits::enter_if-returns-in_err-handle-in-Some : goal.waits::enter_if-returns-in_err-handle-in-Some
waits::enter_if-returns-in_err-handle-in-Some g t c = λ start.
    let program = g.P.Program.meant c.args.program.now in
    let why = c.in_err-handle-in-Some.field-0.0 in
    rw (stopped_by c.from_residual.result why c.from_residual.ensures, c.in-Some.is)
    (work_stopped program why _ _ _ _ onwards outwards outwards (c.in_err-handle-in-Some.ensures start))

pub waits::enter_if-returns-in_ok-handle-in-Some : goal.waits::enter_if-returns-in_ok-handle-in-Some
waits::enter_if-returns-in_ok-handle-in-Some g t c = λ start.
    let program = g.P.Program.meant c.args.program.now in
    let kind = kind_of c.in-Some.entry.kind in
    let before = at g start c.args.kernel.now c.args.host.now c.args.sink.now in
    let after = at g start c.handle.new.kernel c.handle.new.host c.handle.new.sink in
    let heard = rw c.in-Some.is at c.requires.heard in
    let made = c.in_ok-handle-in-Some.ensures start in
    let faulted = c.in_ok-handle-in-Some.field-0 in
    let unit : Unit {0} = tt in
    rw c.in-Some.is (work_done program unit before after _ onwards outwards (went_same program before after _ _ _ (λ s rest. ap (λ l. working s l) (heard_work kind faulted rest heard)) (went_of program faulted before after _ _ outwards made.path)) made.stays)

pub waits::enter_if-handle-requires : goal.waits::enter_if-handle-requires
waits::enter_if-handle-requires g t c =
    let program = g.P.Program.meant c.args.program.now in
    let s = g.M.Kernel.state c.args.kernel.now in
    let nests = rw c.in-Some.is at c.requires.nesting in
    search (rules, c.requires.ready, nest_enters s (nests refl), level_falls program s s 0 1 t refl (omega arith) c.decreases)

pub waits::delete-returns-in_err-entry : goal.waits::delete-returns-in_err-entry
waits::delete-returns-in_err-entry g t c = λ start.
    let program = g.P.Program.meant c.args.program.now in
    let why = c.in_err-entry.field-0.0 in
    rw (stopped_by c.from_residual.result why c.from_residual.ensures)
    (work_stopped program why _ _ _ _ onwards outwards outwards (c.in_err-entry.ensures.kills (g.K.Sink.state c.args.sink.now) start))

pub waits::delete-returns : goal.waits::delete-returns
waits::delete-returns g t c = λ start.
    let program = g.P.Program.meant c.args.program.now in
    let before = at g start c.args.kernel.now c.args.host.now c.args.sink.now in
    let mid = at g start c.kill.new.self c.kill.new.host c.args.sink.now in
    let after = at g start c.enter_if.new.kernel c.enter_if.new.host c.enter_if.new.sink in
    let killed = c.in_ok-entry.ensures.kills (g.K.Sink.state c.args.sink.now) start in
    work_behind program (lifted c.enter_if.result) before mid after _ _ onwards outwards (went_of program c.in_ok-entry.entry before mid _ _ outwards killed.path) killed.stays (c.enter_if.ensures start)

pub waits::delete-enter_if-requires : goal.waits::delete-enter_if-requires
waits::delete-enter_if-requires g t c =
    let program = g.P.Program.meant c.args.program.now in
    let start = c.args.host.now in
    let before = at g start c.args.kernel.now c.args.host.now c.args.sink.now in
    let mid = at g start c.kill.new.self c.kill.new.host c.args.sink.now in
    let k = (c.in_ok-entry.ensures.kills (g.K.Sink.state c.args.sink.now) start).stays in
    let known = g.M.Kernel.state c.kill.new.self in
    let low : IsSome c.in_ok-entry.entry → known.depth < 16 = λ some. omega (arith, k.depth, c.requires.nesting (c.in_ok-entry.ensures.running some)) in
    search (rules, ready_then before mid c.requires.ready k, low, c.in_ok-entry.ensures.heard, level_falls program known (g.M.Kernel.state c.args.kernel.now) 1 2 t k.depth (omega arith) c.decreases)

pub waits::delete_process-returns-in_err-delete : goal.waits::delete_process-returns-in_err-delete
waits::delete_process-returns-in_err-delete g t c = λ start target.
    let program = g.P.Program.meant c.args.program.now in
    let before = at g start c.args.kernel.now c.args.host.now c.args.sink.now in
    let args = map view (items_of c.args.args.now) in
    let s = g.M.Kernel.state c.args.kernel.now in
    let went = deletes_went program before args target c.process_given-p.result c.requires.passes c.process_given-p.ensures in
    let after = at g start c.delete.new.kernel c.delete.new.host c.delete.new.sink in
    let why = c.in_err-delete.field-0.0 in
    rw (stopped_by c.from_residual.result (halt.Stop why) c.from_residual.ensures)
    (work_stopped program why before after _ _ _ outwards outwards (work_behind program (Err (halt.Stop why)) before before after _ _ _ outwards went (keeps_self before c.requires.ready.hosted)
    (work_before program (Err (halt.Stop why)) before after (λ rest. GiveAnswer Nil target ∷ rest) _ onwards outwards (answer_behind Nil target) (c.in_err-delete.ensures start))))

pub waits::delete_process-returns : goal.waits::delete_process-returns
waits::delete_process-returns g t c = λ start target.
    let program = g.P.Program.meant c.args.program.now in
    let before = at g start c.args.kernel.now c.args.host.now c.args.sink.now in
    let args = map view (items_of c.args.args.now) in
    let s = g.M.Kernel.state c.args.kernel.now in
    let went = deletes_went program before args target c.process_given-p.result c.requires.passes c.process_given-p.ensures in
    let mid = at g start c.delete.new.kernel c.delete.new.host c.delete.new.sink in
    let after = at g start c.delete.new.kernel c.delete.new.host c.tell.new.sink in
    let first = work_before program (Ok c.in_ok-delete.field-0) before mid (λ rest. GiveAnswer Nil target ∷ rest) _ onwards outwards (answer_behind Nil target) (c.in_ok-delete.ensures start) in
    let kills = (g.H.Host.state c.delete.new.host).kills in
    let known = g.M.Kernel.state c.delete.new.kernel in
    work_behind program c.tell.result before mid after _ _ _ outwards (went_then program before before mid _ _ _ went (went_of program c.in_ok-delete.field-0 before mid _ _ _ first.path)) first.stays
    (work_unasked program (g.K.Sink.state c.delete.new.sink) (g.K.Sink.state c.tell.new.sink) (CallsSince g.H.Host.state g.H.Host.made start c.delete.new.host) known known kills c.tell.result _ _ outwards (rw nil_is at (c.tell.ensures kills first.stays.hosted target)))

pub waits::delete_process-delete-requires : goal.waits::delete_process-delete-requires
waits::delete_process-delete-requires g t c =
    let program = g.P.Program.meant c.args.program.now in
    let args = map view (items_of c.args.args.now) in
    let s = g.M.Kernel.state c.args.kernel.now in
    let nests : is_running s c.process_given-p.result ≡ true → s.depth < 16 = λ e. deletion_nests program s args c.requires.passes (ap (is_running s) (sym c.process_given-p.ensures) ∙ e) in
    search (rules, c.requires.ready, nests, level_falls program s s 2 3 t refl (omega arith) c.decreases)

pub waits::delete_all-loop-i-init : goal.waits::delete_all-loop-i-init
waits::delete_all-loop-i-init g t c =
    record {
      went = λ start. went_self (g.P.Program.meant c.args.program.now) (at g start c.args.kernel.now c.args.host.now c.args.sink.now) _;
      keeps = λ start. keeps_self (at g start c.args.kernel.now c.args.host.now c.args.sink.now) c.requires.ready.hosted;
    }

pub waits::delete_all-loop-i-preserved : goal.waits::delete_all-loop-i-preserved
waits::delete_all-loop-i-preserved g t c =
    record {
      went = λ start.
          let program = g.P.Program.meant c.args.program.now in
          let before = at g start c.args.kernel.now c.args.host.now c.args.sink.now in
          let doomed = c.args.doomed.now in
          let left = drop (c.loop-i.i + 1) doomed in
          let p = get_or doomed c.loop-i.i 0 in
          let next : drop c.loop-i.i doomed ≡ p ∷ left = rw add-one (drop-cons doomed c.loop-i.i 0 (omega arith)) in
          let mid = at g start c.loop-i.kernel c.loop-i.host c.loop-i.sink in
          let after = at g start c.delete.new.kernel c.delete.new.host c.delete.new.sink in
          let so_far = rw next at (c.loop-i.invariant.went start) in
          let done = work_before program (Ok c.in_ok-delete.field-0) mid after (λ rest. map Delete left ++ rest) (at_item (Delete p)) onwards outwards (deletes_behind left) (c.in_ok-delete.ensures start) in
          went_then program before mid after _ _ _ so_far (went_of program c.in_ok-delete.field-0 mid after _ _ _ done.path);
      keeps = λ start. keeps_then (at g start c.args.kernel.now c.args.host.now c.args.sink.now) (at g start c.loop-i.kernel c.loop-i.host c.loop-i.sink) (at g start c.delete.new.kernel c.delete.new.host c.delete.new.sink) (c.loop-i.invariant.keeps start) (c.in_ok-delete.ensures start).stays;
    }

pub waits::delete_all-returns-in_err-delete : goal.waits::delete_all-returns-in_err-delete
waits::delete_all-returns-in_err-delete g t c = λ start.
    let program = g.P.Program.meant c.args.program.now in
    let before = at g start c.args.kernel.now c.args.host.now c.args.sink.now in
    let doomed = c.args.doomed.now in
    let left = drop (c.loop-i.i + 1) doomed in
    let p = get_or doomed c.loop-i.i 0 in
    let next : drop c.loop-i.i doomed ≡ p ∷ left = rw add-one (drop-cons doomed c.loop-i.i 0 (omega arith)) in
    let mid = at g start c.loop-i.kernel c.loop-i.host c.loop-i.sink in
    let after = at g start c.delete.new.kernel c.delete.new.host c.delete.new.sink in
    let so_far = rw next at (c.loop-i.invariant.went start) in
    let why = c.in_err-delete.field-0.0 in
    rw (stopped_by c.from_residual.result why c.from_residual.ensures)
    (work_stopped program why before after _ _ onwards _ outwards (work_behind program (Err (halt.Stop why)) before mid after _ _ _ _ so_far (c.loop-i.invariant.keeps start)
    (work_before program (Err (halt.Stop why)) mid after (λ rest. map Delete left ++ rest) (at_item (Delete p)) onwards outwards (deletes_behind left) (c.in_err-delete.ensures start))))

pub waits::delete_all-returns : goal.waits::delete_all-returns
waits::delete_all-returns g t c = λ start.
    let program = g.P.Program.meant c.args.program.now in
    let before = at g start c.args.kernel.now c.args.host.now c.args.sink.now in
    let after = at g start c.loop-i.kernel c.loop-i.host c.loop-i.sink in
    let over = drop_all c.loop-i.i c.args.doomed.now (omega arith) in
    let unit : Unit {0} = tt in
    work_done program unit before after _ onwards outwards (rw over at (c.loop-i.invariant.went start)) (c.loop-i.invariant.keeps start)

pub waits::delete_all-delete-requires : goal.waits::delete_all-delete-requires
waits::delete_all-delete-requires g t c =
    let program = g.P.Program.meant c.args.program.now in
    let start = c.args.host.now in
    let before = at g start c.args.kernel.now c.args.host.now c.args.sink.now in
    let mid = at g start c.loop-i.kernel c.loop-i.host c.loop-i.sink in
    let k = c.loop-i.invariant.keeps start in
    let known = g.M.Kernel.state c.loop-i.kernel in
    let low : known.depth < 16 = omega (arith, k.depth, c.requires.nesting (omega arith)) in
    search (rules, ready_then before mid c.requires.ready k, low, level_falls program known (g.M.Kernel.state c.args.kernel.now) 2 3 t k.depth (omega arith) c.decreases)

pub waits::kill_buffer-returns-in_err-doomed : goal.waits::kill_buffer-returns-in_err-doomed
waits::kill_buffer-returns-in_err-doomed g t c = λ start target.
    let program = g.P.Program.meant c.args.program.now in
    let before = at g start c.args.kernel.now c.args.host.now c.args.sink.now in
    let args = map view (items_of c.args.args.now) in
    let s = g.M.Kernel.state c.args.kernel.now in
    rw (stopped_by c.from_residual.result (halt.Stop stop.NoMemory) c.from_residual.ensures)
    (item_wants program before (MakeCall KillBuffer args target) _ c.requires.ready.hosted (middle (λ s rest. (tt, tt))))

pub waits::kill_buffer-returns-in_err-delete_all : goal.waits::kill_buffer-returns-in_err-delete_all
waits::kill_buffer-returns-in_err-delete_all g t c = λ start target.
    let program = g.P.Program.meant c.args.program.now in
    let before = at g start c.args.kernel.now c.args.host.now c.args.sink.now in
    let args = map view (items_of c.args.args.now) in
    let s = g.M.Kernel.state c.args.kernel.now in
    let b = c.buffer_given-buffer.result in
    let ps = c.in_ok-doomed.doomed.items in
    let went = kills_went program before args target b ps c.requires.passes c.buffer_given-buffer.ensures c.in_ok-doomed.ensures in
    let after = at g start c.delete_all.new.kernel c.delete_all.new.host c.delete_all.new.sink in
    let why = c.in_err-delete_all.field-0.0 in
    rw (stopped_by c.from_residual-in_err-delete_all.result (halt.Stop why) c.from_residual-in_err-delete_all.ensures)
    (work_stopped program why before after _ _ _ outwards outwards (work_behind program (Err (halt.Stop why)) before before after _ _ _ outwards went (keeps_self before c.requires.ready.hosted)
    (work_before program (Err (halt.Stop why)) before after (λ rest. KillsBuffer b target ∷ rest) (deleting ps) onwards outwards (kills_behind b target) (rw c.as_slice.ensures.value at (c.in_err-delete_all.ensures start)))))

pub waits::kill_buffer-returns-in_err-reply : goal.waits::kill_buffer-returns-in_err-reply
waits::kill_buffer-returns-in_err-reply g t c = λ start target.
    let program = g.P.Program.meant c.args.program.now in
    let before = at g start c.args.kernel.now c.args.host.now c.args.sink.now in
    let args = map view (items_of c.args.args.now) in
    let s = g.M.Kernel.state c.args.kernel.now in
    let b = c.buffer_given-buffer.result in
    let ps = c.in_ok-doomed.doomed.items in
    let went = kills_went program before args target b ps c.requires.passes c.buffer_given-buffer.ensures c.in_ok-doomed.ensures in
    let mid = at g start c.delete_all.new.kernel c.delete_all.new.host c.delete_all.new.sink in
    let first = work_before program (Ok c.in_ok-delete_all.field-0) before mid (λ rest. KillsBuffer b target ∷ rest) (deleting ps) onwards outwards (kills_behind b target) (rw c.as_slice.ensures.value at (c.in_ok-delete_all.ensures start)) in
    let so_far = went_then program before before mid _ _ _ went (went_of program c.in_ok-delete_all.field-0 before mid _ _ _ first.path) in
    rw (stopped_by c.from_residual-in_err-reply.result (halt.Stop stop.NoMemory) c.from_residual-in_err-reply.ensures, c.in_err-reply.ensures.err)
    (work_wants program before mid _ _ _ outwards so_far first.stays.hosted (λ s rest h. (record { between = tt; before_end = tt }, refl)))

pub waits::kill_buffer-returns : goal.waits::kill_buffer-returns
waits::kill_buffer-returns g t c = λ start target.
    let program = g.P.Program.meant c.args.program.now in
    let before = at g start c.args.kernel.now c.args.host.now c.args.sink.now in
    let args = map view (items_of c.args.args.now) in
    let s = g.M.Kernel.state c.args.kernel.now in
    let b = c.buffer_given-buffer.result in
    let ps = c.in_ok-doomed.doomed.items in
    let went = kills_went program before args target b ps c.requires.passes c.buffer_given-buffer.ensures c.in_ok-doomed.ensures in
    let mid = at g start c.delete_all.new.kernel c.delete_all.new.host c.delete_all.new.sink in
    let first = work_before program (Ok c.in_ok-delete_all.field-0) before mid (λ rest. KillsBuffer b target ∷ rest) (deleting ps) onwards outwards (kills_behind b target) (rw c.as_slice.ensures.value at (c.in_ok-delete_all.ensures start)) in
    let so_far = went_then program before before mid _ _ _ went (went_of program c.in_ok-delete_all.field-0 before mid _ _ _ first.path) in
    let known = g.M.Kernel.state c.kill_live.new.self in
    let late = at g start c.kill_live.new.self c.delete_all.new.host c.delete_all.new.sink in
    let after = at g start c.kill_live.new.self c.delete_all.new.host c.tell.new.sink in
    let is = c.in_ok-reply.ensures.ok in
    let kept = keeps_same mid known first.stays.hosted (ap (λ (s : State). s.processes) is) (ap (λ (s : State). s.depth) is) (ap (λ (s : State). s.inhibited) is) (ap (λ (s : State). s.asked) is) in
    let kills = (g.H.Host.state c.delete_all.new.host).kills in
    work_behind program c.tell.result before late after _ _ _ outwards (went_then program before mid late _ _ _ so_far (killed_went program mid known b target (reply_of c.in_ok-reply.reply) is c.in_ok-reply.ensures.reply)) (keeps_then before mid late first.stays kept)
    (work_unasked program (g.K.Sink.state c.delete_all.new.sink) (g.K.Sink.state c.tell.new.sink) (CallsSince g.H.Host.state g.H.Host.made start c.delete_all.new.host) known known kills c.tell.result _ _ outwards (c.tell.ensures kills kept.hosted target))

pub waits::kill_buffer-delete_all-requires : goal.waits::kill_buffer-delete_all-requires
waits::kill_buffer-delete_all-requires g t c =
    let program = g.P.Program.meant c.args.program.now in
    let args = map view (items_of c.args.args.now) in
    let s = g.M.Kernel.state c.args.kernel.now in
    let ps = c.in_ok-doomed.doomed.items in
    let same : length c.as_slice.result.now ≡ length (running_in s (buffer_of s.editor (arg args 0))) = ap length c.as_slice.ensures.value ∙ ap length c.in_ok-doomed.ensures ∙ ap (λ b. length (running_in s b)) c.buffer_given-buffer.ensures in
    let nests : 0 < length c.as_slice.result.now → s.depth < 16 = λ some. killing_nests program s args c.requires.passes (lt-ltb 0 (length (running_in s (buffer_of s.editor (arg args 0)))) (omega (arith, same, some))) in
    search (rules, c.requires.ready, nests, level_falls program s s 3 4 t refl (omega arith) c.decreases)

pub waits::call_process-accept_output-requires : goal.waits::call_process-accept_output-requires
waits::call_process-accept_output-requires g t c =
    let program = g.P.Program.meant c.args.program.now in
    let args = map view (items_of c.args.args.now) in
    let s = g.M.Kernel.state c.args.kernel.now in
    let passes : Passes program s AcceptProcessOutput args = sym (rw c.in-AcceptProcessOutput.is at (rw c.in_default.is at c.refusal.ensures)) in
    search (rules, c.requires.ready, passes, level_falls program s s 4 5 t refl (omega arith) c.decreases)

pub waits::call_process-delete_process-requires : goal.waits::call_process-delete_process-requires
waits::call_process-delete_process-requires g t c =
    let program = g.P.Program.meant c.args.program.now in
    let args = map view (items_of c.args.args.now) in
    let s = g.M.Kernel.state c.args.kernel.now in
    let passes : Passes program s DeleteProcess args = sym (rw c.in-DeleteProcess.is at (rw c.in_default.is at c.refusal.ensures)) in
    search (rules, c.requires.ready, passes, level_falls program s s 3 5 t refl (omega arith) c.decreases)

pub waits::call_process-kill_buffer-requires : goal.waits::call_process-kill_buffer-requires
waits::call_process-kill_buffer-requires g t c =
    let program = g.P.Program.meant c.args.program.now in
    let args = map view (items_of c.args.args.now) in
    let s = g.M.Kernel.state c.args.kernel.now in
    let passes : Passes program s KillBuffer args = sym (rw c.in-KillBuffer.is at (rw c.in_default.is at c.refusal.ensures)) in
    search (rules, c.requires.ready, passes, level_falls program s s 4 5 t refl (omega arith) c.decreases)

pub waits::ask-hear-requires : goal.waits::ask-hear-requires
waits::ask-hear-requires g t c =
    let s = g.M.Kernel.state c.args.kernel.now in
    record { ready = c.requires.ready; asked = running_asked s c.args.p c.requires.running (sym c.may_ask.ensures ∙ c.if-not-may_ask.false) }

pub waits::call_process-call_other-requires : goal.waits::call_process-call_other-requires
waits::call_process-call_other-requires g t c =
    let passes = sym (rw c.in_default.is at c.refusal.ensures) in
    record { ready = c.requires.ready; manner = c.requires.manner; passes = passes; other = (c.in_default-prim.not-AcceptProcessOutput, c.in_default-prim.not-DeleteProcess, c.in_default-prim.not-KillBuffer) }
