use Rattle.std.proofs.Common.{◌≡◌, List, map, ◌+◌, refl, ap, ◌∙◌, ◌++◌, ◌∷◌, [], arith}
use Rattle.editor_model.specs.Arguments.{arg, name_of}
use Rattle.plain_machine.specs.State.{State, Process}
use Rattle.plain_machine.specs.Arguments.{find_process}
use Rattle.plain_machine.specs.Calls.{with_editor, with_process_buffer, process_buffer}
use Rattle.process_table.specs.Table.{new_process}
use Rattle.ek_types.specs.Listing.{items_of}
use Rattle.ek_call.specs.Meaning.{view}
use Rattle.buffer_table.specs.Kept.{editor_of}
use Rattle.kernel_state.specs.Meaning.{state_of}
use Rattle.kernel_state.specs.Starting.{with_end}
use Rattle.kernel_state.proofs.Starts.{all_started, lives_now, name_is_free}
use Rattle.kernel_state.proofs.starting.start_in.Goals as goal

pub make_mark-mark-requires-clause-live : goal.make_mark-mark-requires-clause-live
make_mark-mark-requires-clause-live c =
    let e = (state_of c.args.kernel.now).editor in
    let now = editor_of c.make_buffer.new.kernel.editor in
    lives_now e now (arg (map view (items_of c.args.args.now)) 1) c.process_buffer-id.result c.requires.may.buffer
    (ap (λ (s : State). s.editor) c.make_buffer.ensures ∙ ap (λ v. with_process_buffer v e) c.arg-b.ensures)
    (c.process_buffer-id.ensures ∙ ap (process_buffer now) c.arg-b.ensures)

pub add_reserved-requires-clause-free : goal.add_reserved-requires-clause-free
add_reserved-requires-clause-free c =
    let s = state_of c.args.kernel.now in
    let named = c.args.place.process.name in
    ap (λ (table : List Process). find_process 0 table named) (ap (λ (x : State). x.processes) c.make_mark-mark.ensures.state ∙ ap (λ (x : State). x.processes) c.make_buffer.ensures)
    ∙ ap (find_process 0 s.processes) c.requires.place.name
    ∙ name_is_free s.processes (name_of (arg (map view (items_of c.args.args.now)) 0)) (omega (arith, c.requires.may.processes))

pub returns-clause-state : goal.returns-clause-state
returns-clause-state c =
    let s = state_of c.args.kernel.now in
    let name = arg (map view (items_of c.args.args.now)) 0 in
    let b = arg (map view (items_of c.args.args.now)) 1 in
    let now = editor_of c.make_buffer.new.kernel.editor in
    let id = c.process_buffer-id.result in
    let after = state_of c.make_mark-mark.new.kernel in
    let table : List Process = c.add_reserved.new.self in
    let whole : after ≡ with_editor (with_end id now) s = c.make_mark-mark.ensures.state ∙ ap (with_editor (with_end id now)) c.make_buffer.ensures in
    ap (λ (x : State). let y : State = record x { processes = table; asked = x.asked + 1 } in y) whole
    ∙ all_started s name b c.args.child now (with_end id now) id c.make_mark-mark.result c.args.place.process.name table
    (ap (λ (x : State). x.editor) c.make_buffer.ensures ∙ ap (λ v. with_process_buffer v s.editor) c.arg-b.ensures)
    (c.process_buffer-id.ensures ∙ ap (process_buffer now) c.arg-b.ensures)
    refl
    c.make_mark-mark.ensures.number
    c.requires.place.name
    (c.add_reserved.ensures.table ∙ ap (λ (ps : List Process). ps ++ new_process c.args.place.process.name c.args.child id c.make_mark-mark.result ∷ []) (ap (λ (x : State). x.processes) whole))
