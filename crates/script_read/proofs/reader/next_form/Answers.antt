use Rattle.std.proofs.Common.{◌-◌, map, sym, ◌∙◌, arith}
use Rattle.editor_model.specs.Values.{Form}
use Rattle.ek_types.specs.Listing.{items_of}
use Rattle.ek_call.specs.Meaning.{form_of}
use Rattle.script_read.specs.Reading.{State, Read}
use Rattle.script_read.specs.Forms.{form_after, forms_at}
use Rattle.script_read.proofs.Nexts.{form_next, form_unfit, some_form}
use Rattle.script_read.proofs.reader.next_form.Goals as goal

pub overflow_sub-len : goal.overflow_sub-len
overflow_sub-len c =
    let some = rw c.in-Some.is at c.in_ok-rest.ensures in
    let one : Read Form = form_after c.args.word.now (forms_at 16) (c.args.bytes.now, c.args.symbols.now) in
    let long = some_form form_of (items_of c.push_form.new.forms) one (map form_of (items_of c.args.forms.now)) (c.in-Some.rest.now, c.push_form.new.symbols) some in
    omega (arith, long, c.len.ensures)

pub at-requires : goal.at-requires
at-requires c =
    let some = rw c.in-Some.is at c.in_ok-rest.ensures in
    let one : Read Form = form_after c.args.word.now (forms_at 16) (c.args.bytes.now, c.args.symbols.now) in
    let long = some_form form_of (items_of c.push_form.new.forms) one (map form_of (items_of c.args.forms.now)) (c.in-Some.rest.now, c.push_form.new.symbols) some in
    omega (arith, long, c.len.ensures)

pub returns-then-not-branch-clause-none : goal.returns-then-not-branch-clause-none
returns-then-not-branch-clause-none c handlers =
    let some = rw c.in-Some.is at c.in_ok-rest.ensures in
    let one : Read Form = form_after c.args.word.now (forms_at 16) (c.args.bytes.now, c.args.symbols.now) in
    let next : State = (c.in-Some.rest.now, c.push_form.new.symbols) in
    let long = some_form form_of (items_of c.push_form.new.forms) one (map form_of (items_of c.args.forms.now)) next some in
    form_unfit form_of (items_of c.push_form.new.forms) (c.len.result - 1) c.at.result.now one (map form_of (items_of c.args.forms.now)) next c.args.registers.now handlers
    some (omega (arith, long, c.len.ensures)) c.at.ensures (sym c.in_ok-note_form.ensures.fit ∙ c.if-not-branch.true)

pub returns-clause-some : goal.returns-clause-some
returns-clause-some c handlers =
    let some = rw c.in-Some.is at c.in_ok-rest.ensures in
    let one : Read Form = form_after c.args.word.now (forms_at 16) (c.args.bytes.now, c.args.symbols.now) in
    let long = some_form form_of (items_of c.push_form.new.forms) one (map form_of (items_of c.args.forms.now)) (c.in-Some.rest.now, c.push_form.new.symbols) some in
    form_next form_of (items_of c.push_form.new.forms) (c.len.result - 1) c.at.result.now one (map form_of (items_of c.args.forms.now)) c.in-Some.rest.now c.push_form.new.symbols c.args.registers.now c.note_form.new.self handlers
    some (omega (arith, long, c.len.ensures)) c.at.ensures (sym c.in_ok-note_form.ensures.fit ∙ c.if-not-branch.false) (c.in_ok-note_form.ensures.names c.if-not-branch.false)
