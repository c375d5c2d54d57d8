use Rattle.std.proofs.Common.{map, refl, sym, ap, ◌∙◌}
use Rattle.std.proofs.lemmas.List.{map-append}
use Rattle.ek_types.specs.Listing.{items_of}
use Rattle.ek_call.specs.Meaning.{handler_of}
use Rattle.script_read.specs.Forms.{handler_at}
use Rattle.script_read.proofs.Nexts.{handler_next, handler_unfit}
use Rattle.script_read.proofs.reader.next_handler.Goals as goal

pub returns-then-not-is_fit-clause-none : goal.returns-then-not-is_fit-clause-none
returns-then-not-is_fit-clause-none c =
    let read = rw c.in-Some.is at c.in_ok-handler.ensures in
    handler_unfit (handler_at (c.args.bytes.now, c.args.symbols.now)) (handler_of c.in-Some.handler) (c.in-Some.rest.now, c.handler.new.symbols) c.args.registers.now (map handler_of (items_of c.args.handlers.now)) (sym read)
    (rw (sym c.is_fit.ensures ∙ c.if-not-is_fit.true) refl)

pub returns-then-not-branch-clause-none : goal.returns-then-not-branch-clause-none
returns-then-not-branch-clause-none c =
    let read = rw c.in-Some.is at c.in_ok-handler.ensures in
    handler_unfit (handler_at (c.args.bytes.now, c.args.symbols.now)) (handler_of c.in-Some.handler) (c.in-Some.rest.now, c.handler.new.symbols) c.args.registers.now (map handler_of (items_of c.args.handlers.now)) (sym read)
    (rw (sym c.is_fit.ensures ∙ c.if-not-is_fit.false) (sym c.in_ok-note_handler.ensures.fit ∙ c.if-not-branch.true))

pub returns-clause-some : goal.returns-clause-some
returns-clause-some c forms =
    let read = rw c.in-Some.is at c.in_ok-handler.ensures in
    handler_next (handler_at (c.args.bytes.now, c.args.symbols.now)) (handler_of c.in-Some.handler) c.in-Some.rest.now c.handler.new.symbols c.args.registers.now c.note_handler.new.self (map handler_of (items_of c.args.handlers.now)) (map handler_of (items_of c.push.new.self)) forms
    (sym read) (sym c.is_fit.ensures ∙ c.if-not-is_fit.false) (sym c.in_ok-note_handler.ensures.fit ∙ c.if-not-branch.false)
    (ap (map handler_of) c.in_ok-push.ensures.ok ∙ map-append handler_of (items_of c.args.handlers.now) _) (c.in_ok-note_handler.ensures.names c.if-not-branch.false)
