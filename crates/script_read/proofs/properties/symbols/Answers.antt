use Rattle.std.proofs.Common.{map, ap, ◌∙◌, sym, drop, ◌+◌}
use Rattle.std.proofs.lemmas.List.{map-append}
use Rattle.editor_model.specs.Values.{values, symbol_names}
use Rattle.ek_types.specs.Listing.{items_of}
use Rattle.ek_types.specs.Property.{number_of}
use Rattle.ek_call.specs.Meaning.{view}
use Rattle.script_read.proofs.Gathering.{names_before, name_before, drop_next, no_symbol}
use Rattle.script_read.proofs.properties.symbols.Goals as goal

pub returns-in_default : goal.returns-in_default
returns-in_default c =
    let list = items_of c.args.list.now in
    let v = view c.at.result.now in
    sym (c.loop-i.invariant ∙ ap (λ l. names_before (map number_of (items_of c.loop-i.names)) (symbol_names (values l))) (drop_next view list c.loop-i.i c.at.result.now c.at.ensures)
    ∙ ap (names_before (map number_of (items_of c.loop-i.names))) (no_symbol v (map view (drop (c.loop-i.i + 1) list)) (sym c.in_default.ensures.kind)))

pub loop-i-preserved : goal.loop-i-preserved
loop-i-preserved c =
    let list = items_of c.args.list.now in
    let more = map view (drop (c.loop-i.i + 1) list) in
    rw (c.in_ok-push.ensures.ok, map-append number_of (items_of c.loop-i.names) _)
    (c.loop-i.invariant ∙ ap (λ l. names_before (map number_of (items_of c.loop-i.names)) (symbol_names (values l))) (drop_next view list c.loop-i.i c.at.result.now c.at.ensures)
    ∙ name_before (map number_of (items_of c.loop-i.names)) (view c.at.result.now) (number_of c.in-Some.name) more c.in-Some.ensures.value)
