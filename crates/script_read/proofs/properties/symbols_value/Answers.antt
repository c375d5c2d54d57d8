use Rattle.std.proofs.Common.{map, sym, ◌∙◌}
use Rattle.std.proofs.lemmas.List.{length-map}
use Rattle.ek_types.specs.Listing.{items_of}
use Rattle.ek_types.specs.Property.{number_of}
use Rattle.ek_call.specs.Meaning.{view}
use Rattle.script_read.proofs.Gathering.{symbols_prop}
use Rattle.script_read.proofs.properties.symbols_value.Goals as goal

pub returns : goal.returns
returns c =
    let list = items_of c.args.list.now in
    sym (symbols_prop (map view list) (map number_of (items_of c.in-Some.names)) (λ none. c.if-len-eq0.false (c.len.ensures ∙ sym (length-map list view) ∙ none)) (sym (rw c.in-Some.is at c.in_ok-names.ensures)))
