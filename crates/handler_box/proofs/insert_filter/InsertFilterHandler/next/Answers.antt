use Rattle.std.proofs.Common.{map, sym, ◌∙◌}
use Rattle.ek_types.specs.Listing.{items_of}
use Rattle.ek_call.specs.Meaning.{view, reply_of}
use Rattle.handler_box.proofs.Along.{insert_unkept}
use Rattle.handler_box.proofs.insert_filter.InsertFilterHandler.next.Goals as goal

pub returns-then-not-are_as_wanted : goal.returns-then-not-are_as_wanted
returns-then-not-are_as_wanted c = sym (insert_unkept (map view (items_of c.args.args.now)) (map reply_of (items_of c.args.past.now)) (sym c.are_as_wanted.ensures ∙ c.if-not-are_as_wanted.true))
