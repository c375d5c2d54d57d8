use Rattle.std.proofs.Common.{Some, option_map, subst, Bool}
use Rattle.ek_types.specs.Property.{number_of, prop_of}
use Rattle.script_read.specs.PropStrings.{with_property}
use Rattle.script_read.specs.PropSets.{Adds}
use Rattle.script_read.proofs.Gathering.{noted, opposite}
use Rattle.script_read.proofs.properties.note.Goals as goal

pub returns : goal.returns
returns c named g =
    let named_so = noted c.args.given.now.entries c.insert.new.self.entries (number_of c.args.name) c.args.value c.in_ok-before.before named c.requires c.in_ok-before.ensures.old c.in_ok-before.ensures.entries c.in_ok-before.ensures.updates.0 g in
    subst (λ (b : Bool). Adds b (with_property (number_of c.args.name) (Some (option_map prop_of c.args.value)) named) c.insert.new.self.entries) (opposite c.in_ok-before.before c.is_none.result c.is_none.ensures) named_so
