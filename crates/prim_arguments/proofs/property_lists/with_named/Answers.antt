use Rattle.std.proofs.Common.{◌∙◌, ap, sym, Some}
use Rattle.ek_call.specs.Meaning.{view}
use Rattle.ek_types.specs.Listing.{items_of}
use Rattle.ek_types.specs.Property.{number_of}
use Rattle.editor_model.specs.Values.{as_prop}
use Rattle.prim_arguments.specs.PropertyArguments.{backwards}
use Rattle.prim_arguments.proofs.Pairing.{pushed_pair, pair_added}
use Rattle.prim_arguments.proofs.property_lists.with_named.Goals as goal

pub returns : goal.returns
returns c =
    ap Some (pushed_pair (items_of c.args.list) _ _ c.in_ok-push.ensures.ok)
    ∙ pair_added (number_of c.args.name) (as_prop (view c.args.value.now)) (backwards (items_of c.args.list)) _ (sym c.is_property_value.ensures ∙ c.if-not-is_property_value.false) (sym c.has_name.ensures ∙ c.if-has_name.false) c.in_ok-value.ensures.given
