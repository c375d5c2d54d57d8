-- Changes of property sets, as the program gives them.
use Rattle.std.specs.Prelude.{map}
use Rattle.text_model.specs.Properties as model
use Rattle.ek_types.specs.Listing.{items_of}
use Rattle.ek_types.specs.Property.{number_of}
use Rattle.prop_intervals.specs.declared.edit.PropEdit.{PropEdit}
use Rattle.prop_intervals.specs.declared.edit.PropEdit.TheVariants.{Add, Remove, Replace}

abbrev pub edit_of : PropEdit → model.PropEdit
edit_of (Add more gone) = model.Add more (map number_of (items_of gone))
edit_of (Remove gone) = model.Remove (map number_of (items_of gone))
edit_of (Replace new) = model.Replace new
