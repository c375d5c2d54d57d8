-- The body of a script's handler.
use Rattle.std.specs.Prelude.{ℕ, List, map}
use Rattle.editor_model.specs.Values.{Forms}
use Rattle.ek_types.specs.Listing.{items_of}
use Rattle.ek_types.specs.Property.{number_of}
use Rattle.ek_call.specs.Meaning.{form_of, joined}
use Rattle.handler_code.specs.declared.body.Body.{Body}

abbrev pub params_of : Body → List ℕ
params_of b = map number_of (items_of b.params)

abbrev pub forms_of : Body → Forms
forms_of b = joined (map form_of (items_of b.forms))
