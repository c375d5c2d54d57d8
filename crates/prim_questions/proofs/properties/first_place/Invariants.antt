use Rattle.std.proofs.Common.{◌≡◌, ◌-◌, take, drop, option_map}
use Rattle.text_model.specs.Properties.{part, get, same_option, same_value}
use Rattle.text_model.specs.PropertyQuestions.{first_where}
use Rattle.editor_model.specs.Editor.{here}
use Rattle.ek_types.specs.Property.{number_of, prop_of}
use Rattle.buffer_table.specs.Kept.{editor_of}
use Rattle.prim_questions.specs.Searches.{wanted}
use Rattle.prim_questions.proofs.properties.first_place.Given as goal

abbrev pub invariant-runs : goal.invariant-runs
invariant-runs l =
    first_where (λ c. wanted l.has (same_option same_value (get c.1 (number_of l.name)) (option_map (λ v. prop_of v.now) l.value))) l.i (drop l.i (take l.to (here (editor_of l.editor)).text))
    ≡ first_where (λ c. wanted l.has (same_option same_value (get c.1 (number_of l.name)) (option_map (λ v. prop_of v.now) l.value))) l.from (part l.from l.to (here (editor_of l.editor)).text)

abbrev pub decreases-runs : goal.decreases-runs
decreases-runs l = l.to - l.i
