use Rattle.std.proofs.Common.{◌≡◌, map, take}
use Rattle.ek_types.specs.Listing.{items_of}
use Rattle.ek_call.specs.Meaning.{arg_of}
use Rattle.line_drill.specs.DrillForms.{word_of}
use Rattle.line_drill.proofs.drill_script.call.Given as goal

abbrev pub invariant-loop-word : goal.invariant-loop-word
invariant-loop-word l = map arg_of (items_of l.args) ≡ map word_of (take l.word-index l.words)
