use Rattle.std.proofs.Common.{◌≡◌, ◌+◌, ◌*◌, ◌≤◌, length, map, drop}
use Rattle.editor_model.specs.TextCalls.{joined}
use Rattle.editor_model.specs.Answers.{first_fault}
use Rattle.editor_model.specs.Arguments.{must_be_string}
use Rattle.ek_types.specs.Listing.{items_of}
use Rattle.ek_call.specs.Meaning.{view}
use Rattle.prim_changes.proofs.inserts.must_be_strings.Given as goal

abbrev pub invariant-loop-i : goal.invariant-loop-i
invariant-loop-i l = record {
  test : first_fault (map must_be_string (drop l.i (map view (items_of l.args)))) ≡ first_fault (map must_be_string (map view (items_of l.args)));
  count : l.total + length (joined (drop l.i (map view (items_of l.args)))) ≡ length (joined (map view (items_of l.args)));
  few : l.total ≤ l.i * 0xffff_ffff_ffff_ffff;
}
