use Rattle.std.proofs.Common.{◌≡◌, map, take}
use Rattle.editor_model.specs.Values.{Const}
use Rattle.ek_types.specs.Listing.{items_of}
use Rattle.ek_call.specs.Meaning.{arg_of, view}
use Rattle.line_session.proofs.script.start.Given as goal

-- those so far
abbrev pub invariant-loop-i : goal.invariant-loop-i
invariant-loop-i l = map arg_of (items_of l.args) ≡ map Const (map view (take l.i (items_of l.command)))
