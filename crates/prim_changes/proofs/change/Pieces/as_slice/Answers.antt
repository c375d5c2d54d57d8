use Rattle.std.proofs.Common.{ap, sym, ◌∙◌, append-nil}
use Rattle.prop_intervals.specs.Sets.{together}
use Rattle.prim_changes.specs.Meaning.{text_of}
use Rattle.prim_changes.proofs.change.Pieces.as_slice.Goals as goal

pub returns-in-One : goal.returns-in-One
returns-in-One c = ap together c.from_ref.ensures.value ∙ append-nil _ ∙ ap text_of (sym c.in-One.is)

pub returns-in-Several : goal.returns-in-Several
returns-in-Several c = ap together c.as_slice.ensures.value ∙ ap text_of (sym c.in-Several.is)
