use Rattle.std.proofs.Common.{ap, sym, ◌∙◌, length}
use Rattle.std.specs.Prelude.{◌==◌}
use Rattle.prim_changes.specs.Meaning.{text_of}
use Rattle.prim_changes.proofs.Strings.{nothing_inserted, something_inserted}
use Rattle.prim_changes.proofs.texts.insertion.Goals as goal

pub returns-then-are_empty : goal.returns-then-are_empty
returns-then-are_empty c =
    nothing_inserted c.args.buffer c.args.at (text_of c.args.pieces) c.args.all (ap (λ t. length t == 0) (sym c.as_slice.ensures) ∙ sym c.are_empty.ensures ∙ c.if-are_empty.true)

pub returns : goal.returns
returns c =
    something_inserted c.args.buffer c.args.at (text_of c.args.pieces) c.args.all (ap (λ t. length t == 0) (sym c.as_slice.ensures) ∙ sym c.are_empty.ensures ∙ c.if-are_empty.false)
