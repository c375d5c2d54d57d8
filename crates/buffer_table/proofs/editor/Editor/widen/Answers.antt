use Rattle.std.proofs.Common.{◌∙◌, arith}
use Rattle.buffer_table.specs.Kept.{editor_of}
use Rattle.buffer_table.proofs.Shown.{widened_to}
use Rattle.buffer_table.proofs.editor.Editor.widen.Goals as goal

pub returns : goal.returns
returns c =
    c.narrow.ensures ∙ widened_to (editor_of c.args.self.now) c.args.id c.size-size.result c.size-size.ensures.exact (omega (arith, c.bounds-bounds.ensures.point, c.bounds-bounds.ensures.order, c.bounds-bounds.ensures.within, c.size-size.ensures.exact))
