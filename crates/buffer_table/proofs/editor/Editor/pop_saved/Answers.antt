use Rattle.narrow_region.specs.Kept.{kept_of}
use Rattle.buffer_table.proofs.Shown.{kept_in}
use Rattle.buffer_table.proofs.editor.Editor.pop_saved.Goals as goal

pub returns-in-Some-clause-place : goal.returns-in-Some-clause-place
returns-in-Some-clause-place c =
    kept_in c.take_saved.new.self (kept_of c.in-Some.saved) c.size-size.result c.buffer_of-buffer.result c.buffer_of-buffer.ensures c.size-size.ensures.exact c.size-size.ensures.sets c.in-Some.ensures.within
