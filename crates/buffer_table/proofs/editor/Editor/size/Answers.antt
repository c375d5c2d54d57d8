use Rattle.std.proofs.Common.{length, sym, ap, ◌∙◌}
use Rattle.buffer_core.specs.Meaning.{Stored}
use Rattle.buffer_table.specs.Kept.{editor_of}
use Rattle.buffer_table.proofs.Shown.{shown_size, not_alive}
use Rattle.buffer_table.proofs.editor.Editor.size.Goals as goal

pub returns-in-Some-clause-exact : goal.returns-in-Some-clause-exact
returns-in-Some-clause-exact c =
    let s = shown_size (editor_of c.args.self.now) c.args.id c.len.result c.args.self.now.pool c.in-Some.buffer.now c.text.result.now c.text.ensures c.in-Some.ensures.shown c.in-Some.ensures.lies c.bounds-bounds.ensures.stored c.len.ensures.characters c.len.ensures.cells in
    sym s.0

pub returns-in-Some-clause-sets : goal.returns-in-Some-clause-sets
returns-in-Some-clause-sets c alive =
    let s = shown_size (editor_of c.args.self.now) c.args.id c.len.result c.args.self.now.pool c.in-Some.buffer.now c.text.result.now c.text.ensures c.in-Some.ensures.shown c.in-Some.ensures.lies c.bounds-bounds.ensures.stored c.len.ensures.characters c.len.ensures.cells in
    sym s.0 ∙ s.1 ∙ ap (λ (b : Stored). length b.sets) c.in-Some.ensures.named

pub returns-in-None-clause-sets : goal.returns-in-None-clause-sets
returns-in-None-clause-sets c alive = absurd (not_alive (editor_of c.args.self.now) c.args.id c.in-None.ensures.shown alive)
