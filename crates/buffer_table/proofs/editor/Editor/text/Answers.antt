use Rattle.std.proofs.Common.{arith, ap, length, ◌∙◌}
use Rattle.std.specs.Prelude.{slice_index_or}
use Rattle.buffer_table.proofs.Reading.{read_here}
use Rattle.buffer_table.proofs.editor.Editor.text.Goals as goal

pub of-requires : goal.of-requires
of-requires c =
    let found = c.in-Some-Some.ensures in
    let o = c.in-Some-Some.field-0.now in
    c.self.invariant.all.lie c.args.id c.in-Some-Some.live
    (read_here c.self.inside.buffers.items c.args.id o c.in-Some-Some.live (omega (arith, found.lookup.3.0, ap length c.deref.ensures.value)) (found.lookup.1 ∙ ap (λ l. slice_index_or l c.args.id o) c.deref.ensures.value) c.in-Some-Some.field-0-is)
