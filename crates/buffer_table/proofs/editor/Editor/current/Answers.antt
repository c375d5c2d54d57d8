use Rattle.std.proofs.Common.{length, ap, arith}
use Rattle.std.specs.Prelude.{option_map}
use Rattle.std.proofs.lemmas.List.{length-map}
use Rattle.buffer_table.specs.Kept.{Kept, live_of, editor_of}
use Rattle.buffer_table.proofs.KeptLemmas.{live_made}
use Rattle.buffer_table.proofs.editor.Editor.current.Goals as goal

pub returns-clause-made : goal.returns-clause-made
returns-clause-made c = omega (arith, c.self.invariant.all.few, live_made c.self.inside.buffers.items c.self.inside.current c.self.invariant.here)

pub returns-clause-counted : goal.returns-clause-counted
returns-clause-counted c =
    omega (
      arith,
      live_made c.self.inside.buffers.items c.self.inside.current c.self.invariant.here,
      ap (λ (k : Kept). length (editor_of k).buffers) c.self.view_is,
      length-map c.self.inside.buffers.items (option_map (live_of c.self.inside.pool)),
    )
