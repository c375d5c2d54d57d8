use Rattle.std.proofs.Common.{◌+◌, ◌<◌, length, ap, sym, ◌∙◌, arith}
use Rattle.std.specs.Prelude.{option_map}
use Rattle.std.proofs.lemmas.List.{length-map}
use Rattle.buffer_table.specs.Kept.{live_of, editor_of}
use Rattle.buffer_table.proofs.Shown.{characters_step, characters_all}
use Rattle.buffer_table.proofs.editor.Editor.characters.Goals as goal

pub loop-id-preserved : goal.loop-id-preserved
loop-id-preserved c =
    let within : c.loop-id.id < length (editor_of c.args.self.now).buffers = omega (arith, c.loop-id-test.true, c.count-id-end.ensures.number, length-map c.args.self.now.buffers (option_map (live_of c.args.self.now.pool))) in (
      ap (λ t. t + c.size.result) c.loop-id.invariant.0 ∙ sym (characters_step (editor_of c.args.self.now) c.loop-id.id c.size.result within c.size.ensures.exact),
      omega (arith, c.loop-id.invariant.1, c.size.type_inv),
    )

pub returns : goal.returns
returns c =
    characters_all (editor_of c.args.self.now) c.loop-id.id c.loop-id.total
    (omega (arith, c.loop-id-test.false, c.loop-id.auto.id-end, c.count-id-end.ensures.number, length-map c.args.self.now.buffers (option_map (live_of c.args.self.now.pool)))) c.loop-id.invariant.0
