use Rattle.std.proofs.Common.{length, filter_map, ap, ◌∙◌, arith}
use Rattle.text_model.specs.Characters.{from_code}
use Rattle.gap_text.specs.Text.{codes}
use Rattle.ek_types.proofs.Readings.{length-read}
use Rattle.gap_text.proofs.Texts.{length_characters}
use Rattle.gap_text.proofs.Elsewhere.{same_characters}
use Rattle.gap_text.proofs.Copying.{beside, still_beside}
use Rattle.gap_text.proofs.text.Text.copy.Goals as goal

pub fill-requires-clause-from_lies : goal.fill-requires-clause-from_lies
fill-requires-clause-from_lies c =
    (beside c.args.pool.now c.reserve.new.pool c.args.self.now c.new-text.result.blocks c.reserve.new.self.blocks c.new-text.ensures.blocks c.reserve.ensures.fresh c.reserve.ensures.others c.requires).same.lies

pub fill-requires-clause-empty : goal.fill-requires-clause-empty
fill-requires-clause-empty c =
    omega (arith, length_characters c.reserve.new.pool c.reserve.new.self c.reserve.ensures.lies, ap length c.reserve.ensures.characters, ap length (c.new-text.ensures.characters c.args.pool.now))

pub fill-requires-clause-apart : goal.fill-requires-clause-apart
fill-requires-clause-apart c =
    (beside c.args.pool.now c.reserve.new.pool c.args.self.now c.new-text.result.blocks c.reserve.new.self.blocks c.new-text.ensures.blocks c.reserve.ensures.fresh c.reserve.ensures.others c.requires).apart

pub fill-requires-clause-room : goal.fill-requires-clause-room
fill-requires-clause-room c =
    let b = beside c.args.pool.now c.reserve.new.pool c.args.self.now c.new-text.result.blocks c.reserve.new.self.blocks c.new-text.ensures.blocks c.reserve.ensures.fresh c.reserve.ensures.others c.requires in
    omega (arith, ap length b.same.codes, length-read (codes c.args.pool.now c.args.self.now) c.requires.codes, c.len.ensures.characters c.args.pool.now c.requires, c.in-Ok.ensures.room)

pub returns-in-Ok-clause-characters : goal.returns-in-Ok-clause-characters
returns-in-Ok-clause-characters c =
    let b = beside c.args.pool.now c.reserve.new.pool c.args.self.now c.new-text.result.blocks c.reserve.new.self.blocks c.new-text.ensures.blocks c.reserve.ensures.fresh c.reserve.ensures.others c.requires in
    ap (λ cs. filter_map from_code cs) (c.fill.ensures.codes ∙ b.same.codes)

pub returns-in-Ok-clause-source : goal.returns-in-Ok-clause-source
returns-in-Ok-clause-source c =
    let b = beside c.args.pool.now c.reserve.new.pool c.args.self.now c.new-text.result.blocks c.reserve.new.self.blocks c.new-text.ensures.blocks c.reserve.ensures.fresh c.reserve.ensures.others c.requires in
    (still_beside c.args.pool.now c.reserve.new.pool c.fill.new.pool c.args.self.now c.reserve.new.self.blocks b c.fill.ensures.pool.others).lies

pub returns-in-Ok-clause-source_characters : goal.returns-in-Ok-clause-source_characters
returns-in-Ok-clause-source_characters c =
    let b = beside c.args.pool.now c.reserve.new.pool c.args.self.now c.new-text.result.blocks c.reserve.new.self.blocks c.new-text.ensures.blocks c.reserve.ensures.fresh c.reserve.ensures.others c.requires in
    same_characters c.args.pool.now c.fill.new.pool c.args.self.now c.args.self.now (still_beside c.args.pool.now c.reserve.new.pool c.fill.new.pool c.args.self.now c.reserve.new.self.blocks b c.fill.ensures.pool.others)

pub returns-in-Err-clause-source : goal.returns-in-Err-clause-source
returns-in-Err-clause-source c =
    (beside c.args.pool.now c.reserve.new.pool c.args.self.now c.new-text.result.blocks c.reserve.new.self.blocks c.new-text.ensures.blocks c.reserve.ensures.fresh c.reserve.ensures.others c.requires).same.lies
