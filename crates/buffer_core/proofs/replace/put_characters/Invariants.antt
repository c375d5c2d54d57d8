use Rattle.std.proofs.Common.{◌≡◌, ◌+◌, ◌++◌, length, take, drop}
use Rattle.gap_text.specs.Text.{LiesIn, characters}
use Rattle.gap_text.specs.Blocks.{ChangesCellsOf}
use Rattle.prop_intervals.specs.Sets.{together}
use Rattle.buffer_core.specs.Meaning.{letters}
use Rattle.buffer_core.proofs.replace.put_characters.Given as goal

abbrev pub invariant-loop-piece : goal.invariant-loop-piece
invariant-loop-piece l =
    let old = characters l.initial.pool l.initial.text in
    record {
      lies : LiesIn l.pool l.text;
      text : characters l.pool l.text ≡ take l.at old ++ (letters (together (take l.piece-index l.pieces)) ++ drop l.at old);
      spare : l.text.spare + length (together (take l.piece-index l.pieces)) ≡ l.initial.text.spare;
      blocks : l.text.blocks ≡ l.initial.text.blocks;
      pool : ChangesCellsOf l.initial.text.blocks l.initial.pool l.pool;
    }
