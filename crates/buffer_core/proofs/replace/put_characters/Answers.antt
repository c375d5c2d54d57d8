use Rattle.std.proofs.Common.{◌≡◌, ℕ, ◌+◌, ◌-◌, ◌++◌, List, length, take, drop, refl, sym, ap, subst, ◌∙◌, arith}
use Rattle.std.specs.Prelude.{slice_get, Some}
use Rattle.std.proofs.lemmas.List.{length-map}
use Rattle.std.proofs.lemmas.Option.{slice_get_read}
use Rattle.text_model.specs.Properties.{Cell}
use Rattle.gap_text.specs.Blocks.{ChangesCellsOf}
use Rattle.gap_text.specs.Text.{characters}
use Rattle.gap_text.proofs.Moves.{one_more_change}
use Rattle.prop_intervals.specs.Sets.{together}
use Rattle.prop_intervals.proofs.Together.{length_more, length_within}
use Rattle.buffer_core.specs.Meaning.{letters}
use Rattle.buffer_core.proofs.Putting.{put_behind, letters_more}
use Rattle.buffer_core.proofs.Sizes.{length-spliced}
use Rattle.buffer_core.proofs.replace.put_characters.Goals as goal

pub insert-requires-clause-room : goal.insert-requires-clause-room
insert-requires-clause-room c =
    let pieces = c.args.pieces.now in
    let i = c.loop-piece.piece-index in
    let piece = c.piece-item.result in
    let at : slice_get pieces i ≡ Some piece = slice_get_read pieces (length pieces) i piece refl (omega (arith, c.loop-piece-test.true)) c.piece-item.is in
    let n : length c.text.result.now.items ≡ length piece = ap length c.text.ensures ∙ length-map piece (λ (x : Cell). x.0) in
    omega (arith, n, length_more pieces i piece at, length_within pieces (i + 1), c.loop-piece.invariant.spare, c.requires.room)

pub loop-piece-preserved : goal.loop-piece-preserved
loop-piece-preserved c =
    let pieces = c.args.pieces.now in
    let i = c.loop-piece.piece-index in
    let piece = c.piece-item.result in
    let at : slice_get pieces i ≡ Some piece = slice_get_read pieces (length pieces) i piece refl (omega (arith, c.loop-piece-test.true)) c.piece-item.is in
    let n : length c.text.result.now.items ≡ length piece = ap length c.text.ensures ∙ length-map piece (λ (x : Cell). x.0) in
    let old = characters c.args.pool.now c.args.text.now in
    let now = characters c.loop-piece.pool c.loop-piece.text in
    let front = letters (together (take i pieces)) in
    let size : c.len.result ≡ length old = c.len.ensures.characters c.args.pool.now c.requires.lies in
    let so_far : c.len-in-loop-piece.result ≡ length now = c.len-in-loop-piece.ensures.characters c.loop-piece.pool c.loop-piece.invariant.lies in
    let whole : length now ≡ length old - (c.args.at - c.args.at) + length front = ap length c.loop-piece.invariant.text ∙ length-spliced c.args.at c.args.at old front (omega arith) c.requires.place in
    let place : c.len-in-loop-piece.result - (c.len.result - c.args.at) ≡ c.args.at + length front = omega (arith, size, so_far, whole, c.requires.place) in
    record {
      lies = c.insert.ensures.lies;
      text = c.insert.ensures.characters
          ∙ put_behind c.args.at (c.len-in-loop-piece.result - (c.len.result - c.args.at)) old front c.text.result.now.items now c.requires.place c.loop-piece.invariant.text place
          ∙ ap (λ l. take c.args.at old ++ (l ++ drop c.args.at old)) (ap (λ m. front ++ m) c.text.ensures ∙ sym (letters_more pieces i piece at));
      spare = omega (arith, n, length_more pieces i piece at, c.loop-piece.invariant.spare, c.insert.ensures.spare);
      blocks = c.insert.ensures.blocks ∙ c.loop-piece.invariant.blocks;
      pool = one_more_change c.args.text.now.blocks c.args.pool.now c.loop-piece.pool c.insert.new.pool c.loop-piece.invariant.pool
          (subst (λ (blocks : List ℕ). ChangesCellsOf blocks c.loop-piece.pool c.insert.new.pool) c.loop-piece.invariant.blocks c.insert.ensures.pool);
    }
