use Rattle.std.proofs.Common.{◌+◌, map, sym, append-nil, [], ◌∷◌, arith}
use Rattle.text_model.specs.Characters.{encoded}
use Rattle.text_model.specs.Properties.{part}
use Rattle.ek_types.specs.Seen.{ch_of}
use Rattle.sink_printer.proofs.Printing.{prints_same}
use Rattle.final_view.proofs.Showing.{shows_then, shows_same}
use Rattle.final_view.proofs.Visible.{part_more}
use Rattle.final_view.proofs.characters.all.Goals as goal

pub loop-i-preserved : goal.loop-i-preserved
loop-i-preserved g c =
    let cells = c.args.text.now.buffer.text in
    let i = c.loop-i.i in
    let x = ch_of c.ch.result in
    record {
      shown = shows_same _ (map (λ c. c.0) (part c.args.from (i + 1) cells)) (part_more c.args.from i cells x c.loop-i.invariant.behind c.ch.ensures)
          (shows_then (map (λ c. c.0) (part c.args.from i cells)) (x ∷ []) c.loop-i.invariant.shown (prints_same (sym (append-nil (encoded x))) c.character.ensures));
      behind = omega (arith, c.loop-i.invariant.behind);
    }
