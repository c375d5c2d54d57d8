use Rattle.std.proofs.Common.{sym, append-nil, [], ◌∷◌, take}
use Rattle.text_model.specs.Characters.{encoded}
use Rattle.text_model.proofs.Lists.{take_one_more}
use Rattle.ek_types.specs.Seen.{ch_of}
use Rattle.sink_printer.proofs.Printing.{prints_same}
use Rattle.final_view.proofs.Showing.{shows_then, shows_same}
use Rattle.final_view.proofs.strings.text.Goals as goal

pub loop-i-preserved : goal.loop-i-preserved
loop-i-preserved g c =
    let chars = c.args.text.now.items in
    let one = ch_of c.at.result ∷ [] in
    shows_same _ (take _ chars) (sym (take_one_more chars c.loop-i.i (ch_of c.at.result) c.at.ensures.item))
    (shows_then (take c.loop-i.i chars) one c.loop-i.invariant (prints_same (sym (append-nil (encoded (ch_of c.at.result)))) c.character.ensures))
