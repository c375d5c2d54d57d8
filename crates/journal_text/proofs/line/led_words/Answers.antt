use Rattle.std.proofs.Common.{arith, ap}
use Rattle.std.proofs.lemmas.List.{length-map}
use Rattle.text_model.proofs.Lists.{mapped_at}
use Rattle.ek_types.specs.Listing.{items_of}
use Rattle.host_link.specs.Meaning.{words_of}
use Rattle.journal_text.specs.Lines.{led_word}
use Rattle.journal_text.proofs.Gathering.{one_on, all_of}
use Rattle.sink_printer.proofs.Printing.{prints_then, prints_same, prints_nothing}
use Rattle.journal_text.proofs.line.led_words.Goals as goal

pub words-init : goal.words-init
words-init g c = prints_nothing

pub words-preserved : goal.words-preserved
words-preserved g c =
    prints_same (one_on led_word (words_of c.args.words.now) c.words.i (items_of c.at.result.now) (mapped_at items_of (items_of c.args.words.now) c.words.i c.at.result.now c.at.ensures))
    (prints_then c.words.invariant (prints_same (ap led_word c.as_slice.ensures) (prints_then c.put_byte.ensures c.word.ensures)))

pub returns : goal.returns
returns g c =
    let count = length-map (items_of c.args.words.now) items_of in
    prints_same (all_of led_word (words_of c.args.words.now) c.words.i (omega (arith, count, c.len-i-end.ensures, c.words-test.false))) c.words.invariant
