use Rattle.std.proofs.Common.{◌≡◌, map, length, refl, ap, sym, ◌∙◌}
use Rattle.std.specs.Prelude.{string_bytes}
use Rattle.std.proofs.lemmas.Option.{slice_get_read}
use Rattle.text_model.proofs.Lists.{mapped_at}
use Rattle.plain_machine.specs.Run.{same_bytes}
use Rattle.ek_types.specs.Listing.{items_of}
use Rattle.host_link.specs.Meaning.{words_of}
use Rattle.trace_check.proofs.Words.{word_differs, word_agrees}
use Rattle.trace_check.proofs.asks.are_words.Goals as goal

pub returns-then-not-are_bytes : goal.returns-then-not-are_bytes
returns-then-not-are_bytes c =
    let words = c.args.words.now in
    let list = c.args.list.now in
    let i = c.loop-i.i in
    let x = string_bytes c.index-words-i.result in
    let y = items_of c.at.result.now in
    let at_x = mapped_at string_bytes words i c.index-words-i.result (slice_get_read words (length words) i c.index-words-i.result refl c.loop-i-test.true c.index-words-i.is) in
    let at_y = mapped_at items_of (items_of list) i c.at.result.now c.at.ensures in
    let same : c.are_bytes.result ≡ same_bytes x y = c.are_bytes.ensures ∙ ap (λ l. same_bytes l c.as_slice.result.now) c.as_bytes.ensures.value ∙ ap (same_bytes x) c.as_slice.ensures in
    word_differs (map string_bytes words) (words_of list) i x y c.loop-i.invariant at_x at_y (sym c.if-not-are_bytes.true ∙ same)

pub loop-i-preserved : goal.loop-i-preserved
loop-i-preserved c =
    let words = c.args.words.now in
    let list = c.args.list.now in
    let i = c.loop-i.i in
    let x = string_bytes c.index-words-i.result in
    let y = items_of c.at.result.now in
    let at_x = mapped_at string_bytes words i c.index-words-i.result (slice_get_read words (length words) i c.index-words-i.result refl c.loop-i-test.true c.index-words-i.is) in
    let at_y = mapped_at items_of (items_of list) i c.at.result.now c.at.ensures in
    let same : c.are_bytes.result ≡ same_bytes x y = c.are_bytes.ensures ∙ ap (λ l. same_bytes l c.as_slice.result.now) c.as_bytes.ensures.value ∙ ap (same_bytes x) c.as_slice.ensures in
    word_agrees (map string_bytes words) (words_of list) i x y c.loop-i.invariant at_x at_y (sym c.if-not-are_bytes.false ∙ same)
