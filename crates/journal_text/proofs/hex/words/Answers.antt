use Rattle.std.proofs.Common.{sym}
use Rattle.std.proofs.lemmas.List.{map-append}
use Rattle.ek_types.specs.Listing.{items_of}
use Rattle.host_link.specs.Meaning.{words_of}
use Rattle.journal_text.proofs.Arguments.{none_yet, ended, one_more, none_next, shorter}
use Rattle.journal_text.proofs.hex.words.Goals as goal

pub words-init : goal.words-init
words-init c = rw c.new-words.ensures (none_yet c.args.bytes.now)

pub returns-in-Some : goal.returns-in-Some
returns-in-Some c = sym (ended (words_of c.words.words) c.words.rest.now c.args.bytes.now c.in-Some.behind_arrow.now c.words.invariant (sym c.in-Some.ensures))

pub returns-in_default-2 : goal.returns-in_default-2
returns-in_default-2 c =
    let none = rw c.in_default-2.is at c.in_ok-word.ensures in
    sym (none_next (words_of c.words.words) c.words.rest.now c.args.bytes.now c.words.invariant (sym c.in_default.ensures) (sym none))

pub words-smaller : goal.words-smaller
words-smaller c =
    let e = rw c.in-Some-2.is at c.in_ok-word.ensures in
    shorter (items_of c.in-Some-2.word) c.words.rest.now c.in-Some-2.behind_word.now (sym e)

pub words-preserved : goal.words-preserved
words-preserved c =
    let e = rw c.in-Some-2.is at c.in_ok-word.ensures in
    rw (c.in_ok-push.ensures.ok, map-append items_of (items_of c.words.words) _)
    (one_more (words_of c.words.words) (items_of c.in-Some-2.word) c.words.rest.now c.in-Some-2.behind_word.now c.args.bytes.now c.words.invariant (sym c.in_default.ensures) (sym e))
