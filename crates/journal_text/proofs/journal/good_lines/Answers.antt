use Rattle.std.proofs.Common.{◌<◌, length, arith, sym}
use Rattle.std.proofs.lemmas.List.{map-append}
use Rattle.ek_types.specs.Listing.{items_of}
use Rattle.host_link.specs.Meaning.{exchanges_of, exchange_of}
use Rattle.journal_text.proofs.Journals.{none_yet, one_more, next_few, line_shorter}
use Rattle.journal_text.proofs.Transcripts.{lined_front}
use Rattle.journal_text.proofs.journal.good_lines.Goals as goal

pub lines-init : goal.lines-init
lines-init c = rw c.new-list.ensures (none_yet c.args.bytes.now)

pub lines-preserved : goal.lines-preserved
lines-preserved c =
    let e = rw c.in-Some.is at c.in_ok-line.ensures in
    rw (c.in_ok-push.ensures.ok, map-append exchange_of (items_of c.lines.list) _, c.next_child-next.ensures)
    (one_more c.args.bytes.now (exchanges_of c.lines.list) c.lines.next c.lines.rest.now (exchange_of c.in-Some.line) c.in-Some.behind_line.now c.lines.invariant (sym e))

pub lines-smaller : goal.lines-smaller
lines-smaller c =
    let e = rw c.in-Some.is at c.in_ok-line.ensures in
    let shorter = line_shorter c.lines.next c.lines.rest.now (exchange_of c.in-Some.line, c.in-Some.behind_line.now) (sym e) in
    let less : length c.in-Some.behind_line.now < length c.lines.rest.now = omega (arith, shorter) in
    less

pub next_child-next-requires : goal.next_child-next-requires
next_child-next-requires c =
    let few = next_few c.args.bytes.now (exchanges_of c.lines.list) c.lines.next c.lines.rest.now c.lines.invariant in
    omega (arith, few, c.lines.invariant.few, c.requires)

pub returns-in_default : goal.returns-in_default
returns-in_default c =
    let none = rw c.in_default.is at c.in_ok-line.ensures in
    lined_front c.args.bytes.now (exchanges_of c.lines.list) c.lines.next c.lines.rest.now c.lines.invariant (sym none)
