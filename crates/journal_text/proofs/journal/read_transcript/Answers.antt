use Rattle.std.proofs.Common.{◌≡◌, ◌+◌, ◌≤◌, length, arith, refl, sym, subst}
use Rattle.std.proofs.lemmas.List.{length-map}
use Rattle.ek_types.specs.Listing.{items_of}
use Rattle.host_link.specs.Meaning.{exchanges_of, exchange_of}
use Rattle.plain_machine.specs.Grammar.{line_feeds}
use Rattle.journal_text.specs.Lines.{longest_session}
use Rattle.journal_text.specs.Transcripts.{IsTranscriptFault}
use Rattle.journal_text.proofs.Journals.{answered_from, same_line}
use Rattle.journal_text.proofs.Transcripts.{so_far, sizes, script_size, transcript_to, same_transcript, unclaimed_none, unended_none, unclaimed_fault, unended_fault}
use Rattle.journal_text.proofs.journal.read_transcript.Goals as goal

pub overflow_cast-line : goal.overflow_cast-line
overflow_cast-line c =
    let count = length-map (items_of c.in_ok-journal.journal) exchange_of in
    let front = so_far c.args.bytes.now (exchanges_of c.in_ok-journal.journal) c.in_ok-journal.rest.now c.in_ok-journal.ensures in
    omega (arith, count, front.few, c.len.ensures, c.requires)

pub overflow_add-line : goal.overflow_add-line
overflow_add-line c =
    let count = length-map (items_of c.in_ok-journal.journal) exchange_of in
    let front = so_far c.args.bytes.now (exchanges_of c.in_ok-journal.journal) c.in_ok-journal.rest.now c.in_ok-journal.ensures in
    omega (arith, count, front.few, c.len.ensures, c.requires)

pub returns-in_default-clause-line : goal.returns-in_default-clause-line
returns-in_default-clause-line c =
    let list = exchanges_of c.in_ok-journal.journal in
    let count = length-map (items_of c.in_ok-journal.journal) exchange_of in
    λ n h.
    let same = same_line _ n h in
    let number : length list + 1 ≡ n = omega (arith, same, count, c.len.ensures) in
    subst (IsTranscriptFault c.args.bytes.now) number (unclaimed_fault c.args.bytes.now list c.in_ok-journal.rest.now c.requires c.in_ok-journal.ensures (sym c.in_default.ensures))

pub returns-in_default-clause-none : goal.returns-in_default-clause-none
returns-in_default-clause-none c = λ n h. unclaimed_none c.args.bytes.now (exchanges_of c.in_ok-journal.journal) c.in_ok-journal.rest.now c.requires c.in_ok-journal.ensures (sym c.in_default.ensures)

pub returns-in_default-clause-found : goal.returns-in_default-clause-found
returns-in_default-clause-found c = λ list claimed script k e. absurd (unclaimed_none c.args.bytes.now (exchanges_of c.in_ok-journal.journal) c.in_ok-journal.rest.now c.requires c.in_ok-journal.ensures (sym c.in_default.ensures) list claimed script k e)

pub line_feeds-requires : goal.line_feeds-requires
line_feeds-requires c =
    let size = sizes c.args.bytes.now (exchanges_of c.in_ok-journal.journal) c.in_ok-journal.rest.now c.in-Some.claimed.now c.in-Some.last.now c.in_ok-journal.ensures (sym c.in-Some.ensures) in
    let few : length c.in-Some.claimed.now ≤ longest_session = omega (arith, size, c.requires) in
    few

pub overflow_add-result : goal.overflow_add-result
overflow_add-result c =
    let size = sizes c.args.bytes.now (exchanges_of c.in_ok-journal.journal) c.in_ok-journal.rest.now c.in-Some.claimed.now c.in-Some.last.now c.in_ok-journal.ensures (sym c.in-Some.ensures) in
    let feeds : c.line_feeds.result ≤ length c.in-Some.claimed.now = c.line_feeds.ensures.few in
    omega (arith, size, feeds, c.requires)

pub overflow_add-result-in_default-behind : goal.overflow_add-result-in_default-behind
overflow_add-result-in_default-behind c =
    let size = sizes c.args.bytes.now (exchanges_of c.in_ok-journal.journal) c.in_ok-journal.rest.now c.in-Some.claimed.now c.in-Some.last.now c.in_ok-journal.ensures (sym c.in-Some.ensures) in
    let feeds : c.line_feeds.result ≤ length c.in-Some.claimed.now = c.line_feeds.ensures.few in
    let count = length-map (items_of c.in_ok-journal.journal) exchange_of in
    let front = so_far c.args.bytes.now (exchanges_of c.in_ok-journal.journal) c.in_ok-journal.rest.now c.in_ok-journal.ensures in
    omega (arith, count, front.few, c.len.ensures, size, feeds, c.requires)

pub returns-in_default-behind-clause-line : goal.returns-in_default-behind-clause-line
returns-in_default-behind-clause-line c =
    let list = exchanges_of c.in_ok-journal.journal in
    let count = length-map (items_of c.in_ok-journal.journal) exchange_of in
    let feeds : c.line_feeds.result ≡ line_feeds c.in-Some.claimed.now = c.line_feeds.ensures.exact in
    λ n h.
    let same = same_line _ n h in
    let number : length list + 1 + (1 + line_feeds c.in-Some.claimed.now) ≡ n = omega (arith, same, count, feeds, c.len.ensures) in
    subst (IsTranscriptFault c.args.bytes.now) number (unended_fault c.args.bytes.now list c.in_ok-journal.rest.now c.in-Some.claimed.now c.in-Some.last.now c.in_ok-journal.ensures (sym c.in-Some.ensures) (sym c.in_default-behind.ensures))

pub returns-in_default-behind-clause-none : goal.returns-in_default-behind-clause-none
returns-in_default-behind-clause-none c =
    λ n h. unended_none c.args.bytes.now (exchanges_of c.in_ok-journal.journal) c.in_ok-journal.rest.now c.in-Some.claimed.now c.in-Some.last.now c.requires c.in_ok-journal.ensures (sym c.in-Some.ensures) (sym c.in_default-behind.ensures)

pub returns-in_default-behind-clause-found : goal.returns-in_default-behind-clause-found
returns-in_default-behind-clause-found c =
    λ list claimed script k e.
    absurd (unended_none c.args.bytes.now (exchanges_of c.in_ok-journal.journal) c.in_ok-journal.rest.now c.in-Some.claimed.now c.in-Some.last.now c.requires c.in_ok-journal.ensures (sym c.in-Some.ensures) (sym c.in_default-behind.ensures) list claimed script k e)

pub overflow_sub-to : goal.overflow_sub-to
overflow_sub-to c =
    let size = sizes c.args.bytes.now (exchanges_of c.in_ok-journal.journal) c.in_ok-journal.rest.now c.in-Some.claimed.now c.in-Some.last.now c.in_ok-journal.ensures (sym c.in-Some.ensures) in
    omega (arith, size)

pub overflow_sub-result : goal.overflow_sub-result
overflow_sub-result c =
    let size = sizes c.args.bytes.now (exchanges_of c.in_ok-journal.journal) c.in_ok-journal.rest.now c.in-Some.claimed.now c.in-Some.last.now c.in_ok-journal.ensures (sym c.in-Some.ensures) in
    omega (arith, size)

pub overflow_sub-result-2 : goal.overflow_sub-result-2
overflow_sub-result-2 c =
    let size = sizes c.args.bytes.now (exchanges_of c.in_ok-journal.journal) c.in_ok-journal.rest.now c.in-Some.claimed.now c.in-Some.last.now c.in_ok-journal.ensures (sym c.in-Some.ensures) in
    omega (arith, size, script_size c.in-Some.last.now c.in-Some-behind.script.now (sym c.in-Some-behind.ensures))

pub returns-clause-read : goal.returns-clause-read
returns-clause-read c =
    transcript_to c.args.bytes.now (exchanges_of c.in_ok-journal.journal) c.in_ok-journal.rest.now c.in-Some.claimed.now c.in-Some.last.now c.in-Some-behind.script.now _ _ _ c.in_ok-journal.ensures (sym c.in-Some.ensures) (sym c.in-Some-behind.ensures)
    (record { begins = refl; ends = refl; script_at = refl })

pub returns-clause-answered : goal.returns-clause-answered
returns-clause-answered c = answered_from 0 (exchanges_of c.in_ok-journal.journal) c.in_ok-journal.ensures.lines

pub returns-clause-found : goal.returns-clause-found
returns-clause-found c =
    λ list claimed script k e.
    same_transcript c.args.bytes.now (exchanges_of c.in_ok-journal.journal) c.in_ok-journal.rest.now c.in-Some.claimed.now c.in-Some.last.now c.in-Some-behind.script.now _ _ _ list claimed script c.requires c.in_ok-journal.ensures (sym c.in-Some.ensures) (sym c.in-Some-behind.ensures)
    (record { begins = refl; ends = refl; script_at = refl }) k e
