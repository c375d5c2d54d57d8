use Rattle.std.proofs.Common.{◌≡◌, ◌+◌, ◌-◌, length, arith, refl, sym, subst}
use Rattle.std.proofs.lemmas.List.{length-map}
use Rattle.ek_types.specs.Listing.{items_of}
use Rattle.host_link.specs.Meaning.{exchanges_of, exchange_of}
use Rattle.plain_machine.specs.Exchanges.{children_started}
use Rattle.journal_text.specs.Journals.{IsFaultLine}
use Rattle.journal_text.proofs.Journals.{read_to, answered_from, same_reading, fault_line, no_journal, script_few, same_line}
use Rattle.journal_text.proofs.Transcripts.{so_far, unlined}
use Rattle.journal_text.proofs.journal.read_journal.Goals as goal

pub overflow_cast-result : goal.overflow_cast-result
overflow_cast-result c =
    let count = length-map (items_of c.in_ok-list.list) exchange_of in
    let front = so_far c.args.bytes.now (exchanges_of c.in_ok-list.list) c.in_ok-list.rest.now c.in_ok-list.ensures in
    omega (arith, count, front.few, c.len.ensures, c.requires)

pub overflow_add-result : goal.overflow_add-result
overflow_add-result c =
    let count = length-map (items_of c.in_ok-list.list) exchange_of in
    let front = so_far c.args.bytes.now (exchanges_of c.in_ok-list.list) c.in_ok-list.rest.now c.in_ok-list.ensures in
    omega (arith, count, front.few, c.len.ensures, c.requires)

pub overflow_sub-result : goal.overflow_sub-result
overflow_sub-result c =
    let list = exchanges_of c.in_ok-list.list in
    script_few c.args.bytes.now list (length (children_started list)) c.in_ok-list.rest.now c.in-Some.script.now (so_far c.args.bytes.now list c.in_ok-list.rest.now c.in_ok-list.ensures) (sym c.in-Some.ensures)

pub returns-in-Some-clause-read : goal.returns-in-Some-clause-read
returns-in-Some-clause-read c =
    let list = exchanges_of c.in_ok-list.list in
    read_to c.args.bytes.now list (length (children_started list)) c.in_ok-list.rest.now c.in-Some.script.now (length c.args.bytes.now - length c.in-Some.script.now) (so_far c.args.bytes.now list c.in_ok-list.rest.now c.in_ok-list.ensures) (sym c.in-Some.ensures) refl

pub returns-in-Some-clause-answered : goal.returns-in-Some-clause-answered
returns-in-Some-clause-answered c = answered_from 0 (exchanges_of c.in_ok-list.list) c.in_ok-list.ensures.lines

pub returns-in-Some-clause-found : goal.returns-in-Some-clause-found
returns-in-Some-clause-found c =
    let list = exchanges_of c.in_ok-list.list in
    λ other script k f.
    same_reading c.args.bytes.now list (length (children_started list)) c.in_ok-list.rest.now c.in-Some.script.now (length c.args.bytes.now - length c.in-Some.script.now) other script (so_far c.args.bytes.now list c.in_ok-list.rest.now c.in_ok-list.ensures) (sym c.in-Some.ensures) refl k f

pub returns-in-None-clause-line : goal.returns-in-None-clause-line
returns-in-None-clause-line c =
    let list = exchanges_of c.in_ok-list.list in
    let count = length-map (items_of c.in_ok-list.list) exchange_of in
    let front = so_far c.args.bytes.now list c.in_ok-list.rest.now c.in_ok-list.ensures in
    λ n h.
    let same = same_line _ n h in
    let number : length list + 1 ≡ n = omega (arith, same, count, c.len.ensures) in
    subst (IsFaultLine c.args.bytes.now) number (fault_line c.args.bytes.now list (length (children_started list)) c.in_ok-list.rest.now front (sym c.in-None.ensures) (unlined c.args.bytes.now list c.in_ok-list.rest.now c.in_ok-list.ensures))

pub returns-in-None-clause-none : goal.returns-in-None-clause-none
returns-in-None-clause-none c =
    let list = exchanges_of c.in_ok-list.list in
    let front = so_far c.args.bytes.now list c.in_ok-list.rest.now c.in_ok-list.ensures in
    λ n h. no_journal c.args.bytes.now list (length (children_started list)) c.in_ok-list.rest.now front (sym c.in-None.ensures) (unlined c.args.bytes.now list c.in_ok-list.rest.now c.in_ok-list.ensures)

pub returns-in-None-clause-found : goal.returns-in-None-clause-found
returns-in-None-clause-found c =
    let list = exchanges_of c.in_ok-list.list in
    let front = so_far c.args.bytes.now list c.in_ok-list.rest.now c.in_ok-list.ensures in
    λ other script k f. absurd (no_journal c.args.bytes.now list (length (children_started list)) c.in_ok-list.rest.now front (sym c.in-None.ensures) (unlined c.args.bytes.now list c.in_ok-list.rest.now c.in_ok-list.ensures) other script k f)
