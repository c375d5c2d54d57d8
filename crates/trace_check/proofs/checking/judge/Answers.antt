use Rattle.std.proofs.Common.{◌<◌, ◌≤◌, length, subst, arith}
use Rattle.std.proofs.lemmas.List.{length-map}
use Rattle.ek_types.specs.Listing.{items_of}
use Rattle.host_link.specs.Meaning.{exchange_of, exchanges_of}
use Rattle.trace_check.specs.Verdicts.{IsVerdict}
use Rattle.trace_check.specs.declared.checking.Verdict.TheVariants as verdict
use Rattle.trace_check.proofs.Judging.{are_claimed, differ, ended_early}
use Rattle.trace_check.proofs.checking.judge.Goals as goal

pub returns-then-used-len : goal.returns-then-used-len
returns-then-used-len c = λ program script now used_is work_is come.
    let journal = exchanges_of c.args.journal.now in
    let claimed = c.args.sink.now.claimed in
    let left : now.used < length journal = omega (arith, used_is, c.len.ensures, length-map (items_of c.args.journal.now) exchange_of, c.if-used-len.true) in
    subst (λ n. IsVerdict program script journal claimed (verdict.Strayed n)) used_is (ended_early program script journal now c.args.sink.now.given come work_is claimed left)

pub returns-in-None : goal.returns-in-None
returns-in-None c = λ program script now used_is work_is come.
    let journal = exchanges_of c.args.journal.now in
    let used_up : length journal ≤ now.used = omega (arith, used_is, c.len.ensures, length-map (items_of c.args.journal.now) exchange_of, c.if-used-len.false) in
    are_claimed program script journal now c.args.sink.now.given come work_is used_up c.args.sink.now.claimed c.in-None.ensures.none

pub returns-in-Some : goal.returns-in-Some
returns-in-Some c = λ program script now used_is work_is come.
    let journal = exchanges_of c.args.journal.now in
    let used_up : length journal ≤ now.used = omega (arith, used_is, c.len.ensures, length-map (items_of c.args.journal.now) exchange_of, c.if-used-len.false) in
    differ program script journal now c.args.sink.now.given come work_is used_up c.args.sink.now.claimed c.in-Some.line c.in-Some.ensures.some
