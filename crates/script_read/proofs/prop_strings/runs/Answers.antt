use Rattle.std.proofs.Common.{map, sym}
use Rattle.std.proofs.lemmas.List.{map-append}
use Rattle.ek_types.specs.Listing.{items_of}
use Rattle.script_read.specs.Runs.{run_of}
use Rattle.script_read.specs.PropStrings.{run_at}
use Rattle.script_read.proofs.Runs.{run_steps}
use Rattle.script_read.proofs.Listed.{none_yet, ended, one_more, none_next}
use Rattle.script_read.proofs.prop_strings.runs.Goals as goal

pub triples-init : goal.triples-init
triples-init c = rw c.new-list.ensures (none_yet run_at (c.args.bytes.now, c.args.symbols.now))

pub returns-in-Some : goal.returns-in-Some
returns-in-Some c =
    sym (ended run_at (map run_of (items_of c.triples.list)) (c.triples.rest.now, c.triples.symbols) (c.args.bytes.now, c.args.symbols.now) c.in-Some.behind.now c.triples.invariant (sym c.in-Some.ensures))

pub returns-in_default-2 : goal.returns-in_default-2
returns-in_default-2 c =
    let none = rw c.in_default-2.is at c.in_ok-next.ensures in
    sym (none_next run_at (map run_of (items_of c.triples.list)) (c.triples.rest.now, c.triples.symbols) (c.args.bytes.now, c.args.symbols.now) c.triples.invariant (sym c.in_default.ensures) (sym none))

pub triples-smaller : goal.triples-smaller
triples-smaller c =
    let e = rw c.in-Some-2.is at c.in_ok-next.ensures in
    run_steps.shorter (c.triples.rest.now, c.triples.symbols) (run_of c.in-Some-2.next) (c.in-Some-2.behind.now, c.next_run.new.symbols) (sym e)

pub triples-preserved : goal.triples-preserved
triples-preserved c =
    let e = rw c.in-Some-2.is at c.in_ok-next.ensures in
    rw (c.in_ok-push.ensures.ok, map-append run_of (items_of c.triples.list) _)
    (one_more run_at (map run_of (items_of c.triples.list)) (run_of c.in-Some-2.next) (c.triples.rest.now, c.triples.symbols) (c.in-Some-2.behind.now, c.next_run.new.symbols) (c.args.bytes.now, c.args.symbols.now) c.triples.invariant
    (sym c.in_default.ensures) (sym e) (run_steps.shorter (c.triples.rest.now, c.triples.symbols) (run_of c.in-Some-2.next) (c.in-Some-2.behind.now, c.next_run.new.symbols) (sym e)))
