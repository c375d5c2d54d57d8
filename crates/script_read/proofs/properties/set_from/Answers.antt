use Rattle.std.proofs.Common.{◌++◌, map, ap, sym, ◌∙◌, subst}
use Rattle.text_model.specs.Ordered.{IsProper}
use Rattle.ek_types.specs.Property.{pair_of}
use Rattle.script_read.specs.PropSets.{set_given}
use Rattle.script_read.proofs.Gathering.{proper_set, no_entries, entry_more, entries_done, fewer_entries}
use Rattle.script_read.proofs.properties.set_from.Goals as goal

pub entries-smaller : goal.entries-smaller
entries-smaller c = fewer_entries (c.in-Some.name, c.in-Some.value) c.entries.left.entries c.pop_first.new.self.entries c.in-Some.ensures.removal

pub entries-preserved : goal.entries-preserved
entries-preserved c =
    ap (λ l. l ++ set_given c.pop_first.new.self.entries) c.in_ok-push_given.ensures
    ∙ entry_more (map pair_of c.entries.pairs.items) c.in-Some.name c.in-Some.value c.entries.left.entries c.pop_first.new.self.entries (set_given c.args.given.entries) c.in-Some.ensures.removal c.entries.invariant

pub of_rising-requires : goal.of_rising-requires
of_rising-requires c =
    let done = entries_done (map pair_of c.entries.pairs.items) c.entries.left.entries (set_given c.args.given.entries) (no_entries c.entries.left.entries (λ more. let h = c.in_default.ensures.variant.1 more in cc)) c.entries.invariant in
    subst IsProper (sym done) (proper_set c.args.given.entries c.requires)

pub returns : goal.returns
returns c =
    c.of_rising.ensures ∙ entries_done (map pair_of c.entries.pairs.items) c.entries.left.entries (set_given c.args.given.entries) (no_entries c.entries.left.entries (λ more. let h = c.in_default.ensures.variant.1 more in cc)) c.entries.invariant
