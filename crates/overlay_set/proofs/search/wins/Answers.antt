use Rattle.std.proofs.Common.{◌≡◌, true, false, not, nat_lt, map, ap}
use Rattle.std.proofs.lemmas.Bool.{lt-ltb, le-ltb}
use Rattle.overlay_set.specs.Numbered.{overlay_at}
use Rattle.overlay_set.specs.Slots.{bare_of}
use Rattle.overlay_set.proofs.Lists.{slot_at}
use Rattle.overlay_set.proofs.search.wins.Goals as goal

pub returns-then-other-entry : goal.returns-then-other-entry
returns-then-other-entry c =
    let slots = c.args.slots.now in
    let own : overlay_at (map bare_of slots) c.args.entry.number ≡ bare_of c.index-slots-entry.result = slot_at slots c.args.entry.number c.index-slots-entry.result c.requires.made c.index-slots-entry.is in
    let rival : overlay_at (map bare_of slots) c.args.other.number ≡ bare_of c.index-slots-other.result = slot_at slots c.args.other.number c.index-slots-other.result c.requires.other c.index-slots-other.is in
    let later : nat_lt c.args.other.number c.args.entry.number ≡ true = lt-ltb c.args.other.number c.args.entry.number c.if-other-entry.true in
    rw (later, own, rival) c.outranks.ensures

pub returns-else-other-entry : goal.returns-else-other-entry
returns-else-other-entry c =
    let slots = c.args.slots.now in
    let own : overlay_at (map bare_of slots) c.args.entry.number ≡ bare_of c.index-slots-entry.result = slot_at slots c.args.entry.number c.index-slots-entry.result c.requires.made c.index-slots-entry.is in
    let rival : overlay_at (map bare_of slots) c.args.other.number ≡ bare_of c.index-slots-other.result = slot_at slots c.args.other.number c.index-slots-other.result c.requires.other c.index-slots-other.is in
    let earlier : nat_lt c.args.other.number c.args.entry.number ≡ false = le-ltb c.args.other.number c.args.entry.number c.if-other-entry.false in
    rw (earlier, own, rival) (ap not c.outranks-else-other-entry.ensures)
