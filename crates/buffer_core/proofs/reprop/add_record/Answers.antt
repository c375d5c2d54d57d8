use Rattle.std.proofs.Common.{append-nil, refl, sym}
use Rattle.std.proofs.lemmas.List.{map-append}
use Rattle.std.proofs.lemmas.List.Elements.{All-push}
use Rattle.buffer_core.specs.Meaning.{CanBeUndone}
use Rattle.buffer_core.proofs.reprop.add_record.Goals as goal

pub returns-in_ok-push-clause-records : goal.returns-in_ok-push-clause-records
returns-in_ok-push-clause-records c = rw (c.in_ok-push.ensures.items, map-append, ← c.same_option.ensures, c.if-not-same_option.true, c.in_ok-copied.ensures) refl

pub returns-in_ok-push-clause-undoable : goal.returns-in_ok-push-clause-undoable
returns-in_ok-push-clause-undoable c all =
    rw (c.in_ok-push.ensures.items, map-append) (All-push CanBeUndone _ _ all (c.requires.order, rw c.in_ok-copied.ensures c.requires.value))

pub returns-else-not-same_option-clause-records : goal.returns-else-not-same_option-clause-records
returns-else-not-same_option-clause-records c = rw (← c.same_option.ensures, c.if-not-same_option.false) (sym (append-nil _))
