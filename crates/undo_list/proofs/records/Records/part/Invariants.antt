use Rattle.std.proofs.Common.{◌≡◌, take, drop, map}
use Rattle.text_model.specs.Undo.{kept_characters}
use Rattle.undo_list.specs.Records.{entry_of}
use Rattle.undo_list.proofs.records.Records.part.Given as goal

abbrev pub invariant-loop-i : goal.invariant-loop-i
invariant-loop-i l =
    (map entry_of l.entries.items ≡ drop l.from (take l.i (map entry_of l.self-inside.entries.items)))
    × (l.kept ≡ kept_characters (map entry_of l.entries.items))
