use Rattle.std.proofs.Common.{◌≡◌, ◌+◌, ◌++◌, map, take}
use Rattle.text_model.specs.Characters.{Raw}
use Rattle.utf8_stream.proofs.decoding.put_raw.Given as goal

abbrev pub invariant-loop-byte : goal.invariant-loop-byte
invariant-loop-byte l = record {
  items : l.out.items ≡ l.initial.out.items ++ map Raw (take l.byte-index l.part);
  spare : l.out.spare + l.byte-index ≡ l.initial.out.spare;
}
