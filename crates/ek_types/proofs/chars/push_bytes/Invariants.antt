use Rattle.std.proofs.Common.{◌≡◌, ◌+◌, ◌++◌, take}
use Rattle.std.specs.Prelude.{vec_len, vec_capacity}
use Rattle.ek_types.proofs.chars.push_bytes.Given as goal

abbrev pub invariant-loop-byte : goal.invariant-loop-byte
invariant-loop-byte l = record {
  items : l.codes.items ≡ l.initial.codes.items ++ take l.byte-index l.bytes;
  len : vec_len l.codes ≡ vec_len l.initial.codes + l.byte-index;
  capacity : vec_capacity l.codes ≡ vec_capacity l.initial.codes;
}
