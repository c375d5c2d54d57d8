use Rattle.std.proofs.Common.{length, ◌≡◌, ◌+◌, ◌≤◌, ◌++◌}
use Rattle.text_model.specs.Codings.{Utf8Dos, decoded, undecoded}
use Rattle.utf8_stream.proofs.decoding.open_dos.Given as goal

abbrev pub invariant-lines : goal.invariant-lines
invariant-lines l = record {
  items : l.out.items ++ decoded Utf8Dos l.rest ≡ l.initial.out.items ++ decoded Utf8Dos l.bytes;
  spare : l.out.spare + length (decoded Utf8Dos l.bytes) ≡ l.initial.out.spare + length (decoded Utf8Dos l.rest);
  room : length l.rest ≤ l.out.spare;
  tail : undecoded Utf8Dos l.rest ≡ undecoded Utf8Dos l.bytes;
}

abbrev pub decreases-lines : goal.decreases-lines
decreases-lines l = length l.rest
