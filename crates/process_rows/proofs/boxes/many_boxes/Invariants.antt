use Rattle.std.proofs.Common.{◌≡◌, vec_len}
use Rattle.process_rows.proofs.boxes.many_boxes.Given as goal

abbrev pub invariant-loop : goal.invariant-loop
invariant-loop g l = vec_len l.list ≡ l.counter
