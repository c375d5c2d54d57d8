use Rattle.std.proofs.Common.{◌≡◌, ◌≤◌, length, vec_len, vec_capacity}
use Rattle.std.specs.List.{range_with_len}
use Rattle.plain_machine.specs.Waits.{is_eligible}
use Rattle.process_table.specs.Table.{with_table}
use Rattle.wait_loop.specs.Aims.{waiting_for}
use Rattle.wait_loop.proofs.EligibleLemmas.{others}
use Rattle.wait_loop.proofs.aims.Aim.list_others.Given as goal

abbrev pub invariant-loop-p : goal.invariant-loop-p
invariant-loop-p l = record {
  end : l.p-end ≡ length l.table;
  room : vec_capacity l.asking ≡ vec_capacity l.fn.asking;
  few : vec_len l.asking ≤ l.p;
  listed : l.asking.items ≡ others (is_eligible (with_table l.table) (waiting_for l.self)) l.first (range_with_len 0 l.p);
}
