use Rattle.std.proofs.Common.{◌≡◌, ◌++◌, map, drop}
use Rattle.plain_machine.specs.Calls.{listed}
use Rattle.ek_types.specs.Listing.{items_of}
use Rattle.ek_call.specs.Meaning.{view}
use Rattle.kernel_state.specs.Meaning.{state_of}
use Rattle.kernel_state.proofs.ProcessCalls.{listed_from}
use Rattle.kernel_state.proofs.setting.process_list.Given as goal

abbrev pub invariant-loop-p : goal.invariant-loop-p
invariant-loop-p l = map view (items_of l.values) ++ listed_from l.p (drop l.p l.kernel.processes) ≡ listed (state_of l.kernel)
