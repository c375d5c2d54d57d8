-- An aim as the machine's wait of that aim.
use Rattle.plain_machine.specs.Items.{Waiting}
use Rattle.wait_loop.specs.declared.aims.Aim.{Aim}
use Rattle.wait_loop.specs.KeptWaits.{new_waiting}

abbrev pub waiting_for : Aim → Waiting
waiting_for aim = new_waiting aim.target 0 aim.just
