-- What a kernel stands for.
use Rattle.plain_machine.specs.State.{State}
use Rattle.kernel_state.specs.Meaning as kept
use Rattle.kernel_run.specs.declared.kernel.Kernel.{Kernel}

-- the state of the machine, with what the decoders hold in the place of all bytes read
abbrev pub state_of : Kernel → State
state_of k = kept.state_of k.state
