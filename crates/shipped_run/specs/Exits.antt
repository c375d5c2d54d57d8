-- How the program ends.
use Rattle.std.specs.Prelude.{ℕ, Option, Some, None}
use Rattle.kernel_top.specs.declared.status.Status.{Status}
use Rattle.kernel_top.specs.declared.status.Status.TheVariants as status
use Rattle.shipped_run.specs.declared.failure.Failure.{Failure}
use Rattle.shipped_run.specs.declared.failure.Failure.TheVariants as failure

-- why a run that ended so is a failure, if it is one
abbrev pub failure_of : Status → Option Failure
failure_of status.Done = None
failure_of status.Usage = Some failure.Usage
failure_of (status.Script line) = Some (failure.Script line)
failure_of status.ReadFault = Some failure.Read
failure_of status.WriteFault = Some failure.Write
failure_of status.NoMemory = Some failure.Memory
failure_of (status.Journal line) = Some (failure.Journal line)
failure_of status.JournalFull = Some failure.JournalFull
failure_of (status.Strayed most) = Some (failure.Strayed most)
failure_of (status.Differs line) = Some (failure.Differs line)
failure_of status.SessionFull = Some failure.SessionFull

abbrev pub exit_status : Failure → ℕ
exit_status failure.Usage = 1
exit_status (failure.Script line) = 2
exit_status failure.Read = 3
exit_status failure.Write = 4
exit_status failure.Memory = 5
exit_status (failure.Journal line) = 6
exit_status failure.JournalFull = 7
exit_status (failure.Strayed most) = 8
exit_status (failure.Differs line) = 9
exit_status failure.SessionFull = 10
