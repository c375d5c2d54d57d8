-- What the states and filters of the code stand for.
use Rattle.plain_machine.specs.State.{Status, Runs, Exited, Signalled, Lost, Filter, Default, Off, Named}
use Rattle.process_table.specs.declared.process.Status as declared
use Rattle.process_table.specs.declared.process.Status.TheVariants as status
use Rattle.process_table.specs.declared.process.Filter as written
use Rattle.process_table.specs.declared.process.Filter.TheVariants as filter

abbrev pub status_of : declared.Status → Status
status_of status.Run = Runs
status_of (status.Exit n) = Exited n
status_of status.Signal = Signalled
status_of status.Failed = Lost

abbrev pub filter_of : written.Filter → Filter
filter_of filter.Default = Default
filter_of filter.Off = Off
filter_of (filter.Named s) = Named s.0
