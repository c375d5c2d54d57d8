-- What runs of the code stand for.
use Rattle.script_read.specs.PropStrings.{Run}
use Rattle.script_read.specs.declared.prop_strings.Run as declared

abbrev pub run_of : declared.Run → Run
run_of r = record { from = r.from; to = r.to; set = r.set }
