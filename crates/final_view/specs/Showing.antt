-- What a printer shows.
use Rattle.std.specs.Prelude.{List, flat_map}
use Rattle.text_model.specs.Characters.{Ch, encoded}
use Rattle.ek_types.specs.Io.{SinkState}
use Rattle.sink_printer.specs.Printing.{Prints}
use Rattle.sink_printer.specs.declared.printer.Printer.{Printer}

-- the characters of a text are said behind all that was said before
abbrev pub Shows : {K : Type 0} → (K → SinkState) → (old new : Printer K) → List Ch → Type 0
Shows state old new text = Prints state old new (flat_map encoded text)
