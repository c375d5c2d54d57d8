-- What is shown one after another.
use Rattle.std.proofs.Common.{◌≡◌, List, [], ◌++◌, flat_map, sym, ap}
use Rattle.std.proofs.lemmas.Grind.{flat_map-append}
use Rattle.text_model.specs.Characters.{Ch, encoded}
use Rattle.ek_types.specs.Io.{SinkState}
use Rattle.sink_printer.specs.declared.printer.Printer.{Printer}
use Rattle.sink_printer.proofs.Printing.{prints_then, prints_same, prints_nothing}
use Rattle.final_view.specs.Showing.{Shows}

pub shows_then : {K : Type 0} {state : K → SinkState} {p q r : Printer K} (a b : List Ch) → Shows state p q a → Shows state q r b → Shows state p r (a ++ b)
shows_then a b h k = prints_same (sym (flat_map-append encoded a b)) (prints_then h k)

pub shows_same : {K : Type 0} {state : K → SinkState} {p q : Printer K} (a b : List Ch) → a ≡ b → Shows state p q a → Shows state p q b
shows_same a b e h = prints_same (ap (flat_map encoded) e) h

pub shows_nothing : {K : Type 0} {state : K → SinkState} {p : Printer K} → Shows state p p []
shows_nothing = prints_nothing
