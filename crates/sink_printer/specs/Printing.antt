-- What a printer did.
use Rattle.std.specs.Prelude.{◌≡◌, ℕ, Bool, true, false, List, ◌++◌, Result}
use Rattle.ek_types.specs.Io.{SinkState, Writes}
use Rattle.ek_types.specs.declared.io.SinkFault.{SinkFault}
use Rattle.sink_printer.specs.Outcomes.{outcome}
use Rattle.sink_printer.specs.declared.printer.Printer.{Printer}

-- what was said and isn't written yet
abbrev pub pending : {K : Type 0} → Printer K → List ℕ
pending p = p.gathered.items

-- bytes were said since a sink stood at a start: all that isn't pending was written, or after a failure a
-- front of them
abbrev pub HasSaid : (failed : Bool) → (start now : SinkState) → (left said : List ℕ) → Type 0
HasSaid false start now left said =
    (written : List ℕ) × (said ≡ written ++ left) × Writes start now (outcome false) written
HasSaid true start now left said = Writes start now (outcome true) said

abbrev pub Says : {K : Type 0} → (K → SinkState) → (start : SinkState) → Printer K → (said : List ℕ) → Type 0
Says state start p said = HasSaid p.failed start (state p.sink.now) (pending p) said

-- the bytes are said behind all that was said before
pub record Prints {K : Type 0} (state : K → SinkState) (old new : Printer K) (bytes : List ℕ) : Type 0 where
  pub same : new.sink.ghost_name ≡ old.sink.ghost_name
  pub by : (start : SinkState) (said : List ℕ) → Says state start old said →
      Says state start new (said ++ bytes)

-- all that was said is written, or after a failure a front of it
pub record Finishes {K : Type 0} (state : K → SinkState) (old : Printer K) (now : SinkState)
    (result : Result (Unit {0}) SinkFault) : Type 0 where
  pub by : (start : SinkState) (said : List ℕ) → Says state start old said → Writes start now result said
