-- The program of a run.
use Rattle.std.specs.Prelude.{ℕ, List, Option, map}
use Rattle.editor_model.specs.Values.{Value, Reply, Prim, Script}
use Rattle.plain_machine.specs.State.{Program}
use Rattle.plain_machine.specs.Symbols.{program_of}
use Rattle.ek_types.specs.Listing.{items_of}
use Rattle.ek_types.specs.Property.{number_of}
use Rattle.ek_call.specs.Meaning.{handler_of}
use Rattle.kernel_state.specs.declared.program.RunProgram.{RunProgram}

-- what a list of natives does
abbrev pub Doing : Type 0
Doing = ℕ → List Value → List Reply → Option (Prim × List Value)

-- the script's handlers and the natives, under the names that the run has
abbrev pub meant_of : {N : Type 0} → (N → Doing) → RunProgram N → Program
meant_of does p = record {
  symbols = p.symbols;
  handlers = map handler_of (items_of p.handlers.now);
  natives = map number_of (items_of p.names.list);
  does = does p.natives.now;
}

-- the program that a script makes with some natives
abbrev pub program_with : {N : Type 0} → (N → List (List ℕ)) → (N → Doing) → Script → N → Program
program_with names does script natives = program_of script (names natives) (does natives)
