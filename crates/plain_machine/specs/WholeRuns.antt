-- A script's whole run, and a run that was broken off: what the top call claims of the bytes that it wrote
-- and of the exchanges that it made.
use Rattle.std.specs.Prelude.{◌≡◌, ℕ, List, [], ◌∷◌, ◌++◌}
use Rattle.text_model.specs.Fronts.{IsPrefixOf}
use Rattle.editor_model.specs.Values.{Script}
use Rattle.plain_machine.specs.Exchanges.{Exchange, Kill, living}
use Rattle.plain_machine.specs.State.{Program}
use Rattle.plain_machine.specs.Lines.{OfFilter}
use Rattle.plain_machine.specs.Items.{Enter, Said, Config, Ended}
use Rattle.plain_machine.specs.Step.{step}
use Rattle.plain_machine.specs.Run.{Reaches, start, lines}

-- no entry of a filter is the next step
abbrev pub IsBetweenEntries : Config → Type 0
IsBetweenEntries c = elim c.work [
  | Enter (OfFilter p) handler args ∷ rest ↦ ⊥
  | _ ↦ Unit {0}
]

-- the run has ended with these exchanges used up, and said this
pub record Ran (program : Program) (bound : ℕ) (script : Script) (exchanges : List Exchange)
    (written : List ℕ) : Type 0 where
  pub said : List Said
  pub last : Config
  pub run : Reaches program bound (start script) exchanges said last
  pub ended : step program bound last ≡ Ended
  pub bytes : written ≡ lines said

-- the kills of the children that live, each once, by rising number
abbrev pub AreKills : List ℕ → List Exchange → Type 0
AreKills [] [] = Unit {0}
AreKills (c ∷ children) (x ∷ exchanges) = (x.ask ≡ Kill c) × AreKills children exchanges
AreKills _ _ = ⊥

-- the run was broken off: some of its bytes are written, and the children that live are killed
pub record BrokenOff (program : Program) (bound : ℕ) (script : Script) (exchanges : List Exchange)
    (written : List ℕ) : Type 0 where
  pub made : List Exchange
  pub kills : List Exchange
  pub said : List Said
  pub last : Config
  pub run : Reaches program bound (start script) made said last
  -- the entry that a read caused is made
  pub between : IsBetweenEntries last
  pub exchanges_are : exchanges ≡ made ++ kills
  pub killed : AreKills (living made) kills
  pub bytes : IsPrefixOf written (lines said)
