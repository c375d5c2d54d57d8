-- The drill over the host that belongs to it.
use Rattle.std.specs.Prelude.{◌≡◌, ℕ, List, [], ◌∷◌, ◌++◌, map, codes}
use Rattle.plain_machine.specs.Exchanges.{Exchange}
use Rattle.plain_machine.specs.Symbols.{program_of}
use Rattle.plain_machine.specs.Shipped.{shipped_names, shipped}
use Rattle.plain_machine.specs.Run.{Ran, HasEnded, run, start}
use Rattle.plain_machine.specs.Drill.{drill_reads, drill_script, summary}
use Rattle.worked_rows.specs.Row.{spawned, refused, reads, output_ends, exits, steps}

abbrev pub exchanges_of : ℕ → List Exchange
exchanges_of n = spawned (codes "drill") [] 0 ∷
    (map (λ bytes. reads 0 bytes) (drill_reads n) ++ output_ends 0 ∷ exits 0 0 ∷ [])

-- the drill's run over some exchanges
abbrev pub drilled : ℕ → List Exchange → Ran
drilled n exchanges =
    run (program_of (drill_script n) shipped_names shipped) 16 steps (start (drill_script n)) exchanges

abbrev pub drill_line : ℕ → List Exchange → List ℕ
drill_line n exchanges = summary n (drilled n exchanges).said exchanges (drilled n exchanges).last.state

-- the run has ended, its exchanges are used up, and the drill's line is this
abbrev pub Drills : ℕ → List Exchange → List ℕ → Type 0
Drills n exchanges line =
    ((drilled n exchanges).how ≡ HasEnded) × ((drilled n exchanges).left ≡ []) × (drill_line n exchanges ≡ line)

-- a host that can start no child
abbrev pub no_child : List Exchange
no_child = refused (codes "drill") [] ∷ []
