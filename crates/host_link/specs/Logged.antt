-- A list of exchanges with places kept for kills.
use Rattle.std.specs.Prelude.{ℕ, Bool, not, List, count_by}
use Rattle.plain_machine.specs.Exchanges.{Exchange}
use Rattle.host_link.specs.declared.host.Spawned.{Spawned}
use Rattle.host_link.specs.declared.host.Spawned.TheVariants as spawned

-- the exchanges; for how many kills a place is kept; and how many places there are beside these
pub record Logged : Type 0 where
  pub told : List Exchange
  pub due : ℕ
  pub places : ℕ

-- how many children may still be asked Kill
abbrev pub kills_due : List Bool → ℕ
kills_due kills = count_by not kills

-- how many more kills are due after a spawn
abbrev pub due_by : Spawned → ℕ
due_by (spawned.Started child) = 1
due_by spawned.Refused = 0
