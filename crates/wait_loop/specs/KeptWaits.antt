-- A wait as the program keeps it.
use Rattle.std.specs.Prelude.{ℕ, ◌||◌, Bool, true, false, [], Option}
use Rattle.plain_machine.specs.Items.{Waiting}
use Rattle.plain_machine.specs.Waits.{counts}

-- a wait of the machine, and for how many processes it has places
pub record KeptWait : Type 0 where
  pub waiting : Waiting
  pub room : ℕ

-- a wait that begins
abbrev pub new_waiting : (target : Option ℕ) (rounds : ℕ) (just : Bool) → Waiting
new_waiting target rounds just =
    record { target = target; just = just; rounds = rounds; asking = []; counted = false }

-- process p was read, and answered bytes or not
abbrev pub noted : (p : ℕ) → (bytes : Bool) → Waiting → Waiting
noted p true w = record w { counted = w.counted || counts w p }
noted p false w = w
