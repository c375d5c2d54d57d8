-- Calls that fail by their numbers.
use Rattle.std.proofs.Common.{◌≡◌, ℕ, ◌≤◌, ◌<◌, ◌+◌, ◌-◌, Bool, true, false, List, [], ◌∷◌, refl, arith}
use Rattle.std.specs.Bool.{if◌then◌else◌}
use Rattle.std.proofs.lemmas.Grind.{common_steps}
use Rattle.std.proofs.lemmas.Bool.Decides.{nat_tests}
use Rattle.ek_types.specs.MemoryIo.{fails_at, fails_no_more}

-- where no later call fails, this one doesn't
pub none_fails_now : (fails : List ℕ) (call : ℕ) → fails_no_more fails call ≡ true → fails_at fails call ≡ false
none_fails_now [] call h = refl
none_fails_now (n ∷ fails) call h = grind (arith, nat_tests, common_steps, none_fails_now fails call)

-- what no call fails from here on, none fails from later on
pub none_fails_later : (fails : List ℕ) (call later : ℕ) → call ≤ later → fails_no_more fails call ≡ true → fails_no_more fails later ≡ true
none_fails_later [] call later le h = refl
none_fails_later (n ∷ fails) call later le h = grind (arith, nat_tests, common_steps, none_fails_later fails call later le)

-- bytes within the known room show that there is room, and that no call fails from here on
pub within_room : (sure : Bool) (n room : ℕ) → 0 < n → n ≤ (if sure then room else 0) → (sure ≡ true) × (n ≤ room)
within_room true n room some within = (refl, within)
within_room false n room some within = absurd (omega arith)

-- a write of n bytes leaves the room that it didn't use
pub room_left : (sure still : Bool) (limit held now n : ℕ) → still ≡ true → now ≤ held + n → (if sure then limit - held else 0) ≤ (if still then limit - now else 0) + n
room_left true true limit held now n e h = omega arith
room_left false true limit held now n e h = omega arith
room_left sure false limit held now n e h = absurd (cc)
