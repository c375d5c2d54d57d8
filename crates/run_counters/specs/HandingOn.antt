-- What the counting host says of a call.
use Rattle.std.specs.Prelude.{◌≡◌, ℕ, ◌+◌, ◌%◌, ◌^◌}
use Rattle.plain_machine.specs.Exchanges.{Ask, Answer}
use Rattle.run_counters.specs.declared.counting_host.CountingHost.{CountingHost}

-- the call was made once on the inner host, and is counted
pub record HandsOn {H : Type 0} (made : H → H → Ask → ℕ → Answer → Type 0) (old new : CountingHost H)
    (ask : Ask) (room : ℕ) (answer : Answer) : Type 0 where
  pub once : made old.inner.now new.inner.now ask room answer
  pub counted : new.exchanges ≡ (old.exchanges + 1) % 2 ^ 64
  pub same_reference : new.inner.ghost_name ≡ old.inner.ghost_name
