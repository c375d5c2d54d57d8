-- What a host says of a call that it hands on: that the exchange has a line.
use Rattle.std.specs.Prelude.{◌≡◌, ℕ, ◌≤◌, IsTrue, length}
use Rattle.std.specs.List.{AllByRecursion}
use Rattle.plain_machine.specs.Exchanges.{Ask, Answer, Spawn, Send, most_read}
use Rattle.host_link.specs.Hosts.{HostState}
use Rattle.journal_text.specs.Allowed.{has_no_zero, IsLine}
use Rattle.journal_text.specs.declared.lined.LinedHost.{LinedHost}

-- what is left to whoever asks: a program has a name, no word has the byte 0, and what is sent isn't empty
abbrev pub IsSpoken : Ask → Type 0
IsSpoken (Spawn program args) =
    (1 ≤ length program) × IsTrue (has_no_zero program) × AllByRecursion (λ w. IsTrue (has_no_zero w)) args
IsSpoken (Send child bytes) = 1 ≤ length bytes
IsSpoken _ = Unit {0}

-- the call was made once on the inner host, and its exchange has a line
pub record HandsLine {H : Type 0} (state : H → HostState) (made : H → H → Ask → ℕ → Answer → Type 0)
    (old new : LinedHost H) (ask : Ask) (room : ℕ) (answer : Answer) : Type 0 where
  pub once : made old.inner.now new.inner.now ask room answer
  pub line : room ≤ most_read → IsSpoken ask →
      IsLine (length (state old.inner.now).kills) (record { ask = ask; answer = answer })
  pub same_reference : new.inner.ghost_name ≡ old.inner.ghost_name
