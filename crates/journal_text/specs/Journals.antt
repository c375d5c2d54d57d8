-- What reading a journal comes to.
use Rattle.std.specs.Prelude.{◌≡◌, ℕ, ◌+◌, List, ◌++◌, length, drop, codes}
use Rattle.plain_machine.specs.Exchanges.{Exchange, children_started}
use Rattle.journal_text.specs.Lines.{line, journal, session}
use Rattle.journal_text.specs.Allowed.{IsLine, IsJournal}

-- the bytes are the session of this list and of what follows the place
pub record IsReadTo (bytes : List ℕ) (list : List Exchange) (at : ℕ) : Type 0 where
  pub lines : IsJournal list
  pub whole : bytes ≡ session list (drop at bytes)

-- no front of the bytes is a journal and the line `script`
abbrev pub HasNoJournal : List ℕ → Type 0
HasNoJournal bytes = (list : List Exchange) (script : List ℕ) → IsJournal list → bytes ≡ session list script → ⊥

-- so many whole good lines stand at the front, and behind them no other and not the line `script`
pub record IsFaultLine (bytes : List ℕ) (n : ℕ) : Type 0 where
  pub list : List Exchange
  pub rest : List ℕ
  pub lines : IsJournal list
  pub front : bytes ≡ journal list ++ rest
  pub last : (x : Exchange) (more : List ℕ) → IsLine (length (children_started list)) x →
      rest ≡ line x ++ more → ⊥
  pub unended : (script : List ℕ) → rest ≡ codes "script\n" ++ script → ⊥
  pub number : n ≡ 1 + length list
