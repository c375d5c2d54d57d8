-- What reading a transcript comes to: a journal, claimed lines and a script.
use Rattle.std.specs.Prelude.{◌≡◌, ℕ, ◌+◌, ◌-◌, ◌≤◌, List, ◌++◌, length, take, drop, codes}
use Rattle.plain_machine.specs.Exchanges.{Exchange, children_started}
use Rattle.plain_machine.specs.Grammar.{line_feeds}
use Rattle.journal_text.specs.Lines.{line, journal, claim, transcript}
use Rattle.journal_text.specs.Allowed.{IsLine, IsJournal}

-- the bytes between two places
abbrev pub between : (from to : ℕ) → List ℕ → List ℕ
between from to bytes = take (to - from) (drop from bytes)

-- the bytes are the transcript of this list, of what stands between two places, and of what follows a third
pub record IsTranscriptTo (bytes : List ℕ) (list : List Exchange) (from to script : ℕ) : Type 0 where
  pub lines : IsJournal list
  pub whole : bytes ≡ transcript list (between from to bytes) (drop script bytes)
  pub in_order : (from ≤ to) × (to ≤ script) × (script ≤ length bytes)

-- the places are those of this transcript
pub record IsPlaced (bytes : List ℕ) (list : List Exchange) (from to script : ℕ) (other : List Exchange)
    (claimed last : List ℕ) : Type 0 where
  pub lists : list ≡ other
  pub lines : between from to bytes ≡ claimed
  pub rest : drop script bytes ≡ last

abbrev pub HasNoTranscript : List ℕ → Type 0
HasNoTranscript bytes = (list : List Exchange) (claimed script : List ℕ) → IsJournal list →
    bytes ≡ transcript list claimed script → ⊥

-- these exchanges have their lines at the front, and no further one has its line behind them
pub record IsLinedFront (bytes : List ℕ) (list : List Exchange) (rest : List ℕ) : Type 0 where
  pub lines : IsJournal list
  pub front : bytes ≡ journal list ++ rest
  pub last : (x : Exchange) (more : List ℕ) → IsLine (length (children_started list)) x →
      rest ≡ line x ++ more → ⊥

-- the line of the fault: one behind the line feeds of the longest good front
pub data IsTranscriptFault (bytes : List ℕ) (n : ℕ) : Type 0 where
  -- behind the journal stand no claimed lines
  unclaimed : (list : List Exchange) (rest : List ℕ) → IsLinedFront bytes list rest
      → ((claimed more : List ℕ) → rest ≡ claim claimed ++ more → ⊥) → n ≡ 1 + length list →
      IsTranscriptFault bytes n
  -- they do, and behind them not the line `script`
  unended : (list : List Exchange) (claimed rest : List ℕ) → IsLinedFront bytes list (claim claimed ++ rest)
      → ((script : List ℕ) → rest ≡ codes "script\n" ++ script → ⊥) →
      n ≡ 1 + (length list + (1 + line_feeds claimed)) → IsTranscriptFault bytes n
