use Rattle.std.proofs.Common.{◌≡◌, ℕ, ◌<◌, ◌≤◌, Bool, true, List, ◌∷◌, [], slice_index}
use Rattle.plain_machine.specs.Lines.{shown_code}
use Rattle.trace_print.proofs.text.are_plain.Given as goal

pub record Plain (codes : List ℕ) (all : Bool) (n : ℕ) : Type 0 where
  pub shown : all ≡ true → (k : ℕ) → k < n → slice_index codes k ∷ [] ≡ shown_code (slice_index codes k)
  pub low : all ≡ true → (k : ℕ) → k < n → slice_index codes k ≤ 127

abbrev pub invariant-loop-n : goal.invariant-loop-n
invariant-loop-n l = Plain l.codes l.all l.n
