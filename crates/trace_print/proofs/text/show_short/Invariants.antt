use Rattle.std.proofs.Common.{◌≡◌, ℕ, ◌≤◌, ◌*◌, List, length, map, take, flat_map}
use Rattle.text_model.specs.Characters.{Ch, code}
use Rattle.plain_machine.specs.Lines.{shown_ch}
use Rattle.trace_print.proofs.text.show_short.Given as goal

pub record Shown (codes out : List ℕ) (n size : ℕ) : Type 0 where
  pub bytes : (chars : List Ch) → codes ≡ map code chars → take size out ≡ flat_map shown_ch (take n chars)
  pub fits : size ≤ 2 * n
  pub room : length out ≡ 32

abbrev pub invariant-loop-n : goal.invariant-loop-n
invariant-loop-n l = Shown l.codes l.out l.n l.size
