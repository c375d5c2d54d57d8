use Rattle.std.proofs.Common.{◌≡◌, ℕ, List, length, map, take, flat_map}
use Rattle.text_model.specs.Characters.{Ch, code}
use Rattle.plain_machine.specs.Lines.{shown_ch}
use Rattle.trace_print.proofs.text.copy_plain.Given as goal

pub record Copied (codes out : List ℕ) (n : ℕ) : Type 0 where
  pub bytes : (chars : List Ch) → codes ≡ map code chars → take n out ≡ flat_map shown_ch (take n chars)
  pub size : length out ≡ 32

abbrev pub invariant-loop-n : goal.invariant-loop-n
invariant-loop-n l = Copied l.codes l.out l.n
