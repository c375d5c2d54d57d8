use Rattle.std.proofs.Common.{◌≡◌, ◌-◌, length, drop}
use Rattle.std.specs.List.{list_all}
use Rattle.plain_machine.specs.Natives.{set_was_made}
use Rattle.handler_code.specs.Counts.{program_with}
use Rattle.handler_code.proofs.made.Made.has_text.Given as goal

-- the symbols in the properties of those in front were all made
abbrev pub invariant-loop-at : goal.invariant-loop-at
invariant-loop-at l = list_all (λ c. set_was_made (program_with l.self) c.1) l.text ≡ list_all (λ c. set_was_made (program_with l.self) c.1) (drop l.at l.text)

abbrev pub decreases-loop-at : goal.decreases-loop-at
decreases-loop-at l = length l.text - l.at
