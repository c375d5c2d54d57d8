use Rattle.std.proofs.Common.{◌≡◌, ◌&&◌, drop}
use Rattle.std.specs.List.{list_all}
use Rattle.plain_machine.specs.Natives.{is_symbol_there, prop_was_made}
use Rattle.handler_code.specs.Counts.{program_with}
use Rattle.handler_code.proofs.made.Made.has_properties.Given as goal

-- the symbols in those in front were all made
abbrev pub invariant-loop-i : goal.invariant-loop-i
invariant-loop-i l = list_all (λ p. is_symbol_there (program_with l.self) p.0 && prop_was_made (program_with l.self) p.1) l.set ≡ list_all (λ p. is_symbol_there (program_with l.self) p.0 && prop_was_made (program_with l.self) p.1) (drop l.i l.set)
