-- The line of a script's fault: bytes that are no script have no more than one.
use Rattle.std.specs.Prelude.{◌≡◌, ℕ, List}
use Rattle.plain_machine.specs.Grammar.{IsFaultLine}

abbrev pub OneFaultLine : Type 0
OneFaultLine =
    (bytes : List ℕ) (line other : ℕ) → IsFaultLine bytes line → IsFaultLine bytes other → line ≡ other
