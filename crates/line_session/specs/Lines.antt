-- The lines that a session comes to, by its exchanges alone.
use Rattle.std.specs.Prelude.{ℕ, Bool, false, ◌&&◌, not, ◌==◌, List, [], ◌∷◌, ◌++◌, flat_map, if◌then◌else◌}
use Rattle.std.specs.List.{list_any}
use Rattle.text_model.specs.Characters.{Ch, Scalar}
use Rattle.text_model.specs.Codings.{Utf8}
use Rattle.text_model.specs.Properties.{same_ch}
use Rattle.plain_machine.specs.Exchanges.{Ask, AskEnd, Answer, Code, Signal, Failed, Exchange, children_started}
use Rattle.machine_laws.specs.Entries.{heard}

-- whether a child's end was told
abbrev pub tells_end : (child : ℕ) → Ask → Answer → Bool
tells_end child (AskEnd c) (Code n) = c == child
tells_end child (AskEnd c) Signal = c == child
tells_end child (AskEnd c) Failed = c == child
tells_end child _ _ = false

abbrev pub has_ended : (child : ℕ) → List Exchange → Bool
has_ended child exchanges = list_any (λ x. tells_end child x.ask x.answer) exchanges

-- a text that isn't empty, and whose last character is no line feed
abbrev pub is_open : List Ch → Bool
is_open [] = false
is_open (c ∷ []) = not (same_ch c (Scalar 10))
is_open (c ∷ d ∷ text) = is_open (d ∷ text)

-- what was heard of a child, its last line closed where the child has ended
abbrev pub closed : (child : ℕ) → List Exchange → List Ch
closed child exchanges = heard Utf8 child exchanges ++
    (if has_ended child exchanges && is_open (heard Utf8 child exchanges) then Scalar 10 ∷ [] else [])

-- of all children, in the order of their starts
abbrev pub session_lines : List Exchange → List Ch
session_lines exchanges = flat_map (λ child. closed child exchanges) (children_started exchanges)
