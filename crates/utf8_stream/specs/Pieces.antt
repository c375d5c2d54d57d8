-- A decoder that is fed pieces one after another.
use Rattle.std.specs.Prelude.{ℕ, List, [], ◌∷◌, ◌++◌}
use Rattle.text_model.specs.Characters.{Ch}
use Rattle.text_model.specs.Codings.{Coding, decoded, undecoded}

-- the characters that it gives for them, where these bytes were held before
abbrev pub given_for : Coding → (held : List ℕ) → (pieces : List (List ℕ)) → List Ch
given_for c held [] = []
given_for c held (piece ∷ pieces) =
    decoded c (held ++ piece) ++ given_for c (undecoded c (held ++ piece)) pieces

-- what it holds after them
abbrev pub held_after : Coding → (held : List ℕ) → (pieces : List (List ℕ)) → List ℕ
held_after c held [] = held
held_after c held (piece ∷ pieces) = held_after c (undecoded c (held ++ piece)) pieces
