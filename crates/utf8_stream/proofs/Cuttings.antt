-- Decoding of any number of pieces.
use Rattle.std.proofs.Common.{◌≡◌, ℕ, List, [], ◌∷◌, ◌++◌, ap, sym, ◌∙◌, append-nil}
use Rattle.std.proofs.lemmas.List.{append_assoc}
use Rattle.std.specs.List.{concat}
use Rattle.text_model.specs.Codings.{Coding, Utf8, Utf8Dos, Latin1, decoded, undecoded, all_decoded}
use Rattle.utf8_stream.specs.Pieces.{given_for, held_after}
use Rattle.text_model.proofs.Codings.{decoded_law, undecoded_law, all_decoded_law}

-- pieces behind some bytes
given_behind : (c : Coding) (x : List ℕ) (pieces : List (List ℕ)) → decoded c x ++ given_for c (undecoded c x) pieces ≡ decoded c (x ++ concat pieces)
given_behind c x [] = append-nil (decoded c x) ∙ sym (ap (decoded c) (append-nil x))
given_behind c x (p ∷ pieces) =
    rw (← append_assoc (decoded c x) (decoded c (undecoded c x ++ p)) (given_for c (undecoded c (undecoded c x ++ p)) pieces), ← decoded_law c x p, ← undecoded_law c x p, given_behind c (x ++ p) pieces, append_assoc x p (concat pieces))

held_behind : (c : Coding) (x : List ℕ) (pieces : List (List ℕ)) → held_after c (undecoded c x) pieces ≡ undecoded c (x ++ concat pieces)
held_behind c x [] = sym (ap (undecoded c) (append-nil x))
held_behind c x (p ∷ pieces) = rw (← undecoded_law c x p, held_behind c (x ++ p) pieces, append_assoc x p (concat pieces))

pub given_law : (c : Coding) (pieces : List (List ℕ)) → given_for c [] pieces ≡ decoded c (concat pieces)
given_law Utf8 pieces = given_behind Utf8 [] pieces
given_law Utf8Dos pieces = given_behind Utf8Dos [] pieces
given_law Latin1 pieces = given_behind Latin1 [] pieces

pub held_law : (c : Coding) (pieces : List (List ℕ)) → held_after c [] pieces ≡ undecoded c (concat pieces)
held_law Utf8 pieces = held_behind Utf8 [] pieces
held_law Utf8Dos pieces = held_behind Utf8Dos [] pieces
held_law Latin1 pieces = held_behind Latin1 [] pieces

pub finished_law : (c : Coding) (pieces : List (List ℕ)) → given_for c [] pieces ++ all_decoded c (held_after c [] pieces) ≡ all_decoded c (concat pieces)
finished_law c pieces =
    let whole = all_decoded_law c (concat pieces) [] in
    rw (given_law c pieces, held_law c pieces) (sym (rw (append-nil (concat pieces), append-nil (undecoded c (concat pieces))) at whole))
