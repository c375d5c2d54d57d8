-- The longest front whose elements pass a test.
use Rattle.std.proofs.Common.{◌≡◌, ℕ, suc, ◌+◌, Bool, true, false, List, [], ◌∷◌, ◌++◌, length, take, cond, refl, arith}
use Rattle.std.specs.List.{list_all, prefix_len}
use Rattle.std.proofs.lemmas.Bool.{and_parts}

pub prefix_of : (p : ℕ → Bool) (front : List ℕ) (c : ℕ) (rest : List ℕ) → list_all p front ≡ true → p c ≡ false → prefix_len p (front ++ c ∷ rest) ≡ length front
prefix_of p [] c rest all stops = rw stops refl
prefix_of p (b ∷ front) c rest all stops =
    let parts = and_parts (p b) (list_all p front) all in
    let next : 1 + length front ≡ suc (length front) = omega arith in
    rw (parts.0, prefix_of p front c rest parts.1 stops) next

pub prefix_passes : (p : ℕ → Bool) (bytes : List ℕ) → list_all p (take (prefix_len p bytes) bytes) ≡ true
prefix_passes p [] = refl
prefix_passes p (b ∷ bytes) = by (p b) refl (prefix_passes p bytes)
  where
    by : (t : Bool) → p b ≡ t → list_all p (take (prefix_len p bytes) bytes) ≡ true → list_all p (take (cond t (1 + prefix_len p bytes) 0) (b ∷ bytes)) ≡ true
    by false e more = refl
    by true e more =
        let next : 1 + prefix_len p bytes ≡ suc (prefix_len p bytes) = omega arith in
        rw next (rw e more)
