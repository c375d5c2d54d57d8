-- The last character of the text that a session gathers, as its sentinel asks for it.
use Rattle.std.proofs.Common.{◌≡◌, ℕ, suc, ◌+◌, ◌-◌, ◌≤◌, Bool, true, false, ◌&&◌, not, List, [], ◌∷◌, length, refl, ap, ap₂, ◌∙◌, arith}
use Rattle.std.specs.Prelude.{pos, ◌-ℤ◌, ◌==◌, nat_lt, nat_le, slice_get, if◌then◌else◌, Option, Some, None}
use Rattle.std.specs.Ordering.{int_eq}
use Rattle.std.proofs.lemmas.Bool.{lt-ltb, le-leb, eq-eqb, ne_eqb, eqb-true}
use Rattle.std.proofs.lemmas.Bool.Decides.{Decides-int_eq}
use Rattle.std.proofs.Math.IntN.{suc_ℤ, -ℤ_one}
use Rattle.text_model.specs.Characters.{Ch, Scalar, Raw, code}
use Rattle.text_model.proofs.Cases.{same_tests}
use Rattle.text_model.specs.Properties.{Cell, bare, same_ch}
use Rattle.editor_model.specs.Values.{Nil, Int, at_place}
use Rattle.editor_model.specs.TextCalls.{code_value, char_at_position}
use Rattle.editor_model.specs.Limits.{longest_text}
use Rattle.plain_machine.specs.Shipped.{is_i64}
use Rattle.line_session.specs.Handlers.{before, leaves_open}
use Rattle.line_session.specs.Lines.{is_open}
use Rattle.session_laws.specs.Standing.{Parts, gathering}

-- THE POSITION IN FRONT OF THE END
less_one : (n : ℕ) → pos (n + 1) -ℤ pos 1 ≡ pos n
less_one n =
    let e : n + 1 ≡ suc n = omega arith in
    ap (λ k. pos k -ℤ pos 1) e ∙ -ℤ_one (pos (suc n))

fits : (n : ℕ) → n ≤ longest_text → is_i64 (pos n) ≡ true
fits n h = rw (le-leb n 9223372036854775807 (omega (arith, h))) refl

pub before_end : (n : ℕ) → n ≤ longest_text → before (at_place n) ≡ Int (pos n)
before_end n h = ap (λ i. if is_i64 i then Int i else Nil) (less_one n) ∙ ap (λ b. if b then Int (pos n) else Nil) (fits n h)

-- THE LAST CHARACTER
abbrev last_cell : List Ch → Option Cell
last_cell [] = None
last_cell (c ∷ []) = Some (c, [])
last_cell (c ∷ d ∷ text) = last_cell (d ∷ text)

last_found : (c : Ch) (text : List Ch) → slice_get (bare (c ∷ text)) (length text) ≡ last_cell (c ∷ text)
last_found c [] = refl
last_found c (d ∷ text) = last_found d text

last_asked : (parts : Parts) → char_at_position (gathering parts) (length parts.text) ≡ last_cell parts.text
last_asked parts = by parts.text
  where
    by : (text : List Ch) → (if length text == 0 then None else (if nat_le 0 (length text - 1) && nat_lt (length text - 1) (length text) then slice_get (bare text) (length text - 1) else None)) ≡ last_cell text
    by [] = refl
    by (c ∷ text) =
        let m : ℕ = length text in
        let some : (suc m == 0) ≡ false = ne_eqb (suc m) 0 (λ e. absurd (omega (arith, e))) in
        let less : suc m - 1 ≡ m = omega arith in
        let asked : Bool → ℕ → Option Cell = λ none k. if none then None else (if nat_le 0 k && nat_lt k (suc m) then slice_get (bare (c ∷ text)) k else None) in
        ap₂ asked some less ∙ ap₂ (λ a b. if a && b then slice_get (bare (c ∷ text)) m else None) (le-leb 0 m (omega arith)) (lt-ltb m (suc m) (omega arith)) ∙ last_found c text

same_number : (a b : ℕ) → int_eq (pos a) (pos b) ≡ (a == b)
same_number a b =
    same_tests _ _
    (λ e. eq-eqb a b (let same : pos a ≡ pos b = (Decides-int_eq (pos a) (pos b)).0 e in cc))
    (λ e. (Decides-int_eq (pos a) (pos b)).1 (ap pos (eqb-true a b e)))

one_open : (c : Ch) → not (int_eq (pos (code c)) (pos 10)) ≡ not (same_ch c (Scalar 10))
one_open (Scalar a) = ap not (same_number a 10)
one_open (Raw b) = ap not (same_number (0x3FFF00 + b) 10 ∙ ne_eqb (0x3FFF00 + b) 10 (λ e. absurd (omega (arith, e))))

last_open : (text : List Ch) → leaves_open (code_value (last_cell text)) ≡ is_open text
last_open [] = refl
last_open (c ∷ []) = one_open c
last_open (c ∷ d ∷ text) = last_open (d ∷ text)

-- the sentinel finds the last line open just where it is
pub finds_open : (parts : Parts) → leaves_open (code_value (char_at_position (gathering parts) (length parts.text))) ≡ is_open parts.text
finds_open parts = ap (λ c. leaves_open (code_value c)) (last_asked parts) ∙ last_open parts.text
