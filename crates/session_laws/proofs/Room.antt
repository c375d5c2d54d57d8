-- Whether a piece has room behind the text that a session gathers.
use Rattle.std.proofs.Common.{◌≡◌, ℕ, ◌+◌, ◌≤◌, Bool, true, false, ◌&&◌, ◌||◌, [], length, refl, ap, ◌∙◌, arith}
use Rattle.std.specs.Prelude.{◌==◌, nat_le}
use Rattle.std.proofs.lemmas.Bool.{le-leb, leb-true, ne_eqb}
use Rattle.std.proofs.lemmas.List.{length-map}
use Rattle.editor_model.specs.Editor.{characters_in}
use Rattle.editor_model.specs.Arguments.{has_room}
use Rattle.editor_model.specs.Limits.{longest_text, longest_texts}
use Rattle.session_laws.specs.Standing.{Parts, gathering, editor_with}

room_by : (n m c k : ℕ) (b : Bool) → 1 ≤ k → m ≡ n → c ≡ n → nat_le (n + k) longest_text ≡ b → ((k == 0) || (nat_le (m + k) longest_text && nat_le (c + k) longest_texts)) ≡ b
room_by n m c k true some e f is =
    let within = leb-true (n + k) longest_text is in
    rw (ne_eqb k 0 (λ none. absurd (omega (arith, some, none))), le-leb (m + k) longest_text (omega (arith, within, e)), le-leb (c + k) longest_texts (omega (arith, within, f))) refl
room_by n m c k false some e f is =
    let beyond : nat_le (m + k) longest_text ≡ false = ap (λ i. nat_le (i + k) longest_text) e ∙ is in
    rw (ne_eqb k 0 (λ none. absurd (omega (arith, some, none))), beyond) refl

-- it has, where the text doesn't become longer than one may be: the other buffer is empty
pub room_is : (parts : Parts) (k : ℕ) → 1 ≤ k → has_room (editor_with 1 parts) 1 k ≡ nat_le (length parts.text + k) longest_text
room_is parts k some =
    let same : length (gathering parts).text ≡ length parts.text = length-map parts.text (λ c. (c, [])) in
    room_by (length parts.text) (length (gathering parts).text) (characters_in (editor_with 1 parts).buffers) k (nat_le (length parts.text + k) longest_text) some same (omega (arith, same)) refl
