-- Strings without properties: whether they are the same, and a word as one.
use Rattle.std.proofs.Common.{◌≡◌, ℕ, Bool, ◌&&◌, List, [], ◌∷◌, ◌++◌, ◌+◌, ◌<◌, length, drop, get_or, map, refl, ap, sym, ◌∙◌, append-nil}
use Rattle.std.specs.Prelude.{codes, option_map, slice_get, Some}
use Rattle.std.proofs.lemmas.Option.{slice_get-map, slice_get-get_or}
use Rattle.text_model.specs.Characters.{Ch, Scalar}
use Rattle.text_model.specs.Properties.{Cell, same_list, same_ch}
use Rattle.text_model.specs.Decoding.{characters, tail, all_characters}
use Rattle.text_model.specs.Codings.{Utf8, decoded, undecoded, all_decoded}
use Rattle.text_model.proofs.Lists.{drop_at}
use Rattle.text_model.proofs.Decodings.{all_law}
use Rattle.utf8_stream.specs.Codings.{Held}
use Rattle.editor_model.specs.Values.{Str}
use Rattle.line_session.specs.Handlers.{is_finished}

-- a comparison from a place on, by that of the items there
pub from_place : {A : Type 0} (same : A → A → Bool) (xs ys : List A) (i : ℕ) (x y : A) (here whole : Bool) → slice_get xs i ≡ Some x → slice_get ys i ≡ Some y → same x y ≡ here →
    same_list same (drop i xs) (drop i ys) ≡ whole → (here && same_list same (drop (i + 1) xs) (drop (i + 1) ys)) ≡ whole
from_place same xs ys i x y here whole at_x at_y is so_far = rw (drop_at xs i x at_x, drop_at ys i y at_y, is) at so_far

pub scalar_at : (bytes : List ℕ) (i byte : ℕ) → i < length bytes → byte ≡ get_or bytes i 0 → slice_get (map Scalar bytes) i ≡ Some (Scalar byte)
scalar_at bytes i byte within is = slice_get-map Scalar bytes i ∙ ap (option_map Scalar) (slice_get-get_or bytes i 0 within) ∙ ap (λ b. Some (Scalar b)) (sym is)

pub same_bare : (text : List Cell) (other : List Ch) → same_list (λ c d. same_ch c.0 d.0) text (map (λ c. (c, [])) other) ≡ same_list same_ch (map (λ c. c.0) text) other
same_bare [] [] = refl
same_bare [] (d ∷ other) = refl
same_bare (c ∷ text) [] = refl
same_bare (c ∷ text) (d ∷ other) = ap (λ b. same_ch c.0 d && b) (same_bare text other)

pub same_finished : (is : Bool) (text : List Cell) (chars : List Ch) → is ≡ same_list same_ch chars (map Scalar (codes "finished\n")) → chars ≡ map (λ c. c.0) text → is ≡ is_finished (Str text)
same_finished is text chars same chars_are =
    same ∙ ap (λ l. same_list same_ch l (map Scalar (codes "finished\n"))) chars_are ∙ sym (same_bare text (map Scalar (codes "finished\n")))

pub whole_decoded : (first ready fed more new : List Ch) (none : Held) (run : List ℕ) (held : Held) → first ≡ [] → none ≡ record { coding = Utf8; bytes = [] } → ready ≡ first → fed ≡ ready ++ decoded none.coding (none.bytes ++ run) →
    held ≡ record none { bytes = undecoded none.coding (none.bytes ++ run) } → more ≡ fed → new ≡ more ++ all_decoded held.coding held.bytes →
    new ≡ all_characters run
whole_decoded first ready fed more new none run held a b c d e f g =
    rw (g, f, e, d, c, b, a)
    (ap (λ l. characters run ++ all_characters l) (sym (append-nil (tail run))) ∙ sym (all_law run []) ∙ ap all_characters (append-nil run))
