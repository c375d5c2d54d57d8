-- Characters that are put behind others: those of ASCII at the front, and one.
use Rattle.std.proofs.Common.{◌≡◌, ℕ, zero, suc, ◌+◌, ◌-◌, ◌<◌, ◌≤◌, List, [], ◌∷◌, ◌++◌, length, map, take, drop, slice_index, refl, ap, sym, ◌∙◌, append_assoc, length-append, length-take, arith}
use Rattle.std.proofs.lemmas.List.{length-map}
use Rattle.text_model.specs.Characters.{Ch, Scalar, Raw}
use Rattle.text_model.specs.Decoding.{Neither, front, characters, tail}
use Rattle.text_model.proofs.Decodings.{characters-whole, characters-neither, tail-whole, tail-neither}
use Rattle.ek_types.specs.Listing.{Roomy}
use Rattle.utf8_stream.specs.Steps.{Decodes}
use Rattle.utf8_stream.proofs.Fronts.{front_ascii}
use Rattle.utf8_stream.proofs.Steps.{cut, cut_length, put_first, put_none}
use Rattle.utf8_stream.proofs.Tails.{tail_closed}

ascii_characters : (k : ℕ) (x : List ℕ) → k ≤ length x → ((i : ℕ) → i < k → slice_index x i < 0x80) → characters x ≡ map Scalar (take k x) ++ characters (drop k x)
ascii_characters zero x h a = refl
ascii_characters (suc k) [] h a = absurd (omega arith)
ascii_characters (suc k) (b ∷ x) h a =
    characters-whole b x (b ∷ []) (front_ascii b x (a 0 (omega arith))) ∙ ap (λ cs. Scalar b ∷ cs) (ascii_characters k x (omega arith) (λ i less. a (suc i) (omega arith)))

ascii_tail : (k : ℕ) (x : List ℕ) → k ≤ length x → ((i : ℕ) → i < k → slice_index x i < 0x80) → tail x ≡ tail (drop k x)
ascii_tail zero x h a = refl
ascii_tail (suc k) [] h a = absurd (omega arith)
ascii_tail (suc k) (b ∷ x) h a =
    tail-whole b x (b ∷ []) (front_ascii b x (a 0 (omega arith))) ∙ ascii_tail k x (omega arith) (λ i less. a (suc i) (omega arith))

pub ascii_decodes : (old new : Roomy Ch) (k : ℕ) (x : List ℕ) → length x ≤ old.spare → k ≤ length x → ((i : ℕ) → i < k → slice_index x i < 0x80)
    → new.items ≡ old.items ++ map Scalar (take k x) → new.spare + length (take k x) ≡ old.spare → Decodes old new x (take (length x - k) (drop k x))
ascii_decodes old new k x room h a items spare =
    let y = drop k x in
    let first : characters x ≡ map Scalar (take k x) ++ characters y = ascii_characters k x h a in
    let size : length (take k x) ≡ k = omega (arith, length-take k x) in
    let count : length (characters x) ≡ k + length (characters y) =
    ap length first ∙ length-append (map Scalar (take k x)) (characters y) ∙ ap (λ n. n + length (characters y)) (length-map (take k x) Scalar ∙ size) in
    let same : length (characters (take (length x - k) y)) ≡ length (characters y) = ap (λ y. length (characters y)) (cut k x) in
    let shorter : length (take (length x - k) y) ≡ length x - k = cut_length k x in
    record {
      items = ap (λ y. new.items ++ characters y) (cut k x) ∙ ap (λ cs. cs ++ characters y) items ∙ append_assoc old.items (map Scalar (take k x)) (characters y) ∙ ap (λ cs. old.items ++ cs) (sym first);
      spare = omega (arith, size, count, same, spare);
      within = omega (arith, shorter);
      room = omega (arith, size, shorter, spare, room, h);
      tail = ap tail (cut k x) ∙ sym (ascii_tail k x h a);
    }

-- one character behind those that decoding has come to
pub then_one : (old now new : Roomy Ch) (c : Ch) (x y z : List ℕ) → Decodes old now x y → length z < length y → characters y ≡ c ∷ characters z → tail y ≡ tail z
    → new.items ≡ now.items ++ c ∷ [] → new.spare + 1 ≡ now.spare → Decodes old new x z
then_one old now new c x y z before shorter first same items spare =
    let count : length (characters y) ≡ suc (length (characters z)) = ap length first in
    record {
      items = put_first now.items c new.items (characters z) items ∙ ap (λ cs. now.items ++ cs) (sym first) ∙ before.items;
      spare = omega (arith, count, spare, before.spare);
      within = omega (arith, shorter, before.within);
      room = omega (arith, shorter, spare, before.room);
      tail = sym same ∙ before.tail;
    }

pub neither_first : (x : List ℕ) → 0 < length x → front x ≡ Neither → characters x ≡ Raw (slice_index x 0) ∷ characters (take (length x - 1) (drop 1 x))
neither_first [] h e = absurd (omega arith)
neither_first (b ∷ x) h e = characters-neither b x e ∙ ap (λ y. Raw b ∷ characters y) (sym (cut 1 (b ∷ x)))

pub neither_rest : (x : List ℕ) → 0 < length x → front x ≡ Neither → tail x ≡ tail (take (length x - 1) (drop 1 x))
neither_rest [] h e = absurd (omega arith)
neither_rest (b ∷ x) h e = tail-neither b x e ∙ ap tail (sym (cut 1 (b ∷ x)))

pub then_decodes : (old now new : Roomy Ch) (x y z : List ℕ) → Decodes old now x y → Decodes now new y z → Decodes old new x z
then_decodes old now new x y z before after = record {
  items = after.items ∙ before.items;
  spare = omega (arith, before.spare, after.spare);
  within = omega (arith, before.within, after.within);
  room = after.room;
  tail = after.tail ∙ before.tail;
}

-- where no character is left
pub decodes_all : (old new : Roomy Ch) (x y : List ℕ) → Decodes old new x y → tail y ≡ y → (new.items ≡ old.items ++ characters x) × (new.spare + length (characters x) ≡ old.spare)
decodes_all old new x y decodes closed =
    let none = tail_closed y closed in
    (put_none new.items (characters y) (old.items ++ characters x) decodes.items none, omega (arith, decodes.spare, ap length none))
