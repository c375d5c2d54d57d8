-- What the parts of a lent buffer say of the buffer as it is shown.
use Rattle.std.proofs.Common.{◌≡◌, ℕ, zero, suc, ◌+◌, ◌*◌, ◌<◌, List, [], ◌∷◌, length, map, get_or, refl, sym, ap, subst, ◌∙◌, arith}
use Rattle.std.specs.Prelude.{slice_get, Option, Some, option_map}
use Rattle.std.proofs.lemmas.Option.{slice_get-get_or}
use Rattle.std.specs.List.{zip}
use Rattle.text_model.specs.Characters.{Ch}
use Rattle.text_model.specs.Properties.{PropSet}
use Rattle.editor_model.specs.Editor.{Live}
use Rattle.text_pool.specs.Pool.{Pooled}
use Rattle.gap_text.specs.Text.{Gapped, LiesIn, characters}
use Rattle.buffer_core.specs.Meaning.{Stored, IsStored}
use Rattle.buffer_table.specs.Kept.{Named, Lives, IsReadable, live_of}

zip_size : {A B : Type 0} (xs : List A) (ys : List B) → length xs ≡ length ys → length (zip xs ys) ≡ length xs
zip_size [] ys h = refl
zip_size (x ∷ xs) [] h = cc
zip_size (x ∷ xs) (y ∷ ys) h = ap suc (zip_size xs ys (omega arith))

firsts : {A B : Type 0} (xs : List A) (ys : List B) → length xs ≡ length ys → xs ≡ map (λ c. c.0) (zip xs ys)
firsts [] ys h = refl
firsts (x ∷ xs) [] h = cc
firsts (x ∷ xs) (y ∷ ys) h = ap (λ l. x ∷ l) (firsts xs ys (omega arith))

seconds : {A B : Type 0} (xs : List A) (ys : List B) → length xs ≡ length ys → ys ≡ map (λ c. c.1) (zip xs ys)
seconds [] [] h = refl
seconds [] (y ∷ ys) h = cc
seconds (x ∷ xs) [] h = cc
seconds (x ∷ xs) (y ∷ ys) h = ap (λ l. y ∷ l) (seconds xs ys (omega arith))

first_at : {A B : Type 0} (xs : List A) (ys : List B) (i : ℕ) (x : A) → length xs ≡ length ys → slice_get xs i ≡ Some x → option_map (λ c. c.0) (slice_get (zip xs ys) i) ≡ Some x
first_at [] ys i x h e = cc
first_at (z ∷ xs) [] i x h e = cc
first_at (z ∷ xs) (y ∷ ys) zero x h e = e
first_at (z ∷ xs) (y ∷ ys) (suc i) x h e = first_at xs ys i x (omega arith) e

second_at : {A B : Type 0} (xs : List A) (ys : List B) (i : ℕ) (y : B) → length xs ≡ length ys → slice_get ys i ≡ Some y → option_map (λ c. c.1) (slice_get (zip xs ys) i) ≡ Some y
second_at xs [] i y h e = cc
second_at [] (z ∷ ys) i y h e = cc
second_at (x ∷ xs) (z ∷ ys) zero y h e = e
second_at (x ∷ xs) (z ∷ ys) (suc i) y h e = second_at xs ys i y (omega arith) e

module _ (pool : Pooled) (n : Named) (l : Live) (readable : IsReadable pool n.buffer) (shown : live_of pool n ≡ l) where
  pub text_size : length (characters pool n.buffer.text) ≡ length l.buffer.text
  text_size = sym (zip_size (characters pool n.buffer.text) n.buffer.sets readable.size) ∙ ap (λ (x : Live). length x.buffer.text) shown

  pub sets_size : length n.buffer.sets ≡ length l.buffer.text
  sets_size = sym readable.size ∙ text_size

  pub sets_are : n.buffer.sets ≡ map (λ c. c.1) l.buffer.text
  sets_are = seconds (characters pool n.buffer.text) n.buffer.sets readable.size ∙ ap (λ (x : Live). map (λ c. c.1) x.buffer.text) shown

  pub chars_are : characters pool n.buffer.text ≡ map (λ c. c.0) l.buffer.text
  chars_are = firsts (characters pool n.buffer.text) n.buffer.sets readable.size ∙ ap (λ (x : Live). map (λ c. c.0) x.buffer.text) shown

  pub char_is : (i : ℕ) (x : Ch) → slice_get (characters pool n.buffer.text) i ≡ Some x → option_map (λ c. c.0) (slice_get l.buffer.text i) ≡ Some x
  char_is i x e = ap (λ (m : Live). option_map (λ c. c.0) (slice_get m.buffer.text i)) (sym shown) ∙ first_at (characters pool n.buffer.text) n.buffer.sets i x readable.size e

  pub set_is : (i : ℕ) (x : PropSet) → slice_get n.buffer.sets i ≡ Some x → option_map (λ c. c.1) (slice_get l.buffer.text i) ≡ Some x
  set_is i x e = ap (λ (m : Live). option_map (λ c. c.1) (slice_get m.buffer.text i)) (sym shown) ∙ second_at (characters pool n.buffer.text) n.buffer.sets i x readable.size e

-- a buffer whose text has as many characters as there are property sets
pub readable : (pool : Pooled) (b : Stored) (t : Gapped) (n : ℕ) → t ≡ b.text → LiesIn pool b.text → IsStored b → (LiesIn pool t → n ≡ length (characters pool t)) → n + t.spare ≡ 256 * length t.blocks → IsReadable pool b
readable pool b t n e lies stored counted cells =
    let count : n ≡ length (characters pool b.text) = subst (λ x. n ≡ length (characters pool x)) e (counted (subst (LiesIn pool) (sym e) lies)) in
    let whole : n + b.text.spare ≡ 256 * length b.text.blocks = subst (λ (x : Gapped). n + x.spare ≡ 256 * length x.blocks) e cells in
    record { lies = lies; size = omega (arith, count, whole, stored.size) }

-- what a read of the list of buffers found
pub read_here : (buffers : List (Option Named)) (id : ℕ) (o : Option Named) (n : Named) → id < length buffers → o ≡ get_or buffers id o → o ≡ Some n → Lives buffers id n
read_here buffers id o n h e s = slice_get-get_or buffers id o h ∙ ap Some (sym e ∙ s)
