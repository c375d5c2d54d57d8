use Rattle.std.proofs.Common.{◌≡◌, ◌++◌, ◌∷◌, [], true, false, take, sym, ap, ◌∙◌, arith}
use Rattle.std.specs.Prelude.{slice_get, List, ℕ}
use Rattle.std.proofs.lemmas.Bool.Decides.{when_true, when_false}
use Rattle.text_model.proofs.Lists.{mapped_at, take_one_more}
use Rattle.ek_types.specs.Listing.{items_of}
use Rattle.host_link.specs.Meaning.{words_of}
use Rattle.journal_text.proofs.Finding.{same_some}
use Rattle.journal_text.proofs.asking.same_words.Goals as goal

pub returns-then-not-same_bytes : goal.returns-then-not-same_bytes
returns-then-not-same_bytes c = λ e.
    let a = mapped_at items_of (items_of c.args.a.now) c.words.i c.at.result.now c.at.ensures in
    let b = mapped_at items_of (items_of c.args.b.now) c.words.i c.at-in-words.result.now c.at-in-words.ensures in
    let same = same_some (items_of c.at.result.now) (items_of c.at-in-words.result.now) (sym a ∙ ap (λ l. slice_get l c.words.i) e ∙ b) in
    let differs : c.same_bytes.result ≡ false = grind arith in
    let other = when_false (c.as_slice.result.now ≡ c.as_slice-in-words.result.now) (c.as_slice.result.now ≡ c.as_slice-in-words.result.now → ⊥) differs c.same_bytes.ensures in
    other (c.as_slice.ensures ∙ same ∙ sym c.as_slice-in-words.ensures)

pub words-preserved : goal.words-preserved
words-preserved c =
    let a = mapped_at items_of (items_of c.args.a.now) c.words.i c.at.result.now c.at.ensures in
    let b = mapped_at items_of (items_of c.args.b.now) c.words.i c.at-in-words.result.now c.at-in-words.ensures in
    let equal : c.same_bytes.result ≡ true = grind arith in
    let same = when_true (c.as_slice.result.now ≡ c.as_slice-in-words.result.now) (c.as_slice.result.now ≡ c.as_slice-in-words.result.now → ⊥) equal c.same_bytes.ensures in
    let items : items_of c.at.result.now ≡ items_of c.at-in-words.result.now = sym c.as_slice.ensures ∙ same ∙ c.as_slice-in-words.ensures in
    take_one_more (words_of c.args.a.now) c.words.i (items_of c.at.result.now) a
    ∙ ap (λ (l : List (List ℕ)). l ++ items_of c.at.result.now ∷ []) c.words.invariant
    ∙ ap (λ (w : List ℕ). take c.words.i (words_of c.args.b.now) ++ w ∷ []) items
    ∙ sym (take_one_more (words_of c.args.b.now) c.words.i (items_of c.at-in-words.result.now) b)
