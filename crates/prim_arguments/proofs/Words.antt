-- The names and values of a property set, one property after the other.
use Rattle.std.proofs.Common.{◌≡◌, ℕ, ◌+◌, ◌≤◌, List, [], ◌∷◌, ◌++◌, length, drop, sym, ap, ◌∙◌, append_assoc, append-nil}
use Rattle.std.specs.Prelude.{slice_get, Some}
use Rattle.std.proofs.lemmas.List.{drop_all}
use Rattle.text_model.proofs.Lists.{drop_at}
use Rattle.text_model.specs.Properties.{PropSet, PropVal}
use Rattle.editor_model.specs.Values.{Value, Sym, of_prop, set_words}

pub words_more : (set : PropSet) (old new whole : List Value) (i name : ℕ) (v : PropVal) → slice_get set i ≡ Some (name, v) → new ≡ old ++ Sym name ∷ of_prop (Some v) ∷ [] → old ++ set_words (drop i set) ≡ whole → new ++ set_words (drop (i + 1) set) ≡ whole
words_more set old new whole i name v at pushed inv =
    ap (λ f. f ++ set_words (drop (i + 1) set)) pushed
    ∙ append_assoc old (Sym name ∷ of_prop (Some v) ∷ []) (set_words (drop (i + 1) set))
    ∙ ap (λ s. old ++ set_words s) (sym (drop_at set i (name, v) at)) ∙ inv

pub words_all : (set : PropSet) (words : List Value) (i : ℕ) → length set ≤ i → words ++ set_words (drop i set) ≡ set_words set → words ≡ set_words set
words_all set words i l inv = sym (append-nil words) ∙ ap (λ s. words ++ set_words s) (sym (drop_all i set l)) ∙ inv
