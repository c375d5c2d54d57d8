-- Property sets that a test finds the same.
use Rattle.std.proofs.Common.{◌≡◌, Bool, true, false, List, refl, ap, sym, ◌∙◌}
use Rattle.std.specs.Prelude.{◌↔◌, not}
use Rattle.text_model.specs.Properties.{PropSet, same_list, same_set}
use Rattle.text_model.proofs.Sameness.{same_list-sound, same_list-same, same_set-sound, same_set-same}

-- THE SAME
pub same_where_equal : (a b : PropSet) → same_set a b ≡ true ↔ a ≡ b
same_where_equal a b = (same_set-sound a b, λ e. rw e (same_set-same b))

pub all_same_where_equal : (xs ys : List PropSet) → same_list same_set xs ys ≡ true ↔ xs ≡ ys
all_same_where_equal xs ys = (same_list-sound {A = PropSet} same_set same_set-sound xs ys, λ e. rw e (same_list-same {A = PropSet} same_set same_set-same ys))

-- TESTS
pub same_from : (a b : Bool) → a ≡ not b → a ≡ false → b ≡ true
same_from a true h k = refl
same_from a false h k = cc

pub unchanged_where_equal : (changed : Bool) (old new : List PropSet) → changed ≡ not (same_list same_set old new) → changed ≡ false ↔ new ≡ old
unchanged_where_equal changed old new h =
    (λ e. sym ((all_same_where_equal old new).0 (same_from changed _ h e)), λ e. h ∙ ap not ((all_same_where_equal old new).1 (sym e)))
