-- No change of a text takes the start of a kept portion or of a change past its end.
use Rattle.std.proofs.Common.{◌≡◌, ℕ, ◌≤◌, Bool, true, false, ◌==◌, List, [], ◌∷◌, map, All, Some, None, subst, sym, if◌then◌else◌}
use Rattle.std.proofs.lemmas.Bool.{false≢true}
use Rattle.std.proofs.lemmas.List.Elements.{All-nil, All-cons, All-head, All-tail, All-map, All-weaker}
use Rattle.text_model.specs.Places.{after_insert}
use Rattle.text_model.specs.Marks as marks
use Rattle.text_model.specs.Marks.{move_saved, insertion, deletion}
use Rattle.text_model.proofs.Forward.{forward_insert, forward_delete}
use Rattle.narrow_region.specs.Kept.{kept_of, IsOrdered}
use Rattle.narrow_region.specs.declared.kept.Saved.{Saved}

forward_still : (at n a b : ℕ) (advances : Bool) → a ≤ b → after_insert at n false a ≤ after_insert at n advances b
forward_still at n a b advances low = forward_insert at n a b false advances low (λ e moves. absurd (false≢true moves))

-- a kept place that moves or not
either : (test : Bool) (s t : marks.Saved) → IsOrdered s → IsOrdered t → IsOrdered (if test then s else t)
either true s t h k = h
either false s t h k = k

pub insertion_ordered : (buffer at n : ℕ) (s : marks.Saved) → IsOrdered s → IsOrdered (move_saved buffer (insertion at n) s)
insertion_ordered buffer at n (marks.Excursion b p) h = either (b == buffer) _ _ tt tt
insertion_ordered buffer at n (marks.Restriction b None) h = tt
insertion_ordered buffer at n (marks.Restriction b (Some ends)) h = either (b == buffer) _ _ (forward_still at n ends.0 ends.1 true h) h
insertion_ordered buffer at n (marks.Pending b from to) h = either (b == buffer) _ _ (forward_still at n from to false h) h

pub deletion_ordered : (buffer from to : ℕ) → from ≤ to → (s : marks.Saved) → IsOrdered s → IsOrdered (move_saved buffer (deletion from to) s)
deletion_ordered buffer from to low (marks.Excursion b p) h = either (b == buffer) _ _ tt tt
deletion_ordered buffer from to low (marks.Restriction b None) h = tt
deletion_ordered buffer from to low (marks.Restriction b (Some ends)) h = either (b == buffer) _ _ (forward_delete from to ends.0 ends.1 low h) h
deletion_ordered buffer from to low (marks.Pending b first last) h = either (b == buffer) _ _ (forward_delete from to first last low h) h

-- what is seen of all holds of them
of_seen : (items : List Saved) → All IsOrdered (map kept_of items) → All (λ s. IsOrdered (kept_of s)) items
of_seen [] h = All-nil (λ s. IsOrdered (kept_of s))
of_seen (s ∷ items) h =
    All-cons (λ s. IsOrdered (kept_of s)) s items (All-head IsOrdered (kept_of s) (map kept_of items) h) (of_seen items (All-tail IsOrdered (kept_of s) (map kept_of items) h))

-- all were moved
pub moved_ordered : (move : marks.Saved → marks.Saved) → ((s : marks.Saved) → IsOrdered s → IsOrdered (move s)) → (olds items : List Saved) → map kept_of items ≡ map move (map kept_of olds) → All (λ s. IsOrdered (kept_of s)) olds → All (λ s. IsOrdered (kept_of s)) items
moved_ordered move keeps olds items moved h =
    of_seen items
    (subst (All IsOrdered) (sym moved)
    (All-map IsOrdered move (map kept_of olds)
    (All-weaker IsOrdered (λ s. IsOrdered (move s)) keeps (map kept_of olds)
    (All-map IsOrdered kept_of olds h))))
