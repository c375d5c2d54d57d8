-- No change of a text takes the start of an overlay past its end.
use Rattle.std.proofs.Common.{◌≡◌, ℕ, ◌≤◌, Bool, true, false, not, ◌&&◌, ◌||◌, ◌==◌, Option, Some, None, is_some, IfSome, refl}
use Rattle.std.proofs.lemmas.Bool.{eq-eqb}
use Rattle.text_model.specs.Properties.{get}
use Rattle.text_model.specs.Marks.{Overlay, Span, move_overlay, evaporated, evaporate, start_advances, insertion, deletion}
use Rattle.text_model.proofs.Forward.{forward_insert, forward_delete}
use Rattle.overlay_set.specs.Forward.{IsForward}

-- an empty overlay whose start advances has an end that does
both_advance : (all front rear : Bool) (a b : ℕ) → a ≡ b → (all || (front && (rear || not (a == b)))) ≡ true → (rear || all) ≡ true
both_advance all front rear a b h = let same : (a == b) ≡ true = eq-eqb a b h in rw same (by_flags all front rear)
  where
    by_flags : (all front rear : Bool) → (all || (front && (rear || not true))) ≡ true → (rear || all) ≡ true
    by_flags true front true k = refl
    by_flags true front false k = refl
    by_flags false true true k = refl
    by_flags false true false k = cc
    by_flags false false rear k = cc

pub insertion_keeps : (buffer at n : ℕ) (all : Bool) (o : Overlay) → IsForward o → IsForward (move_overlay buffer all (insertion at n) o)
insertion_keeps buffer at n all o h = by_span o.span h
  where
    by_span : (t : Option Span) → IfSome t (λ s. s.start ≤ s.end) → IsForward (move_overlay buffer all (insertion at n) (record o { span = t }))
    by_span None k = tt
    by_span (Some s) k = by_buffer (s.buffer == buffer) refl
      where
        by_buffer : (t : Bool) → (s.buffer == buffer) ≡ t → IsForward (move_overlay buffer all (insertion at n) (record o { span = Some s }))
        by_buffer true e = rw e (forward_insert at n s.start s.end (start_advances all o s) (o.rear_advance || all) k (both_advance all o.front_advance o.rear_advance s.start s.end))
        by_buffer false e = rw e k

moved_back : (buffer from to : ℕ) (o : Overlay) → from ≤ to → IsForward o → IsForward (move_overlay buffer false (deletion from to) o)
moved_back buffer from to o low h = by_span o.span h
  where
    by_span : (t : Option Span) → IfSome t (λ s. s.start ≤ s.end) → IsForward (move_overlay buffer false (deletion from to) (record o { span = t }))
    by_span None k = tt
    by_span (Some s) k = by_buffer (s.buffer == buffer) refl
      where
        by_buffer : (t : Bool) → (s.buffer == buffer) ≡ t → IsForward (move_overlay buffer false (deletion from to) (record o { span = Some s }))
        by_buffer true e = rw e (forward_delete from to s.start s.end low k)
        by_buffer false e = rw e k

evaporated_keeps : (buffer : ℕ) (o : Overlay) → IsForward o → IsForward (evaporated buffer o)
evaporated_keeps buffer o h = by_span o.span h
  where
    by_span : (t : Option Span) → IfSome t (λ s. s.start ≤ s.end) → IsForward (evaporated buffer (record o { span = t }))
    by_span None k = tt
    by_span (Some s) k = by_test ((s.buffer == buffer) && ((s.start == s.end) && is_some (get o.props evaporate))) refl
      where
        by_test : (t : Bool) → ((s.buffer == buffer) && ((s.start == s.end) && is_some (get o.props evaporate))) ≡ t → IsForward (evaporated buffer (record o { span = Some s }))
        by_test true e = rw e tt
        by_test false e = rw e k

pub deletion_keeps : (buffer from to : ℕ) (o : Overlay) → from ≤ to → IsForward o → IsForward (evaporated buffer (move_overlay buffer false (deletion from to) o))
deletion_keeps buffer from to o low h = evaporated_keeps buffer (move_overlay buffer false (deletion from to) o) (moved_back buffer from to o low h)
