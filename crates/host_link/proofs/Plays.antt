-- What is left of all plays as one child is read or asked how it ended.
use Rattle.std.proofs.Common.{◌≡◌, ℕ, zero, suc, ◌<◌, Bool, true, false, List, [], ◌∷◌, ◌++◌, length, get_or, map, slice_set, refl, arith, ap, sym, ◌∙◌, append-nil}
use Rattle.std.proofs.lemmas.List.{length-map, set-get_or}
use Rattle.std.specs.Bool.{if◌then◌else◌}
use Rattle.ek_types.specs.Listing.{items_of}
use Rattle.host_link.specs.declared.host.Spawned.{Spawned}
use Rattle.host_link.specs.declared.host.Spawned.TheVariants as spawned
use Rattle.host_link.specs.declared.play.Play.{Play}
use Rattle.host_link.specs.declared.play.Cursor.{Cursor}
use Rattle.host_link.specs.Meaning.{answer_of}
use Rattle.host_link.specs.Played.{PlayState}
use Rattle.host_link.specs.Cursors.{rests, rest_of, whole_play, fresh_cursor, cursors_by}
use Rattle.host_link.proofs.Rests.{less_first-zero}

pub length-rests : (plays : List Play) (cursors : List Cursor) → length (rests plays cursors) ≡ length plays
length-rests plays [] = length-map plays whole_play
length-rests [] (c ∷ cursors) = refl
length-rests (p ∷ plays) (c ∷ cursors) = grind (arith, length-rests plays cursors)

-- the play of a child that was started
pub rest_at : (plays : List Play) (cursors : List Cursor) (k : ℕ) (p : Play) (c : Cursor) (d : PlayState) → k < length plays → k < length cursors
    → p ≡ get_or plays k p → c ≡ get_or cursors k c → get_or (rests plays cursors) k d ≡ rest_of p c
rest_at plays [] k p c d within started at cursor = absurd (omega arith)
rest_at [] (x ∷ cursors) k p c d within started at cursor = absurd (omega arith)
rest_at (q ∷ plays) (x ∷ cursors) zero p c d within started at cursor = sym (ap (λ (y : Play). rest_of y x) at) ∙ sym (ap (rest_of p) cursor)
rest_at (q ∷ plays) (x ∷ cursors) (suc k) p c d within started at cursor = rest_at plays cursors k p c d (omega (arith, within)) (omega (arith, started)) at cursor

-- one child that comes further
pub rests-set : (plays : List Play) (cursors : List Cursor) (k : ℕ) (p : Play) (c : Cursor) → k < length plays → k < length cursors
    → p ≡ get_or plays k p → rests plays (slice_set cursors k c) ≡ slice_set (rests plays cursors) k (rest_of p c)
rests-set plays [] k p c within started at = absurd (omega arith)
rests-set [] (x ∷ cursors) k p c within started at = absurd (omega arith)
rests-set (q ∷ plays) (x ∷ cursors) zero p c within started at = sym (ap (λ (y : Play). rest_of y c ∷ rests plays cursors) at)
rests-set (q ∷ plays) (x ∷ cursors) (suc k) p c within started at = ap (λ (l : List PlayState). rest_of q x ∷ l) (rests-set plays cursors k p c (omega (arith, within)) (omega (arith, started)) at)

rest-fresh : (p : Play) → rest_of p fresh_cursor ≡ whole_play p
rest-fresh p = ap (λ r. let s : PlayState = record { reads = r; ends = map answer_of (items_of p.ends) } in s) (less_first-zero (map answer_of (items_of p.reads)))

rests-more : (plays : List Play) (cursors : List Cursor) → rests plays (cursors ++ fresh_cursor ∷ []) ≡ rests plays cursors
rests-more [] [] = refl
rests-more (p ∷ plays) [] = ap (λ (r : PlayState). r ∷ map whole_play plays) (rest-fresh p)
rests-more [] (c ∷ cursors) = refl
rests-more (p ∷ plays) (c ∷ cursors) = ap (λ (l : List PlayState). rest_of p c ∷ l) (rests-more plays cursors)

-- a spawn leaves all plays as they are
pub rests_by : (plays : List Play) (cursors : List Cursor) (s : Spawned) → rests plays (cursors ++ cursors_by s) ≡ rests plays cursors
rests_by plays cursors (spawned.Started child) = rests-more plays cursors
rests_by plays cursors spawned.Refused = ap (rests plays) (append-nil cursors)

-- one child that comes further, or stays where it was as the call fails
pub rests_step : (f : PlayState → PlayState) (left : List PlayState) (d : PlayState) (plays : List Play) (cursors : List Cursor) (k : ℕ) (p : Play) (c next : Cursor) (fails now : Bool)
    → rests plays cursors ≡ left → fails ≡ now → k < length plays → k < length cursors → p ≡ get_or plays k p → c ≡ get_or cursors k c
    → rest_of p next ≡ (if fails then rest_of p c else f (rest_of p c))
    → rests plays (slice_set cursors k next) ≡ (if now then left else slice_set left k (f (get_or left k d)))
rests_step f left d plays cursors k p c next true now e b within started at cursor moved =
    rw (← e, ← b, rests-set plays cursors k p next within started at, moved, ← rest_at plays cursors k p c d within started at cursor, set-get_or)
rests_step f left d plays cursors k p c next false now e b within started at cursor moved =
    rw (← e, ← b, rests-set plays cursors k p next within started at, moved, ← rest_at plays cursors k p c d within started at cursor)
