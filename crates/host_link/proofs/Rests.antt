-- What is left of plays as their children are read.
use Rattle.std.proofs.Common.{◌≡◌, ℕ, ◌+◌, Bool, true, false, List, [], ◌∷◌, drop, map, Some, slice_get, refl, ap, add-one}
use Rattle.std.proofs.lemmas.List.{drop-map}
use Rattle.std.proofs.lemmas.Option.{slice_get_within, get_or_from_slice_get}
use Rattle.std.proofs.Math.Seq.{drop-cons}
use Rattle.std.specs.Bool.{if◌then◌else◌}
use Rattle.ek_types.specs.Listing.{items_of}
use Rattle.plain_machine.specs.Exchanges as model
use Rattle.plain_machine.specs.Exchanges.{Answer}
use Rattle.host_link.specs.declared.play.Play.{Play}
use Rattle.host_link.specs.declared.play.Cursor.{Cursor}
use Rattle.host_link.specs.Meaning.{answer_of}
use Rattle.host_link.specs.Played.{PlayState, after_read, left_of}
use Rattle.host_link.specs.Cursors.{less, less_first, moved_by, rest_of}

less-zero : (a : Answer) → less 0 a ≡ a
less-zero (model.Bytes bytes) = refl
less-zero _ = refl

-- nothing given leaves all
pub less_first-zero : (answers : List Answer) → less_first 0 answers ≡ answers
less_first-zero [] = refl
less_first-zero (a ∷ answers) = ap (λ x. x ∷ answers) (less-zero a)

-- what is left at a place begins with what stands there
pub drop_at : {T S : Type 0} (f : T → S) (xs : List T) (i : ℕ) (x : T) → slice_get xs i ≡ Some x → drop i (map f xs) ≡ f x ∷ drop (i + 1) (map f xs)
drop_at f xs i x h =
    let within = slice_get_within xs i x h in
    let here = get_or_from_slice_get xs i x x h in
    rw (drop-map f i xs, drop-map f (i + 1) xs, add-one i, drop-cons xs i x, here)

-- one answer was read, or some of its bytes
read_step : (answers : List Answer) (reads given room more : ℕ) (a : Answer) (used : Bool) → drop reads answers ≡ a ∷ drop (reads + 1) answers
    → left_of room (less given a) ≡ (if used then [] else less more a ∷ [])
    → less_first (if used then 0 else more) (drop (if used then reads + 1 else reads) answers) ≡ after_read room (less_first given (drop reads answers))
read_step answers reads given room more a true at left = rw (at, left, less_first-zero (drop (reads + 1) answers))
read_step answers reads given room more a false at left = rw (at, left)

pub rest_after : (p : Play) (c : Cursor) (a : Answer) (room more : ℕ) (used : Bool)
    → drop c.reads (map answer_of (items_of p.reads)) ≡ a ∷ drop (c.reads + 1) (map answer_of (items_of p.reads))
    → left_of room (less c.bytes a) ≡ (if used then [] else less more a ∷ [])
    → rest_of p (moved_by c used more) ≡ record (rest_of p c) { reads = after_read room (rest_of p c).reads }
rest_after p c a room more true at left =
    ap (λ (r : List Answer). let s : PlayState = record { reads = r; ends = drop c.ends (map answer_of (items_of p.ends)) } in s) (read_step (map answer_of (items_of p.reads)) c.reads c.bytes room more a true at left)
rest_after p c a room more false at left =
    ap (λ (r : List Answer). let s : PlayState = record { reads = r; ends = drop c.ends (map answer_of (items_of p.ends)) } in s) (read_step (map answer_of (items_of p.reads)) c.reads c.bytes room more a false at left)
