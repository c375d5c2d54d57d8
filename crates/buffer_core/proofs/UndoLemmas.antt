-- One record undone after the other: the accessible portion, as the trial follows it.
use Rattle.std.proofs.Common.{◌≡◌, ℕ, zero, suc, ◌+◌, ◌-◌, ◌<◌, ◌≤◌, ◌≢◌, ℤ, Bool, true, false, List, [], ◌∷◌, length, drop, All, Option, Some, None, Result, Ok, Err, Bor, refl, ap, sym, subst, ◌∙◌, arith}
use Rattle.std.specs.Prelude.{nat_le, nat_lt, ◌==◌, if◌then◌else◌, IfSome, OnOk, OnErr, slice_get, option_map, option_copied}
use Rattle.std.proofs.lemmas.Bool.{leb-true, and_parts, le-leb, le-ltb, ltb-true, ltb-false, eqb-true, eqb-false, false≢true}
use Rattle.std.proofs.lemmas.Option.{none-some, slice_get_past}
use Rattle.std.proofs.lemmas.List.{drop_all}
use Rattle.text_model.specs.Places.{after_insert, after_delete}
use Rattle.text_model.specs.Properties.{PropEdit, Add, Remove, PropVal, put, given, Symbols, with_sets, edited}
use Rattle.text_model.specs.Ordered.{IsValue}
use Rattle.text_model.specs.Undo.{Rec, Boundary, Point, Inserted, Deleted, Prop, First, Moved, Entry, Undo, lies_inside, max_after, trial, pass}
use Rattle.text_model.specs.Marks.{Marks}
use Rattle.text_model.specs.Commit.{Buffer, Site, set_point, undo_one, undo_each, undone_groups, moves_behind, with_properties, property_records, recorded}
use Rattle.text_model.proofs.Cases.{by_test, if_true, if_false}
use Rattle.text_model.proofs.Lists.{drop_at, All-slice_get}
use Rattle.text_pool.specs.Pool.{Pooled}
use Rattle.buffer_core.specs.Meaning.{Stored, buffer_of, site_of, CanBeUndone}
use Rattle.buffer_core.specs.Undoing.{value_back, is_change, ChangesOnlyAt, StaysButForPoint, with_pending}

-- TRIALS
pub tried_first : (min max : ℕ) (e : Entry) (es : List Entry) → trial min max (e ∷ es) ≡ None → lies_inside min max e.what ≡ true
tried_first min max e es h = go (lies_inside min max e.what) h
  where
    go : (t : Bool) → ◌≡◌ {A = Option Entry} (elim t [ true ↦ trial min (max_after max e.what) es | false ↦ Some e ]) None → t ≡ true
    go true h = refl
    go false h = absurd (none-some e (sym h))

pub tried_rest : (min max : ℕ) (e : Entry) (es : List Entry) → trial min max (e ∷ es) ≡ None → trial min (max_after max e.what) es ≡ None
tried_rest min max e es h = go (lies_inside min max e.what) h
  where
    go : (t : Bool) → ◌≡◌ {A = Option Entry} (elim t [ true ↦ trial min (max_after max e.what) es | false ↦ Some e ]) None → trial min (max_after max e.what) es ≡ None
    go true h = h
    go false h = absurd (none-some e (sym h))

-- THE ACCESSIBLE PORTION
front_stays : (from to p : ℕ) → p ≤ from → after_delete from to p ≡ p
front_stays from to p h = if_true _ (le-leb p from h)

end_comes_nearer : (from to p : ℕ) → from ≤ to → to ≤ p → after_delete from to p ≡ p - (to - from)
end_comes_nearer from to p h k =
    by_test (λ q. q ≡ p - (to - from)) (nat_le p from) p (if nat_lt p to then from else p - (to - from))
    (λ t. let l : p ≤ from = leb-true p from t in omega arith)
    (λ t. if_false _ (le-ltb p to k))

start_stays : (at n p : ℕ) → p ≤ at → after_insert at n false p ≡ p
start_stays at n p h = by_test (λ q. q ≡ p) (nat_lt p at) p (if nat_lt at p then p + n else p) (λ t. refl) (λ t. if_false _ (le-ltb at p h))

end_goes_on : (at n p : ℕ) → at ≤ p → after_insert at n true p ≡ p + n
end_goes_on at n p h =
    if_false _ (le-ltb p at h) ∙ by_test (λ q. q ≡ p + n) (nat_lt at p) (p + n) (at + n) (λ t. refl) (λ t. let l : p ≤ at = ltb-false at p t in omega arith)

begin_with_properties : (edit : PropEdit) (from to : ℕ) (b : Buffer) → ((with_properties edit from to b).begin ≡ b.begin) × ((with_properties edit from to b).end ≡ b.end)
begin_with_properties edit from to b = go (property_records edit from to b.text)
  where
    go : (rs : List Rec) → let c : Buffer = elim rs [ [] ↦ b | r ∷ records ↦ record b { text = with_sets from to (edited edit) b.text; modified = true; undo = recorded (r ∷ records) b } ] in (c.begin ≡ b.begin) × (c.end ≡ b.end)
    go [] = (refl, refl)
    go (r ∷ records) = (refl, refl)

pub record Follows (id : ℕ) (w : Rec) (behind : List (ℕ × ℤ)) (s : Site) : Type 0 where
  pub begin : (undo_one id w behind s).buffer.begin ≡ s.buffer.begin
  pub end : (undo_one id w behind s).buffer.end ≡ max_after s.buffer.end w

pub bounds_undone : (id : ℕ) (w : Rec) (behind : List (ℕ × ℤ)) (s : Site) → CanBeUndone w → lies_inside s.buffer.begin s.buffer.end w ≡ true → Follows id w behind s
bounds_undone id (Inserted from to) behind s c h =
    let x = and_parts (nat_le s.buffer.begin from) (nat_le to s.buffer.end) h in
    record { begin = front_stays from to s.buffer.begin (leb-true _ _ x.0); end = end_comes_nearer from to s.buffer.end c (leb-true _ _ x.1) }
bounds_undone id (Deleted piece place) behind s c h =
    let x = and_parts (nat_le s.buffer.begin place) (nat_le place s.buffer.end) h in
    record { begin = start_stays place (length piece) s.buffer.begin (leb-true _ _ x.0); end = end_goes_on place (length piece) s.buffer.end (leb-true _ _ x.1) }
bounds_undone id (Prop name (Some old) from to) behind s c h = let x = begin_with_properties (Add ((name, old) ∷ []) []) from to s.buffer in record { begin = x.0; end = x.1 }
bounds_undone id (Prop name None from to) behind s c h = let x = begin_with_properties (Remove (name ∷ [])) from to s.buffer in record { begin = x.0; end = x.1 }
bounds_undone id (Point place) behind s c h = record { begin = refl; end = refl }
bounds_undone id First behind s c h = record { begin = refl; end = refl }
bounds_undone id Boundary behind s c h = record { begin = refl; end = refl }
bounds_undone id (Moved marker adjustment) behind s c h = record { begin = refl; end = refl }

-- VALUES
pub value_given : (name : ℕ) (v : PropVal) → IsValue v → put [] name (given v) ≡ (name, v) ∷ []
value_given name (Symbols []) h = absurd h
value_given name (Symbols (x ∷ xs)) h = refl
value_given name PropVal.Truth h = refl
value_given name (PropVal.Number i) h = refl
value_given name (PropVal.Symbol s) h = refl
value_given name (PropVal.Text t) h = refl

-- IN TURN
pub none_behind : {A : Type 0} (xs : List A) (i : ℕ) → slice_get xs i ≡ None → length xs ≤ i
none_behind [] i h = omega arith
none_behind (x ∷ xs) zero h = absurd (none-some x (sym h))
none_behind (x ∷ xs) (suc i) h = let rest = none_behind xs i h in omega (arith, rest)

pub undoable_at : (es : List Entry) (i : ℕ) → All (λ e. CanBeUndone e.what) es → IfSome (slice_get es i) (λ e. CanBeUndone e.what)
undoable_at es i all = go (slice_get es i) refl
  where
    go : (o : Option Entry) → slice_get es i ≡ o → IfSome o (λ e. CanBeUndone e.what)
    go None h = tt
    go (Some e) h = All-slice_get (λ e. CanBeUndone e.what) es i e all h

pub inside_at : (min max : ℕ) (es : List Entry) (i : ℕ) → trial min max (drop i es) ≡ None → IfSome (slice_get es i) (λ e. lies_inside min max e.what ≡ true)
inside_at min max es i tried = go (slice_get es i) refl
  where
    go : (o : Option Entry) → slice_get es i ≡ o → IfSome o (λ e. lies_inside min max e.what ≡ true)
    go None k = tt
    go (Some e) k = tried_first min max e (drop (i + 1) es) (sym (ap (trial min max) (drop_at es i e k)) ∙ tried)

pub undone_on : (id i : ℕ) (es : List Entry) (s t whole : Site) → i < length es → All (λ e. CanBeUndone e.what) es
    → trial s.buffer.begin s.buffer.end (drop i es) ≡ None
    → IfSome (slice_get es i) (λ e. t ≡ undo_one id e.what (moves_behind (drop (i + 1) es)) s)
    → undo_each id (drop i es) s ≡ whole
    → (trial t.buffer.begin t.buffer.end (drop (i + 1) es) ≡ None) × (undo_each id (drop (i + 1) es) t ≡ whole)
undone_on id i es s t whole h all tried step so_far = go (slice_get es i) refl step
  where
    go : (o : Option Entry) → slice_get es i ≡ o → IfSome o (λ e. t ≡ undo_one id e.what (moves_behind (drop (i + 1) es)) s)
        → (trial t.buffer.begin t.buffer.end (drop (i + 1) es) ≡ None) × (undo_each id (drop (i + 1) es) t ≡ whole)
    go None k stepped = let over = none_behind es i k in absurd (omega (arith, over, h))
    go (Some e) k stepped =
        let rest : List Entry = drop (i + 1) es in
        let here : drop i es ≡ e ∷ rest = drop_at es i e k in
        let tried_here : trial s.buffer.begin s.buffer.end (e ∷ rest) ≡ None = sym (ap (trial s.buffer.begin s.buffer.end) here) ∙ tried in
        let follows = bounds_undone id e.what (moves_behind rest) s (All-slice_get (λ e. CanBeUndone e.what) es i e all k) (tried_first s.buffer.begin s.buffer.end e rest tried_here) in
        let begin : t.buffer.begin ≡ s.buffer.begin = ap (λ (x : Site). x.buffer.begin) stepped ∙ follows.begin in
        let end_is : t.buffer.end ≡ max_after s.buffer.end e.what = ap (λ (x : Site). x.buffer.end) stepped ∙ follows.end in (
          rw (begin, end_is) (tried_rest s.buffer.begin s.buffer.end e rest tried_here),
          ap (undo_each id rest) stepped ∙ sym (ap (λ l. undo_each id l s) here) ∙ so_far,
        )

pub none_left : (id i : ℕ) (es : List Entry) (s whole : Site) → length es ≤ i → undo_each id (drop i es) s ≡ whole → s ≡ whole
none_left id i es s whole h so_far = sym (ap (λ l. undo_each id l s) (drop_all i es h)) ∙ so_far

pub all_left : (es : List Entry) → drop 0 es ≡ es
all_left [] = refl
all_left (e ∷ es) = refl

-- WHETHER ONE IS OF A CHANGE
-- no record from one place to before another is of a change
abbrev pub NoChange : (from to : ℕ) → List Entry → Type 0
NoChange from to es = (i : ℕ) → from ≤ i → i < to → IfSome (slice_get es i) (λ e. is_change e.what ≡ false)

pub no_change_more : (from to : ℕ) (es : List Entry) (e : Entry) → NoChange from to es → slice_get es to ≡ Some e → is_change e.what ≡ false → NoChange from (to + 1) es
no_change_more from to es e before at light = λ i low high.
    by_test (λ (_ : ℕ). IfSome (slice_get es i) (λ e. is_change e.what ≡ false)) (i == to) 0 0
    (λ k. let same : i ≡ to = eqb-true i to k in subst (λ (o : Option Entry). IfSome o (λ e. is_change e.what ≡ false)) (sym (ap (slice_get es) same ∙ at)) light)
    (λ k. before i low (less i high (eqb-false i to k)))
  where
    less : (i : ℕ) → i < to + 1 → i ≢ to → i < to
    less i h apart = omega (arith, h, apart)

pub one_change : (only behind : ℕ) (es : List Entry) → NoChange 0 only es → (behind ≤ only + 1) → NoChange behind (length es) es → ChangesOnlyAt only es
one_change only behind es before next after = λ i apart.
    by_test (λ (_ : ℕ). IfSome (slice_get es i) (λ e. is_change e.what ≡ false)) (nat_lt i only) 0 0
    (λ k. before i (omega arith) (ltb-true i only k))
    (λ k. by_test (λ (_ : ℕ). IfSome (slice_get es i) (λ e. is_change e.what ≡ false)) (nat_lt i (length es)) 0 0
    (λ m. after i (further i (ltb-false i only k) apart) (ltb-true i (length es) m))
    (λ m. subst (λ (o : Option Entry). IfSome o (λ e. is_change e.what ≡ false)) (sym (slice_get_past es i (ltb-false i (length es) m))) tt))
  where
    further : (i : ℕ) → only ≤ i → i ≢ only → behind ≤ i
    further i h apart = omega (arith, h, apart, next)

-- A REFUSAL
-- a site that is the same, or has another point
pub same_stays : (old new : Site) → new ≡ old → StaysButForPoint old new
same_stays old new e = e ∙ ap (λ (x : Site). record old { buffer = record old.buffer { point = x.buffer.point; modified = x.buffer.modified } }) (sym e)

pub point_stays : (place : ℕ) (old new : Site) → new ≡ set_point place old → StaysButForPoint old new
point_stays place old new e = e ∙ ap (λ (x : Site). record old { buffer = record old.buffer { point = x.buffer.point; modified = x.buffer.modified } }) (sym e)

stays_then : (a b c : Site) → StaysButForPoint a b → StaysButForPoint b c → StaysButForPoint a c
stays_then a b c h k = k ∙ ap (λ (x : Site). record x { buffer = record x.buffer { point = c.buffer.point; modified = c.buffer.modified } }) h

stays_undone : (id : ℕ) (w : Rec) (behind : List (ℕ × ℤ)) (s : Site) → is_change w ≡ false → StaysButForPoint s (undo_one id w behind s)
stays_undone id (Inserted from to) behind s h = absurd (false≢true (sym h))
stays_undone id (Deleted piece place) behind s h = absurd (false≢true (sym h))
stays_undone id (Prop name old from to) behind s h = absurd (false≢true (sym h))
stays_undone id (Point place) behind s h = refl
stays_undone id First behind s h = refl
stays_undone id Boundary behind s h = refl
stays_undone id (Moved marker adjustment) behind s h = refl

-- while no record of a change has been undone, all stays but for point and the flag
abbrev pub StaysBefore : (es : List Entry) (i : ℕ) (first s : Site) → Type 0
StaysBefore es i first s = (only : ℕ) → ChangesOnlyAt only es → i ≤ only → StaysButForPoint first s

pub stays_first : (es : List Entry) (s : Site) → StaysBefore es 0 s s
stays_first es s = λ only one before. refl

pub undone_stays : (id i : ℕ) (es : List Entry) (first s t : Site) → i < length es → StaysBefore es i first s
    → IfSome (slice_get es i) (λ e. t ≡ undo_one id e.what (moves_behind (drop (i + 1) es)) s) → StaysBefore es (i + 1) first t
undone_stays id i es first s t h so_far step = λ only one before. go only one before (slice_get es i) refl step (one i (λ e. omega arith))
  where
    go : (only : ℕ) → ChangesOnlyAt only es → i + 1 ≤ only → (o : Option Entry) → slice_get es i ≡ o → IfSome o (λ e. t ≡ undo_one id e.what (moves_behind (drop (i + 1) es)) s)
        → IfSome (slice_get es i) (λ e. is_change e.what ≡ false) → StaysButForPoint first t
    go only one before None k stepped light = let over = none_behind es i k in absurd (omega (arith, over, h))
    go only one before (Some e) k stepped light =
        let here : is_change e.what ≡ false = subst (λ (o : Option Entry). IfSome o (λ e. is_change e.what ≡ false)) k light in
        stays_then first s t (so_far only one (omega (arith, before))) (subst (StaysButForPoint s) (sym stepped) (stays_undone id e.what (moves_behind (drop (i + 1) es)) s here))

pub on_err : {A E : Type 0} (r : Result A E) (P : Type 0) → P → OnErr r P
on_err (Ok x) P h = tt
on_err (Err x) P h = h

pub refused_stays : {A E : Type 0} (r : Result A E) (i : ℕ) (es : List Entry) (first s t : Site) → i < length es → StaysBefore es i first s → IfSome (slice_get es i) (λ e. is_change e.what ≡ true) → StaysButForPoint s t
    → (only : ℕ) → ChangesOnlyAt only es → OnErr r (StaysButForPoint first t)
refused_stays r i es first s t h so_far change stays only one =
    on_err r (StaysButForPoint first t) (by_test (λ (_ : ℕ). StaysButForPoint first t) (i == only) 0 0
    (λ k. let e : i ≡ only = eqb-true i only k in stays_then first s t (so_far only one (omega (arith, e))) stays)
    (λ k. absurd (other (eqb-false i only k))))
  where
    other : i ≢ only → ⊥
    other apart = go (slice_get es i) refl change (one i apart)
      where
        go : (o : Option Entry) → slice_get es i ≡ o → IfSome o (λ e. is_change e.what ≡ true) → IfSome o (λ e. is_change e.what ≡ false) → ⊥
        go None k a b = let over = none_behind es i k in omega (arith, over, h)
        go (Some e) k a b = false≢true (sym b ∙ a)

-- WHAT IS PENDING
pub pending_site : (below : ℕ) (pool : Pooled) (old new : Stored) (marks : Marks) → new ≡ record old { undo = new.undo } → new.undo.state ≡ record old.undo.state { pending_below = below }
    → site_of pool new marks ≡ with_pending below (site_of pool old marks)
pending_site below pool old new marks rest state =
    ap (λ (b : Stored). site_of pool b marks) rest
    ∙ ap (λ (u : Undo). record (site_of pool old marks) { buffer = record (buffer_of pool old) { undo = u } }) state

-- all goes back that a refusal may have changed
pub stands_again : (below : ℕ) (old_pool new_pool : Pooled) (old pending new last : Stored) (marks new_marks : Marks)
    → site_of old_pool pending marks ≡ with_pending below (site_of old_pool old marks)
    → StaysButForPoint (site_of old_pool pending marks) (site_of new_pool new new_marks)
    → last ≡ record new { begin = old.begin; end = old.end; point = old.point; modified = old.modified; undo = last.undo }
    → last.undo.state ≡ record new.undo.state { pending_below = old.undo.state.pending_below }
    → site_of new_pool last new_marks ≡ site_of old_pool old marks
stands_again below old_pool new_pool old pending new last marks new_marks is_pending stays rest state =
    ap (λ (b : Stored). site_of new_pool b new_marks) rest
    ∙ ap (λ (u : Undo). record (site_of new_pool new new_marks) { buffer = record (buffer_of new_pool new) { begin = old.begin; end = old.end; point = old.point; modified = old.modified; undo = u } }) state
    ∙ ap back stays ∙ ap back is_pending
  where
    back : Site → Site
    back x = record x {
      buffer = record x.buffer {
        begin = old.begin;
        end = old.end;
        point = old.point;
        modified = old.modified;
        undo = record x.buffer.undo { pending_below = old.undo.state.pending_below };
      };
    }

-- PLANS AND RECORDS, AS UNDOING TAKES THEM
pub undone_prop : (id name : ℕ) (old : Option PropVal) (from to : ℕ) (behind : List (ℕ × ℤ)) (s : Site)
    → record s { buffer = with_properties (value_back name old) from to s.buffer } ≡ undo_one id (Prop name old from to) behind s
undone_prop id name (Some v) from to behind s = refl
undone_prop id name None from to behind s = refl

-- what a refused change is
pub is_refused : {T E : Type 0} (r : Result T E) → OnErr r (true ≡ true)
is_refused (Ok x) = tt
is_refused (Err e) = refl

pub holds_refused : {T E P : Type 0} (r : Result T E) → P → OnErr r P
holds_refused (Ok x) p = tt
holds_refused (Err e) p = p

-- what is said of a buffer, said of its site
pub site_given : {T E : Type 0} (r : Result T E) (old new : Buffer) (marks : Marks) → OnOk r (new ≡ old) → OnOk r (◌≡◌ {A = Site} (record { buffer = new; marks = marks }) (record { buffer = old; marks = marks }))
site_given (Ok x) old new marks e = ap (λ (b : Buffer). record { buffer = b; marks = marks }) e
site_given (Err e) old new marks h = tt

pub site_refused : {T E : Type 0} (r : Result T E) (old new : Buffer) (marks : Marks) → OnErr r (new ≡ old) → OnErr r (StaysButForPoint (record { buffer = old; marks = marks }) (record { buffer = new; marks = marks }))
site_refused (Ok x) old new marks h = tt
site_refused (Err e) old new marks h = same_stays (record { buffer = old; marks = marks }) (record { buffer = new; marks = marks }) (ap (λ (b : Buffer). record { buffer = b; marks = marks }) h)

-- a value lent, and what it is lent of
pub value_behind : {T B : Type 0} (f : T → B) (lent : Option (Bor T)) → option_map f (option_copied lent) ≡ option_map (λ v. f v.now) lent
value_behind f (Some v) = refl
value_behind f None = refl

-- passing a plan's groups is making those below its last one pending
pub undone_plan : (id below : ℕ) (pool : Pooled) (b : Stored) (marks : Marks) (es : List Entry) → record b.undo.state { pending_below = below } ≡ pass es b.undo.state
    → undo_each id es (with_pending below (site_of pool b marks)) ≡ undone_groups id es (site_of pool b marks)
undone_plan id below pool b marks es e =
    ap (λ (u : Undo). undo_each id es (record (site_of pool b marks) { buffer = record (buffer_of pool b) { undo = u } })) e
