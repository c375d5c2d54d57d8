-- Groups of records undone: the text is the one that rewinding them gives, and older boundaries keep theirs.
use Rattle.std.proofs.Common.{◌≡◌, ℕ, zero, suc, ◌+◌, ◌-◌, ◌≤◌, ◌<◌, Bool, true, false, List, [], ◌∷◌, ◌++◌, length, refl, ap, sym, subst, ◌∙◌, arith, ◌⊎◌, inl, inr}
use Rattle.std.specs.Prelude.{if◌then◌else◌, ◌==◌, not, nat_lt, nat_le, filter, Option, Some, None, ℤ}
use Rattle.std.proofs.lemmas.Bool.{eqb-true, ne_eqb, ltb-true, ltb-false, lt-ltb, le-ltb, leb-true, and_parts, false≢true}
use Rattle.std.proofs.lemmas.Option.{none-some}
use Rattle.text_model.specs.Properties.{Add, Remove, Cell, splice, with_sets, put}
use Rattle.text_model.specs.Ordered.{AreOrdered}
use Rattle.text_model.specs.Undo.{Rec, Boundary, Point, Inserted, Deleted, Prop, First, Moved, Entry, Undo, is_boundary, newer_than, rewind, undo_in_text, lies_inside, max_after, trial, pending, groups, passed, undone, oldest, pass}
use Rattle.text_model.specs.Commit.{Buffer, Site, set_point, undo_one, undo_each, moves_behind, undone_groups}
use Rattle.text_model.specs.Undo.{boundary_at, ends_with}
use Rattle.machine_laws.specs.Good.{IsFine, Falling, OffIsEmpty, PendingAgrees, Good}
use Rattle.text_model.proofs.Cases.{by_test, if_true, if_false}
use Rattle.machine_laws.proofs.Records.{falling_less, Steps, older, HeadAbove, moves_then, moves_stay}
use Rattle.machine_laws.proofs.Changes.{Outcome, inserted_outcome, deleted_outcome, properties_outcome, text-with_properties, length-splice, length-with_sets}

-- TRIALS
abbrev Same : Option Entry → Option Entry → Type 0
Same a b = a ≡ b

abbrev Tried : Option Entry → Type 0
Tried o = o ≡ None

-- a record whose places lie from one place to another
abbrev pub Within : Rec → (min max : ℕ) → Type 0
Within (Inserted from to) min max = (min ≤ from) × (from ≤ to) × (to ≤ max)
Within (Deleted piece place) min max = (min ≤ place) × (place ≤ max) × AreOrdered piece
Within (Prop name old from to) min max = (min ≤ from) × (from ≤ to) × (to ≤ max)
Within (Point place) min max = (min ≤ place) × (place ≤ max)
Within _ min max = Unit {0}

inside_within : (min max : ℕ) (w : Rec) → IsFine w → lies_inside min max w ≡ true → Within w min max
inside_within min max (Inserted from to) f t = let x : (nat_le min from ≡ true) × (nat_le to max ≡ true) = and_parts _ _ t in (leb-true min from x.0, f, leb-true to max x.1)
inside_within min max (Deleted piece place) f t = let x : (nat_le min place ≡ true) × (nat_le place max ≡ true) = and_parts _ _ t in (leb-true min place x.0, leb-true place max x.1, f)
inside_within min max (Prop name old from to) f t = let x : (nat_le min from ≡ true) × (nat_le to max ≡ true) = and_parts _ _ t in (leb-true min from x.0, f, leb-true to max x.1)
inside_within min max (Point place) f t = let x : (nat_le min place ≡ true) × (nat_le place max ≡ true) = and_parts _ _ t in (leb-true min place x.0, leb-true place max x.1)
inside_within min max Boundary f t = tt
inside_within min max First f t = tt
inside_within min max (Moved m a) f t = tt

-- a trial that finds nothing goes on behind each record
pub trial_more : (min max : ℕ) (e : Entry) (es : List Entry) → IsFine e.what → trial min max (e ∷ es) ≡ None → Within e.what min max × (trial min (max_after max e.what) es ≡ None)
trial_more min max e es f t = go (lies_inside min max e.what) refl t
  where
    go : (v : Bool) → lies_inside min max e.what ≡ v → Tried (elim v [ true ↦ trial min (max_after max e.what) es | false ↦ Some e ]) → Within e.what min max × (trial min (max_after max e.what) es ≡ None)
    go true q k = (inside_within min max e.what f q, k)
    go false q k = absurd (none-some e (sym k))

-- boundaries don't count in it
pub trial-undone : (min max : ℕ) (es : List Entry) → trial min max (filter (λ e. not (is_boundary e.what)) es) ≡ trial min max es
trial-undone min max [] = refl
trial-undone min max (e ∷ es) = go e.what e.serial (λ least most. trial-undone least most es)
  where
    rest : List Entry
    rest = filter (λ x. not (is_boundary x.what)) es

    tries : (v : Bool) (l m : Option Entry) (x : Entry) → l ≡ m → Same (elim v [ true ↦ l | false ↦ Some x ]) (elim v [ true ↦ m | false ↦ Some x ])
    tries true l m x h = h
    tries false l m x h = refl

    go : (w : Rec) (k : ℕ) → ((least most : ℕ) → trial least most rest ≡ trial least most es) → trial min max (filter (λ x. not (is_boundary x.what)) (record { what = w; serial = k } ∷ es)) ≡ trial min max (record { what = w; serial = k } ∷ es)
    go Boundary k ih = ih min max
    go (Inserted from to) k ih = tries _ _ _ _ (ih min (max - (to - from)))
    go (Deleted piece place) k ih = tries _ _ _ _ (ih min (max + length piece))
    go (Prop name old from to) k ih = tries _ _ _ _ (ih min max)
    go (Point place) k ih = tries _ _ _ _ (ih min max)
    go First k ih = ih min max
    go (Moved m a) k ih = ih min max

-- UNDOING RECORDS
pub record Undoes (b : Buffer) (es : List Entry) (c : Buffer) : Type 0 where
  pub outcome : Outcome b c
  pub text : c.text ≡ rewind es b.text

-- the point of a buffer counts for nothing here
at_site : (b d c : Buffer) → b.undo ≡ d.undo → b.text ≡ d.text → Outcome b c → Outcome d c
at_site b d c p q x = record { moves = rw (← p, ← q) x.moves; ordered = x.ordered }

pub one_record : (id : ℕ) (w : Rec) (behind : List (ℕ × ℤ)) (site : Site) (min max : ℕ) → Within w min max → max ≤ length site.buffer.text →
    AreOrdered site.buffer.text → Falling site.buffer.undo.next site.buffer.undo.entries → OffIsEmpty site.buffer.undo → Outcome site.buffer (undo_one id w behind site).buffer × ((undo_one id w behind site).buffer.text ≡ undo_in_text w site.buffer.text)
one_record id (Inserted from to) behind site min max h k r f o = (at_site (set_point from site).buffer site.buffer _ refl refl (deleted_outcome id from to (set_point from site) h.1 (omega (arith, h.2, k)) r f o), refl)
one_record id (Deleted piece place) behind site min max h k r f o = (at_site (set_point place site).buffer site.buffer _ refl refl (inserted_outcome id place piece false false (set_point place site) (omega (arith, h.1, k)) h.2 r f o), refl)
one_record id (Prop name (Some old) from to) behind site min max h k r f o = (properties_outcome (Add ((name, old) ∷ []) []) from to site.buffer h.1 r tt f o, text-with_properties (Add ((name, old) ∷ []) []) from to site.buffer h.1 r tt)
one_record id (Prop name None from to) behind site min max h k r f o = (properties_outcome (Remove (name ∷ [])) from to site.buffer h.1 r tt f o, text-with_properties (Remove (name ∷ [])) from to site.buffer h.1 r tt)
one_record id (Point place) behind site min max h k r f o = (record { moves = moves_stay _ _ f o; ordered = r }, refl)
one_record id First behind site min max h k r f o = (record { moves = moves_stay _ _ f o; ordered = r }, refl)
one_record id Boundary behind site min max h k r f o = (record { moves = moves_stay _ _ f o; ordered = r }, refl)
one_record id (Moved m a) behind site min max h k r f o = (record { moves = moves_stay _ _ f o; ordered = r }, refl)

-- the end of the accessible portion as the trial follows it
within_after : (w : Rec) (min max : ℕ) (t : List Cell) → Within w min max → max ≤ length t → max_after max w ≤ length (undo_in_text w t)
within_after (Inserted from to) min max t h k =
    let q : to ≤ length t = omega (arith, h.2, k) in
    let e : length (splice from to [] t) + (to - from) ≡ length t + 0 = length-splice from to [] t h.1 q in
    omega (arith, h.1)
within_after (Deleted piece place) min max t h k =
    let q : place ≤ length t = omega (arith, h.1, k) in
    let e : length (splice place place piece t) + (place - place) ≡ length t + length piece = length-splice place place piece t (omega arith) q in
    omega arith
within_after (Prop name old from to) min max t h k =
    let q : to ≤ length t = omega (arith, h.2, k) in
    let e : length (with_sets from to (λ set. put set name old) t) ≡ length t = length-with_sets from to (λ set. put set name old) t h.1 q in
    omega arith
within_after (Point place) min max t h k = k
within_after First min max t h k = k
within_after Boundary min max t h k = k
within_after (Moved m a) min max t h k = k

pub each_record : (id : ℕ) (es : List Entry) (site : Site) (min max bound : ℕ) → Falling bound es → trial min max es ≡ None → max ≤ length site.buffer.text →
    AreOrdered site.buffer.text → Falling site.buffer.undo.next site.buffer.undo.entries → OffIsEmpty site.buffer.undo → Undoes site.buffer es (undo_each id es site).buffer
each_record id [] site min max bound g t h r f o = record { outcome = record { moves = moves_stay _ _ f o; ordered = r }; text = refl }
each_record id (e ∷ es) site min max bound g t h r f o =
    let x : Within e.what min max × (trial min (max_after max e.what) es ≡ None) = trial_more min max e es g.1.0 t in
    let next : Site = undo_one id e.what (moves_behind es) site in
    let y : Outcome site.buffer next.buffer × (next.buffer.text ≡ undo_in_text e.what site.buffer.text) = one_record id e.what (moves_behind es) site min max x.0 h r f o in
    let l : max_after max e.what ≤ length next.buffer.text = rw y.1 (within_after e.what min max site.buffer.text x.0 h) in
    let z : Undoes next.buffer es (undo_each id es next).buffer = each_record id es next min (max_after max e.what) e.serial g.1.1 x.1 l y.0.ordered y.0.moves.steps.falling y.0.moves.off in
    record {
      outcome = record { moves = moves_then _ _ _ _ _ _ y.0.moves z.outcome.moves; ordered = z.outcome.ordered };
      text = z.text ∙ ap (rewind es) y.1;
    }

-- THE LISTS
oldest_below : (n b : ℕ) (es : List Entry) → Falling b es → oldest b (groups n es) ≤ b
oldest_below n b [] f = omega arith
oldest_below zero b (e ∷ es) f = omega arith
oldest_below (suc n) b (e ∷ es) f = go (is_boundary e.what) (oldest_below n e.serial es f.1.1) (oldest_below (suc n) e.serial es f.1.1)
  where
    go : (v : Bool) → oldest e.serial (groups n es) ≤ e.serial → oldest e.serial (groups (suc n) es) ≤ e.serial → oldest b (elim v [ true ↦ e ∷ groups n es | false ↦ e ∷ groups (suc n) es ]) ≤ b
    go true h k = let l : e.serial < b = f.0 in omega arith
    go false h k = let l : e.serial < b = f.0 in omega arith

pub older_all : (b : ℕ) (es : List Entry) → Falling b es → older b es ≡ es
older_all b [] f = refl
older_all b (e ∷ es) f = let l : e.serial < b = f.0 in rw (lt-ltb e.serial b l) (ap (λ x. e ∷ x) (older_all b es (falling_less e.serial b es (omega arith) f.1.1)))

older-older : (k b : ℕ) (es : List Entry) → k ≤ b → older k (older b es) ≡ older k es
older-older k b [] h = refl
older-older k b (e ∷ es) h = go (nat_lt e.serial b) refl (older-older k b es h)
  where
    go : (v : Bool) → nat_lt e.serial b ≡ v → older k (older b es) ≡ older k es → older k (if v then e ∷ older b es else older b es) ≡ (if nat_lt e.serial k then e ∷ older k es else older k es)
    go true q ih = ap (λ x. if nat_lt e.serial k then e ∷ x else x) ih
    go false q ih = let l : b ≤ e.serial = ltb-false e.serial b q in ih ∙ sym (if_false _ (le-ltb e.serial k (omega arith)))

pub falling-older : (n b : ℕ) (es : List Entry) → Falling n es → Falling b (older b es)
falling-older n b [] f = tt
falling-older n b (e ∷ es) f = go (nat_lt e.serial b) refl (falling-older e.serial b es f.1.1)
  where
    go : (v : Bool) → nat_lt e.serial b ≡ v → Falling b (older b es) → Falling b (if v then e ∷ older b es else older b es)
    go true q ih = (ltb-true e.serial b q, (f.1.0, rw (older_all b es (falling_less e.serial b es (let l : e.serial < b = ltb-true e.serial b q in omega arith) f.1.1)) f.1.1))
    go false q ih = ih

pub newer_than-older : (k s : ℕ) (es : List Entry) → s < k → newer_than s (older k es) ≡ older k (newer_than s es)
newer_than-older k s [] h = refl
newer_than-older k s (e ∷ es) h = go (e.serial == s) refl (newer_than-older k s es h)
  where
    go : (v : Bool) → (e.serial == s) ≡ v → newer_than s (older k es) ≡ older k (newer_than s es) → newer_than s (if nat_lt e.serial k then e ∷ older k es else older k es) ≡ older k (if v then [] else e ∷ newer_than s es)
    go true q ih = let x : e.serial ≡ s = eqb-true e.serial s q in ap (newer_than s) (if_true _ (lt-ltb e.serial k (omega arith))) ∙ if_true _ q
    go false q ih = by_test (λ l. newer_than s l ≡ (if nat_lt e.serial k then e ∷ older k (newer_than s es) else older k (newer_than s es))) (nat_lt e.serial k) (e ∷ older k es) (older k es)
        (λ a. if_false _ q ∙ ap (λ x. e ∷ x) ih ∙ sym (if_true _ a))
        (λ a. ih ∙ sym (if_false _ a))

pub falling-groups : (n b : ℕ) (es : List Entry) → Falling b es → Falling b (groups n es)
falling-groups n b [] f = tt
falling-groups zero b (e ∷ es) f = tt
falling-groups (suc n) b (e ∷ es) f = go (is_boundary e.what) (falling-groups n e.serial es f.1.1) (falling-groups (suc n) e.serial es f.1.1)
  where
    go : (v : Bool) → Falling e.serial (groups n es) → Falling e.serial (groups (suc n) es) → Falling b (elim v [ true ↦ e ∷ groups n es | false ↦ e ∷ groups (suc n) es ])
    go true h k = (f.0, (f.1.0, h))
    go false h k = (f.0, (f.1.0, k))

-- what is newer than a boundary below the groups: the groups, and what is newer behind them
newer_split : (n b s : ℕ) (es : List Entry) → Falling b es → s < oldest b (groups n es) → newer_than s es ≡ groups n es ++ newer_than s (older (oldest b (groups n es)) es)
newer_split n b s [] f h = refl
newer_split zero b s (e ∷ es) f h = ap (newer_than s) (sym (older_all b (e ∷ es) f))
newer_split (suc n) b s (e ∷ es) f h = go (is_boundary e.what) h (newer_split n e.serial s es f.1.1) (newer_split (suc n) e.serial s es f.1.1) (oldest_below n e.serial es f.1.1) (oldest_below (suc n) e.serial es f.1.1)
  where
    one : (gs : List Entry) → oldest e.serial gs ≤ e.serial → s < oldest e.serial gs → newer_than s es ≡ gs ++ newer_than s (older (oldest e.serial gs) es) → newer_than s (e ∷ es) ≡ e ∷ (gs ++ newer_than s (older (oldest e.serial gs) (e ∷ es)))
    one gs l k ih = if_false _ (ne_eqb e.serial s (λ q. omega arith)) ∙ ap (λ x. e ∷ x) (ih ∙ ap (λ x. gs ++ newer_than s x) (sym (if_false _ (le-ltb e.serial (oldest e.serial gs) l))))

    go : (v : Bool) → s < oldest b (elim v [ true ↦ e ∷ groups n es | false ↦ e ∷ groups (suc n) es ]) →
        (s < oldest e.serial (groups n es) → newer_than s es ≡ groups n es ++ newer_than s (older (oldest e.serial (groups n es)) es)) →
        (s < oldest e.serial (groups (suc n) es) → newer_than s es ≡ groups (suc n) es ++ newer_than s (older (oldest e.serial (groups (suc n) es)) es)) →
        oldest e.serial (groups n es) ≤ e.serial → oldest e.serial (groups (suc n) es) ≤ e.serial →
        let gs : List Entry = elim v [ true ↦ e ∷ groups n es | false ↦ e ∷ groups (suc n) es ] in newer_than s (e ∷ es) ≡ gs ++ newer_than s (older (oldest b gs) (e ∷ es))
    go true k a c p q = one (groups n es) p k (a k)
    go false k a c p q = one (groups (suc n) es) q k (c k)

-- a boundary that ends the groups lies in the list
ends_below : (n b s : ℕ) (es : List Entry) → Falling b es → ends_with s (groups n es) ≡ true → s < b
ends_below n b s [] f h = absurd (false≢true h)
ends_below zero b s (e ∷ es) f h = absurd (false≢true h)
ends_below (suc n) b s (e ∷ es) f h = go (is_boundary e.what) h (ends_below n e.serial s es f.1.1) (ends_below (suc n) e.serial s es f.1.1)
  where
    one : (gs : List Entry) → (ends_with s gs ≡ true → s < e.serial) → ends_with s (e ∷ gs) ≡ true → s < b
    one [] ih k = let y : (is_boundary e.what ≡ true) × ((e.serial == s) ≡ true) = and_parts _ _ k in let x : e.serial ≡ s = eqb-true e.serial s y.1 in let l : e.serial < b = f.0 in omega arith
    one (g ∷ gs) ih k = let x : s < e.serial = ih k in let l : e.serial < b = f.0 in omega arith

    go : (v : Bool) → ends_with s (elim v [ true ↦ e ∷ groups n es | false ↦ e ∷ groups (suc n) es ]) ≡ true → (ends_with s (groups n es) ≡ true → s < e.serial) → (ends_with s (groups (suc n) es) ≡ true → s < e.serial) → s < b
    go true k p q = one (groups n es) p k
    go false k p q = one (groups (suc n) es) q k

boundary_only : (w : Rec) (t : List Cell) → is_boundary w ≡ true → undo_in_text w t ≡ t
boundary_only Boundary t h = refl
boundary_only (Inserted from to) t h = absurd (false≢true h)
boundary_only (Deleted piece place) t h = absurd (false≢true h)
boundary_only (Prop name old from to) t h = absurd (false≢true h)
boundary_only (Point place) t h = refl
boundary_only First t h = refl
boundary_only (Moved m a) t h = refl

-- undoing groups that end at a boundary is undoing what is newer than it
ends_rewinds : (n b s : ℕ) (es : List Entry) (t : List Cell) → Falling b es → ends_with s (groups n es) ≡ true → rewind (groups n es) t ≡ rewind (newer_than s es) t
ends_rewinds n b s [] t f h = refl
ends_rewinds zero b s (e ∷ es) t f h = absurd (false≢true h)
ends_rewinds (suc n) b s (e ∷ es) t f h =
    go (is_boundary e.what) h (ends_below n e.serial s es f.1.1) (ends_below (suc n) e.serial s es f.1.1) (ends_rewinds n e.serial s es (undo_in_text e.what t) f.1.1) (ends_rewinds (suc n) e.serial s es (undo_in_text e.what t) f.1.1)
  where
    one : (gs : List Entry) → (ends_with s gs ≡ true → s < e.serial) → (ends_with s gs ≡ true → rewind gs (undo_in_text e.what t) ≡ rewind (newer_than s es) (undo_in_text e.what t)) →
        ends_with s (e ∷ gs) ≡ true → rewind (e ∷ gs) t ≡ rewind (newer_than s (e ∷ es)) t
    one [] l ih k = let x : (is_boundary e.what ≡ true) × ((e.serial == s) ≡ true) = and_parts _ _ k in boundary_only e.what t x.0 ∙ ap (λ y. rewind y t) (sym (if_true _ x.1))
    one (g ∷ gs) l ih k = let m : s < e.serial = l k in ih k ∙ ap (λ y. rewind y t) (sym (if_false _ (ne_eqb e.serial s (λ q. omega arith))))

    go : (v : Bool) → ends_with s (elim v [ true ↦ e ∷ groups n es | false ↦ e ∷ groups (suc n) es ]) ≡ true →
        (ends_with s (groups n es) ≡ true → s < e.serial) → (ends_with s (groups (suc n) es) ≡ true → s < e.serial) →
        (ends_with s (groups n es) ≡ true → rewind (groups n es) (undo_in_text e.what t) ≡ rewind (newer_than s es) (undo_in_text e.what t)) →
        (ends_with s (groups (suc n) es) ≡ true → rewind (groups (suc n) es) (undo_in_text e.what t) ≡ rewind (newer_than s es) (undo_in_text e.what t)) →
        let gs : List Entry = elim v [ true ↦ e ∷ groups n es | false ↦ e ∷ groups (suc n) es ] in rewind gs t ≡ rewind (newer_than s (e ∷ es)) t
    go true k p q i j = one (groups n es) p i k
    go false k p q i j = one (groups (suc n) es) q j k

-- no record below the groups can be extended
groups_head : (n b c : ℕ) (es : List Entry) → Falling c es → HeadAbove (oldest b (groups (suc n) (older b es))) es
groups_head n b c [] f = tt
groups_head n b c (e ∷ es) f = go (nat_lt e.serial b) refl
  where
    first : (l : List Entry) → Falling e.serial l → oldest b (groups (suc n) (e ∷ l)) ≤ e.serial
    first l g = by_v (is_boundary e.what) (oldest_below n e.serial l g) (oldest_below (suc n) e.serial l g)
      where
        by_v : (v : Bool) → oldest e.serial (groups n l) ≤ e.serial → oldest e.serial (groups (suc n) l) ≤ e.serial → oldest b (elim v [ true ↦ e ∷ groups n l | false ↦ e ∷ groups (suc n) l ]) ≤ e.serial
        by_v true p q = p
        by_v false p q = q

    go : (v : Bool) → nat_lt e.serial b ≡ v → oldest b (groups (suc n) (if v then e ∷ older b es else older b es)) ≤ e.serial
    go true q = let l : e.serial < b = ltb-true e.serial b q in first (older b es) (rw (older_all b es (falling_less e.serial b es (omega arith) f.1.1)) f.1.1)
    go false q = let l : b ≤ e.serial = ltb-false e.serial b q in let m : oldest b (groups (suc n) (older b es)) ≤ b = oldest_below (suc n) b (older b es) (falling-older e.serial b es f.1.1) in omega arith

groups_zero : (es : List Entry) → groups 0 es ≡ []
groups_zero [] = refl
groups_zero (e ∷ es) = refl

none_or_above : (n b c : ℕ) (es : List Entry) → Falling c es → (groups n (older b es) ≡ []) ⊎ HeadAbove (oldest b (groups n (older b es))) es
none_or_above zero b c es f = inl (groups_zero (older b es))
none_or_above (suc n) b c es f = inr (groups_head n b c es f)

rewind-append : (xs ys : List Entry) (t : List Cell) → rewind (xs ++ ys) t ≡ rewind ys (rewind xs t)
rewind-append [] ys t = refl
rewind-append (e ∷ xs) ys t = rewind-append xs ys (undo_in_text e.what t)

-- A CHANGE
-- a buffer after a change is good, and what is newer than a boundary rewinds to the same text
pub record Follows (b c : Buffer) : Type 0 where
  pub good : Good c
  pub steps : Steps b.undo.next b.undo.entries b.text c.undo.next c.undo.entries c.text

-- GROUPS UNDONE
pub record Undone (n : ℕ) (b c : Buffer) : Type 0 where
  pub follows : Follows b c
  pub text : c.text ≡ rewind (passed n b.undo) b.text
  pub kept : (s : ℕ) → boundary_at s b.undo.entries ≡ true → ends_with s (passed n b.undo) ≡ true → c.text ≡ rewind (newer_than s b.undo.entries) b.text

pub groups_undone : (id n : ℕ) (site : Site) → Good site.buffer → site.buffer.end ≤ length site.buffer.text → trial site.buffer.begin site.buffer.end (undone n site.buffer.undo) ≡ None →
    Undone n site.buffer (undone_groups id (passed n site.buffer.undo) site).buffer
groups_undone id n site g inside t = record {
  follows = record {
    good = record {
      ordered = x.outcome.ordered;
      falling = x.outcome.moves.steps.falling;
      off = x.outcome.moves.off;
      below = let p : u.pending_below ≤ u.next = g.below in let l : k ≤ u.pending_below = least in let q : u.next ≤ c.undo.next = x.outcome.moves.steps.grows in let r : c.undo.pending_below ≡ k = x.outcome.moves.pending_same in omega arith;
      agrees = agrees (none_or_above n u.pending_below u.next u.entries g.falling);
    };
    steps = x.outcome.moves.steps;
  };
  text = x.text;
  kept = λ s h e. x.text ∙ ends_rewinds n u.pending_below s (pending u) b.text below e ∙ g.agrees s (ends_below n u.pending_below s (pending u) below e) h;
}
  where
    b : Buffer
    b = site.buffer

    u : Undo
    u = site.buffer.undo

    es : List Entry
    es = passed n u

    k : ℕ
    k = oldest u.pending_below es

    c : Buffer
    c = (undone_groups id es site).buffer

    below : Falling u.pending_below (pending u)
    below = falling-older u.next u.pending_below u.entries g.falling

    least : k ≤ u.pending_below
    least = oldest_below n u.pending_below (pending u) below

    begun : Site
    begun = record site { buffer = record site.buffer { undo = pass es u } }

    x : Undoes begun.buffer es c
    x = each_record id es begun b.begin b.end u.pending_below (falling-groups n u.pending_below (pending u) below) (sym (trial-undone b.begin b.end es) ∙ t) inside g.ordered g.falling g.off

    agrees_above : HeadAbove k u.entries → PendingAgrees c.undo c.text
    agrees_above a s h d =
        let p : c.undo.pending_below ≡ k = x.outcome.moves.pending_same in
        let below_k : s < k = rw p at h in
        let l : k ≤ u.pending_below = least in
        let m : u.pending_below ≤ u.next = g.below in
        let old : boundary_at s u.entries ≡ true = x.outcome.moves.steps.stood s (omega arith) d in
        -- what is pending now and newer
        let left : newer_than s (older k c.undo.entries) ≡ newer_than s (older k u.entries) =
        newer_than-older k s c.undo.entries below_k ∙ x.outcome.moves.steps.below k s (omega arith) a below_k d ∙ sym (newer_than-older k s u.entries below_k) in
        -- what was pending before
        let split : newer_than s (pending u) ≡ es ++ newer_than s (older k u.entries) =
        newer_split n u.pending_below s (pending u) below below_k ∙ ap (λ z. es ++ newer_than s z) (older-older k u.pending_below u.entries l) in
        ap (λ z. rewind (newer_than s (older z c.undo.entries)) c.text) p ∙
        ap (λ z. rewind z c.text) left ∙
        ap (rewind (newer_than s (older k u.entries))) x.text ∙
        sym (rewind-append es (newer_than s (older k u.entries)) b.text) ∙
        ap (λ z. rewind z b.text) (sym split) ∙
        g.agrees s (omega arith) old ∙
        sym (x.outcome.moves.steps.back s (omega arith) d)

    agrees : (es ≡ []) ⊎ HeadAbove k u.entries → PendingAgrees c.undo c.text
    agrees (inl e) = subst (λ l. PendingAgrees (undone_groups id l site).buffer.undo (undone_groups id l site).buffer.text) (sym e) g.agrees
    agrees (inr a) = λ s h d. agrees_above a s h d
