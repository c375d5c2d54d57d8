-- A record pushed, and the lists before and after: what is newer than a boundary rewinds to the same text.
use Rattle.std.proofs.Common.{◌≡◌, ℕ, zero, suc, ◌+◌, ◌≤◌, ◌<◌, Bool, true, false, List, [], ◌∷◌, length, refl, ap, sym, subst, ◌∙◌, arith}
use Rattle.std.specs.Prelude.{if◌then◌else◌, ◌==◌, nat_lt, filter}
use Rattle.std.proofs.lemmas.Bool.{eqb-true, ne_eqb, ltb-true, ltb-false, le-ltb, false≢true}
use Rattle.text_model.specs.Properties.{Cell, splice}
use Rattle.text_model.specs.Undo.{Rec, Boundary, Point, Inserted, Deleted, Prop, First, Moved, Entry, Undo, is_boundary, newer_than, rewind, undo_in_text, in_front, extends, ends_at, cut, without_oldest_group, has_boundary, fits, pushed, pushed_all}
use Rattle.text_model.specs.Undo.{boundary_at}
use Rattle.machine_laws.specs.Good.{IsFine, Falling, OffIsEmpty}
use Rattle.text_model.proofs.Cases.{by_test, if_false}
use Rattle.machine_laws.proofs.Stretches.{undo_records}
use Rattle.machine_laws.proofs.Undoing.{newer_than-cut, out-again, inserted_out, stands}

-- the records below a serial number
abbrev pub older : ℕ → List Entry → List Entry
older k entries = filter (λ e. nat_lt e.serial k) entries

-- no record below the number can be extended
abbrev pub HeadAbove : ℕ → List Entry → Type 0
HeadAbove k [] = Unit {0}
HeadAbove k (e ∷ entries) = k ≤ e.serial

-- From one list and text to another, by changes that push no boundary.
pub record Steps (n : ℕ) (es : List Entry) (t : List Cell) (m : ℕ) (fs : List Entry) (w : List Cell) : Type 0 where
  pub grows : n ≤ m
  pub falling : Falling m fs
  pub stood : (s : ℕ) → s < n → boundary_at s fs ≡ true → boundary_at s es ≡ true
  pub back : (s : ℕ) → s < n → boundary_at s fs ≡ true → rewind (newer_than s fs) w ≡ rewind (newer_than s es) t
  pub fresh : (s : ℕ) → n ≤ s → boundary_at s fs ≡ false
  pub below : (k s : ℕ) → k ≤ n → HeadAbove k es → s < k → boundary_at s fs ≡ true → older k (newer_than s fs) ≡ older k (newer_than s es)
  pub head : (k : ℕ) → k ≤ n → HeadAbove k es → HeadAbove k fs

pub falling_less : (a b : ℕ) (es : List Entry) → a ≤ b → Falling a es → Falling b es
falling_less a b [] h f = tt
falling_less a b (e ∷ es) h f = (omega arith, f.1)

pub not_above : (n : ℕ) (es : List Entry) → Falling n es → (s : ℕ) → n ≤ s → boundary_at s es ≡ false
not_above n [] f s h = refl
not_above n (e ∷ es) f s h = if_false _ (ne_eqb e.serial s (λ q. let l : e.serial < n = f.0 in omega arith)) ∙ not_above e.serial es f.1.1 s (let l : e.serial < n = f.0 in omega arith)

pub steps_stay : (n : ℕ) (es : List Entry) (t : List Cell) → Falling n es → Steps n es t n es t
steps_stay n es t f = record { grows = omega arith; falling = f; stood = λ s h k. k; back = λ s h k. refl; fresh = not_above n es f; below = λ k s h a b c. refl; head = λ k h a. a }

pub steps_then : (n m l : ℕ) (es fs gs : List Entry) (t w x : List Cell) → Steps n es t m fs w → Steps m fs w l gs x → Steps n es t l gs x
steps_then n m l es fs gs t w x a b = record {
  grows = let p : n ≤ m = a.grows in let q : m ≤ l = b.grows in omega arith;
  falling = b.falling;
  stood = λ s h k. a.stood s h (b.stood s (up s h) k);
  back = λ s h k. b.back s (up s h) k ∙ a.back s h (b.stood s (up s h) k);
  fresh = λ s h. fresh s h (boundary_at s gs) refl;
  below = λ k s h c d e. b.below k s (more k h) (a.head k h c) d e ∙ a.below k s h c d (b.stood s (up s (under k s h d)) e);
  head = λ k h c. b.head k (more k h) (a.head k h c);
}
  where
    up : (s : ℕ) → s < n → s < m
    up s h = let p : n ≤ m = a.grows in omega arith

    more : (k : ℕ) → k ≤ n → k ≤ m
    more k h = let p : n ≤ m = a.grows in omega arith

    under : (k s : ℕ) → k ≤ n → s < k → s < n
    under k s h d = omega arith

    fresh : (s : ℕ) → n ≤ s → (v : Bool) → boundary_at s gs ≡ v → v ≡ false
    fresh s h false e = refl
    fresh s h true e = go (nat_lt s m) refl
      where
        go : (u : Bool) → nat_lt s m ≡ u → true ≡ false
        go true q = sym (b.stood s (ltb-true s m q) e) ∙ a.fresh s h
        go false q = sym e ∙ b.fresh s (ltb-false s m q)

-- CUTTING
pub boundary_stands : (s : ℕ) (es : List Entry) → boundary_at s es ≡ true → stands s es ≡ true
boundary_stands s [] h = h
boundary_stands s (e ∷ es) h = go (e.serial == s) h (boundary_stands s es)
  where
    go : (b : Bool) → (if b then is_boundary e.what else boundary_at s es) ≡ true → (boundary_at s es ≡ true → stands s es ≡ true) → (if b then true else stands s es) ≡ true
    go true k ih = refl
    go false k ih = ih k

-- a list with its oldest group gone, or not
abbrev pub Shorter : List Entry → List Entry → Type 0
Shorter [] es = Unit {0}
Shorter (f ∷ fs) [] = ⊥
Shorter (f ∷ fs) (e ∷ es) = (f ≡ e) × Shorter fs es

shorter_self : (es : List Entry) → Shorter es es
shorter_self [] = tt
shorter_self (e ∷ es) = (refl, shorter_self es)

shorter_then : (gs fs es : List Entry) → Shorter gs fs → Shorter fs es → Shorter gs es
shorter_then [] fs es h k = tt
shorter_then (g ∷ gs) [] es h k = absurd h
shorter_then (g ∷ gs) (f ∷ fs) [] h k = absurd k
shorter_then (g ∷ gs) (f ∷ fs) (e ∷ es) h k = (h.0 ∙ k.0, shorter_then gs fs es h.1 k.1)

shorter-group : (es : List Entry) → Shorter (without_oldest_group es) es
shorter-group [] = tt
shorter-group (e ∷ es) = by_test (λ l. Shorter l (e ∷ es)) (has_boundary es) (e ∷ without_oldest_group es) [] (λ h. (refl, shorter-group es)) (λ h. tt)

pub shorter-cut : (turns : ℕ) (es : List Entry) → Shorter (cut turns es) es
shorter-cut zero es = shorter_self es
shorter-cut (suc turns) es = go (fits es) (shorter_then (cut turns (without_oldest_group es)) (without_oldest_group es) es (shorter-cut turns (without_oldest_group es)) (shorter-group es))
  where
    go : (b : Bool) → Shorter (cut turns (without_oldest_group es)) es → Shorter (elim b [ true ↦ es | false ↦ cut turns (without_oldest_group es) ]) es
    go true h = shorter_self es
    go false h = h

pub falling-shorter : (n : ℕ) (fs es : List Entry) → Shorter fs es → Falling n es → Falling n fs
falling-shorter n [] es h f = tt
falling-shorter n (g ∷ fs) [] h f = absurd h
falling-shorter n (g ∷ fs) (e ∷ es) h f = rw h.0 (f.0, (f.1.0, falling-shorter e.serial fs es h.1 f.1.1))

head-shorter : (k : ℕ) (fs es : List Entry) → Shorter fs es → HeadAbove k es → HeadAbove k fs
head-shorter k [] es h a = tt
head-shorter k (g ∷ fs) [] h a = absurd h
head-shorter k (g ∷ fs) (e ∷ es) h a = rw h.0 a

pub boundary-shorter : (s : ℕ) (fs es : List Entry) → Shorter fs es → boundary_at s fs ≡ true → boundary_at s es ≡ true
boundary-shorter s [] es h k = absurd (false≢true k)
boundary-shorter s (g ∷ fs) [] h k = absurd h
boundary-shorter s (g ∷ fs) (e ∷ es) h k = go (e.serial == s) (subst (λ x. (if x.serial == s then is_boundary x.what else boundary_at s fs) ≡ true) h.0 k) (boundary-shorter s fs es h.1)
  where
    go : (b : Bool) → (if b then is_boundary e.what else boundary_at s fs) ≡ true → (boundary_at s fs ≡ true → boundary_at s es ≡ true) → (if b then is_boundary e.what else boundary_at s es) ≡ true
    go true l ih = l
    go false l ih = ih l

pub steps_cut : (turns n : ℕ) (es : List Entry) (t : List Cell) → Falling n es → Steps n es t n (cut turns es) t
steps_cut turns n es t f = record {
  grows = omega arith;
  falling = falling-shorter n (cut turns es) es (shorter-cut turns es) f;
  stood = λ s h k. boundary-shorter s (cut turns es) es (shorter-cut turns es) k;
  back = λ s h k. ap (λ l. rewind l t) (newer s k);
  fresh = not_above n (cut turns es) (falling-shorter n (cut turns es) es (shorter-cut turns es) f);
  below = λ k s h a b c. ap (older k) (newer s c);
  head = λ k h a. head-shorter k (cut turns es) es (shorter-cut turns es) a;
}
  where
    newer : (s : ℕ) → boundary_at s (cut turns es) ≡ true → newer_than s (cut turns es) ≡ newer_than s es
    newer s k = newer_than-cut turns s es (boundary_stands s (cut turns es) k)

-- PUSHING
abbrev pub IsPlain : Rec → Type 0
IsPlain (Inserted from to) = ⊥
IsPlain Boundary = ⊥
IsPlain _ = Unit {0}

plain_front : (r : Rec) (n : ℕ) (es : List Entry) → IsPlain r → in_front r n es ≡ record { what = r; serial = n } ∷ es
plain_front (Inserted from to) n es h = absurd h
plain_front Boundary n es h = absurd h
plain_front r n [] h = refl
plain_front r n (e ∷ es) h = refl

plain_extends : (r : Rec) (es : List Entry) → IsPlain r → extends r es ≡ false
plain_extends (Inserted from to) es h = absurd h
plain_extends r es h = refl

plain_boundary : (r : Rec) → IsPlain r → is_boundary r ≡ false
plain_boundary Boundary h = absurd h
plain_boundary r h = refl

-- a record of its own
pub steps_front : (r : Rec) (n : ℕ) (es : List Entry) (w : List Cell) → is_boundary r ≡ false → IsFine r → Falling n es → Steps n es (undo_in_text r w) (n + 1) (record { what = r; serial = n } ∷ es) w
steps_front r n es w p f h = record {
  grows = omega arith;
  falling = (omega arith, (f, h));
  stood = λ s k l. rw (ne_eqb n s (λ q. omega arith)) at l;
  back = λ s k l. rw (ne_eqb n s (λ q. omega arith)) refl;
  fresh = λ s k. by_test (λ b. b ≡ false) (n == s) (is_boundary r) (boundary_at s es) (λ q. p) (λ q. not_above n es h s (omega arith));
  below = λ k s a b c d. rw (ne_eqb n s (λ q. omega arith)) (if_false _ (le-ltb n k a));
  head = λ k a b. a;
}

-- an insertion that goes on where the newest record ended
steps_merged : (b p k n at : ℕ) (es : List Entry) (piece t : List Cell) → p ≡ at → at ≤ length t → Falling n (record { what = Inserted b p; serial = k } ∷ es) →
    Steps n (record { what = Inserted b p; serial = k } ∷ es) t n (record { what = Inserted b (at + length piece); serial = k } ∷ es) (splice at at piece t)
steps_merged b p k n at es piece t q inside f = record {
  grows = omega arith;
  falling = (f.0, (longer f.1.0, f.1.1));
  stood = λ s h x. x;
  back = λ s h x. back s (k == s) refl x;
  fresh = λ s h. not_above n (record { what = Inserted b (at + length piece); serial = k } ∷ es) (f.0, (longer f.1.0, f.1.1)) s h;
  below = λ j s h a c d. below j s a c;
  head = λ j h a. a;
}
  where
    longer : b ≤ p → b ≤ at + length piece
    longer h = omega arith

    back : (s : ℕ) (v : Bool) → (k == s) ≡ v → (if k == s then false else boundary_at s es) ≡ true →
        rewind (newer_than s (record { what = Inserted b (at + length piece); serial = k } ∷ es)) (splice at at piece t) ≡ rewind (newer_than s (record { what = Inserted b p; serial = k } ∷ es)) t
    back s true e x = absurd (false≢true (rw e at x))
    back s false e x = let l : b ≤ p = f.1.0 in rw (e, q) (ap (rewind (newer_than s es)) (out-again b at piece t (omega arith) inside))

    below : (j s : ℕ) → j ≤ k → s < j → older j (newer_than s (record { what = Inserted b (at + length piece); serial = k } ∷ es)) ≡ older j (newer_than s (record { what = Inserted b p; serial = k } ∷ es))
    below j s a c = rw (ne_eqb k s (λ x. omega arith), le-ltb k j a) refl

-- An insertion: the number that the next record gets, and the list before it is cut.
steps_inserted : (n at : ℕ) (es : List Entry) (piece t : List Cell) → at ≤ length t → Falling n es →
    Steps n es t (if extends (Inserted at (at + length piece)) es then n else n + 1) (in_front (Inserted at (at + length piece)) n es) (splice at at piece t)
steps_inserted n at es piece t inside f = by_list es f
  where
    own : (es : List Entry) → Falling n es → Steps n es t (n + 1) (record { what = Inserted at (at + length piece); serial = n } ∷ es) (splice at at piece t)
    own es f = subst (λ x. Steps n es x (n + 1) (record { what = Inserted at (at + length piece); serial = n } ∷ es) (splice at at piece t)) (inserted_out at piece t inside) (steps_front (Inserted at (at + length piece)) n es (splice at at piece t) refl (omega arith) f)

    by_test_of : (b p k : ℕ) (es : List Entry) → Falling n (record { what = Inserted b p; serial = k } ∷ es) → (v : Bool) → (p == at) ≡ v →
        Steps n (record { what = Inserted b p; serial = k } ∷ es) t (if v then n else n + 1)
        (if v then record { what = Inserted b (at + length piece); serial = k } ∷ es else record { what = Inserted at (at + length piece); serial = n } ∷ record { what = Inserted b p; serial = k } ∷ es) (splice at at piece t)
    by_test_of b p k es f true e = steps_merged b p k n at es piece t (eqb-true p at e) inside f
    by_test_of b p k es f false e = own (record { what = Inserted b p; serial = k } ∷ es) f

    by_head : (w : Rec) (k : ℕ) (es : List Entry) → Falling n (record { what = w; serial = k } ∷ es) →
        Steps n (record { what = w; serial = k } ∷ es) t (if ends_at at w then n else n + 1) (in_front (Inserted at (at + length piece)) n (record { what = w; serial = k } ∷ es)) (splice at at piece t)
    by_head (Inserted b p) k es f = by_test_of b p k es f (p == at) refl
    by_head Boundary k es f = own (record { what = Boundary; serial = k } ∷ es) f
    by_head (Point q) k es f = own (record { what = Point q; serial = k } ∷ es) f
    by_head (Deleted x q) k es f = own (record { what = Deleted x q; serial = k } ∷ es) f
    by_head (Prop x o a b) k es f = own (record { what = Prop x o a b; serial = k } ∷ es) f
    by_head First k es f = own (record { what = First; serial = k } ∷ es) f
    by_head (Moved m j) k es f = own (record { what = Moved m j; serial = k } ∷ es) f

    by_list : (es : List Entry) → Falling n es → Steps n es t (if extends (Inserted at (at + length piece)) es then n else n + 1) (in_front (Inserted at (at + length piece)) n es) (splice at at piece t)
    by_list [] f = own [] f
    by_list (e ∷ es) f = by_head e.what e.serial es f

-- THE RECORDS OF A BUFFER
pub record Moves (u : Undo) (t : List Cell) (v : Undo) (w : List Cell) : Type 0 where
  pub steps : Steps u.next u.entries t v.next v.entries w
  pub on_same : v.on ≡ u.on
  pub pending_same : v.pending_below ≡ u.pending_below
  pub off : OffIsEmpty v

pub moves_then : (u v x : Undo) (t w y : List Cell) → Moves u t v w → Moves v w x y → Moves u t x y
moves_then u v x t w y a b = record {
  steps = steps_then u.next v.next x.next u.entries v.entries x.entries t w y a.steps b.steps;
  on_same = b.on_same ∙ a.on_same;
  pending_same = b.pending_same ∙ a.pending_same;
  off = b.off;
}

pub moves_stay : (u : Undo) (t : List Cell) → Falling u.next u.entries → OffIsEmpty u → Moves u t u t
moves_stay u t f o = record { steps = steps_stay u.next u.entries t f; on_same = refl; pending_same = refl; off = o }

-- where nothing is recorded, no boundary stands
moves_off : (u : Undo) (t w : List Cell) → u.on ≡ false → OffIsEmpty u → Moves u t u w
moves_off u t w h o =
    let e : u.entries ≡ [] = o h in
    record {
      steps = rw e (record { grows = omega arith; falling = tt; stood = λ s k x. x; back = λ s k x. absurd (false≢true x); fresh = λ s k. refl; below = λ k s a b c d. refl; head = λ k a b. tt });
      on_same = refl;
      pending_same = refl;
      off = o;
    }

pub moves_on : (r : Rec) (u : Undo) (t w : List Cell) → OffIsEmpty u → (u.on ≡ true → Steps u.next u.entries t (if extends r u.entries then u.next else u.next + 1) (in_front r u.next u.entries) w) → Moves u t (pushed r u) w
moves_on r u t w o h = by_test (λ v. Moves u t v w) u.on _ u
    (λ on. record {
      steps = let s : Steps u.next u.entries t (if extends r u.entries then u.next else u.next + 1) (in_front r u.next u.entries) w = h on in
          steps_then u.next _ _ u.entries (in_front r u.next u.entries) (cut (length u.entries + 1) (in_front r u.next u.entries)) t w w s (steps_cut (length u.entries + 1) _ (in_front r u.next u.entries) w s.falling);
      on_same = refl;
      pending_same = refl;
      off = λ off. absurd (false≢true (sym off ∙ on));
    })
    (λ off. moves_off u t w off o)

pub pushed_moves : (r : Rec) (u : Undo) (w : List Cell) → IsPlain r → IsFine r → Falling u.next u.entries → OffIsEmpty u → Moves u (undo_in_text r w) (pushed r u) w
pushed_moves r u w p f h o = moves_on r u (undo_in_text r w) w o (λ on. rw (plain_extends r u.entries p, plain_front r u.next u.entries p) (steps_front r u.next u.entries w (plain_boundary r p) f h))

pub inserted_moves : (u : Undo) (at : ℕ) (piece t : List Cell) → at ≤ length t → Falling u.next u.entries → OffIsEmpty u → Moves u t (pushed (Inserted at (at + length piece)) u) (splice at at piece t)
inserted_moves u at piece t inside f o = moves_on (Inserted at (at + length piece)) u t (splice at at piece t) o (λ on. steps_inserted u.next at u.entries piece t inside f)

abbrev pub ArePlain : List Rec → Type 0
ArePlain [] = Unit {0}
ArePlain (r ∷ records) = IsPlain r × (IsFine r × ArePlain records)

pub pushed_all_moves : (records : List Rec) (u : Undo) (w : List Cell) → ArePlain records → Falling u.next u.entries → OffIsEmpty u → Moves u (undo_records records w) (pushed_all records u) w
pushed_all_moves [] u w p f o = moves_stay u w f o
pushed_all_moves (r ∷ records) u w p f o =
    let m : Moves u (undo_in_text r (undo_records records w)) (pushed r u) (undo_records records w) = pushed_moves r u (undo_records records w) p.0 p.1.0 f o in
    moves_then u (pushed r u) (pushed_all records (pushed r u)) _ _ w m (pushed_all_moves records (pushed r u) w p.1.1 m.steps.falling m.off)
