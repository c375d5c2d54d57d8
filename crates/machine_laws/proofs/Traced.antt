-- What each of those moves keeps: what is known of each process is told by the exchanges and by the lines so far.
use Rattle.std.proofs.Common.{◌≡◌, ℕ, zero, suc, Bool, true, false, List, [], ◌∷◌, ◌++◌, length, refl, ap, sym, ◌∙◌, subst, append_assoc}
use Rattle.std.proofs.lemmas.List.{append-nil}
use Rattle.std.proofs.lemmas.Grind.{flat_map-append}
use Rattle.std.proofs.lemmas.List.Folds.{list_any-append}
use Rattle.std.proofs.Math.Seq.{drop-append_seam}
use Rattle.std.specs.Prelude.{Option, Some, None, is_some, unwrap_or, ◌==◌, not, ◌||◌, slice_get, slice_set, if◌then◌else◌}
use Rattle.std.specs.List.{list_any}
use Rattle.text_model.specs.Characters.{Ch}
use Rattle.text_model.specs.Codings.{Coding, decoded, undecoded, all_decoded}
use Rattle.text_model.proofs.Codings.{decoded_law, all_decoded_law, none_decoded}
use Rattle.text_model.proofs.Lists.{set_same, set_other}
use Rattle.plain_machine.specs.Exchanges.{Ask, Read, AskEnd, Answer, Bytes, End, Failed, Exchange}
use Rattle.plain_machine.specs.Lines.{OfFilter, OfSentinel, Event, Entered}
use Rattle.plain_machine.specs.Items.{Said}
use Rattle.machine_laws.specs.Entries.{entered_text, entered, read_bytes, read, is_end, output_ended, is_entry, has_entry}
use Rattle.plain_machine.specs.Waits.{more_characters}
use Rattle.machine_laws.proofs.Keeping.{Core}
use Rattle.machine_laws.proofs.Moves.{IsQuiet, Silent, Coming, Nobody, Output, Sentinel, output_of, IsIdle, Idle, IsNew, fresh, so_far, MayHave, EntryOf, IsLast, Moves, rests, enters, spawns, hears, drains, dies, Phase, closes, passes, kills, dumps}
use Rattle.machine_laws.proofs.Basics.{get_more, is_same, or_nil, or_right, other_is, same_is}

-- SMALL THINGS

-- LISTS OF WHAT IS KNOWN
-- where it stands in a list that is longer by one
pub data Stands (cs : List Core) (c : Core) (p : ℕ) (x : Core) : Type 0 where
  within : slice_get cs p ≡ Some x → Stands cs c p x
  behind : slice_get cs p ≡ None → p ≡ length cs → x ≡ c → Stands cs c p x

pub stands : (cs : List Core) (c : Core) (p : ℕ) (x : Core) → slice_get (cs ++ c ∷ []) p ≡ Some x → Stands cs c p x
stands [] c zero x e = behind refl refl (let k : c ≡ x = cc in sym k)
stands [] c (suc p) x e = cc
stands (d ∷ cs) c zero x e = within e
stands (d ∷ cs) c (suc p) x e = go (stands cs c p x e)
  where
    go : Stands cs c p x → Stands (d ∷ cs) c (suc p) x
    go (within k) = within k
    go (behind k l m) = behind k (ap suc l) m

none_before : (cs : List Core) (c : Core) (p : ℕ) → slice_get (cs ++ c ∷ []) p ≡ None → slice_get cs p ≡ None
none_before [] c p e = refl
none_before (d ∷ cs) c zero e = e
none_before (d ∷ cs) c (suc p) e = none_before cs c p e

-- WHAT IS KEPT
abbrev pub to_enter : ℕ → Coming → List Ch
to_enter p (Output q text) = if q == p then text else []
to_enter p _ = []

abbrev pub to_end : ℕ → Coming → Bool
to_end p (Sentinel q) = q == p
to_end p _ = false

abbrev pub heard_of : Core → List Ch
heard_of x = if x.drained then all_decoded x.coding (so_far x) else decoded x.coding (so_far x)

-- of no bytes each coding makes the same
pub same_decoded : (o : Option (List ℕ)) (c k : Coding) → (is_some o ≡ true → k ≡ c) → (decoded c (unwrap_or o []) ≡ decoded k (unwrap_or o [])) × (all_decoded c (unwrap_or o []) ≡ all_decoded k (unwrap_or o []))
same_decoded None c k h = ((none_decoded c).0 ∙ sym (none_decoded k).0, (none_decoded c).1 ∙ sym (none_decoded k).1)
same_decoded (Some bytes) c k h = (ap (λ d. decoded d bytes) (sym (h refl)), ap (λ d. all_decoded d bytes) (sym (h refl)))

pub record Holds (r : List ℕ) (o : Bool) (t : List Ch) (n : Bool) (x : Core) : Type 0 where
  pub bytes : so_far x ≡ r
  pub drained : x.drained ≡ o
  pub text : t ≡ heard_of x
  pub ended : n ≡ not x.live

abbrev pub HoldsAt : List Exchange → List Said → Coming → ℕ → Core → Type 0
HoldsAt xs said e p x = Holds (read x.child xs) (output_ended x.child xs) (entered p said ++ to_enter p e) (has_entry true p said || to_end p e) x

-- who comes next is there: a filter's process runs, and a sentinel was not entered before
abbrev pub Expected : List Said → List Core → Coming → Type 0
Expected said cs Nobody = Unit {0}
Expected said cs (Output p text) = (x : Core) × (slice_get cs p ≡ Some x) × (x.live ≡ true)
Expected said cs (Sentinel p) = (x : Core) × (slice_get cs p ≡ Some x) × (has_entry true p said ≡ false)

abbrev pub Ordered : ℕ → List Said → Type 0
Ordered p [] = Unit {0}
Ordered p (x ∷ said) = (is_entry true p x.event ≡ true → (has_entry true p said ≡ false) × (has_entry false p said ≡ false)) × Ordered p said

abbrev pub EndsAfter : List Exchange → List Exchange → Type 0
EndsAfter seen [] = Unit {0}
EndsAfter seen (x ∷ xs) = ((c : ℕ) → x.ask ≡ AskEnd c → output_ended c seen ≡ true) × EndsAfter (seen ++ x ∷ []) xs

pub record Traced (xs : List Exchange) (said : List Said) (cs : List Core) (e : Coming) : Type 0 where
  pub each : (p : ℕ) (x : Core) → slice_get cs p ≡ Some x → HoldsAt xs said e p x
  pub absent : (p : ℕ) → slice_get cs p ≡ None → (entered p said ≡ []) × (has_entry true p said ≡ false)
  pub apart : (p q : ℕ) (x y : Core) → slice_get cs p ≡ Some x → slice_get cs q ≡ Some y → x.child ≡ y.child → p ≡ q
  pub unknown : (child : ℕ) → IsNew child cs → (read child xs ≡ []) × (output_ended child xs ≡ false)
  pub expected : Expected said cs e
  pub ordered : (p : ℕ) → Ordered p said
  pub ends : EndsAfter [] xs

-- ORDERS
any_more : {A : Type 0} (f : A → Bool) (xs : List A) (x : A) → list_any f xs ≡ false → f x ≡ false → list_any f (xs ++ x ∷ []) ≡ false
any_more f xs x h k = rw (list_any-append f xs (x ∷ []), h, k) refl

ordered_more : (p : ℕ) (said : List Said) (x : Said) → Ordered p said → (has_entry true p said ≡ true → (is_entry true p x.event ≡ false) × (is_entry false p x.event ≡ false)) → Ordered p (said ++ x ∷ [])
ordered_more p [] x o h = (λ k. (refl, refl), tt)
ordered_more p (y ∷ said) x o h =
    let front : is_entry true p y.event ≡ true → has_entry true p (y ∷ said) ≡ true = λ k. ap (λ b. b || has_entry true p said) k in (
      λ k. (any_more (λ x. is_entry true p x.event) said x (o.0 k).0 (h (front k)).0, any_more (λ x. is_entry false p x.event) said x (o.0 k).1 (h (front k)).1),
      ordered_more p said x o.1 (λ k. h (or_right (is_entry true p y.event) (has_entry true p said) k)),
    )

ends_more : (seen xs : List Exchange) (y : Exchange) → EndsAfter seen xs → ((c : ℕ) → y.ask ≡ AskEnd c → output_ended c (seen ++ xs) ≡ true) → EndsAfter seen (xs ++ y ∷ [])
ends_more seen [] y h k = (λ c e. rw append-nil at (k c e), tt)
ends_more seen (x ∷ xs) y h k = (h.0, ends_more (seen ++ x ∷ []) xs y h.1 (λ c e. rw append_assoc (k c e)))

-- WHAT IDLE EXCHANGES AND SILENT LINES LEAVE
idle_one : (cs : List Core) (ask : Ask) (answer : Answer) → IsIdle cs ask answer → (c : ℕ) → (read_bytes c ask answer ≡ []) × (is_end c ask answer ≡ false)
idle_one cs (Read d) (Bytes bytes) i c = absurd i
idle_one cs (Read d) End i c = absurd i
idle_one cs (Read d) Failed i c = absurd i
idle_one cs (Read d) _ i c = (refl, refl)
idle_one cs _ answer i c = (refl, refl)

idle_reads : (cs : List Core) (xs ys : List Exchange) → Idle cs ys → (c : ℕ) → (read c (xs ++ ys) ≡ read c xs) × (output_ended c (xs ++ ys) ≡ output_ended c xs)
idle_reads cs xs [] i c = (rw append-nil refl, rw append-nil refl)
idle_reads cs xs (y ∷ ys) i c =
    let k : (read_bytes c y.ask y.answer ≡ []) × (is_end c y.ask y.answer ≡ false) = idle_one cs y.ask y.answer i.0 c in
    (rw (i.1, flat_map-append (λ x. read_bytes c x.ask x.answer) xs (y ∷ []), k.0) (append-nil (read c xs)), rw (i.1, list_any-append (λ x. is_end c x.ask x.answer) xs (y ∷ []), k.1) (or_nil (output_ended c xs)))

quiet_one : (e : Event) → IsQuiet e → (p : ℕ) → (entered_text p e ≡ []) × (is_entry true p e ≡ false) × (is_entry false p e ≡ false)
quiet_one (Entered depth (OfFilter q) handler args) h p = absurd h
quiet_one (Entered depth (OfSentinel q) handler args) h p = absurd h
quiet_one (Entered depth kind handler args) h p = (refl, refl, refl)
quiet_one _ h p = (refl, refl, refl)

silent_more : (said more : List Said) → Silent more → (p : ℕ) → Ordered p said → (entered p (said ++ more) ≡ entered p said) × (has_entry true p (said ++ more) ≡ has_entry true p said) × Ordered p (said ++ more)
silent_more said [] h p o = (rw append-nil refl, rw append-nil refl, rw append-nil o)
silent_more said (x ∷ more) h p o =
    let k : (entered_text p x.event ≡ []) × (is_entry true p x.event ≡ false) × (is_entry false p x.event ≡ false) = quiet_one x.event h.0 p in
    let r : (entered p ((said ++ x ∷ []) ++ more) ≡ entered p (said ++ x ∷ [])) × (has_entry true p ((said ++ x ∷ []) ++ more) ≡ has_entry true p (said ++ x ∷ [])) × Ordered p ((said ++ x ∷ []) ++ more) =
    silent_more (said ++ x ∷ []) more h.1 p (ordered_more p said x o (λ t. (k.1, k.2))) in
    let e : entered p (said ++ x ∷ []) ≡ entered p said = rw (flat_map-append (λ x. entered_text p x.event) said (x ∷ []), k.0) (append-nil (entered p said)) in
    let b : has_entry true p (said ++ x ∷ []) ≡ has_entry true p said = rw (list_any-append (λ x. is_entry true p x.event) said (x ∷ []), k.1) (or_nil (has_entry true p said)) in
    (rw append_assoc at (r.0 ∙ e), rw append_assoc at (r.1 ∙ b), rw append_assoc at r.2)

-- EACH MOVE
-- an end that is asked is asked of a drained process
ends_idle : (xs ys : List Exchange) (said : List Said) (cs : List Core) (e : Coming) → Traced xs said cs e → Idle cs ys → EndsAfter [] (xs ++ ys)
ends_idle xs [] said cs e t i = rw append-nil t.ends
ends_idle xs (y ∷ ys) said cs e t i = rw i.1 (ends_more [] xs y t.ends (λ c k. asked y.ask c k y.answer i.0))
  where
    asked : (ask : Ask) (c : ℕ) → ask ≡ AskEnd c → (answer : Answer) → IsIdle cs ask answer → output_ended c xs ≡ true
    asked (AskEnd d) c k answer i =
        let q : d ≡ c = cc in
        let h : HoldsAt xs said e i.0 i.1 = t.each i.0 i.1 i.2 in
        subst (λ c. output_ended c xs ≡ true) (i.3 ∙ q) (sym h.drained ∙ i.4)
    asked _ c k answer i = cc

-- who is not there does not come
expected_there : (said : List Said) (cs : List Core) (e : Coming) (p : ℕ) → Expected said cs e → slice_get cs p ≡ None → (to_enter p e ≡ []) × (to_end p e ≡ false)
expected_there said cs Nobody p k n = (refl, refl)
expected_there said cs (Output q text) p k n =
    let b : (q == p) ≡ false = other_is q p (λ e. let l : Some k.0 ≡ None = sym k.1 ∙ (ap (λ q. slice_get cs q) e ∙ n) in cc) in
    (ap (λ b. if b then text else []) b, refl)
expected_there said cs (Sentinel q) p k n =
    let b : (q == p) ≡ false = other_is q p (λ e. let l : Some k.0 ≡ None = sym k.1 ∙ (ap (λ q. slice_get cs q) e ∙ n) in cc) in
    (refl, b)

rests_traced : (xs ys : List Exchange) (said more : List Said) (cs : List Core) → Traced xs said cs Nobody → Idle cs ys → Silent more → Traced (xs ++ ys) (said ++ more) cs Nobody
rests_traced xs ys said more cs t i q = record {
  each = λ p x g.
      let h : HoldsAt xs said Nobody p x = t.each p x g in
      let r : (read x.child (xs ++ ys) ≡ read x.child xs) × (output_ended x.child (xs ++ ys) ≡ output_ended x.child xs) = idle_reads cs xs ys i x.child in
      let s : (entered p (said ++ more) ≡ entered p said) × (has_entry true p (said ++ more) ≡ has_entry true p said) × Ordered p (said ++ more) = silent_more said more q p (t.ordered p) in
      record { bytes = h.bytes ∙ sym r.0; drained = h.drained ∙ sym r.1; text = ap (λ t. t ++ []) s.0 ∙ h.text; ended = ap (λ b. b || false) s.1 ∙ h.ended };
  absent = λ p g.
      let s : (entered p (said ++ more) ≡ entered p said) × (has_entry true p (said ++ more) ≡ has_entry true p said) × Ordered p (said ++ more) = silent_more said more q p (t.ordered p) in
      (s.0 ∙ (t.absent p g).0, s.1 ∙ (t.absent p g).1);
  apart = t.apart;
  unknown = λ c n. ((idle_reads cs xs ys i c).0 ∙ (t.unknown c n).0, (idle_reads cs xs ys i c).1 ∙ (t.unknown c n).1);
  expected = tt;
  ordered = λ p. (silent_more said more q p (t.ordered p)).2;
  ends = ends_idle xs ys said cs Nobody t i;
}

-- an entry
entry_is : (p : ℕ) (e : Coming) (v : Event) → EntryOf e v → (entered_text p v ≡ to_enter p e) × (is_entry true p v ≡ to_end p e)
entry_is p Nobody v k = absurd k
entry_is p (Output q text) v k = (ap (λ v. entered_text p v) k.3 ∙ ap (λ t. if q == p then t else []) k.4, ap (λ v. is_entry true p v) k.3)
entry_is p (Sentinel q) v k = (ap (λ v. entered_text p v) k.3, ap (λ v. is_entry true p v) k.3)

enters_traced : (xs : List Exchange) (said : List Said) (x : Said) (cs : List Core) (e : Coming) → Traced xs said cs e → EntryOf e x.event → Traced xs (said ++ x ∷ []) cs Nobody
enters_traced xs said x cs e t k = record {
  each = λ p c g.
      let h : HoldsAt xs said e p c = t.each p c g in
      record { bytes = h.bytes; drained = h.drained; text = append-nil (entered p (said ++ x ∷ [])) ∙ (texts p ∙ h.text); ended = or_nil (has_entry true p (said ++ x ∷ [])) ∙ (marks p ∙ h.ended) };
  absent = λ p g.
      let n : (to_enter p e ≡ []) × (to_end p e ≡ false) = expected_there said cs e p t.expected g in
      (texts p ∙ (λ i. (t.absent p g).0 i ++ n.0 i), marks p ∙ (λ i. (t.absent p g).1 i || n.1 i));
  apart = t.apart;
  unknown = t.unknown;
  expected = tt;
  ordered = λ p. ordered_more p said x (t.ordered p) (λ h. no_second p h);
  ends = t.ends;
}
  where
    texts : (p : ℕ) → entered p (said ++ x ∷ []) ≡ entered p said ++ to_enter p e
    texts p = flat_map-append (λ x. entered_text p x.event) said (x ∷ []) ∙ ap (λ t. entered p said ++ t) (append-nil (entered_text p x.event) ∙ (entry_is p e x.event k).0)

    marks : (p : ℕ) → has_entry true p (said ++ x ∷ []) ≡ (has_entry true p said || to_end p e)
    marks p = list_any-append (λ x. is_entry true p x.event) said (x ∷ []) ∙ ap (λ b. has_entry true p said || b) (or_nil (is_entry true p x.event) ∙ (entry_is p e x.event k).1)

    -- the process of an entry has no sentinel entry before it
    other : (p : ℕ) → has_entry true p said ≡ true → (e' : Coming) → Traced xs said cs e' → EntryOf e' x.event → (is_entry true p x.event ≡ false) × (is_entry false p x.event ≡ false)
    other p h Nobody t k = absurd k
    other p h (Output q text) t k =
        let away : q ≡ p → ⊥ = λ s.
        let l : (has_entry true q said || false) ≡ not t.expected.0.live = (t.each q t.expected.0 t.expected.1).ended in
        let m : has_entry true q said ≡ false = sym (or_nil (has_entry true q said)) ∙ (l ∙ ap not t.expected.2) in
        let n : has_entry true q said ≡ true = ap (λ p. has_entry true p said) s ∙ h in
        let o : true ≡ false = sym n ∙ m in cc in
        (ap (λ v. is_entry true p v) k.3, ap (λ v. is_entry false p v) k.3 ∙ other_is q p away)
    other p h (Sentinel q) t k =
        let away : q ≡ p → ⊥ = λ s. let o : true ≡ false = sym h ∙ (ap (λ p. has_entry true p said) (sym s) ∙ t.expected.2) in cc in
        (ap (λ v. is_entry true p v) k.3 ∙ other_is q p away, ap (λ v. is_entry false p v) k.3)

    no_second : (p : ℕ) → has_entry true p said ≡ true → (is_entry true p x.event ≡ false) × (is_entry false p x.event ≡ false)
    no_second p h = other p h e t k

-- a new process
spawns_traced : (xs ys : List Exchange) (said : List Said) (cs : List Core) (child : ℕ) → Traced xs said cs Nobody → Idle cs ys → IsNew child cs → Traced (xs ++ ys) said (cs ++ fresh child ∷ []) Nobody
spawns_traced xs ys said cs child t i new = record {
  each = λ p x g. placed p x (stands cs (fresh child) p x g);
  absent = λ p g. t.absent p (none_before cs (fresh child) p g);
  apart = λ p q x y g h e. both p q x y (stands cs (fresh child) p x g) (stands cs (fresh child) q y h) e;
  unknown = λ c n.
      let m : IsNew c cs = λ p x g e. n p x (get_more cs (fresh child) p x g) e in
      ((idle_reads cs xs ys i c).0 ∙ (t.unknown c m).0, (idle_reads cs xs ys i c).1 ∙ (t.unknown c m).1);
  expected = tt;
  ordered = t.ordered;
  ends = ends_idle xs ys said cs Nobody t i;
}
  where
    placed : (p : ℕ) (x : Core) → Stands cs (fresh child) p x → HoldsAt (xs ++ ys) said Nobody p x
    placed p x (within g) =
        let h : HoldsAt xs said Nobody p x = t.each p x g in
        let r : (read x.child (xs ++ ys) ≡ read x.child xs) × (output_ended x.child (xs ++ ys) ≡ output_ended x.child xs) = idle_reads cs xs ys i x.child in
        record { bytes = h.bytes ∙ sym r.0; drained = h.drained ∙ sym r.1; text = h.text; ended = h.ended }
    placed p x (behind n l e) =
        let r : (read child (xs ++ ys) ≡ read child xs) × (output_ended child (xs ++ ys) ≡ output_ended child xs) = idle_reads cs xs ys i child in
        let u : (read child xs ≡ []) × (output_ended child xs ≡ false) = t.unknown child new in
        let a : (entered p said ≡ []) × (has_entry true p said ≡ false) = t.absent p n in
        subst (λ x. HoldsAt (xs ++ ys) said Nobody p x) (sym e)
        (record { bytes = sym (r.0 ∙ u.0); drained = sym (r.1 ∙ u.1); text = ap (λ t. t ++ []) a.0; ended = ap (λ b. b || false) a.1 })

    both : (p q : ℕ) (x y : Core) → Stands cs (fresh child) p x → Stands cs (fresh child) q y → x.child ≡ y.child → p ≡ q
    both p q x y (within g) (within h) e = t.apart p q x y g h e
    both p q x y (within g) (behind n l m) e = absurd (new p x g (e ∙ ap (λ (c : Core). c.child) m))
    both p q x y (behind n l m) (within h) e = absurd (new q y h (sym e ∙ ap (λ (c : Core). c.child) m))
    both p q x y (behind n l m) (behind n' l' m') e = l ∙ sym l'

-- a change of one process, known before as x and then as x'
pub data Placed (cs : List Core) (p : ℕ) (x' : Core) (q : ℕ) (y : Core) : Type 0 where
  here : q ≡ p → y ≡ x' → Placed cs p x' q y
  away : (q ≡ p → ⊥) → slice_get cs q ≡ Some y → Placed cs p x' q y

module _ (xs ys : List Exchange) (said : List Said) (cs : List Core) (p : ℕ) (x x' : Core) (g : slice_get cs p ≡ Some x) where
  pub placed : (q : ℕ) (y : Core) → slice_get (slice_set cs p x') q ≡ Some y → Placed cs p x' q y
  placed q y h = go (q == p) refl
    where
      go : (b : Bool) → (q == p) ≡ b → Placed cs p x' q y
      go true e =
          let s : q ≡ p = same_is q p e in
          let k : Some x' ≡ Some y = sym (set_same cs p x' x g) ∙ (ap (λ q. slice_get (slice_set cs p x') q) (sym s) ∙ h) in
          here s (let m : x' ≡ y = cc in sym m)
      go false e =
          let n : q ≡ p → ⊥ = λ s. let k : true ≡ false = sym (is_same q p s) ∙ e in cc in
          away n (sym (set_other cs p q x' n) ∙ h)

  still_absent : (q : ℕ) → slice_get (slice_set cs p x') q ≡ None → slice_get cs q ≡ None
  still_absent q h =
      let n : q ≡ p → ⊥ = λ s. let k : Some x' ≡ None = sym (set_same cs p x' x g) ∙ (ap (λ q. slice_get (slice_set cs p x') q) (sym s) ∙ h) in cc in
      sym (set_other cs p q x' n) ∙ h

  pub still_new : (c : ℕ) → x'.child ≡ x.child → IsNew c (slice_set cs p x') → IsNew c cs × (x.child ≡ c → ⊥)
  still_new c same n =
      let own : x.child ≡ c → ⊥ = λ e. n p x' (set_same cs p x' x g) (same ∙ e) in
      (λ q y h e. found q y h e (q == p) own refl, own)
    where
      found : (q : ℕ) (y : Core) → slice_get cs q ≡ Some y → y.child ≡ c → (b : Bool) → (x.child ≡ c → ⊥) → (q == p) ≡ b → ⊥
      found q y h e true own k =
          let s : q ≡ p = same_is q p k in
          let l : Some x ≡ Some y = sym g ∙ (ap (λ q. slice_get cs q) (sym s) ∙ h) in
          let m : x ≡ y = cc in
          own (ap (λ (c : Core). c.child) m ∙ e)
      found q y h e false own k =
          let away : q ≡ p → ⊥ = λ s. let l : true ≡ false = sym (is_same q p s) ∙ k in cc in
          n q y (set_other cs p q x' away ∙ h) e

  set_traced : (f : Coming) → Traced xs said cs Nobody → x'.child ≡ x.child →
      ((c : ℕ) → (x.child ≡ c → ⊥) → (read c (xs ++ ys) ≡ read c xs) × (output_ended c (xs ++ ys) ≡ output_ended c xs)) →
      ((q : ℕ) → (q ≡ p → ⊥) → (to_enter q f ≡ []) × (to_end q f ≡ false)) →
      HoldsAt (xs ++ ys) said f p x' → Expected said (slice_set cs p x') f → EndsAfter [] (xs ++ ys) → Traced (xs ++ ys) said (slice_set cs p x') f
  set_traced f t same others away_f own expected ends = record {
    each = λ q y h. at q y (placed q y h);
    absent = λ q h. t.absent q (still_absent q h);
    apart = λ q r y z h k e. both q r y z (placed q y h) (placed r z k) e;
    unknown = λ c n.
        let m : IsNew c cs × (x.child ≡ c → ⊥) = still_new c same n in
        ((others c m.1).0 ∙ (t.unknown c m.0).0, (others c m.1).1 ∙ (t.unknown c m.0).1);
    expected = expected;
    ordered = t.ordered;
    ends = ends;
  }
    where
      at : (q : ℕ) (y : Core) → Placed cs p x' q y → HoldsAt (xs ++ ys) said f q y
      at q y (here s e) = subst (λ q. HoldsAt (xs ++ ys) said f q y) (sym s) (subst (λ y. HoldsAt (xs ++ ys) said f p y) (sym e) own)
      at q y (away n h) =
          let k : HoldsAt xs said Nobody q y = t.each q y h in
          let r : (read y.child (xs ++ ys) ≡ read y.child xs) × (output_ended y.child (xs ++ ys) ≡ output_ended y.child xs) = others y.child (λ e. n (t.apart q p y x h g (sym e))) in
          record { bytes = k.bytes ∙ sym r.0; drained = k.drained ∙ sym r.1; text = ap (λ t. entered q said ++ t) (away_f q n).0 ∙ k.text; ended = ap (λ b. has_entry true q said || b) (away_f q n).1 ∙ k.ended }

      both : (q r : ℕ) (y z : Core) → Placed cs p x' q y → Placed cs p x' r z → y.child ≡ z.child → q ≡ r
      both q r y z (here s e) (here s' e') k = s ∙ sym s'
      both q r y z (here s e) (away n h) k = s ∙ t.apart p r x z g h (sym same ∙ (ap (λ (c : Core). c.child) (sym e) ∙ k))
      both q r y z (away n h) (here s e) k = t.apart q p y x h g (k ∙ (ap (λ (c : Core). c.child) e ∙ same)) ∙ sym s
      both q r y z (away n h) (away n' h') k = t.apart q r y z h h' k

-- texts
grown : (old new rest : List Ch) → new ≡ old ++ rest → old ++ more_characters old new ≡ new
grown old new rest e = rw e (ap (λ t. old ++ t) (drop-append_seam old rest))

own_text : (p : ℕ) (text : List Ch) → to_enter p (output_of p text) ≡ text
own_text p [] = refl
own_text p (c ∷ text) = ap (λ b. if b then c ∷ text else []) (is_same p p refl)

other_text : (p q : ℕ) (text : List Ch) → (q ≡ p → ⊥) → (to_enter q (output_of p text) ≡ []) × (to_end q (output_of p text) ≡ false)
other_text p q [] n = (refl, refl)
other_text p q (c ∷ text) n = (ap (λ b. if b then c ∷ text else []) (other_is p q (λ e. n (sym e))), refl)

no_end : (p q : ℕ) (text : List Ch) → to_end q (output_of p text) ≡ false
no_end p q [] = refl
no_end p q (c ∷ text) = refl

output_expected : (said : List Said) (cs : List Core) (p : ℕ) (x : Core) (text : List Ch) → slice_get cs p ≡ Some x → x.live ≡ true → Expected said cs (output_of p text)
output_expected said cs p x [] g l = tt
output_expected said cs p x (c ∷ text) g l = (x, g, l)

-- one exchange more
read_more : (c : ℕ) (xs : List Exchange) (ask : Ask) (answer : Answer) → read c (xs ++ record { ask = ask; answer = answer } ∷ []) ≡ read c xs ++ read_bytes c ask answer
read_more c xs ask answer = flat_map-append (λ x. read_bytes c x.ask x.answer) xs (record { ask = ask; answer = answer } ∷ []) ∙ ap (λ t. read c xs ++ t) (append-nil (read_bytes c ask answer))

ended_more : (c : ℕ) (xs : List Exchange) (ask : Ask) (answer : Answer) → output_ended c (xs ++ record { ask = ask; answer = answer } ∷ []) ≡ (output_ended c xs || is_end c ask answer)
ended_more c xs ask answer = list_any-append (λ x. is_end c x.ask x.answer) xs (record { ask = ask; answer = answer } ∷ []) ∙ ap (λ b. output_ended c xs || b) (or_nil (is_end c ask answer))

last_is : (c d : ℕ) (answer : Answer) → IsLast answer → (read_bytes c (Read d) answer ≡ []) × (is_end c (Read d) answer ≡ (d == c))
last_is c d End l = (refl, refl)
last_is c d Failed l = (refl, refl)
last_is c d (Bytes bytes) l = absurd l
last_is c d _ l = absurd l

hears_traced : (xs : List Exchange) (said : List Said) (cs : List Core) (p : ℕ) (x : Core) (k : Coding) (bytes : List ℕ) → MayHave x k → Traced xs said cs Nobody → slice_get cs p ≡ Some x → x.live ≡ true → x.drained ≡ false →
    Traced (xs ++ record { ask = Read x.child; answer = Bytes bytes } ∷ []) said (slice_set cs p (record x { bytes = Some (so_far x ++ bytes); coding = k })) (output_of p (more_characters (decoded k (so_far x)) (decoded k (so_far x ++ bytes))))
hears_traced xs said cs p x k bytes may t g live undrained =
    let x' : Core = record x { bytes = Some (so_far x ++ bytes); coding = k } in
    let text : List Ch = more_characters (decoded k (so_far x)) (decoded k (so_far x ++ bytes)) in
    let h : HoldsAt xs said Nobody p x = t.each p x g in
    let own : (x.child == x.child) ≡ true = is_same x.child x.child refl in
    let before : entered p said ≡ decoded k (so_far x) =
    sym (append-nil (entered p said)) ∙ (h.text ∙ (ap (λ b. if b then all_decoded x.coding (so_far x) else decoded x.coding (so_far x)) undrained ∙ (same_decoded x.bytes x.coding k may).0)) in
    set_traced xs (record { ask = Read x.child; answer = Bytes bytes } ∷ []) said cs p x x' g (output_of p text) t refl
    (λ c n. (read_more c xs (Read x.child) (Bytes bytes) ∙ (ap (λ b. read c xs ++ (if b then bytes else [])) (other_is x.child c n) ∙ append-nil (read c xs)), ended_more c xs (Read x.child) (Bytes bytes) ∙ or_nil (output_ended c xs)))
    (λ q n. other_text p q text n)
    (record {
      bytes = (λ i. h.bytes i ++ bytes) ∙ sym (read_more x.child xs (Read x.child) (Bytes bytes) ∙ ap (λ b. read x.child xs ++ (if b then bytes else [])) own);
      drained = h.drained ∙ sym (ended_more x.child xs (Read x.child) (Bytes bytes) ∙ or_nil (output_ended x.child xs));
      text = (λ i. before i ++ own_text p text i) ∙ (grown (decoded k (so_far x)) (decoded k (so_far x ++ bytes)) (decoded k (undecoded k (so_far x) ++ bytes)) (decoded_law k (so_far x) bytes) ∙ ap (λ b. if b then all_decoded k (so_far x ++ bytes) else decoded k (so_far x ++ bytes)) (sym undrained));
      ended = ap (λ b. has_entry true p said || b) (no_end p p text) ∙ h.ended;
    })
    (output_expected said (slice_set cs p x') p x' text (set_same cs p x' x g) live)
    (ends_more [] xs (record { ask = Read x.child; answer = Bytes bytes }) t.ends (λ c k. cc))

-- all characters are those without what is left out, and then those of that
all_apart : (k : Coding) (bytes : List ℕ) → all_decoded k bytes ≡ decoded k bytes ++ all_decoded k (undecoded k bytes)
all_apart k bytes = ap (all_decoded k) (sym (append-nil bytes)) ∙ (all_decoded_law k bytes [] ∙ ap (λ t. decoded k bytes ++ all_decoded k t) (append-nil (undecoded k bytes)))

drains_traced : (xs : List Exchange) (said : List Said) (cs : List Core) (p : ℕ) (x : Core) (k : Coding) (answer : Answer) → MayHave x k → IsLast answer → Traced xs said cs Nobody → slice_get cs p ≡ Some x → x.live ≡ true → x.drained ≡ false →
    Traced (xs ++ record { ask = Read x.child; answer = answer } ∷ []) said (slice_set cs p (record x { drained = true })) (output_of p (more_characters (decoded k (so_far x)) (all_decoded k (so_far x))))
drains_traced xs said cs p x k answer may last t g live undrained =
    let x' : Core = record x { drained = true } in
    let text : List Ch = more_characters (decoded k (so_far x)) (all_decoded k (so_far x)) in
    let h : HoldsAt xs said Nobody p x = t.each p x g in
    let own : (x.child == x.child) ≡ true = is_same x.child x.child refl in
    let same : (decoded x.coding (so_far x) ≡ decoded k (so_far x)) × (all_decoded x.coding (so_far x) ≡ all_decoded k (so_far x)) = same_decoded x.bytes x.coding k may in
    let before : entered p said ≡ decoded k (so_far x) =
    sym (append-nil (entered p said)) ∙ (h.text ∙ (ap (λ b. if b then all_decoded x.coding (so_far x) else decoded x.coding (so_far x)) undrained ∙ same.0)) in
    let l : (c : ℕ) → (read_bytes c (Read x.child) answer ≡ []) × (is_end c (Read x.child) answer ≡ (x.child == c)) = λ c. last_is c x.child answer last in
    set_traced xs (record { ask = Read x.child; answer = answer } ∷ []) said cs p x x' g (output_of p text) t refl
    (λ c n. (read_more c xs (Read x.child) answer ∙ (ap (λ t. read c xs ++ t) (l c).0 ∙ append-nil (read c xs)), ended_more c xs (Read x.child) answer ∙ (ap (λ b. output_ended c xs || b) ((l c).1 ∙ other_is x.child c n) ∙ or_nil (output_ended c xs))))
    (λ q n. other_text p q text n)
    (record {
      bytes = h.bytes ∙ sym (read_more x.child xs (Read x.child) answer ∙ (ap (λ t. read x.child xs ++ t) (l x.child).0 ∙ append-nil (read x.child xs)));
      drained = sym (ended_more x.child xs (Read x.child) answer ∙ or_right (output_ended x.child xs) (is_end x.child (Read x.child) answer) ((l x.child).1 ∙ own));
      text = (λ i. before i ++ own_text p text i) ∙ (grown (decoded k (so_far x)) (all_decoded k (so_far x)) (all_decoded k (undecoded k (so_far x))) (all_apart k (so_far x)) ∙ sym same.1);
      ended = ap (λ b. has_entry true p said || b) (no_end p p text) ∙ h.ended;
    })
    (output_expected said (slice_set cs p x') p x' text (set_same cs p x' x g) live)
    (ends_more [] xs (record { ask = Read x.child; answer = answer }) t.ends (λ c k. cc))

dies_traced : (xs ys : List Exchange) (said : List Said) (cs : List Core) (p : ℕ) (x : Core) → Traced xs said cs Nobody → Idle cs ys → slice_get cs p ≡ Some x → x.live ≡ true → Traced (xs ++ ys) said (slice_set cs p (record x { live = false })) (Sentinel p)
dies_traced xs ys said cs p x t i g live =
    let x' : Core = record x { live = false } in
    let h : HoldsAt xs said Nobody p x = t.each p x g in
    let r : (read x.child (xs ++ ys) ≡ read x.child xs) × (output_ended x.child (xs ++ ys) ≡ output_ended x.child xs) = idle_reads cs xs ys i x.child in
    set_traced xs ys said cs p x x' g (Sentinel p) t refl
    (λ c n. idle_reads cs xs ys i c)
    (λ q n. (refl, other_is p q (λ e. n (sym e))))
    (record { bytes = h.bytes ∙ sym r.0; drained = h.drained ∙ sym r.1; text = h.text; ended = or_right (has_entry true p said) (p == p) (is_same p p refl) })
    (x', set_same cs p x' x g, sym (or_nil (has_entry true p said)) ∙ (h.ended ∙ ap not live))
    (ends_idle xs ys said cs Nobody t i)

-- ANY MOVE
-- a move by which no more is known of any process
rested : (xs ys : List Exchange) (said more : List Said) (cs ds : List Core) (e f : Coming) → Traced xs said cs e → e ≡ Nobody → f ≡ Nobody → ds ≡ cs → Idle cs ys → Silent more → Traced (xs ++ ys) (said ++ more) ds f
rested xs ys said more cs ds e f t a b d i q = rw (b, d) (rests_traced xs ys said more cs (subst (λ e. Traced xs said cs e) a t) i q)

nothing : (cs : List Core) (ys : List Exchange) → ys ≡ [] → Idle cs ys
nothing cs ys n = rw n tt

pub moves_traced : (xs ys : List Exchange) (said more : List Said) (cs ds : List Core) (e f : Coming) (g h : Phase) → Traced xs said cs e → Moves cs e g ys more ds f h → Traced (xs ++ ys) (said ++ more) ds f
moves_traced xs ys said more cs ds e f g h t (rests a b d i q r s u) = rested xs ys said more cs ds e f t a b d i q
moves_traced xs ys said more cs ds e f g h t (enters x k m b d n r s) = rw (b, d, m, n, append-nil) (enters_traced xs said x cs e t k)
moves_traced xs ys said more cs ds e f g h t (spawns child a b d new i m r s u) = rw (b, d, m, append-nil) (spawns_traced xs ys said cs child (subst (λ e. Traced xs said cs e) a t) i new)
moves_traced xs ys said more cs ds e f g h t (hears p x c bytes may a k live undrained n m d b r s) = rw (b, d, m, n, append-nil) (hears_traced xs said cs p x c bytes may (subst (λ e. Traced xs said cs e) a t) k live undrained)
moves_traced xs ys said more cs ds e f g h t (drains p x c answer may last a k live undrained n m d b r s) = rw (b, d, m, n, append-nil) (drains_traced xs said cs p x c answer may last (subst (λ e. Traced xs said cs e) a t) k live undrained)
moves_traced xs ys said more cs ds e f g h t (dies p x a k live i m d b r s u) = rw (b, d, m, append-nil) (dies_traced xs ys said cs p x (subst (λ e. Traced xs said cs e) a t) i k live)
moves_traced xs ys said more cs ds e f g h t (closes a b d n q r s) = rested xs ys said more cs ds e f t a b d (nothing cs ys n) q
moves_traced xs ys said more cs ds e f g h t (passes p x a b d n q k dead r s) = rested xs ys said more cs ds e f t a b d (nothing cs ys n) q
moves_traced xs ys said more cs ds e f g h t (kills p x a b d i q k live u r s) = rested xs ys said more cs ds e f t a b d i q
moves_traced xs ys said more cs ds e f g h t (Moves.ends p a b d n q k r s) = rested xs ys said more cs ds e f t a b d (nothing cs ys n) q
moves_traced xs ys said more cs ds e f g h t (dumps a b d n q r s) = rested xs ys said more cs ds e f t a b d (nothing cs ys n) q
