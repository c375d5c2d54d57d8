-- Which children live, by the exchanges and by the state.
use Rattle.std.proofs.Common.{◌≡◌, ℕ, zero, suc, ◌+◌, ◌<◌, ◌≤◌, Bool, true, false, List, [], ◌∷◌, ◌++◌, length, map, refl, ap, sym, ◌∙◌, subst, arith}
use Rattle.std.proofs.lemmas.List.{append-nil, map-append, length-map}
use Rattle.std.proofs.lemmas.List.Folds.{list_any-append}
use Rattle.std.proofs.lemmas.Grind.{flat_map-append}
use Rattle.std.specs.Prelude.{Option, Some, None, ◌==◌, not, ◌||◌, nat_lt, drop, filter, slice_get, slice_set, if◌then◌else◌}
use Rattle.std.proofs.lemmas.Option.{slice_get_within}
use Rattle.std.proofs.lemmas.Bool.{ltb-true}
use Rattle.text_model.specs.Codings.{Coding, Utf8}
use Rattle.text_model.specs.Properties.{insert_name}
use Rattle.editor_model.specs.Values.{Script}
use Rattle.plain_machine.specs.Exchanges.{Ask, Read, Answer, Started, End, Failed, Exchange, goes_by, gone, started_by, children_started, rising}
use Rattle.plain_machine.specs.State.{State, Program, Process}
use Rattle.plain_machine.specs.Arguments.{runs}
use Rattle.plain_machine.specs.Lines.{OfFilter}
use Rattle.plain_machine.specs.Items.{Item, Finish, WriteDump, Said, Config, Next, Goes, Asks, Enter, Ended}
use Rattle.plain_machine.specs.Step.{step}
use Rattle.plain_machine.specs.Run.{start}
use Rattle.machine_laws.specs.Entries.{heard, coding_in, EntriesOfChildren, RanEntries, BrokenEntries}
use Rattle.machine_laws.specs.Children.{to_kill, KillsLeft}
use Rattle.plain_machine.specs.WholeRuns.{IsBetweenEntries}
use Rattle.plain_machine.proofs.Composed.{over_runs}
use Rattle.machine_laws.proofs.Keeping.{Core, core, cores}
use Rattle.machine_laws.proofs.Moves.{Coming, Phase, Working, Killing, Over, phase, coming, IsNew, fresh, so_far, IsLast, Still, Ends, Starts, Moves, rests, enters, spawns, hears, drains, dies, closes, passes, kills, dumps}
use Rattle.machine_laws.proofs.Steps.{Made, goes_moves, asks_moves}
use Rattle.machine_laws.proofs.Traced.{Stands, within, behind, stands, Traced, Placed, here, away, placed, still_new}
use Rattle.machine_laws.proofs.Heard.{entries, Carried, carried_more, carried_asking, carried_start}
use Rattle.machine_laws.proofs.Basics.{get_more, is_same, none_above, or_nil, or_right, other_is, same_is}

-- up to which process the kills are made
abbrev pub upto : Phase → List Core → ℕ
upto Working cs = 0
upto (Killing p) cs = p
upto Over cs = length cs

abbrev pub child_in : Core → ℕ
child_in x = x.child

pub record Alive (xs : List Exchange) (cs : List Core) (g : Phase) : Type 0 where
  pub children : children_started xs ≡ map child_in cs
  pub dead : (p : ℕ) (x : Core) → slice_get cs p ≡ Some x → gone x.child xs ≡ (not x.live || nat_lt p (upto g cs))
  pub unknown : (c : ℕ) → IsNew c cs → gone c xs ≡ false

-- LISTS
pub started-append : (xs ys : List Exchange) → children_started (xs ++ ys) ≡ children_started xs ++ children_started ys
started-append xs ys = flat_map-append (λ x. started_by x.answer) xs ys

pub gone-append : (c : ℕ) (xs ys : List Exchange) → gone c (xs ++ ys) ≡ (gone c xs || gone c ys)
gone-append c xs ys = list_any-append (λ x. goes_by c x.ask x.answer) xs ys

children_set : (cs : List Core) (p : ℕ) (x x' : Core) → slice_get cs p ≡ Some x → x'.child ≡ x.child → map child_in (slice_set cs p x') ≡ map child_in cs
children_set [] p x x' e h = refl
children_set (c ∷ cs) zero x x' e h = let q : c ≡ x = cc in ap (λ k. k ∷ map child_in cs) (h ∙ ap child_in (sym q))
children_set (c ∷ cs) (suc p) x x' e h = ap (λ l. c.child ∷ l) (children_set cs p x x' e h)

-- NUMBERS
pub not_below : (p : ℕ) → nat_lt p 0 ≡ false
not_below p = grind arith

below_next : (p : ℕ) → nat_lt p (p + 1) ≡ true
below_next p = grind arith

is_below : (p q : ℕ) → p < q → nat_lt p q ≡ true
is_below p q h = grind arith

next_same : (q p : ℕ) → (q ≡ p → ⊥) → nat_lt q (p + 1) ≡ nat_lt q p
next_same q p h = grind arith

below_suc : (p q : ℕ) → nat_lt (suc p) (suc q) ≡ nat_lt p q
below_suc p q = grind arith

below_zero : (q : ℕ) → nat_lt 0 (suc q) ≡ true
below_zero q = grind arith

-- EACH MOVE
-- where no child comes or goes and nothing changes
still_alive : (xs ys : List Exchange) (cs : List Core) (g : Phase) → Alive xs cs g → Still ys → Alive (xs ++ ys) cs g
still_alive xs ys cs g a s = record {
  children = started-append xs ys ∙ (ap (λ l. children_started xs ++ l) s.0 ∙ (append-nil (children_started xs) ∙ a.children));
  dead = λ p x e. gone-append x.child xs ys ∙ (ap (λ b. gone x.child xs || b) (s.1 x.child) ∙ (or_nil (gone x.child xs) ∙ a.dead p x e));
  unknown = λ c n. gone-append c xs ys ∙ (ap (λ b. gone c xs || b) (s.1 c) ∙ (or_nil (gone c xs) ∙ a.unknown c n));
}

-- the same children in another phase
phase_alive : (xs : List Exchange) (cs : List Core) (g h : Phase) → Alive xs cs g → ((p : ℕ) (x : Core) → slice_get cs p ≡ Some x → (not x.live || nat_lt p (upto g cs)) ≡ (not x.live || nat_lt p (upto h cs))) → Alive xs cs h
phase_alive xs cs g h a s = record { children = a.children; dead = λ p x e. a.dead p x e ∙ s p x e; unknown = a.unknown }

-- one process is changed, and goes or not
set_alive : (xs ys : List Exchange) (said : List Said) (cs : List Core) (e : Coming) (p : ℕ) (x x' : Core) → Traced xs said cs e → Alive xs cs Working → slice_get cs p ≡ Some x → x'.child ≡ x.child → x.live ≡ true → children_started ys ≡ [] →
    (goes : Bool) → x'.live ≡ not goes → ((c : ℕ) → gone c ys ≡ (if goes then x.child == c else false)) → Alive (xs ++ ys) (slice_set cs p x') Working
set_alive xs ys said cs e p x x' t a g same live none goes l gs = record {
  children = started-append xs ys ∙ (ap (λ l. children_started xs ++ l) none ∙ (append-nil (children_started xs) ∙ (a.children ∙ sym (children_set cs p x x' g same))));
  dead = λ q y k. at q y (placed xs ys said cs p x x' g q y k);
  unknown = λ c n.
      let m : IsNew c cs × (x.child ≡ c → ⊥) = still_new xs ys said cs p x x' g c same n in
      gone-append c xs ys ∙ (ap (λ b. gone c xs || b) (others c m.1) ∙ (or_nil (gone c xs) ∙ a.unknown c m.0));
}
  where
    others : (c : ℕ) → (x.child ≡ c → ⊥) → gone c ys ≡ false
    others c n = gs c ∙ none_of goes
      where
        none_of : (b : Bool) → (if b then x.child == c else false) ≡ false
        none_of true = other_is x.child c n
        none_of false = refl

    own : (b : Bool) → (if b then x.child == x.child else false) ≡ b
    own true = is_same x.child x.child refl
    own false = refl

    alive_before : gone x.child xs ≡ false
    alive_before = a.dead p x g ∙ (ap (λ b. not b || nat_lt p 0) live ∙ not_below p)

    at : (q : ℕ) (y : Core) → Placed cs p x' q y → gone y.child (xs ++ ys) ≡ (not y.live || nat_lt q 0)
    at q y (here s k) =
        let c : gone x.child (xs ++ ys) ≡ goes = gone-append x.child xs ys ∙ ((λ i. alive_before i || gs x.child i) ∙ own goes) in
        let d : gone y.child (xs ++ ys) ≡ goes = ap (λ (z : Core). gone z.child (xs ++ ys)) k ∙ (ap (λ c. gone c (xs ++ ys)) same ∙ c) in
        d ∙ sym (ap (λ b. not y.live || b) (not_below q) ∙ (or_nil (not y.live) ∙ (ap (λ (z : Core). not z.live) k ∙ (ap not l ∙ not_not goes))))
      where
        not_not : (b : Bool) → not (not b) ≡ b
        not_not true = refl
        not_not false = refl
    at q y (away n k) =
        let apart : x.child ≡ y.child → ⊥ = λ s. n (t.apart q p y x k g (sym s)) in
        gone-append y.child xs ys ∙ (ap (λ b. gone y.child xs || b) (others y.child apart) ∙ (or_nil (gone y.child xs) ∙ a.dead q y k))

-- the kill of one process at the end
kill_alive : (xs ys : List Exchange) (said : List Said) (cs : List Core) (e : Coming) (p : ℕ) (x : Core) → Traced xs said cs e → Alive xs cs (Killing p) → slice_get cs p ≡ Some x → Ends x.child ys → Alive (xs ++ ys) cs (Killing (p + 1))
kill_alive xs ys said cs e p x t a g d = record {
  children = started-append xs ys ∙ (ap (λ l. children_started xs ++ l) d.0 ∙ (append-nil (children_started xs) ∙ a.children));
  dead = λ q y k. at q y k (q == p) refl;
  unknown = λ c n. gone-append c xs ys ∙ ((λ i. a.unknown c n i || d.1 c i) ∙ other_is x.child c (λ s. n p x g s));
}
  where
    at : (q : ℕ) (y : Core) → slice_get cs q ≡ Some y → (b : Bool) → (q == p) ≡ b → gone y.child (xs ++ ys) ≡ (not y.live || nat_lt q (p + 1))
    at q y k true s =
        let m : q ≡ p = same_is q p s in
        let l : Some x ≡ Some y = sym g ∙ (ap (λ q. slice_get cs q) (sym m) ∙ k) in
        let n : x ≡ y = cc in
        let c : gone y.child ys ≡ true = d.1 y.child ∙ is_same x.child y.child (ap child_in n) in
        let r : nat_lt q (p + 1) ≡ true = ap (λ q. nat_lt q (p + 1)) m ∙ below_next p in
        gone-append y.child xs ys ∙ (or_right (gone y.child xs) (gone y.child ys) c ∙ sym (or_right (not y.live) (nat_lt q (p + 1)) r))
    at q y k false s =
        let n : q ≡ p → ⊥ = λ m. let l : true ≡ false = sym (is_same q p m) ∙ s in cc in
        let apart : x.child ≡ y.child → ⊥ = λ m. n (t.apart q p y x k g (sym m)) in
        gone-append y.child xs ys ∙ (ap (λ b. gone y.child xs || b) (d.1 y.child ∙ other_is x.child y.child apart) ∙ (or_nil (gone y.child xs) ∙ (a.dead q y k ∙ ap (λ b. not y.live || b) (sym (next_same q p n)))))

-- a process more
start_alive : (xs ys : List Exchange) (cs : List Core) (child : ℕ) → Alive xs cs Working → IsNew child cs → Starts child ys → Alive (xs ++ ys) (cs ++ fresh child ∷ []) Working
start_alive xs ys cs child a new s = record {
  children = started-append xs ys ∙ ((λ i. a.children i ++ s.0 i) ∙ sym (map-append child_in cs (fresh child ∷ [])));
  dead = λ p x e. at p x (stands cs (fresh child) p x e);
  unknown = λ c n. same c ∙ a.unknown c (λ p x g e. n p x (get_more cs (fresh child) p x g) e);
}
  where
    same : (c : ℕ) → gone c (xs ++ ys) ≡ gone c xs
    same c = gone-append c xs ys ∙ (ap (λ b. gone c xs || b) (s.1 c) ∙ or_nil (gone c xs))

    at : (p : ℕ) (x : Core) → Stands cs (fresh child) p x → gone x.child (xs ++ ys) ≡ (not x.live || nat_lt p 0)
    at p x (within g) = same x.child ∙ a.dead p x g
    at p x (behind n l e) = subst (λ (x : Core). gone x.child (xs ++ ys) ≡ (not x.live || nat_lt p 0)) (sym e) (same child ∙ (a.unknown child new ∙ sym (not_below p)))

by_reading : (c : ℕ) (child : ℕ) (answer : Answer) → IsLast answer → Still (record { ask = Read child; answer = answer } ∷ [])
by_reading c child End l = (refl, λ c. refl)
by_reading c child Failed l = (refl, λ c. refl)
by_reading c child (Started d) l = absurd l
by_reading c child _ l = absurd l

-- no exchange
with_none : (xs ys : List Exchange) (cs : List Core) (g : Phase) → ys ≡ [] → Alive xs cs g → Alive (xs ++ ys) cs g
with_none xs ys cs g n a = rw (n, append-nil) a

moves_alive : (xs ys : List Exchange) (said more : List Said) (cs ds : List Core) (e f : Coming) (g h : Phase) → Traced xs said cs e → Alive xs cs g → Moves cs e g ys more ds f h → Alive (xs ++ ys) ds h
moves_alive xs ys said more cs ds e f g h t a (rests _ _ d i q r s u) = rw (d, s) (still_alive xs ys cs Working (rw r at a) u)
moves_alive xs ys said more cs ds e f g h t a (enters x k m b d n r s) = rw (d, s) (with_none xs ys cs Working n (rw r at a))
moves_alive xs ys said more cs ds e f g h t a (spawns child _ b d new i m r s u) = rw (d, s) (start_alive xs ys cs child (rw r at a) new u)
moves_alive xs ys said more cs ds e f g h t a (hears p x c bytes _ _ k live undrained n m d b r s) =
    rw (d, s) (set_alive xs ys said cs e p x (record x { bytes = Some (so_far x ++ bytes); coding = c }) t (rw r at a) k refl live (rw n refl) false live (λ c. rw n refl))
moves_alive xs ys said more cs ds e f g h t a (drains p x c answer _ last _ k live undrained n m d b r s) =
    let u : Still (record { ask = Read x.child; answer = answer } ∷ []) = by_reading 0 x.child answer last in
    rw (d, s) (set_alive xs ys said cs e p x (record x { drained = true }) t (rw r at a) k refl live (rw n u.0) false live (λ c. rw n (u.1 c)))
moves_alive xs ys said more cs ds e f g h t a (dies p x _ k live i m d b r s u) =
    rw (d, s) (set_alive xs ys said cs e p x (record x { live = false }) t (rw r at a) k refl live u.0 true refl (λ c. u.1 c))
moves_alive xs ys said more cs ds e f g h t a (closes _ b d n q r s) = rw (d, s) (with_none xs ys cs (Killing 0) n (phase_alive xs cs Working (Killing 0) (rw r at a) (λ p x k. refl)))
moves_alive xs ys said more cs ds e f g h t a (passes p x _ b d n q k dead r s) = rw (d, s) (with_none xs ys cs (Killing (p + 1)) n (phase_alive xs cs (Killing p) (Killing (p + 1)) (rw r at a) (λ q y l. at q y l (q == p) refl)))
  where
    at : (q : ℕ) (y : Core) → slice_get cs q ≡ Some y → (v : Bool) → (q == p) ≡ v → (not y.live || nat_lt q p) ≡ (not y.live || nat_lt q (p + 1))
    at q y l true m =
        let j : q ≡ p = same_is q p m in
        let o : Some x ≡ Some y = sym k ∙ (ap (λ q. slice_get cs q) (sym j) ∙ l) in
        let n : x ≡ y = cc in
        let z : y.live ≡ false = ap (λ (c : Core). c.live) (sym n) ∙ dead in
        rw z refl
    at q y l false m = ap (λ b. not y.live || b) (sym (next_same q p (λ j. let o : true ≡ false = sym (is_same q p j) ∙ m in cc)))
moves_alive xs ys said more cs ds e f g h t a (kills p x _ b d i q k live u r s) = rw (d, s) (kill_alive xs ys said cs e p x t (rw r at a) k u)
moves_alive xs ys said more cs ds e f g h t a (Moves.ends p _ b d n q k r s) = rw (d, s) (with_none xs ys cs Over n (phase_alive xs cs (Killing p) Over (rw r at a) (λ q y l.
    let u : q < length cs = slice_get_within cs q y l in
    let v : length cs ≤ p = none_above cs p k in
    ap (λ b. not y.live || b) (is_below q p (omega arith) ∙ sym (is_below q (length cs) u)))))
moves_alive xs ys said more cs ds e f g h t a (dumps _ b d n q r s) = rw (d, s) (with_none xs ys cs Over n (rw r at a))

-- CHILDREN BY RISING NUMBER
abbrev Above : ℕ → List ℕ → Type 0
Above n [] = Unit {0}
Above n (m ∷ l) = (n < m) × Above n l

abbrev Rises : List ℕ → Type 0
Rises [] = Unit {0}
Rises (m ∷ l) = Above m l × Rises l

not_below_is : (n m : ℕ) → nat_lt n m ≡ false → m ≤ n
not_below_is n m h = grind arith

apart_is : (n m : ℕ) → (n == m) ≡ false → n ≡ m → ⊥
apart_is n m h e = let k : true ≡ false = sym (is_same n m e) ∙ h in cc

greater : (n m : ℕ) → nat_lt n m ≡ false → (n == m) ≡ false → m < n
greater n m h k = let l : m ≤ n = not_below_is n m h in let d : n ≡ m → ⊥ = apart_is n m k in grind arith

above_less : (k n : ℕ) (l : List ℕ) → k < n → Above n l → Above k l
above_less k n [] h a = tt
above_less k n (m ∷ l) h a = (let b : n < m = a.0 in omega arith, above_less k n l h a.1)

above_insert : (k n : ℕ) (l : List ℕ) → k < n → Above k l → Above k (insert_name n l)
above_insert k n [] h a = (h, tt)
above_insert k n (m ∷ l) h a = go (nat_lt n m) (n == m) (above_insert k n l h a.1)
  where
    go : (v w : Bool) → Above k (insert_name n l) → Above k (if v then n ∷ m ∷ l else (if w then m ∷ l else m ∷ insert_name n l))
    go true w b = (h, a)
    go false true b = a
    go false false b = (a.0, b)

rises_insert : (n : ℕ) (l : List ℕ) → Rises l → Rises (insert_name n l)
rises_insert n [] r = (tt, tt)
rises_insert n (m ∷ l) r = go (nat_lt n m) refl (n == m) refl (rises_insert n l r.1)
  where
    go : (v : Bool) → nat_lt n m ≡ v → (w : Bool) → (n == m) ≡ w → Rises (insert_name n l) → Rises (if v then n ∷ m ∷ l else (if w then m ∷ l else m ∷ insert_name n l))
    go true e w k b = let h : n < m = ltb-true n m e in ((h, above_less n m l h r.0), r)
    go false e true k b = r
    go false e false k b = (above_insert m n l (greater n m e k) r.0, b)

rises : (l : List ℕ) → Rises (rising l)
rises [] = tt
rises (c ∷ l) = rises_insert c (rising l) (rises l)

above_filter : (f : ℕ → Bool) (n : ℕ) (l : List ℕ) → Above n l → Above n (filter f l)
above_filter f n [] a = tt
above_filter f n (m ∷ l) a = go (f m) (above_filter f n l a.1)
  where
    go : (b : Bool) → Above n (filter f l) → Above n (if b then m ∷ filter f l else filter f l)
    go true r = (a.0, r)
    go false r = r

insert_front : (n : ℕ) (l : List ℕ) → Above n l → insert_name n l ≡ n ∷ l
insert_front n [] a = refl
insert_front n (m ∷ l) a = let h : nat_lt n m ≡ true = is_below n m a.0 in rw (h, insert_name) refl

filter_insert : (f : ℕ → Bool) (n : ℕ) (l : List ℕ) → Rises l → filter f (insert_name n l) ≡ (if f n then insert_name n (filter f l) else filter f l)
filter_insert f n [] r = refl
filter_insert f n (m ∷ l) r = go (nat_lt n m) refl (n == m) refl (f n) refl (f m) refl (filter_insert f n l r.1)
  where
    go : (v : Bool) → nat_lt n m ≡ v → (w : Bool) → (n == m) ≡ w → (b : Bool) → f n ≡ b → (c : Bool) → f m ≡ c → filter f (insert_name n l) ≡ (if f n then insert_name n (filter f l) else filter f l) →
        filter f (if v then n ∷ m ∷ l else (if w then m ∷ l else m ∷ insert_name n l)) ≡ (if b then insert_name n (filter f (m ∷ l)) else filter f (m ∷ l))
    go true e w k true p c q ih = let h : n < m = ltb-true n m e in rw p (sym (insert_front n (filter f (m ∷ l)) (above_filter f n (m ∷ l) (h, above_less n m l h r.0))))
    go true e w k false p c q ih = rw p refl
    go false e true k true p c q ih = let s : f m ≡ true = ap f (sym (same_is n m k)) ∙ p in rw s (rw (e, k) refl)
    go false e true k false p c q ih = refl
    go false e false k true p true q ih = rw q (rw (e, k) (ap (λ l. m ∷ l) (ih ∙ ap (λ b. if b then insert_name n (filter f l) else filter f l) p)))
    go false e false k true p false q ih = rw q (ih ∙ ap (λ b. if b then insert_name n (filter f l) else filter f l) p)
    go false e false k false p true q ih = rw q (ap (λ l. m ∷ l) (ih ∙ ap (λ b. if b then insert_name n (filter f l) else filter f l) p))
    go false e false k false p false q ih = rw q (ih ∙ ap (λ b. if b then insert_name n (filter f l) else filter f l) p)

filter_rising : (f : ℕ → Bool) (l : List ℕ) → filter f (rising l) ≡ rising (filter f l)
filter_rising f [] = refl
filter_rising f (c ∷ l) = filter_insert f c (rising l) (rises l) ∙ go (f c) (filter_rising f l)
  where
    go : (b : Bool) → filter f (rising l) ≡ rising (filter f l) → (if b then insert_name c (filter f (rising l)) else filter f (rising l)) ≡ rising (if b then c ∷ filter f l else filter f l)
    go true h = ap (insert_name c) h
    go false h = h

-- BY THE STATE
drop_all : {A : Type 0} (xs : List A) → drop (length xs) xs ≡ []
drop_all [] = refl
drop_all (x ∷ xs) = drop_all xs

alive_list : (f : ℕ → Bool) (ps : List Process) (q : ℕ) → ((p : ℕ) (x : Core) → slice_get (map core ps) p ≡ Some x → f x.child ≡ (not x.live || nat_lt p q)) →
    filter (λ c. not (f c)) (map child_in (map core ps)) ≡ map (λ x. x.child) (filter (λ x. runs x.status) (drop q ps))
alive_list f [] zero h = refl
alive_list f [] (suc q) h = refl
alive_list f (y ∷ ps) zero h =
    go (runs y.status) (h 0 (core y) refl ∙ (ap (λ b. not (runs y.status) || b) (not_below 0) ∙ or_nil (not (runs y.status))))
    (alive_list f ps zero (λ p x e. h (suc p) x e ∙ ap (λ b. not x.live || b) (not_below (suc p) ∙ sym (not_below p))))
  where
    go : (b : Bool) → f y.child ≡ not b → filter (λ c. not (f c)) (map child_in (map core ps)) ≡ map (λ x. x.child) (filter (λ x. runs x.status) ps) →
        filter (λ c. not (f c)) (y.child ∷ map child_in (map core ps)) ≡ map (λ x. x.child) (if b then y ∷ filter (λ x. runs x.status) ps else filter (λ x. runs x.status) ps)
    go true e ih = rw e (ap (λ l. y.child ∷ l) ih)
    go false e ih = rw e ih
alive_list f (y ∷ ps) (suc q) h =
    let e : f y.child ≡ true = h 0 (core y) refl ∙ or_right (not (runs y.status)) (nat_lt 0 (suc q)) (below_zero q) in
    rw e (alive_list f ps q (λ p x e. h (suc p) x e ∙ ap (λ b. not x.live || b) (below_suc p q)))

-- those that would be killed, by the phase
killed_by_phase : (s : State) (work : List Item) → rising (map (λ x. x.child) (filter (λ x. runs x.status) (drop (upto (phase work) (cores s)) s.processes))) ≡ to_kill (record { state = s; work = work })
killed_by_phase s [] = ap (λ n. rising (map (λ x. x.child) (filter (λ x. runs x.status) (drop n s.processes)))) (length-map s.processes core) ∙ ap (λ l. rising (map (λ x. x.child) (filter (λ x. runs x.status) l))) (drop_all s.processes)
killed_by_phase s (Finish p ∷ rest) = refl
killed_by_phase s (WriteDump ∷ rest) = ap (λ n. rising (map (λ x. x.child) (filter (λ x. runs x.status) (drop n s.processes)))) (length-map s.processes core) ∙ ap (λ l. rising (map (λ x. x.child) (filter (λ x. runs x.status) l))) (drop_all s.processes)
killed_by_phase s (_ ∷ rest) = refl

-- OVER A RUN
abbrev pub Lives : List Exchange → List Said → Config → Type 0
Lives xs said c = Carried xs said c × Alive xs (cores c.state) (phase c.work)

module _ (program : Program) (bound : ℕ) where
  pub lives_more : (xs : List Exchange) (said : List Said) (c : Config) (n : Next) → Lives xs said c → step program bound c ≡ Goes n → Lives xs (said ++ n.said) n.config
  lives_more xs said c n i e =
      let m : Made c [] n = goes_moves program bound c n i.0.1 e in
      (carried_more program bound xs said c n i.0 e, rw append-nil at (moves_alive xs [] said n.said (cores c.state) (cores n.config.state) (coming c.work) (coming n.config.work) (phase c.work) (phase n.config.work) i.0.0 i.1 m.0))

  pub lives_asking : (xs : List Exchange) (said : List Said) (c : Config) (ask : Ask) (answer : Answer) (k : Answer → Option Next) (n : Next) → Lives xs said c → step program bound c ≡ Asks ask k → k answer ≡ Some n →
      Lives (xs ++ record { ask = ask; answer = answer } ∷ []) (said ++ n.said) n.config
  lives_asking xs said c ask answer k n i e h =
      let ys : List Exchange = record { ask = ask; answer = answer } ∷ [] in
      let m : Made c ys n = asks_moves program bound c ask answer k n i.0.1 e h in
      (carried_asking program bound xs said c ask answer k n i.0 e h, moves_alive xs ys said n.said (cores c.state) (cores n.config.state) (coming c.work) (coming n.config.work) (phase c.work) (phase n.config.work) i.0.0 i.1 m.0)

  pub lives_start : (script : Script) → Lives [] [] (start script)
  lives_start script = (carried_start program bound script, record { children = refl; dead = λ p x g. cc; unknown = λ c n. refl })

pub kills_left : (program : Program) (bound : ℕ) (script : Script) → KillsLeft program bound (start script)
kills_left program bound script xs said c r =
    let i : Lives xs said c = over_runs program bound Lives (lives_more program bound) (lives_asking program bound) r [] [] (lives_start program bound script) in
    let a : Alive xs (cores c.state) (phase c.work) = i.1 in
    filter_rising (λ k. not (gone k xs)) (children_started xs) ∙
    (ap (λ l. rising (filter (λ k. not (gone k xs)) l)) a.children ∙
    (ap rising (alive_list (λ k. gone k xs) c.state.processes (upto (phase c.work) (cores c.state)) a.dead) ∙ killed_by_phase c.state c.work))

-- ENTRIES, BY CHILDREN
mapped : (f : Process → ℕ) (ps : List Process) (p c : ℕ) → slice_get (map f ps) p ≡ Some c → (x : Process) × (slice_get ps p ≡ Some x) × (f x ≡ c)
mapped f [] p c e = cc
mapped f (y ∷ ps) zero c e = (y, refl, let k : f y ≡ c = cc in k)
mapped f (y ∷ ps) (suc p) c e = mapped f ps p c e

pub cores_children : (ps : List Process) → map child_in (map core ps) ≡ map (λ x. x.child) ps
cores_children [] = refl
cores_children (x ∷ ps) = ap (λ l. x.child ∷ l) (cores_children ps)

abbrev coding_of_one : Option Process → Coding
coding_of_one o = elim o [ Some x ↦ x.coding | None ↦ Utf8 ]

pub entries_of_children : (program : Program) (bound : ℕ) (script : Script) → EntriesOfChildren program bound (start script)
entries_of_children program bound script xs said c r between p child g =
    let i : Lives xs said c = over_runs program bound Lives (lives_more program bound) (lives_asking program bound) r [] [] (lives_start program bound script) in
    let a : Alive xs (cores c.state) (phase c.work) = i.1 in
    let k : slice_get (map (λ (x : Process). x.child) c.state.processes) p ≡ Some child = ap (λ l. slice_get l p) (sym (a.children ∙ cores_children c.state.processes)) ∙ g in
    let m : (x : Process) × (slice_get c.state.processes p ≡ Some x) × (x.child ≡ child) = mapped (λ x. x.child) c.state.processes p child k in
    let coded : coding_in c.state p ≡ m.0.coding = ap coding_of_one m.1 in
    entries program bound script xs said c r between p m.0 m.1 ∙ (λ i. heard (sym coded i) (m.2 i) xs)

-- a run that has ended is past its entries
ended_between : (program : Program) (bound : ℕ) (c : Config) → step program bound c ≡ Ended → IsBetweenEntries c
ended_between program bound c e = go c.work e
  where
    go : (work : List Item) → step program bound (record { state = c.state; work = work }) ≡ Ended → IsBetweenEntries (record { state = c.state; work = work })
    go (Enter (OfFilter p) handler args ∷ rest) e = cc
    go (Enter kind handler args ∷ rest) e = tt
    go [] e = tt
    go (_ ∷ rest) e = tt

pub ran_entries : (program : Program) (bound : ℕ) (script : Script) → RanEntries program bound script
ran_entries program bound script exchanges written r p child g = entries_of_children program bound script exchanges r.said r.last r.run (ended_between program bound r.last r.ended) p child g

pub broken_entries : (program : Program) (bound : ℕ) (script : Script) → BrokenEntries program bound script
broken_entries program bound script exchanges written r p child g = entries_of_children program bound script r.made r.said r.last r.run r.between p child g
