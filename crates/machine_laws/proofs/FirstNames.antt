-- The name that is made is the first that is free, of buffers and of processes: by a list of the names taken.
use Rattle.std.proofs.Common.{◌≡◌, ◌≢◌, ℕ, zero, suc, ◌+◌, ◌^◌, ◌<◌, ◌≤◌, Bool, true, false, List, [], ◌∷◌, length, refl, ap, sym, ◌∙◌, subst, arith}
use Rattle.std.specs.Prelude.{◌==◌, ◌&&◌, ◌||◌, slice_get, Option, Some, None, is_some}
use Rattle.std.proofs.lemmas.Bool.{and_parts, eqb-true, false≢true}
use Rattle.editor_model.specs.Editor.{Name, Live, same_name, numbered_name, find_from, first_numbered, free_name}
use Rattle.editor_model.proofs.NumberedNames.{same_name-same, same_name-sound, hits, hits_or, hits_none, hits_once, numbers_differ}
use Rattle.plain_machine.specs.State.{Process}
use Rattle.plain_machine.specs.Arguments.{find_process, process_name}
use Rattle.plain_machine.specs.Arguments as Processes
use Rattle.machine_laws.specs.Names.{BufferHas, ProcessHas, IsFirstFree, BufferNamesAreFirst, ProcessNamesAreFirst}
use Rattle.machine_laws.proofs.Basics.{or_right}

-- NUMBERS
-- the first number from n on that isn't taken, or the one behind all tries
abbrev first_of : (tries n : ℕ) → (ℕ → Bool) → ℕ
first_of zero n taken = n
first_of (suc tries) n taken = elim (taken n) [ true ↦ first_of tries (n + 1) taken | false ↦ n ]

record IsFirst (taken : ℕ → Bool) (n m : ℕ) : Type 0 where
  from_first : n ≤ m
  free : taken m ≡ false
  others : (k : ℕ) → n ≤ k → k < m → taken k ≡ true

hits_more : (count n : ℕ) (taken : ℕ → Bool) → taken n ≡ true → hits (suc count) n taken ≡ 1 + hits count (n + 1) taken
hits_more count n taken e = rw e refl

at_once : (n : ℕ) (taken : ℕ → Bool) → taken n ≡ false → IsFirst taken n n
at_once n taken e = record { from_first = omega arith; free = e; others = λ k l u. absurd (omega arith) }

-- where more are tried than are taken
first_is_first : (tries n : ℕ) (taken : ℕ → Bool) → hits (suc tries) n taken ≤ tries → IsFirst taken n (first_of tries n taken)
first_is_first zero n taken few = go (taken n) refl
  where
    go : (b : Bool) → taken n ≡ b → IsFirst taken n n
    go false e = at_once n taken e
    go true e = absurd (omega (arith, hits_more 0 n taken e))
first_is_first (suc tries) n taken few = go (taken n) refl (first_is_first tries (n + 1) taken)
  where
    go : (b : Bool) → taken n ≡ b → (hits (suc tries) (n + 1) taken ≤ tries → IsFirst taken (n + 1) (first_of tries (n + 1) taken)) → IsFirst taken n (elim b [ true ↦ first_of tries (n + 1) taken | false ↦ n ])
    go false e rest = at_once n taken e
    go true e rest =
        let next : IsFirst taken (n + 1) (first_of tries (n + 1) taken) = rest (omega (arith, hits_more (suc tries) n taken e)) in
        record { from_first = omega (arith, next.from_first); free = next.free; others = λ k l u. at next k l u (k == n) refl }
      where
        at : IsFirst taken (n + 1) (first_of tries (n + 1) taken) → (k : ℕ) → n ≤ k → k < first_of tries (n + 1) taken → (b : Bool) → (k == n) ≡ b → taken k ≡ true
        at next k l u true same = ap taken (eqb-true k n same) ∙ e
        at next k l u false other = let later : k ≢ n = λ same. let h : (k == n) ≡ true = grind arith in cc in next.others k (omega arith) u

-- NAMES TAKEN
abbrev is_among : List Name → Name → Bool
is_among [] name = false
is_among (x ∷ names) name = same_name x name || is_among names name

-- each name is one of the numbered names at most
few_among : (count n : ℕ) (names : List Name) (name : Name) → n + count ≤ 2 ^ 64 → hits count n (λ m. is_among names (numbered_name name m)) ≤ length names
few_among count n [] name fits = omega (arith, hits_none count n (λ m. false) (λ m l u. refl))
few_among count n (x ∷ names) name fits =
    let is_this : ℕ → Bool = λ m. same_name x (numbered_name name m) in
    let is_other : ℕ → Bool = λ m. is_among names (numbered_name name m) in
    let both : hits count n (λ m. is_this m || is_other m) ≤ hits count n is_this + hits count n is_other = hits_or count n is_this is_other in
    let once : hits count n is_this ≤ 1 = hits_once count n is_this (λ m k um uk a b. numbers_differ name m k (omega arith) (omega arith) (sym (same_name-sound x (numbered_name name m) a) ∙ same_name-sound x (numbered_name name k) b)) in
    let rest : hits count n is_other ≤ length names = few_among count n names name fits in
    omega arith

-- the first of the numbered names that isn't among some
abbrev first_other : (tries first : ℕ) → List Name → Name → Name
first_other tries first names name = numbered_name name (first_of tries first (λ m. is_among names (numbered_name name m)))

abbrev first_name : (tries first : ℕ) → List Name → Name → Name
first_name tries first names name = elim (is_among names name) [ true ↦ first_other tries first names name | false ↦ name ]

-- in the subject's words of what is taken
first_name_is_free : (taken : Name → Type 0) (tries first : ℕ) (names : List Name) (name : Name) → length names ≤ tries → first + tries < 2 ^ 64 → ((n : Name) → is_among names n ≡ true → taken n) → ((n : Name) → taken n → is_among names n ≡ true) → IsFirstFree taken first name (first_name tries first names name)
first_name_is_free taken tries first names name few fits is_taken is_there = go (is_among names name) refl
  where
    go : (b : Bool) → is_among names name ≡ b → IsFirstFree taken first name (elim b [ true ↦ first_other tries first names name | false ↦ name ])
    go false e = record { itself = λ free. refl; other = λ t. absurd (false≢true (sym e ∙ is_there name t)) }
    go true e =
        let found : IsFirst (λ m. is_among names (numbered_name name m)) first (first_of tries first (λ m. is_among names (numbered_name name m))) = first_is_first tries first (λ m. is_among names (numbered_name name m)) (omega (arith, few_among (suc tries) first names name (omega arith))) in
        record {
          itself = λ free. absurd (free (is_taken name e));
          other = λ t. record {
            number = first_of tries first (λ m. is_among names (numbered_name name m));
            from_first = found.from_first;
            numbered = refl;
            free = λ u. false≢true (sym found.free ∙ is_there (first_other tries first names name) u);
            others_taken = λ k l u. is_taken (numbered_name name k) (found.others k l u);
          };
        }

made_is_free : (taken : Name → Type 0) (first : ℕ) (name made : Name) → IsFirstFree taken first name made → taken made → ⊥
made_is_free taken first name made f t =
    let free : taken name → ⊥ = λ n. (f.other n).free t in
    free (subst taken (f.itself free) t)

-- BUFFERS
abbrev names_of : List (Option Live) → List Name
names_of [] = []
names_of (None ∷ buffers) = names_of buffers
names_of (Some l ∷ buffers) = l.name ∷ names_of buffers

few_names : (buffers : List (Option Live)) → length (names_of buffers) ≤ length buffers
few_names [] = omega arith
few_names (None ∷ buffers) = omega (arith, few_names buffers)
few_names (Some l ∷ buffers) = omega (arith, few_names buffers)

found_among : (id : ℕ) (buffers : List (Option Live)) (name : Name) → is_some (find_from id buffers name) ≡ is_among (names_of buffers) name
found_among id [] name = refl
found_among id (None ∷ buffers) name = found_among (id + 1) buffers name
found_among id (Some l ∷ buffers) name = go (same_name l.name name) (found_among (id + 1) buffers name)
  where
    go : (b : Bool) → is_some (find_from (id + 1) buffers name) ≡ is_among (names_of buffers) name → is_some (let o : Option ℕ = elim b [ true ↦ Some id | false ↦ find_from (id + 1) buffers name ] in o) ≡ (b || is_among (names_of buffers) name)
    go true rest = refl
    go false rest = rest

behind : (x : Option Live) (buffers : List (Option Live)) (name : Name) → BufferHas buffers name → BufferHas (x ∷ buffers) name
behind x buffers name h = record { id = suc h.id; buffer = h.buffer; lives = h.lives; named = h.named }

buffer_has : (buffers : List (Option Live)) (name : Name) → is_among (names_of buffers) name ≡ true → BufferHas buffers name
buffer_has [] name e = cc
buffer_has (None ∷ buffers) name e = behind None buffers name (buffer_has buffers name e)
buffer_has (Some l ∷ buffers) name e = go (same_name l.name name) refl (buffer_has buffers name) e
  where
    go : (b : Bool) → same_name l.name name ≡ b → (is_among (names_of buffers) name ≡ true → BufferHas buffers name) → (b || is_among (names_of buffers) name) ≡ true → BufferHas (Some l ∷ buffers) name
    go true same rest f = record { id = 0; buffer = l; lives = refl; named = same_name-sound l.name name same }
    go false other rest f = behind (Some l) buffers name (rest f)

buffer_among : (buffers : List (Option Live)) (name : Name) (id : ℕ) (l : Live) → slice_get buffers id ≡ Some (Some l) → l.name ≡ name → is_among (names_of buffers) name ≡ true
buffer_among [] name id l e named = cc
buffer_among (None ∷ buffers) name zero l e named = cc
buffer_among (None ∷ buffers) name (suc id) l e named = buffer_among buffers name id l e named
buffer_among (Some x ∷ buffers) name zero l e named =
    let same : x ≡ l = cc in
    let called : x.name ≡ name = ap (λ (y : Live). y.name) same ∙ named in
    let t : same_name x.name name ≡ true = subst (λ (n : Name). same_name x.name n ≡ true) called (same_name-same x.name) in
    rw t refl
buffer_among (Some x ∷ buffers) name (suc id) l e named = or_right (same_name x.name name) _ (buffer_among buffers name id l e named)

-- the loop of tries, and the whole
first_numbered_is : (tries n : ℕ) (buffers : List (Option Live)) (name : Name) → first_other tries n (names_of buffers) name ≡ first_numbered tries n buffers name
first_numbered_is zero n buffers name = refl
first_numbered_is (suc tries) n buffers name = go _ _ (found_among 0 buffers (numbered_name name n)) (first_numbered_is tries (n + 1) buffers name)
  where
    go : (o : Option ℕ) (b : Bool) → is_some o ≡ b → first_other tries (n + 1) (names_of buffers) name ≡ first_numbered tries (n + 1) buffers name →
        numbered_name name (elim b [ true ↦ first_of tries (n + 1) (λ m. is_among (names_of buffers) (numbered_name name m)) | false ↦ n ])
        ≡ (let made : Name = elim o [ None ↦ numbered_name name n | Some id ↦ first_numbered tries (n + 1) buffers name ] in made)
    go None true e rest = cc
    go None false e rest = refl
    go (Some id) true e rest = rest
    go (Some id) false e rest = cc

free_name_is : (buffers : List (Option Live)) (name : Name) → first_name (length buffers) 2 (names_of buffers) name ≡ free_name buffers name
free_name_is buffers name = go _ _ (found_among 0 buffers name)
  where
    go : (o : Option ℕ) (b : Bool) → is_some o ≡ b →
        (let x : Name = elim b [ true ↦ first_other (length buffers) 2 (names_of buffers) name | false ↦ name ] in x)
        ≡ (let y : Name = elim o [ None ↦ name | Some id ↦ first_numbered (length buffers) 2 buffers name ] in y)
    go None true e = cc
    go None false e = refl
    go (Some id) true e = first_numbered_is (length buffers) 2 buffers name
    go (Some id) false e = cc

pub buffer_names_are_first : BufferNamesAreFirst
buffer_names_are_first buffers name fits =
    subst (λ (made : Name). IsFirstFree (BufferHas buffers) 2 name made) (free_name_is buffers name)
    (first_name_is_free (BufferHas buffers) (length buffers) 2 (names_of buffers) name (few_names buffers) (omega arith) (buffer_has buffers) (λ n h. buffer_among buffers n h.id h.buffer h.lives h.named))

-- in the words of the search
pub name_is_free : (bs : List (Option Live)) (name : Name) → length bs ≤ 256 → find_from 0 bs (free_name bs name) ≡ None
name_is_free bs name few = go (find_from 0 bs (free_name bs name)) refl
  where
    go : (o : Option ℕ) → find_from 0 bs (free_name bs name) ≡ o → o ≡ None
    go None e = refl
    go (Some id) e =
        let has : BufferHas bs (free_name bs name) = buffer_has bs (free_name bs name) (sym (found_among 0 bs (free_name bs name)) ∙ ap (λ (o : Option ℕ). is_some o) e) in
        absurd (made_is_free (BufferHas bs) 2 name (free_name bs name) (buffer_names_are_first bs name (omega arith)) has)

-- a name that isn't found is the name of no live buffer
pub not_found : (k : ℕ) (bs : List (Option Live)) (name : Name) (i : ℕ) (l : Live) → find_from k bs name ≡ None → slice_get bs i ≡ Some (Some l) → l.name ≡ name → ⊥
not_found k bs name i l h e q = false≢true (sym (ap (λ (o : Option ℕ). is_some o) h) ∙ (found_among k bs name ∙ buffer_among bs name i l e q))

-- PROCESSES
abbrev with_listed : Bool → Name → List Name → List Name
with_listed true name names = name ∷ names
with_listed false name names = names

abbrev listed_names : List Process → List Name
listed_names [] = []
listed_names (x ∷ processes) = with_listed x.listed x.name (listed_names processes)

few_listed : (processes : List Process) → length (listed_names processes) ≤ length processes
few_listed [] = omega arith
few_listed (x ∷ processes) = go x.listed (few_listed processes)
  where
    go : (b : Bool) → length (listed_names processes) ≤ length processes → length (with_listed b x.name (listed_names processes)) ≤ length (x ∷ processes)
    go true rest = omega arith
    go false rest = omega arith

with_among : (listed : Bool) (own : Name) (names : List Name) (name : Name) → is_among (with_listed listed own names) name ≡ ((listed && same_name own name) || is_among names name)
with_among true own names name = refl
with_among false own names name = refl

process_found_among : (p : ℕ) (processes : List Process) (name : Name) → is_some (find_process p processes name) ≡ is_among (listed_names processes) name
process_found_among p [] name = refl
process_found_among p (x ∷ processes) name = go (x.listed && same_name x.name name) (process_found_among (p + 1) processes name) ∙ sym (with_among x.listed x.name (listed_names processes) name)
  where
    go : (b : Bool) → is_some (find_process (p + 1) processes name) ≡ is_among (listed_names processes) name → is_some (let o : Option ℕ = elim b [ true ↦ Some p | false ↦ find_process (p + 1) processes name ] in o) ≡ (b || is_among (listed_names processes) name)
    go true rest = refl
    go false rest = rest

process_has : (processes : List Process) (name : Name) → is_among (listed_names processes) name ≡ true → ProcessHas processes name
process_has [] name e = cc
process_has (x ∷ processes) name e = go _ refl (process_has processes name) (sym (with_among x.listed x.name (listed_names processes) name) ∙ e)
  where
    go : (b : Bool) → (x.listed && same_name x.name name) ≡ b → (is_among (listed_names processes) name ≡ true → ProcessHas processes name) → (b || is_among (listed_names processes) name) ≡ true → ProcessHas (x ∷ processes) name
    go true same rest f =
        let both : (x.listed ≡ true) × (same_name x.name name ≡ true) = and_parts _ _ same in
        record { number = 0; process = x; stands = refl; listed = both.0; named = same_name-sound x.name name both.1 }
    go false other rest f =
        let h : ProcessHas processes name = rest f in
        record { number = suc h.number; process = h.process; stands = h.stands; listed = h.listed; named = h.named }

process_among : (processes : List Process) (name : Name) (p : ℕ) (y : Process) → slice_get processes p ≡ Some y → y.listed ≡ true → y.name ≡ name → is_among (listed_names processes) name ≡ true
process_among [] name p y e listed named = cc
process_among (x ∷ processes) name zero y e listed named =
    let same : x ≡ y = cc in
    let called : x.name ≡ name = ap (λ (z : Process). z.name) same ∙ named in
    let here : x.listed ≡ true = ap (λ (z : Process). z.listed) same ∙ listed in
    let t : same_name x.name name ≡ true = subst (λ (n : Name). same_name x.name n ≡ true) called (same_name-same x.name) in
    with_among x.listed x.name (listed_names processes) name ∙ rw (here, t) refl
process_among (x ∷ processes) name (suc p) y e listed named =
    with_among x.listed x.name (listed_names processes) name ∙ or_right (x.listed && same_name x.name name) _ (process_among processes name p y e listed named)

-- the loop of tries, and the whole
first_process_is : (tries n : ℕ) (processes : List Process) (name : Name) → first_other tries n (listed_names processes) name ≡ Processes.free_name tries n processes name
first_process_is zero n processes name = refl
first_process_is (suc tries) n processes name = go _ _ (process_found_among 0 processes (numbered_name name n)) (first_process_is tries (n + 1) processes name)
  where
    go : (found b : Bool) → found ≡ b → first_other tries (n + 1) (listed_names processes) name ≡ Processes.free_name tries (n + 1) processes name →
        numbered_name name (elim b [ true ↦ first_of tries (n + 1) (λ m. is_among (listed_names processes) (numbered_name name m)) | false ↦ n ])
        ≡ (let made : Name = elim found [ true ↦ Processes.free_name tries (n + 1) processes name | false ↦ numbered_name name n ] in made)
    go true true e rest = rest
    go true false e rest = cc
    go false true e rest = cc
    go false false e rest = refl

process_name_is : (processes : List Process) (name : Name) → first_name (length processes) 1 (listed_names processes) name ≡ process_name processes name
process_name_is processes name = go _ _ (process_found_among 0 processes name)
  where
    go : (found b : Bool) → found ≡ b →
        (let x : Name = elim b [ true ↦ first_other (length processes) 1 (listed_names processes) name | false ↦ name ] in x)
        ≡ (let y : Name = elim found [ true ↦ Processes.free_name (length processes) 1 processes name | false ↦ name ] in y)
    go true true e = first_process_is (length processes) 1 processes name
    go true false e = cc
    go false true e = cc
    go false false e = refl

pub process_names_are_first : ProcessNamesAreFirst
process_names_are_first processes name fits =
    subst (λ (made : Name). IsFirstFree (ProcessHas processes) 1 name made) (process_name_is processes name)
    (first_name_is_free (ProcessHas processes) (length processes) 1 (listed_names processes) name (few_listed processes) (omega arith) (process_has processes) (λ n h. process_among processes n h.number h.process h.stands h.listed h.named))
