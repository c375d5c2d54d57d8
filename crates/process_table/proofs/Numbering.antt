-- Among one more numbered names than there are processes one is free.
use Rattle.std.proofs.Common.{◌≡◌, ◌≢◌, ℕ, zero, suc, ◌+◌, ◌-◌, ◌^◌, ◌<◌, ◌≤◌, Bool, true, false, List, [], ◌∷◌, length, refl, ap, sym, ◌∙◌, arith}
use Rattle.std.specs.Prelude.{◌==◌, ◌&&◌, ◌||◌, Option, Some, None, is_some, Result, Ok, Err, IfOk}
use Rattle.ek_types.specs.Listing.{Roomy}
use Rattle.std.proofs.lemmas.Bool.{and_parts, eqb-true}
use Rattle.text_model.specs.Characters.{Ch}
use Rattle.editor_model.specs.Editor.{Name, same_name, numbered_name}
use Rattle.editor_model.proofs.NumberedNames.{same_name-sound, hits, hits_or, hits_none, hits_all, hits_once, hits_same, numbers_differ}
use Rattle.plain_machine.specs.State.{Process}
use Rattle.plain_machine.specs.Arguments.{find_process, free_name}
use Rattle.process_table.proofs.Finding.{chosen}

-- NUMBERED NAMES
has_number : Process → Name → ℕ → Bool
has_number x name m = x.listed && same_name x.name (numbered_name name m)

one_number : (x : Process) (name : Name) (m k : ℕ) → m < 2 ^ 64 → k < 2 ^ 64 → has_number x name m ≡ true → has_number x name k ≡ true → m ≡ k
unfolding has_number
one_number x name m k fits_m fits_k a b =
    let first : (x.listed ≡ true) × (same_name x.name (numbered_name name m) ≡ true) = and_parts _ _ a in
    let second : (x.listed ≡ true) × (same_name x.name (numbered_name name k) ≡ true) = and_parts _ _ b in
    numbers_differ name m k fits_m fits_k (sym (same_name-sound x.name (numbered_name name m) first.1) ∙ same_name-sound x.name (numbered_name name k) second.1)

is_found : ℕ → List Process → Name → ℕ → Bool
is_found k table name m = is_some (find_process k table (numbered_name name m))

found_at_head : (k : ℕ) (x : Process) (xs : List Process) (name : Name) (m : ℕ) → is_found k (x ∷ xs) name m ≡ (has_number x name m || is_found (k + 1) xs name m)
unfolding is_found has_number
found_at_head k x xs name m = go (x.listed && same_name x.name (numbered_name name m))
  where
    go : (b : Bool) → is_some (chosen b k (find_process (k + 1) xs (numbered_name name m))) ≡ (b || is_some (find_process (k + 1) xs (numbered_name name m)))
    go true = refl
    go false = refl

-- each process has one of the numbered names at most
few_found : (k count n : ℕ) (table : List Process) (name : Name) → n + count < 2 ^ 64 → hits count n (is_found k table name) ≤ length table
unfolding is_found
few_found k count n [] name fits = omega (arith, hits_none count n (is_found k [] name) (λ m l u. refl))
few_found k count n (x ∷ xs) name fits =
    let split : hits count n (is_found k (x ∷ xs) name) ≡ hits count n (λ m. has_number x name m || is_found (k + 1) xs name m) = hits_same count n (is_found k (x ∷ xs) name) (λ m. has_number x name m || is_found (k + 1) xs name m) (found_at_head k x xs name) in
    let both : hits count n (λ m. has_number x name m || is_found (k + 1) xs name m) ≤ hits count n (has_number x name) + hits count n (is_found (k + 1) xs name) = hits_or count n (has_number x name) (is_found (k + 1) xs name) in
    let once : hits count n (has_number x name) ≤ 1 = hits_once count n (has_number x name) (λ m j um uj a b. one_number x name m j (omega arith) (omega arith) a b) in
    let rest : hits count n (is_found (k + 1) xs name) ≤ length xs = few_found (k + 1) count n xs name fits in
    omega arith

-- where the name that is answered isn't free, none of those tried is
all_found : (tries n : ℕ) (table : List Process) (name : Name) → is_some (find_process 0 table (free_name tries n table name)) ≡ true → (m : ℕ) → n ≤ m → m < n + (tries + 1) → is_some (find_process 0 table (numbered_name name m)) ≡ true
all_found zero n table name e m l u = let same : m ≡ n = omega arith in ap (λ j. is_some (find_process 0 table (numbered_name name j))) same ∙ e
all_found (suc tries) n table name e m l u = go (is_some (find_process 0 table (numbered_name name n))) refl e (all_found tries (n + 1) table name)
  where
    choice : Bool → Name
    choice b = elim b [ true ↦ free_name tries (n + 1) table name | false ↦ numbered_name name n ]

    go : (b : Bool) → is_some (find_process 0 table (numbered_name name n)) ≡ b → is_some (find_process 0 table (elim b [ true ↦ free_name tries (n + 1) table name | false ↦ numbered_name name n ])) ≡ true → (is_some (find_process 0 table (free_name tries (n + 1) table name)) ≡ true → (m : ℕ) → n + 1 ≤ m → m < n + 1 + (tries + 1) → is_some (find_process 0 table (numbered_name name m)) ≡ true) → is_some (find_process 0 table (numbered_name name m)) ≡ true
    go false here e rest = let clash : true ≡ false = sym e ∙ here in cc
    go true here e rest = at (m == n) refl
      where
        at : (b : Bool) → (m == n) ≡ b → is_some (find_process 0 table (numbered_name name m)) ≡ true
        at true same = ap (λ j. is_some (find_process 0 table (numbered_name name j))) (eqb-true m n same) ∙ here
        at false other = let later : m ≢ n = λ same. let h : (m == n) ≡ true = grind arith in cc in rest e m (omega arith) (omega arith)

pub first_is_free : (table : List Process) (name : Name) → length table ≤ 256 → find_process 0 table (free_name (length table) 1 table name) ≡ None
unfolding is_found
first_is_free table name few = go (find_process 0 table (free_name (length table) 1 table name)) refl
  where
    go : (o : Option ℕ) → find_process 0 table (free_name (length table) 1 table name) ≡ o → o ≡ None
    go None e = refl
    go (Some r) e =
        let all : hits (length table + 1) 1 (is_found 0 table name) ≡ length table + 1 = hits_all (length table + 1) 1 (is_found 0 table name) (λ m l u. all_found (length table) 1 table name (ap is_some e) m l u) in
        let most : hits (length table + 1) 1 (is_found 0 table name) ≤ length table = few_found 0 (length table + 1) 1 table name (omega arith) in
        absurd (omega arith)

-- STEP BY STEP
pub tried : (tries n : ℕ) (table : List Process) (name : Name) → tries ≢ 0 → is_some (find_process 0 table (numbered_name name n)) ≡ true → free_name tries n table name ≡ free_name (tries - 1) (n + 1) table name
tried zero n table name some e = absurd (some refl)
tried (suc tries) n table name some e =
    let less : suc tries - 1 ≡ tries = omega arith in
    ap (λ (b : Bool). let k : Name = elim b [ true ↦ free_name tries (n + 1) table name | false ↦ numbered_name name n ] in k) e ∙ ap (λ t. free_name t (n + 1) table name) (sym less)

-- the one behind all that were tried
pub last_is_free : {E : Type 0} (table : List Process) (name : Name) (n count : ℕ) (result : Result (Roomy Ch) E) → IfOk result (λ c. c.items ≡ numbered_name name n) → free_name (length table) 1 table name ≡ free_name (length table + 1 - count) count table name → n ≡ count → count ≡ length table + 1 → length table ≤ 256 → IfOk result (λ c. find_process 0 table c.items ≡ None)
last_is_free table name n count (Err e) named same is_count is_last few = tt
last_is_free table name n count (Ok c) named same is_count is_last few =
    let none_left : length table + 1 - count ≡ 0 = omega arith in
    ap (find_process 0 table) (named ∙ ap (numbered_name name) is_count ∙ sym (same ∙ ap (λ t. free_name t count table name) none_left)) ∙ first_is_free table name few
