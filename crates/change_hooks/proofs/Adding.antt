-- A name that is added to a list, and the others that stand there.
use Rattle.std.proofs.Common.{◌≡◌, ◌<◌, ◌≤◌, ◌↔◌, ℕ, Bool, true, false, not, ◌==◌, ◌||◌, List, [], ◌∷◌, length, filter, refl, ap, sym, ◌∙◌, cond, nat_le, arith}
use Rattle.std.specs.Prelude.{if◌then◌else◌}
use Rattle.std.specs.List.{list_any}
use Rattle.std.proofs.lemmas.Bool.{or_parts, le-leb, lt-leb}
use Rattle.plain_machine.specs.State.{HookLists, no_hooks, hooks_of, with_hooks}
use Rattle.plain_machine.specs.Hooks.{most_hooks, hook_list, with_hook_list}
use Rattle.change_hooks.specs.Hooked.{Hooked, hook, with_list}
use Rattle.change_hooks.specs.Lists.{is_of}
use Rattle.change_hooks.proofs.Names.{length-filter-le}
use Rattle.change_hooks.proofs.Buffers.{same_there, hooks_absent}

abbrev is_in : ℕ → List ℕ → Bool
is_in n here = list_any (λ m. m == n) here

abbrev others : ℕ → List ℕ → List ℕ
others n here = filter (λ m. not (m == n)) here

abbrev added : ℕ → List ℕ → List ℕ
added n here = if is_in n here then here else n ∷ here

-- THE OTHERS
fewer_others : (n : ℕ) (here : List ℕ) → is_in n here ≡ true → length (others n here) < length here
fewer_others n [] there = cc
fewer_others n (m ∷ here) there = go (m == n) (length-filter-le (λ k. not (k == n)) here) (fewer_others n here) there
  where
    go : (t : Bool) → length (others n here) ≤ length here → (is_in n here ≡ true → length (others n here) < length here) → (t || is_in n here) ≡ true → length (cond (not t) (m ∷ others n here) (others n here)) < length (m ∷ here)
    go true fewer rest later = omega arith
    go false fewer rest later = let h = rest later in omega (arith, h)

all_others : (n : ℕ) (here : List ℕ) → is_in n here ≡ false → length (others n here) ≡ length here
all_others n [] absent = refl
all_others n (m ∷ here) absent = let p = or_parts (m == n) (is_in n here) absent in go (m == n) p.0 (all_others n here p.1)
  where
    go : (t : Bool) → t ≡ false → length (others n here) ≡ length here → length (cond (not t) (m ∷ others n here) (others n here)) ≡ length (m ∷ here)
    go true e rest = cc
    go false e rest = omega (arith, rest)

-- A NAME THAT STANDS THERE
pub there_fits : (n : ℕ) (here : List ℕ) → is_in n here ≡ true → length here ≤ most_hooks → true ≡ nat_le (length (added n here)) most_hooks
there_fits n here there few = go (is_in n here) there
  where
    go : (t : Bool) → t ≡ true → true ≡ nat_le (length (if t then here else n ∷ here)) most_hooks
    go true e = sym (le-leb (length here) most_hooks few)
    go false e = cc

pub there_others : (n : ℕ) (here : List ℕ) → is_in n here ≡ true → length here ≤ most_hooks → (true ≡ false) ↔ (length (others n here) ≡ most_hooks)
there_others n here there few = let less = fewer_others n here there in ((λ e. cc), (λ e. absurd (omega (arith, less, e, few))))

list_itself : (before : Bool) (l : HookLists) → with_hook_list (hook before) (hook_list (hook before) l) l ≡ l
list_itself true l = refl
list_itself false l = refl

none_empty : (before : Bool) (n : ℕ) → is_in n (hook_list (hook before) no_hooks) ≡ false
none_empty true n = refl
none_empty false n = refl

there_has_lists : (b n : ℕ) (before : Bool) (hs : List (ℕ × HookLists)) → is_in n (hook_list (hook before) (hooks_of hs b)) ≡ true → list_any (is_of b) hs ≡ true
there_has_lists b n before hs there = go (list_any (is_of b) hs) refl
  where
    go : (t : Bool) → list_any (is_of b) hs ≡ t → t ≡ true
    go true e = refl
    go false e =
        let none : is_in n (hook_list (hook before) (hooks_of hs b)) ≡ false = ap (λ (l : HookLists). is_in n (hook_list (hook before) l)) (hooks_absent b hs e) ∙ none_empty before n in
        cc

pub there_same : (b n : ℕ) (before : Bool) (old : Hooked) → is_in n (hook_list (hook before) (hooks_of old.lists b)) ≡ true → old ≡ with_list b before (added n (hook_list (hook before) (hooks_of old.lists b))) old
there_same b n before old there =
    let same : with_hooks b (with_hook_list (hook before) (added n (hook_list (hook before) (hooks_of old.lists b))) (hooks_of old.lists b)) old.lists ≡ old.lists =
    ap (λ t. with_hooks b (with_hook_list (hook before) (if t then hook_list (hook before) (hooks_of old.lists b) else n ∷ hook_list (hook before) (hooks_of old.lists b)) (hooks_of old.lists b)) old.lists) there
    ∙ ap (λ l. with_hooks b l old.lists) (list_itself before (hooks_of old.lists b))
    ∙ same_there b old.lists (there_has_lists b n before old.lists there) in
    ap (λ l. let h : Hooked = record { lists = l; inhibited = old.inhibited } in h) (sym same)

-- A NAME THAT DOESN'T
pub full_fits : (n : ℕ) (here : List ℕ) → is_in n here ≡ false → most_hooks ≤ length here → false ≡ nat_le (length (added n here)) most_hooks
full_fits n here absent many = go (is_in n here) absent
  where
    go : (t : Bool) → t ≡ false → false ≡ nat_le (length (if t then here else n ∷ here)) most_hooks
    go true e = cc
    go false e = sym (lt-leb (length (n ∷ here)) most_hooks (omega arith))

pub free_added : (n : ℕ) (here : List ℕ) → is_in n here ≡ false → n ∷ here ≡ added n here
free_added n here absent = ap (λ t. if t then here else n ∷ here) (sym absent)

pub full_others : (n : ℕ) (here : List ℕ) → is_in n here ≡ false → length here ≤ most_hooks → most_hooks ≤ length here → (false ≡ false) ↔ (length (others n here) ≡ most_hooks)
full_others n here absent few many = let all = all_others n here absent in ((λ e. omega (arith, all, few, many)), (λ e. refl))

pub free_others : (n : ℕ) (here : List ℕ) → is_in n here ≡ false → length here < most_hooks → (true ≡ false) ↔ (length (others n here) ≡ most_hooks)
free_others n here absent room = let all = all_others n here absent in ((λ e. cc), (λ e. absurd (omega (arith, all, room, e))))
