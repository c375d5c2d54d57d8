-- What a change of one buffer's lists makes of all of them.
use Rattle.std.proofs.Common.{◌≡◌, ℕ, ◌<◌, ◌≤◌, Bool, true, false, List, [], ◌∷◌, ◌++◌, length, map, filter, get_or, refl, ap, sym, ◌∙◌, subst, arith}
use Rattle.std.specs.Prelude.{slice_set, Some}
use Rattle.std.specs.List.{position}
use Rattle.std.proofs.lemmas.List.{length-map, get_or-map, map-set, map-append}
use Rattle.editor_model.specs.Limits.{most_buffers}
use Rattle.plain_machine.specs.State.{HookLists, no_hooks, hooks_of, with_hooks}
use Rattle.plain_machine.specs.Hooks.{most_hooks, hook_list, with_hook_list}
use Rattle.change_hooks.specs.Hooked.{Hooked, hook, with_list}
use Rattle.change_hooks.specs.Lists.{lists_of, entry_of, is_of, AreKept}
use Rattle.change_hooks.specs.declared.lists.BufferHooks.{BufferHooks}
use Rattle.change_hooks.proofs.Names.{length-filter-le}
use Rattle.change_hooks.proofs.Buffers.{hooks_with, with_with, found, set_found, within_found, kept_with, short}

abbrev pub kept_as : List (ℕ × HookLists) → Bool → Hooked
kept_as lists on = record { lists = lists; inhibited = on }

-- READING
pub entry_found : (items : List BufferHooks) (hs : List (ℕ × HookLists)) (b i : ℕ) (x : BufferHooks) → map entry_of items ≡ hs → position (is_of b) hs ≡ Some i → x ≡ get_or items i x → entry_of x ≡ (b, hooks_of hs b)
entry_found items hs b i x seen at read =
    let within : i < length items = omega (arith, within_found b hs i at, ap length seen, length-map items entry_of) in
    ap entry_of read ∙ sym (get_or-map entry_of items i x (entry_of x) within) ∙ ap (λ l. get_or l i (entry_of x)) seen ∙ found b hs i (entry_of x) at

-- WRITING
pub entry_set : (items : List BufferHooks) (hs : List (ℕ × HookLists)) (b i : ℕ) (x y : BufferHooks) (l : HookLists) → map entry_of items ≡ hs → position (is_of b) hs ≡ Some i → x ≡ get_or items i x → entry_of y ≡ (x.buffer, l) → map entry_of (slice_set items i y) ≡ with_hooks b l hs
entry_set items hs b i x y l seen at read is =
    map-set entry_of items i y
    ∙ ap (slice_set (map entry_of items) i) (is ∙ ap (λ (p : ℕ × HookLists). (p.0, l)) (entry_found items hs b i x seen at read))
    ∙ ap (λ all. slice_set all i (b, l)) seen
    ∙ set_found b l hs i at

pub entry_pushed : (items more : List BufferHooks) (b : ℕ) (x : BufferHooks) → more ≡ items ++ x ∷ [] → entry_of x ≡ (b, no_hooks) → map entry_of more ≡ map entry_of items ++ (b, no_hooks) ∷ []
entry_pushed items more b x pushed is = ap (map entry_of) pushed ∙ map-append entry_of items (x ∷ []) ∙ ap (λ p. map entry_of items ++ p ∷ []) is

-- the lists of a buffer whose place was found or made
pub lists_there : (items : List BufferHooks) (x : BufferHooks) (old : Hooked) (b i : ℕ) → map entry_of items ≡ with_hooks b (hooks_of old.lists b) old.lists → position (is_of b) (with_hooks b (hooks_of old.lists b) old.lists) ≡ Some i → x ≡ get_or items i x → lists_of x ≡ hooks_of old.lists b
lists_there items x old b i seen at read =
    ap (λ (p : ℕ × HookLists). p.1) (entry_found items (with_hooks b (hooks_of old.lists b) old.lists) b i x seen at read)
    ∙ hooks_with b (hooks_of old.lists b) old.lists

pub changed : (items : List BufferHooks) (x y : BufferHooks) (old : Hooked) (on : Bool) (b i : ℕ) (before : Bool) (names : List ℕ) → map entry_of items ≡ with_hooks b (hooks_of old.lists b) old.lists → on ≡ old.inhibited → position (is_of b) (with_hooks b (hooks_of old.lists b) old.lists) ≡ Some i → x ≡ get_or items i x →
    entry_of y ≡ (x.buffer, with_hook_list (hook before) names (lists_of x)) → kept_as (map entry_of (slice_set items i y)) on ≡ with_list b before names old
changed items x y old on b i before names seen flag at read is =
    let all : map entry_of (slice_set items i y) ≡ with_hooks b (with_hook_list (hook before) names (lists_of x)) (with_hooks b (hooks_of old.lists b) old.lists) = entry_set items (with_hooks b (hooks_of old.lists b) old.lists) b i x y (with_hook_list (hook before) names (lists_of x)) seen at read is in
    let once : with_hooks b (with_hook_list (hook before) names (lists_of x)) (with_hooks b (hooks_of old.lists b) old.lists) ≡ with_hooks b (with_hook_list (hook before) names (lists_of x)) old.lists = with_with b (with_hook_list (hook before) names (lists_of x)) (hooks_of old.lists b) old.lists in
    let there : with_hooks b (with_hook_list (hook before) names (lists_of x)) old.lists ≡ with_hooks b (with_hook_list (hook before) names (hooks_of old.lists b)) old.lists = ap (λ l. with_hooks b (with_hook_list (hook before) names l) old.lists) (lists_there items x old b i seen at read) in
    ap (λ l. kept_as l on) (all ∙ once ∙ there) ∙ ap (kept_as (with_hooks b (with_hook_list (hook before) names (hooks_of old.lists b)) old.lists)) flag

-- THE INVARIANT
short_before : (before : Bool) (names : List ℕ) (l : HookLists) → length names ≤ most_hooks → length l.before ≤ most_hooks → length (with_hook_list (hook before) names l).before ≤ most_hooks
short_before true names l n h = n
short_before false names l n h = h

short_after : (before : Bool) (names : List ℕ) (l : HookLists) → length names ≤ most_hooks → length l.after ≤ most_hooks → length (with_hook_list (hook before) names l).after ≤ most_hooks
short_after true names l n h = h
short_after false names l n h = n

pub short_list : (before : Bool) (l : HookLists) → length l.before ≤ most_hooks → length l.after ≤ most_hooks → length (hook_list (hook before) l) ≤ most_hooks
short_list true l b a = b
short_list false l b a = a

pub kept_changed : (items : List BufferHooks) (x y : BufferHooks) (b i : ℕ) (before : Bool) (names : List ℕ) → b < most_buffers → length names ≤ most_hooks → AreKept (map entry_of items) → position (is_of b) (map entry_of items) ≡ Some i → x ≡ get_or items i x →
    entry_of y ≡ (x.buffer, with_hook_list (hook before) names (lists_of x)) → AreKept (map entry_of (slice_set items i y))
kept_changed items x y b i before names made few kept at read is =
    let there : lists_of x ≡ hooks_of (map entry_of items) b = ap (λ (p : ℕ × HookLists). p.1) (entry_found items (map entry_of items) b i x refl at read) in
    let s = short b (map entry_of items) kept in
    let s0 : length (lists_of x).before ≤ most_hooks = subst (λ (l : HookLists). length l.before ≤ most_hooks) (sym there) s.0 in
    let s1 : length (lists_of x).after ≤ most_hooks = subst (λ (l : HookLists). length l.after ≤ most_hooks) (sym there) s.1 in
    let e : map entry_of (slice_set items i y) ≡ with_hooks b (with_hook_list (hook before) names (lists_of x)) (map entry_of items) = entry_set items (map entry_of items) b i x y (with_hook_list (hook before) names (lists_of x)) refl at read is in
    subst AreKept (sym e) (kept_with b (with_hook_list (hook before) names (lists_of x)) (map entry_of items) made (short_before before names (lists_of x) few s0) (short_after before names (lists_of x) few s1) kept)

-- a list that is filtered is no longer
pub short_filtered : (items : List BufferHooks) (x : BufferHooks) (b i : ℕ) (before : Bool) (test : ℕ → Bool) → AreKept (map entry_of items) → position (is_of b) (map entry_of items) ≡ Some i → x ≡ get_or items i x → length (filter test (hook_list (hook before) (lists_of x))) ≤ most_hooks
short_filtered items x b i before test kept at read =
    let there : lists_of x ≡ hooks_of (map entry_of items) b = ap (λ (p : ℕ × HookLists). p.1) (entry_found items (map entry_of items) b i x refl at read) in
    let s = short b (map entry_of items) kept in
    let here : length (hook_list (hook before) (lists_of x)) ≤ most_hooks = subst (λ (l : HookLists). length (hook_list (hook before) l) ≤ most_hooks) (sym there) (short_list before (hooks_of (map entry_of items) b) s.0 s.1) in
    omega (arith, here, length-filter-le test (hook_list (hook before) (lists_of x)))

pub empty_list : (before : Bool) → [] ≡ hook_list (hook before) no_hooks
empty_list true = refl
empty_list false = refl
