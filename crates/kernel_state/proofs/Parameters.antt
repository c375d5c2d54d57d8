-- Parameters of handlers: where one stands in a scope, how it is set, and the scopes of all handlers as a stack.
use Rattle.std.proofs.Common.{◌≡◌, ℕ, zero, suc, ◌+◌, ◌-◌, ◌<◌, Bool, true, false, List, [], ◌∷◌, ◌++◌, length, map, get_or, take, drop, reverse, refl, ap, sym, subst, ◌∙◌, cond, arith}
use Rattle.std.specs.Prelude.{◌==◌, slice_get, slice_set, Option, Some, None, MatchOption, option_to_list}
use Rattle.std.specs.List.{position, position_from}
use Rattle.std.proofs.lemmas.List.{map-append, reverse-append}
use Rattle.std.proofs.lemmas.List.Quantifiers.{position-Some}
use Rattle.std.proofs.lemmas.Iterator.Adapters.{position_from-zero}
use Rattle.editor_model.specs.Values.{Value as Meant, Nil}
use Rattle.editor_model.specs.Editor.{register, with_register}
use Rattle.editor_model.specs.Arguments.{arg}
use Rattle.plain_machine.specs.Handling.{bound_params}
use Rattle.ek_types.specs.Property.{number_of}
use Rattle.ek_types.specs.declared.symbol.Sym.{Sym}
use Rattle.ek_call.specs.Meaning.{view}
use Rattle.ek_call.specs.declared.value.Value.{Value}
use Rattle.buffer_table.specs.Kept.{registers_of}

-- ONE SCOPE
abbrev pub is_named : (n : ℕ) → Sym × Value → Bool
is_named n r = number_of r.0 == n

absent_from : (n k : ℕ) (rs : List (Sym × Value)) → position_from (is_named n) k rs ≡ None → register (registers_of rs) n ≡ None
absent_from n k [] none = refl
absent_from n k (r ∷ rs) none = go (number_of r.0 == n) (absent_from n (k + 1) rs) none
  where
    go : (t : Bool) → (position_from (is_named n) (k + 1) rs ≡ None → register (registers_of rs) n ≡ None) → cond t (Some k) (position_from (is_named n) (k + 1) rs) ≡ None → (let o : Option Meant = elim t [ true ↦ Some (view r.1) | false ↦ register (registers_of rs) n ] in o) ≡ None
    go true rest e = cc
    go false rest e = rest e

pub absent : (n : ℕ) (rs : List (Sym × Value)) → position (is_named n) rs ≡ None → register (registers_of rs) n ≡ None
absent n rs none = absent_from n 0 rs (sym (position_from-zero (is_named n) rs) ∙ none)

set_at : (s : Sym) (x : Value) (rs : List (Sym × Value)) (i : ℕ) → i < length rs → is_named (number_of s) (get_or rs i (s, x)) ≡ true → ((k : ℕ) → k < i → is_named (number_of s) (get_or rs k (s, x)) ≡ false)
    → registers_of (slice_set rs i (s, x)) ≡ with_register (number_of s) (view x) (registers_of rs)
set_at s x [] i within here before = absurd (omega arith)
set_at s x (r ∷ rs) zero within here before = rw (here, with_register) refl
set_at s x (r ∷ rs) (suc i) within here before =
    let first : (number_of r.0 == number_of s) ≡ false = before 0 (omega arith) in
    rw (first, with_register) (ap (λ rest. (number_of r.0, view r.1) ∷ rest) (set_at s x rs i (omega arith) here (λ k below. before (suc k) (omega arith))))

pub set_found : (s : Sym) (x : Value) (rs : List (Sym × Value)) (i : ℕ) → position (is_named (number_of s)) rs ≡ Some i → registers_of (slice_set rs i (s, x)) ≡ with_register (number_of s) (view x) (registers_of rs)
set_found s x rs i at = let d : Sym × Value = (s, x) in let p = position-Some (is_named (number_of s)) rs i d at in set_at s x rs i p.0 p.1 p.2

pub named_at : (params : List Sym) (i : ℕ) (d : Sym) → i < length params → slice_get (map number_of params) i ≡ Some (number_of (get_or params i d))
named_at [] i d below = absurd (omega arith)
named_at (p ∷ params) zero d below = refl
named_at (p ∷ params) (suc i) d below = named_at params i d (omega arith)

-- one parameter more
pub bound_more : (ps : List ℕ) (args : List Meant) (i p : ℕ) → slice_get ps i ≡ Some p → bound_params (take (suc i) ps) args ≡ bound_params (take i ps) args ++ (p, arg args i) ∷ []
bound_more [] args i p at = cc
bound_more (q ∷ ps) [] zero p at = cc
bound_more (q ∷ ps) (v ∷ args) zero p at = cc
bound_more (q ∷ ps) [] (suc i) p at = ap (λ rest. (q, Nil) ∷ rest) (bound_more ps [] i p at)
bound_more (q ∷ ps) (v ∷ args) (suc i) p at = ap (λ rest. (q, v) ∷ rest) (bound_more ps args i p at)

-- THE STACK
-- a list with its last item, which can be read and set
pub record Split {A : Type 0} (xs : List A) (end : ℕ) : Type 0 where
  pub front : List A
  pub last : A
  pub is : xs ≡ front ++ last ∷ []
  pub at : (d : A) → get_or xs end d ≡ last
  pub set : (y : A) → slice_set xs end y ≡ front ++ y ∷ []

split_cons : {A : Type 0} (x : A) (xs : List A) → Split (x ∷ xs) (length xs)
split_cons x [] = record { front = []; last = x; is = refl; at = λ d. refl; set = λ y. refl }
split_cons x (y ∷ ys) = let s : Split (y ∷ ys) (length ys) = split_cons y ys in record { front = x ∷ s.front; last = s.last; is = ap (λ l. x ∷ l) s.is; at = λ d. s.at d; set = λ z. ap (λ l. x ∷ l) (s.set z) }

pub split : {A : Type 0} (xs : List A) → 0 < length xs → Split xs (length xs - 1)
split [] some = absurd (omega arith)
split (x ∷ xs) some = let e : length xs ≡ length (x ∷ xs) - 1 = omega arith in subst (λ n. Split (x ∷ xs) n) e (split_cons x xs)

pub pushed : {A B : Type 0} (f : A → B) (xs : List A) (x : A) → reverse (map f (xs ++ x ∷ [])) ≡ f x ∷ reverse (map f xs)
pushed f xs x = ap reverse (map-append f xs (x ∷ [])) ∙ reverse-append (map f xs) (f x ∷ [])

empty : {A : Type 0} (xs : List A) → length xs ≡ 0 → xs ≡ []
empty [] none = refl
empty (x ∷ xs) none = absurd (omega arith)

pub popped : {A B : Type 0} (f : A → B) (old new : List A) (r : Option A) → old ≡ new ++ option_to_list r → MatchOption r ((length old ≡ 0) × (length new ≡ 0)) (λ _. length new + 1 ≡ length old) → reverse (map f new) ≡ drop 1 (reverse (map f old))
popped f old new None e none = ap (λ xs. reverse (map f xs)) (empty new none.1) ∙ sym (ap (λ xs. drop 1 (reverse (map f xs))) (empty old none.0))
popped f old new (Some x) e some = sym (ap (λ xs. drop 1 (reverse (map f xs))) e ∙ ap (drop 1) (pushed f new x))

-- what stands on top, and what is under it
topmost : {A B : Type 0} (f : A → B) (xs : List A) (x : A) → 0 < length xs → x ≡ get_or xs (length xs - 1) x → reverse (map f xs) ≡ f x ∷ drop 1 (reverse (map f xs))
topmost f xs x some at =
    let s : Split xs (length xs - 1) = split xs some in
    let e : reverse (map f xs) ≡ f s.last ∷ reverse (map f s.front) = ap (λ ys. reverse (map f ys)) s.is ∙ pushed f s.front s.last in
    e ∙ ap (λ y. f y ∷ reverse (map f s.front)) (sym (at ∙ s.at x)) ∙ ap (λ ys. f x ∷ ys) (sym (ap (drop 1) e))

top_set : {A B : Type 0} (f : A → B) (xs : List A) (y : A) → 0 < length xs → reverse (map f (slice_set xs (length xs - 1) y)) ≡ f y ∷ drop 1 (reverse (map f xs))
top_set f xs y some =
    let s : Split xs (length xs - 1) = split xs some in
    ap (λ ys. reverse (map f ys)) (s.set y) ∙ pushed f s.front y ∙ ap (λ ys. f y ∷ ys) (sym (ap (λ ys. drop 1 (reverse (map f ys))) s.is ∙ ap (drop 1) (pushed f s.front s.last)))

pub topmost_of : {A B : Type 0} (f : A → B) (xs : List A) (x : A) (n : ℕ) → n ≡ length xs → 0 < n → x ≡ get_or xs (n - 1) x → reverse (map f xs) ≡ f x ∷ drop 1 (reverse (map f xs))
topmost_of f xs x n e some at = topmost f xs x (subst (λ k. 0 < k) e some) (subst (λ k. x ≡ get_or xs (k - 1) x) e at)

pub top_set_of : {A B : Type 0} (f : A → B) (xs : List A) (y : A) (n : ℕ) → n ≡ length xs → 0 < n → reverse (map f (slice_set xs (n - 1) y)) ≡ f y ∷ drop 1 (reverse (map f xs))
top_set_of f xs y n e some = ap (λ k. reverse (map f (slice_set xs (k - 1) y))) e ∙ top_set f xs y (subst (λ k. 0 < k) e some)
