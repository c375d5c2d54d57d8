-- The values of arguments, one after another.
use Rattle.std.proofs.Common.{◌≡◌, ℕ, ◌+◌, ◌≤◌, Bool, List, [], ◌∷◌, ◌++◌, map, length, drop, slice_get, refl, ap, sym, ◌∙◌, append-nil, append_assoc}
use Rattle.std.specs.Prelude.{Option, Some, None, option_map}
use Rattle.std.proofs.lemmas.List.{drop_all}
use Rattle.text_model.proofs.Lists.{drop_at}
use Rattle.editor_model.specs.Values.{Value, Arg, Const, Name, equal}
use Rattle.plain_machine.specs.State.{State}
use Rattle.plain_machine.specs.Forms.{value_of, evaluate}
use Rattle.kernel_steps.specs.Arguments.{value_of_arg, equal_if, test_of}
use Rattle.kernel_steps.specs.Worlds.{kept_state, Stands}

abbrev joined : Option Value → Option (List Value) → Option (List Value)
joined x o = elim x [ None ↦ None | Some v ↦ (elim o [ Some vs ↦ Some (v ∷ vs) | None ↦ None ]) ]

-- values in front of others
abbrev pub prefixed : List Value → Option (List Value) → Option (List Value)
prefixed front o = elim o [ Some vs ↦ Some (front ++ vs) | None ↦ None ]

next : (s : State) (a : Arg) (args : List Arg) → evaluate s (a ∷ args) ≡ joined (value_of_arg s a) (evaluate s args)
next s (Const v) args = refl
next s (Name n) args = refl

front_more : (front : List Value) (v : Value) (o : Option (List Value)) → prefixed front (joined (Some v) o) ≡ prefixed (front ++ v ∷ []) o
front_more front v (Some vs) = ap Some (sym (append_assoc front (v ∷ []) vs))
front_more front v None = refl

module _ (s : State) (all : List Arg) (i : ℕ) (a : Arg) (front : List Value) (at : slice_get all i ≡ Some a) (so_far : evaluate s all ≡ prefixed front (evaluate s (drop i all))) where
  here : (x : Option Value) → value_of_arg s a ≡ x → evaluate s all ≡ prefixed front (joined x (evaluate s (drop (i + 1) all)))
  here x e = so_far ∙ ap (λ l. prefixed front (evaluate s l)) (drop_at all i a at) ∙ ap (prefixed front) (next s a (drop (i + 1) all)) ∙ ap (λ y. prefixed front (joined y (evaluate s (drop (i + 1) all)))) e

  pub one_more : (v : Value) → value_of_arg s a ≡ Some v → evaluate s all ≡ prefixed (front ++ v ∷ []) (evaluate s (drop (i + 1) all))
  one_more v e = here (Some v) e ∙ front_more front v (evaluate s (drop (i + 1) all))

  pub none_there : value_of_arg s a ≡ None → evaluate s all ≡ None
  none_there e = here None e

pub all_there : (s : State) (all : List Arg) (i : ℕ) (front : List Value) → evaluate s all ≡ prefixed front (evaluate s (drop i all)) → length all ≤ i → evaluate s all ≡ Some front
all_there s all i front so_far past = so_far ∙ ap (λ l. prefixed front (evaluate s l)) (drop_all i all past) ∙ ap Some (append-nil front)

pub map_more : {A B : Type 0} (f : A → B) (xs : List A) (x : A) → map f (xs ++ x ∷ []) ≡ map f xs ++ f x ∷ []
map_more f [] x = refl
map_more f (y ∷ xs) x = ap (λ l. f y ∷ l) (map_more f xs x)

-- an option that is some, by what is seen of it
pub some_of : {A B : Type 0} (f : A → B) (o : Option A) (v : A) (x : Option B) → o ≡ Some v → option_map f o ≡ x → x ≡ Some (f v)
some_of f o v x e h = sym h ∙ ap (option_map f) e

-- WHAT THE KERNEL KNOWS
pub evaluate_kept : (s : State) (args : List Arg) → evaluate (kept_state s) args ≡ evaluate s args
evaluate_kept s [] = refl
evaluate_kept s (Const v ∷ args) = ap (λ o. joined (Some v) o) (evaluate_kept s args)
evaluate_kept s (Name n ∷ args) = ap (λ o. joined (value_of s n) o) (evaluate_kept s args)

pub evaluates_alike : (known s : State) (args : List Arg) → Stands known s → evaluate known args ≡ evaluate s args
evaluates_alike known s args stands = ap (λ t. evaluate t args) stands ∙ evaluate_kept s args

-- whether two arguments are equal, by their values
both : (s : State) (a b : Arg) → evaluate s (a ∷ b ∷ []) ≡ joined (value_of_arg s a) (joined (value_of_arg s b) (Some []))
both s a b = next s a (b ∷ []) ∙ ap (joined (value_of_arg s a)) (next s b [])

pub record AreBoth (s : State) (a b : Arg) (e : Bool) : Type 0 where
  pub x : Value
  pub y : Value
  pub values : evaluate s (a ∷ b ∷ []) ≡ Some (x ∷ y ∷ [])
  pub same : equal x y ≡ e

pub are_both : (s : State) (a b : Arg) (e : Bool) → test_of s a b ≡ Some e → AreBoth s a b e
are_both s a b e h = by (value_of_arg s a) (value_of_arg s b) h (both s a b)
  where
    by : (x y : Option Value) → equal_if x y ≡ Some e → evaluate s (a ∷ b ∷ []) ≡ joined x (joined y (Some [])) → AreBoth s a b e
    by (Some x) (Some y) h k = record { x = x; y = y; values = k; same = let r : equal x y ≡ e = (let t : Some (equal x y) ≡ Some e = h in cc) in r }
    by None y h k = absurd (let t : None ≡ Some e = h in cc)
    by (Some x) None h k = absurd (let t : None ≡ Some e = h in cc)

pub not_both : (s : State) (a b : Arg) → test_of s a b ≡ None → evaluate s (a ∷ b ∷ []) ≡ None
not_both s a b h = by (value_of_arg s a) (value_of_arg s b) h (both s a b)
  where
    by : (x y : Option Value) → equal_if x y ≡ None → evaluate s (a ∷ b ∷ []) ≡ joined x (joined y (Some [])) → evaluate s (a ∷ b ∷ []) ≡ None
    by (Some x) (Some y) h k = absurd (let t : Some (equal x y) ≡ None = h in cc)
    by None y h k = k
    by (Some x) None h k = k

pub test_alike : (known s : State) (a b : Arg) → Stands known s → test_of known a b ≡ test_of s a b
test_alike known s a b stands = ap (λ t. test_of t a b) stands ∙ kept_one s a b
  where
    kept_one : (s : State) (a b : Arg) → test_of (kept_state s) a b ≡ test_of s a b
    kept_one s (Const v) (Const w) = refl
    kept_one s (Const v) (Name n) = refl
    kept_one s (Name m) (Const w) = refl
    kept_one s (Name m) (Name n) = refl
