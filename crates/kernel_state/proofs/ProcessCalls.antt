-- The calls on processes, on the table of a kernel.
use Rattle.std.proofs.Common.{◌≡◌, ℕ, ◌+◌, ◌≤◌, true, false, List, [], ◌∷◌, ◌++◌, length, map, drop, refl, sym, ap, ◌∙◌, append_assoc}
use Rattle.std.specs.Prelude.{Some, slice_get, filter}
use Rattle.std.specs.List.{enumerate_from}
use Rattle.std.proofs.lemmas.Option.{slice_get_past}
use Rattle.text_model.proofs.Lists.{drop_at}
use Rattle.editor_model.specs.Values.{Value, Nil, TheProcess, Prim}
use Rattle.plain_machine.specs.State.{State, Process, process}
use Rattle.plain_machine.specs.Calls.{told_of_one}

pub told_past : (prim : Prim) (s : State) (p : ℕ) → length s.processes ≤ p → Nil ≡ told_of_one prim (process s p)
told_past prim s p past = ap (told_of_one prim) (sym (slice_get_past s.processes p past))

-- THE LIST OF PROCESSES, one after the other
abbrev pub listed_from : ℕ → List Process → List Value
listed_from p xs = map (λ x. TheProcess x.0) (filter (λ x. x.1.listed) (enumerate_from p xs))

listed_one : (p : ℕ) (x : Process) (xs : List Process) → x.listed ≡ true → listed_from p (x ∷ xs) ≡ TheProcess p ∷ listed_from (p + 1) xs
listed_one p x xs h = rw h refl

unlisted_one : (p : ℕ) (x : Process) (xs : List Process) → x.listed ≡ false → listed_from p (x ∷ xs) ≡ listed_from (p + 1) xs
unlisted_one p x xs h = rw h refl

pub listed_met : (xs : List Process) (p : ℕ) (x : Process) (front whole : List Value) → slice_get xs p ≡ Some x → x.listed ≡ true
    → front ++ listed_from p (drop p xs) ≡ whole → (front ++ TheProcess p ∷ []) ++ listed_from (p + 1) (drop (p + 1) xs) ≡ whole
listed_met xs p x front whole at h e =
    append_assoc front (TheProcess p ∷ []) (listed_from (p + 1) (drop (p + 1) xs))
    ∙ ap (λ vs. front ++ vs) (sym (listed_one p x (drop (p + 1) xs) h))
    ∙ ap (λ rest. front ++ listed_from p rest) (sym (drop_at xs p x at)) ∙ e

pub listed_passed : (xs : List Process) (p : ℕ) (x : Process) (front whole : List Value) → slice_get xs p ≡ Some x → x.listed ≡ false
    → front ++ listed_from p (drop p xs) ≡ whole → front ++ listed_from (p + 1) (drop (p + 1) xs) ≡ whole
listed_passed xs p x front whole at h e =
    ap (λ vs. front ++ vs) (sym (unlisted_one p x (drop (p + 1) xs) h))
    ∙ ap (λ rest. front ++ listed_from p rest) (sym (drop_at xs p x at)) ∙ e
