-- What a table is to the machine's list of processes that it stands for.
use Rattle.std.proofs.Common.{◌≡◌, ℕ, List, [], ◌∷◌, ◌++◌, map, refl, ap, sym, ◌∙◌}
use Rattle.std.specs.Prelude.{slice_get, slice_set, Option, Some, None, option_map}
use Rattle.std.proofs.lemmas.Option.{slice_get-map}
use Rattle.editor_model.specs.Editor.{Name}
use Rattle.plain_machine.specs.State.{State, Process, process, change_process}
use Rattle.process_table.specs.Table.{kept, StandsFor, new_process, with_table, changed}

pub one_stands : (table : List Process) (s : State) (p : ℕ) (x : Process) → StandsFor table s.processes → slice_get table p ≡ Some x → (y : Process) × (process s p ≡ Some y) × (x ≡ kept y)
one_stands table s p x stands found = go (process s p) refl
  where
    seen : slice_get table p ≡ option_map kept (process s p)
    seen = ap (λ l. slice_get l p) stands ∙ slice_get-map kept s.processes p

    go : (o : Option Process) → process s p ≡ o → (y : Process) × (process s p ≡ Some y) × (x ≡ kept y)
    go None e = let clash : Some x ≡ None = sym found ∙ seen ∙ ap (option_map kept) e in cc
    go (Some y) e = let both : Some x ≡ Some (kept y) = sym found ∙ seen ∙ ap (option_map kept) e in (y, e, cc)

abbrev with_list : State → (p : ℕ) → (Process → Process) → Option Process → State
with_list s p f o = elim o [ None ↦ s | Some x ↦ record s { processes = slice_set s.processes p (f x) } ]

pub list_alone : (s : State) (p : ℕ) (f : Process → Process) → change_process p f s ≡ record s { processes = changed p f s.processes }
list_alone s p f = go (process s p)
  where
    go : (o : Option Process) → with_list s p f o ≡ record s { processes = (with_list (with_table s.processes) p f o).processes }
    go None = refl
    go (Some x) = refl

map_behind : (xs : List Process) (x : Process) → map kept (xs ++ x ∷ []) ≡ map kept xs ++ kept x ∷ []
map_behind [] x = refl
map_behind (y ∷ xs) x = ap (λ l. kept y ∷ l) (map_behind xs x)

pub added_stands : (table all : List Process) (name : Name) (child : ℕ) (buffer : Option ℕ) (mark : ℕ) → StandsFor table all → StandsFor (table ++ new_process name child buffer mark ∷ []) (all ++ new_process name child buffer mark ∷ [])
added_stands table all name child buffer mark stands = ap (λ l. l ++ new_process name child buffer mark ∷ []) stands ∙ sym (map_behind all (new_process name child buffer mark))
