-- A table finds, resolves and names as the machine's list does that it stands for.
use Rattle.std.proofs.Common.{◌≡◌, ℕ, zero, suc, ◌+◌, ◌<◌, Bool, true, false, List, [], ◌∷◌, length, map, refl, ap, sym, subst, ◌∙◌, arith}
use Rattle.std.specs.Prelude.{Option, Some, None, is_some, unwrap_or, Result, Ok, Err, IfOk}
use Rattle.std.specs.Option.{ok_or}
use Rattle.std.proofs.lemmas.List.{length-map}
use Rattle.editor_model.specs.Values.{Value, Nil, T, Int, Sym, Str, Items, Dotted, TheBuffer, TheMarker, TheOverlay, TheProcess, WrongType, NoSuchProcess}
use Rattle.editor_model.specs.Answers.{first_fault, refuse}
use Rattle.editor_model.specs.Editor.{Name, numbered_name}
use Rattle.editor_model.specs.Arguments.{name_of}
use Rattle.plain_machine.specs.State.{State, Process}
use Rattle.plain_machine.specs.Arguments.{find_process, process_of, free_name, process_name}
use Rattle.ek_call.specs.declared.fault.Fault as declared
use Rattle.ek_call.specs.declared.fault.Fault.TheVariants as fault
use Rattle.process_table.specs.Table.{kept, StandsFor, with_table}
use Rattle.process_table.specs.Resolving.{refusal, Resolves}
use Rattle.process_table.proofs.Finding.{key, find_keys, find_within}

keys_kept : (all : List Process) → map key (map kept all) ≡ map key all
keys_kept [] = refl
keys_kept (x ∷ all) = ap (λ l. key x ∷ l) (keys_kept all)

pub find_stands : (k : ℕ) (table all : List Process) (n : Name) → StandsFor table all → find_process k table n ≡ find_process k all n
find_stands k table all n stands = ap (λ l. find_process k l n) stands ∙ find_keys k (map kept all) all n (keys_kept all)

-- RESOLVING
refusal_stands : (table : List Process) (s : State) (v : Value) → StandsFor table s.processes → refusal (with_table table) v ≡ refusal s v
refusal_stands table s Nil stands = refl
refusal_stands table s T stands = refl
refusal_stands table s (Int i) stands = refl
refusal_stands table s (Sym n) stands = refl
refusal_stands table s (Str t) stands = ap (λ o. first_fault (refuse WrongType true ∷ refuse NoSuchProcess (is_some o) ∷ [])) (find_stands 0 table s.processes (name_of (Str t)) stands)
refusal_stands table s (Items vs) stands = refl
refusal_stands table s (Dotted vs w) stands = refl
refusal_stands table s (TheBuffer b) stands = refl
refusal_stands table s (TheMarker k) stands = refl
refusal_stands table s (TheOverlay k) stands = refl
refusal_stands table s (TheProcess p) stands = refl

process_stands : (table : List Process) (s : State) (v : Value) → StandsFor table s.processes → process_of (with_table table) v ≡ process_of s v
process_stands table s Nil stands = refl
process_stands table s T stands = refl
process_stands table s (Int i) stands = refl
process_stands table s (Sym n) stands = refl
process_stands table s (Str t) stands = ap (λ o. unwrap_or o 0) (find_stands 0 table s.processes (name_of (Str t)) stands)
process_stands table s (Items vs) stands = refl
process_stands table s (Dotted vs w) stands = refl
process_stands table s (TheBuffer b) stands = refl
process_stands table s (TheMarker k) stands = refl
process_stands table s (TheOverlay k) stands = refl
process_stands table s (TheProcess p) stands = refl

pub resolves_stands : (table : List Process) (s : State) (v : Value) (r : Result ℕ declared.Fault) → StandsFor table s.processes → Resolves (with_table table) v r → Resolves s v r
resolves_stands table s v (Ok p) stands h = (sym (refusal_stands table s v stands) ∙ h.0, sym (process_stands table s v stands) ∙ h.1)
resolves_stands table s v (Err f) stands h = sym (refusal_stands table s v stands) ∙ h

-- a name
pub found_made : (table : List Process) (n : Name) (o : Option ℕ) (r : Result ℕ declared.Fault) → o ≡ find_process 0 table n → r ≡ ok_or o fault.NoSuchProcess → IfOk r (λ p. p < length table)
found_made table n o r found is = subst (λ (z : Result ℕ declared.Fault). IfOk z (λ p. p < length table)) (sym is) (go o (sym found))
  where
    go : (o : Option ℕ) → find_process 0 table n ≡ o → IfOk (ok_or o fault.NoSuchProcess) (λ p. p < length table)
    go None e = tt
    go (Some p) e = omega (arith, find_within 0 p table n e)

-- NAMES
free_stands : (tries n : ℕ) (table all : List Process) (name : Name) → StandsFor table all → free_name tries n table name ≡ free_name tries n all name
free_stands zero n table all name stands = refl
free_stands (suc tries) n table all name stands =
    ap (λ o. choice (is_some o) (free_name tries (n + 1) table name)) (find_stands 0 table all (numbered_name name n) stands)
    ∙ ap (choice (is_some (find_process 0 all (numbered_name name n)))) (free_stands tries (n + 1) table all name stands)
  where
    choice : Bool → Name → Name
    choice b rest = elim b [ true ↦ rest | false ↦ numbered_name name n ]

pub name_stands : (table all : List Process) (name : Name) → StandsFor table all → process_name table name ≡ process_name all name
name_stands table all name stands =
    ap (λ o. choice (is_some o) (free_name (length table) 1 table name)) (find_stands 0 table all name stands)
    ∙ ap (choice (is_some (find_process 0 all name)))
    (ap (λ k. free_name k 1 table name) (ap length stands ∙ length-map all kept) ∙ free_stands (length all) 1 table all name stands)
  where
    choice : Bool → Name → Name
    choice b rest = elim b [ true ↦ rest | false ↦ name ]
