-- A process that is started: what the program keeps of it, and its child.
use Rattle.std.proofs.Common.{◌≡◌, ℕ, zero, suc, ◌+◌, ◌<◌, Bool, true, false, List, [], ◌∷◌, ◌++◌, map, length, refl, ap, sym, ◌∙◌, arith, slice_get, subst, length-append}
use Rattle.std.specs.Prelude.{Some, None, is_some, ◌==◌}
use Rattle.std.specs.List.{list_any}
use Rattle.std.proofs.lemmas.Bool.{ne_eqb}
use Rattle.std.proofs.lemmas.List.{map-append, length-map}
use Rattle.std.proofs.lemmas.List.Elements.{All-nil, All-cons, All-append}
use Rattle.text_model.specs.Codings.{Utf8}
use Rattle.editor_model.specs.Values.{Value}
use Rattle.editor_model.specs.Editor.{Name, numbered_name}
use Rattle.editor_model.specs.Arguments.{name_of}
use Rattle.plain_machine.specs.State.{State, Process, Runs, Default}
use Rattle.plain_machine.specs.Arguments.{find_process, free_name, process_name}
use Rattle.plain_machine.specs.Calls.{started, is_new_child, with_process_buffer, process_buffer}
use Rattle.process_table.specs.Table.{kept}
use Rattle.kernel_steps.specs.Worlds.{Hosted, Stands, kept_state}
use Rattle.kernel_steps.proofs.KeptProcesses.{find_kept}

-- NAMES
abbrev free_if : Bool → (more found : Name) → Name
free_if b more found = elim b [ true ↦ more | false ↦ found ]

free_by : (b : Bool) (found : Name) (more also : Name) → more ≡ also → free_if b more found ≡ free_if b also found
free_by true found more also e = e
free_by false found more also e = refl

free_kept : (tries n : ℕ) (all : List Process) (name : Name) → free_name tries n (map kept all) name ≡ free_name tries n all name
free_kept zero n all name = refl
free_kept (suc tries) n all name =
    ap (λ o. free_if (is_some o) (free_name tries (n + 1) (map kept all) name) (numbered_name name n)) (find_kept 0 all (numbered_name name n)) ∙
    free_by (is_some (find_process 0 all (numbered_name name n))) (numbered_name name n) _ _ (free_kept tries (n + 1) all name)

name_kept : (all : List Process) (name : Name) → process_name (map kept all) name ≡ process_name all name
name_kept all name =
    ap (λ o. free_if (is_some o) (free_name (length (map kept all)) 1 (map kept all) name) name) (find_kept 0 all name) ∙
    ap (λ n. free_if (is_some (find_process 0 all name)) (free_name n 1 (map kept all) name) name) (length-map all kept) ∙
    free_by (is_some (find_process 0 all name)) name _ _ (free_kept (length all) 1 all name)

-- THE STATE
abbrev begun_process : State → (b : Value) → (child : ℕ) → Name → Process
begun_process s b child name = record { name = name; child = child; status = Runs; buffer = process_buffer (with_process_buffer b s.editor) b; mark = length (with_process_buffer b s.editor).marks.markers; filter = Default; sentinel = None; coding = Utf8; bytes = None; drained = false; closed = false; listed = true }

pub started_kept : (s : State) (name b : Value) (child : ℕ) → started (kept_state s) name b child ≡ kept_state (started s name b child)
started_kept s name b child =
    ap (λ (n : Name). record (started s name b child) { processes = map kept s.processes ++ begun_process s b child n ∷ [] }) (name_kept s.processes (name_of name)) ∙
    ap (λ l. record (started s name b child) { processes = l }) (sym (map-append kept s.processes (begun_process s b child (process_name s.processes (name_of name)) ∷ [])))

pub started_size : (s : State) (name b : Value) (child : ℕ) → length (started s name b child).processes ≡ length s.processes + 1
started_size s name b child = length-append s.processes (begun_process s b child (process_name s.processes (name_of name)) ∷ [])

-- CHILDREN
front_stays : (xs ys : List Bool) (i : ℕ) → i < length xs → slice_get (xs ++ ys) i ≡ slice_get xs i
front_stays [] ys i h = absurd (omega arith)
front_stays (x ∷ xs) ys zero h = refl
front_stays (x ∷ xs) ys (suc i) h = front_stays xs ys i (omega (arith, h))

last_there : (xs : List Bool) (b : Bool) → slice_get (xs ++ b ∷ []) (length xs) ≡ Some b
last_there [] b = refl
last_there (x ∷ xs) b = last_there xs b

grown : (kills : List Bool) (n : ℕ) → n < length kills → n < length (kills ++ false ∷ [])
grown kills n h = omega (arith, h, length-append kills (false ∷ []))

pub hosted_started : (list : List Process) (kills : List Bool) (x : Process) → x.child ≡ length kills → Hosted list kills → Hosted (list ++ x ∷ []) (kills ++ false ∷ [])
hosted_started [] kills x e h =
    (omega (arith, e, length-append kills (false ∷ [])), λ r. ap (slice_get (kills ++ false ∷ [])) e ∙ last_there kills false, All-nil (λ (y : Process). x.child < y.child), tt)
hosted_started (y ∷ rest) kills x e h = (
  grown kills y.child h.0,
  λ r. front_stays kills (false ∷ []) y.child h.0 ∙ h.1 r,
  All-append (λ (z : Process). y.child < z.child) rest (x ∷ []) h.2 (All-cons (λ (z : Process). y.child < z.child) x [] (omega (arith, e, h.0)) (All-nil (λ (z : Process). y.child < z.child))),
  hosted_started rest kills x e h.3,
)

new_among : (all : List Process) (kills : List Bool) → Hosted (map kept all) kills → list_any (λ x. x.child == length kills) all ≡ false
new_among [] kills h = refl
new_among (x ∷ all) kills h = rw (ne_eqb x.child (length kills) (λ e. omega (arith, e, h.0))) (new_among all kills h.3)

-- the next child is new
pub next_is_new : (known s : State) (kills : List Bool) (child : ℕ) → Stands known s → Hosted known.processes kills → child ≡ length kills → is_new_child s child ≡ true
next_is_new known s kills child stands h e =
    let hosted : Hosted (map kept s.processes) kills = subst (λ (t : State). Hosted t.processes kills) stands h in
    rw (e, new_among s.processes kills hosted) refl
