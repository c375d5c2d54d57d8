-- What the program keeps of a state: its lines, its children, and the changes of a state that processes have no part in.
use Rattle.std.proofs.Common.{◌≡◌, ℕ, Bool, true, false, List, [], ◌∷◌, ◌++◌, map, refl, ap, sym, ◌∙◌, slice_get}
use Rattle.std.specs.Prelude.{Option, Some, None, option_map, codes, decimal, drop, flat_map, if◌then◌else◌, ◌+◌}
use Rattle.std.specs.List.{enumerate_from}
use Rattle.std.proofs.lemmas.Option.{slice_get-map}
use Rattle.text_model.specs.Marks.{Saved, Excursion, Restriction, Pending}
use Rattle.editor_model.specs.Values.{Value, Values, Nil, T, Int, Sym, Str, Items, Dotted, TheBuffer, TheMarker, TheOverlay, TheProcess, End, More, Reply, Answered, Refused, Block, SaveExcursion, SaveRestriction, SaveCurrentBuffer, InhibitHooks, InhibitReadOnly, Fault}
use Rattle.editor_model.specs.Editor.{is_live, register, with_register}
use Rattle.plain_machine.specs.State.{State, Process}
use Rattle.plain_machine.specs.Arguments.{runs}
use Rattle.plain_machine.specs.Items.{Item, Top, Body, DoForm, MakeCall, Leave, GiveAnswer, Refuse, MakeChange, Hooks, Calm, CommitChange, Enter, Native, Called, Exit, Wait, Delete, KillBuffer, Finish, WriteDump, Kept, KeptExcursion, KeptRestriction, KeptBuffer, KeptInhibition, KeptLifting}
use Rattle.plain_machine.specs.Lines.{Replied, Entered, KilledLast, Dumped, shown, shown_each, shown_name, shown_live, shown_marker, shown_overlay, shown_process, shown_set, shown_status, line, indented, spaced, bracketed, kind_word, handler_word}
use Rattle.plain_machine.specs.Forms.{assigned, restored, opened, put_back, with_saved, saved_of, scope_of, dropped, popped}
use Rattle.process_table.specs.Table.{kept}
use Rattle.kernel_steps.specs.Worlds.{kept_state, Stands, children, running}

-- LINES
abbrev shown_one : Option Process → List ℕ
shown_one o = elim o [ Some x ↦ codes "#<process " ++ (shown_name x.name ++ codes ">") | None ↦ [] ]

process_kept : (s : State) (p : ℕ) → shown_one (slice_get (map kept s.processes) p) ≡ shown_one (slice_get s.processes p)
process_kept s p = ap shown_one (slice_get-map kept s.processes p) ∙ by (slice_get s.processes p)
  where
    by : (o : Option Process) → shown_one (option_map kept o) ≡ shown_one o
    by None = refl
    by (Some x) = refl

mutual
  shown_kept : (symbols : List (List ℕ)) (s : State) (v : Value) → shown symbols (kept_state s) v ≡ shown symbols s v
  shown_kept symbols s Nil = refl
  shown_kept symbols s T = refl
  shown_kept symbols s (Int i) = refl
  shown_kept symbols s (Sym n) = refl
  shown_kept symbols s (Str text) = refl
  shown_kept symbols s (Items vs) = ap (λ l. bracketed (spaced l)) (each_kept symbols s vs)
  shown_kept symbols s (Dotted vs v) = ap (λ l. bracketed (spaced l ++ (codes " . " ++ shown symbols (kept_state s) v))) (each_kept symbols s vs) ∙ ap (λ l. bracketed (spaced (shown_each symbols s vs) ++ (codes " . " ++ l))) (shown_kept symbols s v)
  shown_kept symbols s (TheBuffer b) = refl
  shown_kept symbols s (TheMarker k) = refl
  shown_kept symbols s (TheOverlay k) = refl
  shown_kept symbols s (TheProcess p) = process_kept s p

  each_kept : (symbols : List (List ℕ)) (s : State) (vs : Values) → shown_each symbols (kept_state s) vs ≡ shown_each symbols s vs
  each_kept symbols s End = refl
  each_kept symbols s (More v vs) = ap (λ l. l ∷ shown_each symbols (kept_state s) vs) (shown_kept symbols s v) ∙ ap (λ l. shown symbols s v ∷ l) (each_kept symbols s vs)

list_kept : (symbols : List (List ℕ)) (s : State) (vs : List Value) → map (shown symbols (kept_state s)) vs ≡ map (shown symbols s) vs
list_kept symbols s [] = refl
list_kept symbols s (v ∷ vs) = ap (λ l. l ∷ map (shown symbols (kept_state s)) vs) (shown_kept symbols s v) ∙ ap (λ l. shown symbols s v ∷ l) (list_kept symbols s vs)

pub reply_kept : (symbols : List (List ℕ)) (s : State) (depth : ℕ) (r : Reply) → line symbols (kept_state s) (Replied depth r) ≡ line symbols s (Replied depth r)
reply_kept symbols s depth (Answered v) = ap (λ l. indented depth (codes "= " ++ l)) (shown_kept symbols s v)
reply_kept symbols s depth (Refused f) = refl

pub entry_kept : (symbols : List (List ℕ)) (s : State) (depth : ℕ) (kind : _) (handler : Option ℕ) (args : List Value) → line symbols (kept_state s) (Entered depth kind handler args) ≡ line symbols s (Entered depth kind handler args)
entry_kept symbols s depth kind handler args = ap (λ l. indented depth (codes "> " ++ spaced (kind_word kind ∷ handler_word symbols handler ∷ l))) (list_kept symbols s args)

pub kill_kept : (symbols : List (List ℕ)) (s : State) (p : ℕ) → line symbols (kept_state s) (KilledLast p) ≡ line symbols s (KilledLast p)
kill_kept symbols s p = ap (λ l. codes "kill " ++ (l ++ 10 ∷ [])) (process_kept s p)

abbrev process_line : State → ℕ × Process → List ℕ
process_line s p = codes "process " ++ (decimal p.0 ++ (32 ∷ (shown_process s p.0 ++ (32 ∷ (shown_status p.1.status ++ 10 ∷ [])))))

lines_kept : (s : State) (n : ℕ) (list : List Process) → flat_map (process_line (kept_state s)) (enumerate_from n (map kept list)) ≡ flat_map (process_line s) (enumerate_from n list)
lines_kept s n [] = refl
lines_kept s n (x ∷ list) =
    ap (λ l. (codes "process " ++ (decimal n ++ (32 ∷ (l ++ (32 ∷ (shown_status x.status ++ 10 ∷ [])))))) ++ flat_map (process_line (kept_state s)) (enumerate_from (n + 1) (map kept list))) (process_kept s n) ∙
    ap (λ l. process_line s (n, x) ++ l) (lines_kept s (n + 1) list)

pub dump_kept : (symbols : List (List ℕ)) (s : State) → line symbols (kept_state s) Dumped ≡ line symbols s Dumped
dump_kept symbols s = ap (λ l.
    flat_map (shown_live symbols s.editor.current) (enumerate_from 0 s.editor.buffers) ++
    (flat_map (λ m. codes "marker " ++ (decimal m.0 ++ (32 ∷ (shown_marker s.editor m.0 ++ 10 ∷ [])))) (enumerate_from 0 s.editor.marks.markers) ++
    (flat_map (λ o. codes "overlay " ++ (decimal o.0 ++ (32 ∷ (shown_overlay s.editor o.0 ++ (32 ∷ (shown_set symbols o.1.props ++ 10 ∷ [])))))) (enumerate_from 0 s.editor.marks.overlays) ++ l))) (lines_kept s 0 s.processes)

-- CHILDREN
pub running_kept : (all : List Process) → children (running (map kept all)) ≡ children (running all)
running_kept [] = refl
running_kept (x ∷ all) = by (runs x.status) (running_kept all)
  where
    by : (b : Bool) → children (running (map kept all)) ≡ children (running all) → children (if b then kept x ∷ running (map kept all) else running (map kept all)) ≡ children (if b then x ∷ running all else running all)
    by true rest = ap (λ l. x.child ∷ l) rest
    by false rest = rest

pub running_alike : (known s : State) → Stands known s → children (running s.processes) ≡ children (running known.processes)
running_alike known s stands = sym (running_kept s.processes) ∙ ap (λ (t : State). children (running t.processes)) (sym stands)

-- NAMES
-- a change of a state in which processes have no part
pub record IsApart (change : State → State) : Type 0 where
  pub kept_same : (s : State) → change (kept_state s) ≡ kept_state (change s)
  pub processes : (s : State) → (change s).processes ≡ s.processes

abbrev assigned_by : ℕ → Value → State → Option Value → State
assigned_by name v s o = elim o [
  | Some old ↦ record s { scopes = with_register name v (scope_of s) ∷ drop 1 s.scopes }
  | None ↦ record s { editor = record s.editor { registers = with_register name v s.editor.registers } }
]

pub assigned_apart : (name : ℕ) (v : Value) → IsApart (assigned name v)
assigned_apart name v = record { kept_same = λ s. by s (register (scope_of s) name); processes = λ s. same s (register (scope_of s) name) }
  where
    by : (s : State) (o : Option Value) → assigned_by name v (kept_state s) o ≡ kept_state (assigned_by name v s o)
    by s (Some old) = refl
    by s None = refl

    same : (s : State) (o : Option Value) → (assigned_by name v s o).processes ≡ s.processes
    same s (Some old) = refl
    same s None = refl

-- BLOCKS
abbrev chosen : Bool → (s t : State) → State
chosen live s t = elim live [ true ↦ t | false ↦ s ]

live_apart : (s t : State) (live : Bool) → t.processes ≡ s.processes → (chosen live s t).processes ≡ s.processes
live_apart s t true e = e
live_apart s t false e = refl

live_kept : (s t : State) (live : Bool) → chosen live (kept_state s) (kept_state t) ≡ kept_state (chosen live s t)
live_kept s t true = refl
live_kept s t false = refl

back_kept : (k : Saved) (s : State) → put_back k (kept_state s) ≡ kept_state (put_back k s)
back_kept (Excursion b p) s = live_kept s _ (is_live s.editor b)
back_kept (Restriction b None) s = live_kept s _ (is_live s.editor b)
back_kept (Restriction b (Some ends)) s = live_kept s _ (is_live s.editor b)
back_kept (Pending b from to) s = refl

back_processes : (k : Saved) (s : State) → (put_back k s).processes ≡ s.processes
back_processes (Excursion b p) s = live_apart s _ (is_live s.editor b) refl
back_processes (Restriction b None) s = live_apart s _ (is_live s.editor b) refl
back_processes (Restriction b (Some ends)) s = live_apart s _ (is_live s.editor b) refl
back_processes (Pending b from to) s = refl

abbrev popped_by : State → List Saved → State
popped_by s saved = elim saved [ [] ↦ s | kept ∷ rest ↦ put_back kept (with_saved rest s) ]

pop_kept : (s : State) (saved : List Saved) → popped_by (kept_state s) saved ≡ kept_state (popped_by s saved)
pop_kept s [] = refl
pop_kept s (k ∷ rest) = back_kept k (with_saved rest s)

pop_processes : (s : State) (saved : List Saved) → (popped_by s saved).processes ≡ s.processes
pop_processes s [] = refl
pop_processes s (k ∷ rest) = back_processes k (with_saved rest s)

pub restored_apart : (k : Kept) → IsApart (restored k)
restored_apart KeptExcursion = record { kept_same = λ s. pop_kept s (saved_of s); processes = λ s. pop_processes s (saved_of s) }
restored_apart KeptRestriction = record { kept_same = λ s. pop_kept s (saved_of s); processes = λ s. pop_processes s (saved_of s) }
restored_apart (KeptBuffer b) = record { kept_same = λ s. live_kept s _ (is_live s.editor b); processes = λ s. live_apart s _ (is_live s.editor b) refl }
restored_apart (KeptInhibition old) = record { kept_same = λ s. refl; processes = λ s. refl }
restored_apart (KeptLifting old) = record { kept_same = λ s. refl; processes = λ s. refl }

pub opened_apart : (kind : Block) → IsApart (opened kind)
opened_apart SaveExcursion = record { kept_same = λ s. refl; processes = λ s. refl }
opened_apart SaveRestriction = record { kept_same = λ s. refl; processes = λ s. refl }
opened_apart SaveCurrentBuffer = record { kept_same = λ s. refl; processes = λ s. refl }
opened_apart InhibitHooks = record { kept_same = λ s. refl; processes = λ s. refl }
opened_apart InhibitReadOnly = record { kept_same = λ s. refl; processes = λ s. refl }

-- FAULTS
-- a fault leaves processes as they are
pub dropped_processes : (f : Fault) (rest : List Item) (s : State) → (dropped f rest s).state.processes ≡ s.processes
dropped_processes f [] s = refl
dropped_processes f (Top forms ∷ rest) s = refl
dropped_processes f (Called i args past ∷ rest) s = refl
dropped_processes f (Exit kind handler c faulted ∷ rest) s = refl
dropped_processes f (Leave k ∷ rest) s = dropped_processes f rest (restored k s) ∙ (restored_apart k).processes s
dropped_processes f (CommitChange c ∷ rest) s = dropped_processes f rest (popped s)
dropped_processes f (Body forms ∷ rest) s = dropped_processes f rest s
dropped_processes f (DoForm form ∷ rest) s = dropped_processes f rest s
dropped_processes f (MakeCall prim args target ∷ rest) s = dropped_processes f rest s
dropped_processes f (GiveAnswer v target ∷ rest) s = dropped_processes f rest s
dropped_processes f (Refuse g ∷ rest) s = dropped_processes f rest s
dropped_processes f (MakeChange c ∷ rest) s = dropped_processes f rest s
dropped_processes f (Hooks kind names args ∷ rest) s = dropped_processes f rest s
dropped_processes f (Calm old ∷ rest) s = dropped_processes f rest s
dropped_processes f (Enter kind handler args ∷ rest) s = dropped_processes f rest s
dropped_processes f (Native i args past ∷ rest) s = dropped_processes f rest s
dropped_processes f (Wait w target ∷ rest) s = dropped_processes f rest s
dropped_processes f (Delete p ∷ rest) s = dropped_processes f rest s
dropped_processes f (KillBuffer b target ∷ rest) s = dropped_processes f rest s
dropped_processes f (Finish p ∷ rest) s = dropped_processes f rest s
dropped_processes f (WriteDump ∷ rest) s = dropped_processes f rest s
