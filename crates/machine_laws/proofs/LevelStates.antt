-- Levels of states: what each change of a state does to them.
use Rattle.std.proofs.Common.{◌≡◌, ℕ, suc, ◌+◌, ◌-◌, Bool, true, false, List, [], ◌∷◌, length, drop, refl, ap, sym, ◌∙◌, arith}
use Rattle.std.specs.Prelude.{Option, Some, None, slice_set}
use Rattle.text_model.specs.Marks.{Saved, Excursion, Restriction, Pending}
use Rattle.text_model.specs.Commit.{Buffer}
use Rattle.text_model.proofs.Cases.{by_test}
use Rattle.editor_model.specs.Values.{Value}
use Rattle.editor_model.specs.Editor.{Editor, is_live, register, with_register, with_buffer}
use Rattle.editor_model.specs.Arguments.{name_of}
use Rattle.plain_machine.specs.State.{State, Scope, Process, process, change_process}
use Rattle.plain_machine.specs.Items.{Kept, KeptExcursion, KeptRestriction, KeptBuffer, KeptInhibition, KeptLifting}
use Rattle.plain_machine.specs.Arguments.{is_new_name}
use Rattle.plain_machine.specs.Calls.{with_editor, started}
use Rattle.plain_machine.specs.Forms.{with_saved, if_live, current, in_buffer, put_back, pop, popped, restored, assigned}
use Rattle.plain_machine.specs.Handling.{left_state}
use Rattle.machine_laws.specs.Brackets.{Levels, levels, shapes}
use Rattle.machine_laws.proofs.Advancing.{site_shapes}
use Rattle.machine_laws.proofs.Lifted.{buffer_lifted}

-- what stands behind a handler, behind a place that is taken back, behind a block
abbrev pub behind_handler : Levels → Levels
behind_handler l = record l { depth = l.depth - 1; scopes = l.scopes - 1 }

abbrev pub behind_place : Levels → Levels
behind_place l = record l { kept = drop 1 l.kept }

abbrev pub behind_block : Kept → Levels → Levels
behind_block KeptExcursion l = behind_place l
behind_block KeptRestriction l = behind_place l
behind_block (KeptBuffer b) l = l
behind_block (KeptInhibition old) l = record l { inhibited = old }
behind_block (KeptLifting old) l = record l { lifted = old }

-- EDITORS
pub editor_levels : (s : State) (e : Editor) → shapes e.marks.saved ≡ shapes s.editor.marks.saved → e.lifted ≡ s.editor.lifted → levels (with_editor e s) ≡ levels s
editor_levels s e q l = λ i. record (levels s) { kept = q i; lifted = l i }

pub inhibited_levels : (s : State) (b : Bool) → s.inhibited ≡ b → record (levels s) { inhibited = b } ≡ levels s
inhibited_levels s b q = ap (λ (b : Bool). record (levels s) { inhibited = b }) (sym q)

abbrev Same : State → State → Type 0
Same s t = levels t ≡ levels s

pub live_levels : (s : State) (b : ℕ) (t : State) → Same s t → Same s (if_live s b t)
live_levels s b t h = go (is_live s.editor b)
  where
    go : (v : Bool) → Same s (elim v [ true ↦ t | false ↦ s ])
    go true = h
    go false = refl

bounds_levels : (b : ℕ) (f : Buffer → Buffer) (s : State) → Same s (in_buffer b f s)
bounds_levels b f s = editor_levels s (in_buffer b f s).editor (site_shapes b (λ site. record site { buffer = f site.buffer }) s.editor (λ l q. refl)) (buffer_lifted b f s.editor)

put_back_levels : (k : Saved) (s : State) → Same s (put_back k s)
put_back_levels (Excursion b p) s = live_levels s b _ (bounds_levels b _ s)
put_back_levels (Restriction b None) s = live_levels s b _ (bounds_levels b _ s)
put_back_levels (Restriction b (Some ends)) s = live_levels s b _ (bounds_levels b _ s)
put_back_levels (Pending b from to) s = refl

drop_shapes : (ks : List Saved) → shapes (drop 1 ks) ≡ drop 1 (shapes ks)
drop_shapes [] = refl
drop_shapes (k ∷ ks) = refl

pub popped_levels : (s : State) → levels (popped s) ≡ behind_place (levels s)
popped_levels s = ap (λ (ks : List (ℕ × ℕ)). record (levels s) { kept = ks }) (drop_shapes s.editor.marks.saved)

pop_levels : (s : State) → levels (pop s) ≡ behind_place (levels s)
pop_levels s = go s.editor.marks.saved refl
  where
    go : (ks : List Saved) → s.editor.marks.saved ≡ ks → let t : State = elim ks [ [] ↦ s | kept ∷ rest ↦ put_back kept (with_saved rest s) ] in levels t ≡ record (levels s) { kept = drop 1 (shapes s.editor.marks.saved) }
    go [] q = ap (λ (l : List Saved). record (levels s) { kept = shapes l }) q ∙ sym (ap (λ (l : List Saved). record (levels s) { kept = drop 1 (shapes l) }) q)
    go (k ∷ ks) q = put_back_levels k (with_saved ks s) ∙ sym (ap (λ (l : List Saved). record (levels s) { kept = drop 1 (shapes l) }) q)

pub restored_levels : (k : Kept) (s : State) → levels (restored k s) ≡ behind_block k (levels s)
restored_levels KeptExcursion s = pop_levels s
restored_levels KeptRestriction s = pop_levels s
restored_levels (KeptBuffer b) s = live_levels s b (current b s) refl
restored_levels (KeptInhibition old) s = refl
restored_levels (KeptLifting old) s = refl

-- NAMES, PROCESSES, HANDLERS
pub assigned_levels : (name : ℕ) (v : Value) (s : State) → Same s (assigned name v s)
assigned_levels name v s = at s.scopes
  where
    at : (xs : List Scope) → Same (record s { scopes = xs }) (assigned name v (record s { scopes = xs }))
    at [] = refl
    at (x ∷ xs) = go (register x name)
      where
        go : (o : Option Value) → Same (record s { scopes = x ∷ xs }) (elim o [
          | Some old ↦ record s { scopes = with_register name v x ∷ xs }
          | None ↦ record s { scopes = x ∷ xs; editor = record s.editor { registers = with_register name v s.editor.registers } }
        ])
        go (Some old) = refl
        go None = refl

pub change_levels : (p : ℕ) (f : Process → Process) (s : State) → Same s (change_process p f s)
change_levels p f s = go (process s p)
  where
    go : (o : Option Process) → Same s (elim o [ None ↦ s | Some x ↦ record s { processes = slice_set s.processes p (f x) } ])
    go None = refl
    go (Some x) = refl

pub started_levels : (s : State) (name b : Value) (child : ℕ) → Same s (started s name b child)
started_levels s name b child = editor_levels s (started s name b child).editor (by_test (λ (e : Editor). shapes e.marks.saved ≡ shapes s.editor.marks.saved) (is_new_name s.editor b) (with_buffer (name_of b) s.editor) s.editor (λ q. refl) (λ q. refl))
    (by_test (λ (e : Editor). e.lifted ≡ s.editor.lifted) (is_new_name s.editor b) (with_buffer (name_of b) s.editor) s.editor (λ q. refl) (λ q. refl))

fewer_scopes : (xs : List Scope) → length (drop 1 xs) ≡ length xs - 1
fewer_scopes [] = refl
fewer_scopes (x ∷ xs) = omega arith

pub left_levels : (s : State) (c : ℕ) → levels (left_state s c) ≡ behind_handler (levels s)
left_levels s c =
    live_levels (record s { depth = s.depth - 1; scopes = drop 1 s.scopes }) c (current c (record s { depth = s.depth - 1; scopes = drop 1 s.scopes })) refl ∙
    ap (λ (n : ℕ). record (levels s) { depth = s.depth - 1; scopes = n }) (fewer_scopes s.scopes)

-- a handler entered and left again
pub entered_levels : (s t : State) → t.depth ≡ s.depth + 1 → length t.scopes ≡ suc (length s.scopes) → t.inhibited ≡ s.inhibited → t.editor.lifted ≡ s.editor.lifted → shapes t.editor.marks.saved ≡ shapes s.editor.marks.saved → behind_handler (levels t) ≡ levels s
entered_levels s t d n i l k =
    let a : t.depth - 1 ≡ s.depth = omega arith in
    let b : length t.scopes - 1 ≡ length s.scopes = omega arith in
    λ j. record { depth = a j; scopes = b j; inhibited = i j; lifted = l j; kept = k j }
