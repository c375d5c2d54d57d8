-- What a change of one process makes of a table, and of the machine's list that it stands for.
use Rattle.std.proofs.Common.{◌≡◌, ℕ, ◌<◌, ◌≤◌, true, false, List, [], ◌∷◌, ◌++◌, length, map, get_or, refl, ap, sym, ◌∙◌, arith}
use Rattle.std.specs.Prelude.{slice_get, slice_set, Option, Some, None, option_map}
use Rattle.std.proofs.lemmas.List.{length-append, length-set, map-set}
use Rattle.editor_model.specs.Editor.{Name}
use Rattle.plain_machine.specs.Arguments.{find_process}
use Rattle.std.proofs.lemmas.Option.{slice_get-map, slice_get-get_or}
use Rattle.std.proofs.Math.Seq.{map-set_same}
use Rattle.plain_machine.specs.State.{State, Process, process, change_process}
use Rattle.process_table.specs.Table.{kept, StandsFor, NamesDiffer, new_process, with_table, changed}
use Rattle.process_table.proofs.Finding.{key, differ_keys, differ_unlisted, differ_added}

-- THE CHANGE OF A LIST
pub changed_process : (s : State) (p : ℕ) (f : Process → Process) (x : Process) → process s p ≡ Some x → (change_process p f s).processes ≡ slice_set s.processes p (f x)
changed_process s p f x found = ap (λ (o : Option Process). let k : State = elim o [ None ↦ s | Some y ↦ record s { processes = slice_set s.processes p (f y) } ] in k.processes) found

pub unchanged_process : (s : State) (p : ℕ) (f : Process → Process) → process s p ≡ None → (change_process p f s).processes ≡ s.processes
unchanged_process s p f none = ap (λ (o : Option Process). let k : State = elim o [ None ↦ s | Some y ↦ record s { processes = slice_set s.processes p (f y) } ] in k.processes) none

pub read_process : (items : List Process) (p : ℕ) (x : Process) → p < length items → x ≡ get_or items p x → slice_get items p ≡ Some x
read_process items p x within read = slice_get-get_or items p x within ∙ ap Some (sym read)

-- a process that was changed in place
pub written : (items table : List Process) (p : ℕ) (x new : Process) (f : Process → Process) → items ≡ table → p < length table → x ≡ get_or items p x → new ≡ f x → slice_set items p new ≡ changed p f table
written items table p x new f seen within read is =
    let within_items : p < length items = omega (arith, ap length seen) in
    let there : slice_get items p ≡ Some x = read_process items p x within_items read in
    ap (slice_set items p) is ∙ sym (changed_process (with_table items) p f x there) ∙ ap (changed p f) seen

-- THE MACHINE'S LIST
pub changed_stands : (p : ℕ) (f g : Process → Process) (table : List Process) (s : State) → ((x : Process) → process s p ≡ Some x → f (kept x) ≡ kept (g x)) → StandsFor table s.processes → StandsFor (changed p f table) (change_process p g s).processes
changed_stands p f g table s alike stands = go (process s p) refl
  where
    seen : (o : Option Process) → process s p ≡ o → slice_get table p ≡ option_map kept o
    seen o e = ap (λ l. slice_get l p) stands ∙ slice_get-map kept s.processes p ∙ ap (option_map kept) e

    go : (o : Option Process) → process s p ≡ o → changed p f table ≡ map kept (change_process p g s).processes
    go None e = unchanged_process (with_table table) p f (seen None e) ∙ stands ∙ ap (map kept) (sym (unchanged_process s p g e))
    go (Some x) e =
        changed_process (with_table table) p f (kept x) (seen (Some x) e)
        ∙ ap (λ l. slice_set l p (f (kept x))) stands
        ∙ ap (slice_set (map kept s.processes) p) (alike x e)
        ∙ sym (map-set kept s.processes p (g x))
        ∙ ap (map kept) (sym (changed_process s p g x e))

-- NAMES THAT DIFFER
-- neither its name nor whether it is listed was changed
pub invariant_same : (items : List Process) (p : ℕ) (x new : Process) → (length items ≤ 256) × NamesDiffer items → p < length items → x ≡ get_or items p x → key new ≡ key x → (length (slice_set items p new) ≤ 256) × NamesDiffer (slice_set items p new)
invariant_same items p x new invariant within read same =
    (rw length-set invariant.0, differ_keys items (slice_set items p new) (sym (map-set_same key items p new x (same ∙ ap key read))) invariant.1)

pub invariant_unlisted : (items : List Process) (p : ℕ) (x new : Process) → (length items ≤ 256) × NamesDiffer items → p < length items → x ≡ get_or items p x → new.listed ≡ false → (length (slice_set items p new) ≤ 256) × NamesDiffer (slice_set items p new)
invariant_unlisted items p x new invariant within read off =
    (rw length-set invariant.0, differ_unlisted items p x new (read_process items p x within read) off invariant.1)

pub invariant_added : (items table new_items : List Process) (x : Process) (copied name : Name) (child : ℕ) (buffer : Option ℕ) (mark : ℕ) → items ≡ table → new_items ≡ items ++ x ∷ [] → x ≡ new_process copied child buffer mark → copied ≡ name → length table < 256 → find_process 0 table name ≡ None → (length items ≤ 256) × NamesDiffer items → (length new_items ≤ 256) × NamesDiffer new_items
invariant_added items table new_items x copied name child buffer mark seen pushed is same room free invariant =
    let named : x.name ≡ name = ap (λ (y : Process). y.name) is ∙ same in
    let free_here : find_process 0 items x.name ≡ None = ap (find_process 0 items) named ∙ ap (λ l. find_process 0 l name) seen ∙ free in
    let listed : x.listed ≡ true = ap (λ (y : Process). y.listed) is in
    rw pushed (
      rw length-append (omega (arith, ap length seen)),
      differ_added items x listed free_here invariant.1,
    )
