-- A change of one process leaves the children as they are.
use Rattle.std.proofs.Common.{◌≡◌, ℕ, zero, suc, ◌<◌, Bool, true, false, List, [], ◌∷◌, length, All, map, slice_get, slice_set, refl, ap, sym, ◌∙◌, subst}
use Rattle.std.specs.Prelude.{Some, None, option_map, if◌then◌else◌}
use Rattle.std.specs.declared.option.Option.{Option}
use Rattle.std.proofs.lemmas.List.{length-set}
use Rattle.std.proofs.lemmas.List.Elements.{All-set}
use Rattle.std.proofs.lemmas.Option.{slice_get-map}
use Rattle.text_model.proofs.Lists.{All-slice_get}
use Rattle.text_model.specs.Codings.{Coding}
use Rattle.plain_machine.specs.State.{State, Process, Filter, change_process}
use Rattle.plain_machine.specs.Arguments.{runs}
use Rattle.plain_machine.specs.Handling.{unlisted}
use Rattle.plain_machine.specs.Calls.{with_filter, with_sentinel, of_buffer, with_input_closed, with_coding}
use Rattle.process_table.specs.Table.{kept, kept_bytes}
use Rattle.kernel_steps.specs.Worlds.{Hosted, kept_state, children, running}

pub hosted_set : (xs : List Process) (p : ℕ) (x y : Process) (kills : List Bool) → slice_get xs p ≡ Some x → y.child ≡ x.child → (runs y.status ≡ true → runs x.status ≡ true) → Hosted xs kills → Hosted (slice_set xs p y) kills
hosted_set [] p x y kills e child ends h = tt
hosted_set (z ∷ xs) zero x y kills e child ends (small, lives, later, rest) =
    let same : z ≡ x = let s : Some z ≡ Some x = e in cc in
    let number : y.child ≡ z.child = child ∙ ap (λ (v : Process). v.child) (sym same) in (
      subst (λ n. n < length kills) (sym number) small,
      λ r. subst (λ n. slice_get kills n ≡ Some false) (sym number) (lives (ap (λ (v : Process). runs v.status) same ∙ ends r)),
      subst (λ n. All (λ (v : Process). n < v.child) xs) (sym number) later,
      rest,
    )
hosted_set (z ∷ xs) (suc p) x y kills e child ends (small, lives, later, rest) =
    let one = All-slice_get (λ (v : Process). z.child < v.child) xs p x later e in
    (small, lives, All-set (λ (v : Process). z.child < v.child) xs p y (subst (λ n. z.child < n) (sym child) one) later, hosted_set xs p x y kills e child ends rest)

set_map : (xs : List Process) (p : ℕ) (y : Process) → slice_set (map kept xs) p (kept y) ≡ map kept (slice_set xs p y)
set_map [] p y = refl
set_map (x ∷ xs) zero y = refl
set_map (x ∷ xs) (suc p) y = ap (λ l. kept x ∷ l) (set_map xs p y)

-- a change of one process after which its child stands as before
pub record IsMild (change : Process → Process) : Type 0 where
  pub kept_same : (x : Process) → change (kept x) ≡ kept (change x)
  pub child : (x : Process) → (change x).child ≡ x.child
  pub status : (x : Process) → (change x).status ≡ x.status

pub unlisted_mild : IsMild unlisted
unlisted_mild = record { kept_same = λ x. refl; child = λ x. refl; status = λ x. refl }

pub filter_mild : (f : Filter) → IsMild (with_filter f)
filter_mild f = record { kept_same = λ x. refl; child = λ x. refl; status = λ x. refl }

pub sentinel_mild : (h : Option ℕ) → IsMild (with_sentinel h)
sentinel_mild h = record { kept_same = λ x. refl; child = λ x. refl; status = λ x. refl }

pub buffer_mild : (b : Option ℕ) → IsMild (of_buffer b)
buffer_mild b = record { kept_same = λ x. refl; child = λ x. refl; status = λ x. refl }

-- with another coding, by what was read
abbrev coded : Coding → Process → Option (List ℕ) → Process
coded c x o = elim o [ Some bytes ↦ x | None ↦ record x { coding = c } ]

pub coding_mild : (c : Coding) → IsMild (with_coding c)
coding_mild c = record {
  kept_same = λ x. same x x.bytes refl;
  child = λ x. (elim x.bytes as (λ o. (coded c x o).child ≡ x.child) [ Some bytes ↦ refl | None ↦ refl ]);
  status = λ x. (elim x.bytes as (λ o. (coded c x o).status ≡ x.status) [ Some bytes ↦ refl | None ↦ refl ]);
}
  where
    same : (x : Process) (o : Option (List ℕ)) → x.bytes ≡ o → coded c (kept x) (option_map (kept_bytes x.drained x.coding) o) ≡ kept (coded c x o)
    same x (Some bytes) e = refl
    same x None e = ap (λ b. record x { coding = c; bytes = b }) (ap (option_map (kept_bytes x.drained x.coding)) e ∙ sym (ap (option_map (kept_bytes x.drained c)) e))

pub input_mild : IsMild with_input_closed
input_mild = record { kept_same = λ x. refl; child = λ x. refl; status = λ x. refl }

children_if : (b : Bool) (x y : Process) (xs ys : List Process) → x.child ≡ y.child → children (running xs) ≡ children (running ys) → children (if b then x ∷ running xs else running xs) ≡ children (if b then y ∷ running ys else running ys)
children_if true x y xs ys e h = (λ i. e i ∷ h i)
children_if false x y xs ys e h = h

module _ (change : Process → Process) (mild : IsMild change) where
  abbrev changed_by : State → (p : ℕ) → Option Process → State
  changed_by s p o = elim o [ None ↦ s | Some x ↦ record s { processes = slice_set s.processes p (change x) } ]

  pub changed_kept : (p : ℕ) (s : State) → change_process p change (kept_state s) ≡ kept_state (change_process p change s)
  changed_kept p s = ap (changed_by (kept_state s) p) (slice_get-map kept s.processes p) ∙ by (slice_get s.processes p)
    where
      by : (o : Option Process) → changed_by (kept_state s) p (option_map kept o) ≡ kept_state (changed_by s p o)
      by None = refl
      by (Some x) = ap (λ y. record s { processes = slice_set (map kept s.processes) p y }) (mild.kept_same x) ∙ ap (λ l. record s { processes = l }) (set_map s.processes p (change x))

  pub changed_hosted : (p : ℕ) (s : State) (kills : List Bool) → Hosted s.processes kills → Hosted (change_process p change s).processes kills
  changed_hosted p s kills h = by (slice_get s.processes p) refl
    where
      by : (o : Option Process) → slice_get s.processes p ≡ o → Hosted (changed_by s p o).processes kills
      by None e = h
      by (Some x) e = hosted_set s.processes p x (change x) kills e (mild.child x) (λ r. ap runs (sym (mild.status x)) ∙ r) h

  pub changed_length : (p : ℕ) (s : State) → length (change_process p change s).processes ≡ length s.processes
  changed_length p s = by (slice_get s.processes p)
    where
      by : (o : Option Process) → length (changed_by s p o).processes ≡ length s.processes
      by None = refl
      by (Some x) = length-set s.processes p (change x)

  children_set : (xs : List Process) (p : ℕ) (x : Process) → slice_get xs p ≡ Some x → children (running (slice_set xs p (change x))) ≡ children (running xs)
  children_set [] p x e = refl
  children_set (z ∷ xs) zero x e =
      let same : z ≡ x = (let s : Some z ≡ Some x = e in cc) in
      ap (λ b. children (if b then change x ∷ running xs else running xs)) (ap runs (mild.status x) ∙ ap (λ (v : Process). runs v.status) (sym same)) ∙ children_if (runs z.status) (change x) z xs xs (mild.child x ∙ ap (λ (v : Process). v.child) (sym same)) refl
  children_set (z ∷ xs) (suc p) x e = children_if (runs z.status) z z (slice_set xs p (change x)) xs refl (children_set xs p x e)

  pub changed_children : (p : ℕ) (s : State) → children (running (change_process p change s).processes) ≡ children (running s.processes)
  changed_children p s = by (slice_get s.processes p) refl
    where
      by : (o : Option Process) → slice_get s.processes p ≡ o → children (running (changed_by s p o).processes) ≡ children (running s.processes)
      by None e = refl
      by (Some x) e = children_set s.processes p x e

  pub changed_depth : (p : ℕ) (s : State) → (change_process p change s).depth ≡ s.depth
  changed_depth p s = by (slice_get s.processes p)
    where
      by : (o : Option Process) → (changed_by s p o).depth ≡ s.depth
      by None = refl
      by (Some x) = refl

  pub changed_inhibited : (p : ℕ) (s : State) → (change_process p change s).inhibited ≡ s.inhibited
  changed_inhibited p s = by (slice_get s.processes p)
    where
      by : (o : Option Process) → (changed_by s p o).inhibited ≡ s.inhibited
      by None = refl
      by (Some x) = refl

  pub changed_asked : (p : ℕ) (s : State) → (change_process p change s).asked ≡ s.asked
  changed_asked p s = by (slice_get s.processes p)
    where
      by : (o : Option Process) → (changed_by s p o).asked ≡ s.asked
      by None = refl
      by (Some x) = refl

-- A PROCESS LEAVES THE LIST
pub unlisted_kept : (p : ℕ) (s : State) → change_process p unlisted (kept_state s) ≡ kept_state (change_process p unlisted s)
unlisted_kept = changed_kept unlisted unlisted_mild

pub unlisted_hosted : (p : ℕ) (s : State) (kills : List Bool) → Hosted s.processes kills → Hosted (change_process p unlisted s).processes kills
unlisted_hosted = changed_hosted unlisted unlisted_mild

pub unlisted_length : (p : ℕ) (s : State) → length (change_process p unlisted s).processes ≡ length s.processes
unlisted_length = changed_length unlisted unlisted_mild

pub unlisted_children : (p : ℕ) (s : State) → children (running (change_process p unlisted s).processes) ≡ children (running s.processes)
unlisted_children = changed_children unlisted unlisted_mild

pub unlisted_depth : (p : ℕ) (s : State) → (change_process p unlisted s).depth ≡ s.depth
unlisted_depth = changed_depth unlisted unlisted_mild

pub unlisted_inhibited : (p : ℕ) (s : State) → (change_process p unlisted s).inhibited ≡ s.inhibited
unlisted_inhibited = changed_inhibited unlisted unlisted_mild

pub unlisted_asked : (p : ℕ) (s : State) → (change_process p unlisted s).asked ≡ s.asked
unlisted_asked = changed_asked unlisted unlisted_mild
