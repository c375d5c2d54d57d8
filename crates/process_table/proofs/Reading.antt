-- Output that is read: what the program's decoder makes of the bytes it holds is what the machine makes of all bytes.
use Rattle.std.proofs.Common.{◌≡◌, ℕ, ◌+◌, ◌<◌, Bool, true, false, List, [], ◌++◌, length, drop, get_or, refl, ap, sym, ◌∙◌, arith}
use Rattle.std.specs.Prelude.{if◌then◌else◌, slice_get, slice_set, not, is_some, Option, Some, None, option_map, unwrap_or}
use Rattle.std.proofs.Common.{append-nil}
use Rattle.std.proofs.Math.Seq.{drop-append_seam}
use Rattle.std.proofs.lemmas.Option.{slice_get-map}
use Rattle.text_model.specs.Characters.{Ch}
use Rattle.text_model.specs.Codings.{Coding, Utf8, decoded, undecoded, all_decoded}
use Rattle.text_model.proofs.Codings.{decoded_law, undecoded_law, all_decoded_law, none_undecoded}
use Rattle.plain_machine.specs.State.{State, Process, process, change_process, read_so_far}
use Rattle.plain_machine.specs.Arguments.{is_fed}
use Rattle.plain_machine.specs.Calls.{with_coding}
use Rattle.plain_machine.specs.Waits.{more_characters}
use Rattle.process_table.specs.Table.{kept, kept_bytes, StandsFor, changed, coding_by, held_by, with_held, with_drained, with_table}
use Rattle.process_table.proofs.Changing.{changed_stands, read_process, written}
use Rattle.process_table.proofs.Finding.{key}

-- THE BYTES HELD
abbrev bytes_in : Option Process → List ℕ
bytes_in o = elim o [ None ↦ [] | Some x ↦ read_so_far x ]

abbrev coding_in : Option Process → Coding
coding_in o = elim o [ None ↦ Utf8 | Some x ↦ x.coding ]

abbrev fed_in : Option Process → Bool
fed_in o = elim o [ None ↦ false | Some x ↦ is_some x.bytes ]

module _ (items table : List Process) (p : ℕ) (x : Process) (seen : items ≡ table) (within : p < length table) (read : x ≡ get_or items p x) where
  there : slice_get items p ≡ Some x
  there = read_process items p x (omega (arith, ap length seen, within)) read

  pub held_is : held_by table p ≡ read_so_far x
  held_is = ap (λ l. held_by l p) (sym seen) ∙ ap bytes_in there

  pub coding_is : coding_by table p ≡ x.coding
  coding_is = ap (λ l. coding_by l p) (sym seen) ∙ ap coding_in there

  pub fed_is : is_fed (with_table table) p ≡ is_some x.bytes
  fed_is = ap (λ l. is_fed (with_table l) p) (sym seen) ∙ ap fed_in there

-- what a process keeps, that isn't drained
so_far_kept : (d : Bool) (c : Coding) (o : Option (List ℕ)) → d ≡ false → unwrap_or (option_map (kept_bytes d c) o) [] ≡ undecoded c (unwrap_or o [])
so_far_kept d c None h = sym (none_undecoded c)
so_far_kept d c (Some bytes) h = ap (λ b. if b then [] else undecoded c bytes) h

module _ (table : List Process) (s : State) (p : ℕ) (x : Process) (stands : StandsFor table s.processes) (there : process s p ≡ Some x) where
  seen_kept : slice_get table p ≡ Some (kept x)
  seen_kept = ap (λ l. slice_get l p) stands ∙ slice_get-map kept s.processes p ∙ ap (option_map kept) there

  coding_stands : coding_by table p ≡ x.coding
  coding_stands = ap coding_in seen_kept

  -- the bytes held are those that all bytes read leave
  held_stands : x.drained ≡ false → held_by table p ≡ undecoded x.coding (read_so_far x)
  held_stands reads = ap bytes_in seen_kept ∙ so_far_kept x.drained x.coding x.bytes reads

-- MORE BYTES
more_read : (c : Coding) (old new : List ℕ) → more_characters (decoded c old) (decoded c (old ++ new)) ≡ decoded c (undecoded c old ++ new)
more_read c old new = ap (drop (length (decoded c old))) (decoded_law c old new) ∙ drop-append_seam (decoded c old) (decoded c (undecoded c old ++ new))

pub fed_stands : (table : List Process) (s : State) (p : ℕ) (x : Process) (new : List ℕ) → StandsFor table s.processes → process s p ≡ Some x → x.drained ≡ false →
    StandsFor (changed p (with_held (undecoded (coding_by table p) (held_by table p ++ new))) table) (change_process p (λ y. record y { bytes = Some (read_so_far x ++ new) }) s).processes
fed_stands table s p x new stands there reads =
    changed_stands p (with_held (undecoded (coding_by table p) (held_by table p ++ new))) (λ y. record y { bytes = Some (read_so_far x ++ new) }) table s alike stands
  where
    left : undecoded (coding_by table p) (held_by table p ++ new) ≡ undecoded x.coding (read_so_far x ++ new)
    left = (λ i. undecoded (coding_stands table s p x stands there i) (held_stands table s p x stands there reads i ++ new)) ∙ sym (undecoded_law x.coding (read_so_far x) new)

    alike : (y : Process) → process s p ≡ Some y → with_held (undecoded (coding_by table p) (held_by table p ++ new)) (kept y) ≡ kept (record y { bytes = Some (read_so_far x ++ new) })
    alike y found =
        let twice : Some x ≡ Some y = sym there ∙ found in
        let same : x ≡ y = cc in
        let open_still : y.drained ≡ false = ap (λ (z : Process). z.drained) (sym same) ∙ reads in
        let coding : x.coding ≡ y.coding = ap (λ (z : Process). z.coding) same in
        ap (λ b. record y { bytes = Some b })
        (left ∙ ap (λ c. undecoded c (read_so_far x ++ new)) coding ∙ ap (λ d. if d then [] else undecoded y.coding (read_so_far x ++ new)) (sym open_still))

pub fed_text : (table : List Process) (s : State) (p : ℕ) (x : Process) (new : List ℕ) → StandsFor table s.processes → process s p ≡ Some x → x.drained ≡ false →
    decoded (coding_by table p) (held_by table p ++ new) ≡ more_characters (decoded x.coding (read_so_far x)) (decoded x.coding (read_so_far x ++ new))
fed_text table s p x new stands there reads =
    (λ i. decoded (coding_stands table s p x stands there i) (held_stands table s p x stands there reads i ++ new)) ∙ sym (more_read x.coding (read_so_far x) new)

-- THE END OF OUTPUT
more_drained : (c : Coding) (old : List ℕ) → more_characters (decoded c old) (all_decoded c old) ≡ all_decoded c (undecoded c old)
more_drained c old =
    let whole : all_decoded c old ≡ decoded c old ++ all_decoded c (undecoded c old) = ap (all_decoded c) (sym (append-nil old)) ∙ all_decoded_law c old [] ∙ ap (λ t. decoded c old ++ all_decoded c t) (append-nil (undecoded c old)) in
    ap (drop (length (decoded c old))) whole ∙ drop-append_seam (decoded c old) (all_decoded c (undecoded c old))

nothing_kept : (d : Bool) (c : Coding) (o : Option (List ℕ)) → option_map (λ b. let none : List ℕ = [] in none) (option_map (kept_bytes d c) o) ≡ option_map (kept_bytes true c) o
nothing_kept d c None = refl
nothing_kept d c (Some bytes) = refl

pub drained_stands : (table : List Process) (s : State) (p : ℕ) → StandsFor table s.processes → StandsFor (changed p with_drained table) (change_process p (λ y. record y { drained = true }) s).processes
drained_stands table s p stands = changed_stands p with_drained (λ y. record y { drained = true }) table s (λ y there. ap (λ o. record y { bytes = o; drained = true }) (nothing_kept y.drained y.coding y.bytes)) stands

pub drained_text : (table : List Process) (s : State) (p : ℕ) (x : Process) → StandsFor table s.processes → process s p ≡ Some x → x.drained ≡ false →
    all_decoded (coding_by table p) (held_by table p) ≡ more_characters (decoded x.coding (read_so_far x)) (all_decoded x.coding (read_so_far x))
drained_text table s p x stands there reads =
    (λ i. all_decoded (coding_stands table s p x stands there i) (held_stands table s p x stands there reads i)) ∙ sym (more_drained x.coding (read_so_far x))

-- CODINGS
abbrev coded : Coding → Process → Option (List ℕ) → Process
coded c x o = elim o [ Some bytes ↦ x | None ↦ record x { coding = c } ]

pub coding_key : (c : Coding) (x : Process) → key (with_coding c x) ≡ key x
coding_key c x = (elim x.bytes as (λ o. key (coded c x o) ≡ key x) [ Some bytes ↦ refl | None ↦ refl ])

-- IN THE TABLE
-- a process of the table, and what a call of it said of the bytes that it held
module _ (items table : List Process) (p : ℕ) (x : Process) (seen : items ≡ table) (within : p < length table) (read : x ≡ get_or items p x) where
  held_too : read_so_far x ≡ held_by table p
  held_too = sym (held_is items table p x seen within read)

  coding_too : x.coding ≡ coding_by table p
  coding_too = sym (coding_is items table p x seen within read)

  pub fed_items : (bytes : List ℕ) (old new : List Ch) → new ≡ old ++ decoded x.coding (read_so_far x ++ bytes) → new ≡ old ++ decoded (coding_by table p) (held_by table p ++ bytes)
  fed_items bytes old new e = e ∙ (λ i. old ++ decoded (coding_too i) (held_too i ++ bytes))

  pub fed_spare : (bytes : List ℕ) (old new : ℕ) → new + length (decoded x.coding (read_so_far x ++ bytes)) ≡ old → new + length (decoded (coding_by table p) (held_by table p ++ bytes)) ≡ old
  fed_spare bytes old new e = sym (λ i. new + length (decoded (coding_too i) (held_too i ++ bytes))) ∙ e

  pub fed_table : (bytes : List ℕ) (new : Process) → new ≡ with_held (undecoded x.coding (read_so_far x ++ bytes)) x → slice_set items p new ≡ changed p (with_held (undecoded (coding_by table p) (held_by table p ++ bytes))) table
  fed_table bytes new e =
      written items table p x new (with_held (undecoded (coding_by table p) (held_by table p ++ bytes))) seen within read
      (e ∙ (λ i. with_held (undecoded (coding_too i) (held_too i ++ bytes)) x))

  pub drained_items : (old new : List Ch) → new ≡ old ++ all_decoded x.coding (read_so_far x) → new ≡ old ++ all_decoded (coding_by table p) (held_by table p)
  drained_items old new e = e ∙ (λ i. old ++ all_decoded (coding_too i) (held_too i))

  pub drained_spare : (old new : ℕ) → new + length (all_decoded x.coding (read_so_far x)) ≡ old → new + length (all_decoded (coding_by table p) (held_by table p)) ≡ old
  drained_spare old new e = sym (λ i. new + length (all_decoded (coding_too i) (held_too i))) ∙ e

  pub fed_answer : (answer : Bool) → answer ≡ not (is_some x.bytes) → answer ≡ not (is_fed (with_table table) p)
  fed_answer answer e = e ∙ ap not (sym (fed_is items table p x seen within read))
