-- The overlays that slots and the tree stand for are those whose stretches the tree holds.
use Rattle.std.proofs.Common.{◌≡◌, ℕ, zero, suc, ◌+◌, ◌<◌, Bool, true, false, ◌==◌, List, [], ◌∷◌, ◌++◌, map, length, All, Contains, Option, Some, None, IfSome, refl, ap, sym, ◌∙◌, subst, arith, if◌then◌else◌}
use Rattle.std.proofs.lemmas.Bool.{eqb-true, eq-eqb, ne_eqb}
use Rattle.std.proofs.lemmas.List.Elements.{All-head, All-tail, All-contains}
use Rattle.text_model.specs.Marks.{Overlay, Span}
use Rattle.text_model.proofs.Rising.{total}
use Rattle.overlay_set.specs.Numbered.{no_overlay, overlay_at, span_at, span_of}
use Rattle.overlay_set.specs.Slots.{bare_of, bare}
use Rattle.overlay_set.specs.Entries.{entry_of, entries_from, HoldSame}
use Rattle.overlay_set.specs.Seen.{span_in, seen_from}
use Rattle.overlay_set.specs.declared.slot.Slot.{Slot}
use Rattle.overlay_set.specs.declared.bounds.Entry.{Entry}
use Rattle.overlay_set.proofs.SameLemmas.{total-append, same_from_sums}
use Rattle.overlay_set.proofs.EntryLemmas.{Agrees, agrees_all, Matches, entries_match, all_same}

pub length-seen : (es : List Entry) (k : ℕ) (slots : List Slot) → length (seen_from es k slots) ≡ length slots
length-seen es k [] = refl
length-seen es k (s ∷ ss) = ap suc (length-seen es (k + 1) ss)

pub bare-seen : (es : List Entry) (k : ℕ) (slots : List Slot) → map bare_of slots ≡ map bare (seen_from es k slots)
bare-seen es k [] = refl
bare-seen es k (s ∷ ss) = ap (λ os. bare_of s ∷ os) (bare-seen es (k + 1) ss)

-- ENTRIES OF A NUMBER
abbrev is_number : ℕ → Entry → ℕ
is_number k e = if e.number == k then 1 else 0

listed : (j k : ℕ) (os : List Overlay) (s : Span) → k < length os → (overlay_at os k).span ≡ Some s → 0 < total (is_number (j + k)) (entries_from j os)
listed j k [] s h e = absurd (omega arith)
listed j zero (o ∷ os) s h e =
    let here : j + 0 ≡ j = omega arith in
    let own : (j == j) ≡ true = eq-eqb j j refl in
    subst (λ t. 0 < total (is_number (j + 0)) (entry_of j t ++ entries_from (j + 1) os)) (sym e) (rw (here, own) (omega arith))
listed j (suc k) (o ∷ os) s h e =
    let there : j + suc k ≡ j + 1 + k = omega arith in
    let rest = listed (j + 1) k os s (omega arith) e in
    let both = total-append (is_number (j + 1 + k)) (entry_of j o.span) (entries_from (j + 1) os) in
    rw there (omega (arith, rest, both))

none_in : (k : ℕ) (es : List Entry) → span_in es k ≡ None → total (is_number k) es ≡ 0
none_in k [] h = refl
none_in k (e ∷ es) h = by_test (none_in k es) (e.number == k) refl
  where
    by_test : (span_in es k ≡ None → total (is_number k) es ≡ 0) → (t : Bool) → (e.number == k) ≡ t → total (is_number k) (e ∷ es) ≡ 0
    by_test ih true t = let g : span_in (e ∷ es) k ≡ Some (span_at e.stretch) = rw t refl in let f : Some (span_at e.stretch) ≡ None = sym g ∙ h in cc
    by_test ih false t =
        let g : span_in (e ∷ es) k ≡ span_in es k = rw t refl in
        let rest = ih (sym g ∙ h) in
        rw t (omega (arith, rest))

none_numbered : (k : ℕ) (es : List Entry) → All (λ e. e.number ≡ k → ⊥) es → total (is_number k) es ≡ 0
none_numbered k [] h = refl
none_numbered k (e ∷ es) h =
    let apart : (e.number == k) ≡ false = ne_eqb e.number k (All-head (λ e. e.number ≡ k → ⊥) e es h) in
    let rest = none_numbered k es (All-tail (λ e. e.number ≡ k → ⊥) e es h) in
    rw apart (omega (arith, rest))

match_span : (os : List Overlay) (e : Entry) → Matches os e → (overlay_at os e.number).span ≡ Some (span_at e.stretch)
match_span os e h = sym (ap (λ (o : Overlay). o.span) h.1)

some_in : (os : List Overlay) (es : List Entry) (k : ℕ) (s : Span) → All (Matches os) es → span_in es k ≡ Some s → (overlay_at os k).span ≡ Some s
some_in os [] k s all h = let f : None ≡ Some s = h in cc
some_in os (e ∷ es) k s all h = by_test (some_in os es k s (All-tail (Matches os) e es all)) (e.number == k) refl
  where
    by_test : (span_in es k ≡ Some s → (overlay_at os k).span ≡ Some s) → (t : Bool) → (e.number == k) ≡ t → (overlay_at os k).span ≡ Some s
    by_test ih true t =
        let g : span_in (e ∷ es) k ≡ Some (span_at e.stretch) = rw t refl in
        ap (λ j. (overlay_at os j).span) (sym (eqb-true e.number k t)) ∙ match_span os e (All-head (Matches os) e es all) ∙ sym g ∙ h
    by_test ih false t = let g : span_in (e ∷ es) k ≡ span_in es k = rw t refl in ih (sym g ∙ h)

pub all_match : (os : List Overlay) (es : List Entry) → HoldSame es (entries_from 0 os) → All (Matches os) es
all_match os es h = all_same (Matches os) es (entries_from 0 os) (same_from_sums es (entries_from 0 os) h) (entries_match os 0 os (agrees_all os))

none_counted : (os : List Overlay) (es : List Entry) (k : ℕ) → HoldSame es (entries_from 0 os) → k < length os → total (is_number k) es ≡ 0 → (overlay_at os k).span ≡ None
none_counted os es k h within none = by_span (overlay_at os k).span refl
  where
    by_span : (t : Option Span) → (overlay_at os k).span ≡ t → (overlay_at os k).span ≡ None
    by_span None e = e
    by_span (Some s) e =
        let zero_k : 0 + k ≡ k = omega arith in
        let some : 0 < total (is_number k) (entries_from 0 os) = subst (λ j. 0 < total (is_number j) (entries_from 0 os)) zero_k (listed 0 k os s within e) in
        let same = same_from_sums es (entries_from 0 os) h (is_number k) in
        absurd (omega (arith, some, same, none))

pub spans_same : (os : List Overlay) (es : List Entry) (k : ℕ) → HoldSame es (entries_from 0 os) → k < length os → span_in es k ≡ (overlay_at os k).span
spans_same os es k h within = by_span (span_in es k) refl
  where
    by_span : (t : Option Span) → span_in es k ≡ t → span_in es k ≡ (overlay_at os k).span
    by_span None e = e ∙ sym (none_counted os es k h within (none_in k es e))
    by_span (Some s) e = e ∙ sym (some_in os es k s (all_match os es h) e)

-- what is found in the tree under a number is that overlay's stretch
pub found_span : (os : List Overlay) (es : List Entry) (k : ℕ) (s : ℕ × ℕ × ℕ) → HoldSame es (entries_from 0 os) → Contains es (record { number = k; stretch = s }) → Some (span_at s) ≡ (overlay_at os k).span
found_span os es k s h there =
    let e : Entry = record { number = k; stretch = s } in
    sym (match_span os e (All-contains (Matches os) es e (all_match os es h) there))

pub absent_span : (os : List Overlay) (es : List Entry) (k : ℕ) → HoldSame es (entries_from 0 os) → k < length os → All (λ e. e.number ≡ k → ⊥) es → None ≡ (overlay_at os k).span
absent_span os es k h within none = sym (none_counted os es k h within (none_numbered k es none))

pub stretch_is : (os : List Overlay) (es : List Entry) (k : ℕ) (r : Option (ℕ × ℕ × ℕ)) → HoldSame es (entries_from 0 os) → k < length os → IfSome r (λ s. Contains es (record { number = k; stretch = s })) → (r ≡ None → All (λ e. e.number ≡ k → ⊥) es) → span_of r ≡ (overlay_at os k).span
stretch_is os es k None h within found none = absent_span os es k h within (none refl)
stretch_is os es k (Some s) h within found none = found_span os es k s h found

-- WHAT IS SEEN
abbrev first : List Overlay → Overlay
first [] = no_overlay
first (o ∷ os) = o

abbrev rest_of : List Overlay → List Overlay
rest_of [] = []
rest_of (o ∷ os) = os

seen_by : (all : List Overlay) (es : List Entry) (k : ℕ) (slots : List Slot) (os : List Overlay) → Agrees all k os → map bare_of slots ≡ map bare os → ((j : ℕ) → j < length all → span_in es j ≡ (overlay_at all j).span) → seen_from es k slots ≡ os
seen_by all es k [] [] h b spans = refl
seen_by all es k [] (o ∷ os) h b spans = let n = ap length b in absurd (omega (arith, n))
seen_by all es k (s ∷ ss) [] h b spans = let n = ap length b in absurd (omega (arith, n))
seen_by all es k (s ∷ ss) (o ∷ os) h b spans =
    let head : bare_of s ≡ bare o = ap first b in
    let tail : map bare_of ss ≡ map bare os = ap rest_of b in
    let span : span_in es k ≡ o.span = spans k h.1.0 ∙ ap (λ (p : Overlay). p.span) h.0 in
    ap (λ (p : Overlay). record p { span = span_in es k } ∷ seen_from es (k + 1) ss) head
    ∙ ap (λ t. record o { span = t } ∷ seen_from es (k + 1) ss) span
    ∙ ap (λ ps. o ∷ ps) (seen_by all es (k + 1) ss os h.1.1 tail spans)

-- where the tree holds the stretches of overlays, and the slots the rest, these are seen
pub seen_is : (slots : List Slot) (es : List Entry) (os : List Overlay) → HoldSame es (entries_from 0 os) → map bare_of slots ≡ map bare os → seen_from es 0 slots ≡ os
seen_is slots es os h b = seen_by os es 0 slots os (agrees_all os) b (λ j within. spans_same os es j h within)

pub held : (slots : List Slot) (es : List Entry) (os : List Overlay) → HoldSame es (entries_from 0 os) → map bare_of slots ≡ map bare os → HoldSame es (entries_from 0 (seen_from es 0 slots))
held slots es os h b = subst (λ ps. HoldSame es (entries_from 0 ps)) (sym (seen_is slots es os h b)) h

-- what the overlays that are seen have in common with the slots
pub bare-view : (es : List Entry) (slots : List Slot) (os : List Overlay) → seen_from es 0 slots ≡ os → map bare_of slots ≡ map bare os
bare-view es slots os v = bare-seen es 0 slots ∙ ap (map bare) v

pub length-view : (es : List Entry) (slots : List Slot) (os : List Overlay) → seen_from es 0 slots ≡ os → length os ≡ length slots
length-view es slots os v = sym (ap length v) ∙ length-seen es 0 slots

pub held-view : (es : List Entry) (slots : List Slot) (os : List Overlay) → seen_from es 0 slots ≡ os → HoldSame es (entries_from 0 (seen_from es 0 slots)) → HoldSame es (entries_from 0 os)
held-view es slots os v h = subst (λ ps. HoldSame es (entries_from 0 ps)) v h
