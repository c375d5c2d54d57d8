-- One overlay's stretch given, taken or kept: what the tree holds goes on to be what the overlays say.
use Rattle.std.proofs.Common.{◌≡◌, ℕ, ◌+◌, ◌<◌, List, [], ◌∷◌, ◌++◌, length, slice_set, Option, Some, None, refl, ap, sym, ◌∙◌, arith}
use Rattle.text_model.specs.Marks.{Overlay, Span}
use Rattle.text_model.proofs.Rising.{total}
use Rattle.overlay_set.specs.Numbered.{overlay_at, span_at}
use Rattle.overlay_set.specs.Slots.{with_span}
use Rattle.overlay_set.specs.Entries.{entry_of, entries_from, HoldSame, without, without_all}
use Rattle.overlay_set.specs.declared.bounds.Entry.{Entry}
use Rattle.overlay_set.proofs.SameLemmas.{total-append, Same, same_from_sums, sums_from_same, same-filter}
use Rattle.overlay_set.proofs.EntryLemmas.{entries_from-append, entries_kept, total_set, without_set}

abbrev entry_at : ℕ → ℕ × ℕ × ℕ → Entry
entry_at k s = record { number = k; stretch = s }

-- the same stretch
pub kept : (os : List Overlay) (tree : List Entry) (k : ℕ) (o : Overlay) → k < length os → o.span ≡ (overlay_at os k).span → HoldSame tree (entries_from 0 os) → HoldSame tree (entries_from 0 (slice_set os k o))
kept os tree k o within same h = rw (entries_kept 0 k os o within same) h

-- the stretch taken away
pub removed : (os : List Overlay) (tree news : List Entry) (k : ℕ) → k < length os → news ≡ without_all (entry_of k (overlay_at os k).span) tree → HoldSame tree (entries_from 0 os) →
    HoldSame news (entries_from 0 (slice_set os k (record (overlay_at os k) { span = None })))
removed os tree news k within taken h = by_span (overlay_at os k).span refl
  where
    o : Overlay
    o = record (overlay_at os k) { span = None }

    by_span : (t : Option Span) → (overlay_at os k).span ≡ t → HoldSame news (entries_from 0 (slice_set os k (record (overlay_at os k) { span = None })))
    by_span None e =
        let same : news ≡ tree = taken ∙ ap (λ t. without_all (entry_of k t) tree) e in
        rw same (kept os tree k o within (sym e) h)
    by_span (Some s) e =
        let at : ℕ × ℕ × ℕ = (s.buffer, s.start, s.end) in
        let gone : Entry = entry_at k at in
        let less : without gone (entries_from 0 os) ≡ entries_from 0 (slice_set os k o) = (let zero : 0 + k ≡ k = omega arith in ap (λ n. without (entry_at n at) (entries_from 0 os)) (sym zero) ∙ without_set 0 k os at o within e refl) in
        let same : Same (without gone tree) (without gone (entries_from 0 os)) = same-filter _ tree (entries_from 0 os) (same_from_sums tree (entries_from 0 os) h) in
        let result : news ≡ without gone tree = taken ∙ ap (λ t. without_all (entry_of k t) tree) e in
        rw (result, ← less) (sums_from_same (without gone tree) (without gone (entries_from 0 os)) same)

-- a stretch where there was none
pub placed : (os : List Overlay) (tree news : List Entry) (k : ℕ) (s : ℕ × ℕ × ℕ) → k < length os → (overlay_at os k).span ≡ None → HoldSame news (record { number = k; stretch = s } ∷ tree) →
    HoldSame tree (entries_from 0 os) → HoldSame news (entries_from 0 (slice_set os k (with_span (overlay_at os k) s)))
placed os tree news k s within none put h =
    let o = with_span (overlay_at os k) s in
    let zero : 0 + k ≡ k = omega arith in
    let added : Same news (entries_from 0 (slice_set os k o)) = λ f.
    (let set : total f (entries_from 0 (slice_set os k o)) + total f (entry_of (0 + k) (overlay_at os k).span) ≡ total f (entries_from 0 os) + total f (entry_of (0 + k) o.span) = total_set f 0 k os o within in
    let gone : total f (entry_of (0 + k) (overlay_at os k).span) ≡ 0 = ap (λ p. total f (entry_of (0 + k) p)) none in
    let own : total f (entry_of (0 + k) o.span) ≡ f (entry_at k s) + 0 = ap (λ n. f (entry_at n s) + 0) zero in
    let all : total f news ≡ f (entry_at k s) + total f tree = same_from_sums news (entry_at k s ∷ tree) put f in
    let old : total f tree ≡ total f (entries_from 0 os) = same_from_sums tree (entries_from 0 os) h f in
    omega (arith, set, gone, own, all, old)) in
    sums_from_same news (entries_from 0 (slice_set os k o)) added

-- one more overlay
pub made : (os : List Overlay) (tree news : List Entry) (k : ℕ) (o : Overlay) (s : ℕ × ℕ × ℕ) → k ≡ length os → o.span ≡ Some (span_at s) → HoldSame news (record { number = k; stretch = s } ∷ tree) →
    HoldSame tree (entries_from 0 os) → HoldSame news (entries_from 0 (os ++ o ∷ []))
made os tree news k o s count own put h =
    let number : 0 + length os ≡ k = omega (arith, count) in
    let all : entries_from 0 (os ++ o ∷ []) ≡ entries_from 0 os ++ (entry_at k s ∷ []) =
    entries_from-append 0 os (o ∷ []) ∙ ap (λ n. entries_from 0 os ++ entries_from n (o ∷ [])) number ∙ ap (λ t. entries_from 0 os ++ (entry_of k t ++ [])) own in
    let added : Same news (entries_from 0 os ++ (entry_at k s ∷ [])) = λ f.
    (let more = total-append f (entries_from 0 os) (entry_at k s ∷ []) in
    let new : total f news ≡ f (entry_at k s) + total f tree = same_from_sums news (entry_at k s ∷ tree) put f in
    let old : total f tree ≡ total f (entries_from 0 os) = same_from_sums tree (entries_from 0 os) h f in
    omega (arith, more, new, old)) in
    rw all (sums_from_same news (entries_from 0 os ++ (entry_at k s ∷ [])) added)
