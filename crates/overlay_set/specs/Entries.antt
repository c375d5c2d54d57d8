-- The overlays that stand somewhere, as the tree keeps them: in any order, each once.
use Rattle.std.specs.Prelude.{All, ◌≡◌, ℕ, ◌+◌, ◌%◌, ◌^◌, ◌≤◌, ◌<◌, Bool, true, ◌==◌, ◌&&◌, not, List}
use Rattle.std.specs.Prelude.{[], ◌∷◌, ◌++◌, map, filter, Option, Some, None}
use Rattle.std.specs.List.{sum_by}
use Rattle.text_model.specs.Marks.{Overlay, Span}
use Rattle.text_model.specs.OverlayQuestions.{span_passes, ends_of_span}
use Rattle.overlay_set.specs.Numbered.{span_at}
use Rattle.overlay_set.specs.Slots.{test_of}
use Rattle.overlay_set.specs.declared.slot.Question.{Question}
use Rattle.overlay_set.specs.declared.bounds.Entry.{Entry}
use Rattle.overlay_set.specs.declared.bounds.Range.{Range}
use Rattle.overlay_set.specs.declared.bounds.Bounds.{Bounds}
use Rattle.overlay_set.specs.declared.tree.Link.{Link}
use Rattle.overlay_set.specs.declared.tree.Node.{Node}
use Rattle.overlay_set.specs.declared.tree.Link.TheVariants.{Empty, Full}

-- an overlay's entry, where it stands somewhere
abbrev pub entry_of : (number : ℕ) → Option Span → List Entry
entry_of k None = []
entry_of k (Some s) = record { number = k; stretch = (s.buffer, s.start, s.end) } ∷ []

-- the entries of overlays, of which the first has a number
abbrev pub entries_from : (number : ℕ) → List Overlay → List Entry
entries_from k [] = []
entries_from k (o ∷ os) = entry_of k o.span ++ entries_from (k + 1) os

-- two lists hold the same entries, as often: they count alike, whatever is counted
abbrev pub HoldSame : List Entry → List Entry → Type 0
HoldSame xs ys = (f : Entry → ℕ) → sum_by f xs ≡ sum_by f ys

abbrev pub is_same : Entry → Entry → Bool
is_same a b = (a.number == b.number) &&
    ((a.stretch.0 == b.stretch.0) && ((a.stretch.1 == b.stretch.1) && (a.stretch.2 == b.stretch.2)))

abbrev pub without : Entry → List Entry → List Entry
without gone entries = filter (λ e. not (is_same e gone)) entries

abbrev pub without_all : (gone : List Entry) → List Entry → List Entry
without_all [] entries = entries
without_all (e ∷ gone) entries = without_all gone (without e entries)

abbrev pub numbers_in : List Entry → List ℕ
numbers_in entries = map (λ e. e.number) entries

abbrev pub IsMade : (count : ℕ) → Entry → Type 0
IsMade count e = e.number < count

abbrev pub passes : (buffer : ℕ) → Question → Entry → Bool
passes buffer question e = span_passes buffer (test_of question) (Some (span_at e.stretch))

abbrev pub ends_at : (buffer : ℕ) → Entry → List ℕ
ends_at buffer e = ends_of_span buffer (Some (span_at e.stretch))

-- THE TREE
-- an entry whose places are counted from a shift, modulo 2^64
abbrev pub raised : (by : ℕ) → Entry → Entry
raised by e = record {
  number = e.number;
  stretch = (e.stretch.0, (e.stretch.1 + by) % 2 ^ 64, (e.stretch.2 + by) % 2 ^ 64);
}

abbrev pub InRange : Entry → Type 0
InRange e = (e.stretch.1 < 2 ^ 64) × (e.stretch.2 < 2 ^ 64)

abbrev pub Within : Range → ℕ → Type 0
Within r n = (r.least ≤ n) × (n ≤ r.most)

abbrev pub Holds : Bounds → Entry → Type 0
Holds b e = Within b.numbers e.number × Within b.buffers e.stretch.0 × Within b.starts e.stretch.1 ×
    Within b.ends e.stretch.2 × (e.stretch.1 ≡ e.stretch.2 → b.hollow ≡ true)

-- the entries of a node, with those in front of it and behind it
abbrev pub entries_in : Node → List Entry
entries_in n = map (raised n.shift) (n.left ++ n.entry ∷ n.right)

abbrev pub entries_of : Link → List Entry
entries_of Empty = []
entries_of (Full n) = entries_in n.value

-- a node's bounds hold of all its entries, as they are before its shift
abbrev pub HasBounds : Link → Type 0
HasBounds Empty = Unit {0}
HasBounds (Full n) = All (Holds n.value.bounds) (n.value.left ++ n.value.entry ∷ n.value.right)
