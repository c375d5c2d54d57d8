-- The entries of the program as those of the definitions.
use Rattle.std.proofs.Common.{◌≡◌, ℕ, suc, ◌+◌, ◌<◌, ◌≤◌, add-one, List, [], ◌∷◌, ◌++◌, length, map, drop, get_or, ap, sym, ◌∙◌, arith}
use Rattle.std.specs.Prelude.{if◌then◌else◌}
use Rattle.std.proofs.lemmas.List.{map-append, drop-map, length-map}
use Rattle.std.proofs.Math.Seq.{drop-cons}
use Rattle.std.proofs.Math.ListN.{drop_of_length-le}
use Rattle.text_model.specs.Undo.{is_boundary, without_oldest_group, kept_characters}
use Rattle.undo_list.specs.Records.{rec_of, entry_of, size_of}
use Rattle.undo_list.specs.declared.records.Entry.{Entry}
use Rattle.undo_list.proofs.Cutting.{kept-last, without-last}

-- the oldest record was taken away
pub seen_last : (olds news : List Entry) (x : Entry) → olds ≡ news ++ x ∷ [] → map entry_of olds ≡ map entry_of news ++ entry_of x ∷ []
seen_last olds news x h = ap (map entry_of) h ∙ map-append entry_of news (x ∷ [])

pub kept-popped : (olds news : List Entry) (x : Entry) → olds ≡ news ++ x ∷ [] → kept_characters (map entry_of olds) ≡ kept_characters (map entry_of news) + size_of (rec_of x.what)
kept-popped olds news x h = ap kept_characters (seen_last olds news x h) ∙ kept-last (map entry_of news) (entry_of x)

pub without-popped : (olds news : List Entry) (x : Entry) → olds ≡ news ++ x ∷ [] → without_oldest_group (map entry_of olds) ≡ (if is_boundary (rec_of x.what) then map entry_of news else without_oldest_group (map entry_of news))
without-popped olds news x h = ap without_oldest_group (seen_last olds news x h) ∙ without-last (map entry_of news) (entry_of x)

-- an entry is the first of those from its place on
pub seen_next : (xs : List Entry) (i : ℕ) (x : Entry) → i < length xs → x ≡ get_or xs i x → drop i (map entry_of xs) ≡ entry_of x ∷ drop (i + 1) (map entry_of xs)
seen_next xs i x h e = rw (add-one, drop-map entry_of i xs, drop-map entry_of (suc i) xs, drop-cons xs i x h) (ap (λ y. entry_of y ∷ map entry_of (drop (suc i) xs)) (sym e))

pub seen_none : (xs : List Entry) (i : ℕ) → length xs ≤ i → drop i (map entry_of xs) ≡ []
seen_none xs i h = drop_of_length-le (map entry_of xs) (omega (arith, length-map xs entry_of))
