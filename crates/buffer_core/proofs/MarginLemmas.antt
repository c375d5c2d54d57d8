-- What an undoing leaves of a text.
use Rattle.std.proofs.Common.{◌≡◌, ℕ, ◌+◌, ◌≤◌, Bool, true, false, List, [], ◌∷◌, drop, Some, None, refl, ap, sym, subst, ◌∙◌, arith}
use Rattle.std.specs.Prelude.{nat_le, slice_get, ◌&&◌}
use Rattle.std.proofs.lemmas.Bool.{leb-true, le-leb, and_parts, and_from}
use Rattle.text_model.specs.Undo.{Rec, Boundary, Point, Inserted, Deleted, Prop, First, Moved, Entry, lies_inside, max_after, trial}
use Rattle.text_model.proofs.Lists.{drop_at}
use Rattle.buffer_core.specs.Margins.{LiesBetween, AllBetween}
use Rattle.buffer_core.proofs.UndoLemmas.{tried_first, tried_rest}

-- LARGER PARTS
both_in_more : (least most size from to : ℕ) → most ≤ size → (nat_le least from && nat_le to most) ≡ true → (nat_le 0 from && nat_le to size) ≡ true
both_in_more least most size from to h inside =
    let x = and_parts (nat_le least from) (nat_le to most) inside in
    let low : to ≤ most = leb-true to most x.1 in
    and_from (nat_le 0 from) (nat_le to size) (le-leb 0 from (omega arith)) (le-leb to size (omega (arith, low, h)))

lies_in_more : (least most size : ℕ) (w : Rec) → most ≤ size → lies_inside least most w ≡ true → lies_inside 0 size w ≡ true
lies_in_more least most size (Inserted from to) h inside = both_in_more least most size from to h inside
lies_in_more least most size (Deleted piece place) h inside = both_in_more least most size place place h inside
lies_in_more least most size (Prop name old from to) h inside = both_in_more least most size from to h inside
lies_in_more least most size (Point place) h inside = both_in_more least most size place place h inside
lies_in_more least most size First h inside = refl
lies_in_more least most size Boundary h inside = refl
lies_in_more least most size (Moved marker adjustment) h inside = refl

still_below : (max size : ℕ) (w : Rec) → max ≤ size → max_after max w ≤ max_after size w
still_below max size (Inserted from to) h = omega arith
still_below max size (Deleted piece place) h = omega arith
still_below max size (Prop name old from to) h = h
still_below max size (Point place) h = h
still_below max size First h = h
still_below max size Boundary h = h
still_below max size (Moved marker adjustment) h = h

-- what lies in a part lies in all of the text
pub tried_in_more : (es : List Entry) (least most size : ℕ) → most ≤ size → trial least most es ≡ None → trial 0 size es ≡ None
tried_in_more [] least most size h tried = refl
tried_in_more (e ∷ es) least most size h tried =
    let inside = lies_in_more least most size e.what h (tried_first least most e es tried) in
    let below = still_below most size e.what h in
    let rest = tried_in_more es least (max_after most e.what) (max_after size e.what) below (tried_rest least most e es tried) in
    ap (λ (t : Bool). elim t [ true ↦ trial 0 (max_after size e.what) es | false ↦ Some e ]) inside ∙ rest

-- WIDER MARGINS
pub lies_between : (front behind f b size : ℕ) (w : Rec) → f ≤ front → b ≤ behind → LiesBetween front behind size w → LiesBetween f b size w
lies_between front behind f b size (Inserted from to) x y h = (omega (arith, x, h.0), omega (arith, y, h.1))
lies_between front behind f b size (Deleted piece place) x y h = (omega (arith, x, h.0), omega (arith, y, h.1))
lies_between front behind f b size (Prop name old from to) x y h = tt
lies_between front behind f b size (Point place) x y h = tt
lies_between front behind f b size First x y h = tt
lies_between front behind f b size Boundary x y h = tt
lies_between front behind f b size (Moved marker adjustment) x y h = tt

-- the records from one on, all of which lie between margins if the first one and the others do
pub all_from : (es : List Entry) (i : ℕ) (e : Entry) (front behind size next : ℕ) → slice_get es i ≡ Some e → next ≡ max_after size e.what
    → LiesBetween front behind size e.what → AllBetween front behind next (drop (i + 1) es) → AllBetween front behind size (drop i es)
all_from es i e front behind size next at is one others =
    subst (AllBetween front behind size) (sym (drop_at es i e at)) (one, subst (λ n. AllBetween front behind n (drop (i + 1) es)) is others)

-- what the rest of records lies inside of, once the first is undone
pub tried_from : (es : List Entry) (i : ℕ) (e : Entry) (size : ℕ) → slice_get es i ≡ Some e → trial 0 size (drop i es) ≡ None
    → (lies_inside 0 size e.what ≡ true) × (trial 0 (max_after size e.what) (drop (i + 1) es) ≡ None)
tried_from es i e size at tried =
    let here : trial 0 size (e ∷ drop (i + 1) es) ≡ None = sym (ap (trial 0 size) (drop_at es i e at)) ∙ tried in
    (tried_first 0 size e (drop (i + 1) es) here, tried_rest 0 size e (drop (i + 1) es) here)
