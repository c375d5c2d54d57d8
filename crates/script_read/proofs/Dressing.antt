-- The characters of a text get the sets of their runs, one run after another.
use Rattle.std.proofs.Common.{◌≡◌, ℕ, ◌+◌, ◌-◌, ◌≤◌, ◌<◌, List, [], ◌∷◌, ◌++◌, Bool, true, false, ◌&&◌, map, length, take, drop, take-append-drop, length-append, length-drop, refl, sym, ap, ◌∙◌, append_assoc, arith, Some, None, get_or, subst}
use Rattle.std.specs.Prelude.{Option, nat_le, nat_lt}
use Rattle.std.proofs.Math.Seq.{take-append_seam, drop-append_seam}
use Rattle.std.proofs.lemmas.Bool.{and_parts}
use Rattle.std.proofs.lemmas.Bool.Decides.{nat_tests}
use Rattle.std.proofs.lemmas.List.{map-append, drop-drop, length-map, drop_more}
use Rattle.std.proofs.Math.ListN.{drop_of_length-le}
use Rattle.text_model.specs.Characters.{Ch}
use Rattle.text_model.specs.Properties.{Cell, PropSet, bare, with_sets, edited, Replace}
use Rattle.text_model.specs.Options.{◌>>=◌}
use Rattle.script_read.specs.PropStrings.{Run, cells_from}

le_true : (n m : ℕ) → nat_le n m ≡ true → n ≤ m
le_true n m e = grind (arith, nat_tests)

lt_true : (n m : ℕ) → nat_lt n m ≡ true → n < m
lt_true n m e = grind (arith, nat_tests)

-- some cells in front of others
abbrev pub behind_cells : List Cell → Option (List Cell) → Option (List Cell)
behind_cells done o = o >>= (λ rest. Some (done ++ rest))

-- The runs up to a place are put, and the rest gives the rest of the whole.
pub record Dressed (chars : List Ch) (all : List Run) (place : ℕ) (text : List Cell) (left : List Run) : Type 0 where
  pub done : List Cell
  pub text_is : text ≡ done ++ bare (drop place chars)
  pub long : length done ≡ place
  pub within : place ≤ length chars
  pub whole : behind_cells done (cells_from place (drop place chars) left) ≡ cells_from 0 chars all

pub undressed : (chars : List Ch) (all : List Run) → Dressed chars all 0 (bare chars) all
undressed chars all = record { done = []; text_is = refl; long = refl; within = omega arith; whole = nothing_before (cells_from 0 chars all) }
  where
    nothing_before : (o : Option (List Cell)) → behind_cells [] o ≡ o
    nothing_before None = refl
    nothing_before (Some x) = refl

pub all_dressed : (chars : List Ch) (all : List Run) (place : ℕ) (text : List Cell) → Dressed chars all place text [] → cells_from 0 chars all ≡ Some text
all_dressed chars all place text d = sym d.whole ∙ ap (λ (l : List Cell). Some l) (sym d.text_is)

pub text_long : (chars : List Ch) (all : List Run) (place : ℕ) (text : List Cell) (left : List Run) → Dressed chars all place text left → length text ≡ length chars
text_long chars all place text left d =
    let a : length text ≡ length d.done + length (bare (drop place chars)) = ap length d.text_is ∙ length-append d.done (bare (drop place chars)) in
    let b : length (bare (drop place chars)) ≡ length (drop place chars) = length-map (drop place chars) (λ (c : Ch). let x : Cell = (c, []) in x) in
    let c : length (drop place chars) ≡ length chars - place = length-drop place chars in
    omega (arith, a, b, c, d.long, d.within)

-- whether a run stands behind a place
abbrev fits : (place : ℕ) → List Ch → Run → Bool
fits place left r = nat_le place r.from && (nat_lt r.from r.to && nat_le r.to (place + length left))

same_test : (chars : List Ch) (place : ℕ) (r : Run) → place ≤ length chars → fits place (drop place chars) r ≡ (nat_le place r.from && (nat_lt r.from r.to && nat_le r.to (length chars)))
same_test chars place r within =
    let size : place + length (drop place chars) ≡ length chars = let h = length-drop place chars in omega (arith, h, within) in
    ap (λ n. nat_le place r.from && (nat_lt r.from r.to && nat_le r.to n)) size

-- a run that doesn't fit
pub unfit_run : (chars : List Ch) (all : List Run) (place : ℕ) (text : List Cell) (r : Run) (runs : List Run) → Dressed chars all place text (r ∷ runs) →
    (nat_le place r.from && (nat_lt r.from r.to && nat_le r.to (length text))) ≡ false → cells_from 0 chars all ≡ None
unfit_run chars all place text r runs d t =
    let long = text_long chars all place text (r ∷ runs) d in
    let test : fits place (drop place chars) r ≡ false = same_test chars place r d.within ∙ ap (λ n. nat_le place r.from && (nat_lt r.from r.to && nat_le r.to n)) (sym long) ∙ t in
    sym d.whole ∙ rw test refl

-- a part of a text with a set
parts_set : (a b c : List Cell) (from to : ℕ) (set : PropSet) → length a ≡ from → length (a ++ b) ≡ to → with_sets from to (edited (Replace set)) (a ++ (b ++ c)) ≡ a ++ (map (λ x. (x.0, set)) b ++ c)
parts_set a b c from to set e h =
    let front : take from (a ++ (b ++ c)) ≡ a = ap (λ n. take n (a ++ (b ++ c))) (sym e) ∙ ap (λ p. p.0) (parted a (b ++ c)) in
    let two : a ++ (b ++ c) ≡ (a ++ b) ++ c = sym (append_assoc a b c) in
    let head : take to (a ++ (b ++ c)) ≡ a ++ b = ap (λ n. take n (a ++ (b ++ c))) (sym h) ∙ ap (take (length (a ++ b))) two ∙ ap (λ p. p.0) (parted (a ++ b) c) in
    let tail : drop to (a ++ (b ++ c)) ≡ c = ap (λ n. drop n (a ++ (b ++ c))) (sym h) ∙ ap (drop (length (a ++ b))) two ∙ ap (λ p. p.1) (parted (a ++ b) c) in
    let middle : drop from (a ++ b) ≡ b = ap (λ n. drop n (a ++ b)) (sym e) ∙ ap (λ p. p.1) (parted a b) in
    rw (front, head, tail, middle) refl
  where
    parted : (x y : List Cell) → ◌≡◌ {A = List Cell × List Cell} (take (length x) (x ++ y), drop (length x) (x ++ y)) (x, y)
    parted x y = rw (take-append_seam, drop-append_seam)

set_bare : (chars : List Ch) (set : PropSet) → map (λ (x : Cell). let y : Cell = (x.0, set) in y) (bare chars) ≡ map (λ c. (c, set)) chars
set_bare [] set = refl
set_bare (c ∷ chars) set = ap (λ (l : List Cell). (c, set) ∷ l) (set_bare chars set)

cells_join : (done gap mid : List Cell) (o : Option (List Cell)) → behind_cells done (o >>= (λ rest. Some (gap ++ (mid ++ rest)))) ≡ behind_cells (done ++ (gap ++ mid)) o
cells_join done gap mid None = refl
cells_join done gap mid (Some rest) = ap (λ (l : List Cell). Some l) (ap (λ l. done ++ l) (sym (append_assoc gap mid rest)) ∙ sym (append_assoc done (gap ++ mid) rest))

-- a run that is put
pub put_run : (chars : List Ch) (all : List Run) (place : ℕ) (text : List Cell) (r : Run) (runs : List Run) → Dressed chars all place text (r ∷ runs) →
    (nat_le place r.from && (nat_lt r.from r.to && nat_le r.to (length text))) ≡ true → Dressed chars all r.to (with_sets r.from r.to (edited (Replace r.set)) text) runs
put_run chars all place text r runs d t =
    let left = drop place chars in
    let long = text_long chars all place text (r ∷ runs) d in
    let test : fits place left r ≡ true = same_test chars place r d.within ∙ ap (λ n. nat_le place r.from && (nat_lt r.from r.to && nat_le r.to n)) (sym long) ∙ t in
    let p = and_parts (nat_le place r.from) (nat_lt r.from r.to && nat_le r.to (place + length left)) test in
    let q = and_parts (nat_lt r.from r.to) (nat_le r.to (place + length left)) p.1 in
    let a : place ≤ r.from = le_true place r.from p.0 in
    let b : r.from < r.to = lt_true r.from r.to q.0 in
    let c : r.to ≤ place + length left = le_true r.to (place + length left) q.1 in
    let gap = take (r.from - place) left in
    let tail = drop (r.from - place) left in
    let part = take (r.to - r.from) tail in
    let last = drop (r.to - r.from) tail in
    let last_is : last ≡ drop (r.to - place) left = drop-drop (r.to - r.from) (r.from - place) left ∙ ap (λ n. drop n left) (omega (arith, a, b)) in
    let left_is : gap ++ (part ++ last) ≡ left = ap (λ l. gap ++ l) (take-append-drop (r.to - r.from) tail) ∙ take-append-drop (r.from - place) left in
    let gap_size : length gap + length tail ≡ length left = sym (length-append gap tail) ∙ ap length (take-append-drop (r.from - place) left) in
    let tail_size : length tail ≡ length left - (r.from - place) = length-drop (r.from - place) left in
    let part_size : length part + length last ≡ length tail = sym (length-append part last) ∙ ap length (take-append-drop (r.to - r.from) tail) in
    let last_size : length last ≡ length tail - (r.to - r.from) = length-drop (r.to - r.from) tail in
    let bare_left : bare left ≡ bare gap ++ (bare part ++ bare last) = ap bare (sym left_is) ∙ map-append plain gap (part ++ last) ∙ ap (λ l. bare gap ++ l) (map-append plain part last) in
    let text_so : text ≡ (d.done ++ bare gap) ++ (bare part ++ bare last) = d.text_is ∙ ap (λ l. d.done ++ l) bare_left ∙ sym (append_assoc d.done (bare gap) (bare part ++ bare last)) in
    let gap_long : length (bare gap) ≡ length gap = length-map gap plain in
    let part_long : length (bare part) ≡ length part = length-map part plain in
    let one : length (d.done ++ bare gap) ≡ r.from = let h = length-append d.done (bare gap) in omega (arith, a, b, c, h, gap_long, gap_size, tail_size, d.long) in
    let two : length ((d.done ++ bare gap) ++ bare part) ≡ r.to = let h = length-append (d.done ++ bare gap) (bare part) in omega (arith, a, b, c, h, one, part_long, gap_size, tail_size, part_size, last_size) in
    let cells = map (λ c. let x : Cell = (c, r.set) in x) part in
    let done = d.done ++ (bare gap ++ cells) in
    let mid_long : length cells ≡ length part = length-map part (λ c. let x : Cell = (c, r.set) in x) in
    let set_so : with_sets r.from r.to (edited (Replace r.set)) text ≡ (d.done ++ bare gap) ++ (cells ++ bare last) =
    ap (with_sets r.from r.to (edited (Replace r.set))) text_so ∙ parts_set (d.done ++ bare gap) (bare part) (bare last) r.from r.to r.set one two ∙ ap (λ l. (d.done ++ bare gap) ++ (l ++ bare last)) (set_bare part r.set) in
    let dropped : last ≡ drop r.to chars = last_is ∙ drop-drop (r.to - place) place chars ∙ ap (λ n. drop n chars) (omega (arith, a, b)) in
    record {
      done = done;
      text_is = set_so ∙ append_assoc d.done (bare gap) (cells ++ bare last) ∙ ap (λ l. d.done ++ l) (sym (append_assoc (bare gap) cells (bare last))) ∙ sym (append_assoc d.done (bare gap ++ cells) (bare last)) ∙ ap (λ l. done ++ bare l) dropped;
      long = let h = length-append d.done (bare gap ++ cells) in let k = length-append (bare gap) cells in omega (arith, a, b, c, h, k, mid_long, gap_long, gap_size, tail_size, part_size, last_size, d.long);
      within = let h = length-drop place chars in omega (arith, c, h, d.within);
      whole = sym (ap (λ l. behind_cells done (cells_from r.to l runs)) (sym last_is ∙ dropped)) ∙ sym (cells_join d.done (bare gap) cells (cells_from r.to (drop (r.to - place) left) runs)) ∙ (rw test at d.whole);
    }
  where
    plain : Ch → Cell
    plain c = (c, [])

-- THE LOOP
module _ {A : Type 0} (f : A → Run) (chars : List Ch) (runs : List A) where
  next_run : (i : ℕ) (x : A) → i < length runs → x ≡ get_or runs i x → map f (drop i runs) ≡ f x ∷ map f (drop (i + 1) runs)
  next_run i x within is = ap (map f) (drop_more runs i x within ∙ ap (λ (y : A). y ∷ drop (i + 1) runs) (sym is))

  pub unfit_next : (place : ℕ) (text : List Cell) (i : ℕ) (x : A) (size : ℕ) → i < length runs → x ≡ get_or runs i x → size ≡ length text → Dressed chars (map f runs) place text (map f (drop i runs)) →
      false ≡ (nat_le place (f x).from && (nat_lt (f x).from (f x).to && nat_le (f x).to size)) → None ≡ cells_from 0 chars (map f runs)
  unfit_next place text i x size within is e d t =
      sym (unfit_run chars (map f runs) place text (f x) (map f (drop (i + 1) runs)) (subst (Dressed chars (map f runs) place text) (next_run i x within is) d)
      (ap (λ n. nat_le place (f x).from && (nat_lt (f x).from (f x).to && nat_le (f x).to n)) (sym e) ∙ sym t))

  pub put_next : (place : ℕ) (text new : List Cell) (i : ℕ) (x : A) (size : ℕ) → i < length runs → x ≡ get_or runs i x → size ≡ length text → Dressed chars (map f runs) place text (map f (drop i runs)) →
      true ≡ (nat_le place (f x).from && (nat_lt (f x).from (f x).to && nat_le (f x).to size)) → new ≡ with_sets (f x).from (f x).to (edited (Replace (f x).set)) text →
      Dressed chars (map f runs) (f x).to new (map f (drop (i + 1) runs))
  put_next place text new i x size within is e d t put_so =
      subst (λ (l : List Cell). Dressed chars (map f runs) (f x).to l (map f (drop (i + 1) runs))) (sym put_so)
      (put_run chars (map f runs) place text (f x) (map f (drop (i + 1) runs)) (subst (Dressed chars (map f runs) place text) (next_run i x within is) d)
      (ap (λ n. nat_le place (f x).from && (nat_lt (f x).from (f x).to && nat_le (f x).to n)) (sym e) ∙ sym t))

  pub all_put : (place : ℕ) (text : List Cell) (i : ℕ) → length runs ≤ i → Dressed chars (map f runs) place text (map f (drop i runs)) → Some text ≡ cells_from 0 chars (map f runs)
  all_put place text i behind d = sym (all_dressed chars (map f runs) place text (subst (λ l. Dressed chars (map f runs) place text (map f l)) (drop_of_length-le runs behind) d))

pub fits_within : (place from to size long : ℕ) → true ≡ (nat_le place from && (nat_lt from to && nat_le to size)) → size ≡ long → (from ≤ to) × (to ≤ long)
fits_within place from to size long t e =
    let p = and_parts (nat_le place from) (nat_lt from to && nat_le to size) (sym t) in
    let q = and_parts (nat_lt from to) (nat_le to size) p.1 in
    let a : from < to = lt_true from to q.0 in
    let b : to ≤ size = le_true to size q.1 in
    (omega (arith, a), omega (arith, b, e))
