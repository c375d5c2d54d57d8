-- What is shown, from one edge of an overlay to the next.
use Rattle.std.proofs.Common.{◌≡◌, ℕ, ◌+◌, ◌-◌, ◌<◌, ◌≤◌, ◌||◌, nat_lt, if◌then◌else◌, List, [], ◌∷◌, ◌++◌, filter, flat_map, length, is_some, refl, sym, ap, ap₂, ◌∙◌, arith, append_assoc, append-nil}
use Rattle.std.specs.List.{list_any}
use Rattle.std.proofs.lemmas.Bool.{le-ltb}
use Rattle.text_model.specs.Characters.{Ch}
use Rattle.text_model.specs.Properties.{Cell, PropSet, get, part}
use Rattle.text_model.specs.Marks.{Overlay}
use Rattle.final_view.specs.Shown.{Scene, strings_at, closing, opening, is_hidden, seen, shown_from, invisible}
use Rattle.final_view.specs.Visible.{visible, visible_one}
use Rattle.final_view.specs.Marks.{Rises, Pass, Cover, covered, start_key, end_key, starts_here, ends_here, opened_of, closed_of, hides_at}
use Rattle.final_view.specs.Scenes.{Fits}
use Rattle.final_view.specs.declared.mark.Mark.{Mark}
use Rattle.final_view.proofs.Passing.{rises_more, none_before}
use Rattle.final_view.proofs.Places.{starts_sound, ends_sound, none_hides, or_false}
use Rattle.final_view.proofs.Visible.{parts, part_length, no_part}

-- A STRETCH WITHOUT EDGES
module _ (scene : Scene) where
  -- what is shown from a place on, but for the strings there
  abbrev tail_from : ℕ → List Cell → List Ch
  tail_from p [] = []
  tail_from p (c ∷ cells) = seen scene p c ++ shown_from scene (p + 1) cells

  from_is : (p : ℕ) (cells : List Cell) → shown_from scene p cells ≡ strings_at scene p ++ tail_from p cells
  from_is p [] = sym (append-nil (strings_at scene p))
  from_is p (c ∷ cells) = refl

  abbrev Quiet : (until p size : ℕ) → Type 0
  Quiet until p size = ((q : ℕ) → p < q → q < p + size → strings_at scene q ≡ []) × ((q : ℕ) (set : PropSet) → p ≤ q → q < p + size → is_hidden scene q set ≡ nat_lt q until || is_some (get set invisible))

  one_seen : (until p : ℕ) (c : Cell) → is_hidden scene p c.1 ≡ nat_lt p until || is_some (get c.1 invisible) → seen scene p c ≡ visible_one until p c
  one_seen until p c h = ap (λ b. if b then [] else c.0 ∷ []) h

  stretch_is : (until p : ℕ) (front rest : List Cell) → 0 < length front → Quiet until p (length front) → tail_from p (front ++ rest) ≡ visible until p front ++ shown_from scene (p + length front) rest
  stretch_is until p [] rest h quiet = absurd (omega (arith, h))
  stretch_is until p (c ∷ []) rest h quiet =
      ap (λ a. a ++ shown_from scene (p + 1) rest) (one_seen until p c (quiet.1 p c.1 (omega arith) (omega arith)) ∙ sym (append-nil (visible_one until p c)))
  stretch_is until p (c ∷ d ∷ more) rest h quiet =
      let next : shown_from scene (p + 1) (d ∷ more ++ rest) ≡ tail_from (p + 1) (d ∷ more ++ rest) =
      ap (λ a. a ++ tail_from (p + 1) (d ∷ more ++ rest)) (quiet.0 (p + 1) (omega arith) (omega arith)) in
      let on = stretch_is until (p + 1) (d ∷ more) rest (omega arith) (λ q j k. quiet.0 q (omega (arith, j)) (omega (arith, k)), λ q set j k. quiet.1 q set (omega (arith, j)) (omega (arith, k))) in
      let far : p + 1 + length (d ∷ more) ≡ p + length (c ∷ d ∷ more) = omega arith in
      ap₂ (λ a b. a ++ b) (one_seen until p c (quiet.1 p c.1 (omega arith) (omega arith))) (next ∙ on ∙ ap (λ n. visible until (p + 1) (d ∷ more) ++ shown_from scene n rest) far)
      ∙ sym (append_assoc (visible_one until p c) (visible until (p + 1) (d ∷ more)) (shown_from scene (p + length (c ∷ d ∷ more)) rest))

module _ (os : List Overlay) (cells : List Cell) (openers closers : List Mark) (first last : ℕ) where
  abbrev pub closed_at : ℕ → List Mark → List Ch
  closed_at q marks = flat_map (closed_of os) (filter (ends_here first q) marks)

  abbrev pub opened_at : ℕ → List Mark → List Ch
  opened_at q marks = flat_map (opened_of os) (filter (starts_here last q) marks)

  -- what was passed is printed, and what is left decides all that follows
  pub record Swept (at until : ℕ) (ended started : List Mark) (printed : List Ch) : Type 0 where
    pub behind : first ≤ at
    pub within : at ≤ last
    pub ends : Rises end_key 0 ended
    pub starts : Rises start_key 0 started
    pub closing : (q : ℕ) → at ≤ q → filter (ends_here first q) ended ≡ filter (ends_here first q) closers
    pub opening : (q : ℕ) → at ≤ q → filter (starts_here last q) started ≡ filter (starts_here last q) openers
    pub hidden : (q : ℕ) → at ≤ q → covered os until started q ≡ list_any (hides_at os q) openers
    pub shown : (scene : Scene) → Fits os openers closers first last scene → printed ++ shown_from scene at (part at last cells) ≡ shown_from scene first (part first last cells)

  pub swept_begins : first ≤ last → Rises end_key 0 closers → Rises start_key 0 openers → Swept first 0 closers openers []
  swept_begins order ends starts = record {
    behind = omega arith;
    within = order;
    ends = ends;
    starts = starts;
    closing = λ q h. refl;
    opening = λ q h. refl;
    hidden = λ q h. ap (λ b. b || list_any (hides_at os q) openers) (le-ltb q 0 (omega arith));
    shown = λ scene f. refl;
  }

  module _ (scene : Scene) (f : Fits os openers closers first last scene) where
    strings_are : (q : ℕ) (ended started : List Mark) → filter (ends_here first q) ended ≡ filter (ends_here first q) closers → filter (starts_here last q) started ≡ filter (starts_here last q) openers
        → closed_at q ended ++ opened_at q started ≡ strings_at scene q
    strings_are q ended started h k =
        ap₂ (λ a b. a ++ b) (ap (flat_map (closed_of os)) h ∙ f.closing q ∙ ap (λ n. closing n q scene.ranked) (sym f.begins)) (ap (flat_map (opened_of os)) k ∙ f.opening q ∙ ap (λ n. opening n q scene.ranked) (sym f.ends))

  module _ (at until old_until to : ℕ) (old_ended old_started ended started : List Mark) (printed : List Ch) (s : Swept at old_until old_ended old_started printed)
      (pass_ends : Pass end_key (ends_here first) at old_ended ended) (pass_starts : Pass start_key (starts_here last) at old_started started) (cover : Cover os at old_until until old_started started)
      (more : at < to) (upto : to ≤ last) (inside : last ≤ length cells) (next_end : Rises end_key to ended) (next_start : Rises start_key to started) where
    new_closing : (q : ℕ) → at < q → filter (ends_here first q) ended ≡ filter (ends_here first q) closers
    new_closing q h = pass_ends.left q h ∙ s.closing q (omega (arith, h))

    new_opening : (q : ℕ) → at < q → filter (starts_here last q) started ≡ filter (starts_here last q) openers
    new_opening q h = pass_starts.left q h ∙ s.opening q (omega (arith, h))

    new_hidden : (q : ℕ) → at ≤ q → covered os until started q ≡ list_any (hides_at os q) openers
    new_hidden q h = cover.by q h ∙ s.hidden q h

    module _ (scene : Scene) (f : Fits os openers closers first last scene) where
      size : length (part at to cells) ≡ to - at
      size = part_length at to cells (omega (arith, upto, inside))

      quiet : Quiet scene until at (length (part at to cells))
      quiet = (
        λ q h k.
            sym (strings_are scene f q ended started (new_closing q h) (new_opening q h))
            ∙ ap₂ (λ a b. flat_map (closed_of os) a ++ flat_map (opened_of os) b) (none_before end_key (ends_here first) (ends_sound first) to ended next_end q (omega (arith, size, k, more))) (none_before start_key (starts_here last) (starts_sound last) to started next_start q (omega (arith, size, k, more))),
        λ q set h k. f.hidden q set ∙ ap (λ b. b || is_some (get set invisible)) (sym (new_hidden q h) ∙ ap (λ b. nat_lt q until || b) (none_hides os q to started next_start (omega (arith, size, k, more))) ∙ or_false (nat_lt q until)),
      )

      shown_on : (((printed ++ closed_at at old_ended) ++ opened_at at old_started) ++ visible until at (part at to cells)) ++ shown_from scene to (part to last cells) ≡ shown_from scene first (part first last cells)
      shown_on =
          let a = closed_at at old_ended in
          let b = opened_at at old_started in
          let v = visible until at (part at to cells) in
          let rest = shown_from scene to (part to last cells) in
          let there : at + length (part at to cells) ≡ to = omega (arith, size, more) in
          let tail : tail_from scene at (part at last cells) ≡ v ++ rest =
          ap (tail_from scene at) (parts at to last cells (omega (arith, more)) upto)
          ∙ stretch_is scene until at (part at to cells) (part to last cells) (omega (arith, size, more)) quiet ∙ ap (λ n. v ++ shown_from scene n (part to last cells)) there in
          let whole : shown_from scene at (part at last cells) ≡ (a ++ b) ++ (v ++ rest) =
          from_is scene at (part at last cells) ∙ ap₂ (λ x y. x ++ y) (sym (strings_are scene f at old_ended old_started (s.closing at (omega arith)) (s.opening at (omega arith)))) tail in
          append_assoc ((printed ++ a) ++ b) v rest ∙ ap (λ l. l ++ (v ++ rest)) (append_assoc printed a b) ∙ append_assoc printed (a ++ b) (v ++ rest) ∙ ap (λ l. printed ++ l) (sym whole) ∙ s.shown scene f

    pub swept_on : Swept to until ended started (((printed ++ closed_at at old_ended) ++ opened_at at old_started) ++ visible until at (part at to cells))
    swept_on = record {
      behind = omega (arith, s.behind, more);
      within = upto;
      ends = rises_more end_key 0 to ended (omega arith) next_end;
      starts = rises_more start_key 0 to started (omega arith) next_start;
      closing = λ q h. new_closing q (omega (arith, h, more));
      opening = λ q h. new_opening q (omega (arith, h, more));
      hidden = λ q h. new_hidden q (omega (arith, h, more));
      shown = shown_on;
    }

  -- at the last place only strings are left
  pub swept_ends : (at until : ℕ) (ended started : List Mark) (printed : List Ch) → Swept at until ended started printed → last ≤ at → (scene : Scene) → Fits os openers closers first last scene
      → (printed ++ closed_at at ended) ++ opened_at at started ≡ shown_from scene first (part first last cells)
  swept_ends at until ended started printed s h scene f =
      let same : at ≡ last = omega (arith, h, s.within) in
      let empty : part at last cells ≡ [] = ap (λ n. part at n cells) (sym same) ∙ no_part at cells in
      append_assoc printed (closed_at at ended) (opened_at at started) ∙ ap (λ l. printed ++ l) (strings_are scene f at ended started (s.closing at (omega arith)) (s.opening at (omega arith)) ∙ ap (shown_from scene at) (sym empty)) ∙ s.shown scene f
