-- A buffer is taken out, and the others stay.
use Rattle.std.proofs.Common.{◌≡◌, ◌≢◌, ℕ, zero, suc, ◌+◌, ◌<◌, ◌≤◌, Bool, true, false, List, [], ◌∷◌, ◌++◌, Option, Some, None, length, map, drop, get_or, refl, sym, ap, subst, ◌∙◌, inl, inr, arith}
use Rattle.std.specs.Prelude.{slice_get, slice_set, option_map, unwrap_or, is_some, IfSome, ◌==◌, if◌then◌else◌}
use Rattle.std.specs.List.{zip}
use Rattle.std.proofs.lemmas.Bool.{cases_eq}
use Rattle.std.proofs.lemmas.List.{length-set, length-map, map-set, set-append_left}
use Rattle.std.proofs.lemmas.List.Elements.{All-weaker, All-map}
use Rattle.std.proofs.lemmas.Option.{same_Some, slice_get-map, slice_get_within, slice_get_read, slice_get-get_or}
use Rattle.text_model.specs.Characters.{Ch}
use Rattle.text_model.specs.Marks.{Marks, Marker, Overlay, Spot, Span, leave_buffer, marker_left, overlay_left}
use Rattle.text_model.specs.PropertyQuestions.{first}
use Rattle.text_model.proofs.Cases.{by_test}
use Rattle.text_model.proofs.Lists.{set_same, set_other, drop_at, mapped_at, get_front}
use Rattle.editor_model.specs.Editor as shown
use Rattle.editor_model.specs.Editor.{Editor, Live, live_from}
use Rattle.text_pool.specs.Pool.{Pooled}
use Rattle.text_pool.specs.Pool as pool
use Rattle.gap_text.specs.Blocks.{SameOutside}
use Rattle.gap_text.specs.Text.{LiesIn}
use Rattle.gap_text.proofs.Elsewhere.{text_elsewhere, same_characters}
use Rattle.buffer_core.specs.Meaning.{buffer_of}
use Rattle.buffer_core.specs.Standing.{AreWithin, MarkerWithin, OverlayWithin}
use Rattle.buffer_table.specs.Kept.{Named, Kept, Lives, AreKept, IsKept, is_live, nobody, named_at, live_of, editor_of, blocks_in, blocks_of}
use Rattle.buffer_table.specs.Places.{gone}
use Rattle.buffer_table.proofs.StandLemmas.{stand_left}
use Rattle.buffer_table.proofs.KeptLemmas.{map_others, all_with, editor_with, live_last}

-- MARKS
marker_leaves : (b id size : ℕ) (m : Marker) → MarkerWithin id size m → MarkerWithin id size (marker_left b m)
marker_leaves b id size m w = go m.spot w
  where
    go : (o : Option Spot) → IfSome o (λ s. s.buffer ≡ id → s.place ≤ size) → IfSome (elim o [ None ↦ None | Some s ↦ if s.buffer == b then None else Some s ]) (λ s. s.buffer ≡ id → s.place ≤ size)
    go None w = w
    go (Some s) w = by_test (λ t. IfSome t (λ s. s.buffer ≡ id → s.place ≤ size)) (s.buffer == b) None (Some s) (λ _. tt) (λ _. w)

overlay_leaves : (b id size : ℕ) (o : Overlay) → OverlayWithin id size o → OverlayWithin id size (overlay_left b o)
overlay_leaves b id size o w = go o.span w
  where
    go : (x : Option Span) → IfSome x (λ s. s.buffer ≡ id → (s.start ≤ size) × (s.end ≤ size)) → IfSome (elim x [ None ↦ None | Some s ↦ if s.buffer == b then None else Some s ]) (λ s. s.buffer ≡ id → (s.start ≤ size) × (s.end ≤ size))
    go None w = w
    go (Some s) w = by_test (λ t. IfSome t (λ s. s.buffer ≡ id → (s.start ≤ size) × (s.end ≤ size))) (s.buffer == b) None (Some s) (λ _. tt) (λ _. w)

leaves : (b id size : ℕ) (marks : Marks) → AreWithin id size marks → AreWithin id size (leave_buffer b marks)
leaves b id size marks w =
    record {
      markers = All-map (MarkerWithin id size) (marker_left b) marks.markers (All-weaker (MarkerWithin id size) (λ m. MarkerWithin id size (marker_left b m)) (marker_leaves b id size) marks.markers w.markers);
      overlays = All-map (OverlayWithin id size) (overlay_left b) marks.overlays (All-weaker (OverlayWithin id size) (λ o. OverlayWithin id size (overlay_left b o)) (overlay_leaves b id size) marks.overlays w.overlays);
      saved = w.saved;
    }

-- BUFFERS
lives_without : (buffers : List (Option Named)) (id other : ℕ) (n m : Named) → Lives buffers id n → Lives (slice_set buffers id None) other m → (other ≢ id) × Lives buffers other m
lives_without buffers id other n m lives l = elim (cases_eq other id) [
  | inl e ↦ absurd (nobody_there (same_Some None (Some m) (sym (set_same buffers id None (Some n) lives) ∙ subst (λ i. slice_get (slice_set buffers id None) i ≡ Some (Some m)) e l)))
  | inr e ↦ (e, sym (set_other buffers id other None e) ∙ l)
]
  where
    nobody_there : None ≡ Some m → ⊥
    nobody_there h = cc

blocks_without : (buffers : List (Option Named)) (id : ℕ) (n : Named) → Lives buffers id n → blocks_in (slice_set buffers id None) + length n.buffer.text.blocks ≡ blocks_in buffers
blocks_without [] id n h = cc
blocks_without (x ∷ buffers) zero n h = (let e : x ≡ Some n = same_Some x (Some n) h in rw e (omega arith))
blocks_without (None ∷ buffers) (suc id) n h = blocks_without buffers id n h
blocks_without (Some m ∷ buffers) (suc id) n h = let r : blocks_in (slice_set buffers id None) + length n.buffer.text.blocks ≡ blocks_in buffers = blocks_without buffers id n h in omega arith

-- what giving back the blocks of a buffer does
pub record GivesBack (blocks : List ℕ) (old new : Pooled) : Type 0 where
  pub others : SameOutside blocks old new
  pub count : pool.live new + length blocks ≡ pool.live old

pub gives_back : (entry : Option Named) (n : Named) (old new : Pooled) → entry ≡ Some n → SameOutside (blocks_of entry) old new → pool.live new + length (blocks_of entry) ≡ pool.live old → GivesBack n.buffer.text.blocks old new
gives_back entry n old new is others count =
    record { others = subst (λ (o : Option Named). SameOutside (blocks_of o) old new) is others; count = subst (λ (o : Option Named). pool.live new + length (blocks_of o) ≡ pool.live old) is count }

pub entry_lies : (k : Kept) (entry : Option Named) (id : ℕ) (n : Named) → IsKept k → Lives k.buffers id n → entry ≡ Some n → IfSome entry (λ n. LiesIn k.pool n.buffer.text)
entry_lies k entry id n kept lives is = subst (λ (o : Option Named). IfSome o (λ n. LiesIn k.pool n.buffer.text)) (sym is) (kept.all.lie id n lives)

abbrev pub without : Kept → (id : ℕ) → Pooled → Kept
without k id new = record k { buffers = slice_set k.buffers id None; marks = leave_buffer id k.marks; pool = new }

live_elsewhere : (buffers : List (Option Named)) (id j : ℕ) → j ≢ id → is_live buffers j ≡ true → is_live (slice_set buffers id None) j ≡ true
live_elsewhere [] id j e h = h
live_elsewhere (x ∷ buffers) zero zero e h = absurd (e refl)
live_elsewhere (x ∷ buffers) zero (suc j) e h = h
live_elsewhere (x ∷ buffers) (suc id) zero e h = h
live_elsewhere (x ∷ buffers) (suc id) (suc j) e h = live_elsewhere buffers id j (λ k. e (ap suc k)) h

all_without : (k : Kept) (id : ℕ) (n : Named) (new : Pooled) → AreKept k → Lives k.buffers id n → GivesBack n.buffer.text.blocks k.pool new → AreKept (without k id new)
all_without k id n new kept lives g =
    record {
      few = (let e = length-set k.buffers id None in let f = kept.few in omega arith);
      names = λ a b x y differ l r. kept.names a b x y differ (lives_without k.buffers id a n x lives l).1 (lives_without k.buffers id b n y lives r).1;
      lie = λ other m l.
          let w = lives_without k.buffers id other n m lives l in
          (text_elsewhere k.pool new m.buffer.text n.buffer.text.blocks g.others (kept.apart other id m n w.0 w.1 lives) (kept.lie other m w.1)).lies;
      apart = λ a b x y differ l r. kept.apart a b x y differ (lives_without k.buffers id a n x lives l).1 (lives_without k.buffers id b n y lives r).1;
      stand = stand_left (is_live k.buffers) (is_live (slice_set k.buffers id None)) id (live_elsewhere k.buffers id) k.marks kept.stand;
      within = λ other m l. leaves id other (length m.buffer.sets) k.marks (kept.within other m (lives_without k.buffers id other n m lives l).1);
      unmade = λ other l. leaves id other 0 k.marks (kept.unmade other (let e = length-set k.buffers id None in omega arith));
      account = (let a = blocks_without k.buffers id n lives in let b = g.count in let d = kept.account in omega arith);
    }

pub kept_without : (k : Kept) (id : ℕ) (n : Named) (new : Pooled) → IsKept k → Lives k.buffers id n → k.current ≢ id → GivesBack n.buffer.text.blocks k.pool new → IsKept (without k id new)
kept_without k id n new kept lives aside g = record { all = all_without k id n new kept.all lives g; here = live_elsewhere k.buffers id k.current aside kept.here }

pub editor_without : (k : Kept) (id : ℕ) (n : Named) (new : Pooled) → IsKept k → Lives k.buffers id n → GivesBack n.buffer.text.blocks k.pool new → editor_of (without k id new) ≡ gone id (editor_of k)
editor_without k id n new kept lives g =
    ap (λ (bs : List (Option Live)). let x : Editor = record (editor_of k) { buffers = bs; marks = leave_buffer id k.marks } in x)
    (map_others (option_map (live_of new)) (option_map (live_of k.pool)) k.buffers id None (λ j x e l. other j x e l))
  where
    other : (j : ℕ) (x : Option Named) → j ≢ id → slice_get k.buffers j ≡ Some x → option_map (live_of new) x ≡ option_map (live_of k.pool) x
    other j None e l = refl
    other j (Some m) e l =
        ap (λ (cs : List Ch). let b : Live = record { name = m.name; buffer = record (buffer_of k.pool m.buffer) { text = zip cs m.buffer.sets }; read_only = m.read_only } in Some b)
        (same_characters k.pool new m.buffer.text m.buffer.text (text_elsewhere k.pool new m.buffer.text n.buffer.text.blocks g.others (kept.all.apart j id m n e l lives) (kept.all.lie j m l)))

-- THE OTHERS THAT LIVE
pub other_passed : (buffers : List (Option Live)) (i : ℕ) (e : Option Live) (whole : Option ℕ) → slice_get buffers i ≡ Some e → is_some e ≡ false → first (live_from i (drop i buffers)) ≡ whole → first (live_from (i + 1) (drop (i + 1) buffers)) ≡ whole
other_passed buffers i None whole at h so_far = sym (ap (λ bs. first (live_from i bs)) (drop_at buffers i None at)) ∙ so_far
other_passed buffers i (Some l) whole at h so_far = cc

pub other_met : (buffers : List (Option Live)) (i : ℕ) (e : Option Live) (whole : Option ℕ) → slice_get buffers i ≡ Some e → is_some e ≡ true → first (live_from i (drop i buffers)) ≡ whole → Some i ≡ whole
other_met buffers i None whole at h so_far = cc
other_met buffers i (Some l) whole at h so_far = sym (ap (λ bs. first (live_from i bs)) (drop_at buffers i (Some l) at)) ∙ so_far

pub shown_at : (pool : Pooled) (buffers : List (Option Named)) (id i : ℕ) (e : Option Named) → i < length buffers → e ≡ get_or buffers i e → i ≢ id → slice_get (slice_set (map (option_map (live_of pool)) buffers) id None) i ≡ Some (option_map (live_of pool) e)
shown_at pool buffers id i e l at apart =
    set_other (map (option_map (live_of pool)) buffers) id i None apart ∙ mapped_at (option_map (live_of pool)) buffers i e (slice_get_read buffers (length buffers) i e refl l at)

pub shown_out : (pool : Pooled) (buffers : List (Option Named)) (i : ℕ) → i < length buffers → slice_get (slice_set (map (option_map (live_of pool)) buffers) i None) i ≡ Some None
shown_out pool buffers i l =
    set_same (map (option_map (live_of pool)) buffers) i None (get_or (map (option_map (live_of pool)) buffers) i None) (slice_get-get_or (map (option_map (live_of pool)) buffers) i None (let e = length-map buffers (option_map (live_of pool)) in omega arith))

pub shown_some : (pool : Pooled) (e : Option Named) (b : Bool) → b ≡ is_some e → is_some (option_map (live_of pool) e) ≡ b
shown_some pool None b h = sym h
shown_some pool (Some n) b h = sym h

-- THE ONLY ONE KILLED
no_first : (ids : List ℕ) → None ≡ first ids → ids ≡ []
no_first [] h = refl
no_first (i ∷ ids) h = cc

lives_within : (e : Editor) (id : ℕ) → shown.is_live e id ≡ true → id < length e.buffers
lives_within e id h = go e.buffers id h
  where
    go : (bs : List (Option Live)) (id : ℕ) → is_some (unwrap_or (slice_get bs id) None) ≡ true → id < length bs
    go [] id h = cc
    go (b ∷ bs) zero h = omega arith
    go (b ∷ bs) (suc id) h = let l : id < length bs = go bs id h in omega arith

pub only_killed : (old less : Editor) (id new : ℕ) (name : List Ch) → None ≡ first (live_from 0 (slice_set old.buffers id None)) → name ≡ shown.scratch → new ≡ length old.buffers
    → less ≡ shown.with_buffer name (gone id old) → ◌≡◌ {A = Editor} (record less { current = new }) (shown.killed id old)
only_killed old less id new name none is_name is_new is_less =
    let made : Option Live = Some (shown.new_live shown.scratch) in
    let rest : List (Option Live) = slice_set old.buffers id None in
    ap (λ (e : Editor). let x : Editor = record e { current = new } in x) (is_less ∙ ap (λ (n : List Ch). shown.with_buffer n (gone id old)) is_name)
    ∙ ap (λ n. let x : Editor = record old { buffers = rest ++ made ∷ []; marks = leave_buffer id old.marks; current = n } in x) (is_new ∙ sym (length-set old.buffers id None))
    ∙ sym (ap (λ (ids : List ℕ). let x : Editor = (elim ids [
      | [] ↦ record old { buffers = rest ++ made ∷ []; marks = leave_buffer id old.marks; current = length rest }
      | i ∷ more ↦ if old.current == id then record old { buffers = rest; marks = leave_buffer id old.marks; current = i } else record old { buffers = rest; marks = leave_buffer id old.marks }
    ]) in x) (no_first (live_from 0 rest) none))

-- no other buffer lives
none_left : (i : ℕ) (bs : List (Option Live)) → live_from i bs ≡ [] → (j : ℕ) (l : Live) → slice_get bs j ≡ Some (Some l) → ⊥
none_left i [] h j l at = cc
none_left i (None ∷ bs) h zero l at = cc
none_left i (None ∷ bs) h (suc j) l at = none_left (i + 1) bs h j l at
none_left i (Some b ∷ bs) h j l at = cc

no_others : (k : Kept) (id : ℕ) → None ≡ first (live_from 0 (slice_set (editor_of k).buffers id None)) → (j : ℕ) (m : Named) → Lives (slice_set k.buffers id None) j m → ⊥
no_others k id none j m l =
    none_left 0 (slice_set (editor_of k).buffers id None) (no_first (live_from 0 (slice_set (editor_of k).buffers id None)) none) j (live_of k.pool m)
    (ap (λ bs. slice_get bs j) (sym (map-set (option_map (live_of k.pool)) k.buffers id None)) ∙ slice_get-map (option_map (live_of k.pool)) (slice_set k.buffers id None) j ∙ ap (option_map (option_map (live_of k.pool))) l)

-- a buffer in the place of the only one
abbrev pub instead : Kept → (id : ℕ) → Named → Pooled → Kept
instead k id made new = record k { buffers = slice_set (k.buffers ++ Some made ∷ []) id None; current = length k.buffers; marks = leave_buffer id k.marks; pool = new }

pub kept_instead : (k : Kept) (id : ℕ) (n made : Named) (new : Pooled) → IsKept k → Lives k.buffers id n → None ≡ first (live_from 0 (slice_set (editor_of k).buffers id None)) → GivesBack n.buffer.text.blocks k.pool new
    → length k.buffers < 256 → made.buffer.text.blocks ≡ [] → made.buffer.sets ≡ [] → LiesIn new made.buffer.text → IsKept (instead k id made new)
kept_instead k id n made new kept lives none g few blocks sets lies =
    let rest : List (Option Named) = slice_set k.buffers id None in
    let size : length rest ≡ length k.buffers = length-set k.buffers id None in
    let kept_less : AreKept (without k id new) = all_without k id n new kept.all lives g in
    let kept_more : AreKept (record (without k id new) { buffers = rest ++ Some made ∷ [] }) = all_with (without k id new) made kept_less (omega arith) (λ j m l. absurd (no_others k id none j m l)) blocks sets lies in
    subst (λ (bs : List (Option Named)). IsKept (record k { buffers = bs; current = length k.buffers; marks = leave_buffer id k.marks; pool = new }))
    (sym (set-append_left k.buffers (Some made ∷ []) id None (slice_get_within k.buffers id (Some n) lives)))
    (record {
      all = record { few = kept_more.few; names = kept_more.names; lie = kept_more.lie; apart = kept_more.apart; stand = kept_more.stand; within = kept_more.within; unmade = kept_more.unmade; account = kept_more.account };
      here = subst (λ i. is_live (rest ++ Some made ∷ []) i ≡ true) size (live_last rest made);
    })

pub editor_instead : (k : Kept) (id : ℕ) (n : Named) (name : List Ch) (made : Named) (new : Pooled) → IsKept k → Lives k.buffers id n → None ≡ first (live_from 0 (slice_set (editor_of k).buffers id None))
    → GivesBack n.buffer.text.blocks k.pool new → live_of new made ≡ shown.new_live name → name ≡ shown.scratch → editor_of (instead k id made new) ≡ shown.killed id (editor_of k)
editor_instead k id n name made new kept lives none g empty is_name =
    let less : Kept = record (without k id new) { buffers = slice_set k.buffers id None ++ Some made ∷ [] } in
    ap (λ (bs : List (Option Named)). editor_of (record k { buffers = bs; current = length k.buffers; marks = leave_buffer id k.marks; pool = new }))
    (set-append_left k.buffers (Some made ∷ []) id None (slice_get_within k.buffers id (Some n) lives))
    ∙ only_killed (editor_of k) (editor_of less) id (length k.buffers) name none is_name (sym (length-map k.buffers (option_map (live_of k.pool))))
    (editor_with (without k id new) name made empty ∙ ap (shown.with_buffer name) (editor_without k id n new kept lives g))

pub front_kept : (buffers : List (Option Named)) (new : Option Named) (id : ℕ) → id < length buffers → named_at (buffers ++ new ∷ []) id ≡ named_at buffers id
front_kept buffers new id h = ap (λ o. unwrap_or (unwrap_or o None) nobody) (get_front buffers (new ∷ []) id h)

pub live_within : (k : Kept) (id : ℕ) → shown.is_live (editor_of k) id ≡ true → id < length k.buffers
live_within k id h = let l = lives_within (editor_of k) id h in let e = length-map k.buffers (option_map (live_of k.pool)) in omega arith
