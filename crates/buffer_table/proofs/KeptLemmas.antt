-- One buffer changes, and the others stay.
use Rattle.std.proofs.Common.{◌≡◌, ◌≢◌, ◌⊎◌, ℕ, zero, suc, ◌+◌, ◌<◌, ◌≤◌, Bool, true, false, List, [], ◌∷◌, ◌++◌, length, map, get_or, refl, sym, ap, subst, ◌∙◌, inl, inr, arith}
use Rattle.std.specs.Prelude.{slice_get, slice_set, Option, Some, None, option_map, unwrap_or, is_some}
use Rattle.std.proofs.lemmas.Bool.{cases_eq}
use Rattle.std.proofs.lemmas.List.{length-set, length_push, map-append, map-set}
use Rattle.std.proofs.lemmas.Option.{same_Some, slice_get-map, slice_get_within, slice_get_read}
use Rattle.std.specs.List.{zip}
use Rattle.text_model.specs.Characters.{Ch}
use Rattle.text_model.specs.Properties.{PropSet}
use Rattle.text_model.specs.Marks.{Marks}
use Rattle.text_model.specs.Commit.{Site, Buffer}
use Rattle.text_model.proofs.Lists.{set_same, set_other}
use Rattle.editor_model.specs.Editor as shown
use Rattle.editor_model.specs.Editor.{Editor, Live, live, change_site}
use Rattle.text_pool.specs.Pool.{Pooled}
use Rattle.gap_text.specs.Blocks.{Apart}
use Rattle.gap_text.specs.Text.{Gapped, characters, LiesIn}
use Rattle.gap_text.proofs.BlockLemmas.{apart_sym, apart_nil}
use Rattle.buffer_core.specs.Blocks.{ChangesBlocks}
use Rattle.buffer_core.specs.Meaning.{Stored, buffer_of, site_of}
use Rattle.buffer_core.specs.Standing.{AreWithin}
use Rattle.buffer_core.proofs.BlockLemmas.{no_change}
use Rattle.buffer_table.specs.Kept.{Named, Kept, Lives, AreKept, IsKept, is_live, named_at, nobody, live_of, editor_of, blocks_in}
use Rattle.buffer_table.specs.Standing.{StandIn}
use Rattle.buffer_table.proofs.StandLemmas.{stand_more}
use Rattle.buffer_core.proofs.Elsewhere.{StaysAs, stays, still_apart}

-- WHO LIVES
pub live_here : (buffers : List (Option Named)) (id : ℕ) (o : Option Named) (n : Named) → is_live buffers id ≡ true → o ≡ get_or buffers id o → o ≡ Some n → Lives buffers id n
live_here [] id o n h e s = cc
live_here (x ∷ buffers) zero o n h e s = ap Some (sym e ∙ s)
live_here (x ∷ buffers) (suc id) o n h e s = live_here buffers id o n h e s

pub none_here : (buffers : List (Option Named)) (id : ℕ) (o : Option Named) → is_live buffers id ≡ true → o ≡ get_or buffers id o → o ≡ None → ⊥
none_here [] id o h e s = cc
none_here (x ∷ buffers) zero o h e s = let k : is_some x ≡ false = ap is_some (sym e ∙ s) in cc
none_here (x ∷ buffers) (suc id) o h e s = none_here buffers id o h e s

pub held : (buffers : List (Option Named)) (id : ℕ) (o : Option Named) (n : Named) → Lives buffers id n → o ≡ get_or buffers id o → o ≡ Some n
held [] id o n h e = cc
held (x ∷ buffers) zero o n h e = cc
held (x ∷ buffers) (suc id) o n h e = held buffers id o n h e

pub live_changed : (buffers : List (Option Named)) (id : ℕ) (new : Named) (j : ℕ) → is_live buffers j ≡ true → is_live (slice_set buffers id (Some new)) j ≡ true
live_changed [] id new j h = h
live_changed (x ∷ buffers) zero new zero h = refl
live_changed (x ∷ buffers) zero new (suc j) h = h
live_changed (x ∷ buffers) (suc id) new zero h = h
live_changed (x ∷ buffers) (suc id) new (suc j) h = live_changed buffers id new j h

pub live_behind : (buffers : List (Option Named)) (last : Option Named) (j : ℕ) → is_live buffers j ≡ true → is_live (buffers ++ last ∷ []) j ≡ true
live_behind [] last j h = cc
live_behind (x ∷ buffers) last zero h = h
live_behind (x ∷ buffers) last (suc j) h = live_behind buffers last j h

pub live_last : (buffers : List (Option Named)) (n : Named) → is_live (buffers ++ Some n ∷ []) (length buffers) ≡ true
live_last [] n = refl
live_last (x ∷ buffers) n = live_last buffers n

pub some_lives : (buffers : List (Option Named)) (id : ℕ) → is_live buffers id ≡ true → (n : Named) × Lives buffers id n
some_lives [] id h = cc
some_lives (None ∷ buffers) zero h = cc
some_lives (Some n ∷ buffers) zero h = (n, refl)
some_lives (x ∷ buffers) (suc id) h = some_lives buffers id h

pub live_made : (buffers : List (Option Named)) (id : ℕ) → is_live buffers id ≡ true → id < length buffers
live_made buffers id h = let n = some_lives buffers id h in slice_get_within buffers id (Some n.0) n.1

pub some_here : (buffers : List (Option Named)) (id : ℕ) (o : Option Named) → id < length buffers → o ≡ get_or buffers id o → is_some o ≡ true → is_live buffers id ≡ true
some_here buffers id o l e h = ap (λ x. is_some (unwrap_or x None)) (slice_get_read buffers (length buffers) id o refl l e) ∙ h

pub named_is : (buffers : List (Option Named)) (id : ℕ) (n : Named) → Lives buffers id n → named_at buffers id ≡ n
named_is buffers id n h = ap (λ o. unwrap_or (unwrap_or o None) nobody) h

-- ONE CHANGE
-- what a change of one buffer does to it, to what stands beside the texts and to the pool
pub record Changes (id : ℕ) (before after : Stored) (marks moved : Marks) (old new : Pooled) : Type 0 where
  pub lies : LiesIn new after.text
  pub blocks : ChangesBlocks before.text.blocks after.text.blocks old new
  pub here : AreWithin id (length after.sets) moved
  pub stand : (among : ℕ → Bool) → StandIn among marks → StandIn among moved
  pub elsewhere : (other size : ℕ) → other ≢ id → AreWithin other size marks → AreWithin other size moved

abbrev pub after_change : Kept → (id : ℕ) → Named → Marks → Pooled → Kept
after_change k id n marks pool = record k { buffers = slice_set k.buffers id (Some n); marks = marks; pool = pool }

-- who lives after it
here_after : (k : Kept) (id : ℕ) (n new m : Named) → Lives k.buffers id n → Lives (slice_set k.buffers id (Some new)) id m → new ≡ m
here_after k id n new m h l = same_Some new m (same_Some (Some new) (Some m) (sym (set_same k.buffers id (Some new) (Some n) h) ∙ l))

other_after : (k : Kept) (id other : ℕ) (new m : Named) → other ≢ id → Lives (slice_set k.buffers id (Some new)) other m → Lives k.buffers other m
other_after k id other new m apart l = sym (set_other k.buffers id other (Some new) apart) ∙ l

account_after : (buffers : List (Option Named)) (id : ℕ) (n new : Named) → Lives buffers id n → blocks_in (slice_set buffers id (Some new)) + length n.buffer.text.blocks ≡ blocks_in buffers + length new.buffer.text.blocks
account_after [] id n new h = cc
account_after (x ∷ buffers) zero n new h = (let e : x ≡ Some n = same_Some x (Some n) h in rw e (omega arith))
account_after (None ∷ buffers) (suc id) n new h = account_after buffers id n new h
account_after (Some m ∷ buffers) (suc id) n new h = let r : blocks_in (slice_set buffers id (Some new)) + length n.buffer.text.blocks ≡ blocks_in buffers + length new.buffer.text.blocks = account_after buffers id n new h in omega arith

all_anew : (k : Kept) (id : ℕ) (n : Named) (name : List Ch) (on : Bool) (after : Stored) (moved : Marks) (new : Pooled) → AreKept k → Lives k.buffers id n → ((other : ℕ) (m : Named) → other ≢ id → Lives k.buffers other m → m.name ≢ name)
    → Changes id n.buffer after k.marks moved k.pool new → AreKept (after_change k id (record { name = name; buffer = after; read_only = on }) moved new)
all_anew k id n name on after moved new kept lives free c =
    let changed : Named = record { name = name; buffer = after; read_only = on } in
    record {
      few = (let e = length-set k.buffers id (Some changed) in let f = kept.few in omega arith);
      names = λ a b x y differ l r. elim (cases_eq a id) [
        | inl e ↦
            let f : b ≢ id = λ g. differ (e ∙ sym g) in
            let same : changed ≡ x = here_after k id n changed x lives (subst (λ i. Lives (slice_set k.buffers id (Some changed)) i x) e l) in
            λ g. free b y f (other_after k id b changed y f r) (sym g ∙ ap (λ (z : Named). z.name) (sym same))
        | inr e ↦ elim (cases_eq b id) [
          | inl f ↦
              let same : changed ≡ y = here_after k id n changed y lives (subst (λ i. Lives (slice_set k.buffers id (Some changed)) i y) f r) in
              λ g. free a x e (other_after k id a changed x e l) (g ∙ ap (λ (z : Named). z.name) (sym same))
          | inr f ↦ kept.names a b x y differ (other_after k id a changed x e l) (other_after k id b changed y f r)
        ]
      ];
      lie = λ other m l. elim (cases_eq other id) [
        | inl e ↦ subst (λ (x : Named). LiesIn new x.buffer.text) (here_after k id n changed m lives (subst (λ i. Lives (slice_set k.buffers id (Some changed)) i m) e l)) c.lies
        | inr e ↦ (stays n.buffer.text.blocks after.text.blocks k.pool new m.buffer.text c.blocks (kept.lie other m (other_after k id other changed m e l)) (kept.apart other id m n e (other_after k id other changed m e l) lives)).lies
      ];
      apart = λ a b x y differ l r. elim (cases_eq a id) [
        | inl e ↦
            let f : b ≢ id = λ g. differ (e ∙ sym g) in
            let was : Lives k.buffers b y = other_after k id b changed y f r in
            let between = still_apart n.buffer.text.blocks after.text.blocks y.buffer.text.blocks k.pool new c.blocks (kept.lie b y was).blocks (kept.apart b id y n f was lives) in
            subst (λ (z : Named). Apart z.buffer.text.blocks y.buffer.text.blocks) (here_after k id n changed x lives (subst (λ i. Lives (slice_set k.buffers id (Some changed)) i x) e l)) (apart_sym y.buffer.text.blocks after.text.blocks between)
        | inr e ↦ elim (cases_eq b id) [
          | inl f ↦
              let was : Lives k.buffers a x = other_after k id a changed x e l in
              let between = still_apart n.buffer.text.blocks after.text.blocks x.buffer.text.blocks k.pool new c.blocks (kept.lie a x was).blocks (kept.apart a id x n e was lives) in
              subst (λ (z : Named). Apart x.buffer.text.blocks z.buffer.text.blocks) (here_after k id n changed y lives (subst (λ i. Lives (slice_set k.buffers id (Some changed)) i y) f r)) between
          | inr f ↦ kept.apart a b x y differ (other_after k id a changed x e l) (other_after k id b changed y f r)
        ]
      ];
      stand = stand_more (is_live k.buffers) (is_live (slice_set k.buffers id (Some changed))) (live_changed k.buffers id changed) moved (c.stand (is_live k.buffers) kept.stand);
      within = λ other m l. elim (cases_eq other id) [
        | inl e ↦
            subst (λ i. AreWithin i (length m.buffer.sets) moved) (sym e)
            (subst (λ (x : Named). AreWithin id (length x.buffer.sets) moved) (here_after k id n changed m lives (subst (λ i. Lives (slice_set k.buffers id (Some changed)) i m) e l)) c.here)
        | inr e ↦ c.elsewhere other (length m.buffer.sets) e (kept.within other m (other_after k id other changed m e l))
      ];
      unmade = λ other l.
          let size : length (slice_set k.buffers id (Some changed)) ≡ length k.buffers = length-set k.buffers id (Some changed) in
          let made : id < length k.buffers = slice_get_within k.buffers id (Some n) lives in
          c.elsewhere other 0 (λ e. absurd (omega arith)) (kept.unmade other (omega arith));
      account = (let a = account_after k.buffers id n changed lives in let b = c.blocks.count in let d = kept.account in omega arith);
    }

pub kept_anew : (k : Kept) (id : ℕ) (n : Named) (name : List Ch) (on : Bool) (after : Stored) (moved : Marks) (new : Pooled) → IsKept k → Lives k.buffers id n → ((other : ℕ) (m : Named) → other ≢ id → Lives k.buffers other m → m.name ≢ name)
    → Changes id n.buffer after k.marks moved k.pool new → IsKept (after_change k id (record { name = name; buffer = after; read_only = on }) moved new)
kept_anew k id n name on after moved new kept lives free c =
    record { all = all_anew k id n name on after moved new kept.all lives free c; here = live_changed k.buffers id (record { name = name; buffer = after; read_only = on }) k.current kept.here }

pub kept_after : (k : Kept) (id : ℕ) (n : Named) (after : Stored) (moved : Marks) (new : Pooled) → IsKept k → Lives k.buffers id n → Changes id n.buffer after k.marks moved k.pool new
    → IsKept (after_change k id (record n { buffer = after }) moved new)
kept_after k id n after moved new kept lives c = kept_anew k id n n.name n.read_only after moved new kept lives (λ other m e l. kept.all.names other id m n e l lives) c

-- WHAT THE EDITOR IS THEN
pub map_others : {A B : Type 0} (f g : A → B) (xs : List A) (id : ℕ) (y : A) → ((j : ℕ) (x : A) → j ≢ id → slice_get xs j ≡ Some x → f x ≡ g x) → map f (slice_set xs id y) ≡ slice_set (map g xs) id (f y)
map_others f g [] id y h = refl
map_others {A = A} f g (x ∷ xs) zero y h = ap (λ ys. f y ∷ ys) (all xs (λ j z e. h (suc j) z (λ k. absurd (omega arith)) e))
  where
    all : (zs : List A) → ((j : ℕ) (z : A) → slice_get zs j ≡ Some z → f z ≡ g z) → map f zs ≡ map g zs
    all [] k = refl
    all (z ∷ zs) k = ap (λ w. w ∷ map f zs) (k 0 z refl) ∙ ap (λ ws. g z ∷ ws) (all zs (λ j w e. k (suc j) w e))
map_others f g (x ∷ xs) (suc id) y h = ap (λ w. w ∷ map f (slice_set xs id y)) (h 0 x (λ e. absurd (omega arith)) refl) ∙ ap (λ ws. g x ∷ ws) (map_others f g xs id y (λ j z e l. h (suc j) z (λ k. e (let r : j ≡ id = omega arith in r)) l))

buffers_after : (k : Kept) (id : ℕ) (n : Named) (after : Stored) (moved : Marks) (new : Pooled) → IsKept k → Lives k.buffers id n → Changes id n.buffer after k.marks moved k.pool new
    → map (option_map (live_of new)) (slice_set k.buffers id (Some (record n { buffer = after })))
    ≡ slice_set (map (option_map (live_of k.pool)) k.buffers) id (Some (record { name = n.name; buffer = buffer_of new after; read_only = n.read_only }))
buffers_after k id n after moved new kept lives c =
    map_others (option_map (live_of new)) (option_map (live_of k.pool)) k.buffers id (Some (record n { buffer = after })) (λ j x e l. other j x e l)
  where
    other : (j : ℕ) (x : Option Named) → j ≢ id → slice_get k.buffers j ≡ Some x → option_map (live_of new) x ≡ option_map (live_of k.pool) x
    other j None e l = refl
    other j (Some m) e l =
        let same : StaysAs k.pool new m.buffer.text = stays n.buffer.text.blocks after.text.blocks k.pool new m.buffer.text c.blocks (kept.all.lie j m l) (kept.all.apart j id m n e l lives) in
        ap (λ (cs : List Ch). let b : Live = record { name = m.name; buffer = record (buffer_of k.pool m.buffer) { text = zip cs m.buffer.sets }; read_only = m.read_only } in Some b) same.characters

pub live_is : (k : Kept) (id : ℕ) (n : Named) → Lives k.buffers id n → live (editor_of k) id ≡ Some (live_of k.pool n)
live_is k id n h = ap (λ o. unwrap_or o None) (slice_get-map (option_map (live_of k.pool)) k.buffers id ∙ ap (option_map (option_map (live_of k.pool))) h)

-- the editor changes as the one buffer does
pub editor_after : (k : Kept) (id : ℕ) (n : Named) (after : Stored) (moved : Marks) (new : Pooled) (change : Site → Site) → IsKept k → Lives k.buffers id n → Changes id n.buffer after k.marks moved k.pool new
    → site_of new after moved ≡ change (site_of k.pool n.buffer k.marks)
    → editor_of (after_change k id (record n { buffer = after }) moved new) ≡ change_site id change (editor_of k)
editor_after k id n after moved new change kept lives c e =
    let old : Editor = editor_of k in
    ap (λ (bs : List (Option Live)). let x : Editor = record old { buffers = bs; marks = moved } in x) (buffers_after k id n after moved new kept lives c)
    ∙ ap (λ (s : Site). let x : Editor = record old { buffers = slice_set old.buffers id (Some (record { name = n.name; buffer = s.buffer; read_only = n.read_only })); marks = s.marks } in x) e
    ∙ sym (ap (λ (o : Option Live). let x : Editor = (elim o [
      | None ↦ old
      | Some l ↦
          let site : Site = change (record { buffer = l.buffer; marks = old.marks }) in
          record old { buffers = slice_set old.buffers id (Some (record l { buffer = site.buffer })); marks = site.marks }
    ]) in x) (live_is k id n lives))

-- or stays as it is
set_itself : {A : Type 0} (xs : List A) (id : ℕ) (x : A) → slice_get xs id ≡ Some x → slice_set xs id x ≡ xs
set_itself [] id x h = refl
set_itself (y ∷ xs) zero x h = ap (λ z. z ∷ xs) (sym (same_Some y x h))
set_itself (y ∷ xs) (suc id) x h = ap (λ ys. y ∷ ys) (set_itself xs id x h)

pub editor_same : (k : Kept) (id : ℕ) (n : Named) (after : Stored) (moved : Marks) (new : Pooled) → IsKept k → Lives k.buffers id n → Changes id n.buffer after k.marks moved k.pool new
    → site_of new after moved ≡ site_of k.pool n.buffer k.marks
    → editor_of (after_change k id (record n { buffer = after }) moved new) ≡ editor_of k
editor_same k id n after moved new kept lives c e =
    let old : Editor = editor_of k in
    ap (λ (bs : List (Option Live)). let x : Editor = record old { buffers = bs; marks = moved } in x) (buffers_after k id n after moved new kept lives c)
    ∙ ap (λ (s : Site). let x : Editor = record old { buffers = slice_set old.buffers id (Some (record { name = n.name; buffer = s.buffer; read_only = n.read_only })); marks = s.marks } in x) e
    ∙ ap (λ (bs : List (Option Live)). let x : Editor = record old { buffers = bs } in x)
    (set_itself old.buffers id (Some (live_of k.pool n)) (slice_get-map (option_map (live_of k.pool)) k.buffers id ∙ ap (option_map (option_map (live_of k.pool))) lives))

-- BY WHAT THE EDITOR SHOWS
pub live_in : (k : Kept) (id : ℕ) → shown.is_live (editor_of k) id ≡ true → is_live k.buffers id ≡ true
live_in k id h = go (slice_get k.buffers id) (sym (ap (λ o. is_some (unwrap_or o None)) (slice_get-map (option_map (live_of k.pool)) k.buffers id)) ∙ h)
  where
    go : (o : Option (Option Named)) → is_some (unwrap_or (option_map (option_map (live_of k.pool)) o) None) ≡ true → is_some (unwrap_or o None) ≡ true
    go None h = h
    go (Some None) h = h
    go (Some (Some n)) h = refl

pub live_out : (k : Kept) (id : ℕ) → is_live k.buffers id ≡ true → shown.is_live (editor_of k) id ≡ true
live_out k id h = let found = some_lives k.buffers id h in ap is_some (live_is k id found.0 found.1)

pub buffer_is : (k : Kept) (id : ℕ) (n : Named) → Lives k.buffers id n → shown.buffer_at (editor_of k) id ≡ buffer_of k.pool n.buffer
buffer_is k id n h = ap (λ (o : Option Live). let b : Buffer = elim o [ Some l ↦ l.buffer | None ↦ shown.empty_buffer ] in b) (live_is k id n h)

pub zip-shorter : {A B : Type 0} (xs : List A) (ys : List B) → (length (zip xs ys) ≤ length xs) × (length (zip xs ys) ≤ length ys)
zip-shorter [] ys = (omega arith, omega arith)
zip-shorter (x ∷ xs) [] = (omega arith, omega arith)
zip-shorter (x ∷ xs) (y ∷ ys) = let r = zip-shorter xs ys in (omega (arith, r.0), omega (arith, r.1))

-- a place in the text that is shown
pub place_in : (k : Kept) (id m : ℕ) (n : Named) → Lives k.buffers id n → m ≤ length (shown.buffer_at (editor_of k) id).text → (m ≤ length (characters k.pool n.buffer.text)) × (m ≤ length n.buffer.sets)
place_in k id m n h l =
    let e : length (shown.buffer_at (editor_of k) id).text ≡ length (zip (characters k.pool n.buffer.text) n.buffer.sets) = ap (λ (b : Buffer). length b.text) (buffer_is k id n h) in
    let s : (length (zip (characters k.pool n.buffer.text) n.buffer.sets) ≤ length (characters k.pool n.buffer.text)) × (length (zip (characters k.pool n.buffer.text) n.buffer.sets) ≤ length n.buffer.sets) = zip-shorter (characters k.pool n.buffer.text) n.buffer.sets in
    (omega (arith, s.0), omega (arith, s.1))

-- a change that leaves text, marks and pool as they are
pub quiet : (id : ℕ) (before after : Stored) (marks : Marks) (pool : Pooled) → after.text ≡ before.text → length after.sets ≡ length before.sets → LiesIn pool before.text → AreWithin id (length before.sets) marks
    → Changes id before after marks marks pool pool
quiet id before after marks pool text size lies within =
    record {
      lies = subst (LiesIn pool) (sym text) lies;
      blocks = subst (λ (t : Gapped). ChangesBlocks before.text.blocks t.blocks pool pool) (sym text) (no_change before.text.blocks pool);
      here = subst (λ s. AreWithin id s marks) (sym size) within;
      stand = λ among s. s;
      elsewhere = λ other s apart w. w;
    }

-- a character of a text with properties
pub char_in : (text : List Ch) (sets : List PropSet) (i : ℕ) (x : Ch) → slice_get text i ≡ Some x → i < length sets → option_map (λ c. c.0) (slice_get (zip text sets) i) ≡ Some x
char_in [] sets i x h l = cc
char_in (c ∷ text) [] i x h l = absurd (omega arith)
char_in (c ∷ text) (s ∷ sets) zero x h l = h
char_in (c ∷ text) (s ∷ sets) (suc i) x h l = char_in text sets i x h (omega arith)

-- ONE BUFFER MORE
lives_with : (buffers : List (Option Named)) (new m : Named) (id : ℕ) → Lives (buffers ++ Some new ∷ []) id m → Lives buffers id m ⊎ ((id ≡ length buffers) × (new ≡ m))
lives_with [] new m zero h = inr (refl, same_Some new m (same_Some (Some new) (Some m) h))
lives_with [] new m (suc id) h = cc
lives_with (x ∷ buffers) new m zero h = inl h
lives_with (x ∷ buffers) new m (suc id) h = elim (lives_with buffers new m id h) [ inl l ↦ inl l | inr r ↦ inr (ap suc r.0, r.1) ]

blocks_with : (buffers : List (Option Named)) (new : Named) → blocks_in (buffers ++ Some new ∷ []) ≡ blocks_in buffers + length new.buffer.text.blocks
blocks_with [] new = omega arith
blocks_with (None ∷ buffers) new = blocks_with buffers new
blocks_with (Some m ∷ buffers) new = let r : blocks_in (buffers ++ Some new ∷ []) ≡ blocks_in buffers + length new.buffer.text.blocks = blocks_with buffers new in omega arith

pub all_with : (k : Kept) (new : Named) → AreKept k → length k.buffers < 256 → ((id : ℕ) (m : Named) → Lives k.buffers id m → m.name ≢ new.name) → new.buffer.text.blocks ≡ [] → new.buffer.sets ≡ [] → LiesIn k.pool new.buffer.text → AreKept (record k { buffers = k.buffers ++ Some new ∷ [] })
all_with k new kept few free blocks sets lies =
    record {
      few = (let e = length_push k.buffers (Some new) in omega arith);
      names = λ a b x y differ l r. elim (lives_with k.buffers new x a l) [
        | inl p ↦ elim (lives_with k.buffers new y b r) [
          | inl q ↦ kept.names a b x y differ p q
          | inr q ↦ λ g. free a x p (g ∙ ap (λ (z : Named). z.name) (sym q.1))
        ]
        | inr p ↦ elim (lives_with k.buffers new y b r) [
          | inl q ↦ λ g. free b y q (sym g ∙ ap (λ (z : Named). z.name) (sym p.1))
          | inr q ↦ absurd (differ (p.0 ∙ sym q.0))
        ]
      ];
      lie = λ id m l. elim (lives_with k.buffers new m id l) [ inl was ↦ kept.lie id m was | inr r ↦ subst (λ (x : Named). LiesIn k.pool x.buffer.text) r.1 lies ];
      apart = λ a b x y differ l r. elim (lives_with k.buffers new x a l) [
        | inl p ↦ elim (lives_with k.buffers new y b r) [
          | inl q ↦ kept.apart a b x y differ p q
          | inr q ↦ subst (λ (z : Named). Apart x.buffer.text.blocks z.buffer.text.blocks) q.1 (subst (Apart x.buffer.text.blocks) (sym blocks) (apart_nil x.buffer.text.blocks))
        ]
        | inr p ↦ elim (lives_with k.buffers new y b r) [
          | inl q ↦ subst (λ (z : Named). Apart z.buffer.text.blocks y.buffer.text.blocks) p.1 (subst (λ bs. Apart bs y.buffer.text.blocks) (sym blocks) tt)
          | inr q ↦ absurd (differ (p.0 ∙ sym q.0))
        ]
      ];
      stand = stand_more (is_live k.buffers) (is_live (k.buffers ++ Some new ∷ [])) (live_behind k.buffers (Some new)) k.marks kept.stand;
      within = λ id m l. elim (lives_with k.buffers new m id l) [
        | inl was ↦ kept.within id m was
        | inr r ↦ subst (λ (x : Named). AreWithin id (length x.buffer.sets) k.marks) r.1 (subst (λ ss. AreWithin id (length ss) k.marks) (sym sets) (kept.unmade id (let e = r.0 in omega arith)))
      ];
      unmade = λ id l. kept.unmade id (let e = length_push k.buffers (Some new) in omega arith);
      account = (let a = blocks_with k.buffers new in let b : length new.buffer.text.blocks ≡ 0 = ap length blocks in let d = kept.account in omega arith);
    }

pub kept_with : (k : Kept) (new : Named) → IsKept k → length k.buffers < 256 → ((id : ℕ) (m : Named) → Lives k.buffers id m → m.name ≢ new.name) → new.buffer.text.blocks ≡ [] → new.buffer.sets ≡ [] → LiesIn k.pool new.buffer.text
    → IsKept (record k { buffers = k.buffers ++ Some new ∷ [] })
kept_with k new kept few free blocks sets lies = record { all = all_with k new kept.all few free blocks sets lies; here = live_behind k.buffers (Some new) k.current kept.here }

pub editor_with : (k : Kept) (name : List Ch) (new : Named) → live_of k.pool new ≡ shown.new_live name → editor_of (record k { buffers = k.buffers ++ Some new ∷ [] }) ≡ shown.with_buffer name (editor_of k)
editor_with k name new e =
    ap (λ (bs : List (Option Live)). let x : Editor = record (editor_of k) { buffers = bs } in x)
    (map-append (option_map (live_of k.pool)) k.buffers (Some new ∷ []) ∙ ap (λ (l : Live). map (option_map (live_of k.pool)) k.buffers ++ Some l ∷ []) e)

-- ANOTHER NAME
pub editor_renamed : (k : Kept) (id : ℕ) (n : Named) (name : List Ch) → Lives k.buffers id n → editor_of (record k { buffers = slice_set k.buffers id (Some (record n { name = name })) }) ≡ shown.renamed id name (editor_of k)
editor_renamed k id n name h =
    ap (λ (bs : List (Option Live)). let x : Editor = record (editor_of k) { buffers = bs } in x) (map-set (option_map (live_of k.pool)) k.buffers id (Some (record n { name = name })))
    ∙ sym (ap (λ (o : Option Live). let x : Editor = record (editor_of k) { buffers = slice_set (map (option_map (live_of k.pool)) k.buffers) id (shown.named_as name o) } in x) (live_is k id n h))

-- READ-ONLY, OR WRITABLE
pub editor_protected : (k : Kept) (id : ℕ) (n : Named) (on : Bool) → Lives k.buffers id n → editor_of (record k { buffers = slice_set k.buffers id (Some (record n { read_only = on })) }) ≡ shown.protected id on (editor_of k)
editor_protected k id n on h =
    ap (λ (bs : List (Option Live)). let x : Editor = record (editor_of k) { buffers = bs } in x) (map-set (option_map (live_of k.pool)) k.buffers id (Some (record n { read_only = on })))
    ∙ sym (ap (λ (o : Option Live). let x : Editor = elim o [ None ↦ editor_of k | Some l ↦ record (editor_of k) { buffers = slice_set (map (option_map (live_of k.pool)) k.buffers) id (Some (record l { read_only = on })) } ] in x) (live_is k id n h))
