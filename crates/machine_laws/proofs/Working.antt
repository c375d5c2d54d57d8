-- Each step keeps what holds of configurations, and in each buffer what is newer than a boundary.
use Rattle.std.proofs.Common.{◌≡◌, ℕ, ◌≤◌, Bool, true, false, List, [], ◌∷◌, ◌++◌, length, drop, refl, ap, sym, subst, ◌∙◌}
use Rattle.std.specs.Prelude.{Option, Some, None}
use Rattle.std.proofs.lemmas.Bool.{eq-eqb}
use Rattle.text_model.specs.Places.{clip}
use Rattle.text_model.specs.Marks.{Saved, Excursion, Restriction, Pending}
use Rattle.text_model.specs.Commit.{Buffer}
use Rattle.machine_laws.specs.Fits.{KeptFits, SavedFits, MarksFit, GoodSite}
use Rattle.machine_laws.specs.Brackets.{shapes}
use Rattle.machine_laws.proofs.OneBuffer.{passes_same}
use Rattle.machine_laws.proofs.Sites.{Bounds, same_step}
use Rattle.editor_model.specs.Values.{Fault, Reply}
use Rattle.editor_model.specs.Editor.{Editor, Live, live, is_live}
use Rattle.machine_laws.proofs.GoodEditor.{GoodEditor, Advances}
use Rattle.machine_laws.proofs.Advancing.{advances_self, site_advances, site_shapes, size_of}
use Rattle.machine_laws.proofs.Applying.{clip_lies, widened_bounds}
use Rattle.machine_laws.proofs.Settling.{Settles, settles_self, settles_then, settles_advances, marks_settle, site_settles}
use Rattle.plain_machine.specs.State.{State, Process, process, change_process}
use Rattle.plain_machine.specs.Items.{Item, Top, Native, Called, Exit, Leave, MakeChange, CommitChange, Kept, KeptExcursion, KeptRestriction, KeptBuffer, KeptInhibition, KeptLifting}
use Rattle.plain_machine.specs.Forms.{with_saved, if_live, current, in_buffer, put_back, pop, lifting, popped, restored, dropped}
use Rattle.machine_laws.proofs.GoodConfig.{AllFine, WorkFine, Stacked, Well}

-- the kinds of the kept places of a state
abbrev pub kinds : State → List (ℕ × ℕ)
kinds s = shapes s.editor.marks.saved

-- all but the item at the head of the list
pub record Ready (s : State) (rest : List Item) : Type 0 where
  pub editor : GoodEditor s.editor
  pub fine : AllFine rest
  pub stacked : Stacked rest (kinds s)

pub all_work : (e : Editor) (work : List Item) → AllFine work → WorkFine e work
all_work e [] h = tt
all_work e (MakeChange c ∷ work) h = absurd h.0
all_work e (_ ∷ work) h = h

-- a state with the same editor
pub well_same : (s t : State) (work : List Item) → GoodEditor s.editor → t.editor ≡ s.editor → AllFine work → Stacked work (kinds s) → Well s.editor (record { state = t; work = work })
well_same s t work g q f k = record {
  advances = subst (λ e. Advances s.editor e) (sym q) (advances_self s.editor g);
  work = all_work t.editor work f;
  stack = subst (λ e. Stacked work (shapes e.marks.saved)) (sym q) k;
}

pub well_settled : (e : Editor) (t : State) (work : List Item) → GoodEditor e → Settles e t.editor → AllFine work → Stacked work (kinds t) → Well e (record { state = t; work = work })
well_settled e t work g s f k = record { advances = settles_advances e t.editor g s; work = all_work t.editor work f; stack = k }

-- STATES
pub change_editor : (p : ℕ) (f : Process → Process) (s : State) → (change_process p f s).editor ≡ s.editor
change_editor p f s = go (process s p)
  where
    go : (o : Option Process) → let t : State = elim o [ None ↦ s | Some x ↦ record s { processes = Rattle.std.specs.Prelude.slice_set s.processes p (f x) } ] in t.editor ≡ s.editor
    go None = refl
    go (Some x) = refl

-- a state whose editor settles, with kept places of these kinds
pub record Rests (s t : State) (ks : List (ℕ × ℕ)) : Type 0 where
  pub settles : Settles s.editor t.editor
  pub same_kinds : kinds t ≡ ks

pub rests_self : (s : State) → GoodEditor s.editor → Rests s s (kinds s)
rests_self s g = record { settles = settles_self s.editor g; same_kinds = refl }

current_rests : (b : ℕ) (s : State) → GoodEditor s.editor → Rests s (current b s) (kinds s)
current_rests b s g = record { settles = marks_settle s.editor (record s.editor { current = b }) g refl (λ id h. h); same_kinds = refl }

live_rests : (s : State) (b : ℕ) (t : State) → GoodEditor s.editor → (is_live s.editor b ≡ true → Rests s t (kinds s)) → Rests s (if_live s b t) (kinds s)
live_rests s b t g h = go (is_live s.editor b) refl
  where
    go : (v : Bool) → is_live s.editor b ≡ v → Rests s (elim v [ true ↦ t | false ↦ s ]) (kinds s)
    go true q = h q
    go false q = rests_self s g

-- a buffer's bounds and point set
bounds_rest : (b : ℕ) (f : Buffer → Buffer) (s : State) → GoodEditor s.editor →
    ((x : Buffer) → (f x).text ≡ x.text) → ((x : Buffer) → (f x).undo ≡ x.undo) →
    ((l : Live) → live s.editor b ≡ Some l → Bounds (f l.buffer) (length l.buffer.text)) →
    Rests s (in_buffer b f s) (kinds s)
bounds_rest b f s g t u h = record {
  settles = site_settles b (λ site. record site { buffer = f site.buffer }) s.editor
      (site_advances b (λ site. record site { buffer = f site.buffer }) s.editor g (λ l q.
      let x : GoodSite b (record { buffer = l.buffer; marks = s.editor.marks }) = g.each b l q in
      same_step b (record { buffer = l.buffer; marks = s.editor.marks }) (f l.buffer) x (t l.buffer) (passes_same l.buffer (f l.buffer) x.good (t l.buffer) (u l.buffer)) (h l q)))
      (λ l q. (t l.buffer, u l.buffer));
  same_kinds = site_shapes b (λ site. record site { buffer = f site.buffer }) s.editor (λ l q. refl);
}

-- KEPT PLACES
put_back_rests : (k : Saved) (s : State) → GoodEditor s.editor → ((l : Live) (b : ℕ) → live s.editor b ≡ Some l → KeptFits b (length l.buffer.text) k) → Rests s (put_back k s) (kinds s)
put_back_rests (Excursion b p) s g h = live_rests s b _ g (λ q.
    let t : State = in_buffer b (λ x. record x { point = clip x.begin x.end p }) s in
    let x : Rests s t (kinds s) = bounds_rest b (λ x. record x { point = clip x.begin x.end p }) s g (λ x. refl) (λ x. refl) (λ l r.
    let y : GoodSite b (record { buffer = l.buffer; marks = s.editor.marks }) = g.each b l r in clip_lies l.buffer.begin l.buffer.end p (length l.buffer.text) y.fits.begin_fits y.fits.end_fits) in
    let z : Rests t (current b t) (kinds t) = current_rests b t x.settles.good in
    record { settles = settles_then s.editor t.editor (current b t).editor x.settles z.settles; same_kinds = x.same_kinds })
put_back_rests (Restriction b None) s g h = live_rests s b _ g (λ q. bounds_rest b (λ x. record x { begin = 0; end = length x.text }) s g (λ x. refl) (λ x. refl) (λ l r. widened_bounds b (record { buffer = l.buffer; marks = s.editor.marks }) (g.each b l r)))
put_back_rests (Restriction b (Some ends)) s g h = live_rests s b _ g (λ q. bounds_rest b (λ x. record x { begin = ends.0; end = ends.1; point = clip ends.0 ends.1 x.point }) s g (λ x. refl) (λ x. refl) (λ l r.
    let y : (ends.0 ≤ ends.1) × (ends.1 ≤ length l.buffer.text) = h l b r (eq-eqb b b refl) in clip_lies ends.0 ends.1 l.buffer.point (length l.buffer.text) y.0 y.1))
put_back_rests (Pending b from to) s g h = rests_self s g

-- the kept places but the top one
tail_fits : (id size : ℕ) (ks : List Saved) → SavedFits id size ks → SavedFits id size (drop 1 ks)
tail_fits id size [] h = tt
tail_fits id size (k ∷ ks) h = h.1

drop_shapes : (ks : List Saved) → shapes (drop 1 ks) ≡ drop 1 (shapes ks)
drop_shapes [] = refl
drop_shapes (k ∷ ks) = refl

pub popped_rests : (s : State) → GoodEditor s.editor → Rests s (popped s) (drop 1 (kinds s))
popped_rests s g = record {
  settles = marks_settle s.editor (popped s).editor g refl (λ id h. record { markers = h.markers; overlays = h.overlays; saved = tail_fits id (size_of s.editor id) s.editor.marks.saved h.saved });
  same_kinds = drop_shapes s.editor.marks.saved;
}

-- the restoration of a block
pub pop_rests : (s : State) → GoodEditor s.editor → Rests s (pop s) (drop 1 (kinds s))
pop_rests s g = go s.editor.marks.saved refl
  where
    go : (ks : List Saved) → s.editor.marks.saved ≡ ks → Rests s (elim ks [ [] ↦ s | kept ∷ rest ↦ put_back kept (with_saved rest s) ]) (drop 1 (kinds s))
    go [] q = record { settles = settles_self s.editor g; same_kinds = rw q refl }
    go (k ∷ ks) q =
        let t : State = with_saved ks s in
        let fits : (id : ℕ) → MarksFit id (size_of s.editor id) s.editor.marks → SavedFits id (size_of s.editor id) (k ∷ ks) = (λ id h. subst (λ l. SavedFits id (size_of s.editor id) l) q h.saved) in
        let x : Settles s.editor t.editor = marks_settle s.editor t.editor g refl (λ id h. record { markers = h.markers; overlays = h.overlays; saved = (fits id h).1 }) in
        let y : Rests t (put_back k t) (kinds t) = put_back_rests k t x.good (λ l b r. (subst (λ m. SavedFits b (length l.buffer.text) m) q (g.each b l r).fits.marks_fit.saved).0) in
        record { settles = settles_then s.editor t.editor (put_back k t).editor x y.settles; same_kinds = y.same_kinds ∙ ap (λ l. drop 1 (shapes l)) (sym q) }

-- what each block leaves of the kinds
abbrev pub left_kinds : Kept → List (ℕ × ℕ) → List (ℕ × ℕ)
left_kinds KeptExcursion ks = drop 1 ks
left_kinds KeptRestriction ks = drop 1 ks
left_kinds _ ks = ks

pub restored_rests : (k : Kept) (s : State) → GoodEditor s.editor → Rests s (restored k s) (left_kinds k (kinds s))
restored_rests KeptExcursion s g = pop_rests s g
restored_rests KeptRestriction s g = pop_rests s g
restored_rests (KeptBuffer b) s g = live_rests s b (current b s) g (λ q. current_rests b s g)
restored_rests (KeptInhibition old) s g = record { settles = settles_self s.editor g; same_kinds = refl }
restored_rests (KeptLifting old) s g = record { settles = marks_settle s.editor (lifting old s).editor g refl (λ id h. h); same_kinds = refl }

pub leave_stacked : (k : Kept) (rest : List Item) (ks : List (ℕ × ℕ)) → Stacked (Leave k ∷ rest) ks → Stacked rest (left_kinds k ks)
leave_stacked KeptExcursion rest ks h = h
leave_stacked KeptRestriction rest ks h = h
leave_stacked (KeptBuffer b) rest ks h = h
leave_stacked (KeptInhibition old) rest ks h = h
leave_stacked (KeptLifting old) rest ks h = h

-- what a fault drops
pub dropped_well : (f : Fault) (rest : List Item) (e : Editor) (s : State) → GoodEditor e → Settles e s.editor → AllFine rest → Stacked rest (kinds s) → Well e (dropped f rest s)
dropped_well f [] e s g t h k = well_settled e s [] g t tt tt
dropped_well f (Top forms ∷ rest) e s g t h k = well_settled e s (Top forms ∷ rest) g t h k
dropped_well f (Called i args past ∷ rest) e s g t h k = well_settled e s (Native i args (past ++ Reply.Refused f ∷ []) ∷ rest) g t (tt, h.1) k
dropped_well f (Exit kind handler c faulted ∷ rest) e s g t h k = well_settled e s (Exit kind handler c true ∷ rest) g t (tt, h.1) k
dropped_well f (Leave kept ∷ rest) e s g t h k =
    let x : Rests s (restored kept s) (left_kinds kept (kinds s)) = restored_rests kept s t.good in
    dropped_well f rest e (restored kept s) g (settles_then e s.editor (restored kept s).editor t x.settles) h.1 (subst (λ ks. Stacked rest ks) (sym x.same_kinds) (leave_stacked kept rest (kinds s) k))
dropped_well f (CommitChange c ∷ rest) e s g t h k =
    let x : Rests s (popped s) (drop 1 (kinds s)) = popped_rests s t.good in
    dropped_well f rest e (popped s) g (settles_then e s.editor (popped s).editor t x.settles) h.1 (subst (λ ks. Stacked rest ks) (sym x.same_kinds) k.1)
dropped_well f (MakeChange c ∷ rest) e s g t h k = absurd h.0
dropped_well f (_ ∷ rest) e s g t h k = dropped_well f rest e s g t h.1 k
