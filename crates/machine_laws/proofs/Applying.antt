-- The calls that set state keep what holds of the editor.
use Rattle.std.proofs.Common.{◌≡◌, ℕ, zero, suc, ◌+◌, ◌≤◌, Bool, true, false, ℤ, List, [], ◌∷◌, ◌++◌, length, refl, ap, sym, subst, arith}
use Rattle.std.specs.Prelude.{nat_le, slice_get, slice_set, Option, Some, None, unwrap_or, option_map}
use Rattle.std.proofs.lemmas.Bool.{eqb-true, leb-true, and_parts}
use Rattle.text_model.specs.Ordered.{AreOrdered}
use Rattle.text_model.specs.Properties.{put}
use Rattle.text_model.specs.Places.{clip}
use Rattle.text_model.specs.Marks.{Marks, Marker, Spot, Span, Overlay}
use Rattle.text_model.specs.Undo.{Undo, with_boundary, started, disabled, enabled}
use Rattle.text_model.specs.Commit.{Buffer, Site}
use Rattle.machine_laws.specs.Good.{Good}
use Rattle.machine_laws.specs.Fits.{SpotFits, MarkersFit, SpanFits, OverlaysFit, MarksFit, GoodSite}
use Rattle.machine_laws.proofs.OneBuffer.{passes_self, passes_same, boundary_passes, started_passes, disabled_passes, enabled_passes}
use Rattle.machine_laws.proofs.Fitting.{markers_set, marker_fits, clip_fits, evaporated_fits}
use Rattle.machine_laws.proofs.Sites.{Bounds, site_bounds, same_step}
use Rattle.editor_model.specs.Values.{Value, Nil, Int, Str, TheBuffer, TheMarker, Fault, Prim, SetBuffer, GetBufferCreate, GenerateNewBuffer, RenameBuffer, SetBufferModifiedP, SetBufferReadOnly, GotoChar, NarrowToRegion, Widen, MakeMarker, PointMarker, CopyMarker, SetMarker, SetMarkerInsertionType, MakeOverlay, OverlayPut, MoveOverlay, DeleteOverlay, UndoBoundary, UndoStart, BufferDisableUndo, BufferEnableUndo}
use Rattle.editor_model.specs.Editor.{Editor, Name, Live, live, buffer_at, here, empty_buffer, find, change_buffer, with_buffer, renamed, protected, with_marker, change_marker, marker_of, change_overlay, overlay_of, free_name, others}
use Rattle.editor_model.specs.Answers.{Test, first_fault, applied, applied_of}
use Rattle.editor_model.specs.Arguments.{arg, flag, name_of, buffer_of, marker_number, overlay_number, symbol_of, value_of, number, position, place, from_of, to_of, lies_in, must_be_position, must_lie_in}
use Rattle.editor_model.specs.BufferCalls.{found_or_made, get_buffer_create}
use Rattle.editor_model.specs.TextCalls.{point_at, narrowed, widened, narrow_to_region}
use Rattle.editor_model.specs.OverlayCalls.{span_in, kept_in, kept, overlay_home}
use Rattle.editor_model.specs.MarkerCalls.{new_marker, spot_in, copy_marker, set_marker}
use Rattle.editor_model.specs.UndoCalls.{with_undo}
use Rattle.editor_model.specs.Table.{apply}
use Rattle.machine_laws.proofs.GoodEditor.{GoodEditor, Steady, Passes}
use Rattle.machine_laws.proofs.Advancing.{advances_self, marks_only, site_advances, site_shapes, with_buffer_advances, one_advances, renamed_advances, buffer_live, size_of}
use Rattle.machine_laws.proofs.Tests.{refuse_ok, no_fault}

-- STEADY STEPS
pub steady_self : (e : Editor) → GoodEditor e → Steady e e
steady_self e g = record { advances = advances_self e g; same_shapes = refl }

pub applied_steady : (e : Editor) (tests : List Test) (new : Editor) (v : Value) → GoodEditor e → (first_fault tests ≡ None → Steady e new) → Steady e (applied e tests new v).editor
applied_steady e tests new v g h = go (first_fault tests) refl
  where
    go : (o : Option Fault) → first_fault tests ≡ o → Steady e (applied_of o e new v).editor
    go None q = h q
    go (Some f) q = steady_self e g

of_fault : (o : Option Fault) (e new : Editor) (v : Value) → GoodEditor e → Steady e new → Steady e (applied_of o e new v).editor
of_fault None e new v g h = h
of_fault (Some f) e new v g h = steady_self e g

-- one buffer whose text stays
pub same_buffer : (id : ℕ) (f : Buffer → Buffer) (e : Editor) → GoodEditor e →
    ((b : Buffer) (marks : Marks) → GoodSite id (record { buffer = b; marks = marks }) → ((f b).text ≡ b.text) × Passes b (f b) × Bounds (f b) (length b.text)) →
    Steady e (change_buffer id f e)
same_buffer id f e g h = record {
  advances = site_advances id (λ site. record site { buffer = f site.buffer }) e g (λ l q.
      let s : GoodSite id (record { buffer = l.buffer; marks = e.marks }) = g.each id l q in
      let x : ((f l.buffer).text ≡ l.buffer.text) × Passes l.buffer (f l.buffer) × Bounds (f l.buffer) (length l.buffer.text) = h l.buffer e.marks s in
      same_step id (record { buffer = l.buffer; marks = e.marks }) (f l.buffer) s x.0 x.1 x.2);
  same_shapes = site_shapes id (λ site. record site { buffer = f site.buffer }) e (λ l q. refl);
}

-- a place taken to the nearer of two ends lies between them
pub clip_lies : (low high p size : ℕ) → low ≤ high → high ≤ size → (low ≤ clip low high p) × (clip low high p ≤ high) × (high ≤ size)
clip_lies low high p size h k = (omega arith, omega arith, k)

pub point_steady : (p : ℕ) (e : Editor) → GoodEditor e → Steady e (change_buffer e.current (point_at p) e)
point_steady p e g = same_buffer e.current (point_at p) e g (λ b marks s. (refl, passes_same b (point_at p b) s.good refl refl, clip_lies b.begin b.end p (length b.text) s.fits.begin_fits s.fits.end_fits))

undo_steady : (f : Undo → Undo) (e : Editor) → GoodEditor e → ((b : Buffer) → Good b → Passes b (record b { undo = f b.undo })) → Steady e (with_undo f e)
undo_steady f e g h = same_buffer e.current (λ b. record b { undo = f b.undo }) e g (λ b marks s. (refl, h b s.good, site_bounds e.current (record { buffer = b; marks = marks }) s))

-- MARKERS AND OVERLAYS
pub markers_append : (id size : ℕ) (ms : List Marker) (m : Marker) → MarkersFit id size ms → SpotFits id size m.spot → MarkersFit id size (ms ++ m ∷ [])
markers_append id size [] m h s = (s, tt)
markers_append id size (x ∷ ms) m h s = (h.0, markers_append id size ms m h.1 s)

-- a spot that lies in its buffer's text
abbrev pub SpotLies : Editor → Option Spot → Type 0
SpotLies e None = Unit {0}
SpotLies e (Some s) = s.place ≤ size_of e s.buffer

pub spot_fits : (e : Editor) (o : Option Spot) (id : ℕ) → SpotLies e o → SpotFits id (size_of e id) o
spot_fits e None id h = tt
spot_fits e (Some s) id h = λ q. subst (λ i. s.place ≤ size_of e i) (eqb-true s.buffer id q) h

pub with_marker_steady : (m : Marker) (e : Editor) → GoodEditor e → ((id : ℕ) → MarksFit id (size_of e id) e.marks → SpotFits id (size_of e id) m.spot) → Steady e (with_marker m e)
with_marker_steady m e g h = record {
  advances = marks_only e (with_marker m e) g refl (λ id k. record { markers = markers_append id (size_of e id) e.marks.markers m k.markers (h id k); overlays = k.overlays; saved = k.saved });
  same_shapes = refl;
}

pub change_marker_steady : (k : ℕ) (f : Marker → Marker) (e : Editor) → GoodEditor e → ((id : ℕ) → MarksFit id (size_of e id) e.marks → SpotFits id (size_of e id) (f (marker_of e k)).spot) → Steady e (change_marker k f e)
change_marker_steady k f e g h = record {
  advances = marks_only e (change_marker k f e) g refl (λ id x. record { markers = markers_set id (size_of e id) k (f (marker_of e k)) e.marks.markers (h id x) x.markers; overlays = x.overlays; saved = x.saved });
  same_shapes = refl;
}

-- the marker of a number
pub marker_of_fits : (e : Editor) (k id : ℕ) → MarksFit id (size_of e id) e.marks → SpotFits id (size_of e id) (marker_of e k).spot
marker_of_fits e k id h = go (slice_get e.marks.markers k) refl
  where
    go : (o : Option Marker) → slice_get e.marks.markers k ≡ o → SpotFits id (size_of e id) (unwrap_or o (record { spot = None; advances = false })).spot
    go None q = tt
    go (Some m) q = marker_fits id (size_of e id) k m e.marks.markers q h.markers

overlays_steady : (overlays : List Overlay) (e : Editor) → GoodEditor e → ((id : ℕ) → OverlaysFit id (size_of e id) e.marks.overlays → OverlaysFit id (size_of e id) overlays) → Steady e (record e { marks = record e.marks { overlays = overlays } })
overlays_steady overlays e g f = record { advances = marks_only e (record e { marks = record e.marks { overlays = overlays } }) g refl (λ id h. record { markers = h.markers; overlays = f id h.overlays; saved = h.saved }); same_shapes = refl }

overlays_append : (id size : ℕ) (os : List Overlay) (o : Overlay) → OverlaysFit id size os → SpanFits id size o.span → OverlaysFit id size (os ++ o ∷ [])
overlays_append id size [] o h s = (s, tt)
overlays_append id size (x ∷ os) o h s = (h.0, overlays_append id size os o h.1 s)

overlays_set : (id size k : ℕ) (o : Overlay) (os : List Overlay) → SpanFits id size o.span → OverlaysFit id size os → OverlaysFit id size (slice_set os k o)
overlays_set id size k o [] s h = tt
overlays_set id size zero o (x ∷ os) s h = (s, h.1)
overlays_set id size (suc k) o (x ∷ os) s h = (h.0, overlays_set id size k o os s h.1)

overlay_at : (id size k : ℕ) (o : Overlay) (os : List Overlay) → slice_get os k ≡ Some o → OverlaysFit id size os → SpanFits id size o.span
overlay_at id size k o [] e h = cc
overlay_at id size zero o (x ∷ os) e h = subst (λ y. SpanFits id size y.span) (same_overlay x o e) h.0
  where
    same_overlay : (x o : Overlay) → Some x ≡ Some o → x ≡ o
    same_overlay x o e = cc
overlay_at id size (suc k) o (x ∷ os) e h = overlay_at id size k o os e h.1

-- the overlay of a number
overlay_of_fits : (e : Editor) (k id size : ℕ) → OverlaysFit id size e.marks.overlays → SpanFits id size (overlay_of e k).span
overlay_of_fits e k id size h = go (slice_get e.marks.overlays k) refl
  where
    go : (o : Option Overlay) → slice_get e.marks.overlays k ≡ o → SpanFits id size (unwrap_or o (record { span = None; front_advance = false; rear_advance = false; props = [] })).span
    go None q = tt
    go (Some o) q = overlay_at id size k o e.marks.overlays q h

kept_fits : (id size : ℕ) (o : Overlay) → SpanFits id size o.span → SpanFits id size (kept o).span
kept_fits id size o h = go o.span
  where
    go : (x : Option Span) → SpanFits id size (kept_in x o).span
    go None = h
    go (Some s) = evaporated_fits s.buffer id size o h

pub region_order : (e : Editor) (a b : Value) → from_of e a b ≤ to_of e a b
region_order e a b = omega arith

-- two ends as near as the text goes
clip_order : (size p r : ℕ) → p ≤ r → clip 0 size p ≤ clip 0 size r
clip_order size p r h = omega arith

span_fits : (e : Editor) (b : ℕ) (x y : Value) (id : ℕ) → SpanFits id (size_of e id) (Some (span_in e b x y))
span_fits e b x y id = λ q. (clip_order (size_of e b) (from_of e x y) (to_of e x y) (region_order e x y), subst (λ i. clip 0 (size_of e b) (to_of e x y) ≤ size_of e i) (eqb-true b id q) (clip_fits (size_of e b) (to_of e x y)))

-- an overlay of a number changed
change_overlay_steady : (k : ℕ) (f : Overlay → Overlay) (e : Editor) → GoodEditor e → ((id size : ℕ) → size ≡ size_of e id → SpanFits id size (overlay_of e k).span → SpanFits id size (f (overlay_of e k)).span) → Steady e (change_overlay k f e)
change_overlay_steady k f e g h = overlays_steady (slice_set e.marks.overlays k (f (overlay_of e k))) e g (λ id x. overlays_set id (size_of e id) k (f (overlay_of e k)) e.marks.overlays (h id (size_of e id) refl (overlay_of_fits e k id (size_of e id) x)) x)

pub current_steady : (id : ℕ) (e : Editor) → GoodEditor e → Steady e (record e { current = id })
current_steady id e g = record { advances = marks_only e (record e { current = id }) g refl (λ j h. h); same_shapes = refl }

-- the places of a buffer, also of one that doesn't live
pub record Lies (b : Buffer) : Type 0 where
  pub ordered : AreOrdered b.text
  pub order : b.begin ≤ b.end
  pub end : b.end ≤ length b.text
  pub point : b.point ≤ length b.text

pub lies : (e : Editor) (id : ℕ) → GoodEditor e → Lies (buffer_at e id)
lies e id g = go (live e id) refl
  where
    go : (o : Option Live) → live e id ≡ o → Lies (elim o [ Some l ↦ l.buffer | None ↦ empty_buffer ])
    go None q = record { ordered = tt; order = omega arith; end = omega arith; point = omega arith }
    go (Some l) q = let s : GoodSite id (record { buffer = l.buffer; marks = e.marks }) = g.each id l q in record { ordered = s.good.ordered; order = s.fits.begin_fits; end = s.fits.end_fits; point = omega (arith, s.fits.point_to_end, s.fits.end_fits) }

-- REGIONS
in_range : (low high : ℕ) (e : Editor) (v : Value) → lies_in low high e v ≡ true → place e v ≤ high
in_range low high e v h =
    let x : (nat_le (low + 1) (position e v) ≡ true) × (nat_le (position e v) (high + 1) ≡ true) = and_parts _ _ h in
    let y : position e v ≤ high + 1 = leb-true (position e v) (high + 1) x.1 in
    omega arith

pub region_high : (e : Editor) (a b : Value) (low high : ℕ) → lies_in low high e a ≡ true → lies_in low high e b ≡ true → to_of e a b ≤ high
region_high e a b low high h k = let x : place e a ≤ high = in_range low high e a h in let y : place e b ≤ high = in_range low high e b k in omega arith

-- THE CALLS
narrow_steady : (e : Editor) (a b : Value) → GoodEditor e → Steady e (narrow_to_region e a b).editor
narrow_steady e a b g = applied_steady e (must_be_position a ∷ must_be_position b ∷ must_lie_in 0 (length (here e).text) e a ∷ must_lie_in 0 (length (here e).text) e b ∷ []) _ Nil g (λ h.
    let x : (must_be_position a ≡ None) × (first_fault (must_be_position b ∷ must_lie_in 0 (length (here e).text) e a ∷ must_lie_in 0 (length (here e).text) e b ∷ []) ≡ None) = no_fault (must_be_position a) (must_be_position b ∷ must_lie_in 0 (length (here e).text) e a ∷ must_lie_in 0 (length (here e).text) e b ∷ []) h in
    let y : (must_be_position b ≡ None) × (first_fault (must_lie_in 0 (length (here e).text) e a ∷ must_lie_in 0 (length (here e).text) e b ∷ []) ≡ None) = no_fault (must_be_position b) (must_lie_in 0 (length (here e).text) e a ∷ must_lie_in 0 (length (here e).text) e b ∷ []) x.1 in
    let z : (must_lie_in 0 (length (here e).text) e a ≡ None) × (first_fault (must_lie_in 0 (length (here e).text) e b ∷ []) ≡ None) = no_fault (must_lie_in 0 (length (here e).text) e a) (must_lie_in 0 (length (here e).text) e b ∷ []) y.1 in
    let w : (must_lie_in 0 (length (here e).text) e b ≡ None) × (first_fault [] ≡ None) = no_fault (must_lie_in 0 (length (here e).text) e b) [] z.1 in
    narrowed_steady e (from_of e a b) (to_of e a b) g (region_order e a b) (region_high e a b 0 (length (here e).text) (refuse_ok _ _ z.0) (refuse_ok _ _ w.0)))
  where
    narrowed_steady : (e : Editor) (from to : ℕ) → GoodEditor e → from ≤ to → to ≤ length (here e).text → Steady e (change_buffer e.current (narrowed from to) e)
    narrowed_steady e from to g h k = record {
      advances = site_advances e.current (λ site. record site { buffer = narrowed from to site.buffer }) e g (λ l q.
          let s : GoodSite e.current (record { buffer = l.buffer; marks = e.marks }) = g.each e.current l q in
          let size : length (here e).text ≡ length l.buffer.text = ap (λ b. length b.text) (buffer_live e e.current l q) in
          same_step e.current (record { buffer = l.buffer; marks = e.marks }) (narrowed from to l.buffer) s refl (passes_same l.buffer (narrowed from to l.buffer) s.good refl refl) (clip_lies from to l.buffer.point (length l.buffer.text) h (omega arith)));
      same_shapes = site_shapes e.current (λ site. record site { buffer = narrowed from to site.buffer }) e (λ l q. refl);
    }

pub widened_bounds : (id : ℕ) (site : Site) → GoodSite id site → Bounds (widened site.buffer) (length site.buffer.text)
widened_bounds id site g = (omega arith, omega (arith, g.fits.point_to_end, g.fits.end_fits), omega arith)

pub widened_steady : (id : ℕ) (e : Editor) → GoodEditor e → Steady e (change_buffer id widened e)
widened_steady id e g = same_buffer id widened e g (λ b marks s. (refl, passes_same b (widened b) s.good refl refl, widened_bounds id (record { buffer = b; marks = marks }) s))

with_buffer_steady : (name : Name) (e : Editor) → GoodEditor e → Steady e (with_buffer name e)
with_buffer_steady name e g = record { advances = with_buffer_advances name e g; same_shapes = refl }

renamed_steady : (id : ℕ) (name : Name) (e : Editor) → GoodEditor e → Steady e (renamed id name e)
renamed_steady id name e g = record { advances = renamed_advances id name e g; same_shapes = refl }

protected_steady : (id : ℕ) (on : Bool) (e : Editor) → GoodEditor e → Steady e (protected id on e)
protected_steady id on e g = go (live e id) refl
  where
    go : (o : Option Live) → live e id ≡ o → Steady e (elim o [ None ↦ e | Some l ↦ record e { buffers = slice_set e.buffers id (Some (record l { read_only = on })) } ])
    go None q = steady_self e g
    go (Some l) q = record { advances = one_advances e _ id l (record l { read_only = on }) g q refl (g.each id l q) (passes_self l.buffer (g.each id l q).good) (λ j size d h. h); same_shapes = refl }

found_steady : (e : Editor) (name : Value) (o : Option ℕ) → GoodEditor e → Steady e (found_or_made e name o).editor
found_steady e name None g = of_fault _ e _ _ g (with_buffer_steady (name_of name) e g)
found_steady e name (Some id) g = steady_self e g

create_steady : (e : Editor) (v : Value) → GoodEditor e → Steady e (get_buffer_create e v).editor
create_steady e (TheBuffer b) g = steady_self e g
create_steady e (Str s) g = found_steady e (Str s) (find e (name_of (Str s))) g
create_steady e _ g = steady_self e g

new_marker_steady : (e : Editor) (spot : Option Spot) (advances : Bool) → GoodEditor e → ((id : ℕ) → MarksFit id (size_of e id) e.marks → SpotFits id (size_of e id) spot) → Steady e (new_marker e spot advances).editor
new_marker_steady e spot advances g h = of_fault _ e _ _ g (with_marker_steady (record { spot = spot; advances = advances }) e g h)

copy_steady : (e : Editor) (x kind : Value) → GoodEditor e → Steady e (copy_marker e x kind).editor
copy_steady e Nil kind g = new_marker_steady e None (flag kind) g (λ id h. tt)
copy_steady e (Int i) kind g = new_marker_steady e (Some (spot_in e e.current (place e (Int i)))) (flag kind) g (λ id h. spot_fits e (Some (spot_in e e.current (place e (Int i)))) id (clip_fits (size_of e e.current) (place e (Int i))))
copy_steady e (TheMarker k) kind g = new_marker_steady e (marker_of e k).spot (flag kind) g (λ id h. marker_of_fits e k id h)
copy_steady e _ kind g = steady_self e g

set_marker_steady : (e : Editor) (m x b : Value) → GoodEditor e → Steady e (set_marker e m x b).editor
set_marker_steady e m x b g = of_fault _ e _ _ g (change_marker_steady (marker_number m) (λ k. record k { spot = option_map (λ n. spot_in e (buffer_of e b) (place e x)) (number e x) }) e g (λ id k. fits id (number e x)))
  where
    fits : (id : ℕ) (o : Option ℤ) → SpotFits id (size_of e id) (option_map (λ n. spot_in e (buffer_of e b) (place e x)) o)
    fits id None = tt
    fits id (Some n) = spot_fits e (Some (spot_in e (buffer_of e b) (place e x))) id (clip_fits (size_of e (buffer_of e b)) (place e x))

move_overlay_steady : (e : Editor) (k : ℕ) (x y buffer : Value) → GoodEditor e → Steady e (change_overlay k (λ old. kept (record old { span = Some (span_in e (overlay_home e old.span buffer) x y) })) e)
move_overlay_steady e k x y buffer g = change_overlay_steady k (λ old. kept (record old { span = Some (span_in e (overlay_home e old.span buffer) x y) })) e g (λ id size q z.
    kept_fits id size (record (overlay_of e k) { span = Some (span_in e (overlay_home e (overlay_of e k).span buffer) x y) }) (subst (λ n. SpanFits id n (Some (span_in e (overlay_home e (overlay_of e k).span buffer) x y))) (sym q) (span_fits e (overlay_home e (overlay_of e k).span buffer) x y id)))

-- every call that sets state
pub apply_steady : (e : Editor) (prim : Prim) (args : List Value) → GoodEditor e → Steady e (apply e prim args).editor
apply_steady e SetBuffer args g = of_fault _ e _ _ g (current_steady (buffer_of e (arg args 0)) e g)
apply_steady e GetBufferCreate args g = create_steady e (arg args 0) g
apply_steady e GenerateNewBuffer args g = of_fault _ e _ _ g (with_buffer_steady (free_name e.buffers (name_of (arg args 0))) e g)
apply_steady e RenameBuffer args g = of_fault _ e _ _ g (renamed_steady e.current (free_name (others e) (name_of (arg args 0))) e g)
apply_steady e SetBufferModifiedP args g = (same_buffer e.current (λ b. record b { modified = flag (arg args 0) }) e g (λ b marks s. (refl, passes_same b (record b { modified = flag (arg args 0) }) s.good refl refl, site_bounds e.current (record { buffer = b; marks = marks }) s)))
apply_steady e SetBufferReadOnly args g = protected_steady e.current (flag (arg args 0)) e g
apply_steady e GotoChar args g = of_fault _ e _ _ g (point_steady (place e (arg args 0)) e g)
apply_steady e NarrowToRegion args g = narrow_steady e (arg args 0) (arg args 1) g
apply_steady e Widen args g = (widened_steady e.current e g)
apply_steady e MakeMarker args g = new_marker_steady e None false g (λ id h. tt)
apply_steady e PointMarker args g = new_marker_steady e (Some (record { buffer = e.current; place = (here e).point })) false g (λ id h. spot_fits e (Some (record { buffer = e.current; place = (here e).point })) id (lies e e.current g).point)
apply_steady e CopyMarker args g = copy_steady e (arg args 0) (arg args 1) g
apply_steady e SetMarker args g = set_marker_steady e (arg args 0) (arg args 1) (arg args 2) g
apply_steady e SetMarkerInsertionType args g = of_fault _ e _ _ g (change_marker_steady (marker_number (arg args 0)) (λ marker. record marker { advances = flag (arg args 1) }) e g (λ id k. marker_of_fits e (marker_number (arg args 0)) id k))
apply_steady e MakeOverlay args g = of_fault _ e _ _ g (overlays_steady _ e g (λ id x. overlays_append id (size_of e id) e.marks.overlays (record { span = Some (span_in e (buffer_of e (arg args 2)) (arg args 0) (arg args 1)); front_advance = flag (arg args 3); rear_advance = flag (arg args 4); props = [] }) x (span_fits e (buffer_of e (arg args 2)) (arg args 0) (arg args 1) id)))
apply_steady e OverlayPut args g = of_fault _ e _ _ g (change_overlay_steady (overlay_number (arg args 0)) (λ old. kept (record old { props = put old.props (symbol_of (arg args 1)) (value_of (arg args 2)) })) e g (λ id size q x. kept_fits id size (record (overlay_of e (overlay_number (arg args 0))) { props = put (overlay_of e (overlay_number (arg args 0))).props (symbol_of (arg args 1)) (value_of (arg args 2)) }) x))
apply_steady e MoveOverlay args g = of_fault _ e _ _ g (move_overlay_steady e (overlay_number (arg args 0)) (arg args 1) (arg args 2) (arg args 3) g)
apply_steady e DeleteOverlay args g = of_fault _ e _ _ g (change_overlay_steady (overlay_number (arg args 0)) (λ old. record old { span = None }) e g (λ id size q x. tt))
apply_steady e UndoBoundary args g = (undo_steady with_boundary e g (λ b s. boundary_passes b (record b { undo = with_boundary b.undo }) s refl refl))
apply_steady e UndoStart args g = of_fault _ e _ _ g (undo_steady started e g (λ b s. started_passes b (record b { undo = started b.undo }) s refl refl))
apply_steady e BufferDisableUndo args g = (undo_steady disabled e g (λ b s. disabled_passes b (record b { undo = disabled b.undo }) s refl refl))
apply_steady e BufferEnableUndo args g = (undo_steady enabled e g (λ b s. enabled_passes b (record b { undo = enabled b.undo }) s refl refl))
apply_steady e _ args g = steady_self e g
