-- Markers and overlays stand in the buffers in which they stood, whatever moves.
use Rattle.std.proofs.Common.{◌≡◌, ◌≢◌, ℕ, Bool, true, false, All, Option, Some, None, option_map}
use Rattle.std.specs.Prelude.{IfSome, ◌==◌, ◌||◌, ◌&&◌, if◌then◌else◌, is_some}
use Rattle.std.proofs.lemmas.Bool.{eqb-false}
use Rattle.std.proofs.lemmas.List.Elements.{All-weaker, All-map}
use Rattle.text_model.specs.Properties.{get}
use Rattle.text_model.specs.Marks.{Marks, Marker, Overlay, Spot, Span, Move, move_marks, move_marker, move_overlay, deletion, start_advances, evaporated, evaporate_all, evaporate, marker_left, overlay_left, leave_buffer}
use Rattle.text_model.proofs.Cases.{by_test}
use Rattle.buffer_table.specs.Standing.{MarkerIn, OverlayIn, StandIn}

-- MORE BUFFERS
marker_more : (among more : ℕ → Bool) → ((id : ℕ) → among id ≡ true → more id ≡ true) → (m : Marker) → MarkerIn among m → MarkerIn more m
marker_more among more h m w = go m.spot w
  where
    go : (o : Option Spot) → IfSome o (λ s. among s.buffer ≡ true) → IfSome o (λ s. more s.buffer ≡ true)
    go None w = w
    go (Some s) w = h s.buffer w

overlay_more : (among more : ℕ → Bool) → ((id : ℕ) → among id ≡ true → more id ≡ true) → (o : Overlay) → OverlayIn among o → OverlayIn more o
overlay_more among more h o w = go o.span w
  where
    go : (x : Option Span) → IfSome x (λ s. among s.buffer ≡ true) → IfSome x (λ s. more s.buffer ≡ true)
    go None w = w
    go (Some s) w = h s.buffer w

pub stand_more : (among more : ℕ → Bool) → ((id : ℕ) → among id ≡ true → more id ≡ true) → (marks : Marks) → StandIn among marks → StandIn more marks
stand_more among more h marks w =
    record {
      markers = All-weaker (MarkerIn among) (MarkerIn more) (marker_more among more h) marks.markers w.markers;
      overlays = All-weaker (OverlayIn among) (OverlayIn more) (overlay_more among more h) marks.overlays w.overlays;
    }

-- MOVES
marker_moved : (among : ℕ → Bool) (b : ℕ) (all : Bool) (move : Move) (m : Marker) → MarkerIn among m → MarkerIn among (move_marker b all move m)
marker_moved among b all move m w = go m.spot w
  where
    go : (o : Option Spot) → IfSome o (λ s. among s.buffer ≡ true)
        → IfSome (option_map (λ s. if s.buffer == b then record s { place = move (m.advances || all) s.place } else s) o) (λ s. among s.buffer ≡ true)
    go None w = w
    go (Some s) w = by_test (λ (t : Spot). among t.buffer ≡ true) (s.buffer == b) (record s { place = move (m.advances || all) s.place }) s (λ _. w) (λ _. w)

overlay_moved : (among : ℕ → Bool) (b : ℕ) (all : Bool) (move : Move) (o : Overlay) → OverlayIn among o → OverlayIn among (move_overlay b all move o)
overlay_moved among b all move o w = go o.span w
  where
    go : (x : Option Span) → IfSome x (λ s. among s.buffer ≡ true)
        → IfSome (option_map (λ s. if s.buffer == b then record s { start = move (start_advances all o s) s.start; end = move (o.rear_advance || all) s.end } else s) x) (λ s. among s.buffer ≡ true)
    go None w = w
    go (Some s) w = by_test (λ (t : Span). among t.buffer ≡ true) (s.buffer == b) (record s { start = move (start_advances all o s) s.start; end = move (o.rear_advance || all) s.end }) s (λ _. w) (λ _. w)

pub stand_moved : (among : ℕ → Bool) (b : ℕ) (all : Bool) (move : Move) (marks : Marks) → StandIn among marks → StandIn among (move_marks b all move marks)
stand_moved among b all move marks w =
    record {
      markers = All-map (MarkerIn among) (move_marker b all move) marks.markers
          (All-weaker (MarkerIn among) (λ m. MarkerIn among (move_marker b all move m)) (marker_moved among b all move) marks.markers w.markers);
      overlays = All-map (OverlayIn among) (move_overlay b all move) marks.overlays
          (All-weaker (OverlayIn among) (λ o. OverlayIn among (move_overlay b all move o)) (overlay_moved among b all move) marks.overlays w.overlays);
    }

overlay_evaporated : (among : ℕ → Bool) (b : ℕ) (o : Overlay) → OverlayIn among o → OverlayIn among (evaporated b o)
overlay_evaporated among b o w = go o.span w
  where
    go : (x : Option Span) → IfSome x (λ s. among s.buffer ≡ true)
        → IfSome (elim x [ None ↦ None | Some s ↦ if (s.buffer == b) && ((s.start == s.end) && is_some (get o.props evaporate)) then None else Some s ]) (λ s. among s.buffer ≡ true)
    go None w = w
    go (Some s) w = by_test (λ t. IfSome t (λ s. among s.buffer ≡ true)) ((s.buffer == b) && ((s.start == s.end) && is_some (get o.props evaporate))) None (Some s) (λ _. tt) (λ _. w)

pub stand_deleted : (among : ℕ → Bool) (b from to : ℕ) (marks : Marks) → StandIn among marks → StandIn among (evaporate_all b (move_marks b false (deletion from to) marks))
stand_deleted among b from to marks w =
    let moved : Marks = move_marks b false (deletion from to) marks in
    let still : StandIn among moved = stand_moved among b false (deletion from to) marks w in
    record {
      markers = still.markers;
      overlays = All-map (OverlayIn among) (evaporated b) moved.overlays
          (All-weaker (OverlayIn among) (λ o. OverlayIn among (evaporated b o)) (overlay_evaporated among b) moved.overlays still.overlays);
    }

-- ONE BUFFER LESS
marker_leaves : (among less : ℕ → Bool) (b : ℕ) → ((id : ℕ) → id ≢ b → among id ≡ true → less id ≡ true) → (m : Marker) → MarkerIn among m → MarkerIn less (marker_left b m)
marker_leaves among less b h m w = go m.spot w
  where
    go : (o : Option Spot) → IfSome o (λ s. among s.buffer ≡ true) → IfSome (elim o [ None ↦ None | Some s ↦ if s.buffer == b then None else Some s ]) (λ s. less s.buffer ≡ true)
    go None w = w
    go (Some s) w = by_test (λ t. IfSome t (λ s. less s.buffer ≡ true)) (s.buffer == b) None (Some s) (λ _. tt) (λ k. h s.buffer (λ e. eqb-false s.buffer b k e) w)

overlay_leaves : (among less : ℕ → Bool) (b : ℕ) → ((id : ℕ) → id ≢ b → among id ≡ true → less id ≡ true) → (o : Overlay) → OverlayIn among o → OverlayIn less (overlay_left b o)
overlay_leaves among less b h o w = go o.span w
  where
    go : (x : Option Span) → IfSome x (λ s. among s.buffer ≡ true) → IfSome (elim x [ None ↦ None | Some s ↦ if s.buffer == b then None else Some s ]) (λ s. less s.buffer ≡ true)
    go None w = w
    go (Some s) w = by_test (λ t. IfSome t (λ s. less s.buffer ≡ true)) (s.buffer == b) None (Some s) (λ _. tt) (λ k. h s.buffer (λ e. eqb-false s.buffer b k e) w)

pub stand_left : (among less : ℕ → Bool) (b : ℕ) → ((id : ℕ) → id ≢ b → among id ≡ true → less id ≡ true) → (marks : Marks) → StandIn among marks → StandIn less (leave_buffer b marks)
stand_left among less b h marks w =
    record {
      markers = All-map (MarkerIn less) (marker_left b) marks.markers
          (All-weaker (MarkerIn among) (λ m. MarkerIn less (marker_left b m)) (marker_leaves among less b h) marks.markers w.markers);
      overlays = All-map (OverlayIn less) (overlay_left b) marks.overlays
          (All-weaker (OverlayIn among) (λ o. OverlayIn less (overlay_left b o)) (overlay_leaves among less b h) marks.overlays w.overlays);
    }
