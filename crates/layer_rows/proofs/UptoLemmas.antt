-- Places after an insertion of one character.
use Rattle.std.proofs.Common.{◌≡◌, ℕ, ◌+◌, ◌≤◌, ◌<◌, Bool, true, false, nat_lt, ◌==◌, ◌||◌, List, map, All, IfSome, Option, Some, None, option_map, if◌then◌else◌, refl, arith}
use Rattle.std.proofs.lemmas.List.Elements.{All-map, All-weaker}
use Rattle.std.proofs.lemmas.Bool.{ltb-false}
use Rattle.text_model.specs.Places.{after_insert}
use Rattle.text_model.specs.Marks.{Overlay, Span, move_overlay, insertion, start_advances}
use Rattle.overlay_set.specs.Numbered.{HasRoomFor}
use Rattle.layer_rows.specs.Upto.{EndsUpto}

place_upto : (at : ℕ) (advances : Bool) (p most : ℕ) → p ≤ most → after_insert at 1 advances p ≤ most + 1
place_upto at advances p most h = by_tests (nat_lt p at) (nat_lt at p) advances refl refl
  where
    by_tests : (s t a : Bool) → nat_lt p at ≡ s → nat_lt at p ≡ t → (if s then p else (if t then p + 1 else (if a then at + 1 else p))) ≤ most + 1
    by_tests true t a k l = omega arith
    by_tests false true a k l = omega arith
    by_tests false false false k l = omega arith
    by_tests false false true k l = let low : at ≤ p = ltb-false p at k in omega arith

overlay_upto : (b at most : ℕ) (o : Overlay) → EndsUpto most o → EndsUpto (most + 1) (move_overlay b false (insertion at 1) o)
overlay_upto b at most o h = by_span o.span h
  where
    by_span : (t : Option Span) → IfSome t (λ s. (s.start ≤ most) × (s.end ≤ most)) → IfSome (option_map (λ (s : Span). if s.buffer == b then record s { start = after_insert at 1 (start_advances false o s) s.start; end = after_insert at 1 (o.rear_advance || false) s.end } else s) t) (λ s. (s.start ≤ most + 1) × (s.end ≤ most + 1))
    by_span None k = tt
    by_span (Some s) k = by_buffer (s.buffer == b) refl
      where
        by_buffer : (u : Bool) → (s.buffer == b) ≡ u → ((if u then record s { start = after_insert at 1 (start_advances false o s) s.start; end = after_insert at 1 (o.rear_advance || false) s.end } else s).start ≤ most + 1) × ((if u then record s { start = after_insert at 1 (start_advances false o s) s.start; end = after_insert at 1 (o.rear_advance || false) s.end } else s).end ≤ most + 1)
        by_buffer true e = (place_upto at (start_advances false o s) s.start most k.0, place_upto at (o.rear_advance || false) s.end most k.1)
        by_buffer false e = let low = k.0 in let high = k.1 in (omega arith, omega arith)

pub all_upto : (b at most : ℕ) (os : List Overlay) → All (EndsUpto most) os → All (EndsUpto (most + 1)) (map (move_overlay b false (insertion at 1)) os)
all_upto b at most os h = All-map (EndsUpto (most + 1)) (move_overlay b false (insertion at 1)) os (All-weaker (EndsUpto most) (λ o. EndsUpto (most + 1) (move_overlay b false (insertion at 1) o)) (λ o k. overlay_upto b at most o k) os h)

room_one : (b most : ℕ) (o : Overlay) → most < 0xffff_ffff_ffff_ffff → EndsUpto most o → HasRoomFor b 1 o
room_one b most o large h = by_span o.span h
  where
    by_span : (t : Option Span) → IfSome t (λ s. (s.start ≤ most) × (s.end ≤ most)) → IfSome t (λ s. s.buffer ≡ b → (1 + s.start ≤ 0xffff_ffff_ffff_ffff) × (1 + s.end ≤ 0xffff_ffff_ffff_ffff))
    by_span None k = tt
    by_span (Some s) k = λ own. (let low = k.0 in omega arith, let high = k.1 in omega arith)

pub all_room : (b most : ℕ) (os : List Overlay) → most < 0xffff_ffff_ffff_ffff → All (EndsUpto most) os → All (HasRoomFor b 1) os
all_room b most os large h = All-weaker (EndsUpto most) (HasRoomFor b 1) (λ o k. room_one b most o large k) os h
