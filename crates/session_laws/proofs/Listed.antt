-- The calls of a session's natives, one by one.
use Rattle.std.proofs.Common.{◌≡◌, ℕ, List, [], ◌∷◌, refl}
use Rattle.std.specs.Prelude.{Some, None}
use Rattle.editor_model.specs.Values.{Value, T, Fault, Answered, Refused, ProcessBuffer, SetBuffer, PointMax, GotoChar, CharAfter, Insert, SetProcessFilter}
use Rattle.line_session.specs.Handlers.{session_does, before}

module _ (limit : ℕ) (command : List Value) (p text : Value) where
  abbrev args : List Value
  args = p ∷ text ∷ []

  -- THE FILTER
  pub filter_first : session_does limit command 0 args [] ≡ Some (ProcessBuffer, p ∷ [])
  filter_first = refl

  pub filter_second : (b : Value) → session_does limit command 0 args (Answered b ∷ []) ≡ Some (SetBuffer, b ∷ [])
  filter_second b = refl

  pub filter_third : (b c : Value) → session_does limit command 0 args (Answered b ∷ Answered c ∷ []) ≡ Some (PointMax, [])
  filter_third b c = refl

  pub filter_fourth : (b c m : Value) → session_does limit command 0 args (Answered b ∷ Answered c ∷ Answered m ∷ []) ≡ Some (GotoChar, m ∷ [])
  filter_fourth b c m = refl

  pub filter_fifth : (b c m g : Value) → session_does limit command 0 args (Answered b ∷ Answered c ∷ Answered m ∷ Answered g ∷ []) ≡ Some (Insert, text ∷ [])
  filter_fifth b c m g = refl

  pub filter_done : (b c m g v : Value) → session_does limit command 0 args (Answered b ∷ Answered c ∷ Answered m ∷ Answered g ∷ Answered v ∷ []) ≡ None
  filter_done b c m g v = refl

  pub filter_stops : (b c m g : Value) (f : Fault) → session_does limit command 0 args (Answered b ∷ Answered c ∷ Answered m ∷ Answered g ∷ Refused f ∷ []) ≡ Some (SetProcessFilter, p ∷ T ∷ [])
  filter_stops b c m g f = refl

  pub filter_stopped : (b c m g v : Value) (f : Fault) → session_does limit command 0 args (Answered b ∷ Answered c ∷ Answered m ∷ Answered g ∷ Refused f ∷ Answered v ∷ []) ≡ None
  filter_stopped b c m g v f = refl

  -- THE SENTINEL, up to the last character
  pub sentinel_fifth : (b c m g : Value) → session_does limit command 1 args (Answered b ∷ Answered c ∷ Answered m ∷ Answered g ∷ []) ≡ Some (CharAfter, before m ∷ [])
  sentinel_fifth b c m g = refl
