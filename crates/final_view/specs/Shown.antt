-- What a buffer looks like: its characters but for those that are hidden, with the strings of its overlays.
-- GNU Emacs Lisp Reference Manual, sections "Invisible Text", "Overlay Properties". Places count from 0.
use Rattle.std.specs.Prelude.{ℕ, ◌+◌, Bool, true, false, ◌&&◌, ◌||◌, ◌==◌, nat_lt, List, [], ◌∷◌, ◌++◌}
use Rattle.std.specs.Prelude.{reverse, filter, flat_map, if◌then◌else◌, Option, Some, None, is_some}
use Rattle.text_model.specs.Characters.{Ch}
use Rattle.text_model.specs.Properties.{PropVal, Text, PropSet, Cell, get, part}
use Rattle.text_model.specs.Marks.{Overlay, Span}
use Rattle.text_model.specs.OverlayQuestions.{span_passes, outranks, winner}
use Rattle.text_model.specs.Commit.{Buffer}
use Rattle.editor_model.specs.Editor.{Editor, buffer_at}
use Rattle.editor_model.specs.OverlayCalls.{char_property}

-- the symbols `invisible`, `before-string` and `after-string`
abbrev pub invisible : ℕ
invisible = 11

abbrev pub before_string : ℕ
before_string = 12

abbrev pub after_string : ℕ
after_string = 13

-- of the values of the two only strings are shown
abbrev pub text_of : Option PropVal → List Ch
text_of (Some (Text text)) = text
text_of _ = []

abbrev pub before : Overlay → List Ch
before o = text_of (get o.props before_string)

abbrev pub after : Overlay → List Ch
after o = text_of (get o.props after_string)

-- THE ORDER
-- the overlays of a buffer, by number
abbrev pub in_buffer : (buffer : ℕ) → List Overlay → List Overlay
in_buffer buffer overlays = filter (λ o. span_passes buffer (λ s. true) o.span) overlays

-- an overlay put among later ones: in front of the first that wins over it
abbrev pub put_in : Overlay → List Overlay → List Overlay
put_in o [] = o ∷ []
put_in o (p ∷ later) = if outranks p o then o ∷ p ∷ later else p ∷ put_in o later

-- from the weakest to the strongest; of two that are equal in priority, start and end the later one is stronger
abbrev pub rising : List Overlay → List Overlay
rising [] = []
rising (o ∷ later) = put_in o (rising later)

-- AT ONE PLACE
abbrev pub stands : (Span → Bool) → Overlay → Bool
stands test o = elim o.span [ None ↦ false | Some s ↦ test s ]

abbrev pub is_empty : Span → Bool
is_empty s = s.start == s.end

abbrev pub is_wide : Span → Bool
is_wide s = nat_lt s.start s.end

-- a nonempty one ends there, behind the first place
abbrev pub ends_at : (first place : ℕ) → Span → Bool
ends_at first p s = (s.end == p) && (is_wide s && nat_lt first p)

-- an empty one stands there, or a nonempty one starts there, before the last place
abbrev pub starts_at : (last place : ℕ) → Span → Bool
starts_at last p s = (s.start == p) && (is_empty s || (is_wide s && nat_lt p last))

abbrev pub closing : (first place : ℕ) → (ranked : List Overlay) → List Ch
closing first p ranked = flat_map after (filter (stands (ends_at first p)) (reverse ranked))

-- the second string of an empty one comes directly behind its first
abbrev pub opened : Overlay → List Ch
opened o = before o ++ (if stands is_empty o then after o else [])

abbrev pub opening : (last place : ℕ) → (ranked : List Overlay) → List Ch
opening last p ranked = flat_map opened (filter (stands (starts_at last p)) ranked)

-- THE WHOLE
-- the accessible portion of a buffer, all overlays by number, and those of the buffer by rising strength
pub record Scene : Type 0 where
  pub buffer : ℕ
  pub first : ℕ
  pub last : ℕ
  pub overlays : List Overlay
  pub ranked : List Overlay

abbrev pub strings_at : Scene → (place : ℕ) → List Ch
strings_at scene p = closing scene.first p scene.ranked ++ opening scene.last p scene.ranked

-- `invisible` is asked as `get-char-property` asks, and every value but nil hides
abbrev pub is_hidden : Scene → (place : ℕ) → PropSet → Bool
is_hidden scene p set =
    is_some (char_property (winner scene.buffer (p + 1) invisible scene.overlays) invisible set)

abbrev pub seen : Scene → (place : ℕ) → Cell → List Ch
seen scene p c = if is_hidden scene p c.1 then [] else c.0 ∷ []

-- from a place on, behind which these characters stand
abbrev pub shown_from : Scene → (place : ℕ) → List Cell → List Ch
shown_from scene p [] = strings_at scene p
shown_from scene p (c ∷ cells) = strings_at scene p ++ (seen scene p c ++ shown_from scene (p + 1) cells)

abbrev pub scene_in : (buffer first last : ℕ) → List Overlay → Scene
scene_in buffer first last overlays =
    record {
      buffer = buffer;
      first = first;
      last = last;
      overlays = overlays;
      ranked = rising (in_buffer buffer overlays);
    }

abbrev pub shown_in : (id : ℕ) → Buffer → List Overlay → List Ch
shown_in id b overlays = shown_from (scene_in id b.begin b.end overlays) b.begin (part b.begin b.end b.text)

abbrev pub shown : Editor → (id : ℕ) → List Ch
shown e id = shown_in id (buffer_at e id) e.marks.overlays
