-- An insertion at the end of the text that a session gathers.
use Rattle.std.proofs.Common.{◌≡◌, ℕ, zero, suc, ◌+◌, ◌-◌, Bool, true, false, List, [], ◌∷◌, ◌++◌, length, take, drop, map, refl, sym, ap, ◌∙◌, subst, arith, append-nil, length-append}
use Rattle.std.specs.Prelude.{Some, None}
use Rattle.std.proofs.lemmas.Bool.{lt-ltb, le-ltb}
use Rattle.std.proofs.lemmas.List.{length-map, map-append, take_all, drop_all}
use Rattle.text_model.specs.Characters.{Ch}
use Rattle.text_model.specs.Properties.{Cell, bare, splice}
use Rattle.text_model.specs.Undo.{Undo, Inserted, without_pending}
use Rattle.text_model.specs.Marks.{move_marker, insertion}
use Rattle.text_model.specs.Places.{after_insert, clip}
use Rattle.text_model.specs.Commit.{Buffer, recorded}
use Rattle.editor_model.specs.Values.{Str, Nil, BufferFull}
use Rattle.editor_model.specs.Editor.{Editor, new_live, scratch}
use Rattle.editor_model.specs.Answers.{Put, Change, Done, refuse, first_fault}
use Rattle.editor_model.specs.Arguments.{has_room}
use Rattle.editor_model.specs.TextCalls.{with_inherited, joined}
use Rattle.editor_model.specs.Commits.{changed, commit_of}
use Rattle.plain_machine.specs.Lines.{OfBefore, OfAfter}
use Rattle.plain_machine.specs.State.{State, Program}
use Rattle.plain_machine.specs.Items.{MakeChange}
use Rattle.plain_machine.specs.Run.{Runs, Fine}
use Rattle.plain_machine.proofs.Composed.{change_done, hooks_none, begun, done, done_at, ends_of, ends_behind}
use Rattle.plain_machine.specs.Calls.{with_editor}
use Rattle.plain_machine.specs.Forms.{popped}
use Rattle.session_laws.specs.Standing.{Parts, session_name, gathering, editor_with, inside}

-- THE PIECE
pub inherits_nothing : (piece : List Ch) → with_inherited [] (bare piece) ≡ bare piece
inherits_nothing [] = refl
inherits_nothing (c ∷ piece) = ap (λ l. (c, []) ∷ l) (inherits_nothing piece)

pub piece_is : (piece : List Ch) → joined (Str (bare piece) ∷ []) ≡ bare piece
piece_is piece = append-nil (bare piece)

-- the change that puts it in
abbrev pub at_end : Parts → (piece : List Ch) → Change
at_end parts piece = record { buffer = 1; from = length parts.text; to = length parts.text; what = Put (bare piece) false true false None; reply = Nil }

-- THE PARTS BEHIND IT
abbrev pub behind_undo : Parts → (n : ℕ) → Undo
behind_undo parts n = without_pending (recorded (Inserted (length parts.text) (length parts.text + n) ∷ []) (gathering parts))

abbrev pub put_behind : Parts → (piece : List Ch) → Parts
put_behind parts piece = record parts {
  text = parts.text ++ piece;
  point = length parts.text + length (bare piece);
  modified = true;
  undo = behind_undo parts (length (bare piece));
  markers = map (move_marker 1 false (insertion (length parts.text) (length (bare piece)))) parts.markers;
}

-- PLACES
stays_first : (n k : ℕ) → after_insert n k false 0 ≡ 0
stays_first zero k = refl
stays_first (suc n) k = rw (lt-ltb 0 (suc n) (omega arith)) refl

goes_behind : (n k : ℕ) → after_insert n k true n ≡ n + k
goes_behind n k = rw (le-ltb n n (omega arith)) refl

stands_behind : (n k : ℕ) → clip (after_insert n k false 0) (after_insert n k true n) (n + k) ≡ n + k
stands_behind n k = rw (stays_first n k, goes_behind n k) (omega arith)

bare_length : (text : List Ch) → length (bare text) ≡ length text
bare_length text = length-map text (λ c. (c, []))

nothing_behind : (text : List Ch) → drop (length text) (bare text) ≡ []
nothing_behind text = drop_all (length text) (bare text) (omega (arith, bare_length text))

spliced : (text piece : List Ch) → splice (length text) (length text) (bare piece) (bare text) ≡ bare (text ++ piece)
spliced text piece =
    let all : take (length text) (bare text) ≡ bare text = take_all (length text) (bare text) (omega (arith, bare_length text)) in
    ap (λ l. l ++ (bare piece ++ drop (length text) (bare text))) all ∙ ap (λ l. bare text ++ (bare piece ++ l)) (nothing_behind text) ∙ ap (λ l. bare text ++ l) (append-nil (bare piece)) ∙ sym (map-append (λ c. (c, [])) text piece)

longer : (text piece : List Ch) → after_insert (length text) (length (bare piece)) true (length text) ≡ length (text ++ piece)
longer text piece = goes_behind (length text) (length (bare piece)) ∙ omega (arith, length-append text piece, bare_length piece)

-- THE INSERTION
module _ (program : Program) (bound : ℕ) (parts : Parts) (c : Ch) (more : List Ch) where
  abbrev piece : List Ch
  piece = c ∷ more

  abbrev n : ℕ
  n = length parts.text

  abbrev k : ℕ
  k = length (bare piece)

  abbrev s : State
  s = inside 1 parts

  abbrev change : Change
  change = at_end parts piece

  abbrev t : State
  t = record (begun program bound change s) { inhibited = false }

  abbrev new : Editor
  new = changed t.editor 1 n n change.what

  -- by whether there is room
  abbrev left_by : Bool → State
  left_by b = record (record (popped (with_editor (commit_of (first_fault (refuse BufferFull b ∷ [])) t.editor new change).editor t)) { inhibited = true }) { inhibited = false }

  -- with this text, these bounds and this point
  abbrev built : List Cell → (begin end point : ℕ) → State
  built text begin end point =
      let behind : Parts = put_behind parts piece in
      let b : Buffer = record { text = text; begin = begin; end = end; point = point; modified = true; undo = behind.undo } in
      record s {
        editor = record {
          buffers = Some (new_live scratch) ∷ Some (record { name = session_name; buffer = b; read_only = false }) ∷ [];
          current = 1;
          marks = record { markers = behind.markers; overlays = []; saved = [] };
          registers = parts.registers;
          lifted = false;
        };
      }

  left_is : left_by true ≡ inside 1 (put_behind parts piece)
  left_is = λ i. built (spliced parts.text piece i) (stays_first n k i) (longer parts.text piece i) (stands_behind n k i)

  pub puts : has_room (editor_with 1 parts) 1 k ≡ true → Runs program bound (MakeChange change) s [] [] (Fine (inside 1 (put_behind parts piece)))
  puts room =
      let made : left_by (has_room (editor_with 1 parts) 1 k) ≡ inside 1 (put_behind parts piece) = ap left_by room ∙ left_is in
      let committed : (done_at program bound change t).committed ≡ Done n (n + k) (n - n) = ap (λ b. (commit_of (first_fault (refuse BufferFull b ∷ [])) t.editor new change).committed) room in
      subst (λ u. Runs program bound (MakeChange change) s [] [] (Fine u)) made
      (change_done program bound change s (begun program bound change s) (done program bound change t) [] [] [] [] n (n + k) (n - n) refl
      (hooks_none program bound (OfBefore 1) (ends_of program bound change) (begun program bound change s)) committed (hooks_none program bound (OfAfter 1) (ends_behind program bound n (n + k) (n - n)) (done program bound change t)))
