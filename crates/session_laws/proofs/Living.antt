-- A session whose last child lives: its states, and what its filter makes of a text.
use Rattle.std.proofs.Common.{◌≡◌, ℕ, ◌+◌, ◌<◌, ◌≤◌, Bool, true, false, List, [], ◌∷◌, ◌++◌, length, refl, sym, ap, ◌∙◌, arith, append-nil, length-append}
use Rattle.std.specs.Prelude.{Option, Some, nat_le}
use Rattle.std.proofs.lemmas.Bool.{leb-true, leb-false}
use Rattle.std.proofs.lemmas.List.{length-map}
use Rattle.text_model.specs.Characters.{Ch}
use Rattle.text_model.specs.Codings.{Utf8}
use Rattle.text_model.specs.Properties.{bare}
use Rattle.editor_model.specs.Values.{Value}
use Rattle.editor_model.specs.Editor.{Name}
use Rattle.editor_model.specs.Arguments.{has_room}
use Rattle.editor_model.specs.Limits.{longest_text}
use Rattle.plain_machine.specs.State.{State, Process, Program, Runs, Off, Named, change_process}
use Rattle.plain_machine.specs.Items.{Item, Said}
use Rattle.plain_machine.specs.Calls.{with_filter}
use Rattle.plain_machine.specs.Waits.{entry_of}
use Rattle.plain_machine.specs.Run.{Reaches, stays}
use Rattle.line_session.specs.Script.{filter_name, sentinel_name}
use Rattle.session_laws.specs.Standing.{Parts, session_program, editor_with, outside}
use Rattle.session_laws.proofs.Inserting.{put_behind}
use Rattle.session_laws.proofs.Filtering.{pointed, stopped, changes_one, filter_heard, filter_full}
use Rattle.session_laws.proofs.Starting.{last_there, last_set, last_made}
use Rattle.session_laws.proofs.Room.{room_is}

-- what differs between the processes that live
pub record Child : Type 0 where
  pub name : Name
  pub child : ℕ
  pub mark : ℕ
  pub bytes : Option (List ℕ)
  pub drained : Bool
  pub closed : Bool

abbrev pub living : Child → Process
living k = record {
  name = k.name;
  child = k.child;
  status = Runs;
  buffer = Some 1;
  mark = k.mark;
  filter = Named filter_name;
  sentinel = Some sentinel_name;
  coding = Utf8;
  bytes = k.bytes;
  drained = k.drained;
  closed = k.closed;
  listed = true;
}

-- with these processes
abbrev pub with_last : Parts → List Process → Process → Parts
with_last parts olds x = record parts { processes = olds ++ x ∷ [] }

pub change_last : (parts : Parts) (olds : List Process) (x : Process) (change : Process → Process) → change_process (length olds) change (outside (with_last parts olds x)) ≡ outside (with_last parts olds (change x))
change_last parts olds x change =
    changes_one (outside (with_last parts olds x)) (length olds) change x (last_there x olds) ∙ ap (λ l. outside (record parts { processes = l })) (last_set x olds (change x))

-- A TEXT
-- it went in, or its process was stopped
pub data Filled (parts : Parts) (olds : List Process) (k : Child) (text : List Ch) (after : State) : Type 0 where
  went_in : (behind : Parts) → after ≡ outside (with_last behind olds (living k)) → behind.text ≡ parts.text ++ text → length behind.text ≤ longest_text → Filled parts olds k text after
  was_stopped : (behind : Parts) → after ≡ outside (with_last behind olds (with_filter Off (living k))) → behind.text ≡ parts.text → longest_text < length (parts.text ++ text) → Filled parts olds k text after

-- the entry of its filter leads there
pub record Fills (program : Program) (bound : ℕ) (parts : Parts) (olds : List Process) (k : Child) (text : List Ch) (s : State) (x : Process) (rest : List Item) : Type 0 where
  pub said : List Said
  pub after : State
  pub way : Reaches program bound (record { state = outside (with_last parts olds (living k)); work = entry_of s (length olds) x text rest }) [] said (record { state = after; work = rest })
  pub filled : Filled parts olds k text after

module _ (limit : ℕ) (command : List Value) (bound : ℕ) (parts : Parts) (olds : List Process) (k : Child) (fits : length parts.text ≤ longest_text) where
  abbrev p : ℕ
  p = length olds

  abbrev there : Parts
  there = with_last parts olds (living k)

  room_by : (text : List Ch) → 1 ≤ length text → has_room (editor_with 1 (pointed there)) 1 (length (bare text)) ≡ nat_le (length parts.text + length text) longest_text
  room_by text some = ap (has_room (editor_with 1 (pointed there)) 1) (length-map text (λ c. (c, []))) ∙ room_is (pointed there) (length text) some

  stopped_last : stopped p (living k) (pointed there) ≡ with_last (pointed parts) olds (with_filter Off (living k))
  stopped_last = ap (λ l. record (pointed parts) { processes = l }) (last_set (living k) olds (with_filter Off (living k)))

  -- of a process with the session's filter
  pub fills : (s : State) (j : Child) (text : List Ch) (rest : List Item) → Fills (session_program limit command) bound parts olds k text s (living j) rest
  fills s j [] rest = record { said = []; after = _; way = stays; filled = went_in parts refl (sym (append-nil parts.text)) fits }
  fills s j (c ∷ more) rest = by (nat_le (length parts.text + length (c ∷ more)) longest_text) refl
    where
      text : List Ch
      text = c ∷ more

      room : (b : Bool) → nat_le (length parts.text + length text) longest_text ≡ b → has_room (editor_with 1 (pointed there)) 1 (length (bare text)) ≡ b
      room b e = room_by text (omega arith) ∙ e

      by : (b : Bool) → nat_le (length parts.text + length text) longest_text ≡ b → Fills (session_program limit command) bound parts olds k text s (living j) rest
      by true e =
          let h = filter_heard limit command bound there p (living k) (last_there (living k) olds) (last_made (living k) olds) refl c more (room true e) in
          record {
            said = h.0;
            after = outside (put_behind (pointed there) text);
            way = h.1 rest;
            filled = went_in (put_behind (pointed parts) text) refl refl (omega (arith, leb-true (length parts.text + length text) longest_text e, length-append parts.text text));
          }
      by false e =
          let h = filter_full limit command bound there p (living k) (last_there (living k) olds) (last_made (living k) olds) refl c more (room false e) in
          record {
            said = h.0;
            after = outside (stopped p (living k) (pointed there));
            way = h.1 rest;
            filled = was_stopped (pointed parts) (ap outside stopped_last) refl (omega (arith, leb-false (length parts.text + length text) longest_text e, length-append parts.text text));
          }
