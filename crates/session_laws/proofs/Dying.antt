-- A session whose last child has ended: what its sentinel makes of that.
use Rattle.std.proofs.Common.{◌≡◌, ℕ, ◌+◌, ◌<◌, ◌≤◌, Bool, true, false, ◌&&◌, not, List, [], ◌∷◌, ◌++◌, length, map, refl, sym, ap, ◌∙◌, subst, arith, append-nil, append_assoc, length-append}
use Rattle.std.specs.Prelude.{Some, None, nat_lt, nat_le, if◌then◌else◌}
use Rattle.std.proofs.lemmas.Bool.{lt-ltb, leb-true, leb-false}
use Rattle.text_model.specs.Characters.{Ch, Scalar}
use Rattle.editor_model.specs.Values.{Value, Nil, Sym, TheBuffer, TheProcess, at_place, WrongType, Reply, Answered, Refused, StartProcess}
use Rattle.editor_model.specs.TextCalls.{code_value, char_at_position}
use Rattle.editor_model.specs.Arguments.{has_room}
use Rattle.editor_model.specs.Limits.{longest_text}
use Rattle.plain_machine.specs.State.{Process, Status, Off}
use Rattle.plain_machine.specs.Items.{Item, MakeCall, Enter, Native, Called, ToNative, Said, Config}
use Rattle.plain_machine.specs.Lines.{OfSentinel}
use Rattle.plain_machine.specs.Natives.{normal, is_callable}
use Rattle.plain_machine.specs.Calls.{with_filter}
use Rattle.plain_machine.specs.Handling.{unlisted}
use Rattle.plain_machine.specs.Run.{Reaches}
use Rattle.plain_machine.proofs.Composed.{reaches_then}
use Rattle.line_session.specs.Handlers.{session_does, restart, in_turn, start_again, nothing, is_finished, has_restarts}
use Rattle.line_session.specs.Script.{filter_name, sentinel_name}
use Rattle.line_session.specs.Lines.{is_open}
use Rattle.session_laws.specs.Standing.{Parts, session_program, gathering, editor_with, outside, inside}
use Rattle.session_laws.proofs.Inserting.{put_behind}
use Rattle.session_laws.proofs.Filtering.{pointed, stopped, Leads, done_in}
use Rattle.session_laws.proofs.Ending.{starts_no_more, asks_both, starts_again, start_barred, by_open, leaves_closed, closes, gives_up}
use Rattle.session_laws.proofs.Starting.{last_there, last_set, last_made, enters, leaves, leave}
use Rattle.session_laws.proofs.Room.{room_is}
use Rattle.session_laws.proofs.Lined.{feed_behind}
use Rattle.session_laws.proofs.Living.{Child, living, with_last, change_last}

-- how it has ended
abbrev pub ended : Child → Status → Process
ended k status = record (living k) { status = status }

-- THE REPLIES BEFORE THE SENTINEL STARTS AGAIN
abbrev pub restarts : (limit p : ℕ) → (how : Value) → Bool
restarts limit p how = not (is_finished how) && has_restarts limit (TheProcess p)

pub record Based (limit : ℕ) (command : List Value) (p : ℕ) (how : Value) (base : List Reply) : Type 0 where
  pub does : (replies : List Reply) → session_does limit command 1 (TheProcess p ∷ how ∷ []) (base ++ replies) ≡ restart limit command (TheProcess p) how replies
  pub short : length base ≤ 10

-- with the replies to its two questions
abbrev pub behind_both : List Reply → List Reply
behind_both base = (base ++ Answered (Sym filter_name) ∷ []) ++ Answered (Sym sentinel_name) ∷ []

module _ (limit : ℕ) (command : List Value) (p : ℕ) (how : Value) (base : List Reply) (based : Based limit command p how base) where
  abbrev does : List Reply → Type 0
  does replies = session_does limit command 1 (TheProcess p ∷ how ∷ []) (base ++ replies) ≡ restart limit command (TheProcess p) how replies

  pub does_none : session_does limit command 1 (TheProcess p ∷ how ∷ []) base ≡ restart limit command (TheProcess p) how []
  does_none = ap (session_does limit command 1 (TheProcess p ∷ how ∷ [])) (sym (append-nil base)) ∙ based.does []

  pub does_more : (a b : List Reply) → session_does limit command 1 (TheProcess p ∷ how ∷ []) ((base ++ a) ++ b) ≡ restart limit command (TheProcess p) how (a ++ b)
  does_more a b = ap (session_does limit command 1 (TheProcess p ∷ how ∷ [])) (append_assoc base a b) ∙ based.does (a ++ b)

  pub does_behind : (replies : List Reply) → session_does limit command 1 (TheProcess p ∷ how ∷ []) (behind_both base ++ replies) ≡ restart limit command (TheProcess p) how (Answered (Sym filter_name) ∷ Answered (Sym sentinel_name) ∷ replies)
  does_behind replies =
      ap (session_does limit command 1 (TheProcess p ∷ how ∷ [])) (append_assoc (base ++ Answered (Sym filter_name) ∷ []) (Answered (Sym sentinel_name) ∷ []) replies)
      ∙ does_more (Answered (Sym filter_name) ∷ []) (Answered (Sym sentinel_name) ∷ replies)

  -- where it starts again, by its list
  pub does_again : restarts limit p how ≡ true → (replies : List Reply) → session_does limit command 1 (TheProcess p ∷ how ∷ []) (behind_both base ++ replies) ≡ in_turn (start_again command (TheProcess p)) (Answered (Sym filter_name) ∷ Answered (Sym sentinel_name) ∷ replies) nothing
  does_again more replies = does_behind replies ∙ ap (λ b. if b then in_turn (start_again command (TheProcess p)) (Answered (Sym filter_name) ∷ Answered (Sym sentinel_name) ∷ replies) nothing else None) more

  pub few : (replies : List Reply) → length replies ≤ 10 → nat_lt (length (base ++ replies)) 256 ≡ true
  few replies h = lt-ltb (length (base ++ replies)) 256 (omega (arith, length-append base replies, based.short, h))

  pub few_behind : (replies : List Reply) → length replies ≤ 8 → nat_lt (length (behind_both base ++ replies)) 256 ≡ true
  few_behind replies h =
      let e : behind_both base ++ replies ≡ base ++ (Answered (Sym filter_name) ∷ Answered (Sym sentinel_name) ∷ replies) =
      append_assoc (base ++ Answered (Sym filter_name) ∷ []) (Answered (Sym sentinel_name) ∷ []) replies ∙ append_assoc base (Answered (Sym filter_name) ∷ []) (Answered (Sym sentinel_name) ∷ replies) in
      ap (λ l. nat_lt (length l) 256) e ∙ few (Answered (Sym filter_name) ∷ Answered (Sym sentinel_name) ∷ replies) (omega (arith, h))

-- BEHIND THE SENTINEL
module _ (limit : ℕ) (command : List Value) (bound : ℕ) (parts : Parts) (olds : List Process) (k : Child) (status : Status) (how : Value) (fits : length parts.text ≤ longest_text) where
  abbrev p : ℕ
  p = length olds

  abbrev x : Process
  x = ended k status

  abbrev there : Parts
  there = with_last parts olds x

  abbrev told : List Value
  told = TheProcess p ∷ how ∷ []

  abbrev closed_text : List Ch
  closed_text = parts.text ++ feed_behind true parts.text

  -- it is done with a text that is closed, or the process is stopped, or the child starts again
  pub data AfterEnd (rest : List Item) (c : Config) : Type 0 where
    is_done : (behind : Parts) → c ≡ record { state = outside (with_last behind olds (unlisted x)); work = rest } → behind.text ≡ closed_text → length behind.text ≤ longest_text → AfterEnd rest c
    was_stopped : (behind : Parts) → c ≡ record { state = outside (with_last behind olds (unlisted (with_filter Off x))); work = rest } → behind.text ≡ parts.text → longest_text < length closed_text → AfterEnd rest c
    starts_again_there : (behind : Parts) (base : List Reply) → Based limit command p how base → restarts limit p how ≡ true →
        c ≡ record { state = inside 1 (with_last behind olds x); work = MakeCall StartProcess (map normal command) ToNative ∷ Called 1 told (behind_both base) ∷ leave limit command bound parts p ∷ rest } →
        behind.text ≡ closed_text → length behind.text ≤ longest_text → AfterEnd rest c

  pub record Ends (rest : List Item) : Type 0 where
    pub said : List Said
    pub to : Config
    pub way : Reaches (session_program limit command) bound (record { state = outside there; work = Enter (OfSentinel p) (Some sentinel_name) told ∷ rest }) [] said to
    pub after : AfterEnd rest to

  -- it is left
  pub done_then : (behind : Parts) (y : Process) → Leads (session_program limit command) bound (Native 1 told []) (inside 0 there) (done_in (inside 1 (with_last behind olds y))) → (rest : List Item) →
      (said : List Said) × Reaches (session_program limit command) bound (record { state = outside there; work = Enter (OfSentinel p) (Some sentinel_name) told ∷ rest }) [] said (record { state = outside (with_last behind olds (unlisted y)); work = rest })
  done_then behind y leads rest =
      let e = enters limit command bound there p told (done_in (inside 1 (with_last behind olds y))) leads in
      let l = leaves limit command bound (with_last behind olds y) p in
      let way = reaches_then (session_program limit command) bound _ _ _ [] [] e.said l.said (e.way rest) (l.way rest) in
      (e.said ++ l.said, subst (λ u. Reaches (session_program limit command) bound (record { state = outside there; work = Enter (OfSentinel p) (Some sentinel_name) told ∷ rest }) [] (e.said ++ l.said) (record { state = u; work = rest })) (change_last behind olds y unlisted) way)

  -- what it does behind the last line
  abbrev Front : Parts → List Reply → Type 0
  Front behind base = (to : List Item → Config) → Leads (session_program limit command) bound (Native 1 told base) (inside 1 (with_last behind olds x)) to → Leads (session_program limit command) bound (Native 1 told []) (inside 0 there) to

  done_by : (behind : Parts) (rest : List Item) → behind.text ≡ closed_text → length behind.text ≤ longest_text →
      Leads (session_program limit command) bound (Native 1 told []) (inside 0 there) (done_in (inside 1 (with_last behind olds x))) → Ends rest
  done_by behind rest text small leads =
      let d = done_then behind x leads rest in
      record { said = d.0; to = _; way = d.1; after = is_done behind refl text small }

  behind_line : (behind : Parts) (base : List Reply) (rest : List Item) → Based limit command p how base → Front behind base → behind.text ≡ closed_text → length behind.text ≤ longest_text → Ends rest
  behind_line behind base rest based front text small = by (restarts limit p how) refl
    where
      here : Parts
      here = with_last behind olds x

      by_call : restarts limit p how ≡ true → (b : Bool) → is_callable (session_program limit command) (inside 1 here) (StartProcess, command) ≡ b → Ends rest
      by_call more true callable =
          let call = starts_again limit command bound here p x (last_there x olds) (last_made x olds) how base more callable (ap (λ l. nat_lt (length l) 256) (sym (append-nil (behind_both base))) ∙ few_behind limit command p how base based [] (omega arith)) (does_more limit command p how base based (Answered (Sym filter_name) ∷ []) (Answered (Sym sentinel_name) ∷ [])) in
          let leads = front _ (asks_both limit command bound here p x (last_there x olds) (last_made x olds) how base _ more (ap (λ l. nat_lt (length l) 256) (sym (append-nil base)) ∙ few limit command p how base based [] (omega arith)) (few limit command p how base based (Answered (Sym filter_name) ∷ []) (omega arith)) (does_none limit command p how base based) (based.does (Answered (Sym filter_name) ∷ [])) call) in
          let e = enters limit command bound there p told _ leads in
          record { said = e.said; to = _; way = e.way rest; after = starts_again_there behind base based more refl text small }
      by_call more false barred =
          let call = start_barred limit command bound here p x (last_there x olds) (last_made x olds) how base more barred (ap (λ l. nat_lt (length l) 256) (sym (append-nil (behind_both base))) ∙ few_behind limit command p how base based [] (omega arith)) (does_more limit command p how base based (Answered (Sym filter_name) ∷ []) (Answered (Sym sentinel_name) ∷ []))
          (few_behind limit command p how base based (Refused WrongType ∷ []) (omega arith)) (does_again limit command p how base based more (Refused WrongType ∷ [])) in
          done_by behind rest text small (front _ (asks_both limit command bound here p x (last_there x olds) (last_made x olds) how base _ more (ap (λ l. nat_lt (length l) 256) (sym (append-nil base)) ∙ few limit command p how base based [] (omega arith)) (few limit command p how base based (Answered (Sym filter_name) ∷ []) (omega arith)) (does_none limit command p how base based) (based.does (Answered (Sym filter_name) ∷ [])) call))

      by : (b : Bool) → restarts limit p how ≡ b → Ends rest
      by true more = by_call more (is_callable (session_program limit command) (inside 1 here) (StartProcess, command)) refl
      by false spent =
          done_by behind rest text small (front _ (starts_no_more limit command bound here p x (last_there x olds) (last_made x olds) how base spent (ap (λ l. nat_lt (length l) 256) (sym (append-nil base)) ∙ few limit command p how base based [] (omega arith)) (does_none limit command p how base based)))

  -- WHAT IT HAS SEEN
  abbrev n : ℕ
  n = length parts.text

  abbrev seen : List Reply
  seen = Answered (TheBuffer 1) ∷ Answered (TheBuffer 1) ∷ Answered (at_place n) ∷ Answered (at_place n) ∷ Answered (code_value (char_at_position (gathering (pointed there)) n)) ∷ []

  seen_closed : is_open parts.text ≡ false → Based limit command p how seen
  seen_closed is = record { does = by_open limit command bound there p x (last_there x olds) (last_made x olds) refl how fits false is; short = omega arith }

  seen_open : is_open parts.text ≡ true → Based limit command p how (seen ++ Answered Nil ∷ [])
  seen_open is = record { does = λ replies. by_open limit command bound there p x (last_there x olds) (last_made x olds) refl how fits true is (Answered Nil ∷ replies); short = omega arith }

  one_more : (b : Bool) → nat_le (n + 1) longest_text ≡ b → has_room (editor_with 1 (pointed there)) 1 1 ≡ b
  one_more b e = room_is (pointed there) 1 (omega arith) ∙ e

  stopped_last : stopped p x (pointed there) ≡ with_last (pointed parts) olds (with_filter Off x)
  stopped_last = ap (λ l. record (pointed parts) { processes = l }) (last_set x olds (with_filter Off x))

  -- the whole sentinel
  pub sentinel_ends : (rest : List Item) → Ends rest
  sentinel_ends rest = by (is_open parts.text) refl
    where
      text_is : (b : Bool) → is_open parts.text ≡ b → parts.text ++ (if b then Scalar 10 ∷ [] else []) ≡ closed_text
      text_is b is = ap (λ b. parts.text ++ (if b then Scalar 10 ∷ [] else [])) (sym is)

      by_room : is_open parts.text ≡ true → (b : Bool) → nat_le (n + 1) longest_text ≡ b → Ends rest
      by_room is true e =
          behind_line (put_behind (pointed parts) (Scalar 10 ∷ [])) (seen ++ Answered Nil ∷ []) rest (seen_open is)
          (closes limit command bound there p x (last_there x olds) (last_made x olds) refl how fits is (one_more true e)) (text_is true is) (omega (arith, leb-true (n + 1) longest_text e, length-append parts.text (Scalar 10 ∷ [])))
      by_room is false e =
          let over : longest_text < n + 1 = leb-false (n + 1) longest_text e in
          let leads = gives_up limit command bound there p x (last_there x olds) (last_made x olds) refl how fits is (one_more false e) in
          let d = done_then (pointed parts) (with_filter Off x) (subst (λ u. Leads (session_program limit command) bound (Native 1 told []) (inside 0 there) (done_in (inside 1 u))) stopped_last leads) rest in
          record { said = d.0; to = _; way = d.1; after = was_stopped (pointed parts) refl refl (subst (λ (l : List Ch). longest_text < length l) (text_is true is) (omega (arith, over, length-append parts.text (Scalar 10 ∷ [])))) }

      by : (b : Bool) → is_open parts.text ≡ b → Ends rest
      by true is = by_room is (nat_le (n + 1) longest_text) refl
      by false is =
          behind_line (pointed parts) seen rest (seen_closed is) (leaves_closed limit command bound there p x (last_there x olds) (last_made x olds) refl how fits is)
          (sym (append-nil parts.text) ∙ text_is false is) fits
