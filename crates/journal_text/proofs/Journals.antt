-- Lines one behind the other.
use Rattle.std.proofs.Common.{◌≡◌, ℕ, ◌+◌, ◌-◌, ◌≤◌, List, [], ◌∷◌, ◌++◌, length, drop, Some, None, refl, ap, sym, subst, ◌∙◌, arith, append_assoc, codes}
use Rattle.std.specs.Prelude.{Option, Result, Err}
use Rattle.text_model.specs.Options.{◌>>=◌}
use Rattle.journal_text.specs.declared.journal.JournalFault.{JournalFault}
use Rattle.journal_text.specs.declared.journal.JournalFault.TheVariants as fault
use Rattle.std.proofs.lemmas.List.{length-append, drop_at}
use Rattle.plain_machine.specs.Exchanges.{Exchange, Answer, Started, children_started, started_by}
use Rattle.journal_text.specs.Lines.{ask_words, line, journal, session}
use Rattle.journal_text.specs.Allowed.{IsLine, AreLines, IsJournal, AreAnswered, next_after}
use Rattle.journal_text.specs.Journals.{IsReadTo, HasNoJournal, IsFaultLine}
use Rattle.journal_text.specs.Reading.{behind, arrow, ask_at, answer_at, with_answer, line_at}
use Rattle.journal_text.proofs.Finding.{behind_is, bound, same_some}
use Rattle.journal_text.proofs.Asks.{ask_there, ask_found}
use Rattle.journal_text.proofs.Answers.{ended_words, answer_there, answer_found}

-- ONE LINE
shape : (x : Exchange) (rest : List ℕ) → line x ++ rest ≡ ask_words x.ask ++ (arrow ++ (ended_words x.answer ++ rest))
shape x rest = append_assoc (ask_words x.ask) (arrow ++ ended_words x.answer) rest

pub line_there : (next : ℕ) (x : Exchange) (rest : List ℕ) → IsLine next x → line_at next (line x ++ rest) ≡ Some (x, rest)
line_there next x rest h =
    ap (line_at next) (shape x rest)
    ∙ ap (λ o. o >>= with_answer next) (ask_there x.ask (ended_words x.answer ++ rest) h.asked)
    ∙ ap (λ o. o >>= (λ answer. Some ((let y : Exchange = record { ask = x.ask; answer = answer.0 } in y), answer.1))) (answer_there next x.ask x.answer rest h.allowed h.answered)

pub record IsLineAt (next : ℕ) (bytes : List ℕ) (r : Exchange × List ℕ) : Type 0 where
  pub whole : bytes ≡ line r.0 ++ r.1
  pub is : IsLine next r.0

pub line_found : (next : ℕ) (bytes : List ℕ) (r : Exchange × List ℕ) → line_at next bytes ≡ Some r → IsLineAt next bytes r
line_found next bytes r h =
    let first = bound (ask_at bytes) (with_answer next) r h in
    let second = bound (answer_at next first.x.0 first.x.1) (λ answer. Some ((let y : Exchange = record { ask = first.x.0; answer = answer.0 } in y), answer.1)) r first.next in
    let ask = ask_found bytes first.x first.first in
    let answer = answer_found next first.x.0 first.x.1 second.x second.first in
    let x : Exchange = record { ask = first.x.0; answer = second.x.0 } in
    let same = same_some (x, second.x.1) r second.next in
    subst (IsLineAt next bytes) same
    (record {
      whole = ask.whole ∙ ap (λ l. ask_words first.x.0 ++ (arrow ++ l)) answer.whole ∙ sym (shape x second.x.1);
      is = record { asked = ask.is; answered = answer.line; allowed = answer.allowed };
    })

-- no line begins as the last one does
pub script_is_no_line : (rest : List ℕ) (next : ℕ) → line_at next (codes "script\n" ++ rest) ≡ None
script_is_no_line rest next = refl

-- MANY LINES
pub answered_from : (next : ℕ) (list : List Exchange) → AreLines next list → AreAnswered next list
answered_from next [] h = tt
answered_from next (x ∷ list) h = (h.0.allowed, answered_from (next_after next x) list h.1)

pub started_more : (x : Exchange) (list : List Exchange) → length (children_started (x ∷ list)) ≡ length (started_by x.answer) + length (children_started list)
started_more x list = length-append (started_by x.answer) (children_started list)

pub lines_more : (next : ℕ) (list : List Exchange) (x : Exchange) → AreLines next list → IsLine (next + length (children_started list)) x → AreLines next (list ++ x ∷ [])
lines_more next [] x h k = (subst (λ n. IsLine n x) (let e : next + 0 ≡ next = omega arith in e) k, tt)
lines_more next (y ∷ list) x h k =
    let e : next + length (children_started (y ∷ list)) ≡ next_after next y + length (children_started list) = omega (arith, started_more y list) in
    (h.0, lines_more (next_after next y) list x h.1 (subst (λ n. IsLine n x) e k))

pub journal_more : (list : List Exchange) (x : Exchange) (rest : List ℕ) → journal list ++ (line x ++ rest) ≡ journal (list ++ x ∷ []) ++ rest
journal_more [] x rest = sym (append_assoc (line x) [] rest)
journal_more (y ∷ list) x rest =
    append_assoc (line y) (journal list) (line x ++ rest) ∙ ap (λ l. line y ++ l) (journal_more list x rest) ∙ sym (append_assoc (line y) (journal (list ++ x ∷ [])) rest)

-- ONE READING
-- lines up to bytes that begin with no line
pub record Same (list other : List Exchange) (rest tail : List ℕ) : Type 0 where
  pub lists : list ≡ other
  pub rests : rest ≡ tail

abbrev pub IsNoLine : List ℕ → Type 0
IsNoLine bytes = (next : ℕ) → line_at next bytes ≡ None

pub none_is_some : {A B : Type 0} (o : Option A) (x : A) → o ≡ None → o ≡ Some x → B
none_is_some o x h k = absurd (let e = sym h ∙ k in cc)

pub one_reading : (next : ℕ) (list other : List Exchange) (rest tail : List ℕ) → AreLines next list → AreLines next other
    → line_at (next + length (children_started list)) rest ≡ None → IsNoLine tail → journal list ++ rest ≡ journal other ++ tail → Same list other rest tail
one_reading next [] [] rest tail h k last ends e = record { lists = refl; rests = e }
one_reading next [] (y ∷ other) rest tail h k last ends e =
    let e2 : rest ≡ line y ++ (journal other ++ tail) = e ∙ append_assoc (line y) (journal other) tail in
    let zero_more : next + 0 ≡ next = omega arith in
    none_is_some (line_at next rest) (y, journal other ++ tail) (subst (λ n. line_at n rest ≡ None) zero_more last) (ap (line_at next) e2 ∙ line_there next y (journal other ++ tail) k.0)
one_reading next (x ∷ list) [] rest tail h k last ends e =
    let e2 : tail ≡ line x ++ (journal list ++ rest) = sym e ∙ append_assoc (line x) (journal list) rest in
    none_is_some (line_at next tail) (x, journal list ++ rest) (ends next) (ap (line_at next) e2 ∙ line_there next x (journal list ++ rest) h.0)
one_reading next (x ∷ list) (y ∷ other) rest tail h k last ends e =
    let left = line_there next x (journal list ++ rest) h.0 in
    let right = line_there next y (journal other ++ tail) k.0 in
    let e2 : line x ++ (journal list ++ rest) ≡ line y ++ (journal other ++ tail) = sym (append_assoc (line x) (journal list) rest) ∙ e ∙ append_assoc (line y) (journal other) tail in
    let both = same_some (x, journal list ++ rest) (y, journal other ++ tail) (sym left ∙ ap (line_at next) e2 ∙ right) in
    let first : x ≡ y = ap (λ (p : Exchange × List ℕ). p.0) both in
    let behind_it : journal list ++ rest ≡ journal other ++ tail = ap (λ (p : Exchange × List ℕ). p.1) both in
    let counted : next + length (children_started (x ∷ list)) ≡ next_after next x + length (children_started list) = omega (arith, started_more x list) in
    let more = one_reading (next_after next x) list other rest tail h.1 (subst (λ (z : Exchange). AreLines (next_after next z) other) (sym first) k.1) (subst (λ n. line_at n rest ≡ None) counted last) ends behind_it in
    record { lists = ap (λ (z : Exchange). z ∷ list) first ∙ ap (λ (l : List Exchange). y ∷ l) more.lists; rests = more.rests }

-- READING FROM LINE TO LINE
pub record SoFar (bytes : List ℕ) (list : List Exchange) (next : ℕ) (rest : List ℕ) : Type 0 where
  pub lines : IsJournal list
  pub front : bytes ≡ journal list ++ rest
  pub counted : next ≡ length (children_started list)
  pub few : length list + length rest ≤ length bytes

pub none_yet : (bytes : List ℕ) → SoFar bytes [] 0 bytes
none_yet bytes = record { lines = tt; front = refl; counted = refl; few = omega arith }

started_few : (list : List Exchange) → length (children_started list) ≤ length list
started_few [] = omega arith
started_few (x ∷ list) = omega (arith, started_more x list, started_few list, at_most_one x.answer)
  where
    at_most_one : (answer : Answer) → length (started_by answer) ≤ 1
    at_most_one (Started child) = omega arith
    at_most_one _ = omega arith

pub next_few : (bytes : List ℕ) (list : List Exchange) (next : ℕ) (rest : List ℕ) → SoFar bytes list next rest → next ≤ length list
next_few bytes list next rest h = omega (arith, h.counted, started_few list)

started_after : (list : List Exchange) (x : Exchange) → length (children_started (list ++ x ∷ [])) ≡ length (children_started list) + length (started_by x.answer)
started_after [] x = omega (arith, started_more x [])
started_after (y ∷ list) x = omega (arith, started_more y (list ++ x ∷ []), started_more y list, started_after list x)

pub line_shorter : (next : ℕ) (bytes : List ℕ) (r : Exchange × List ℕ) → line_at next bytes ≡ Some r → length r.1 + 1 ≤ length bytes
line_shorter next bytes r h =
    let f = line_found next bytes r h in
    omega (arith, ap length f.whole, ap length (shape r.0 r.1), length-append (ask_words r.0.ask) (arrow ++ (ended_words r.0.answer ++ r.1)), length-append (ended_words r.0.answer) r.1)

pub lines_few : (list : List Exchange) → length list ≤ length (journal list)
lines_few [] = omega arith
lines_few (x ∷ list) =
    let long = length-append (line x) (journal list) in
    omega (arith, long, lines_few list, length-append (line x) [], ap length (shape x []), length-append (ask_words x.ask) (arrow ++ (ended_words x.answer ++ [])))

pub one_more : (bytes : List ℕ) (list : List Exchange) (next : ℕ) (rest : List ℕ) (x : Exchange) (more : List ℕ) → SoFar bytes list next rest → line_at next rest ≡ Some (x, more) → SoFar bytes (list ++ x ∷ []) (next + length (started_by x.answer)) more
one_more bytes list next rest x more h e =
    let f = line_found next rest (x, more) e in
    let none : next ≡ 0 + length (children_started list) = omega (arith, h.counted) in
    record {
      lines = lines_more 0 list x h.lines (subst (λ n. IsLine n x) none f.is);
      front = h.front ∙ ap (λ l. journal list ++ l) f.whole ∙ journal_more list x more;
      counted = ap (λ n. n + length (started_by x.answer)) h.counted ∙ sym (started_after list x);
      few = omega (arith, h.few, line_shorter next rest (x, more) e, length-append list (x ∷ []));
    }

-- THE END
abbrev pub last_line : List ℕ
last_line = codes "script\n"

pub script_behind : (bytes : List ℕ) (list : List Exchange) (next : ℕ) (rest script : List ℕ) → SoFar bytes list next rest → behind last_line rest ≡ Some script → bytes ≡ session list script
script_behind bytes list next rest script h e = h.front ∙ ap (λ l. journal list ++ l) (behind_is last_line rest script e)

pub dropped : (bytes : List ℕ) (list : List Exchange) (script : List ℕ) (at : ℕ) → bytes ≡ session list script → at ≡ length bytes - length script → drop at bytes ≡ script
dropped bytes list script at e place =
    let whole : bytes ≡ (journal list ++ last_line) ++ script = e ∙ sym (append_assoc (journal list) last_line script) in
    let long : length (journal list ++ last_line) ≡ at = omega (arith, place, ap length whole, length-append (journal list ++ last_line) script) in
    ap (drop at) whole ∙ drop_at (journal list ++ last_line) script at long

pub read_to : (bytes : List ℕ) (list : List Exchange) (next : ℕ) (rest script : List ℕ) (at : ℕ) → SoFar bytes list next rest → behind last_line rest ≡ Some script → at ≡ length bytes - length script → IsReadTo bytes list at
read_to bytes list next rest script at h e place =
    let whole = script_behind bytes list next rest script h e in
    record { lines = h.lines; whole = whole ∙ ap (session list) (sym (dropped bytes list script at whole place)) }

-- another reading is the same
pub same_reading : (bytes : List ℕ) (list : List Exchange) (next : ℕ) (rest script : List ℕ) (at : ℕ) (other : List Exchange) (behind_it : List ℕ)
    → SoFar bytes list next rest → behind last_line rest ≡ Some script → at ≡ length bytes - length script → IsJournal other → bytes ≡ session other behind_it → (list ≡ other) × (drop at bytes ≡ behind_it)
same_reading bytes list next rest script at other behind_it h e place k f =
    let whole = script_behind bytes list next rest script h e in
    let same = one_reading 0 list other (last_line ++ script) (last_line ++ behind_it) h.lines k (script_is_no_line script (0 + length (children_started list))) (script_is_no_line behind_it) (sym whole ∙ f) in
    let one = same_some script behind_it (ap (behind last_line) same.rests) in
    (same.lists, dropped bytes list script at whole place ∙ one)

pub no_journal : (bytes : List ℕ) (list : List Exchange) (next : ℕ) (rest : List ℕ) → SoFar bytes list next rest → behind last_line rest ≡ None → line_at next rest ≡ None → HasNoJournal bytes
no_journal bytes list next rest h unended unread = λ other script k e.
    let none : next ≡ 0 + length (children_started list) = omega (arith, h.counted) in
    let same = one_reading 0 list other rest (last_line ++ script) h.lines k (subst (λ n. line_at n rest ≡ None) none unread) (script_is_no_line script) (sym h.front ∙ e) in
    let there : behind last_line rest ≡ Some script = ap (behind last_line) same.rests in
    none_is_some (behind last_line rest) script unended there

pub fault_line : (bytes : List ℕ) (list : List Exchange) (next : ℕ) (rest : List ℕ) → SoFar bytes list next rest → behind last_line rest ≡ None → line_at next rest ≡ None → IsFaultLine bytes (length list + 1)
fault_line bytes list next rest h unended unread = record {
  list = list;
  rest = rest;
  lines = h.lines;
  front = h.front;
  last = λ x more k e. none_is_some (line_at next rest) (x, more) unread (ap (line_at next) e ∙ line_there next x more (subst (λ n. IsLine n x) (sym h.counted) k));
  unended = λ script e. none_is_some (behind last_line rest) script unended (ap (behind last_line) e);
  number = omega arith;
}

pub script_few : (bytes : List ℕ) (list : List Exchange) (next : ℕ) (rest script : List ℕ) → SoFar bytes list next rest → behind last_line rest ≡ Some script → length script ≤ length bytes
script_few bytes list next rest script h e = omega (arith, h.few, ap length (behind_is last_line rest script e), length-append last_line script)

-- the line that is told
pub same_line : {T : Type 0} (m n : ℕ) → ◌≡◌ {A = Result T JournalFault} (Err (fault.Line m)) (Err (fault.Line n)) → m ≡ n
same_line m n h = let k = h in cc
