-- A journal, claimed lines and a script behind one another.
use Rattle.std.proofs.Common.{◌≡◌, ℕ, ◌+◌, ◌-◌, ◌^◌, ◌<◌, ◌≤◌, List, ◌++◌, length, take, drop, Some, None, refl, ap, sym, subst, ◌∙◌, arith, append_assoc}
use Rattle.std.specs.Prelude.{Option}
use Rattle.std.proofs.lemmas.List.{length-append, take_at, drop_at}
use Rattle.plain_machine.specs.Exchanges.{Exchange, children_started}
use Rattle.plain_machine.specs.Grammar.{line_feeds}
use Rattle.journal_text.specs.Lines.{line, journal, claim, transcript, longest_session}
use Rattle.journal_text.specs.Allowed.{IsLine, IsJournal}
use Rattle.journal_text.specs.Transcripts.{between, IsTranscriptTo, IsPlaced, HasNoTranscript, IsLinedFront, IsTranscriptFault, unclaimed, unended}
use Rattle.journal_text.specs.Reading.{behind, line_at, claim_at}
use Rattle.journal_text.proofs.Finding.{behind_is, behind_there, same_some}
use Rattle.journal_text.proofs.Journals.{SoFar, one_reading, none_is_some, line_there, line_found, lines_few, last_line}
use Rattle.journal_text.proofs.Claims.{head, headed, claim_there, claim_found, claim_is_no_line}

-- THE LINES AT THE FRONT
unread : (next : ℕ) (rest : List ℕ) → ((x : Exchange) (more : List ℕ) → IsLine next x → rest ≡ line x ++ more → ⊥) → line_at next rest ≡ None
unread next rest none = by (line_at next rest) refl
  where
    by : (o : Option (Exchange × List ℕ)) → line_at next rest ≡ o → o ≡ None
    by None e = refl
    by (Some r) e = absurd (let f = line_found next rest r e in none r.0 r.1 f.is f.whole)

pub unlined : (bytes : List ℕ) (list : List Exchange) (rest : List ℕ) → IsLinedFront bytes list rest → line_at (length (children_started list)) rest ≡ None
unlined bytes list rest h = unread (length (children_started list)) rest h.last

pub lined_front : (bytes : List ℕ) (list : List Exchange) (next : ℕ) (rest : List ℕ) → SoFar bytes list next rest → line_at next rest ≡ None → IsLinedFront bytes list rest
lined_front bytes list next rest h none = record {
  lines = h.lines;
  front = h.front;
  last = λ x more k e. none_is_some (line_at next rest) (x, more) none (ap (line_at next) e ∙ line_there next x more (subst (λ n. IsLine n x) (sym h.counted) k));
}

pub so_far : (bytes : List ℕ) (list : List Exchange) (rest : List ℕ) → IsLinedFront bytes list rest → SoFar bytes list (length (children_started list)) rest
so_far bytes list rest h = record {
  lines = h.lines;
  front = h.front;
  counted = refl;
  few = omega (arith, ap length h.front, length-append (journal list) rest, lines_few list);
}

-- PLACES
dropped_at : (bytes front last : List ℕ) (at : ℕ) → bytes ≡ front ++ last → at ≡ length bytes - length last → drop at bytes ≡ last
dropped_at bytes front last at e place =
    let long : length front ≡ at = omega (arith, place, ap length e, length-append front last) in
    ap (drop at) e ∙ drop_at front last at long

between_is : (bytes front claimed last : List ℕ) (from to : ℕ) → bytes ≡ front ++ (claimed ++ last) → to ≡ length bytes - length last → from ≡ to - length claimed → between from to bytes ≡ claimed
between_is bytes front claimed last from to e place begins =
    let sum = length-append claimed last in
    let whole = ap length e ∙ length-append front (claimed ++ last) in
    let here : from ≡ length bytes - length (claimed ++ last) = omega (arith, place, begins, sum, whole) in
    let long : length claimed ≡ to - from = omega (arith, place, begins, sum, whole) in
    ap (take (to - from)) (dropped_at bytes front (claimed ++ last) from e here) ∙ take_at claimed last (to - from) long

claim_whole : (bytes : List ℕ) (list : List Exchange) (rest claimed last : List ℕ) → IsLinedFront bytes list rest → claim_at rest ≡ Some (claimed, last) → bytes ≡ journal list ++ (claim claimed ++ last)
claim_whole bytes list rest claimed last h e = h.front ∙ ap (λ l. journal list ++ l) (claim_found rest (claimed, last) e)

in_front : (bytes : List ℕ) (list : List Exchange) (rest claimed last : List ℕ) → IsLinedFront bytes list rest → claim_at rest ≡ Some (claimed, last) → bytes ≡ (journal list ++ head claimed) ++ (claimed ++ last)
in_front bytes list rest claimed last h e =
    claim_whole bytes list rest claimed last h e ∙ ap (λ l. journal list ++ l) (headed claimed last) ∙ sym (append_assoc (journal list) (head claimed) (claimed ++ last))

-- the places at which a reader has come to the parts
pub record Places (bytes claimed last script : List ℕ) (from to at : ℕ) : Type 0 where
  pub begins : from ≡ to - length claimed
  pub ends : to ≡ length bytes - length last
  pub script_at : at ≡ length bytes - length script

claimed_there : (bytes : List ℕ) (list : List Exchange) (rest claimed last script : List ℕ) (from to at : ℕ)
    → IsLinedFront bytes list rest → claim_at rest ≡ Some (claimed, last) → Places bytes claimed last script from to at → between from to bytes ≡ claimed
claimed_there bytes list rest claimed last script from to at h e p =
    between_is bytes (journal list ++ head claimed) claimed last from to (in_front bytes list rest claimed last h e) p.ends p.begins

script_there : (bytes : List ℕ) (list : List Exchange) (rest claimed last script : List ℕ) (from to at : ℕ)
    → IsLinedFront bytes list rest → claim_at rest ≡ Some (claimed, last) → behind last_line last ≡ Some script → Places bytes claimed last script from to at → drop at bytes ≡ script
script_there bytes list rest claimed last script from to at h e f p =
    let front = journal list ++ (claim claimed ++ last_line) in
    let whole : bytes ≡ front ++ script =
    claim_whole bytes list rest claimed last h e
    ∙ ap (λ l. journal list ++ (claim claimed ++ l)) (behind_is last_line last script f)
    ∙ ap (λ l. journal list ++ l) (sym (append_assoc (claim claimed) last_line script))
    ∙ sym (append_assoc (journal list) (claim claimed ++ last_line) script) in
    dropped_at bytes front script at whole p.script_at

-- A TRANSCRIPT IS READ
pub transcript_to : (bytes : List ℕ) (list : List Exchange) (rest claimed last script : List ℕ) (from to at : ℕ)
    → IsLinedFront bytes list rest → claim_at rest ≡ Some (claimed, last) → behind last_line last ≡ Some script → Places bytes claimed last script from to at → IsTranscriptTo bytes list from to at
transcript_to bytes list rest claimed last script from to at h e f p =
    let lines = claimed_there bytes list rest claimed last script from to at h e p in
    let drops = script_there bytes list rest claimed last script from to at h e f p in
    let shorter = ap length (behind_is last_line last script f) ∙ length-append last_line script in
    record {
      lines = h.lines;
      whole = claim_whole bytes list rest claimed last h e ∙ ap (λ l. journal list ++ (claim claimed ++ l)) (behind_is last_line last script f)
          ∙ ap (λ l. journal list ++ (claim l ++ (last_line ++ script))) (sym lines)
          ∙ ap (λ l. journal list ++ (claim (between from to bytes) ++ (last_line ++ l))) (sym drops);
      in_order = (omega (arith, p.begins), omega (arith, p.ends, p.script_at, shorter), omega (arith, p.script_at));
    }

-- a transcript has these claimed lines and this end behind its lines
pub record Claimed (list other : List Exchange) (rest claimed last : List ℕ) : Type 0 where
  pub lists : list ≡ other
  pub there : claim_at rest ≡ Some (claimed, last)

claimed_few : (claimed last : List ℕ) → length claimed ≤ length (claim claimed ++ last)
claimed_few claimed last = omega (arith, ap length (headed claimed last), length-append (head claimed) (claimed ++ last), length-append claimed last)

front_few : (bytes : List ℕ) (list : List Exchange) (rest : List ℕ) → IsLinedFront bytes list rest → length rest ≤ length bytes
front_few bytes list rest h = omega (arith, ap length h.front, length-append (journal list) rest)

pub sizes : (bytes : List ℕ) (list : List Exchange) (rest claimed last : List ℕ) → IsLinedFront bytes list rest → claim_at rest ≡ Some (claimed, last) → length claimed + length last ≤ length bytes
sizes bytes list rest claimed last h e =
    omega (arith, front_few bytes list rest h, ap length (claim_found rest (claimed, last) e), ap length (headed claimed last), length-append (head claimed) (claimed ++ last), length-append claimed last)

pub script_size : (last script : List ℕ) → behind last_line last ≡ Some script → length script ≤ length last
script_size last script e = omega (arith, ap length (behind_is last_line last script e), length-append last_line script)

pub one_claim : (bytes : List ℕ) (list : List Exchange) (rest : List ℕ) (other : List Exchange) (claimed script : List ℕ)
    → length bytes ≤ longest_session → IsLinedFront bytes list rest → IsJournal other → bytes ≡ transcript other claimed script → Claimed list other rest claimed (last_line ++ script)
one_claim bytes list rest other claimed script short h k e =
    let none = unlined bytes list rest h in
    let zero_more : length (children_started list) ≡ 0 + length (children_started list) = omega arith in
    let same = one_reading 0 list other rest (claim claimed ++ (last_line ++ script)) h.lines k (subst (λ n. line_at n rest ≡ None) zero_more none) (claim_is_no_line claimed (last_line ++ script)) (sym h.front ∙ e) in
    let small : length claimed < 2 ^ 32 = omega (arith, short, front_few bytes list rest h, ap length same.rests, claimed_few claimed (last_line ++ script)) in
    record { lists = same.lists; there = ap claim_at same.rests ∙ claim_there claimed (last_line ++ script) small }

pub same_transcript : (bytes : List ℕ) (list : List Exchange) (rest claimed last script : List ℕ) (from to at : ℕ) (other : List Exchange) (lines end : List ℕ)
    → length bytes ≤ longest_session → IsLinedFront bytes list rest → claim_at rest ≡ Some (claimed, last) → behind last_line last ≡ Some script → Places bytes claimed last script from to at
    → IsJournal other → bytes ≡ transcript other lines end → IsPlaced bytes list from to at other lines end
same_transcript bytes list rest claimed last script from to at other lines end short h e f p k g =
    let one = one_claim bytes list rest other lines end short h k g in
    let both = same_some (claimed, last) (lines, last_line ++ end) (sym e ∙ one.there) in
    let first : claimed ≡ lines = ap (λ (x : List ℕ × List ℕ). x.0) both in
    let second : last ≡ last_line ++ end = ap (λ (x : List ℕ × List ℕ). x.1) both in
    let script_is = same_some script end (sym f ∙ ap (behind last_line) second ∙ behind_there last_line end) in
    record {
      lists = one.lists;
      lines = claimed_there bytes list rest claimed last script from to at h e p ∙ first;
      rest = script_there bytes list rest claimed last script from to at h e f p ∙ script_is;
    }

-- WHERE THERE IS NONE
pub unclaimed_none : (bytes : List ℕ) (list : List Exchange) (rest : List ℕ) → length bytes ≤ longest_session → IsLinedFront bytes list rest → claim_at rest ≡ None → HasNoTranscript bytes
unclaimed_none bytes list rest short h none = λ other claimed script k e.
    let one = one_claim bytes list rest other claimed script short h k e in
    none_is_some (claim_at rest) (claimed, last_line ++ script) none one.there

pub unended_none : (bytes : List ℕ) (list : List Exchange) (rest claimed last : List ℕ) → length bytes ≤ longest_session → IsLinedFront bytes list rest
    → claim_at rest ≡ Some (claimed, last) → behind last_line last ≡ None → HasNoTranscript bytes
unended_none bytes list rest claimed last short h e none = λ other lines script k g.
    let one = one_claim bytes list rest other lines script short h k g in
    let second : last ≡ last_line ++ script = ap (λ (x : List ℕ × List ℕ). x.1) (same_some (claimed, last) (lines, last_line ++ script) (sym e ∙ one.there)) in
    none_is_some (behind last_line last) script none (ap (behind last_line) second ∙ behind_there last_line script)

pub unclaimed_fault : (bytes : List ℕ) (list : List Exchange) (rest : List ℕ) → length bytes ≤ longest_session → IsLinedFront bytes list rest → claim_at rest ≡ None
    → IsTranscriptFault bytes (length list + 1)
unclaimed_fault bytes list rest short h none =
    unclaimed list rest h
    (λ claimed more e.
    let small : length claimed < 2 ^ 32 = omega (arith, short, front_few bytes list rest h, ap length e, claimed_few claimed more) in
    none_is_some (claim_at rest) (claimed, more) none (ap claim_at e ∙ claim_there claimed more small))
    (omega arith)

pub unended_fault : (bytes : List ℕ) (list : List Exchange) (rest claimed last : List ℕ) → IsLinedFront bytes list rest → claim_at rest ≡ Some (claimed, last) → behind last_line last ≡ None
    → IsTranscriptFault bytes (length list + 1 + (1 + line_feeds claimed))
unended_fault bytes list rest claimed last h e none =
    unended list claimed last (subst (IsLinedFront bytes list) (claim_found rest (claimed, last) e) h)
    (λ script f. none_is_some (behind last_line last) script none (ap (behind last_line) f ∙ behind_there last_line script))
    (omega arith)
