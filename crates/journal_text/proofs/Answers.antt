-- Answers with the line's end behind them.
use Rattle.std.proofs.Common.{◌≡◌, ℕ, ◌==◌, List, [], ◌∷◌, ◌++◌, length, Some, None, refl, ap, sym, subst, ◌∙◌, append_assoc, codes, decimal}
use Rattle.std.specs.Prelude.{if◌then◌else◌, nat_le}
use Rattle.std.proofs.lemmas.Bool.{leb-true, le-leb, eqb-true, eq-eqb}
use Rattle.text_model.specs.Options.{◌>>=◌}
use Rattle.plain_machine.specs.Lines.{shown_int}
use Rattle.plain_machine.specs.Exchanges.{Ask, Answer, Spawn, Read, AskEnd, Send, Close, Kill, Started, Refused, Bytes, Nothing, End, Code, Signal, Running, Sent, Broken, Closed, Killed, Failed, most_read}
use Rattle.journal_text.specs.Lines.{hex, answer_words}
use Rattle.journal_text.specs.Allowed.{IsSpawned, IsRead, IsEnd, IsSent, IsClosed, IsKilled, IsAnswerTo, IsAnswerLine}
use Rattle.journal_text.specs.Reading.{behind, choose, then_end, number_at, hex_at, code_at, fixed, as_started, spawned_at, as_bytes, given_at, nothing_got_at, got_at, as_code, ended_at, sent_at, closed_at, killed_at, answer_at}
use Rattle.journal_text.proofs.Finding.{behind_is, bound, chosen, here, there, tested_then, same_some}
use Rattle.journal_text.proofs.Numbers.{number_there, number_found}
use Rattle.journal_text.proofs.Hexes.{hex_there, hex_found}
use Rattle.journal_text.proofs.Codes.{code_there, code_found}

abbrev pub ended_words : Answer → List ℕ
ended_words answer = answer_words answer ++ 10 ∷ []

-- WHAT IS WRITTEN IS READ
spawned_there : (next : ℕ) (answer : Answer) (rest : List ℕ) → IsSpawned next answer → IsAnswerLine answer → spawned_at next (ended_words answer ++ rest) ≡ Some (answer, rest)
spawned_there next (Started child) rest h small =
    ap (λ l. number_at l >>= as_started next) (append_assoc (decimal child) (10 ∷ []) rest)
    ∙ ap (λ o. o >>= as_started next) (number_there child 10 rest small refl)
    ∙ ap (λ t. if t then then_end (Started child, 10 ∷ rest) else None) (eq-eqb child next h)
spawned_there next Refused rest h small = refl
spawned_there next (Bytes bytes) rest h small = absurd h
spawned_there next (Code code) rest h small = absurd h
spawned_there next Nothing rest h small = absurd h
spawned_there next End rest h small = absurd h
spawned_there next Signal rest h small = absurd h
spawned_there next Running rest h small = absurd h
spawned_there next Sent rest h small = absurd h
spawned_there next Broken rest h small = absurd h
spawned_there next Closed rest h small = absurd h
spawned_there next Killed rest h small = absurd h
spawned_there next Failed rest h small = absurd h

got_there : (answer : Answer) (rest : List ℕ) → IsRead answer → IsAnswerLine answer → got_at (ended_words answer ++ rest) ≡ Some (answer, rest)
got_there (Bytes bytes) rest h all =
    ap (λ l. hex_at l >>= as_bytes) (append_assoc (hex bytes) (10 ∷ []) rest)
    ∙ ap (λ o. o >>= as_bytes) (hex_there bytes 10 rest h.0 all refl)
    ∙ ap (λ t. if t then then_end (Bytes bytes, 10 ∷ rest) else None) (le-leb (length bytes) most_read h.1)
got_there Nothing rest h all = refl
got_there End rest h all = refl
got_there Failed rest h all = refl
got_there (Started child) rest h all = absurd h
got_there (Code code) rest h all = absurd h
got_there Refused rest h all = absurd h
got_there Signal rest h all = absurd h
got_there Running rest h all = absurd h
got_there Sent rest h all = absurd h
got_there Broken rest h all = absurd h
got_there Closed rest h all = absurd h
got_there Killed rest h all = absurd h

ended_there : (answer : Answer) (rest : List ℕ) → IsEnd answer → IsAnswerLine answer → ended_at (ended_words answer ++ rest) ≡ Some (answer, rest)
ended_there (Code code) rest h is =
    ap (λ l. code_at l >>= as_code) (append_assoc (shown_int code) (10 ∷ []) rest)
    ∙ ap (λ o. o >>= as_code) (code_there code rest is)
ended_there Signal rest h is = refl
ended_there Running rest h is = refl
ended_there Failed rest h is = refl
ended_there (Started child) rest h is = absurd h
ended_there (Bytes bytes) rest h is = absurd h
ended_there Refused rest h is = absurd h
ended_there Nothing rest h is = absurd h
ended_there End rest h is = absurd h
ended_there Sent rest h is = absurd h
ended_there Broken rest h is = absurd h
ended_there Closed rest h is = absurd h
ended_there Killed rest h is = absurd h

sent_there : (answer : Answer) (rest : List ℕ) → IsSent answer → sent_at (ended_words answer ++ rest) ≡ Some (answer, rest)
sent_there Sent rest h = refl
sent_there Broken rest h = refl
sent_there (Started child) rest h = absurd h
sent_there (Bytes bytes) rest h = absurd h
sent_there (Code code) rest h = absurd h
sent_there Refused rest h = absurd h
sent_there Nothing rest h = absurd h
sent_there End rest h = absurd h
sent_there Signal rest h = absurd h
sent_there Running rest h = absurd h
sent_there Closed rest h = absurd h
sent_there Killed rest h = absurd h
sent_there Failed rest h = absurd h

closed_there : (answer : Answer) (rest : List ℕ) → IsClosed answer → closed_at (ended_words answer ++ rest) ≡ Some (answer, rest)
closed_there Closed rest h = refl
closed_there (Started child) rest h = absurd h
closed_there (Bytes bytes) rest h = absurd h
closed_there (Code code) rest h = absurd h
closed_there Refused rest h = absurd h
closed_there Nothing rest h = absurd h
closed_there End rest h = absurd h
closed_there Signal rest h = absurd h
closed_there Running rest h = absurd h
closed_there Sent rest h = absurd h
closed_there Broken rest h = absurd h
closed_there Killed rest h = absurd h
closed_there Failed rest h = absurd h

killed_there : (answer : Answer) (rest : List ℕ) → IsKilled answer → killed_at (ended_words answer ++ rest) ≡ Some (answer, rest)
killed_there Killed rest h = refl
killed_there Failed rest h = refl
killed_there (Started child) rest h = absurd h
killed_there (Bytes bytes) rest h = absurd h
killed_there (Code code) rest h = absurd h
killed_there Refused rest h = absurd h
killed_there Nothing rest h = absurd h
killed_there End rest h = absurd h
killed_there Signal rest h = absurd h
killed_there Running rest h = absurd h
killed_there Sent rest h = absurd h
killed_there Broken rest h = absurd h
killed_there Closed rest h = absurd h

pub answer_there : (next : ℕ) (ask : Ask) (answer : Answer) (rest : List ℕ) → IsAnswerTo next ask answer → IsAnswerLine answer → answer_at next ask (ended_words answer ++ rest) ≡ Some (answer, rest)
answer_there next (Spawn program args) answer rest h l = spawned_there next answer rest h l
answer_there next (Read child) answer rest h l = got_there answer rest h l
answer_there next (AskEnd child) answer rest h l = ended_there answer rest h l
answer_there next (Send child bytes) answer rest h l = sent_there answer rest h
answer_there next (Close child) answer rest h l = closed_there answer rest h
answer_there next (Kill child) answer rest h l = killed_there answer rest h

-- WHAT IS READ WAS WRITTEN
pub record IsAnswerAt (P : Answer → Type 0) (bytes : List ℕ) (r : Answer × List ℕ) : Type 0 where
  pub whole : bytes ≡ ended_words r.0 ++ r.1
  pub line : IsAnswerLine r.0
  pub allowed : P r.0

end_found : {A : Type 0} (s r : A × List ℕ) → then_end s ≡ Some r → (s.0 ≡ r.0) × (s.1 ≡ 10 ∷ r.1)
end_found {A} s r h =
    let b = bound (behind (codes "\n") s.1) (λ rest. Some (s.0, rest)) r h in
    let same = same_some (s.0, b.x) r b.next in (
      ap (λ (x : A × List ℕ). x.0) same,
      behind_is (codes "\n") s.1 b.x b.first ∙ ap (λ (x : A × List ℕ). 10 ∷ x.1) same,
    )

fixed_found : (P : Answer → Type 0) (answer : Answer) (bytes rest : List ℕ) (r : Answer × List ℕ) → IsAnswerLine answer → P answer → behind (ended_words answer) bytes ≡ Some rest → fixed answer rest ≡ Some r → IsAnswerAt P bytes r
fixed_found P answer bytes rest r line allowed e h =
    let same = same_some (answer, rest) r h in
    subst (IsAnswerAt P bytes) same (record { whole = behind_is (ended_words answer) bytes rest e; line = line; allowed = allowed })

last_found : (P : Answer → Type 0) (answer : Answer) (bytes : List ℕ) (r : Answer × List ℕ) → IsAnswerLine answer → P answer → (behind (ended_words answer) bytes >>= fixed answer) ≡ Some r → IsAnswerAt P bytes r
last_found P answer bytes r line allowed h =
    let b = bound (behind (ended_words answer) bytes) (fixed answer) r h in
    fixed_found P answer bytes b.x r line allowed b.first b.next

started_found : (next : ℕ) (bytes : List ℕ) (r : Answer × List ℕ) → (behind (codes "started ") bytes >>= number_at >>= as_started next) ≡ Some r → IsAnswerAt (IsSpawned next) bytes r
started_found next bytes r h =
    let last = bound (behind (codes "started ") bytes >>= number_at) (as_started next) r h in
    let first = bound (behind (codes "started ") bytes) number_at last.x last.first in
    let n = number_found first.x last.x first.next in
    let t = tested_then (last.x.0 == next) (then_end (Started last.x.0, last.x.1)) r last.next in
    let e = end_found (Started last.x.0, last.x.1) r t.1 in
    subst (λ a. IsAnswerAt (IsSpawned next) bytes (a, r.1)) e.0
    (record {
      whole = behind_is (codes "started ") bytes first.x first.first
          ∙ ap (λ l. codes "started " ++ l) (n.whole ∙ ap (λ l. decimal last.x.0 ++ l) e.1 ∙ sym (append_assoc (decimal last.x.0) (10 ∷ []) r.1));
      line = n.small;
      allowed = eqb-true last.x.0 next t.0;
    })

given_found : (bytes rest : List ℕ) (r : Answer × List ℕ) → bytes ≡ codes "bytes " ++ rest → given_at rest ≡ Some r → IsAnswerAt IsRead bytes r
given_found bytes rest r b h =
    let last = bound (hex_at rest) as_bytes r h in
    let x = hex_found rest last.x last.first in
    let t = tested_then (nat_le (length last.x.0) most_read) (then_end (Bytes last.x.0, last.x.1)) r last.next in
    let e = end_found (Bytes last.x.0, last.x.1) r t.1 in
    subst (λ a. IsAnswerAt IsRead bytes (a, r.1)) e.0
    (record {
      whole = b ∙ ap (λ l. codes "bytes " ++ l) (x.whole ∙ ap (λ l. hex last.x.0 ++ l) e.1 ∙ sym (append_assoc (hex last.x.0) (10 ∷ []) r.1));
      line = x.all;
      allowed = (x.some, leb-true (length last.x.0) most_read t.0);
    })

end_got_found : (bytes : List ℕ) (r : Answer × List ℕ) → choose (behind (codes "end\n") bytes) (fixed End) (behind (codes "failed\n") bytes >>= fixed Failed) ≡ Some r → IsAnswerAt IsRead bytes r
end_got_found bytes r h = elim (chosen (behind (codes "end\n") bytes) (fixed End) (behind (codes "failed\n") bytes >>= fixed Failed) r h) [
  | here rest e k ↦ fixed_found IsRead End bytes rest r tt tt e k
  | there e k ↦ last_found IsRead Failed bytes r tt tt k
]

nothing_found : (bytes : List ℕ) (r : Answer × List ℕ) → nothing_got_at bytes ≡ Some r → IsAnswerAt IsRead bytes r
nothing_found bytes r h = elim (chosen (behind (codes "nothing\n") bytes) (fixed Nothing) (choose (behind (codes "end\n") bytes) (fixed End) (behind (codes "failed\n") bytes >>= fixed Failed)) r h) [
  | here rest e k ↦ fixed_found IsRead Nothing bytes rest r tt tt e k
  | there e k ↦ end_got_found bytes r k
]

got_found : (bytes : List ℕ) (r : Answer × List ℕ) → got_at bytes ≡ Some r → IsAnswerAt IsRead bytes r
got_found bytes r h = elim (chosen (behind (codes "bytes ") bytes) given_at (nothing_got_at bytes) r h) [
  | here rest e k ↦ given_found bytes rest r (behind_is (codes "bytes ") bytes rest e) k
  | there e k ↦ nothing_found bytes r k
]

spawned_found : (next : ℕ) (bytes : List ℕ) (r : Answer × List ℕ) → spawned_at next bytes ≡ Some r → IsAnswerAt (IsSpawned next) bytes r
spawned_found next bytes r h = elim (chosen (behind (codes "refused\n") bytes) (fixed Refused) (behind (codes "started ") bytes >>= number_at >>= as_started next) r h) [
  | here rest e k ↦ fixed_found (IsSpawned next) Refused bytes rest r tt tt e k
  | there e k ↦ started_found next bytes r k
]

exit_found : (bytes rest : List ℕ) (r : Answer × List ℕ) → bytes ≡ codes "code " ++ rest → (code_at rest >>= as_code) ≡ Some r → IsAnswerAt IsEnd bytes r
exit_found bytes rest r b h =
    let last = bound (code_at rest) as_code r h in
    let x = code_found rest last.x last.first in
    let e = end_found (Code last.x.0, last.x.1) r last.next in
    subst (λ a. IsAnswerAt IsEnd bytes (a, r.1)) e.0
    (record {
      whole = b ∙ ap (λ l. codes "code " ++ l) (x.whole ∙ ap (λ l. shown_int last.x.0 ++ l) e.1 ∙ sym (append_assoc (shown_int last.x.0) (10 ∷ []) r.1));
      line = x.is;
      allowed = tt;
    })

running_found : (bytes : List ℕ) (r : Answer × List ℕ) → choose (behind (codes "running\n") bytes) (fixed Running) (behind (codes "failed\n") bytes >>= fixed Failed) ≡ Some r → IsAnswerAt IsEnd bytes r
running_found bytes r h = elim (chosen (behind (codes "running\n") bytes) (fixed Running) (behind (codes "failed\n") bytes >>= fixed Failed) r h) [
  | here rest e k ↦ fixed_found IsEnd Running bytes rest r tt tt e k
  | there e k ↦ last_found IsEnd Failed bytes r tt tt k
]

signal_found : (bytes : List ℕ) (r : Answer × List ℕ) → choose (behind (codes "signal\n") bytes) (fixed Signal) (choose (behind (codes "running\n") bytes) (fixed Running) (behind (codes "failed\n") bytes >>= fixed Failed)) ≡ Some r → IsAnswerAt IsEnd bytes r
signal_found bytes r h = elim (chosen (behind (codes "signal\n") bytes) (fixed Signal) (choose (behind (codes "running\n") bytes) (fixed Running) (behind (codes "failed\n") bytes >>= fixed Failed)) r h) [
  | here rest e k ↦ fixed_found IsEnd Signal bytes rest r tt tt e k
  | there e k ↦ running_found bytes r k
]

ended_found : (bytes : List ℕ) (r : Answer × List ℕ) → ended_at bytes ≡ Some r → IsAnswerAt IsEnd bytes r
ended_found bytes r h = elim (chosen (behind (codes "code ") bytes) (λ rest. code_at rest >>= as_code) (choose (behind (codes "signal\n") bytes) (fixed Signal) (choose (behind (codes "running\n") bytes) (fixed Running) (behind (codes "failed\n") bytes >>= fixed Failed))) r h) [
  | here rest e k ↦ exit_found bytes rest r (behind_is (codes "code ") bytes rest e) k
  | there e k ↦ signal_found bytes r k
]

sent_found : (bytes : List ℕ) (r : Answer × List ℕ) → sent_at bytes ≡ Some r → IsAnswerAt IsSent bytes r
sent_found bytes r h = elim (chosen (behind (codes "sent\n") bytes) (fixed Sent) (behind (codes "broken\n") bytes >>= fixed Broken) r h) [
  | here rest e k ↦ fixed_found IsSent Sent bytes rest r tt tt e k
  | there e k ↦ last_found IsSent Broken bytes r tt tt k
]

killed_found : (bytes : List ℕ) (r : Answer × List ℕ) → killed_at bytes ≡ Some r → IsAnswerAt IsKilled bytes r
killed_found bytes r h = elim (chosen (behind (codes "killed\n") bytes) (fixed Killed) (behind (codes "failed\n") bytes >>= fixed Failed) r h) [
  | here rest e k ↦ fixed_found IsKilled Killed bytes rest r tt tt e k
  | there e k ↦ last_found IsKilled Failed bytes r tt tt k
]

pub answer_found : (next : ℕ) (ask : Ask) (bytes : List ℕ) (r : Answer × List ℕ) → answer_at next ask bytes ≡ Some r → IsAnswerAt (IsAnswerTo next ask) bytes r
answer_found next (Spawn program args) bytes r h = spawned_found next bytes r h
answer_found next (Read child) bytes r h = got_found bytes r h
answer_found next (AskEnd child) bytes r h = ended_found bytes r h
answer_found next (Send child sent) bytes r h = sent_found bytes r h
answer_found next (Close child) bytes r h = last_found IsClosed Closed bytes r tt tt h
answer_found next (Kill child) bytes r h = killed_found bytes r h
