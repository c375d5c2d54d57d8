-- Asks with the arrow behind them.
use Rattle.std.proofs.Common.{◌≡◌, ℕ, ◌<◌, ◌≤◌, ◌^◌, List, ◌∷◌, ◌++◌, length, Some, refl, ap, sym, subst, ◌∙◌, append_assoc, codes, decimal}
use Rattle.text_model.specs.Options.{◌>>=◌}
use Rattle.plain_machine.specs.Exchanges.{Ask, Spawn, Read, AskEnd, Send, Close, Kill}
use Rattle.journal_text.specs.Lines.{hex, led_words, ask_words}
use Rattle.journal_text.specs.Allowed.{IsAskLine, AreBytes}
use Rattle.journal_text.specs.Reading.{behind, choose, arrow, then_arrow, number_at, hex_at, text_at, words_at, spawn_at, child_at, ask_of_child, bytes_at, send_at, ask_child_at, ask_at}
use Rattle.journal_text.proofs.Finding.{behind_is, bound, chosen, here, there, same_some}
use Rattle.journal_text.proofs.Numbers.{number_there, number_found}
use Rattle.journal_text.proofs.Hexes.{hex_there, hex_found}
use Rattle.journal_text.proofs.Words.{text_there, text_found, words_there, words_found, begins}

-- WHAT IS WRITTEN IS READ
child_there : (child : ℕ) (rest : List ℕ) → child < 2 ^ 32 → child_at (decimal child ++ (arrow ++ rest)) ≡ Some (child, rest)
child_there child rest small = ap (λ o. o >>= then_arrow) (number_there child 32 (45 ∷ 62 ∷ 32 ∷ rest) small refl)

of_child_there : (ask : ℕ → Ask) (child : ℕ) (rest : List ℕ) → child < 2 ^ 32 → ask_of_child ask (decimal child ++ (arrow ++ rest)) ≡ Some (ask child, rest)
of_child_there ask child rest small = ap (λ o. o >>= (λ r. Some (ask r.0, r.1))) (child_there child rest small)

spawn_there : (program : List ℕ) (args : List (List ℕ)) (rest : List ℕ) → IsAskLine (Spawn program args) → spawn_at ((hex program ++ led_words args) ++ (arrow ++ rest)) ≡ Some (Spawn program args, rest)
spawn_there program args rest h =
    let b = begins args rest in
    ap spawn_at (append_assoc (hex program) (led_words args) (arrow ++ rest) ∙ ap (λ l. hex program ++ l) b.1)
    ∙ ap (λ o. o >>= (λ p. words_at p.1 >>= (λ a. Some (Spawn p.0 a.0, a.1)))) (text_there program b.0 h.0 h.1)
    ∙ ap (λ l. words_at l >>= (λ a. Some (Spawn program a.0, a.1))) (sym b.1)
    ∙ ap (λ o. o >>= (λ a. Some (Spawn program a.0, a.1))) (words_there args rest h.2)

bytes_there : (bytes rest : List ℕ) → 1 ≤ length bytes → AreBytes bytes → bytes_at (32 ∷ (hex bytes ++ (arrow ++ rest))) ≡ Some (bytes, rest)
bytes_there bytes rest some all = ap (λ o. o >>= then_arrow) (hex_there bytes 32 (45 ∷ 62 ∷ 32 ∷ rest) some all refl)

send_there : (child : ℕ) (bytes rest : List ℕ) → IsAskLine (Send child bytes) → send_at ((decimal child ++ (32 ∷ hex bytes)) ++ (arrow ++ rest)) ≡ Some (Send child bytes, rest)
send_there child bytes rest h =
    ap send_at (append_assoc (decimal child) (32 ∷ hex bytes) (arrow ++ rest))
    ∙ ap (λ o. o >>= (λ c. bytes_at c.1 >>= (λ s. Some (Send c.0 s.0, s.1)))) (number_there child 32 (hex bytes ++ (arrow ++ rest)) h.0 refl)
    ∙ ap (λ o. o >>= (λ s. Some (Send child s.0, s.1))) (bytes_there bytes rest h.1 h.2)

pub ask_there : (ask : Ask) (rest : List ℕ) → IsAskLine ask → ask_at (ask_words ask ++ (arrow ++ rest)) ≡ Some (ask, rest)
ask_there (Spawn program args) rest h = spawn_there program args rest h
ask_there (Read child) rest h = of_child_there Read child rest h
ask_there (AskEnd child) rest h = of_child_there AskEnd child rest h
ask_there (Send child bytes) rest h = send_there child bytes rest h
ask_there (Close child) rest h = of_child_there Close child rest h
ask_there (Kill child) rest h = of_child_there Kill child rest h

-- WHAT IS READ WAS WRITTEN
pub record IsAskAt (bytes : List ℕ) (r : Ask × List ℕ) : Type 0 where
  pub whole : bytes ≡ ask_words r.0 ++ (arrow ++ r.1)
  pub is : IsAskLine r.0

arrow_found : {A : Type 0} (s r : A × List ℕ) → then_arrow s ≡ Some r → (s.0 ≡ r.0) × (s.1 ≡ arrow ++ r.1)
arrow_found {A} s r h =
    let b = bound (behind arrow s.1) (λ rest. Some (s.0, rest)) r h in
    let same = same_some (s.0, b.x) r b.next in (
      ap (λ (x : A × List ℕ). x.0) same,
      behind_is arrow s.1 b.x b.first ∙ ap (λ (x : A × List ℕ). arrow ++ x.1) same,
    )

child_found : (bytes : List ℕ) (r : ℕ × List ℕ) → child_at bytes ≡ Some r → (bytes ≡ decimal r.0 ++ (arrow ++ r.1)) × (r.0 < 2 ^ 32)
child_found bytes r h =
    let b = bound (number_at bytes) then_arrow r h in
    let n = number_found bytes b.x b.first in
    let a = arrow_found b.x r b.next in
    (n.whole ∙ ap (λ m. decimal m ++ b.x.1) a.0 ∙ ap (λ l. decimal r.0 ++ l) a.1, subst (λ m. m < 2 ^ 32) a.0 n.small)

spawn_found : (bytes : List ℕ) (r : Ask × List ℕ) → spawn_at bytes ≡ Some r → IsAskAt (codes "spawn " ++ bytes) r
spawn_found bytes r h =
    let first = bound (text_at bytes) (λ p. words_at p.1 >>= (λ a. Some (Spawn p.0 a.0, a.1))) r h in
    let second = bound (words_at first.x.1) (λ a. Some (Spawn first.x.0 a.0, a.1)) r first.next in
    let program = text_found bytes first.x first.first in
    let args = words_found first.x.1 second.x second.first in
    let same = same_some (Spawn first.x.0 second.x.0, second.x.1) r second.next in
    subst (IsAskAt (codes "spawn " ++ bytes)) same
    (record {
      whole = ap (λ l. codes "spawn " ++ l) (program.whole ∙ ap (λ l. hex first.x.0 ++ l) args.whole ∙ sym (append_assoc (hex first.x.0) (led_words second.x.0) (arrow ++ second.x.1)));
      is = (program.some, program.text, args.texts);
    })

bytes_found : (bytes : List ℕ) (r : List ℕ × List ℕ) → bytes_at bytes ≡ Some r → (bytes ≡ 32 ∷ (hex r.0 ++ (arrow ++ r.1))) × (1 ≤ length r.0) × AreBytes r.0
bytes_found bytes r h =
    let last = bound (behind (codes " ") bytes >>= hex_at) then_arrow r h in
    let first = bound (behind (codes " ") bytes) hex_at last.x last.first in
    let x = hex_found first.x last.x first.next in
    let a = arrow_found last.x r last.next in (
      behind_is (codes " ") bytes first.x first.first ∙ ap (λ l. 32 ∷ l) (x.whole ∙ ap (λ l. hex l ++ last.x.1) a.0 ∙ ap (λ l. hex r.0 ++ l) a.1),
      subst (λ (l : List ℕ). 1 ≤ length l) a.0 x.some,
      subst AreBytes a.0 x.all,
    )

send_found : (bytes : List ℕ) (r : Ask × List ℕ) → send_at bytes ≡ Some r → IsAskAt (codes "send " ++ bytes) r
send_found bytes r h =
    let first = bound (number_at bytes) (λ c. bytes_at c.1 >>= (λ s. Some (Send c.0 s.0, s.1))) r h in
    let second = bound (bytes_at first.x.1) (λ s. Some (Send first.x.0 s.0, s.1)) r first.next in
    let child = number_found bytes first.x first.first in
    let sent = bytes_found first.x.1 second.x second.first in
    let same = same_some (Send first.x.0 second.x.0, second.x.1) r second.next in
    subst (IsAskAt (codes "send " ++ bytes)) same
    (record {
      whole = ap (λ l. codes "send " ++ l) (child.whole ∙ ap (λ l. decimal first.x.0 ++ l) sent.0 ∙ sym (append_assoc (decimal first.x.0) (32 ∷ hex second.x.0) (arrow ++ second.x.1)));
      is = (child.small, sent.1, sent.2);
    })

-- an ask that names a child alone
of_child_found : (ask : ℕ → Ask) (name bytes : List ℕ) (r : Ask × List ℕ) → ((n : ℕ) → ask_words (ask n) ≡ name ++ decimal n) → ((n : ℕ) → n < 2 ^ 32 → IsAskLine (ask n)) → ask_of_child ask bytes ≡ Some r → IsAskAt (name ++ bytes) r
of_child_found ask name bytes r words small h =
    let b = bound (child_at bytes) (λ c. Some (ask c.0, c.1)) r h in
    let c = child_found bytes b.x b.first in
    let same = same_some (ask b.x.0, b.x.1) r b.next in
    subst (IsAskAt (name ++ bytes)) same
    (record {
      whole = ap (λ l. name ++ l) c.0 ∙ sym (append_assoc name (decimal b.x.0) (arrow ++ b.x.1)) ∙ ap (λ l. l ++ (arrow ++ b.x.1)) (sym (words b.x.0));
      is = small b.x.0 c.1;
    })

at_bytes : (bytes name rest : List ℕ) (r : Ask × List ℕ) → behind name bytes ≡ Some rest → IsAskAt (name ++ rest) r → IsAskAt bytes r
at_bytes bytes name rest r e h = subst (λ l. IsAskAt l r) (sym (behind_is name bytes rest e)) h

kill_found : (bytes : List ℕ) (r : Ask × List ℕ) → (behind (codes "kill ") bytes >>= ask_of_child Kill) ≡ Some r → IsAskAt bytes r
kill_found bytes r h =
    let b = bound (behind (codes "kill ") bytes) (ask_of_child Kill) r h in
    at_bytes bytes (codes "kill ") b.x r b.first (of_child_found Kill (codes "kill ") b.x r (λ n. refl) (λ n s. s) b.next)

close_found : (bytes : List ℕ) (r : Ask × List ℕ) → choose (behind (codes "close ") bytes) (ask_of_child Close) (behind (codes "kill ") bytes >>= ask_of_child Kill) ≡ Some r → IsAskAt bytes r
close_found bytes r h = elim (chosen (behind (codes "close ") bytes) (ask_of_child Close) (behind (codes "kill ") bytes >>= ask_of_child Kill) r h) [
  | here rest e k ↦ at_bytes bytes (codes "close ") rest r e (of_child_found Close (codes "close ") rest r (λ n. refl) (λ n s. s) k)
  | there e k ↦ kill_found bytes r k
]

end_found : (bytes : List ℕ) (r : Ask × List ℕ) → choose (behind (codes "end ") bytes) (ask_of_child AskEnd) (choose (behind (codes "close ") bytes) (ask_of_child Close) (behind (codes "kill ") bytes >>= ask_of_child Kill)) ≡ Some r → IsAskAt bytes r
end_found bytes r h = elim (chosen (behind (codes "end ") bytes) (ask_of_child AskEnd) (choose (behind (codes "close ") bytes) (ask_of_child Close) (behind (codes "kill ") bytes >>= ask_of_child Kill)) r h) [
  | here rest e k ↦ at_bytes bytes (codes "end ") rest r e (of_child_found AskEnd (codes "end ") rest r (λ n. refl) (λ n s. s) k)
  | there e k ↦ close_found bytes r k
]

ask_child_found : (bytes : List ℕ) (r : Ask × List ℕ) → ask_child_at bytes ≡ Some r → IsAskAt bytes r
ask_child_found bytes r h = elim (chosen (behind (codes "read ") bytes) (ask_of_child Read) (choose (behind (codes "end ") bytes) (ask_of_child AskEnd) (choose (behind (codes "close ") bytes) (ask_of_child Close) (behind (codes "kill ") bytes >>= ask_of_child Kill))) r h) [
  | here rest e k ↦ at_bytes bytes (codes "read ") rest r e (of_child_found Read (codes "read ") rest r (λ n. refl) (λ n s. s) k)
  | there e k ↦ end_found bytes r k
]

send_or_child_found : (bytes : List ℕ) (r : Ask × List ℕ) → choose (behind (codes "send ") bytes) send_at (ask_child_at bytes) ≡ Some r → IsAskAt bytes r
send_or_child_found bytes r h = elim (chosen (behind (codes "send ") bytes) send_at (ask_child_at bytes) r h) [
  | here rest e k ↦ at_bytes bytes (codes "send ") rest r e (send_found rest r k)
  | there e k ↦ ask_child_found bytes r k
]

pub ask_found : (bytes : List ℕ) (r : Ask × List ℕ) → ask_at bytes ≡ Some r → IsAskAt bytes r
ask_found bytes r h = elim (chosen (behind (codes "spawn ") bytes) spawn_at (choose (behind (codes "send ") bytes) send_at (ask_child_at bytes)) r h) [
  | here rest e k ↦ at_bytes bytes (codes "spawn ") rest r e (spawn_found rest r k)
  | there e k ↦ send_or_child_found bytes r k
]
