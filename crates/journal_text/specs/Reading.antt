-- Reading from left to right: what stands at the front of some bytes, and what follows it.
use Rattle.std.specs.Prelude.{ℕ, zero, suc, ◌+◌, ◌*◌, ◌-◌, ◌^◌, ◌==◌, nat_lt, nat_le, ℤ, pos, neg_ℤ}
use Rattle.std.specs.Prelude.{Bool, true, false, not, ◌&&◌, ◌||◌, if◌then◌else◌, List, [], ◌∷◌, length}
use Rattle.std.specs.Prelude.{take, drop, codes, Option, Some, None}
use Rattle.std.specs.List.{prefix_len}
use Rattle.std.specs.Str.{is_utf8}
use Rattle.text_model.specs.Options.{◌>>=◌}
use Rattle.plain_machine.specs.Words.{is_digit, begins_with, digits_value}
use Rattle.plain_machine.specs.Exchanges.{Ask, Answer, Exchange, Spawn, Read, AskEnd, Send, Close, Kill}
use Rattle.plain_machine.specs.Exchanges.{Started, Refused, Bytes, Nothing, End, Code, Signal, Running}
use Rattle.plain_machine.specs.Exchanges.{Sent, Broken, Closed, Killed, Failed, most_read}
use Rattle.journal_text.specs.Allowed.{has_no_zero}

abbrev pub Found : Type 0 → Type 0
Found A = Option (A × List ℕ)

-- what follows some bytes
abbrev pub behind : List ℕ → List ℕ → Option (List ℕ)
behind [] bytes = Some bytes
behind (c ∷ text) [] = None
behind (c ∷ text) (b ∷ bytes) = if c == b then behind text bytes else None

-- what is read behind some bytes, or else otherwise
abbrev pub choose : {A : Type 0} → Option (List ℕ) → (List ℕ → Found A) → Found A → Found A
choose (Some rest) one other = one rest
choose None one other = other

abbrev pub arrow : List ℕ
arrow = codes " -> "

-- what was read, and an arrow behind it, or the line's end
abbrev pub then_arrow : {A : Type 0} → A × List ℕ → Found A
then_arrow r = behind arrow r.1 >>= (λ rest. Some (r.0, rest))

abbrev pub then_end : {A : Type 0} → A × List ℕ → Found A
then_end r = behind (codes "\n") r.1 >>= (λ rest. Some (r.0, rest))

-- NUMBERS
-- some digits without leading zeros, below 2^32
abbrev pub is_number : List ℕ → Bool
is_number digits =
    nat_le 1 (length digits) && (nat_le (length digits) 10 &&
    ((length digits == 1 || not (begins_with (λ c. c == 48) digits)) &&
    nat_lt (digits_value 0 digits) (2 ^ 32)))

abbrev pub number_by : (digits rest : List ℕ) → Found ℕ
number_by digits rest = if is_number digits then Some (digits_value 0 digits, rest) else None

abbrev pub number_at : List ℕ → Found ℕ
number_at bytes = number_by (take (prefix_len is_digit bytes) bytes) (drop (prefix_len is_digit bytes) bytes)

-- a number of 32 bits, with a dash in front where it is negative
abbrev pub from_zero : ℕ × List ℕ → Found ℤ
from_zero r = if nat_lt r.0 (2 ^ 31) then Some (pos r.0, r.1) else None

abbrev pub below_zero : ℕ × List ℕ → Found ℤ
below_zero r = if nat_le 1 r.0 && nat_le r.0 (2 ^ 31) then Some (neg_ℤ (pos r.0), r.1) else None

abbrev pub code_at : List ℕ → Found ℤ
code_at bytes =
    choose (behind (codes "-") bytes) (λ rest. number_at rest >>= below_zero) (number_at bytes >>= from_zero)

-- BYTES
abbrev pub is_hex : ℕ → Bool
is_hex c = is_digit c || (nat_le 97 c && nat_le c 102)

abbrev pub hex_value : ℕ → ℕ
hex_value c = if nat_lt c 58 then c - 48 else c - 87

abbrev pub are_pairs : List ℕ → Bool
are_pairs [] = true
are_pairs (c ∷ []) = false
are_pairs (c ∷ d ∷ digits) = are_pairs digits

abbrev pub unhex : List ℕ → List ℕ
unhex [] = []
unhex (c ∷ []) = []
unhex (c ∷ d ∷ digits) = (16 * hex_value c + hex_value d) ∷ unhex digits

abbrev pub hex_by : (digits rest : List ℕ) → Found (List ℕ)
hex_by digits rest = if are_pairs digits && nat_le 2 (length digits) then Some (unhex digits, rest) else None

abbrev pub hex_at : List ℕ → Found (List ℕ)
hex_at bytes = hex_by (take (prefix_len is_hex bytes) bytes) (drop (prefix_len is_hex bytes) bytes)

-- WORDS
abbrev pub is_text : List ℕ → Bool
is_text bytes = is_utf8 bytes && has_no_zero bytes

abbrev pub as_text : List ℕ × List ℕ → Found (List ℕ)
as_text r = if is_text r.0 then Some r else None

abbrev pub text_at : List ℕ → Found (List ℕ)
text_at bytes = hex_at bytes >>= as_text

-- an argument; a dash stands for no bytes
abbrev pub word_at : List ℕ → Found (List ℕ)
word_at bytes = choose (behind (codes "-") bytes) (λ rest. Some ([], rest)) (text_at bytes)

abbrev pub led_word_at : List ℕ → Found (List ℕ)
led_word_at bytes = behind (codes " ") bytes >>= word_at

abbrev pub with_word : (List ℕ → Found (List (List ℕ))) → List ℕ × List ℕ → Found (List (List ℕ))
with_word more r = more r.1 >>= (λ words. Some (r.0 ∷ words.0, words.1))

-- arguments up to an arrow, fewer than so many
abbrev pub words_within : ℕ → List ℕ → Found (List (List ℕ))
words_within zero bytes = None
words_within (suc n) bytes =
    choose (behind arrow bytes) (λ rest. Some ([], rest)) (led_word_at bytes >>= with_word (words_within n))

-- there are fewer than there are bytes
abbrev pub words_at : List ℕ → Found (List (List ℕ))
words_at bytes = words_within (suc (length bytes)) bytes

-- ASKS, each with the arrow behind it
abbrev pub spawn_at : List ℕ → Found Ask
spawn_at bytes =
    text_at bytes >>= (λ program. words_at program.1 >>= (λ args. Some (Spawn program.0 args.0, args.1)))

abbrev pub child_at : List ℕ → Found ℕ
child_at bytes = number_at bytes >>= then_arrow

abbrev pub ask_of_child : (ℕ → Ask) → List ℕ → Found Ask
ask_of_child ask bytes = child_at bytes >>= (λ r. Some (ask r.0, r.1))

abbrev pub bytes_at : List ℕ → Found (List ℕ)
bytes_at bytes = behind (codes " ") bytes >>= hex_at >>= then_arrow

abbrev pub send_at : List ℕ → Found Ask
send_at bytes = number_at bytes >>= (λ child. bytes_at child.1 >>= (λ sent. Some (Send child.0 sent.0, sent.1)))

abbrev pub last_ask_at : List ℕ → Found Ask
last_ask_at bytes =
    choose (behind (codes "close ") bytes) (ask_of_child Close) (behind (codes "kill ") bytes >>= ask_of_child Kill)

abbrev pub ask_child_at : List ℕ → Found Ask
ask_child_at bytes =
    choose (behind (codes "read ") bytes) (ask_of_child Read)
    (choose (behind (codes "end ") bytes) (ask_of_child AskEnd) (last_ask_at bytes))

abbrev pub ask_at : List ℕ → Found Ask
ask_at bytes = choose (behind (codes "spawn ") bytes) spawn_at
    (choose (behind (codes "send ") bytes) send_at (ask_child_at bytes))

-- ANSWERS, each with the line's end behind it
abbrev pub as_started : (next : ℕ) → ℕ × List ℕ → Found Answer
as_started next r = if r.0 == next then then_end (Started r.0, r.1) else None

abbrev pub fixed : Answer → List ℕ → Found Answer
fixed answer rest = Some (answer, rest)

abbrev pub fixed_at : Answer → (text bytes : List ℕ) → Found Answer
fixed_at answer text bytes = behind text bytes >>= fixed answer

abbrev pub spawned_at : (next : ℕ) → List ℕ → Found Answer
spawned_at next bytes = choose (behind (codes "refused\n") bytes) (fixed Refused)
    (behind (codes "started ") bytes >>= number_at >>= as_started next)

abbrev pub as_bytes : List ℕ × List ℕ → Found Answer
as_bytes r = if nat_le (length r.0) most_read then then_end (Bytes r.0, r.1) else None

abbrev pub given_at : List ℕ → Found Answer
given_at bytes = hex_at bytes >>= as_bytes

abbrev pub nothing_got_at : List ℕ → Found Answer
nothing_got_at bytes =
    choose (behind (codes "nothing\n") bytes) (fixed Nothing)
    (choose (behind (codes "end\n") bytes) (fixed End) (behind (codes "failed\n") bytes >>= fixed Failed))

abbrev pub got_at : List ℕ → Found Answer
got_at bytes = choose (behind (codes "bytes ") bytes) given_at (nothing_got_at bytes)

abbrev pub as_code : ℤ × List ℕ → Found Answer
as_code r = then_end (Code r.0, r.1)

abbrev pub exited_at : List ℕ → Found Answer
exited_at bytes = code_at bytes >>= as_code

abbrev pub ended_at : List ℕ → Found Answer
ended_at bytes =
    choose (behind (codes "code ") bytes) exited_at
    (choose (behind (codes "signal\n") bytes) (fixed Signal)
    (choose (behind (codes "running\n") bytes) (fixed Running)
    (behind (codes "failed\n") bytes >>= fixed Failed)))

abbrev pub sent_at : List ℕ → Found Answer
sent_at bytes =
    choose (behind (codes "sent\n") bytes) (fixed Sent) (behind (codes "broken\n") bytes >>= fixed Broken)

abbrev pub closed_at : List ℕ → Found Answer
closed_at bytes = behind (codes "closed\n") bytes >>= fixed Closed

abbrev pub killed_at : List ℕ → Found Answer
killed_at bytes =
    choose (behind (codes "killed\n") bytes) (fixed Killed) (behind (codes "failed\n") bytes >>= fixed Failed)

abbrev pub answer_at : (next : ℕ) → Ask → List ℕ → Found Answer
answer_at next (Spawn program args) bytes = spawned_at next bytes
answer_at next (Read child) bytes = got_at bytes
answer_at next (AskEnd child) bytes = ended_at bytes
answer_at next (Send child sent) bytes = sent_at bytes
answer_at next (Close child) bytes = closed_at bytes
answer_at next (Kill child) bytes = killed_at bytes

-- LINES
abbrev pub with_answer : (next : ℕ) → Ask × List ℕ → Found Exchange
with_answer next r =
    answer_at next r.0 r.1 >>= (λ answer. Some ((record { ask = r.0; answer = answer.0 }), answer.1))

abbrev pub line_at : (next : ℕ) → List ℕ → Found Exchange
line_at next bytes = ask_at bytes >>= with_answer next

-- CLAIMED LINES
-- so many bytes, and what follows them
abbrev pub counted_off : ℕ × List ℕ → Found (List ℕ)
counted_off r = if nat_le r.0 (length r.1) then Some (take r.0 r.1, drop r.0 r.1) else None

abbrev pub claim_at : List ℕ → Found (List ℕ)
claim_at bytes =
    behind (codes "lines ") bytes >>= (λ rest. number_at rest >>= (λ n. then_end n >>= counted_off))
