-- Waits, deletions and the end of a run: all steps that ask a running child. GNU Emacs Lisp Reference
-- Manual, sections "Accepting Output", "Filter Functions", "Decoding Output", "Sentinels", "Deleting
-- Processes".
use Rattle.std.specs.Prelude.{ℕ, zero, suc, ◌+◌, ℤ, pos, negsuc, Bool, true, false, ◌&&◌, ◌||◌, not}
use Rattle.std.specs.Prelude.{◌==◌, nat_lt, nat_le, List, [], ◌∷◌, ◌++◌, map, filter, length, drop}
use Rattle.std.specs.Prelude.{codes, decimal, Option, Some, None}
use Rattle.std.specs.List.{enumerate_from, list_all}
use Rattle.text_model.specs.Characters.{Ch, Scalar}
use Rattle.text_model.specs.Codings.{decoded, all_decoded}
use Rattle.text_model.specs.Properties.{bare}
use Rattle.editor_model.specs.Values.{Nil, T, Str, TheProcess, ExchangesSpent}
use Rattle.editor_model.specs.Editor.{is_live, killed}
use Rattle.plain_machine.specs.Exchanges.{Read, AskEnd, Kill, Answer, Bytes, End, Code, Signal, Running, Killed, most_read}
use Rattle.plain_machine.specs.State.{State, Process, Status, Runs, Exited, Signalled, Lost, Filter}
use Rattle.plain_machine.specs.State.{Off, Named, Program, process, change_process, read_so_far}
use Rattle.plain_machine.specs.Lines.{OfFilter, OfSentinel, KilledLast}
use Rattle.plain_machine.specs.Items.{Item, GiveAnswer, Refuse, Enter, Wait, Finish, WriteDump, Target}
use Rattle.plain_machine.specs.Items.{Waiting, Next, Step, Asks}
use Rattle.plain_machine.specs.Refusals.{may_ask, must_be_replaceable}
use Rattle.plain_machine.specs.Arguments.{runs}
use Rattle.plain_machine.specs.Calls.{silent, on, unless, with_editor}
use Rattle.plain_machine.specs.Forms.{says}

-- WAITS
-- a process may be asked while it runs and its filter isn't off; where a wait is for just one process, that
-- one alone
abbrev pub is_heard : Filter → Bool
is_heard Off = false
is_heard _ = true

abbrev pub is_target : Option ℕ → (p : ℕ) → Bool
is_target None p = true
is_target (Some t) p = t == p

abbrev pub is_eligible_one : Waiting → (p : ℕ) → Option Process → Bool
is_eligible_one w p None = false
is_eligible_one w p (Some x) = runs x.status && (is_heard x.filter && (not w.just || is_target w.target p))

abbrev pub is_eligible : State → Waiting → ℕ → Bool
is_eligible s w p = is_eligible_one w p (process s p)

-- the target first, then by rising number
abbrev pub target_first : Option ℕ → List ℕ → List ℕ
target_first None all = all
target_first (Some t) all = t ∷ filter (λ p. not (p == t)) all

abbrev pub eligible : State → Waiting → List ℕ
eligible s w = target_first w.target (filter (is_eligible s w) (map (λ x. x.0) (enumerate_from 0 s.processes)))

-- without those at the front that aren't eligible
abbrev pub from_eligible : State → Waiting → List ℕ → List ℕ
from_eligible s w [] = []
from_eligible s w (p ∷ asking) =
    elim (is_eligible s w p) [ true ↦ p ∷ asking | false ↦ from_eligible s w asking ]

abbrev pub filter_handler : Filter → Option ℕ
filter_handler (Named name) = Some name
filter_handler _ = None

-- READS
-- The entry that a read causes: of the filter set at this step, with the characters that came out, if any did.
abbrev pub entry_of : State → (p : ℕ) → Process → List Ch → List Item → List Item
entry_of s p x [] rest = rest
entry_of s p x (c ∷ text) rest =
    Enter (OfFilter p) (filter_handler x.filter) (TheProcess p ∷ Str (bare (c ∷ text)) ∷ []) ∷ rest

-- a read of the target counts, or of any process where there is none
abbrev pub counts : Waiting → ℕ → Bool
counts w p = is_target w.target p

abbrev pub asked_more : State → State
asked_more s = record s { asked = s.asked + 1 }

-- the new characters: those of all bytes after those of the old ones
abbrev pub more_characters : (old new : List Ch) → List Ch
more_characters old new = drop (length old) new

-- the output has ended: what was held back comes out too
abbrev pub drain : State → Waiting → Target → List Item → ℕ → Process → Option Next
drain s w target rest p x =
    Some (silent (change_process p (λ y. record y { drained = true }) (asked_more s))
    (entry_of s p x (more_characters (decoded x.coding (read_so_far x)) (all_decoded x.coding (read_so_far x)))
    (Wait w target ∷ rest)))

-- one read gives 1 to `most_read` bytes
abbrev pub is_room : List ℕ → Bool
is_room bytes = nat_le 1 (length bytes) && (nat_le (length bytes) most_read && list_all (λ b. nat_lt b 256) bytes)

abbrev pub hear : (fits : Bool) → State → Waiting → Target → List Item → ℕ → Process → List ℕ → Option Next
hear false s w target rest p x bytes = None
hear true s w target rest p x bytes =
    Some (silent (change_process p (λ y. record y { bytes = Some (read_so_far x ++ bytes) }) (asked_more s))
    (entry_of s p x (more_characters (decoded x.coding (read_so_far x))
    (decoded x.coding (read_so_far x ++ bytes)))
    (Wait (record w { counted = w.counted || counts w p }) target ∷ rest)))

abbrev pub read_answer : State → Waiting → Target → List Item → ℕ → Process → Answer → Option Next
read_answer s w target rest p x (Bytes bytes) = hear (is_room bytes) s w target rest p x bytes
read_answer s w target rest p x Answer.Nothing = Some (silent (asked_more s) (Wait w target ∷ rest))
read_answer s w target rest p x End = drain s w target rest p x
read_answer s w target rest p x Answer.Failed = drain s w target rest p x
read_answer s w target rest p x _ = None

-- ENDS
-- a process ends: its sentinel is entered, the one set at this step
abbrev pub ends : State → (p : ℕ) → Process → Status → List ℕ → List Item → Next
ends s p x status text rest = silent (change_process p (λ y. record y { status = status }) s)
    (Enter (OfSentinel p) x.sentinel (TheProcess p ∷ Str (bare (map Scalar text)) ∷ []) ∷ rest)

-- what a sentinel is told of an exit code
abbrev pub exit_text : ℤ → List ℕ
exit_text (pos zero) = codes "finished\n"
exit_text (pos (suc n)) = codes "exited abnormally with code " ++ (decimal (suc n) ++ codes "\n")
exit_text (negsuc n) = codes "exited abnormally with code -" ++ (decimal (n + 1) ++ codes "\n")

abbrev pub end_answer : State → Waiting → Target → List Item → ℕ → Process → Answer → Option Next
end_answer s w target rest p x (Code n) =
    Some (ends (asked_more s) p x (Exited n) (exit_text n) (Wait w target ∷ rest))
end_answer s w target rest p x Signal =
    Some (ends (asked_more s) p x Signalled (codes "killed\n") (Wait w target ∷ rest))
end_answer s w target rest p x Answer.Failed =
    Some (ends (asked_more s) p x Lost (codes "failed\n") (Wait w target ∷ rest))
end_answer s w target rest p x Running = Some (silent (asked_more s) (Wait w target ∷ rest))
end_answer s w target rest p x _ = None

-- ASKING
-- output first; the end of a process is asked once its output has ended
abbrev pub ask_next : (drained : Bool) → State → Waiting → Target → List Item → ℕ → Process → Step
ask_next false s w target rest p x = Asks (Read x.child) (read_answer s w target rest p x)
ask_next true s w target rest p x = Asks (AskEnd x.child) (end_answer s w target rest p x)

-- where no exchange may be made any more, the call that waits is refused
abbrev pub ask_if : (may : Bool) → Option Process → State → Waiting → Target → List Item → ℕ → Step
ask_if false x s w target rest p = on s (Refuse ExchangesSpent ∷ rest)
ask_if true None s w target rest p = on s rest
ask_if true (Some x) s w target rest p = ask_next x.drained s w target rest p x

abbrev pub ask_process : State → Waiting → Target → List Item → ℕ → Step
ask_process s w target rest p = ask_if (may_ask s) (process s p) s w target rest p

-- A WAIT
abbrev pub target_is_eligible : State → Waiting → Bool
target_is_eligible s w = elim w.target [ None ↦ true | Some t ↦ is_eligible s w t ]

-- Case by case: a read that counts was answered by bytes; the target isn't eligible; one is left to be
-- asked in this round; none is eligible; no round is left; another round begins.
abbrev pub wait_case : (counted target_is_eligible : Bool) → (asking eligible : List ℕ) → (rounds : ℕ) → State →
    Waiting → Target → List Item → Step
wait_case true fit asking all rounds s w target rest = on s (GiveAnswer T target ∷ rest)
wait_case false false asking all rounds s w target rest = on s (GiveAnswer Nil target ∷ rest)
wait_case false true (p ∷ asking) all rounds s w target rest =
    ask_process s (record w { asking = asking }) target rest p
wait_case false true [] [] rounds s w target rest = on s (GiveAnswer Nil target ∷ rest)
wait_case false true [] (p ∷ more) zero s w target rest = on s (GiveAnswer Nil target ∷ rest)
wait_case false true [] (p ∷ more) (suc rounds) s w target rest =
    on s (Wait (record w { rounds = rounds; asking = p ∷ more }) target ∷ rest)

abbrev pub wait : State → Waiting → Target → List Item → Step
wait s w target rest =
    wait_case w.counted (target_is_eligible s w) (from_eligible s w w.asking)
    (eligible s w) w.rounds s w target rest

-- DELETING, KILLING, AND THE END OF A RUN
abbrev pub kill_answer : Next → Answer → Option Next
kill_answer next Killed = Some next
kill_answer next Answer.Failed = Some next
kill_answer next _ = None

-- a process that runs is killed, and its sentinel is entered, whatever the host answers
abbrev pub delete_running : Status → State → (p : ℕ) → Process → List Item → Step
delete_running Runs s p x rest =
    Asks (Kill x.child) (kill_answer (ends s p x Signalled (codes "killed\n") rest))
delete_running _ s p x rest = on s rest

abbrev pub delete_one : State → (p : ℕ) → Option Process → List Item → Step
delete_one s p None rest = on s rest
delete_one s p (Some x) rest = delete_running x.status s p x rest

abbrev pub delete : State → (p : ℕ) → List Item → Step
delete s p rest = delete_one s p (process s p) rest

-- the buffer is killed, unless it was meanwhile
abbrev pub kill_live : (lives : Bool) → State → (b : ℕ) → Target → List Item → Step
kill_live false s b target rest = on s (GiveAnswer Nil target ∷ rest)
kill_live true s b target rest =
    unless (must_be_replaceable s.editor b ∷ []) s rest
    (on (with_editor (killed b s.editor) s) (GiveAnswer T target ∷ rest))

abbrev pub kill_at_end : State → (b : ℕ) → Target → List Item → Step
kill_at_end s b target rest = kill_live (is_live s.editor b) s b target rest

-- at the end of the script each process that still runs is killed, by rising number; then comes the dump
abbrev pub finish_running : Program → Status → State → (p : ℕ) → Process → Step
finish_running program Runs s p x =
    Asks (Kill x.child) (kill_answer (says program s (KilledLast p) s (Finish (p + 1) ∷ [])))
finish_running program _ s p x = on s (Finish (p + 1) ∷ [])

abbrev pub finish_one : Program → State → (p : ℕ) → Option Process → Step
finish_one program s p None = on s (WriteDump ∷ [])
finish_one program s p (Some x) = finish_running program x.status s p x

abbrev pub finish : Program → State → (p : ℕ) → Step
finish program s p = finish_one program s p (process s p)
