-- How the machine takes the answers of a process.
use Rattle.std.proofs.Common.{◌≡◌, ℕ, zero, suc, ◌<◌, true, List, [], ◌∷◌, ◌++◌, length, map, take, slice_get, slice_set, refl, ap, sym, subst, ◌∙◌, arith, inl, inr}
use Rattle.std.specs.Prelude.{◌⊎◌, nat_lt, All, Some, None}
use Rattle.std.specs.List.{list_all}
use Rattle.std.specs.declared.option.Option.{Option}
use Rattle.std.proofs.lemmas.Bool.{le-leb, lt-ltb}
use Rattle.text_model.specs.Characters.{Ch, Scalar}
use Rattle.text_model.specs.Properties.{bare}
use Rattle.text_model.specs.Codings.{decoded, all_decoded}
use Rattle.editor_model.specs.Values.{Str, TheProcess}
use Rattle.plain_machine.specs.Exchanges.{Answer, Bytes, most_read}
use Rattle.plain_machine.specs.State.{State, Process, Status, Exited, Signalled, Lost, change_process, read_so_far}
use Rattle.plain_machine.specs.Lines.{OfSentinel}
use Rattle.plain_machine.specs.Items.{Item, Enter, Wait, Waiting, Target}
use Rattle.plain_machine.specs.Calls.{silent}
use Rattle.plain_machine.specs.Waits.{asked_more, entry_of, more_characters, is_room, hear, end_answer, ends}
use Rattle.process_table.specs.Table.{StandsFor, with_status}
use Rattle.wait_loop.specs.KeptWaits.{noted}
use Rattle.host_link.specs.Hosts.{got_answer, ended_answer}
use Rattle.host_link.specs.declared.host.Got.{Got}
use Rattle.host_link.specs.declared.host.Got.TheVariants as got
use Rattle.host_link.specs.declared.host.Ended.{Ended}
use Rattle.host_link.specs.declared.host.Ended.TheVariants as ended
use Rattle.handler_run.specs.Answers.{IsRead, Takes, Reads, Ends, Deletes, gave_bytes, told_of, came_to}
use Rattle.handler_run.specs.Entries.{entering}
use Rattle.handler_run.specs.declared.entry.Entry.{Entry}
use Rattle.handler_run.specs.declared.entry.Entry.TheVariants as entry

abbrev changed_by : State → (p : ℕ) → (Process → Process) → Option Process → State
changed_by s p f o = elim o [ None ↦ s | Some x ↦ record s { processes = slice_set s.processes p (f x) } ]

-- the machine's change of a process changes nothing but the list
apart_alone : (s : State) (p : ℕ) (f : Process → Process) → change_process p f s ≡ record s { processes = (change_process p f s).processes }
apart_alone s p f = by (slice_get s.processes p)
  where
    by : (o : Option Process) → changed_by s p f o ≡ record s { processes = (changed_by s p f o).processes }
    by None = refl
    by (Some x) = refl

-- READS
all_bytes : (bytes : List ℕ) → All (λ b. b < 256) bytes → list_all (λ b. nat_lt b 256) bytes ≡ true
all_bytes [] h = refl
all_bytes (b ∷ bytes) h =
    let first : b < 256 = h 0 0 (omega arith) in
    rw (lt-ltb b 256 first, all_bytes bytes (λ i d k. h (suc i) d (omega (arith, k)))) refl

take_all : (n : ℕ) (bytes : List ℕ) → length bytes ≡ n → take n bytes ≡ bytes
take_all n [] e = by n
  where
    by : (n : ℕ) → take n (let none : List ℕ = [] in none) ≡ []
    by zero = refl
    by (suc n) = refl
take_all zero (b ∷ bytes) e = absurd (omega (arith, e))
take_all (suc n) (b ∷ bytes) e = ap (λ l. b ∷ l) (take_all n bytes (omega (arith, e)))

module _ (s : State) (p : ℕ) (x : Process) (table : List Process) (text : List Ch) where
  abbrev heard : List ℕ → State
  heard bytes = change_process p (λ y. record y { bytes = Some (read_so_far x ++ bytes) }) (asked_more s)

  abbrev drained : State
  drained = change_process p (λ y. record y { drained = true }) (asked_more s)

  takes_bytes : (bytes : List ℕ) → is_room bytes ≡ true → StandsFor table (heard bytes).processes → text ≡ more_characters (decoded x.coding (read_so_far x)) (decoded x.coding (read_so_far x ++ bytes)) → Takes s p x (Bytes bytes) table text
  takes_bytes bytes room stands came = record {
    now = heard bytes;
    stands = stands;
    apart = apart_alone (asked_more s) p (λ y. record y { bytes = Some (read_so_far x ++ bytes) });
    goes = λ w target rest. ap (λ b. hear b s w target rest p x bytes) room ∙ ap (λ t. Some (silent (heard bytes) (entry_of s p x t (Wait (noted p true w) target ∷ rest)))) (sym came);
  }

  pub took_bytes : (g : Got) (n : ℕ) (bytes : List ℕ) → g ≡ got.Bytes n → IsRead g bytes → All (λ b. b < 256) bytes → StandsFor table (heard bytes).processes → text ≡ more_characters (decoded x.coding (read_so_far x)) (decoded x.coding (read_so_far x ++ bytes)) → Takes s p x (got_answer bytes g) table text
  took_bytes g n bytes is read small stands came =
      let size = subst (λ a. IsRead a bytes) is read in
      let room : is_room bytes ≡ true = rw (le-leb 1 (length bytes) (omega (arith, size)), le-leb (length bytes) most_read (omega (arith, size)), all_bytes bytes small) refl in
      subst (λ a. Takes s p x a table text) (sym (ap (got_answer bytes) is ∙ ap Bytes (take_all n bytes size.0))) (takes_bytes bytes room stands came)

  -- the output has ended, or the read failed
  pub took_end : (g : Got) (bytes : List ℕ) → (g ≡ got.End) ⊎ (g ≡ got.Failed) → StandsFor table drained.processes → text ≡ more_characters (decoded x.coding (read_so_far x)) (all_decoded x.coding (read_so_far x)) → Takes s p x (got_answer bytes g) table text
  took_end g bytes (inl is) stands came = subst (λ a. Takes s p x a table text) (sym (ap (got_answer bytes) is)) (record {
    now = drained;
    stands = stands;
    apart = apart_alone (asked_more s) p (λ y. record y { drained = true });
    goes = λ w target rest. ap (λ t. Some (silent drained (entry_of s p x t (Wait w target ∷ rest)))) (sym came);
  })
  took_end g bytes (inr is) stands came = subst (λ a. Takes s p x a table text) (sym (ap (got_answer bytes) is)) (record {
    now = drained;
    stands = stands;
    apart = apart_alone (asked_more s) p (λ y. record y { drained = true });
    goes = λ w target rest. ap (λ t. Some (silent drained (entry_of s p x t (Wait w target ∷ rest)))) (sym came);
  })

  pub took_nothing : (g : Got) (bytes : List ℕ) → g ≡ got.Nothing → StandsFor table s.processes → text ≡ [] → Takes s p x (got_answer bytes g) table text
  took_nothing g bytes is stands came = subst (λ a. Takes s p x a table text) (sym (ap (got_answer bytes) is)) (record {
    now = asked_more s;
    stands = stands;
    apart = refl;
    goes = λ w target rest. ap (λ t. Some (silent (asked_more s) (entry_of s p x t (Wait w target ∷ rest)))) (sym came);
  })

-- and this is entered
pub entered : (s : State) (p : ℕ) (x : Process) (answer : Answer) (table : List Process) (text : List Ch) (e : Entry) → ((rest : List Item) → entry_of s p x text rest ≡ entering p e rest) → Takes s p x answer table text → Reads s p x answer table e
entered s p x answer table text e same t = record {
  now = t.now;
  stands = t.stands;
  apart = t.apart;
  goes = λ w target rest. t.goes w target rest ∙ ap (λ l. Some (silent t.now l)) (same (Wait (noted p (gave_bytes answer) w) target ∷ rest));
}

-- ENDS
module _ (s : State) (p : ℕ) (x : Process) (table : List Process) (e : Entry) where
  abbrev with_end : Status → State → State
  with_end status t = change_process p (with_status status) t

  abbrev EntersSentinel : List ℕ → Type 0
  EntersSentinel text = (rest : List Item) → entering p e rest ≡ Enter (OfSentinel p) x.sentinel (TheProcess p ∷ Str (bare (map Scalar text)) ∷ []) ∷ rest

  ends_so : (how : Ended) (status : Status) → ((w : Waiting) (target : Target) (rest : List Item) → end_answer s w target rest p x (ended_answer how) ≡ Some (ends (asked_more s) p x status (told_of how) (Wait w target ∷ rest))) → StandsFor table (with_end status (asked_more s)).processes → EntersSentinel (told_of how) → Ends s p x how table e
  ends_so how status by stands same = record {
    now = with_end status (asked_more s);
    stands = stands;
    apart = apart_alone (asked_more s) p (with_status status);
    goes = λ w target rest. by w target rest ∙ ap (λ l. Some (silent (with_end status (asked_more s)) l)) (sym (same (Wait w target ∷ rest)));
  }

  -- with the status that it has come to
  pub ended_as : (how : Ended) (status : Status) → Some status ≡ came_to how → StandsFor table (with_end status (asked_more s)).processes → EntersSentinel (told_of how) → Ends s p x how table e
  ended_as (ended.Code n) status is stands same = let is_exit : status ≡ Exited n = cc in ends_so (ended.Code n) (Exited n) (λ w target rest. refl) (subst (λ t. StandsFor table (with_end t (asked_more s)).processes) is_exit stands) same
  ended_as ended.Signal status is stands same = let is_signal : status ≡ Signalled = cc in ends_so ended.Signal Signalled (λ w target rest. refl) (subst (λ t. StandsFor table (with_end t (asked_more s)).processes) is_signal stands) same
  ended_as ended.Failed status is stands same = let is_lost : status ≡ Lost = cc in ends_so ended.Failed Lost (λ w target rest. refl) (subst (λ t. StandsFor table (with_end t (asked_more s)).processes) is_lost stands) same
  ended_as ended.Running status is stands same = cc

  pub deleted_as : (how : Ended) (status : Status) → how ≡ ended.Signal → Some status ≡ came_to how → StandsFor table (with_end status s).processes → EntersSentinel (told_of how) → Deletes s p x table e
  deleted_as how status is comes stands same =
      let both : Some status ≡ Some Signalled = comes ∙ ap came_to is in
      let is_signal : status ≡ Signalled = cc in
      let told = subst (λ h. EntersSentinel (told_of h)) is same in
      record {
        now = with_end Signalled s;
        stands = subst (λ t. StandsFor table (with_end t s).processes) is_signal stands;
        apart = apart_alone s p (with_status Signalled);
        goes = λ rest. ap (λ l. silent (with_end Signalled s) l) (sym (told rest));
      }

pub still_runs : (how : Ended) → None ≡ came_to how → how ≡ ended.Running
still_runs (ended.Code n) e = cc
still_runs ended.Signal e = cc
still_runs ended.Failed e = cc
still_runs ended.Running e = refl

pub running_goes : (s : State) (p : ℕ) (x : Process) (table : List Process) (how : Ended) → how ≡ ended.Running → StandsFor table s.processes → Ends s p x how table entry.None
running_goes s p x table how is stands = subst (λ h. Ends s p x h table entry.None) (sym is) (record {
  now = asked_more s;
  stands = stands;
  apart = refl;
  goes = λ w target rest. refl;
})
