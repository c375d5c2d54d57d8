-- What the functions of a replay come to.
use Rattle.std.proofs.Common.{◌≡◌, ℕ, ◌<◌, ◌≤◌, ◌-◌, List, [], ◌∷◌, ◌++◌, length, take, drop, Result, Ok, Err, inl, inr, refl, ap, subst, arith, length-append, codes}
use Rattle.std.proofs.lemmas.List.{take_all, length-drop}
use Rattle.std.specs.Io.KnownBytes.{Appends}
use Rattle.editor_model.specs.Values.{Script}
use Rattle.plain_machine.specs.Exchanges.{Exchange}
use Rattle.plain_machine.specs.State.{State, Program}
use Rattle.plain_machine.specs.Grammar.{IsScript}
use Rattle.ek_types.specs.Io.{SourceState, SinkState}
use Rattle.journal_text.specs.Lines.{ask_words, answer_words, line, journal, longest_session}
use Rattle.journal_text.specs.Allowed.{AreAnswered}
use Rattle.journal_text.specs.Journals.{IsReadTo}
use Rattle.journal_text.specs.Replayed.{ReplayState, host_state, new_replay, Replays}
use Rattle.kernel_steps.specs.HostCalls.{CallsSince}
use Rattle.kernel_steps.specs.Outcomes.{EndsAs}
use Rattle.kernel_steps.specs.declared.stop.Stop.{Stop}
use Rattle.kernel_steps.specs.declared.stop.Stop.TheVariants as stop
use Rattle.kernel_top.specs.Reading.{IsAll, IsGivenUp}
use Rattle.kernel_top.specs.Scripts.{TellsNoScript}
use Rattle.kernel_top.specs.Unseen.{IsWhole}
use Rattle.kernel_top.specs.Replaying.{Followed, IsUnreadSession, ReplayedOn, Replayed, SourceSettled, LeavesSessionUnread}
use Rattle.kernel_top.specs.Outcomes.{status_of}
use Rattle.kernel_top.specs.declared.reading.Refused.{Refused}
use Rattle.kernel_top.specs.declared.reading.Refused.TheVariants as refused
use Rattle.kernel_top.specs.declared.status.Status.{Status}
use Rattle.kernel_top.specs.declared.status.Status.TheVariants as status
use Rattle.kernel_top.proofs.Strayed.{ran_journal, cuts_journal, breaks_journal}

-- the calls of a host that was new
pub calls_of_new : (old now : ReplayState) (exchanges : List Exchange) → old ≡ new_replay old.list → CallsSince host_state Replays old now exchanges → CallsSince host_state Replays (new_replay old.list) now exchanges
calls_of_new old now exchanges fresh calls = subst (λ h. CallsSince host_state Replays h now exchanges) fresh calls

-- THE SECOND RUN
module _ (program : Program) (script : Script) (list : List Exchange) where
  pub replayed_on : {T : Type 0} (r : Result T Stop) (now : ReplayState) (exchanges : List Exchange) (written : List ℕ) (before after : SinkState) (left : State) → AreAnswered 0 list →
      CallsSince host_state Replays (new_replay list) now exchanges → IsWhole program script list → EndsAs r program script exchanges written before after left → ReplayedOn program (status_of r) script list written before after
  replayed_on (Ok x) now exchanges written before after left answered calls whole (ran, last) = ran_journal program script list now exchanges written before after answered calls whole ran
  replayed_on (Err stop.WriteFault) now exchanges written before after left answered calls whole stopped = cuts_journal program script list stop.WriteFault now exchanges written before after answered calls whole stopped
  replayed_on (Err stop.NoMemory) now exchanges written before after left answered calls whole stopped = inr (breaks_journal program script list now exchanges written before after answered calls whole stopped)

  -- the first run refused it
  pub refused_on : (answer : Status) (sink : SinkState) → Followed (Err answer) program script list → ReplayedOn program answer script list [] sink sink
  refused_on status.NoMemory sink so = inl (refl, refl)
  refused_on (status.Strayed most) sink so = ((refl, refl), so)
  refused_on status.Done sink so = absurd so
  refused_on (status.Differs line) sink so = absurd so
  refused_on status.Usage sink so = absurd so
  refused_on (status.Script line) sink so = absurd so
  refused_on status.ReadFault sink so = absurd so
  refused_on status.WriteFault sink so = absurd so
  refused_on (status.Journal line) sink so = absurd so
  refused_on status.JournalFull sink so = absurd so
  refused_on status.SessionFull sink so = absurd so

  pub no_write_fault : (answer : Status) → Followed (Err answer) program script list → answer ≡ status.WriteFault → ⊥
  no_write_fault answer so e = subst (λ a. Followed (Err a) program script list) e so

-- THE BYTES
pub no_read_fault : (program : Script → Program) (answer : Status) (read written : List ℕ) (before now : SinkState) → Replayed program answer read written before now → answer ≡ status.ReadFault → ⊥
no_read_fault program answer read written before now so e =
    let row : Replayed program status.ReadFault read written before now = subst (λ a. Replayed program a read written before now) e so in
    row.so.2

-- a journal has no more exchanges than bytes
pub few_lines : (list : List Exchange) → length list ≤ length (journal list)
few_lines [] = omega arith
few_lines (x ∷ list) =
    let ending : List ℕ = codes " -> " ++ (answer_words x.answer ++ 10 ∷ []) in
    omega (arith, few_lines list, length-append (line x) (journal list), length-append (ask_words x.ask) ending, length-append (codes " -> ") (answer_words x.answer ++ 10 ∷ []), length-append (answer_words x.answer) (10 ∷ []))

pub few_exchanges : (bytes : List ℕ) (list : List Exchange) (at : ℕ) → IsReadTo bytes list at → length bytes ≤ longest_session → length list ≤ longest_session
few_exchanges bytes list at to short =
    omega (arith, short, few_lines list, ap length to.whole, length-append (journal list) (codes "script\n" ++ drop at bytes))

-- the bytes from a place on, as a slice has them
pub rest_is : (bytes : List ℕ) (at : ℕ) → take (length bytes - at) (drop at bytes) ≡ drop at bytes
rest_is bytes at = take_all (length bytes - at) (drop at bytes) (omega (arith, length-drop at bytes))

-- the script of a session was replayed
pub replayed_bytes : (program : Script → Program) (script : Script) (answer : Status) (read : List ℕ) (journal : List Exchange) (at : ℕ) (written : List ℕ) (before now : SinkState) →
    IsReadTo read journal at → IsScript (drop at read) script → ReplayedOn (program script) answer script journal written before now → Replayed program answer read written before now
replayed_bytes program script status.Done read journal at written before now to is so = record { journal = journal; bytes = drop at read; lines = to.lines; is = to.whole; so = (script, is, so) }
replayed_bytes program script status.WriteFault read journal at written before now to is so = record { journal = journal; bytes = drop at read; lines = to.lines; is = to.whole; so = (script, is, so) }
replayed_bytes program script status.NoMemory read journal at written before now to is (inl nothing) = inl nothing
replayed_bytes program script status.NoMemory read journal at written before now to is (inr so) = inr (record { journal = journal; bytes = drop at read; lines = to.lines; is = to.whole; so = (script, is, so) })
replayed_bytes program script (status.Strayed most) read journal at written before now to is so = record { journal = journal; bytes = drop at read; lines = to.lines; is = to.whole; so = (script, is, so) }
replayed_bytes program script (status.Differs line) read journal at written before now to is so = absurd so
replayed_bytes program script status.Usage read journal at written before now to is so = absurd so
replayed_bytes program script (status.Script line) read journal at written before now to is so = absurd so
replayed_bytes program script status.ReadFault read journal at written before now to is so = absurd so
replayed_bytes program script (status.Journal line) read journal at written before now to is so = absurd so
replayed_bytes program script status.JournalFull read journal at written before now to is so = absurd so
replayed_bytes program script status.SessionFull read journal at written before now to is so = absurd so

-- behind the journal there is no script
pub unscripted : (program : Script → Program) (answer : Status) (read : List ℕ) (journal : List Exchange) (at : ℕ) (sink : SinkState) → IsReadTo read journal at → TellsNoScript answer (drop at read) → Replayed program answer read [] sink sink
unscripted program (status.Script line) read journal at sink to none = ((refl, refl), record { journal = journal; bytes = drop at read; lines = to.lines; is = to.whole; so = none })
unscripted program status.NoMemory read journal at sink to none = inl (refl, refl)
unscripted program status.Done read journal at sink to none = absurd none
unscripted program status.Usage read journal at sink to none = absurd none
unscripted program status.ReadFault read journal at sink to none = absurd none
unscripted program status.WriteFault read journal at sink to none = absurd none
unscripted program (status.Journal line) read journal at sink to none = absurd none
unscripted program status.JournalFull read journal at sink to none = absurd none
unscripted program (status.Strayed most) read journal at sink to none = absurd none
unscripted program (status.Differs line) read journal at sink to none = absurd none
unscripted program status.SessionFull read journal at sink to none = absurd none

-- THE SOURCE
module _ (So : Status → (read written : List ℕ) → (before now : SinkState) → Type 0) (answer : Status) (source source' : SourceState) where
  pub source_settled : (bytes written : List ℕ) (sink sink' : SinkState) → IsAll longest_session bytes source source' → Appends sink.held sink'.held written → So answer bytes written sink sink' → SourceSettled So answer source source' sink sink'
  source_settled bytes written sink sink' all put so = record {
    read = bytes;
    written = written;
    taken = all.taken;
    few = omega (arith, all.short);
    put = put;
    so = inl (all.ended, all.short, so);
  }

  pub source_unread : (sink : SinkState) → LeavesSessionUnread answer source source' → Appends sink.held sink.held [] → SourceSettled So answer source source' sink sink
  source_unread sink none nothing = record {
    read = none.read;
    written = [];
    taken = none.taken;
    few = none.few;
    put = nothing;
    so = inr ((refl, refl), none.unread);
  }

-- why they weren't had, as a status
pub no_session : (answer : Status) (why : Refused) (source source' : SourceState) → IsGivenUp longest_session why source source' → ((bytes : List ℕ) → (why ≡ refused.TooLong → longest_session < length bytes) → IsUnreadSession answer bytes) → LeavesSessionUnread answer source source'
no_session answer why source source' given_up row = record { read = given_up.bytes; taken = given_up.taken; few = given_up.few; unread = row given_up.bytes given_up.long }

pub unread_no_fault : (answer : Status) (read : List ℕ) → IsUnreadSession answer read → answer ≡ status.WriteFault → ⊥
unread_no_fault answer read so e = by (subst (λ a. IsUnreadSession a read) e so)
  where
    by : IsUnreadSession status.WriteFault read → ⊥
    by never = never
