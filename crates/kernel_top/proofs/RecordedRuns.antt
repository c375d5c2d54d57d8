-- Of a recorded run there is one replay.
use Rattle.std.proofs.Common.{◌≡◌, ℕ, List, inl, inr, refl, sym, subst}
use Rattle.text_model.specs.Fronts.{IsPrefixOf}
use Rattle.editor_model.specs.Values.{Script}
use Rattle.plain_machine.specs.Exchanges.{Exchange}
use Rattle.plain_machine.specs.State.{Program}
use Rattle.plain_machine.specs.WholeRuns.{Ran}
use Rattle.plain_machine.specs.Grammar.{IsScript}
use Rattle.ek_types.specs.Io.{SinkState}
use Rattle.script_read.proofs.Determined.{one_script}
use Rattle.journal_text.specs.Lines.{session}
use Rattle.journal_text.specs.Allowed.{IsJournal}
use Rattle.journal_laws.proofs.Replaying.{one_session, one_text}
use Rattle.kernel_steps.specs.Outside.{deepest}
use Rattle.kernel_steps.specs.Outcomes.{RanScript}
use Rattle.kernel_top.specs.Unseen.{IsWhole}
use Rattle.kernel_top.specs.Replaying.{OfReplay, CutsLines, StopsBetweenLines, Strays, IsUnwritten, Replayed}
use Rattle.kernel_top.specs.RecordedRuns.{IsReplayOf, RecordedRunsReplay}
use Rattle.kernel_top.specs.declared.status.Status.{Status}
use Rattle.kernel_top.specs.declared.status.Status.TheVariants as status

module _ (program : Script → Program) (script : Script) (exchanges : List Exchange) (bytes said : List ℕ) (journal : IsJournal exchanges) (is : IsScript bytes script) (ran : Ran (program script) deepest script exchanges said) where
  -- what is so of the journal and the script that are read is so of those that were written
  read_back : (So : List Exchange → Script → Type 0) → OfReplay (session exchanges bytes) So → So exchanges script
  read_back So r =
      let (read, script_is, so) = r.so in
      let same = one_session exchanges r.journal bytes r.bytes journal r.lines r.is in
      let one = one_script bytes read script (subst (λ l. IsScript l read) (sym same.scripts) script_is) is in
      subst (λ s. So exchanges s) one (subst (λ l. So l read) (sym same.journals) so)

  one_bytes : (others : List ℕ) → Ran (program script) deepest script exchanges others → others ≡ said
  one_bytes others other = one_text (program script) deepest script exchanges said others ran other

  cut : (written : List ℕ) (before now : SinkState) → CutsLines (program script) script exchanges written before now → IsPrefixOf written said
  cut written before now c = subst (λ l. IsPrefixOf written l) (one_bytes c.whole.lines c.whole.ran) c.front

  whole : IsWhole (program script) script exchanges
  whole = record { lines = said; ran = ran }

  replayed_so : (answer : Status) (written : List ℕ) (before now : SinkState) → Replayed program answer (session exchanges bytes) written before now → IsReplayOf said answer written
  replayed_so status.Done written before now r = one_bytes written (read_back (λ list s. RanScript (program s) s list written before now) r).ran
  replayed_so status.WriteFault written before now r = cut written before now (read_back (λ list s. CutsLines (program s) s list written before now) r)
  replayed_so status.NoMemory written before now (inl none) = rw none.0 (said, refl)
  replayed_so status.NoMemory written before now (inr r) = cut written before now (read_back (λ list s. StopsBetweenLines (program s) s list written before now) r).cut
  replayed_so (status.Journal line) written before now r = r.1.none exchanges bytes journal refl
  replayed_so (status.Script line) written before now r =
      let same = one_session exchanges r.1.journal bytes r.1.bytes journal r.1.lines r.1.is in
      r.1.so.none script (subst (λ l. IsScript l script) same.scripts is)
  replayed_so (status.Strayed most) written before now r = (read_back (λ list s. IsUnwritten written before now × Strays (program s) s list most) r).1.unended whole
  replayed_so (status.Differs line) written before now r = r.so.2
  replayed_so status.Usage written before now r = r.so.2
  replayed_so status.ReadFault written before now r = r.so.2
  replayed_so status.JournalFull written before now r = r.so.2
  replayed_so status.SessionFull written before now r = r.so.2

pub recorded_runs_replay : (program : Script → Program) → RecordedRunsReplay program
recorded_runs_replay program script read bytes exchanges before now is recorded answer written before' now' r =
    replayed_so program script exchanges read recorded.whole.lines recorded.lines is recorded.whole.ran answer written before' now'
    (subst (λ l. Replayed program answer l written before' now') recorded.session.whole.is r)
