-- What the word `record` comes to.
use Rattle.std.proofs.Common.{◌≡◌, ℕ, List, [], ◌++◌, length, Some, None, inl, inr, refl, ap, subst, ◌∙◌, option_map}
use Rattle.std.specs.Prelude.{◌⊎◌}
use Rattle.editor_model.specs.Values.{Script}
use Rattle.plain_machine.specs.Exchanges.{Ask, Answer, Exchange}
use Rattle.plain_machine.specs.State.{Program}
use Rattle.plain_machine.specs.Grammar.{IsScript}
use Rattle.ek_types.specs.Io.{SourceState, SinkState}
use Rattle.host_link.specs.Hosts.{HostState}
use Rattle.journal_text.specs.Lines.{session}
use Rattle.journal_text.specs.Allowed.{AreLines}
use Rattle.kernel_steps.specs.HostCalls.{CallsSince}
use Rattle.kernel_steps.proofs.HostCalls.{calls_told}
use Rattle.kernel_top.specs.Reading.{HasEnded}
use Rattle.kernel_top.specs.Unseen.{IsWhole, IsBrokenOff}
use Rattle.kernel_top.specs.Sessions.{Written}
use Rattle.kernel_top.specs.Outcomes.{Seen, seen, OnRecord}
use Rattle.kernel_top.specs.declared.status.Status.{Status}
use Rattle.kernel_top.specs.declared.status.Status.TheVariants as status

module _ {H : Type 0} (hosted : H → HostState) (made : H → H → Ask → ℕ → Answer → Type 0) (start now : H) (exchanges : List Exchange) where
  -- a host that has told nothing before tells just the exchanges
  pub told_all : (list : List Exchange) → CallsSince hosted made start now exchanges → (hosted start).told ≡ Some [] → Some list ≡ (hosted now).told → list ≡ exchanges
  told_all list calls fresh is =
      let all : Some list ≡ Some exchanges = is ∙ calls_told hosted made start now exchanges calls ∙ ap (option_map (λ l. l ++ exchanges)) fresh in
      cc

  pub tells_still : {A : Type 0} → CallsSince hosted made start now exchanges → (hosted start).told ≡ Some [] → None ≡ (hosted now).told → A
  tells_still calls fresh is =
      let no : None ≡ Some exchanges = is ∙ calls_told hosted made start now exchanges calls ∙ ap (option_map (λ l. l ++ exchanges)) fresh in
      absurd cc

-- a session that is written is no read
pub no_read_fault : (answer : Status) (bytes written : List ℕ) (before now : SinkState) → Written answer bytes written before now → answer ≡ status.ReadFault → ⊥
no_read_fault answer bytes written before now so e = subst (λ a. Written a bytes written before now) e so

module _ (program : Script → Program) (script : Script) where
  -- nothing was asked, or the run was broken off
  pub broke_off : {H : Type 0} (hosted : H → HostState) (made : H → H → Ask → ℕ → Answer → Type 0) (start now : H) (read : List ℕ) (exchanges : List Exchange) (source source' : SourceState) (sink : SinkState) →
      HasEnded source.left source'.left → IsScript read script → CallsSince hosted made start now exchanges → (exchanges ≡ []) ⊎ IsBrokenOff (program script) script exchanges →
      OnRecord program status.NoMemory read [] exchanges (seen source sink (hosted start)) (seen source' sink (hosted now))
  broke_off hosted made start now read exchanges source source' sink ended is calls (inl none) =
      let same : now ≡ start = subst (CallsSince hosted made start now) none calls in
      inl (record { nothing = refl; alone = none; sink = refl; host = ap hosted same })
  broke_off hosted made start now read exchanges source source' sink ended is calls (inr broken) =
      inr (record { ended = ended; script = script; is = is; so = record { broken = broken; nothing = refl; same = refl } })

  -- the run came to its end, and this became of its session
  pub recorded : (read written : List ℕ) (exchanges : List Exchange) (before now : Seen) (answer : Status) →
      HasEnded before.source.left now.source.left → IsScript read script → IsWhole (program script) script exchanges → AreLines (length before.host.kills) exchanges → Written answer (session exchanges read) written before.sink now.sink →
      OnRecord program answer read written exchanges before now
  recorded read written exchanges before now status.Done ended is whole lines row = record { ended = ended; script = script; is = is; so = record { whole = whole; lines = lines; session = row } }
  recorded read written exchanges before now status.WriteFault ended is whole lines row = record { ended = ended; script = script; is = is; so = record { whole = whole; lines = lines; session = row } }
  recorded read written exchanges before now status.JournalFull ended is whole lines row = record { ended = ended; script = script; is = is; so = record { whole = whole; lines = lines; session = row } }
  recorded read written exchanges before now (status.Journal line) ended is whole lines row = absurd row
  recorded read written exchanges before now (status.Strayed most) ended is whole lines row = absurd row
  recorded read written exchanges before now (status.Differs line) ended is whole lines row = absurd row
  recorded read written exchanges before now status.SessionFull ended is whole lines row = absurd row
  recorded read written exchanges before now status.Usage ended is whole lines row = absurd row
  recorded read written exchanges before now (status.Script line) ended is whole lines row = absurd row
  recorded read written exchanges before now status.ReadFault ended is whole lines row = absurd row
  recorded read written exchanges before now status.NoMemory ended is whole lines row = absurd row
