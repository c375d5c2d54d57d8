-- What the calls of a host that says of each exchange that it has a line come to.
use Rattle.std.proofs.Common.{◌≡◌, ℕ, ◌+◌, ◌≤◌, Bool, List, [], ◌∷◌, length, ap, subst, ◌∙◌, arith}
use Rattle.std.specs.Prelude.{Result, Ok, Err, OnOk}
use Rattle.std.proofs.lemmas.List.{length-append, length-set}
use Rattle.editor_model.specs.Values.{Script}
use Rattle.plain_machine.specs.State.{Program}
use Rattle.plain_machine.specs.Exchanges.{Ask, Answer, Exchange, Spawn, Read, AskEnd, Send, Close, Kill, Started, Refused, started_by, most_read}
use Rattle.host_link.specs.Hosts.{HostState}
use Rattle.host_link.specs.Played.{kills_after}
use Rattle.journal_text.specs.Allowed.{IsAnswerTo, AreLines}
use Rattle.journal_text.specs.Lined.{HandsLine}
use Rattle.journal_text.specs.declared.lined.LinedHost.{LinedHost}
use Rattle.kernel_steps.specs.Outside.{deepest}
use Rattle.kernel_steps.specs.HostCalls.{room_of, CallsSince}
use Rattle.kernel_top.specs.Unseen.{RanUnseen}
use Rattle.journal_laws.specs.Spoken.{AreSpoken}
use Rattle.journal_laws.proofs.Spoken.{asks_are_spoken}

small_room : (ask : Ask) → room_of ask ≤ most_read
small_room (Read child) = omega arith
small_room _ = omega arith

-- the number of the next child is how many were started
next_is : (next : ℕ) (kills : List Bool) (ask : Ask) (answer : Answer) → IsAnswerTo next ask answer → length (kills_after kills ask answer) ≡ length kills + length (started_by answer)
next_is next kills (Spawn program args) (Started child) h = length-append kills _
next_is next kills (Spawn program args) Refused h = omega arith
next_is next kills (Spawn program args) _ h = absurd h
next_is next kills (Read child) (Started c) h = absurd h
next_is next kills (Read child) _ h = omega arith
next_is next kills (AskEnd child) (Started c) h = absurd h
next_is next kills (AskEnd child) _ h = omega arith
next_is next kills (Send child bytes) (Started c) h = absurd h
next_is next kills (Send child bytes) _ h = omega arith
next_is next kills (Close child) (Started c) h = absurd h
next_is next kills (Close child) _ h = omega arith
next_is next kills (Kill child) (Started c) h = absurd h
next_is next kills (Kill child) _ h = omega (arith, length-set kills child)

pub record HandedLines {H : Type 0} (state : H → HostState) (made : H → H → Ask → ℕ → Answer → Type 0) (start now : LinedHost H) (exchanges : List Exchange) : Type 0 where
  pub calls : CallsSince state made start.inner.now now.inner.now exchanges
  pub lines : AreSpoken exchanges → AreLines (length (state start.inner.now).kills) exchanges
  pub same : now.inner.ghost_name ≡ start.inner.ghost_name

pub handed_lines : {H : Type 0} (state : H → HostState) (made : H → H → Ask → ℕ → Answer → Type 0) (start now : LinedHost H) (exchanges : List Exchange) →
    CallsSince (λ h. state h.inner.now) (HandsLine state made) start now exchanges → HandedLines state made start now exchanges
handed_lines state made start now [] calls = record { calls = ap (λ h. h.inner.now) calls; lines = λ spoken. tt; same = ap (λ h. h.inner.ghost_name) calls }
handed_lines state made start now (x ∷ exchanges) (next, call, rest) =
    let more = handed_lines state made next now exchanges rest in
    let kills = (state start.inner.now).kills in
    record {
      calls = (next.inner.now, record { own = call.own.once; number = call.number; exchanged = call.exchanged }, more.calls);
      lines = λ spoken.
          let one = call.own.line (small_room x.ask) spoken.0 in
          (one, subst (λ n. AreLines n exchanges) (ap length call.exchanged.kills ∙ next_is (length kills) kills x.ask x.answer one.allowed) (more.lines spoken.1));
      same = more.same ∙ call.own.same_reference;
    }

-- what a whole run asks can be written
pub whole_lines : {T E : Type 0} (r : Result T E) (program : Program) (script : Script) (next : ℕ) (exchanges : List Exchange) → RanUnseen r program script exchanges → (AreSpoken exchanges → AreLines next exchanges) →
    OnOk r (AreLines next exchanges)
whole_lines (Ok x) program script next exchanges whole lines = lines (asks_are_spoken program deepest script exchanges whole.ran.said whole.ran.last whole.ran.run)
whole_lines (Err e) program script next exchanges why lines = tt
