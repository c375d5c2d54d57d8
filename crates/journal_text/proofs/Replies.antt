-- What a list of exchanges answers.
use Rattle.std.proofs.Common.{◌≡◌, ℕ, zero, suc, ◌+◌, ◌<◌, ◌≤◌, ◌^◌, Bool, true, false, not, List, [], ◌∷◌, ◌++◌, length, take, Some, refl, ap, sym, subst, ◌∙◌, arith, slice_get}
use Rattle.std.specs.Prelude.{if◌then◌else◌, IsTrue}
use Rattle.ek_types.specs.Io.{next_count, HasCause}
use Rattle.std.proofs.lemmas.List.{length-append}
use Rattle.std.proofs.lemmas.Option.{slice_get_within}
use Rattle.plain_machine.specs.Exchanges.{Ask, Answer, Exchange, Spawn, Read, AskEnd, Send, Close, Kill, Started, Refused, Bytes, Nothing, End, Code, Signal, Running, Sent, Broken, Closed, Killed, Failed, children_started, started_by}
use Rattle.host_link.specs.declared.host.Spawned.{Spawned}
use Rattle.host_link.specs.declared.host.Spawned.TheVariants as spawned
use Rattle.host_link.specs.Hosts.{spawned_answer, is_fault, faults_after, IsNumbered, Exchanged}
use Rattle.host_link.specs.Played.{kills_after}
use Rattle.host_link.specs.Logged.{due_by}
use Rattle.journal_text.specs.Allowed.{IsAnswerTo, IsSpawned, AreAnswered, next_after}
use Rattle.journal_text.specs.Replayed.{ReplayState, HasRoom, IsReply, Replied, Replays, started_in, stray_answer, after_exchange, host_state}

started_more : (x : Exchange) (list : List Exchange) → length (children_started (x ∷ list)) ≡ length (started_by x.answer) + length (children_started list)
started_more x list = length-append (started_by x.answer) (children_started list)

answered_at : (next : ℕ) (list : List Exchange) (i : ℕ) (x : Exchange) → AreAnswered next list → slice_get list i ≡ Some x → IsAnswerTo (next + started_in i list) x.ask x.answer
answered_at next [] i x h e = absurd (let k = e in cc)
answered_at next (y ∷ list) zero x h e =
    let none : next ≡ next + 0 = omega arith in
    let same : y ≡ x = let k = e in cc in
    subst (λ (z : Exchange). IsAnswerTo (next + 0) z.ask z.answer) same (subst (λ n. IsAnswerTo n y.ask y.answer) none h.0)
answered_at next (y ∷ list) (suc i) x h e =
    let counted : next_after next y + started_in i list ≡ next + started_in (suc i) (y ∷ list) = omega (arith, started_more y (take i list)) in
    subst (λ n. IsAnswerTo n x.ask x.answer) counted (answered_at (next_after next y) list i x h.1 e)

started_one_more : (list : List Exchange) (i : ℕ) (x : Exchange) → slice_get list i ≡ Some x → started_in (suc i) list ≡ started_in i list + length (started_by x.answer)
started_one_more [] i x e = absurd (let k = e in cc)
started_one_more (y ∷ list) zero x e =
    let same : y ≡ x = let k = e in cc in
    subst (λ (z : Exchange). started_in 1 (y ∷ list) ≡ 0 + length (started_by z.answer)) same (omega (arith, started_more y []))
started_one_more (y ∷ list) (suc i) x e =
    omega (arith, started_more y (take (suc i) list), started_more y (take i list), started_one_more list i x e)

stray_allowed : (next : ℕ) (ask : Ask) → IsAnswerTo next ask (stray_answer ask)
stray_allowed next (Spawn program args) = tt
stray_allowed next (Read child) = tt
stray_allowed next (AskEnd child) = tt
stray_allowed next (Send child bytes) = tt
stray_allowed next (Close child) = tt
stray_allowed next (Kill child) = tt

stray_fits : (room : ℕ) (ask : Ask) → HasRoom room (stray_answer ask)
stray_fits room (Spawn program args) = tt
stray_fits room (Read child) = tt
stray_fits room (AskEnd child) = tt
stray_fits room (Send child bytes) = tt
stray_fits room (Close child) = tt
stray_fits room (Kill child) = tt

stray_starts_none : (ask : Ask) → started_by (stray_answer ask) ≡ []
stray_starts_none (Spawn program args) = refl
stray_starts_none (Read child) = refl
stray_starts_none (AskEnd child) = refl
stray_starts_none (Send child bytes) = refl
stray_starts_none (Close child) = refl
stray_starts_none (Kill child) = refl

pub replied : (strayed : Bool) (list : List Exchange) (at : ℕ) (ask : Ask) (room : ℕ) (follows : Bool) (matched : ℕ) (answer : Answer)
    → AreAnswered 0 list → at ≤ length list → IsReply strayed list at ask room follows answer → matched ≡ (if follows then at + 1 else at) → Replied strayed list at ask room follows matched answer
replied strayed list at ask room true matched answer h within reply e =
    let (x, agrees, same) = reply in
    let none : 0 + started_in at list ≡ started_in at list = omega arith in
    let next : suc at ≡ matched = omega (arith, e) in
    let of_ask = subst (λ a. IsAnswerTo (0 + started_in at list) a x.answer) agrees.same (answered_at 0 list at x h agrees.next) in
    record {
      reply = reply;
      matched_is = e;
      within = omega (arith, slice_get_within list at x agrees.next, e);
      allowed = subst (λ n. IsAnswerTo n ask answer) none (subst (λ a. IsAnswerTo (0 + started_in at list) ask a) (sym same) of_ask);
      fits = subst (HasRoom room) (sym same) agrees.fits;
      started = subst (λ n. started_in n list ≡ started_in at list + length (started_by answer)) next (started_one_more list at x agrees.next ∙ ap (λ a. started_in at list + length (started_by a)) (sym same));
    }
replied strayed list at ask room false matched answer h within reply e =
    let none : length (started_by answer) ≡ 0 = ap (λ a. length (started_by a)) reply.1 ∙ ap length (stray_starts_none ask) in
    record {
      reply = reply;
      matched_is = e;
      within = omega (arith, within, e);
      allowed = subst (IsAnswerTo (started_in at list) ask) (sym reply.1) (stray_allowed (started_in at list) ask);
      fits = subst (HasRoom room) (sym reply.1) (stray_fits room ask);
      started = ap (λ n. started_in n list) e ∙ (let k : started_in at list ≡ started_in at list + length (started_by answer) = omega (arith, none) in k);
    }

-- only a spawn starts a child
pub none_started : (P : Answer → Type 0) → ((child : ℕ) → P (Started child) → ⊥) → (answer : Answer) → P answer → length (started_by answer) ≡ 0
none_started P never (Started child) h = absurd (never child h)
none_started P never Refused h = refl
none_started P never (Bytes bytes) h = refl
none_started P never Nothing h = refl
none_started P never End h = refl
none_started P never (Code code) h = refl
none_started P never Signal h = refl
none_started P never Running h = refl
none_started P never Sent h = refl
none_started P never Broken h = refl
none_started P never Closed h = refl
none_started P never Killed h = refl
none_started P never Failed h = refl

pub started_due : (s : Spawned) (answer : Answer) → spawned_answer s ≡ answer → length (started_by answer) ≡ due_by s
started_due (spawned.Started child) answer e = ap (λ a. length (started_by a)) (sym e)
started_due spawned.Refused answer e = ap (λ a. length (started_by a)) (sym e)

-- the child that is started has the next number
pub numbered : (s : Spawned) (answer : Answer) (next n : ℕ) → spawned_answer s ≡ answer → IsSpawned next answer → next ≡ n → IsNumbered n s
numbered (spawned.Started child) answer next n e h k = subst (IsSpawned next) (sym e) h ∙ k
numbered spawned.Refused answer next n e h k = tt

-- the host after an exchange, by its parts; `o` is what it was
pub replay_after : (o s : ReplayState) (follows : Bool) (ask : Ask) (answer reply : Answer) (asked : Ask) (matched : ℕ) (strayed : Bool) (kills : List Bool) (faults : ℕ) (told : List Exchange)
    → o ≡ s → ask ≡ asked → answer ≡ reply → matched ≡ (if follows then o.matched + 1 else o.matched) → strayed ≡ not follows → kills ≡ kills_after o.kills asked reply
    → faults ≡ faults_after answer o.faults → told ≡ o.told ++ record { ask = ask; answer = answer } ∷ []
    → (let r : ReplayState = record { list = o.list; matched = matched; strayed = strayed; kills = kills; faults = faults; told = told } in r) ≡ after_exchange s follows asked reply
replay_after o s follows ask answer reply asked matched strayed kills faults told same as_ask as_reply as_matched as_strayed as_kills as_faults as_told =
    rw (← same, ← as_ask, ← as_reply, as_matched, as_strayed, as_faults, as_told) (rw (as_kills, as_ask, as_reply) refl)

counted : (faults : ℕ) (failed : Bool) → faults < 2 ^ 64 → HasCause faults (if failed then next_count faults else faults) (IsTrue failed)
counted faults true small = record { later = omega arith; rose = λ h. omega arith }
counted faults false small = record { later = omega arith; rose = λ h. absurd (let k = h in cc) }

-- seen from outside
pub exchanged : (s t : ReplayState) (ask : Ask) (room : ℕ) (answer : Answer) (children : List Bool) → s.faults < 2 ^ 64 → Replays s t ask room answer → children ≡ kills_after s.kills ask answer → Exchanged (host_state s) (host_state t) children ask answer
exchanged s t ask room answer children small made e = record {
  told = ap (λ (r : ReplayState). Some r.told) made.after;
  kills = ap (λ (r : ReplayState). r.kills) made.after ∙ sym e;
  cause = subst (λ n. HasCause s.faults n (IsTrue (is_fault answer))) (sym (ap (λ (r : ReplayState). r.faults) made.after)) (counted s.faults (is_fault answer) small);
}
