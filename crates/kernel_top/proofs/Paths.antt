-- How a host that replays a journal goes through it.
use Rattle.std.proofs.Common.{◌≡◌, ℕ, ◌+◌, Bool, true, false, List, [], ◌∷◌, ◌++◌, length, Some, None, refl, sym, ap, subst, ◌∙◌, arith, append_assoc, length-append}
use Rattle.std.specs.Prelude.{slice_get}
use Rattle.plain_machine.specs.Exchanges.{Ask, Answer, Exchange, Spawn, Read, AskEnd, Send, Close, Kill, Started, Bytes, Code, Refused, Nothing, End, Signal, Running, Sent, Broken, Closed, Killed, Failed}
use Rattle.journal_text.specs.Allowed.{IsAnswerTo, AreAnswered, next_after}
use Rattle.journal_text.specs.Replayed.{ReplayState, host_state, HasRoom, Agrees, IsReply, after_exchange, Replays}
use Rattle.kernel_steps.specs.HostCalls.{room_of, CallsSince}

-- the exchange that comes next in a journal isn't this ask's
abbrev pub Differs : Exchange → (rest : List Exchange) → Type 0
Differs x rest = (y : Exchange) (more : List Exchange) → rest ≡ y ∷ more → y.ask ≡ x.ask → HasRoom (room_of x.ask) y.answer → ⊥

-- the exchanges are the next ones of what is left of a journal; or they are up to one that strays
pub data Path (start now : ReplayState) (left exchanges : List Exchange) : Type 0 where
  follows : (rest : List Exchange) → left ≡ exchanges ++ rest → now.strayed ≡ false → now.matched ≡ start.matched + length exchanges → Path start now left exchanges
  strays : (front : List Exchange) (x : Exchange) (behind rest : List Exchange) → exchanges ≡ front ++ x ∷ behind → left ≡ front ++ rest → Differs x rest →
      now.strayed ≡ true → now.matched ≡ start.matched + length front → Path start now left exchanges

at_end : (done : List Exchange) → slice_get (done ++ []) (length done) ≡ None
at_end [] = refl
at_end (x ∷ done) = at_end done

at_next : (done more : List Exchange) (y : Exchange) → slice_get (done ++ y ∷ more) (length done) ≡ Some y
at_next [] more y = refl
at_next (x ∷ done) more y = at_next done more y

-- a host that has strayed follows nothing more
still_strayed : (old next : ReplayState) (x : Exchange) (room : ℕ) → old.strayed ≡ true → Replays old next x.ask room x.answer → (next.strayed ≡ true) × (next.matched ≡ old.matched)
still_strayed old next x room gone own = by own.follows own.reply own.after
  where
    by : (follows : Bool) → IsReply old.strayed old.list old.matched x.ask room follows x.answer → next ≡ after_exchange old follows x.ask x.answer → (next.strayed ≡ true) × (next.matched ≡ old.matched)
    by true (y, agrees, is) after = absurd (let no : true ≡ false = sym gone ∙ agrees.on in cc)
    by false reply after = (ap (λ (s : ReplayState). s.strayed) after, ap (λ (s : ReplayState). s.matched) after)

stays_strayed : (old now : ReplayState) (exchanges : List Exchange) → old.strayed ≡ true → CallsSince host_state Replays old now exchanges → (now.strayed ≡ true) × (now.matched ≡ old.matched)
stays_strayed old now [] gone calls = (ap (λ (s : ReplayState). s.strayed) calls ∙ gone, ap (λ (s : ReplayState). s.matched) calls)
stays_strayed old now (x ∷ exchanges) gone (next, call, rest) =
    let first = still_strayed old next x (room_of x.ask) gone call.own in
    let more = stays_strayed next now exchanges first.0 rest in
    (more.0, more.1 ∙ first.1)

-- the journal stays as it is
pub list_kept : (old now : ReplayState) (exchanges : List Exchange) → CallsSince host_state Replays old now exchanges → now.list ≡ old.list
list_kept old now [] calls = ap (λ (s : ReplayState). s.list) calls
list_kept old now (x ∷ exchanges) (next, call, rest) = list_kept next now exchanges rest ∙ ap (λ (s : ReplayState). s.list) call.own.after

-- one exchange more in front of a path
followed_first : (start next now : ReplayState) (x : Exchange) (more exchanges : List Exchange) → next.matched ≡ start.matched + 1 → Path next now more exchanges → Path start now (x ∷ more) (x ∷ exchanges)
followed_first start next now x more exchanges one (follows rest is on count) =
    follows rest (ap (λ l. x ∷ l) is) on (omega (arith, count, one))
followed_first start next now x more exchanges one (strays front z behind rest is left differs gone count) =
    strays (x ∷ front) z behind rest (ap (λ l. x ∷ l) is) (ap (λ l. x ∷ l) left) differs gone (omega (arith, count, one))

-- the way on from the next exchange of a journal
abbrev Behind : (done : List Exchange) → Exchange → (next now : ReplayState) → (exchanges : List Exchange) → Type 0
Behind done x next now exchanges =
    (more : List Exchange) → next.list ≡ (done ++ x ∷ []) ++ more → length (done ++ x ∷ []) ≡ next.matched → next.strayed ≡ false → Path next now more exchanges

pub path : (done left exchanges : List Exchange) (start now : ReplayState) → start.list ≡ done ++ left → length done ≡ start.matched → start.strayed ≡ false → CallsSince host_state Replays start now exchanges → Path start now left exchanges
path done left [] start now list at on calls = follows left refl (ap (λ (s : ReplayState). s.strayed) calls ∙ on) (let e = ap (λ (s : ReplayState). s.matched) calls in omega (arith, e))
path done left (x ∷ exchanges) start now list at on (next, call, rest) =
    by left list call.own.follows call.own.reply call.own.after (λ more longer count still. path (done ++ x ∷ []) more exchanges next now longer count still rest)
  where
    strayed_here : (left : List Exchange) → start.list ≡ done ++ left → ((y : Exchange) → Agrees start.strayed start.list start.matched x.ask (room_of x.ask) y → ⊥) → next ≡ after_exchange start false x.ask x.answer → Path start now left (x ∷ exchanges)
    strayed_here left list none after =
        let gone = stays_strayed next now exchanges (ap (λ (s : ReplayState). s.strayed) after) rest in
        strays [] x exchanges left refl refl
        (λ y more e same room. none y (record { on = on; next = rw (list, e, ← at) (at_next done more y); same = same; fits = room }))
        gone.0 (let e = ap (λ (s : ReplayState). s.matched) after in omega (arith, e, gone.1))

    by : (left : List Exchange) → start.list ≡ done ++ left → (follows : Bool) → IsReply start.strayed start.list start.matched x.ask (room_of x.ask) follows x.answer → next ≡ after_exchange start follows x.ask x.answer → Behind done x next now exchanges → Path start now left (x ∷ exchanges)
    by left list false (none, is) after behind = strayed_here left list none after
    by [] list true (y, agrees, is) after behind = absurd (let never : None ≡ Some y = sym (rw (list, ← at) (at_end done)) ∙ agrees.next in cc)
    by (z ∷ more) list true (y, agrees, is) after behind =
        let same : Some z ≡ Some y = sym (rw (list, ← at) (at_next done more z)) ∙ agrees.next in
        let first : z ≡ y = cc in
        let whole : y ≡ x = (λ i. record { ask = agrees.same i; answer = sym is i }) in
        let head : z ≡ x = first ∙ whole in
        let longer : next.list ≡ (done ++ x ∷ []) ++ more =
        ap (λ (s : ReplayState). s.list) after ∙ list ∙ ap (λ w. done ++ w ∷ more) head ∙ sym (append_assoc done (x ∷ []) more) in
        let count : next.matched ≡ start.matched + 1 = ap (λ (s : ReplayState). s.matched) after in
        subst (λ w. Path start now (w ∷ more) (x ∷ exchanges)) (sym head)
        (followed_first start next now x more exchanges count
        (behind more longer (omega (arith, count, at, length-append done (x ∷ []))) (ap (λ (s : ReplayState). s.strayed) after)))

-- ROOM
-- an answer of a journal has room in what its ask gives
has_room : (n : ℕ) (ask : Ask) (answer : Answer) → IsAnswerTo n ask answer → HasRoom (room_of ask) answer
has_room n (Read child) (Bytes bytes) h = h.1
has_room n (Spawn program args) (Bytes bytes) h = absurd h
has_room n (AskEnd child) (Bytes bytes) h = absurd h
has_room n (Send child sent) (Bytes bytes) h = absurd h
has_room n (Close child) (Bytes bytes) h = absurd h
has_room n (Kill child) (Bytes bytes) h = absurd h
has_room n ask (Started child) h = tt
has_room n ask (Code code) h = tt
has_room n ask Refused h = tt
has_room n ask Nothing h = tt
has_room n ask End h = tt
has_room n ask Signal h = tt
has_room n ask Running h = tt
has_room n ask Sent h = tt
has_room n ask Broken h = tt
has_room n ask Closed h = tt
has_room n ask Killed h = tt
has_room n ask Failed h = tt

pub room_there : (next : ℕ) (front more : List Exchange) (y : Exchange) → AreAnswered next (front ++ y ∷ more) → HasRoom (room_of y.ask) y.answer
room_there next [] more y h = has_room next y.ask y.answer h.0
room_there next (x ∷ front) more y h = room_there (next_after next x) front more y h.1

-- CALLS
-- the first calls of some
pub calls_front : (old now : ReplayState) (first second : List Exchange) → CallsSince host_state Replays old now (first ++ second) → (mid : ReplayState) × CallsSince host_state Replays old mid first
calls_front old now [] second calls = (old, refl)
calls_front old now (x ∷ first) second (next, call, rest) =
    let (mid, more) = calls_front next now first second rest in
    (mid, (next, call, more))
