-- What the two runs of a replay come to.
use Rattle.std.proofs.Common.{◌≡◌, ℕ, zero, suc, ◌<◌, ◌≤◌, Bool, true, false, List, [], ◌∷◌, ◌++◌, length, take, refl, sym, ap, subst, ◌∙◌, arith, append_assoc, append-nil, length-append}
use Rattle.std.specs.Prelude.{not, ◌&&◌, ◌==◌, nat_le}
use Rattle.std.proofs.lemmas.Bool.{leb-true, leb-false, eqb-true, eqb-false}
use Rattle.std.proofs.lemmas.List.{take_at}
use Rattle.std.proofs.lemmas.List.Concat.{flat_map-append}
use Rattle.editor_model.specs.Values.{Script}
use Rattle.plain_machine.specs.Exchanges.{Exchange}
use Rattle.plain_machine.specs.State.{Program}
use Rattle.plain_machine.specs.Items.{Said, Config}
use Rattle.plain_machine.specs.Run.{Reaches, start, lines}
use Rattle.ek_types.specs.Io.{SinkState}
use Rattle.journal_text.specs.Allowed.{AreAnswered}
use Rattle.journal_text.specs.Replayed.{ReplayState, host_state, new_replay, HasRoom, Replays}
use Rattle.kernel_steps.specs.HostCalls.{room_of, CallsSince}
use Rattle.kernel_steps.specs.Outside.{deepest}
use Rattle.kernel_steps.specs.Outcomes.{RanScript, StoppedScript}
use Rattle.kernel_steps.specs.declared.stop.Stop.{Stop}
use Rattle.kernel_steps.specs.declared.stop.Stop.TheVariants as stop
use Rattle.kernel_top.specs.Unseen.{IsWhole}
use Rattle.kernel_top.specs.Replaying.{GoesThrough, Strays, CutsLines, StopsBetweenLines}
use Rattle.kernel_top.proofs.Paths.{Differs, Path, follows, strays, path, room_there, calls_front}
use Rattle.kernel_top.proofs.Following.{front_through, same_ask, ended_there, said_front}

-- more exchanges of a list than a front has are that front and the next ones
pub record Past (k : ℕ) (front : List Exchange) (y : Exchange) (more : List Exchange) : Type 0 where
  pub others : List Exchange
  pub is : take k (front ++ y ∷ more) ≡ front ++ y ∷ others

take_past : (k : ℕ) (front : List Exchange) (y : Exchange) (more : List Exchange) → length front < k → Past k front y more
take_past zero front y more long = absurd (omega (arith, long))
take_past (suc k) [] y more long = record { others = take k more; is = refl }
take_past (suc k) (x ∷ front) y more long =
    let rest = take_past k front y more (omega (arith, long)) in
    record { others = rest.others; is = ap (λ l. x ∷ l) rest.is }

module _ (program : Program) (script : Script) (journal : List Exchange) where
  abbrev Goes : List Exchange → Type 0
  Goes exchanges = GoesThrough program script exchanges

  goes_front : (front rest : List Exchange) (said : List Said) (c : Config) → Reaches program deepest (start script) (front ++ rest) said c → Goes front
  goes_front front rest said c r = let t = front_through program deepest r front rest refl in record { said = t.said; last = t.last; run = t.run }

  -- no run goes through the next exchange of a journal behind this front of it
  abbrev Stuck : (front rest : List Exchange) → Type 0
  Stuck front rest = (y : Exchange) (more others : List Exchange) → rest ≡ y ∷ more → Goes (front ++ y ∷ others) → ⊥

  whole_goes : (exchanges : List Exchange) → IsWhole program script journal → journal ≡ exchanges → Goes exchanges
  whole_goes exchanges whole e = record { said = whole.ran.said; last = whole.ran.last; run = subst (λ l. Reaches program deepest (start script) l whole.ran.said whole.ran.last) e whole.ran.run }

  strays_by : (front rest : List Exchange) → journal ≡ front ++ rest → Goes front → Stuck front rest → (rest ≡ [] → IsWhole program script journal → ⊥) → Strays program script journal (length front)
  strays_by front rest is goes stuck over = record {
    unended = unended rest is stuck over;
    within = omega (arith, ap length is, length-append front rest);
    goes = subst Goes (sym (ap (take (length front)) is ∙ take_at front rest (length front) refl)) goes;
    no_more = λ k few through. by k rest is stuck few through (nat_le k (length front)) refl;
  }
    where
      unended : (rest : List Exchange) → journal ≡ front ++ rest → Stuck front rest → (rest ≡ [] → IsWhole program script journal → ⊥) → IsWhole program script journal → ⊥
      unended [] is stuck over whole = over refl whole
      unended (y ∷ more) is stuck over whole = stuck y more more refl (whole_goes (front ++ y ∷ more) whole is)

      by : (k : ℕ) (rest : List Exchange) → journal ≡ front ++ rest → Stuck front rest → k ≤ length journal → Goes (take k journal) → (b : Bool) → nat_le k (length front) ≡ b → k ≤ length front
      by k rest is stuck few through true e = leb-true k (length front) e
      by k [] is stuck few through false e = omega (arith, few, ap length is, length-append front [])
      by k (y ∷ more) is stuck few through false e =
          let past = take_past k front y more (leb-false k (length front) e) in
          absurd (stuck y more past.others refl (subst Goes (ap (take k) is ∙ past.is) through))

  -- THE FIRST RUN
  -- the run has ended over a front of the journal
  ended_stuck : (front rest : List Exchange) → IsWhole program script front → Stuck front rest
  ended_stuck front rest whole y more others e through =
      ended_there program deepest (start script) whole.ran.last through.last whole.ran.said through.said front others y whole.ran.run whole.ran.ended through.run

  -- the run has asked what the journal doesn't have next
  asked_stuck : (front behind rest : List Exchange) (x : Exchange) → AreAnswered 0 (front ++ rest) → Goes (front ++ x ∷ behind) → Differs x rest → Stuck front rest
  asked_stuck front behind rest x answered asked differs y more others e through =
      let same = same_ask program deepest (start script) asked.last through.last asked.said through.said front behind others x y asked.run through.run in
      differs y more e (sym same) (subst (λ a. HasRoom (room_of a) y.answer) (sym same) (room_there 0 front more y (subst (λ l. AreAnswered 0 (front ++ l)) e answered)))

  -- the run goes on where the journal ends
  asked_on : (front behind : List Exchange) (x : Exchange) → Goes (front ++ x ∷ behind) → journal ≡ front → IsWhole program script journal → ⊥
  asked_on front behind x asked is whole =
      ended_there program deepest (start script) whole.ran.last asked.last whole.ran.said asked.said front behind x
      (subst (λ l. Reaches program deepest (start script) l whole.ran.said whole.ran.last) is whole.ran.run) whole.ran.ended asked.run

  -- how a host that replays tells that all of the journal was followed
  abbrev pub is_followed : ReplayState → Bool
  is_followed s = not s.strayed && (s.matched == length journal)

  pub whole_journal : (now : ReplayState) (exchanges : List Exchange) → CallsSince host_state Replays (new_replay journal) now exchanges → IsWhole program script exchanges → is_followed now ≡ true → IsWhole program script journal
  whole_journal now exchanges calls whole all_of_it = by (path [] journal exchanges (new_replay journal) now refl refl refl calls)
    where
      none_left : (rest : List Exchange) → length rest ≡ 0 → rest ≡ []
      none_left [] e = refl
      none_left (x ∷ rest) e = absurd (omega (arith, e))

      by : Path (new_replay journal) now journal exchanges → IsWhole program script journal
      by (follows rest is on count) =
          let all : now.matched ≡ length journal = eqb-true now.matched (length journal) (rw on at all_of_it) in
          let none : rest ≡ [] = none_left rest (omega (arith, all, count, ap length is, length-append exchanges rest)) in
          subst (IsWhole program script) (sym (is ∙ ap (λ l. exchanges ++ l) none ∙ append-nil exchanges)) whole
      by (strays front x behind rest is left differs gone count) = absurd (let never : false ≡ true = rw gone at all_of_it in cc)

  pub strays_there : (now : ReplayState) (exchanges : List Exchange) → AreAnswered 0 journal → CallsSince host_state Replays (new_replay journal) now exchanges → IsWhole program script exchanges → is_followed now ≡ false → Strays program script journal now.matched
  strays_there now exchanges answered calls whole not_all = by (path [] journal exchanges (new_replay journal) now refl refl refl calls)
    where
      by : Path (new_replay journal) now journal exchanges → Strays program script journal now.matched
      by (follows rest is on count) =
          let count_is : length exchanges ≡ now.matched = omega (arith, count) in
          let goes : Goes exchanges = record { said = whole.ran.said; last = whole.ran.last; run = whole.ran.run } in
          subst (Strays program script journal) count_is (strays_by exchanges rest is goes (ended_stuck exchanges rest whole)
          (λ none. absurd (eqb-false now.matched (length journal) (rw on at not_all) (omega (arith, count, ap length is, length-append exchanges rest, ap length none)))))
      by (strays front x behind rest is left differs gone count) =
          let count_is : length front ≡ now.matched = omega (arith, count) in
          let asked : Goes (front ++ x ∷ behind) = record { said = whole.ran.said; last = whole.ran.last; run = subst (λ l. Reaches program deepest (start script) l whole.ran.said whole.ran.last) is whole.ran.run } in
          subst (Strays program script journal) count_is (strays_by front rest left (goes_front front (x ∷ behind) asked.said asked.last asked.run)
          (asked_stuck front behind rest x (subst (AreAnswered 0) left answered) asked differs)
          (λ none. asked_on front behind x asked (left ∙ ap (λ l. front ++ l) none ∙ append-nil front)))

  -- THE SECOND RUN
  -- it makes only exchanges of the journal, in their order
  front_of : (now : ReplayState) (made : List Exchange) → AreAnswered 0 journal → CallsSince host_state Replays (new_replay journal) now made → Goes made → IsWhole program script journal → (rest : List Exchange) × (journal ≡ made ++ rest)
  front_of now made answered calls goes whole = by (path [] journal made (new_replay journal) now refl refl refl calls)
    where
      astray : (front behind rest : List Exchange) (x : Exchange) → journal ≡ front ++ rest → Goes (front ++ x ∷ behind) → Differs x rest → ⊥
      astray front behind [] x left asked differs = asked_on front behind x asked (left ∙ append-nil front) whole
      astray front behind (y ∷ more) x left asked differs =
          asked_stuck front behind (y ∷ more) x (subst (AreAnswered 0) left answered) asked differs y more more refl (whole_goes (front ++ y ∷ more) whole left)

      by : Path (new_replay journal) now journal made → (rest : List Exchange) × (journal ≡ made ++ rest)
      by (follows rest is on count) = (rest, is)
      by (strays front x behind rest is left differs gone count) = absurd (astray front behind rest x left (subst Goes is goes) differs)

  pub ran_journal : (now : ReplayState) (exchanges : List Exchange) (written : List ℕ) (before after : SinkState) → AreAnswered 0 journal → CallsSince host_state Replays (new_replay journal) now exchanges → IsWhole program script journal →
      RanScript program script exchanges written before after → RanScript program script journal written before after
  ran_journal now exchanges written before after answered calls whole ran =
      let goes : Goes exchanges = record { said = ran.ran.said; last = ran.ran.last; run = ran.ran.run } in
      by (front_of now exchanges answered calls goes whole)
    where
      by : (rest : List Exchange) × (journal ≡ exchanges ++ rest) → RanScript program script journal written before after
      by ([], is) = subst (λ l. RanScript program script l written before after) (sym (is ∙ append-nil exchanges)) ran
      by (y ∷ more, is) =
          let through = whole_goes (exchanges ++ y ∷ more) whole is in
          absurd (ended_there program deepest (start script) ran.ran.last through.last ran.ran.said through.said exchanges more y ran.ran.run ran.ran.ended through.run)

  pub cuts_journal : (why : Stop) (now : ReplayState) (exchanges : List Exchange) (written : List ℕ) (before after : SinkState) → AreAnswered 0 journal → CallsSince host_state Replays (new_replay journal) now exchanges → IsWhole program script journal →
      StoppedScript why program script exchanges written before after → CutsLines program script journal written before after
  cuts_journal why now exchanges written before after answered calls whole stopped =
      let broken = stopped.broken in
      let (mid, first) = calls_front (new_replay journal) now broken.made broken.kills (subst (CallsSince host_state Replays (new_replay journal) now) broken.exchanges_are calls) in
      let goes : Goes broken.made = record { said = broken.said; last = broken.last; run = broken.run } in
      let (rest, is) = front_of mid broken.made answered first goes whole in
      let all = subst (λ l. Reaches program deepest (start script) l whole.ran.said whole.ran.last) is whole.ran.run in
      let (further, said_is) = said_front program deepest (start script) broken.last whole.ran.last broken.said whole.ran.said broken.made rest broken.run all whole.ran.ended in
      let (cut, front) = broken.bytes in
      let bytes : whole.lines ≡ lines broken.said ++ lines further = whole.ran.bytes ∙ ap lines said_is ∙ flat_map-append (λ x. x.line) broken.said further in
      record {
        whole = whole;
        front = (cut ++ lines further, sym (append_assoc written cut (lines further)) ∙ ap (λ l. l ++ lines further) front ∙ sym bytes);
        roomy = λ few. stopped.roomy (omega (arith, few, ap length bytes, length-append (lines broken.said) (lines further)));
      }

  -- for want of memory it stopped behind all that it had said
  pub breaks_journal : (now : ReplayState) (exchanges : List Exchange) (written : List ℕ) (before after : SinkState) → AreAnswered 0 journal → CallsSince host_state Replays (new_replay journal) now exchanges → IsWhole program script journal →
      StoppedScript stop.NoMemory program script exchanges written before after → StopsBetweenLines program script journal written before after
  breaks_journal now exchanges written before after answered calls whole stopped =
      let broken = stopped.broken in
      let (mid, first) = calls_front (new_replay journal) now broken.made broken.kills (subst (CallsSince host_state Replays (new_replay journal) now) broken.exchanges_are calls) in
      let goes : Goes broken.made = record { said = broken.said; last = broken.last; run = broken.run } in
      let (others, in_order) = front_of mid broken.made answered first goes whole in
      record {
        made = broken.made;
        others = others;
        in_order = in_order;
        goes = goes;
        all_said = stopped.came;
        cut = cuts_journal stop.NoMemory now exchanges written before after answered calls whole stopped;
      }
