-- Each change of one buffer, and each call on its records: what it keeps.
use Rattle.std.proofs.Common.{◌≡◌, ℕ, ◌+◌, ◌≤◌, ◌<◌, Bool, true, false, List, [], ◌∷◌, length, refl, ap, sym, subst, ◌∙◌, arith}
use Rattle.std.specs.Prelude.{if◌then◌else◌, ◌==◌, nat_lt, None}
use Rattle.std.proofs.lemmas.Bool.{ne_eqb, le-ltb, ltb-true, ltb-false, false≢true}
use Rattle.text_model.specs.Properties.{PropEdit, Cell}
use Rattle.text_model.specs.Ordered.{AreOrdered, GivesOrdered}
use Rattle.text_model.specs.Undo.{Rec, Boundary, Entry, Undo, is_boundary, newer_than, rewind, in_front, cut, pushed, with_boundary, started, disabled, enabled, without_pending, undone, passed, trial}
use Rattle.text_model.specs.Commit.{Buffer, Site, inserted, deleted, with_properties, property_records, no_pending, replaced, reset, undone_groups}
use Rattle.text_model.specs.Undo.{boundary_at}
use Rattle.machine_laws.specs.Good.{Falling, OffIsEmpty, PendingAgrees, Good}
use Rattle.text_model.proofs.Cases.{by_test, if_true, if_false}
use Rattle.machine_laws.proofs.Records.{Steps, steps_stay, not_above, older, boundary_stands, Shorter, shorter-cut, falling-shorter, boundary-shorter}
use Rattle.machine_laws.proofs.Changes.{Outcome, inserted_outcome, deleted_outcome, properties_outcome}
use Rattle.machine_laws.proofs.Groups.{Follows, groups_undone, older_all, newer_than-older}
use Rattle.machine_laws.proofs.Undoing.{newer_than-cut}
use Rattle.machine_laws.proofs.GoodEditor.{Passes}

-- CHANGES
pub passes_from_steps : (b c : Buffer) → Good c → Steps b.undo.next b.undo.entries b.text c.undo.next c.undo.entries c.text → Passes b c
passes_from_steps b c g s = record {
  good = g;
  grows = s.grows;
  stood = s.stood;
  back = s.back;
  pushed = λ n h k. absurd (false≢true (sym (s.fresh n h) ∙ k));
}

pub passes_from_follows : (b c : Buffer) → Follows b c → Passes b c
passes_from_follows b c f = passes_from_steps b c f.good f.steps

-- a buffer whose text and records are the same
pub good_same : (b c : Buffer) → Good b → c.text ≡ b.text → c.undo ≡ b.undo → Good c
good_same b c g p q = record {
  ordered = subst (λ x. AreOrdered x) (sym p) g.ordered;
  falling = subst (λ x. Falling x.next x.entries) (sym q) g.falling;
  off = subst (λ x. OffIsEmpty x) (sym q) g.off;
  below = subst (λ x. x.pending_below ≤ x.next) (sym q) g.below;
  agrees = subst (λ x. PendingAgrees x c.text) (sym q) (subst (λ x. PendingAgrees b.undo x) (sym p) g.agrees);
}

-- where the good buffer's records and text are these
pub passes_like : (b c d : Buffer) → Passes b c → d.text ≡ c.text → d.undo ≡ c.undo → Passes b d
passes_like b c d x p q = record {
  good = good_same c d x.good p q;
  grows = subst (λ u. b.undo.next ≤ u.next) (sym q) x.grows;
  stood = subst (λ u. (serial : ℕ) → serial < b.undo.next → boundary_at serial u.entries ≡ true → boundary_at serial b.undo.entries ≡ true) (sym q) x.stood;
  back = subst (λ u. (serial : ℕ) → serial < b.undo.next → boundary_at serial u.entries ≡ true → rewind (newer_than serial u.entries) d.text ≡ rewind (newer_than serial b.undo.entries) b.text) (sym q)
      (subst (λ t. (serial : ℕ) → serial < b.undo.next → boundary_at serial c.undo.entries ≡ true → rewind (newer_than serial c.undo.entries) t ≡ rewind (newer_than serial b.undo.entries) b.text) (sym p) x.back);
  pushed = subst (λ u. (serial : ℕ) → b.undo.next ≤ serial → boundary_at serial u.entries ≡ true → newer_than serial u.entries ≡ []) (sym q) x.pushed;
}

pub passes_self : (b : Buffer) → Good b → Passes b b
passes_self b g = record {
  good = g;
  grows = omega arith;
  stood = λ s h k. k;
  back = λ s h k. refl;
  pushed = λ s h k. absurd (false≢true (sym (not_above b.undo.next b.undo.entries g.falling s h) ∙ k));
}

pub passes_same : (b c : Buffer) → Good b → c.text ≡ b.text → c.undo ≡ b.undo → Passes b c
passes_same b c g p q = passes_like b b c (passes_self b g) p q

-- from a buffer with the same text and records
pub passes_from : (a b c : Buffer) → a.text ≡ b.text → a.undo ≡ b.undo → Passes b c → Passes a c
passes_from a b c p q x = record {
  good = x.good;
  grows = rw q x.grows;
  stood = rw q x.stood;
  back = rw (q, p) x.back;
  pushed = rw q x.pushed;
}

-- after a change of its own a buffer has no pending records
dropped_follows : (b c : Buffer) → Outcome b c → Follows b (record c { undo = without_pending c.undo })
dropped_follows b c x = record {
  good = record {
    ordered = x.ordered;
    falling = x.moves.steps.falling;
    off = x.moves.off;
    below = omega arith;
    agrees = λ s h k. absurd (omega arith);
  };
  steps = x.moves.steps;
}

pub follows_self : (b : Buffer) → Good b → Follows b b
follows_self b g = record { good = g; steps = steps_stay b.undo.next b.undo.entries b.text g.falling }

-- a piece put in, or a part taken out
pub replaced_follows : (id from to : ℕ) (piece : List Cell) (all : Bool) (site : Site) → from ≤ to → to ≤ length site.buffer.text → AreOrdered piece → Good site.buffer → Follows site.buffer (replaced id from to piece all site).buffer
replaced_follows id from to [] all site h k p g = by_test (λ s. Follows site.buffer s.buffer) (from == to) site (no_pending (deleted id from to site))
    (λ e. follows_self site.buffer g)
    (λ e. dropped_follows site.buffer (deleted id from to site).buffer (deleted_outcome id from to site h k g.ordered g.falling g.off))
replaced_follows id from to (c ∷ piece) all site h k p g = dropped_follows site.buffer (inserted id from (c ∷ piece) all true site).buffer (inserted_outcome id from (c ∷ piece) all true site (omega arith) p g.ordered g.falling g.off)

-- a change of properties
pub reset_follows : (edit : PropEdit) (from to : ℕ) (b : Buffer) → from ≤ to → GivesOrdered edit → Good b → Follows b (reset edit from to b)
reset_follows edit from to b h e g = go (property_records edit from to b.text)
  where
    go : (rs : List Rec) → Follows b (elim rs [ [] ↦ b | r ∷ records ↦ let c = with_properties edit from to b in record c { undo = without_pending c.undo } ])
    go [] = follows_self b g
    go (r ∷ rs) = dropped_follows b (with_properties edit from to b) (properties_outcome edit from to b h g.ordered e g.falling g.off)

-- THE CALLS ON RECORDS
-- pending records made of all
pub started_passes : (b c : Buffer) → Good b → c.text ≡ b.text → c.undo ≡ started b.undo → Passes b c
started_passes b c g p q = passes_like b (record b { undo = started b.undo }) c (record {
  good = record {
    ordered = g.ordered;
    falling = g.falling;
    off = g.off;
    below = omega arith;
    agrees = λ s h k. ap (λ l. rewind (newer_than s l) b.text) (older_all b.undo.next b.undo.entries g.falling);
  };
  grows = omega arith;
  stood = λ s h k. k;
  back = λ s h k. refl;
  pushed = λ s h k. absurd (false≢true (sym (not_above b.undo.next b.undo.entries g.falling s h) ∙ k));
}) p q

pub disabled_passes : (b c : Buffer) → Good b → c.text ≡ b.text → c.undo ≡ disabled b.undo → Passes b c
disabled_passes b c g p q = passes_like b (record b { undo = disabled b.undo }) c (record {
  good = record { ordered = g.ordered; falling = tt; off = λ h. refl; below = omega arith; agrees = λ s h k. absurd (omega arith) };
  grows = omega arith;
  stood = λ s h k. absurd (false≢true k);
  back = λ s h k. absurd (false≢true k);
  pushed = λ s h k. absurd (false≢true k);
}) p q

pub enabled_passes : (b c : Buffer) → Good b → c.text ≡ b.text → c.undo ≡ enabled b.undo → Passes b c
enabled_passes b c g p q = passes_like b (record b { undo = enabled b.undo }) c (record {
  good = record { ordered = g.ordered; falling = g.falling; off = λ h. absurd (false≢true (sym h)); below = g.below; agrees = g.agrees };
  grows = omega arith;
  stood = λ s h k. k;
  back = λ s h k. refl;
  pushed = λ s h k. absurd (false≢true (sym (not_above b.undo.next b.undo.entries g.falling s h) ∙ k));
}) p q

-- a boundary pushed
boundary_pushed : (b : Buffer) → Good b → b.undo.on ≡ true → Passes b (record b { undo = pushed Boundary b.undo })
boundary_pushed b g on = by_test (λ v. Passes b (record b { undo = v })) b.undo.on _ b.undo (λ h. made) (λ h. absurd (false≢true (sym h ∙ on)))
  where
    u : Undo
    u = b.undo

    front : List Entry
    front = record { what = Boundary; serial = u.next } ∷ u.entries

    es : List Entry
    es = cut (length u.entries + 1) (in_front Boundary u.next u.entries)

    is_front : (l : List Entry) → in_front Boundary u.next l ≡ record { what = Boundary; serial = u.next } ∷ l
    is_front [] = refl
    is_front (e ∷ l) = refl

    shorter : Shorter es front
    shorter = rw (← is_front u.entries) (shorter-cut (length u.entries + 1) (in_front Boundary u.next u.entries))

    newer : (s : ℕ) → boundary_at s es ≡ true → newer_than s es ≡ newer_than s front
    newer s k = newer_than-cut (length u.entries + 1) s (in_front Boundary u.next u.entries) (boundary_stands s es k) ∙ ap (newer_than s) (is_front u.entries)

    old : (s : ℕ) → s < u.next → boundary_at s es ≡ true → boundary_at s u.entries ≡ true
    old s h k = let l : boundary_at s front ≡ true = boundary-shorter s es front shorter k in rw (ne_eqb u.next s (λ q. omega arith)) at l

    back : (s : ℕ) → s < u.next → boundary_at s es ≡ true → rewind (newer_than s es) b.text ≡ rewind (newer_than s u.entries) b.text
    back s h k = ap (λ l. rewind l b.text) (newer s k ∙ if_false _ (ne_eqb u.next s (λ q. omega arith)))

    falls : Falling (u.next + 1) es
    falls = falling-shorter (u.next + 1) es front shorter (omega arith, (tt, g.falling))

    agrees : (s : ℕ) → s < u.pending_below → boundary_at s es ≡ true → rewind (newer_than s (older u.pending_below es)) b.text ≡ rewind (newer_than s es) b.text
    agrees s h k =
        let l : u.pending_below ≤ u.next = g.below in
        let same : older u.pending_below (newer_than s es) ≡ older u.pending_below (newer_than s u.entries) =
        ap (older u.pending_below) (newer s k ∙ if_false _ (ne_eqb u.next s (λ q. omega arith))) ∙ if_false _ (le-ltb u.next u.pending_below l) in
        ap (λ x. rewind x b.text) (newer_than-older u.pending_below s es h ∙ same ∙ sym (newer_than-older u.pending_below s u.entries h)) ∙ g.agrees s h (old s (omega arith) k) ∙ sym (back s (omega arith) k)

    fresh : (s : ℕ) → u.next ≤ s → (v : Bool) → (u.next == s) ≡ v → boundary_at s es ≡ true → newer_than s es ≡ []
    fresh s h true q k = newer s k ∙ if_true _ q
    fresh s h false q k =
        let l : boundary_at s front ≡ true = boundary-shorter s es front shorter k in
        absurd (false≢true (sym (not_above u.next u.entries g.falling s h) ∙ (rw q at l)))

    made : Passes b (record b { undo = record u { entries = es; next = u.next + 1 } })
    made = record {
      good = record {
        ordered = g.ordered;
        falling = falls;
        off = λ h. absurd (false≢true (sym h ∙ on));
        below = let l : u.pending_below ≤ u.next = g.below in omega arith;
        agrees = agrees;
      };
      grows = omega arith;
      stood = old;
      back = back;
      pushed = λ s h k. fresh s h (u.next == s) refl k;
    }

pub boundary_passes : (b c : Buffer) → Good b → c.text ≡ b.text → c.undo ≡ with_boundary b.undo → Passes b c
boundary_passes b c g p q = passes_like b (record b { undo = with_boundary b.undo }) c (by_entries b.undo.entries refl) p q
  where
    by_entries : (es : List Entry) → b.undo.entries ≡ es → Passes b (record b { undo = elim es [ [] ↦ b.undo | e ∷ rest ↦ if is_boundary e.what then b.undo else pushed Boundary b.undo ] })
    by_entries [] e = passes_self b g
    by_entries (e ∷ rest) q = by_test (λ v. Passes b (record b { undo = v })) (is_boundary e.what) b.undo (pushed Boundary b.undo) (λ h. passes_self b g) (λ h. boundary_pushed b g (records_on b.undo.on refl))
      where
        records_on : (v : Bool) → b.undo.on ≡ v → b.undo.on ≡ true
        records_on true k = k
        records_on false k = let none : b.undo.entries ≡ [] = g.off k in cc

-- UNDOING
pub undone_passes : (id n : ℕ) (site : Site) → Good site.buffer → site.buffer.end ≤ length site.buffer.text → trial site.buffer.begin site.buffer.end (undone n site.buffer.undo) ≡ None →
    Passes site.buffer (undone_groups id (passed n site.buffer.undo) site).buffer
undone_passes id n site g h t = passes_from_follows _ _ (groups_undone id n site g h t).follows

-- THE LAW OF ONE BUFFER
-- Where a boundary stands before a change and after it, what is newer rewinds to the same text.
pub same_text : (b c : Buffer) (serial : ℕ) → Good b → Passes b c → boundary_at serial b.undo.entries ≡ true → boundary_at serial c.undo.entries ≡ true → rewind (newer_than serial c.undo.entries) c.text ≡ rewind (newer_than serial b.undo.entries) b.text
same_text b c serial g x h k = go (nat_lt serial b.undo.next) refl
  where
    go : (v : Bool) → nat_lt serial b.undo.next ≡ v → rewind (newer_than serial c.undo.entries) c.text ≡ rewind (newer_than serial b.undo.entries) b.text
    go true l = x.back serial (ltb-true serial b.undo.next l) k
    go false l = absurd (false≢true (sym (not_above b.undo.next b.undo.entries g.falling serial (ltb-false serial b.undo.next l)) ∙ h))
