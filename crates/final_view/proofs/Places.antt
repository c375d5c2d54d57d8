-- What the tests of a mark say of its places.
use Rattle.std.proofs.Common.{◌≡◌, ℕ, ◌<◌, ◌≤◌, Bool, true, false, ◌&&◌, ◌||◌, ◌==◌, nat_lt, nat_le, max, if◌then◌else◌, List, [], ◌∷◌, refl, sym, ap, ◌∙◌, arith}
use Rattle.std.specs.List.{list_any}
use Rattle.std.proofs.lemmas.Bool.{eqb-true}
use Rattle.std.proofs.lemmas.Bool.Decides.{nat_tests}
use Rattle.text_model.specs.Marks.{Overlay}
use Rattle.final_view.specs.Marks.{ends_here, starts_here, hides, hides_at, hidden_until, covered, Cover, Rises, start_key}
use Rattle.final_view.specs.declared.mark.Mark.{Mark}

front : (a b : Bool) → a && b ≡ true → a ≡ true
front true b h = refl
front false b h = h

pub ends_sound : (first q : ℕ) (m : Mark) → ends_here first q m ≡ true → m.end ≡ q
ends_sound first q m h = eqb-true m.end q (front (m.end == q) (nat_lt m.start m.end && nat_lt first q) h)

pub starts_sound : (last q : ℕ) (m : Mark) → starts_here last q m ≡ true → m.start ≡ q
starts_sound last q m h = eqb-true m.start q (front (m.start == q) ((m.start == m.end) || (nat_lt m.start m.end && nat_lt q last)) h)

-- HIDING
module _ (os : List Overlay) where
  hidden_by : (until q : ℕ) (m : Mark) (rest : Bool) → m.start ≤ q → (b : Bool) → nat_lt q (if b then max until m.end else until) || rest ≡ nat_lt q until || ((b && (nat_le m.start q && nat_lt q m.end)) || rest)
  hidden_by until q m rest h true = grind (arith, nat_tests)
  hidden_by until q m rest h false = refl

  -- one that starts at a place or before it is passed
  pub cover_on : (at old_until until : ℕ) (m : Mark) (old all rest : List Mark) → all ≡ m ∷ rest → m.start ≤ at → Cover os at old_until until old all → Cover os at old_until (hidden_until os until m) old rest
  cover_on at old_until until m old all rest e h c = record {
    by = λ q k. hidden_by until q m (list_any (hides_at os q) rest) (omega (arith, h, k)) (hides os m) ∙ ap (λ l. covered os until l q) (sym e) ∙ c.by q k;
  }

  pub cover_begins : (at until : ℕ) (old : List Mark) → Cover os at until until old old
  cover_begins at until old = record { by = λ q k. refl }

  -- none hides in front of where the first starts
  pub none_hides : (q least : ℕ) (marks : List Mark) → Rises start_key least marks → q < least → list_any (hides_at os q) marks ≡ false
  none_hides q least [] r h = refl
  none_hides q least (m ∷ marks) r h =
      ap (λ b. (hides os m && (b && nat_lt q m.end)) || list_any (hides_at os q) marks) (not_yet m.start q (omega (arith, h, r.0))) ∙ ap (λ b. b || list_any (hides_at os q) marks) (never (hides os m)) ∙ none_hides q m.start marks r.1 (omega (arith, h, r.0))
    where
      not_yet : (s q : ℕ) → q < s → nat_le s q ≡ false
      not_yet s q h = grind (arith, nat_tests)

      never : (b : Bool) → b && false ≡ false
      never true = refl
      never false = refl

pub or_false : (b : Bool) → b || false ≡ b
or_false true = refl
or_false false = refl
