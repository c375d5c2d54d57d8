-- How far claimed bytes agree with those given, as more is given.
use Rattle.std.proofs.Common.{◌≡◌, ℕ, ◌+◌, ◌-◌, ◌^◌, ◌<◌, ◌≤◌, Bool, true, false, List, [], ◌∷◌, ◌++◌, length, get_or, refl, ap, sym, ◌∙◌, arith, inl, inr, length-append, append_assoc, append-nil, take, drop}
use Rattle.std.specs.Prelude.{◌⊎◌, Some}
use Rattle.ek_types.specs.Io.{SinkState}
use Rattle.std.proofs.lemmas.Bool.{ltb-true, ltb-false, lt-ltb, le-ltb}
use Rattle.std.proofs.lemmas.List.{take_at, drop_at}
use Rattle.plain_machine.specs.Grammar.{line_feeds}
use Rattle.trace_check.specs.Comparing.{common, comparing_state, Compared, Agrees, DiffersAt}
use Rattle.trace_check.proofs.CommonFronts.{common_nil, no_longer, stays_behind, stays_there, grows, feeds_few, all_met, all_same, they_differ}

abbrev pub compared : (claimed given : List ℕ) → Compared
compared claimed given = record { claimed = claimed; given = given }

-- WHAT IS HELD: who knows it knows both
pub record Kept (old now : Compared) (written : List ℕ) : Type 0 where
  pub claimed : now.claimed ≡ old.claimed
  pub given : now.given ≡ old.given ++ written

abbrev all_of : Compared → List ℕ
all_of c = length c.claimed ∷ (c.claimed ++ c.given)

pub kept : (old now : Compared) (written : List ℕ) → all_of now ≡ all_of old ++ written → Kept old now written
kept old now written e =
    let heads : length now.claimed ≡ length old.claimed = let h = e in cc in
    let tails : now.claimed ++ now.given ≡ old.claimed ++ (old.given ++ written) = (let both : now.claimed ++ now.given ≡ (old.claimed ++ old.given) ++ written = (let h = e in cc) in both) ∙ append_assoc old.claimed old.given written in
    let n = length old.claimed in
    record {
      claimed = sym (take_at now.claimed now.given n heads) ∙ ap (take n) tails ∙ take_at old.claimed (old.given ++ written) n refl;
      given = sym (drop_at now.claimed now.given n heads) ∙ ap (drop n) tails ∙ drop_at old.claimed (old.given ++ written) n refl;
    }

-- a sink that holds the same
pub same_held : (old now : Compared) → comparing_state now ≡ comparing_state old → all_of now ≡ all_of old ++ []
same_held old now e = let same : all_of now ≡ all_of old = (let h : Some (all_of now) ≡ Some (all_of old) = ap (λ (s : SinkState). s.held) e in cc) in same ∙ sym (append-nil (all_of old))

pub held_more : (claimed given more : List ℕ) → all_of (compared claimed (given ++ more)) ≡ all_of (compared claimed given) ++ more
held_more claimed given more = ap (λ l. length claimed ∷ l) (sym (append_assoc claimed given more))

-- AGREEING
pub agrees_at_first : (claimed : List ℕ) → length claimed < 2 ^ 32 - 1 → Agrees (compared claimed []) 0 0 false
agrees_at_first claimed short = record { bytes = sym (ap length (common_nil claimed)); lines = sym (ap line_feeds (common_nil claimed)); more = refl; short = short }

module _ (claimed given : List ℕ) (at feeds : ℕ) (differs : Bool) (a : Agrees (compared claimed given) at feeds differs) where
  -- all that was given agrees
  pub met : differs ≡ false → at ≡ length given
  met same = all_met claimed given at a.bytes (ltb-false at (length given) (sym a.more ∙ same))

  pub goes_on : (byte : ℕ) → differs ≡ false → at < length claimed → get_or claimed at 0 ≡ byte → common claimed (given ++ byte ∷ []) ≡ common claimed given ++ byte ∷ []
  goes_on byte same within is =
      let m = met same in
      grows claimed given byte (omega (arith, m, a.bytes)) (omega (arith, m, within)) (ap (λ n. get_or claimed n 0) (sym m) ∙ is)

  pub stays_differing : (byte : ℕ) → differs ≡ true → common claimed (given ++ byte ∷ []) ≡ common claimed given
  stays_differing byte off =
      let behind = ltb-true at (length given) (sym a.more ∙ off) in
      stays_behind claimed given (byte ∷ []) (omega (arith, behind, a.bytes))

  pub stays_at_end : (byte : ℕ) → differs ≡ false → length claimed ≤ at → common claimed (given ++ byte ∷ []) ≡ common claimed given
  stays_at_end byte same over =
      let m = met same in
      stays_there claimed given byte (omega (arith, m, a.bytes)) (λ within is. omega (arith, within, over, m))

  pub stays_at_other : (byte : ℕ) → differs ≡ false → (get_or claimed at 0 ≡ byte → ⊥) → common claimed (given ++ byte ∷ []) ≡ common claimed given
  stays_at_other byte same other =
      let m = met same in
      stays_there claimed given byte (omega (arith, m, a.bytes)) (λ within is. other (ap (λ n. get_or claimed n 0) m ∙ is))

  -- ONE MORE
  pub one_agrees : (byte : ℕ) (feeds' : ℕ) → common claimed (given ++ byte ∷ []) ≡ common claimed given ++ byte ∷ [] → length (common claimed given) ≡ length given →
      feeds' ≡ line_feeds (common claimed given ++ byte ∷ []) → Agrees (compared claimed (given ++ byte ∷ [])) (at + 1) feeds' false
  one_agrees byte feeds' on all lines = record {
    bytes = omega (arith, a.bytes, ap length on, length-append (common claimed given) (byte ∷ []));
    lines = lines ∙ ap line_feeds (sym on);
    more = sym (le-ltb (at + 1) (length (given ++ byte ∷ [])) (omega (arith, a.bytes, all, length-append given (byte ∷ []))));
    short = a.short;
  }

  pub one_differs : (byte : ℕ) → common claimed (given ++ byte ∷ []) ≡ common claimed given → Agrees (compared claimed (given ++ byte ∷ [])) at feeds true
  one_differs byte off = record {
    bytes = a.bytes ∙ ap length (sym off);
    lines = a.lines ∙ ap line_feeds (sym off);
    more = sym (lt-ltb at (length (given ++ byte ∷ [])) (omega (arith, a.bytes, (no_longer claimed given).1, length-append given (byte ∷ []))));
    short = a.short;
  }

  -- THE END
  pub first_difference : ((differs ≡ true) ⊎ (at < length claimed)) → DiffersAt (feeds + 1) claimed given
  first_difference (inl off) = (they_differ claimed given at a.bytes (inl (ltb-true at (length given) (sym a.more ∙ off))), ap (λ n. n + 1) a.lines)
  first_difference (inr less) = (they_differ claimed given at a.bytes (inr less), ap (λ n. n + 1) a.lines)

  pub no_difference : differs ≡ false → length claimed ≤ at → claimed ≡ given
  no_difference same over = all_same claimed given (omega (arith, a.bytes, over)) (omega (arith, a.bytes, met same))

  pub few_feeds : feeds < 2 ^ 32 - 1
  few_feeds = omega (arith, a.lines, feeds_few (common claimed given), (no_longer claimed given).0, a.short)

  pub at_within : at ≤ length claimed
  at_within = omega (arith, a.bytes, (no_longer claimed given).0)
