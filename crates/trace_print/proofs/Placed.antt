-- Runs with their ends.
use Rattle.std.proofs.Common.{◌≡◌, ℕ, zero, suc, ◌+◌, List, [], ◌∷◌, ◌++◌, refl, sym, ap, ◌∙◌, arith, append_assoc}
use Rattle.std.specs.Prelude.{replicate, if◌then◌else◌}
use Rattle.text_model.specs.Properties.{PropSet, stretches, stretch_more, same_set}
use Rattle.text_model.proofs.Sameness.{same_set-same}
use Rattle.plain_machine.specs.Lines.{run_words}
use Rattle.prop_intervals.specs.Runs.{Run, sets_of, size, AreApart, BeginsOther}
use Rattle.trace_print.specs.Strings.{led, placed}
use Rattle.trace_print.proofs.Stretches.{words_then}

-- a set in front of runs that begin with another
meets : (s : PropSet) (at m : ℕ) (rest : List Run) → BeginsOther s rest → stretch_more same_set s at (placed m rest) ≡ (s, at, at + 1) ∷ placed m rest
meets s at m [] h = refl
meets s at m (r ∷ rest) h = ap (λ b. if b then (s, at, m + r.1) ∷ placed (m + r.1) rest else (s, at, at + 1) ∷ (r.0, m, m + r.1) ∷ placed (m + r.1) rest) h

-- one run in front of others
one_stretch : (s : PropSet) (n at m : ℕ) (rest : List Run) → m ≡ at + suc n → BeginsOther s rest → stretches same_set m (sets_of rest) ≡ placed m rest →
    stretches same_set at (replicate (suc n) s ++ sets_of rest) ≡ (s, at, m) ∷ placed m rest
one_stretch s zero at m rest e h k =
    let next : m ≡ at + 1 = omega (arith, e) in
    ap (λ j. stretch_more same_set s at (stretches same_set j (sets_of rest))) (sym next) ∙ ap (stretch_more same_set s at) k ∙ meets s at m rest h ∙ ap (λ j. (s, at, j) ∷ placed m rest) (sym next)
one_stretch s (suc n) at m rest e h k =
    let more : m ≡ (at + 1) + suc n = omega (arith, e) in
    ap (stretch_more same_set s at) (one_stretch s n (at + 1) m rest more h k) ∙
    ap (λ b. if b then (s, at, m) ∷ placed m rest else (s, at, at + 1) ∷ (s, at + 1, m) ∷ placed m rest) (same_set-same s)

-- runs that stand apart are the stretches of their sets
pub stretches_placed : (at : ℕ) (runs : List Run) → AreApart runs → stretches same_set at (sets_of runs) ≡ placed at runs
stretches_placed at [] h = refl
stretches_placed at ((s, zero) ∷ runs) h = absurd (omega (arith, h.0))
stretches_placed at ((s, suc n) ∷ runs) h = one_stretch s n at (at + suc n) runs refl h.1 (stretches_placed (at + suc n) runs h.2)

-- THE WORDS
-- some runs, and others behind them
words_of_both : (symbols : List (List ℕ)) (at to : ℕ) (front rest : List Run) → to ≡ at + size front →
    led (run_words symbols (placed at front)) ++ led (run_words symbols (placed to rest)) ≡ led (run_words symbols (placed at (front ++ rest)))
words_of_both symbols at to [] rest e = let same : to ≡ at = omega (arith, e) in ap (λ n. led (run_words symbols (placed n rest))) same
words_of_both symbols at to (r ∷ front) rest e =
    let behind : to ≡ (at + r.1) + size front = omega (arith, e) in
    let first : List ℕ = led (run_words symbols ((r.0, at, at + r.1) ∷ [])) in
    ap (λ l. l ++ led (run_words symbols (placed to rest))) (sym (words_then symbols (r.0, at, at + r.1) (placed (at + r.1) front))) ∙
    append_assoc first (led (run_words symbols (placed (at + r.1) front))) (led (run_words symbols (placed to rest))) ∙
    ap (λ l. first ++ l) (words_of_both symbols (at + r.1) to front rest behind) ∙
    words_then symbols (r.0, at, at + r.1) (placed (at + r.1) (front ++ rest))

-- a run in the middle of others
pub words_parted : (symbols : List (List ℕ)) (at from to : ℕ) (front behind runs : List Run) (set : PropSet) (n : ℕ) → from ≡ at + size front → to ≡ from + n → runs ≡ front ++ (set, n) ∷ behind →
    led (run_words symbols (placed at front)) ++ (led (run_words symbols ((set, from, to) ∷ [])) ++ led (run_words symbols (placed to behind))) ≡ led (run_words symbols (placed at runs))
words_parted symbols at from to front behind runs set n e f are =
    ap (λ j. led (run_words symbols (placed at front)) ++ (led (run_words symbols ((set, from, j) ∷ [])) ++ led (run_words symbols (placed j behind)))) f ∙
    ap (λ l. led (run_words symbols (placed at front)) ++ l) (words_then symbols (set, from, from + n) (placed (from + n) behind)) ∙
    words_of_both symbols at from front ((set, n) ∷ behind) e ∙
    ap (λ l. led (run_words symbols (placed at l))) (sym are)
