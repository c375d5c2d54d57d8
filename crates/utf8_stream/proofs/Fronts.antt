-- What stands at the front of some bytes, by their first two.
use Rattle.std.proofs.Common.{◌≡◌, ℕ, zero, suc, ◌<◌, ◌≤◌, Bool, true, false, nat_lt, ◌&&◌, List, [], ◌∷◌, ◌++◌, take, drop, refl, ap, ◌∙◌, arith, ⊎_elim}
use Rattle.std.proofs.lemmas.Bool.Decides.{nat_tests}
use Rattle.std.proofs.lemmas.Bool.{cases_lt, and_parts}
use Rattle.text_model.specs.Decoding.{Range, range, within, Front, Whole, Part, Neither, longer, against, against_any, front, well_formed}
use Rattle.text_model.proofs.Cases.{same_tests}
use Rattle.bstr.specs.Utf8.{second, continues}

inside : (low high b : ℕ) → low ≤ b → b ≤ high → within (range low high) b ≡ true
inside low high b h k = grind (arith, nat_tests)

below : (low high b : ℕ) → b < low → within (range low high) b ≡ false
below low high b h = grind (arith, nat_tests)

above : (low high b : ℕ) → high < b → within (range low high) b ≡ false
above low high b h = grind (arith, nat_tests)

-- no row of these has the byte as its first
abbrev Misses : ℕ → List (List Range) → Type 0
Misses b [] = Unit {0}
Misses b ([] ∷ rows) = ⊥
Misses b ((r ∷ row) ∷ rows) = (within r b ≡ false) × Misses b rows

missed : (rows : List (List Range)) (b : ℕ) (x : List ℕ) → Misses b rows → against_any rows (b ∷ x) ≡ Neither
missed [] b x m = refl
missed ([] ∷ rows) b x m = absurd m
missed ((r ∷ row) ∷ rows) b x m = rw (m.0, against_any) (missed rows b x m.1)

kept : (f g : Front) → g ≡ Neither → elim f as (λ _. Front) [ Whole s ↦ Whole s | Part ↦ Part | Neither ↦ g ] ≡ f
kept (Whole s) g e = refl
kept Part g e = refl
kept Neither g e = e

-- where one row alone may have it, that row decides
only_row : (before : List (List Range)) (row : List Range) (after : List (List Range)) (b : ℕ) (x : List ℕ) → Misses b before → Misses b after
    → against_any (before ++ row ∷ after) (b ∷ x) ≡ against row (b ∷ x)
only_row [] row after b x m n = kept (against row (b ∷ x)) (against_any after (b ∷ x)) (missed after b x n)
only_row ([] ∷ before) row after b x m n = absurd m
only_row ((r ∷ first) ∷ before) row after b x m n = rw (m.0, against_any) (only_row before row after b x m.1 n)

-- the first ranges of all rows end below n
lower : ℕ → List (List Range) → Bool
lower n [] = true
lower n ([] ∷ rows) = false
lower n ((r ∷ row) ∷ rows) = nat_lt r.high n && lower n rows

-- they begin above n
higher : ℕ → List (List Range) → Bool
higher n [] = true
higher n ([] ∷ rows) = false
higher n ((r ∷ row) ∷ rows) = nat_lt n r.low && higher n rows

misses_lower : (rows : List (List Range)) (n b : ℕ) → lower n rows ≡ true → n ≤ b → Misses b rows
unfolding lower
misses_lower [] n b t h = tt
misses_lower ([] ∷ rows) n b t h = cc
misses_lower ((r ∷ row) ∷ rows) n b t h =
    let both : (nat_lt r.high n ≡ true) × (lower n rows ≡ true) = and_parts _ _ t in
    let first : nat_lt r.high n ≡ true = both.0 in
    let less : r.high < b = grind (arith, nat_tests) in
    (above r.low r.high b less, misses_lower rows n b both.1 h)

misses_higher : (rows : List (List Range)) (n b : ℕ) → higher n rows ≡ true → b ≤ n → Misses b rows
unfolding higher
misses_higher [] n b t h = tt
misses_higher ([] ∷ rows) n b t h = cc
misses_higher ((r ∷ row) ∷ rows) n b t h =
    let both : (nat_lt n r.low ≡ true) × (higher n rows ≡ true) = and_parts _ _ t in
    let first : nat_lt n r.low ≡ true = both.0 in
    let less : b < r.low = grind (arith, nat_tests) in
    (below r.low r.high b less, misses_higher rows n b both.1 h)

-- one range of a row
step_in : (r : Range) (row : List Range) (b : ℕ) (x : List ℕ) → within r b ≡ true → against (r ∷ row) (b ∷ x) ≡ longer b (against row x)
step_in r row b x h = rw (h, against) refl

step_out : (r : Range) (row : List Range) (b : ℕ) (x : List ℕ) → within r b ≡ false → against (r ∷ row) (b ∷ x) ≡ Neither
step_out r row b x h = rw (h, against) refl

-- so many further bytes
abbrev continuing : ℕ → List Range
continuing zero = []
continuing (suc k) = range 0x80 0xBF ∷ continuing k

-- a first byte that k bytes follow, after the second
abbrev Leads : ℕ → ℕ → List ℕ → Type 0
Leads k b x = (r : Range) × (((c : ℕ) → within r c ≡ second b c) × (front (b ∷ x) ≡ longer b (against (r ∷ continuing k) x)))

in_row : (before : List (List Range)) (f r : Range) (row : List Range) (after : List (List Range)) (low high b : ℕ) (x : List ℕ)
    → lower low before ≡ true → higher high after ≡ true → low ≤ b → b ≤ high → within f b ≡ true
    → against_any (before ++ (f ∷ r ∷ row) ∷ after) (b ∷ x) ≡ longer b (against (r ∷ row) x)
in_row before f r row after low high b x s t h k e =
    only_row before (f ∷ r ∷ row) after b x (misses_lower before low b s h) (misses_higher after high b t k) ∙ step_in f (r ∷ row) b x e

leads_two : (b : ℕ) (x : List ℕ) → 0xC2 ≤ b → b < 0xE0 → Leads 0 b x
unfolding lower higher
leads_two b x h k =
    let r = range 0x80 0xBF in (
      r,
      (
        λ c. same_tests (within r c) (second b c) (λ t. grind (arith, nat_tests)) (λ t. grind (arith, nat_tests)),
        in_row (take 1 well_formed) (range 0xC2 0xDF) r [] (drop 2 well_formed) 0xC2 0xDF b x refl refl h (omega arith) (inside 0xC2 0xDF b h (omega arith)),
      ),
    )

leads_three : (b : ℕ) (x : List ℕ) → 0xE0 ≤ b → b < 0xF0 → Leads 1 b x
unfolding lower higher
leads_three b x h k =
    let more = continuing 1 in
    ⊎_elim
    (λ (j : b < 0xE1).
    let r = range 0xA0 0xBF in (
      r,
      (
        λ c. same_tests (within r c) (second b c) (λ t. grind (arith, nat_tests)) (λ t. grind (arith, nat_tests)),
        in_row (take 2 well_formed) (range 0xE0 0xE0) r more (drop 3 well_formed) 0xE0 0xE0 b x refl refl h (omega arith) (inside 0xE0 0xE0 b h (omega arith)),
      ),
    ))
    (λ (h : 0xE1 ≤ b). ⊎_elim
    (λ (j : b < 0xED).
    let r = range 0x80 0xBF in (
      r,
      (
        λ c. same_tests (within r c) (second b c) (λ t. grind (arith, nat_tests)) (λ t. grind (arith, nat_tests)),
        in_row (take 3 well_formed) (range 0xE1 0xEC) r more (drop 4 well_formed) 0xE1 0xEC b x refl refl h (omega arith) (inside 0xE1 0xEC b h (omega arith)),
      ),
    ))
    (λ (h : 0xED ≤ b). ⊎_elim
    (λ (j : b < 0xEE).
    let r = range 0x80 0x9F in (
      r,
      (
        λ c. same_tests (within r c) (second b c) (λ t. grind (arith, nat_tests)) (λ t. grind (arith, nat_tests)),
        in_row (take 4 well_formed) (range 0xED 0xED) r more (drop 5 well_formed) 0xED 0xED b x refl refl h (omega arith) (inside 0xED 0xED b h (omega arith)),
      ),
    ))
    (λ (h : 0xEE ≤ b).
    let r = range 0x80 0xBF in (
      r,
      (
        λ c. same_tests (within r c) (second b c) (λ t. grind (arith, nat_tests)) (λ t. grind (arith, nat_tests)),
        in_row (take 5 well_formed) (range 0xEE 0xEF) r more (drop 6 well_formed) 0xEE 0xEF b x refl refl h (omega arith) (inside 0xEE 0xEF b h (omega arith)),
      ),
    ))
    (cases_lt b 0xEE))
    (cases_lt b 0xED))
    (cases_lt b 0xE1)

leads_four : (b : ℕ) (x : List ℕ) → 0xF0 ≤ b → b ≤ 0xF4 → Leads 2 b x
unfolding lower higher
leads_four b x h k =
    let more = continuing 2 in
    ⊎_elim
    (λ (j : b < 0xF1).
    let r = range 0x90 0xBF in (
      r,
      (
        λ c. same_tests (within r c) (second b c) (λ t. grind (arith, nat_tests)) (λ t. grind (arith, nat_tests)),
        in_row (take 6 well_formed) (range 0xF0 0xF0) r more (drop 7 well_formed) 0xF0 0xF0 b x refl refl h (omega arith) (inside 0xF0 0xF0 b h (omega arith)),
      ),
    ))
    (λ (h : 0xF1 ≤ b). ⊎_elim
    (λ (j : b < 0xF4).
    let r = range 0x80 0xBF in (
      r,
      (
        λ c. same_tests (within r c) (second b c) (λ t. grind (arith, nat_tests)) (λ t. grind (arith, nat_tests)),
        in_row (take 7 well_formed) (range 0xF1 0xF3) r more (drop 8 well_formed) 0xF1 0xF3 b x refl refl h (omega arith) (inside 0xF1 0xF3 b h (omega arith)),
      ),
    ))
    (λ (h : 0xF4 ≤ b).
    let r = range 0x80 0x8F in (
      r,
      (
        λ c. same_tests (within r c) (second b c) (λ t. grind (arith, nat_tests)) (λ t. grind (arith, nat_tests)),
        in_row (take 8 well_formed) (range 0xF4 0xF4) r more (drop 9 well_formed) 0xF4 0xF4 b x refl refl h k (inside 0xF4 0xF4 b h k),
      ),
    ))
    (cases_lt b 0xF4))
    (cases_lt b 0xF1)

-- a first byte of ASCII, and one of no sequence
pub front_ascii : (b : ℕ) (x : List ℕ) → b < 0x80 → front (b ∷ x) ≡ Whole (b ∷ [])
unfolding higher
front_ascii b x h =
    only_row [] (range 0x00 0x7F ∷ []) (drop 1 well_formed) b x tt (misses_higher (drop 1 well_formed) 0x7F b refl (omega arith))
    ∙ step_in (range 0x00 0x7F) [] b x (inside 0x00 0x7F b (omega arith) (omega arith))

pub front_between : (b : ℕ) (x : List ℕ) → 0x80 ≤ b → b < 0xC2 → front (b ∷ x) ≡ Neither
unfolding higher
front_between b x h k =
    missed well_formed b x (above 0x00 0x7F b h, misses_higher (drop 1 well_formed) 0xC1 b refl (omega arith))

pub front_past : (b : ℕ) (x : List ℕ) → 0xF4 < b → front (b ∷ x) ≡ Neither
unfolding lower
front_past b x h = missed well_formed b x (misses_lower well_formed 0xF5 b refl h)

trailing : (d : ℕ) → continues d ≡ true → within (range 0x80 0xBF) d ≡ true
trailing d h = grind (arith, nat_tests)

not_trailing : (d : ℕ) → continues d ≡ false → within (range 0x80 0xBF) d ≡ false
not_trailing d h = same_tests _ _ (λ t. grind (arith, nat_tests)) (λ t. cc)

-- what follows a first byte
leads_alone : (k b : ℕ) → Leads k b [] → front (b ∷ []) ≡ Part
leads_alone k b p = p.1.1

leads_wrong : (k b c : ℕ) (x : List ℕ) → Leads k b (c ∷ x) → second b c ≡ false → front (b ∷ c ∷ x) ≡ Neither
leads_wrong k b c x p h = p.1.1 ∙ ap (longer b) (step_out p.0 (continuing k) c x (p.1.0 c ∙ h))

leads_right : (k b c : ℕ) (x : List ℕ) → Leads k b (c ∷ x) → second b c ≡ true → front (b ∷ c ∷ x) ≡ longer b (longer c (against (continuing k) x))
leads_right k b c x p h = p.1.1 ∙ ap (longer b) (step_in p.0 (continuing k) c x (p.1.0 c ∙ h))

third_right : (k b c d : ℕ) (x : List ℕ) → Leads (suc k) b (c ∷ d ∷ x) → second b c ≡ true → continues d ≡ true → front (b ∷ c ∷ d ∷ x) ≡ longer b (longer c (longer d (against (continuing k) x)))
third_right k b c d x p h i = leads_right (suc k) b c (d ∷ x) p h ∙ ap (λ f. longer b (longer c f)) (step_in (range 0x80 0xBF) (continuing k) d x (trailing d i))

-- the same of each length
pub front_alone : (b : ℕ) → 0xC2 ≤ b → b ≤ 0xF4 → front (b ∷ []) ≡ Part
front_alone b h k =
    ⊎_elim (λ (j : b < 0xE0). leads_alone 0 b (leads_two b [] h j))
    (λ (j : 0xE0 ≤ b). ⊎_elim (λ (i : b < 0xF0). leads_alone 1 b (leads_three b [] j i)) (λ (i : 0xF0 ≤ b). leads_alone 2 b (leads_four b [] i k)) (cases_lt b 0xF0))
    (cases_lt b 0xE0)

pub front_wrong : (b c : ℕ) (x : List ℕ) → 0xC2 ≤ b → b ≤ 0xF4 → second b c ≡ false → front (b ∷ c ∷ x) ≡ Neither
front_wrong b c x h k s =
    ⊎_elim (λ (j : b < 0xE0). leads_wrong 0 b c x (leads_two b (c ∷ x) h j) s)
    (λ (j : 0xE0 ≤ b). ⊎_elim (λ (i : b < 0xF0). leads_wrong 1 b c x (leads_three b (c ∷ x) j i) s) (λ (i : 0xF0 ≤ b). leads_wrong 2 b c x (leads_four b (c ∷ x) i k) s) (cases_lt b 0xF0))
    (cases_lt b 0xE0)

pub front_two : (b c : ℕ) (x : List ℕ) → 0xC2 ≤ b → b < 0xE0 → second b c ≡ true → front (b ∷ c ∷ x) ≡ Whole (b ∷ c ∷ [])
front_two b c x h k s = leads_right 0 b c x (leads_two b (c ∷ x) h k) s

pub front_cut_two : (b c : ℕ) → 0xE0 ≤ b → b ≤ 0xF4 → second b c ≡ true → front (b ∷ c ∷ []) ≡ Part
front_cut_two b c h k s =
    ⊎_elim (λ (i : b < 0xF0). leads_right 1 b c [] (leads_three b (c ∷ []) h i) s) (λ (i : 0xF0 ≤ b). leads_right 2 b c [] (leads_four b (c ∷ []) i k) s) (cases_lt b 0xF0)

pub front_wrong_third : (b c d : ℕ) (x : List ℕ) → 0xE0 ≤ b → b ≤ 0xF4 → second b c ≡ true → continues d ≡ false → front (b ∷ c ∷ d ∷ x) ≡ Neither
front_wrong_third b c d x h k s w =
    ⊎_elim
    (λ (i : b < 0xF0). leads_right 1 b c (d ∷ x) (leads_three b (c ∷ d ∷ x) h i) s ∙ ap (λ f. longer b (longer c f)) (step_out (range 0x80 0xBF) (continuing 0) d x (not_trailing d w)))
    (λ (i : 0xF0 ≤ b). leads_right 2 b c (d ∷ x) (leads_four b (c ∷ d ∷ x) i k) s ∙ ap (λ f. longer b (longer c f)) (step_out (range 0x80 0xBF) (continuing 1) d x (not_trailing d w)))
    (cases_lt b 0xF0)

pub front_three : (b c d : ℕ) (x : List ℕ) → 0xE0 ≤ b → b < 0xF0 → second b c ≡ true → continues d ≡ true → front (b ∷ c ∷ d ∷ x) ≡ Whole (b ∷ c ∷ d ∷ [])
front_three b c d x h k s t = third_right 0 b c d x (leads_three b (c ∷ d ∷ x) h k) s t

pub front_cut_three : (b c d : ℕ) → 0xF0 ≤ b → b ≤ 0xF4 → second b c ≡ true → continues d ≡ true → front (b ∷ c ∷ d ∷ []) ≡ Part
front_cut_three b c d h k s t = third_right 1 b c d [] (leads_four b (c ∷ d ∷ []) h k) s t

pub front_wrong_fourth : (b c d e : ℕ) (x : List ℕ) → 0xF0 ≤ b → b ≤ 0xF4 → second b c ≡ true → continues d ≡ true → continues e ≡ false → front (b ∷ c ∷ d ∷ e ∷ x) ≡ Neither
front_wrong_fourth b c d e x h k s t w =
    third_right 1 b c d (e ∷ x) (leads_four b (c ∷ d ∷ e ∷ x) h k) s t ∙ ap (λ f. longer b (longer c (longer d f))) (step_out (range 0x80 0xBF) (continuing 0) e x (not_trailing e w))

pub front_four : (b c d e : ℕ) (x : List ℕ) → 0xF0 ≤ b → b ≤ 0xF4 → second b c ≡ true → continues d ≡ true → continues e ≡ true → front (b ∷ c ∷ d ∷ e ∷ x) ≡ Whole (b ∷ c ∷ d ∷ e ∷ [])
front_four b c d e x h k s t u =
    third_right 1 b c d (e ∷ x) (leads_four b (c ∷ d ∷ e ∷ x) h k) s t ∙ ap (λ f. longer b (longer c (longer d f))) (step_in (range 0x80 0xBF) (continuing 0) e x (trailing e u))
