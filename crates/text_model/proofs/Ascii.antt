-- A byte of ASCII is a character by itself, whatever stands before it, and no other sequence encodes its character.
use Rattle.std.proofs.Common.{◌≡◌, ℕ, zero, suc, ◌<◌, ◌≤◌, ◌⊎◌, inl, inr, Bool, true, false, nat_le, nat_lt, ◌&&◌, map, List, [], ◌∷◌, ◌++◌, length, drop, refl, ap, sym, ◌∙◌, arith}
use Rattle.std.proofs.lemmas.Bool.{and_parts}
use Rattle.std.proofs.lemmas.Bool.Decides.{nat_tests}
use Rattle.text_model.specs.Characters.{Scalar, Raw}
use Rattle.text_model.specs.Decoding.{Range, range, within, Front, Whole, Part, Neither, longer, against, against_any, front, well_formed, scalar_of, following, characters_after, tail_after, characters, tail, all_characters}
use Rattle.text_model.proofs.Decodings.{characters-whole, characters-part, characters-neither, tail-whole, tail-part, tail-neither, front-append-whole, front-append-neither, front-length, following-length}

-- RANGES
inside : (r : Range) (b : ℕ) → within r b ≡ true → (r.low ≤ b) × (b ≤ r.high)
inside r b t = (grind (arith, nat_tests), grind (arith, nat_tests))

below : (r : Range) (b : ℕ) → b < r.low → within r b ≡ false
below r b h = grind (arith, nat_tests)

above : (r : Range) (b : ℕ) → r.high < b → within r b ≡ false
above r b h = grind (arith, nat_tests)

-- ranges of bytes that follow a first one
abbrev inner : List Range → Bool
inner [] = true
inner (r ∷ row) = (nat_le 0x80 r.low && nat_le r.high 0xBF) && inner row

inner_parts : (r : Range) (row : List Range) → inner (r ∷ row) ≡ true → (0x80 ≤ r.low) × (r.high ≤ 0xBF) × (inner row ≡ true)
inner_parts r row t =
    let both : ((nat_le 0x80 r.low && nat_le r.high 0xBF) ≡ true) × (inner row ≡ true) = and_parts _ _ t in
    let ends : (nat_le 0x80 r.low ≡ true) × (nat_le r.high 0xBF ≡ true) = and_parts _ _ both.0 in
    let low : nat_le 0x80 r.low ≡ true = ends.0 in
    let high : nat_le r.high 0xBF ≡ true = ends.1 in
    (grind (arith, nat_tests), grind (arith, nat_tests), both.1)

-- the first ranges of all rows begin above n
abbrev higher : ℕ → List (List Range) → Bool
higher n [] = true
higher n ([] ∷ rows) = false
higher n ((r ∷ row) ∷ rows) = nat_lt n r.low && higher n rows

-- no two rows share a first byte
abbrev ordered : List (List Range) → Bool
ordered [] = true
ordered ([] ∷ rows) = false
ordered ((r ∷ row) ∷ rows) = (inner row && higher r.high rows) && ordered rows

missed : (rows : List (List Range)) (n b : ℕ) (x : List ℕ) → higher n rows ≡ true → b ≤ n → against_any rows (b ∷ x) ≡ Neither
missed [] n b x t h = refl
missed ([] ∷ rows) n b x t h = cc
missed ((r ∷ row) ∷ rows) n b x t h =
    let both : (nat_lt n r.low ≡ true) × (higher n rows ≡ true) = and_parts _ _ t in
    let first : nat_lt n r.low ≡ true = both.0 in
    let less : b < r.low = grind (arith, nat_tests) in
    rw (below r b less, against_any) (missed rows n b x both.1 h)

-- WHAT ENDS A SEQUENCE
-- what was a part is none
abbrev closed : Front → Front
closed (Whole s) = Whole s
closed Part = Neither
closed Neither = Neither

abbrev or_else : Front → Front → Front
or_else f g = elim f [ Whole s ↦ Whole s | Part ↦ Part | Neither ↦ g ]

longer_closed : (b : ℕ) (f : Front) → longer b (closed f) ≡ closed (longer b f)
longer_closed b (Whole s) = refl
longer_closed b Part = refl
longer_closed b Neither = refl

or_closed : (b : ℕ) (f : Front) → or_else (closed (longer b f)) Neither ≡ closed (or_else (longer b f) Neither)
or_closed b (Whole s) = refl
or_closed b Part = refl
or_closed b Neither = refl

abbrev step : Bool → Front → Front
step u f = elim u [ true ↦ f | false ↦ Neither ]

against_closed : (row : List Range) (x y : List ℕ) → inner row ≡ true → against row (x ++ 13 ∷ y) ≡ closed (against row x)
against_closed [] x y t = refl
against_closed (r ∷ row) [] y t =
    let parts : (0x80 ≤ r.low) × (r.high ≤ 0xBF) × (inner row ≡ true) = inner_parts r row t in
    rw (below r 13 (omega (arith, parts.0)), against) refl
against_closed (r ∷ row) (b ∷ x) y t = by (within r b) (against_closed row x y (inner_parts r row t).2)
  where
    by : (u : Bool) → against row (x ++ 13 ∷ y) ≡ closed (against row x) → step u (longer b (against row (x ++ 13 ∷ y))) ≡ closed (step u (longer b (against row x)))
    by true rest = ap (longer b) rest ∙ longer_closed b (against row x)
    by false rest = refl

any_closed : (rows : List (List Range)) (b : ℕ) (x y : List ℕ) → ordered rows ≡ true → against_any rows (b ∷ (x ++ 13 ∷ y)) ≡ closed (against_any rows (b ∷ x))
any_closed [] b x y t = refl
any_closed ([] ∷ rows) b x y t = cc
any_closed ((r ∷ row) ∷ rows) b x y t = by (within r b) refl (any_closed rows b x y (and_parts _ _ t).1)
  where
    parts : ((inner row ≡ true) × (higher r.high rows ≡ true)) × (ordered rows ≡ true)
    parts = let both : ((inner row && higher r.high rows) ≡ true) × (ordered rows ≡ true) = and_parts _ _ t in (and_parts _ _ both.0, both.1)

    by : (u : Bool) → within r b ≡ u → against_any rows (b ∷ (x ++ 13 ∷ y)) ≡ closed (against_any rows (b ∷ x)) →
        or_else (step u (longer b (against row (x ++ 13 ∷ y)))) (against_any rows (b ∷ (x ++ 13 ∷ y))) ≡ closed (or_else (step u (longer b (against row x))) (against_any rows (b ∷ x)))
    by false e rest = rest
    by true e rest =
        let fits : b ≤ r.high = (inside r b e).1 in
        rw (missed rows r.high b (x ++ 13 ∷ y) parts.0.1 fits, missed rows r.high b x parts.0.1 fits, against_closed row x y parts.0.0, longer_closed b (against row x)) (or_closed b (against row x))

pub front_closed : (b : ℕ) (x y : List ℕ) → front (b ∷ x) ≡ Part → front (b ∷ (x ++ 13 ∷ y)) ≡ Neither
front_closed b x y e = any_closed well_formed b x y refl ∙ ap closed e

-- A PART
abbrev pub Inner : List ℕ → Type 0
Inner [] = Unit {0}
Inner (b ∷ x) = (0x80 ≤ b) × (b ≤ 0xBF) × Inner x

longer_part : (b : ℕ) (f : Front) → longer b f ≡ Part → f ≡ Part
longer_part b (Whole s) e = cc
longer_part b Part e = refl
longer_part b Neither e = cc

against_inner : (row : List Range) (x : List ℕ) → inner row ≡ true → against row x ≡ Part → Inner x
against_inner [] x t e = cc
against_inner (r ∷ row) [] t e = tt
against_inner (r ∷ row) (b ∷ x) t e = by (within r b) refl (against_inner row x (inner_parts r row t).2) e
  where
    by : (u : Bool) → within r b ≡ u → (against row x ≡ Part → Inner x) → step u (longer b (against row x)) ≡ Part → Inner (b ∷ x)
    by true u rest e =
        let parts : (0x80 ≤ r.low) × (r.high ≤ 0xBF) × (inner row ≡ true) = inner_parts r row t in
        let fits : (r.low ≤ b) × (b ≤ r.high) = inside r b u in
        (omega (arith, parts.0, fits.0), omega (arith, parts.1, fits.1), rest (longer_part b (against row x) e))
    by false u rest e = cc

any_inner : (rows : List (List Range)) (b : ℕ) (x : List ℕ) → ordered rows ≡ true → against_any rows (b ∷ x) ≡ Part → Inner x
any_inner [] b x t e = cc
any_inner ([] ∷ rows) b x t e = cc
any_inner ((r ∷ row) ∷ rows) b x t e = by (within r b) (against row x) refl (any_inner rows b x (and_parts _ _ t).1) e
  where
    parts : ((inner row && higher r.high rows) ≡ true) × (ordered rows ≡ true)
    parts = and_parts _ _ t

    by : (u : Bool) (f : Front) → against row x ≡ f → (against_any rows (b ∷ x) ≡ Part → Inner x) → or_else (step u (longer b f)) (against_any rows (b ∷ x)) ≡ Part → Inner x
    by false f k rest e = rest e
    by true (Whole s) k rest e = cc
    by true Part k rest e = let both : (inner row ≡ true) × (higher r.high rows ≡ true) = and_parts _ _ parts.0 in against_inner row x both.0 k
    by true Neither k rest e = rest e

front_inner : (b : ℕ) (x : List ℕ) → front (b ∷ x) ≡ Part → Inner x
front_inner b x e = any_inner well_formed b x refl e

-- what follows a first byte begins nothing
front_between : (b : ℕ) (x : List ℕ) → 0x80 ≤ b → b ≤ 0xBF → front (b ∷ x) ≡ Neither
front_between b x h k = rw (above (range 0x00 0x7F) b h, against_any, against) (missed (drop 1 well_formed) 0xBF b x refl k)

-- BEHIND ANY BYTES
raw_run : (x : List ℕ) → Inner x → (characters (x ++ 13 ∷ []) ≡ map Raw x ++ Scalar 13 ∷ []) × (tail (x ++ 13 ∷ []) ≡ [])
raw_run [] h = (refl, refl)
raw_run (b ∷ x) h =
    let none : front (b ∷ (x ++ 13 ∷ [])) ≡ Neither = front_between b (x ++ 13 ∷ []) h.0 h.1 in
    let rest = raw_run x h.2 in
    (characters-neither b (x ++ 13 ∷ []) none ∙ ap (λ cs. Raw b ∷ cs) rest.0, tail-neither b (x ++ 13 ∷ []) none ∙ rest.1)

abbrev EndsIn : ℕ → List ℕ → Type 0
EndsIn skip x = (characters_after skip (x ++ 13 ∷ []) ≡ (characters_after skip x ++ map Raw (tail_after skip x)) ++ Scalar 13 ∷ []) × (tail_after skip (x ++ 13 ∷ []) ≡ [])

return_after : (skip : ℕ) (x : List ℕ) → skip ≤ length x → EndsIn skip x
return_after zero [] h = (refl, refl)
return_after (suc skip) [] h = absurd (omega arith)
return_after (suc skip) (b ∷ x) h = return_after skip x (omega arith)
return_after zero (b ∷ x) h = by (front (b ∷ x)) refl (λ skip k. return_after skip x k)
  where
    by : (f : Front) → front (b ∷ x) ≡ f → ((skip : ℕ) → skip ≤ length x → EndsIn skip x) → EndsIn 0 (b ∷ x)
    by (Whole s) e behind =
        let more : front (b ∷ (x ++ 13 ∷ [])) ≡ Whole s = front-append-whole (b ∷ x) (13 ∷ []) s e in
        let rest = behind (following s) (following-length s (length x) (front-length (b ∷ x) s e)) in (
          rw (characters-whole b x s e, tail-whole b x s e) (characters-whole b (x ++ 13 ∷ []) s more ∙ ap (λ cs. Scalar (scalar_of s) ∷ cs) rest.0),
          tail-whole b (x ++ 13 ∷ []) s more ∙ rest.1,
        )
    by Part e behind =
        let none : front (b ∷ (x ++ 13 ∷ [])) ≡ Neither = front_closed b x [] e in
        let rest = raw_run x (front_inner b x e) in (
          rw (characters-part b x e, tail-part b x e) (characters-neither b (x ++ 13 ∷ []) none ∙ ap (λ cs. Raw b ∷ cs) rest.0),
          tail-neither b (x ++ 13 ∷ []) none ∙ rest.1,
        )
    by Neither e behind =
        let none : front (b ∷ (x ++ 13 ∷ [])) ≡ Neither = front-append-neither (b ∷ x) (13 ∷ []) e in
        let rest = behind 0 (omega arith) in (
          rw (characters-neither b x e, tail-neither b x e) (characters-neither b (x ++ 13 ∷ []) none ∙ ap (λ cs. Raw b ∷ cs) rest.0),
          tail-neither b (x ++ 13 ∷ []) none ∙ rest.1,
        )

-- a carriage return behind any bytes is their last character, and no tail is left
pub return_behind : (x : List ℕ) → characters (x ++ 13 ∷ []) ≡ all_characters x ++ Scalar 13 ∷ []
return_behind x = (return_after 0 x (omega arith)).0

pub no_tail_behind : (x : List ℕ) → tail (x ++ 13 ∷ []) ≡ []
no_tail_behind x = (return_after 0 x (omega arith)).1

-- SCALAR VALUES
-- each byte is at least the low end of its range
abbrev Reaches : List Range → List ℕ → Type 0
Reaches [] [] = Unit {0}
Reaches [] (b ∷ s) = ⊥
Reaches (r ∷ row) [] = ⊥
Reaches (r ∷ row) (b ∷ s) = (r.low ≤ b) × Reaches row s

against_reaches : (row : List Range) (x s : List ℕ) → against row x ≡ Whole s → Reaches row s
against_reaches [] x [] e = tt
against_reaches [] x (b ∷ s) e = cc
against_reaches (r ∷ row) [] s e = cc
against_reaches (r ∷ row) (b ∷ x) s e = by (within r b) (against row x) refl refl (λ s' k. against_reaches row x s' k) e
  where
    by : (u : Bool) (f : Front) → within r b ≡ u → against row x ≡ f → ((s' : List ℕ) → against row x ≡ Whole s' → Reaches row s') → step u (longer b f) ≡ Whole s → Reaches (r ∷ row) s
    by false f u k rest e = cc
    by true Part u k rest e = cc
    by true Neither u k rest e = cc
    by true (Whole s') u k rest e =
        let same : b ∷ s' ≡ s = cc in
        rw (← same) ((inside r b u).0, rest s' k)

abbrev lows : List Range → List ℕ
lows row = map (λ r. r.low) row

scalar_reaches : (row : List Range) (s : List ℕ) → Reaches row s → scalar_of (lows row) ≤ scalar_of s
scalar_reaches [] [] h = omega arith
scalar_reaches [] (a ∷ s) h = absurd h
scalar_reaches (r ∷ row) [] h = absurd h
scalar_reaches (r ∷ []) (a ∷ []) h = h.0
scalar_reaches (r ∷ []) (a ∷ b ∷ s) h = absurd h.1
scalar_reaches (r ∷ q ∷ row) (a ∷ []) h = absurd h.1
scalar_reaches (r ∷ q ∷ []) (a ∷ b ∷ []) h = omega (arith, h.0, h.1.0)
scalar_reaches (r ∷ q ∷ []) (a ∷ b ∷ c ∷ s) h = absurd h.1.1
scalar_reaches (r ∷ q ∷ p ∷ row) (a ∷ b ∷ []) h = absurd h.1.1
scalar_reaches (r ∷ q ∷ p ∷ []) (a ∷ b ∷ c ∷ []) h = omega (arith, h.0, h.1.0, h.1.1.0)
scalar_reaches (r ∷ q ∷ p ∷ []) (a ∷ b ∷ c ∷ d ∷ s) h = absurd h.1.1.1
scalar_reaches (r ∷ q ∷ p ∷ o ∷ row) (a ∷ b ∷ c ∷ []) h = absurd h.1.1.1
scalar_reaches (r ∷ q ∷ p ∷ o ∷ []) (a ∷ b ∷ c ∷ d ∷ []) h = omega (arith, h.0, h.1.0, h.1.1.0, h.1.1.1.0)
scalar_reaches (r ∷ q ∷ p ∷ o ∷ []) (a ∷ b ∷ c ∷ d ∷ e ∷ s) h = absurd h.1.1.1.1
scalar_reaches (r ∷ q ∷ p ∷ o ∷ n ∷ row) (a ∷ b ∷ c ∷ d ∷ s) h = omega arith

-- rows of sequences that encode no ASCII
abbrev heavy : List (List Range) → Bool
heavy [] = true
heavy (row ∷ rows) = nat_le 0x80 (scalar_of (lows row)) && heavy rows

any_heavy : (rows : List (List Range)) (x s : List ℕ) → heavy rows ≡ true → against_any rows x ≡ Whole s → 0x80 ≤ scalar_of s
any_heavy [] x s t e = cc
any_heavy (row ∷ rows) x s t e = by (against row x) refl (any_heavy rows x s (and_parts _ _ t).1) e
  where
    parts : (nat_le 0x80 (scalar_of (lows row)) ≡ true) × (heavy rows ≡ true)
    parts = and_parts _ _ t

    by : (f : Front) → against row x ≡ f → (against_any rows x ≡ Whole s → 0x80 ≤ scalar_of s) → or_else f (against_any rows x) ≡ Whole s → 0x80 ≤ scalar_of s
    by Part k rest e = cc
    by Neither k rest e = rest e
    by (Whole s') k rest e =
        let same : s' ≡ s = cc in
        let least : nat_le 0x80 (scalar_of (lows row)) ≡ true = parts.0 in
        let enough : 0x80 ≤ scalar_of (lows row) = grind (arith, nat_tests) in
        rw (← same) (omega (arith, enough, scalar_reaches row s' (against_reaches row x s' k)))

-- a whole sequence is one byte of ASCII, or encodes none
pub front_whole : (b : ℕ) (x s : List ℕ) → front (b ∷ x) ≡ Whole s → ((s ≡ b ∷ []) × (b ≤ 0x7F)) ⊎ ((0x80 ≤ scalar_of s) × (0x80 ≤ b))
front_whole b x s e = by (within (range 0x00 0x7F) b) refl e
  where
    by : (u : Bool) → within (range 0x00 0x7F) b ≡ u → or_else (step u (Whole (b ∷ []))) (against_any (drop 1 well_formed) (b ∷ x)) ≡ Whole s → ((s ≡ b ∷ []) × (b ≤ 0x7F)) ⊎ ((0x80 ≤ scalar_of s) × (0x80 ≤ b))
    by true u e = let same : b ∷ [] ≡ s = cc in inl (sym same, (inside (range 0x00 0x7F) b u).1)
    by false u e = inr (any_heavy (drop 1 well_formed) (b ∷ x) s refl e, grind (arith, nat_tests))

-- a part begins with no ASCII
pub front_part : (b : ℕ) (x : List ℕ) → front (b ∷ x) ≡ Part → 0x80 ≤ b
front_part b x e = by (within (range 0x00 0x7F) b) refl e
  where
    by : (u : Bool) → within (range 0x00 0x7F) b ≡ u → or_else (step u (Whole (b ∷ []))) (against_any (drop 1 well_formed) (b ∷ x)) ≡ Part → 0x80 ≤ b
    by true u e = cc
    by false u e = grind (arith, nat_tests)
