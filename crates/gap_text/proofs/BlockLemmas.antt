-- Blocks that are live, and that are apart from each other.
use Rattle.std.proofs.Common.{ℕ, List, [], ◌∷◌, ◌++◌, sym}
use Rattle.text_pool.specs.Pool.{Pooled}
use Rattle.gap_text.specs.Blocks.{Absent, Distinct, AllLive, Apart}

pub absent_split : (b : ℕ) (xs ys : List ℕ) → Absent b (xs ++ ys) → Absent b xs × Absent b ys
absent_split b [] ys a = (tt, a)
absent_split b (x ∷ xs) ys a = let r = absent_split b xs ys a.1 in ((a.0, r.0), r.1)

pub absent_join : (b : ℕ) (xs ys : List ℕ) → Absent b xs → Absent b ys → Absent b (xs ++ ys)
absent_join b [] ys a k = k
absent_join b (x ∷ xs) ys a k = (a.0, absent_join b xs ys a.1 k)

pub live_split : (p : Pooled) (xs ys : List ℕ) → AllLive p (xs ++ ys) → AllLive p xs × AllLive p ys
live_split p [] ys l = (tt, l)
live_split p (x ∷ xs) ys l = let r = live_split p xs ys l.1 in ((l.0, r.0), r.1)

pub live_join : (p : Pooled) (xs ys : List ℕ) → AllLive p xs → AllLive p ys → AllLive p (xs ++ ys)
live_join p [] ys l k = k
live_join p (x ∷ xs) ys l k = (l.0, live_join p xs ys l.1 k)

pub apart_nil : (xs : List ℕ) → Apart xs []
apart_nil [] = tt
apart_nil (x ∷ xs) = (tt, apart_nil xs)

pub apart_split_right : (xs ys zs : List ℕ) → Apart xs (ys ++ zs) → Apart xs ys × Apart xs zs
apart_split_right [] ys zs a = (tt, tt)
apart_split_right (x ∷ xs) ys zs a =
    let here = absent_split x ys zs a.0 in
    let rest = apart_split_right xs ys zs a.1 in
    ((here.0, rest.0), (here.1, rest.1))

pub apart_join_right : (xs ys zs : List ℕ) → Apart xs ys → Apart xs zs → Apart xs (ys ++ zs)
apart_join_right [] ys zs a k = tt
apart_join_right (x ∷ xs) ys zs a k = (absent_join x ys zs a.0 k.0, apart_join_right xs ys zs a.1 k.1)

pub apart_split_left : (xs ys zs : List ℕ) → Apart (xs ++ ys) zs → Apart xs zs × Apart ys zs
apart_split_left [] ys zs a = (tt, a)
apart_split_left (x ∷ xs) ys zs a = let r = apart_split_left xs ys zs a.1 in ((a.0, r.0), r.1)

apart_cons : (x : ℕ) (xs ys : List ℕ) → Absent x ys → Apart ys xs → Apart ys (x ∷ xs)
apart_cons x xs [] a k = tt
apart_cons x xs (y ∷ ys) a k = (((λ e. a.0 (sym e)), k.0), apart_cons x xs ys a.1 k.1)

pub apart_sym : (xs ys : List ℕ) → Apart xs ys → Apart ys xs
apart_sym [] ys a = apart_nil ys
apart_sym (x ∷ xs) ys a = apart_cons x xs ys a.0 (apart_sym xs ys a.1)

pub distinct_split : (xs ys : List ℕ) → Distinct (xs ++ ys) → Distinct xs × Distinct ys × Apart xs ys
distinct_split [] ys d = (tt, d, tt)
distinct_split (x ∷ xs) ys d =
    let here = absent_split x xs ys d.0 in
    let rest = distinct_split xs ys d.1 in
    ((here.0, rest.0), rest.1, (here.1, rest.2))

pub distinct_join : (xs ys : List ℕ) → Distinct xs → Distinct ys → Apart xs ys → Distinct (xs ++ ys)
distinct_join [] ys d k a = k
distinct_join (x ∷ xs) ys d k a = (absent_join x xs ys d.0 a.0, distinct_join xs ys d.1 k a.1)

-- the last part goes before the middle one
pub distinct_turn : (xs ys zs : List ℕ) → Distinct ((xs ++ ys) ++ zs) → Distinct (xs ++ (zs ++ ys))
distinct_turn xs ys zs d =
    let outer = distinct_split (xs ++ ys) zs d in
    let inner = distinct_split xs ys outer.0 in
    let apart = apart_split_left xs ys zs outer.2 in
    distinct_join xs (zs ++ ys) inner.0 (distinct_join zs ys outer.1 inner.1 (apart_sym ys zs apart.1)) (apart_join_right xs zs ys apart.0 inner.2)

pub live_turn : (p : Pooled) (xs ys zs : List ℕ) → AllLive p ((xs ++ ys) ++ zs) → AllLive p (xs ++ (zs ++ ys))
live_turn p xs ys zs l =
    let outer = live_split p (xs ++ ys) zs l in
    let inner = live_split p xs ys outer.0 in
    live_join p xs (zs ++ ys) inner.0 (live_join p zs ys outer.1 inner.1)

pub absent_turn : (b : ℕ) (xs ys zs : List ℕ) → Absent b ((xs ++ ys) ++ zs) → Absent b (xs ++ (zs ++ ys))
absent_turn b xs ys zs l =
    let outer = absent_split b (xs ++ ys) zs l in
    let inner = absent_split b xs ys outer.0 in
    absent_join b xs (zs ++ ys) inner.0 (absent_join b zs ys outer.1 inner.1)

pub absent_turn_back : (b : ℕ) (xs ys zs : List ℕ) → Absent b (xs ++ (zs ++ ys)) → Absent b ((xs ++ ys) ++ zs)
absent_turn_back b xs ys zs l =
    let outer = absent_split b xs (zs ++ ys) l in
    let inner = absent_split b zs ys outer.1 in
    absent_join b (xs ++ ys) zs (absent_join b xs ys outer.0 inner.1) inner.0
