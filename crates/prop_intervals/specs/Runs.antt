-- Runs of one property set: how many characters have it.
use Rattle.std.specs.Prelude.{◌≡◌, ℕ, ◌+◌, ◌-◌, ◌≤◌, ◌<◌, false, nat_lt, ◌==◌, List, [], ◌∷◌, ◌++◌}
use Rattle.std.specs.Prelude.{replicate, if◌then◌else◌, MatchBool}
use Rattle.text_model.specs.Properties.{PropSet, same_set}

abbrev pub Run : Type 0
Run = PropSet × ℕ

-- the sets of the characters, one each
abbrev pub sets_of : List Run → List PropSet
sets_of [] = []
sets_of (r ∷ runs) = replicate r.1 r.0 ++ sets_of runs

-- how many characters there are
abbrev pub size : List Run → ℕ
size [] = 0
size (r ∷ runs) = r.1 + size runs

-- the run at a place made longer
abbrev pub grown : (at n : ℕ) → List Run → List Run
grown at n [] = []
grown at n (r ∷ runs) = if nat_lt at r.1 then (r.0, r.1 + n) ∷ runs else r ∷ grown (at - r.1) n runs

-- the next n characters at a place lie in one run, which has more
abbrev pub IsPartOfRun : (at n : ℕ) → List Run → Type 0
IsPartOfRun at n [] = ⊥
IsPartOfRun at n (r ∷ runs) =
    MatchBool (nat_lt at r.1) ((at + n ≤ r.1) × (n < r.1)) (IsPartOfRun (at - r.1) n runs)

-- the run at a place made shorter
abbrev pub shrunk : (at n : ℕ) → List Run → List Run
shrunk at n [] = []
shrunk at n (r ∷ runs) = if nat_lt at r.1 then (r.0, r.1 - n) ∷ runs else r ∷ shrunk (at - r.1) n runs

-- the runs in front of a place, and those from it on; a run through the place is cut
abbrev pub before : (at : ℕ) → List Run → List Run
before at [] = []
before at (r ∷ runs) =
    if nat_lt at r.1 then (if at == 0 then [] else (r.0, at) ∷ []) else r ∷ before (at - r.1) runs

abbrev pub behind : (at : ℕ) → List Run → List Run
behind at [] = []
behind at (r ∷ runs) = if nat_lt at r.1 then (r.0, r.1 - at) ∷ runs else behind (at - r.1) runs

-- runs with others behind them; the two runs where they meet are one, if they have one set
abbrev pub in_front : Run → List Run → List Run
in_front r [] = r ∷ []
in_front r (q ∷ runs) = if same_set r.0 q.0 then (r.0, r.1 + q.1) ∷ runs else r ∷ q ∷ runs

abbrev pub glued : (front back : List Run) → List Run
glued [] back = back
glued (r ∷ []) back = in_front r back
glued (r ∷ q ∷ front) back = r ∷ glued (q ∷ front) back

-- no run is empty, and neighbours have different sets
abbrev pub BeginsOther : PropSet → List Run → Type 0
BeginsOther set [] = Unit {0}
BeginsOther set (r ∷ runs) = same_set set r.0 ≡ false

abbrev pub AreApart : List Run → Type 0
AreApart [] = Unit {0}
AreApart (r ∷ runs) = (0 < r.1) × BeginsOther r.0 runs × AreApart runs

-- the run at a place has this set, and goes from start to end
pub record IsRunAt (runs : List Run) (place : ℕ) (set : PropSet) (start end : ℕ) : Type 0 where
  pub front : List Run
  pub back : List Run
  pub runs_are : runs ≡ front ++ (set, end - start) ∷ back
  pub start_is : start ≡ size front
  pub starts : start ≤ place
  pub ends : place < end

-- a set with which a run can be cut at a place: that of the run which has the place inside, if one has
abbrev pub CanCut : List Run → (place : ℕ) → PropSet → Type 0
CanCut [] place set = Unit {0}
CanCut (r ∷ runs) place set =
    MatchBool (nat_lt place r.1) (0 < place → r.0 ≡ set) (CanCut runs (place - r.1) set)
