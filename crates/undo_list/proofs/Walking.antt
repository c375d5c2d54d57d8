-- The walk of the code comes to the plan of the definitions.
use Rattle.std.proofs.Common.{◌≡◌, ℕ, zero, suc, ◌+◌, ◌-◌, ◌≤◌, ◌<◌, Bool, true, false, List, [], ◌∷◌, length, refl, ap, sym, ◌∙◌, arith, Result, Ok, Err, Option, Some, None}
use Rattle.std.specs.Prelude.{◌==◌, if◌then◌else◌}
use Rattle.std.proofs.lemmas.Bool.{false≢true, eq-eqb, ne_eqb}
use Rattle.text_model.specs.Undo.{Rec, Boundary, Point, Inserted, Deleted, Prop, First, Moved, Entry, Undo, is_boundary, groups, trial, oldest, lies_inside, max_after, pending, pass, passed}
use Rattle.text_model.proofs.Cases.{by_test, if_true, if_false}
use Rattle.undo_list.specs.Plans.{without_boundaries, plan_of, planned_from, planned}
use Rattle.undo_list.specs.Walks.{stepped}
use Rattle.undo_list.specs.declared.plan.Plan.{Plan}
use Rattle.undo_list.specs.declared.plan.Refused.{Refused}
use Rattle.undo_list.specs.declared.plan.Refused.TheVariants.{Disabled, Outside}
use Rattle.undo_list.specs.declared.walk.Walk.{Walk}

-- what the walk comes to over these records
abbrev pub walked : List Entry → Walk → Result Plan Refused
walked [] w = Ok w.plan
walked (e ∷ entries) w = if w.left == 0 then Ok w.plan else (if lies_inside w.min w.max e.what then walked entries (stepped e w) else Err (Outside e.serial))

-- the plan that passes these records behind those that the walk has passed
abbrev pub more : Plan → List Entry → Option Entry → Result Plan Refused
more plan passed (Some outside) = Err (Outside outside.serial)
more plan passed None = Ok (record { first = plan.first; last = oldest plan.last passed; count = plan.count + length (without_boundaries passed) })

-- a walk with so many groups left
abbrev pub at : (left min max : ℕ) → Plan → Walk
at left min max plan = record { left = left; min = min; max = max; plan = plan }

-- TESTS
choose_true : {A : Type 0} (b : Bool) (x y : A) → b ≡ true → (elim b [ true ↦ x | false ↦ y ]) ≡ x
choose_true true x y h = refl
choose_true false x y h = absurd (false≢true h)

choose_false : {A : Type 0} (b : Bool) (x y : A) → b ≡ false → (elim b [ true ↦ x | false ↦ y ]) ≡ y
choose_false false x y h = refl
choose_false true x y h = absurd (false≢true (sym h))

-- ONE RECORD
ends : (plan : Plan) → more plan [] None ≡ Ok plan
ends plan = let e : plan.count + 0 ≡ plan.count = omega arith in rw e refl

tried : (min max : ℕ) (e : Entry) (es : List Entry) → lies_inside min max e.what ≡ true → trial min max (e ∷ es) ≡ trial min (max_after max e.what) es
tried min max e es h = choose_true (lies_inside min max e.what) _ _ h

met : (min max : ℕ) (e : Entry) (es : List Entry) → lies_inside min max e.what ≡ false → trial min max (e ∷ es) ≡ Some e
met min max e es h = choose_false (lies_inside min max e.what) _ _ h

-- a boundary lies inside and changes no bound
boundary_inside : (min max : ℕ) (r : Rec) → is_boundary r ≡ true → (lies_inside min max r ≡ true) × (max_after max r ≡ max)
boundary_inside min max Boundary h = (refl, refl)
boundary_inside min max (Point p) h = absurd (false≢true h)
boundary_inside min max (Inserted b p) h = absurd (false≢true h)
boundary_inside min max (Deleted piece p) h = absurd (false≢true h)
boundary_inside min max (Prop name old b p) h = absurd (false≢true h)
boundary_inside min max First h = absurd (false≢true h)
boundary_inside min max (Moved k a) h = absurd (false≢true h)

groups-boundary : (n : ℕ) (e : Entry) (es : List Entry) → is_boundary e.what ≡ true → groups (suc n) (e ∷ es) ≡ e ∷ groups n es
groups-boundary n e es h = choose_true (is_boundary e.what) _ _ h

groups-other : (n : ℕ) (e : Entry) (es : List Entry) → is_boundary e.what ≡ false → groups (suc n) (e ∷ es) ≡ e ∷ groups (suc n) es
groups-other n e es h = choose_false (is_boundary e.what) _ _ h

without-boundary : (e : Entry) (es : List Entry) → is_boundary e.what ≡ true → without_boundaries (e ∷ es) ≡ without_boundaries es
without-boundary e es h = rw h refl

without-other : (e : Entry) (es : List Entry) → is_boundary e.what ≡ false → without_boundaries (e ∷ es) ≡ e ∷ without_boundaries es
without-other e es h = rw h refl

more-boundary : (plan : Plan) (e : Entry) (es : List Entry) (t : Option Entry) → is_boundary e.what ≡ true → more plan (e ∷ es) t ≡ more (record plan { last = e.serial }) es t
more-boundary plan e es (Some o) h = refl
more-boundary plan e es None h = rw h refl

more-other : (plan : Plan) (e : Entry) (es : List Entry) (t : Option Entry) → is_boundary e.what ≡ false → more plan (e ∷ es) t ≡ more (record plan { last = e.serial; count = plan.count + 1 }) es t
more-other plan e es (Some o) h = refl
more-other plan e es None h =
    let c : plan.count + length (e ∷ without_boundaries es) ≡ (plan.count + 1) + length (without_boundaries es) = omega arith in
    ap (λ n. more_is n) (ap (λ l. plan.count + length l) (without-other e es h) ∙ c)
  where
    more_is : ℕ → Result Plan Refused
    more_is n = Ok (record { first = plan.first; last = oldest e.serial es; count = n })

-- THE WALK
some_left : (n : ℕ) → (suc n == 0) ≡ false
some_left n = ne_eqb (suc n) 0 (λ q. omega arith)

walked-boundary : (n min max : ℕ) (plan : Plan) (e : Entry) (es : List Entry) → is_boundary e.what ≡ true → walked (e ∷ es) (at (suc n) min max plan) ≡ walked es (at n min max (record plan { last = e.serial }))
walked-boundary n min max plan e es h =
    let i = boundary_inside min max e.what h in
    let less : suc n - 1 ≡ n = omega arith in
    rw (some_left n, i.0, i.1, h, less) refl

walked-other : (n min max : ℕ) (plan : Plan) (e : Entry) (es : List Entry) → is_boundary e.what ≡ false → lies_inside min max e.what ≡ true →
    walked (e ∷ es) (at (suc n) min max plan) ≡ walked es (at (suc n) min (max_after max e.what) (record plan { last = e.serial; count = plan.count + 1 }))
walked-other n min max plan e es h i = rw (some_left n, i, h) refl

walked-outside : (n min max : ℕ) (plan : Plan) (e : Entry) (es : List Entry) → lies_inside min max e.what ≡ false → walked (e ∷ es) (at (suc n) min max plan) ≡ Err (Outside e.serial)
walked-outside n min max plan e es i = rw (some_left n, i) refl

pub walked-on : (e : Entry) (es : List Entry) (w : Walk) → 0 < w.left → lies_inside w.min w.max e.what ≡ true → walked (e ∷ es) w ≡ walked es (stepped e w)
walked-on e es w some h = if_false _ (ne_eqb w.left 0 (λ q. omega arith)) ∙ if_true _ h

pub walked-met : (e : Entry) (es : List Entry) (w : Walk) → 0 < w.left → lies_inside w.min w.max e.what ≡ false → walked (e ∷ es) w ≡ Err (Outside e.serial)
walked-met e es w some h = if_false _ (ne_eqb w.left 0 (λ q. omega arith)) ∙ if_false _ h

pub walked-done : (es : List Entry) (w : Walk) → w.left ≤ 0 → walked es w ≡ Ok w.plan
walked-done [] w h = refl
walked-done (e ∷ es) w h = if_true _ (eq-eqb w.left 0 (omega arith))

pub count-stepped : (e : Entry) (w : Walk) → (stepped e w).plan.count ≤ w.plan.count + 1
count-stepped e w = by_test (λ n. n ≤ w.plan.count + 1) (is_boundary e.what) w.plan.count (w.plan.count + 1) (λ h. omega arith) (λ h. omega arith)

pub walk : (es : List Entry) (left min max : ℕ) (plan : Plan) → walked es (at left min max plan) ≡ more plan (groups left es) (trial min max (without_boundaries (groups left es)))
walk [] left min max plan = sym (ends plan)
walk (e ∷ es) zero min max plan = sym (ends plan)
walk (e ∷ es) (suc n) min max plan =
    go (is_boundary e.what) refl (lies_inside min max e.what) refl (walk es n min max (record plan { last = e.serial })) (walk es (suc n) min (max_after max e.what) (record plan { last = e.serial; count = plan.count + 1 }))
  where
    rest : ℕ → ℕ → Plan → List Entry → Result Plan Refused
    rest n max plan passed = more plan passed (trial min max (without_boundaries passed))

    go : (b : Bool) → is_boundary e.what ≡ b → (l : Bool) → lies_inside min max e.what ≡ l →
        walked es (at n min max (record plan { last = e.serial })) ≡ more (record plan { last = e.serial }) (groups n es) (trial min max (without_boundaries (groups n es))) →
        walked es (at (suc n) min (max_after max e.what) (record plan { last = e.serial; count = plan.count + 1 })) ≡ more (record plan { last = e.serial; count = plan.count + 1 }) (groups (suc n) es) (trial min (max_after max e.what) (without_boundaries (groups (suc n) es))) →
        walked (e ∷ es) (at (suc n) min max plan) ≡ more plan (groups (suc n) (e ∷ es)) (trial min max (without_boundaries (groups (suc n) (e ∷ es))))
    go true h l i one other =
        walked-boundary n min max plan e es h ∙ one
        ∙ sym (ap (λ p. more plan p (trial min max (without_boundaries p))) (groups-boundary n e es h)
        ∙ ap (λ q. more plan (e ∷ groups n es) (trial min max q)) (without-boundary e (groups n es) h) ∙ more-boundary plan e (groups n es) _ h)
    go false h true i one other =
        walked-other n min max plan e es h i ∙ other
        ∙ sym (ap (λ p. more plan p (trial min max (without_boundaries p))) (groups-other n e es h)
        ∙ ap (λ q. more plan (e ∷ groups (suc n) es) (trial min max q)) (without-other e (groups (suc n) es) h)
        ∙ ap (λ t. more plan (e ∷ groups (suc n) es) t) (tried min max e (without_boundaries (groups (suc n) es)) i) ∙ more-other plan e (groups (suc n) es) _ h)
    go false h false i one other =
        walked-outside n min max plan e es i
        ∙ sym (ap (λ p. more plan p (trial min max (without_boundaries p))) (groups-other n e es h)
        ∙ ap (λ q. more plan (e ∷ groups (suc n) es) (trial min max q)) (without-other e (groups (suc n) es) h)
        ∙ ap (λ t. more plan (e ∷ groups (suc n) es) t) (met min max e (without_boundaries (groups (suc n) es)) i))

begun : (first : ℕ) (passed : List Entry) (t : Option Entry) → more (record { first = first; last = first; count = 0 }) passed t ≡ plan_of first passed t
begun first passed (Some o) = refl
begun first passed None = let z : 0 + length (without_boundaries passed) ≡ length (without_boundaries passed) = omega arith in rw z refl

-- the walk from the newest pending record on
pub walk-plan : (n min max : ℕ) (e : Entry) (es : List Entry) → walked (e ∷ es) (at n min max (record { first = e.serial; last = e.serial; count = 0 })) ≡ planned_from n min max (e ∷ es)
walk-plan n min max e es = walk (e ∷ es) n min max (record { first = e.serial; last = e.serial; count = 0 }) ∙ begun e.serial (groups n (e ∷ es)) _

-- the same in a list of which it is known where it begins
pub walk-begun : (n min max : ℕ) (e : Entry) (es fs : List Entry) → fs ≡ e ∷ es → walked fs (at n min max (record { first = e.serial; last = e.serial; count = 0 })) ≡ planned_from n min max fs
walk-begun n min max e es fs h = rw h (walk-plan n min max e es)

pub planned-on : (n min max : ℕ) (u : Undo) (es : List Entry) → u.on ≡ true → pending u ≡ es → planned n min max u ≡ planned_from n min max es
planned-on n min max u es on h = choose_true u.on _ _ on ∙ ap (planned_from n min max) h

-- PASSING
last-planned : (first : ℕ) (passed : List Entry) (t : Option Entry) (plan : Plan) → plan_of first passed t ≡ Ok plan → oldest first passed ≡ plan.last
last-planned first passed (Some o) plan h = cc
last-planned first passed None plan h = let e : record { first = first; last = oldest first passed; count = length (without_boundaries passed) } ≡ plan = cc in ap (λ p. p.last) e

oldest-groups : (n k : ℕ) (e : Entry) (es : List Entry) → 1 ≤ n → oldest k (groups n (e ∷ es)) ≡ oldest e.serial (groups n (e ∷ es))
oldest-groups zero k e es h = absurd (omega arith)
oldest-groups (suc n) k e es h = go (is_boundary e.what) refl
  where
    go : (b : Bool) → is_boundary e.what ≡ b → oldest k (groups (suc n) (e ∷ es)) ≡ oldest e.serial (groups (suc n) (e ∷ es))
    go true i = rw (groups-boundary n e es i) refl
    go false i = rw (groups-other n e es i) refl

pub oldest-planned : (n min max k : ℕ) (u : Undo) (plan : Plan) → 1 ≤ n → planned n min max u ≡ Ok plan → oldest k (passed n u) ≡ plan.last
oldest-planned n min max k u plan some h = go u.on (pending u) h
  where
    go : (on : Bool) (l : List Entry) → ◌≡◌ {A = Result Plan Refused} (elim on [ true ↦ planned_from n min max l | false ↦ Err Disabled ]) (Ok plan) → oldest k (groups n l) ≡ plan.last
    go false l h = cc
    go true [] h = cc
    go true (e ∷ es) h = oldest-groups n k e es some ∙ last-planned e.serial (groups n (e ∷ es)) _ plan h

pub pass-planned : (n min max : ℕ) (u : Undo) (plan : Plan) → 1 ≤ n → planned n min max u ≡ Ok plan → record u { pending_below = plan.last } ≡ pass (passed n u) u
pass-planned n min max u plan some h = ap (λ k. record u { pending_below = k }) (sym (oldest-planned n min max u.pending_below u plan some h))

-- a plan is made where the trial met nothing outside
none-planned : (first : ℕ) (passed : List Entry) (t : Option Entry) (plan : Plan) → plan_of first passed t ≡ Ok plan → t ≡ None
none-planned first passed (Some o) plan h = cc
none-planned first passed None plan h = refl

-- a boundary doesn't count in a trial
trial-without : (min max : ℕ) (es : List Entry) → trial min max (without_boundaries es) ≡ trial min max es
trial-without min max [] = refl
trial-without min max (e ∷ es) = go e.what e.serial (λ least most. trial-without least most es)
  where
    tries : (v : Bool) (l m : Option Entry) (x : Entry) → l ≡ m → ◌≡◌ {A = Option Entry} (elim v [ true ↦ l | false ↦ Some x ]) (elim v [ true ↦ m | false ↦ Some x ])
    tries true l m x h = h
    tries false l m x h = refl

    go : (w : Rec) (k : ℕ) → ((least most : ℕ) → trial least most (without_boundaries es) ≡ trial least most es) → trial min max (without_boundaries (record { what = w; serial = k } ∷ es)) ≡ trial min max (record { what = w; serial = k } ∷ es)
    go Boundary k ih = ih min max
    go (Inserted from to) k ih = tries _ _ _ _ (ih min (max - (to - from)))
    go (Deleted piece place) k ih = tries _ _ _ _ (ih min (max + length piece))
    go (Prop name old from to) k ih = tries _ _ _ _ (ih min max)
    go (Point place) k ih = tries _ _ _ _ (ih min max)
    go First k ih = ih min max
    go (Moved m a) k ih = ih min max

pub tried-planned : (n min max : ℕ) (u : Undo) (plan : Plan) → planned n min max u ≡ Ok plan → trial min max (passed n u) ≡ None
tried-planned n min max u plan h = sym (trial-without min max (passed n u)) ∙ go u.on (pending u) h
  where
    go : (on : Bool) (l : List Entry) → ◌≡◌ {A = Result Plan Refused} (elim on [ true ↦ planned_from n min max l | false ↦ Err Disabled ]) (Ok plan) → trial min max (without_boundaries (groups n l)) ≡ None
    go false l h = cc
    go true [] h = cc
    go true (e ∷ es) h = none-planned e.serial (groups n (e ∷ es)) _ plan h
