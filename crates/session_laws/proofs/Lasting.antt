-- The processes of a session: all but the last have ended, and the text of those is closed.
use Rattle.std.proofs.Common.{◌≡◌, ℕ, zero, suc, Bool, true, false, ◌||◌, not, List, [], ◌∷◌, ◌++◌, length, refl, sym, ap, ap₂, ◌∙◌, append-nil}
use Rattle.std.proofs.lemmas.Grind.{flat_map-append}
use Rattle.std.proofs.lemmas.List.Folds.{list_any-append}
use Rattle.std.specs.Prelude.{Some, slice_get, slice_set, if◌then◌else◌}
use Rattle.std.specs.List.{list_any}
use Rattle.text_model.specs.Characters.{Ch, Scalar}
use Rattle.text_model.specs.Properties.{same_ch}
use Rattle.plain_machine.specs.State.{Process}
use Rattle.plain_machine.specs.Arguments.{runs}
use Rattle.machine_laws.proofs.Basics.{or_nil}
use Rattle.line_session.specs.Lines.{is_open}
use Rattle.session_laws.specs.Sessions.{is_stopped}
use Rattle.session_laws.proofs.Lined.{heard_by, feed_behind, closed_by, lines_by}

-- LISTS WITH ONE IN THE MIDDLE
module _ {X : Type 0} (x : X) where
  pub mid_there : (xs zs : List X) → slice_get ((xs ++ x ∷ []) ++ zs) (length xs) ≡ Some x
  mid_there [] zs = refl
  mid_there (y ∷ xs) zs = mid_there xs zs

  pub mid_set : (xs zs : List X) (y : X) → slice_set ((xs ++ x ∷ []) ++ zs) (length xs) y ≡ (xs ++ y ∷ []) ++ zs
  mid_set [] zs y = refl
  mid_set (z ∷ xs) zs y = ap (λ l. z ∷ l) (mid_set xs zs y)

-- THE EARLIER PROCESSES
-- one that has ended, with its line closed
pub record IsOld (x : Process) : Type 0 where
  pub ended : runs x.status ≡ false
  pub goes_on : is_stopped x ≡ false

abbrev pub AllOld : List Process → Type 0
AllOld [] = Unit {0}
AllOld (x ∷ list) = IsOld x × AllOld list

pub all_old_more : (list : List Process) (x : Process) → AllOld list → IsOld x → AllOld (list ++ x ∷ [])
all_old_more [] x h k = (k, tt)
all_old_more (y ∷ list) x h k = (h.0, all_old_more list x h.1 k)

-- none of them runs
pub none_runs : (list : List Process) (p : ℕ) (y : Process) → AllOld list → slice_get list p ≡ Some y → runs y.status ≡ true → ⊥
none_runs [] p y h e live = let k = e in cc
none_runs (x ∷ list) zero y h e live = let q : x ≡ y = cc in let k : true ≡ false = sym live ∙ ap (λ (z : Process). runs z.status) (sym q) ∙ h.0.ended in cc
none_runs (x ∷ list) (suc p) y h e live = none_runs list p y h.1 e live

-- so one that runs is the last
pub only_last : (list : List Process) (x y : Process) (p : ℕ) → AllOld list → slice_get (list ++ x ∷ []) p ≡ Some y → runs y.status ≡ true → (p ≡ length list) × (y ≡ x)
only_last [] x y zero h e live = (refl, let q : y ≡ x = cc in q)
only_last [] x y (suc p) h e live = absurd (let k = e in cc)
only_last (z ∷ list) x y zero h e live = absurd (let q : z ≡ y = cc in let k : true ≡ false = sym live ∙ ap (λ (z : Process). runs z.status) (sym q) ∙ h.0.ended in cc)
only_last (z ∷ list) x y (suc p) h e live = let k = only_last list x y p h.1 e live in (ap suc k.0, k.1)

-- STOPPED
none_stopped : (list : List Process) → AllOld list → list_any is_stopped list ≡ false
none_stopped [] h = refl
none_stopped (x ∷ list) h = ap₂ (λ a b. a || b) h.0.goes_on (none_stopped list h.1)

pub last_stopped : (list : List Process) (x : Process) → AllOld list → list_any is_stopped (list ++ x ∷ []) ≡ is_stopped x
last_stopped list x h = list_any-append is_stopped list (x ∷ []) ∙ ap (λ a. a || (is_stopped x || false)) (none_stopped list h) ∙ or_nil (is_stopped x)

-- THE TEXT
pub lines_last : (list : List Process) (x : Process) → lines_by (list ++ x ∷ []) ≡ lines_by list ++ closed_by x
lines_last list x = flat_map-append closed_by list (x ∷ []) ∙ ap (λ l. lines_by list ++ l) (append-nil (closed_by x))

-- behind what is closed, an end is open by itself
pub open_behind : (text more : List Ch) → is_open text ≡ false → is_open (text ++ more) ≡ is_open more
open_behind [] more h = refl
open_behind (c ∷ []) [] h = h
open_behind (c ∷ []) (d ∷ more) h = refl
open_behind (c ∷ d ∷ text) more h = open_behind (d ∷ text) more h

open_end : (text : List Ch) (c : Ch) → is_open (text ++ c ∷ []) ≡ not (same_ch c (Scalar 10))
open_end [] c = refl
open_end (d ∷ []) c = refl
open_end (d ∷ e ∷ text) c = open_end (e ∷ text) c

closes_text : (text : List Ch) → is_open (text ++ feed_behind true text) ≡ false
closes_text text = by (is_open text) refl
  where
    by : (b : Bool) → is_open text ≡ b → is_open (text ++ (if b then Scalar 10 ∷ [] else [])) ≡ false
    by true e = open_end text (Scalar 10)
    by false e = ap is_open (append-nil text) ∙ e

closed_old : (x : Process) → IsOld x → is_open (closed_by x) ≡ false
closed_old x h = ap (λ b. is_open (heard_by x ++ feed_behind (not b) (heard_by x))) h.ended ∙ closes_text (heard_by x)

pub lines_closed : (list : List Process) → AllOld list → is_open (lines_by list) ≡ false
lines_closed [] h = refl
lines_closed (x ∷ list) h = open_behind (closed_by x) (lines_by list) (closed_old x h.0) ∙ lines_closed list h.1
