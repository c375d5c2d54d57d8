-- Lists of tests: where none refuses, each of them passes.
use Rattle.std.proofs.Common.{◌≡◌, Bool, true, false, List, [], ◌∷◌, ◌++◌, refl}
use Rattle.std.specs.Prelude.{None, Some}
use Rattle.editor_model.specs.Values.{Fault, ExchangesSpent}
use Rattle.editor_model.specs.Answers.{Test, refuse, first_fault}
use Rattle.plain_machine.specs.State.{State}
use Rattle.plain_machine.specs.Refusals.{may_ask, must_ask, only_where}

pub refuse_ok : (f : Fault) (ok : Bool) → refuse f ok ≡ None → ok ≡ true
refuse_ok f true h = refl
refuse_ok f false h = cc

-- where no test refuses, neither does the first, nor one of the others
pub no_fault : (t : Test) (ts : List Test) → first_fault (t ∷ ts) ≡ None → (t ≡ None) × (first_fault ts ≡ None)
no_fault None ts h = (refl, h)
no_fault (Some f) ts h = cc

pub append_passes : (front back : List Test) → first_fault (front ++ back) ≡ None → first_fault back ≡ None
append_passes [] back h = h
append_passes (t ∷ front) back h = append_passes front back (no_fault t (front ++ back) h).1

-- an exchange may be made
pub asks_pass : (s : State) → first_fault (must_ask s ∷ []) ≡ None → may_ask s ≡ true
asks_pass s h = refuse_ok ExchangesSpent (may_ask s) (no_fault (must_ask s) [] h).0

pub only_asks : (w : Bool) (s : State) → first_fault (only_where w (must_ask s) ∷ []) ≡ None → w ≡ true → may_ask s ≡ true
only_asks true s h e = asks_pass s h
only_asks false s h e = cc
