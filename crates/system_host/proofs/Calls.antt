-- What a call leaves: the list with one child replaced, and the count of faults.
use Rattle.std.proofs.Common.{◌≡◌, ◌≢◌, ◌<◌, ℕ, zero, suc, Bool, false, List, [], ◌∷◌, length, slice_get, slice_set, vec_len, Some, IsTrue, refl, sym, ap, ◌∙◌, arith, length-set, true≢false}
use Rattle.std.specs.declared.vec.Vec.{Vec}
use Rattle.ek_types.specs.Io.{HasCause}
use Rattle.plain_machine.specs.Exchanges.{Answer}
use Rattle.host_link.specs.Hosts.{is_fault, faults_after}
use Rattle.system_host.specs.Answers.{OthersStay}

pub slice_get-slice_set_same : {C : Type 0} (children : List C) (child : ℕ) (c : C) → child < length children → slice_get (slice_set children child c) child ≡ Some c
slice_get-slice_set_same [] child c there = absurd (omega arith)
slice_get-slice_set_same (x ∷ children) zero c there = refl
slice_get-slice_set_same (x ∷ children) (suc child) c there = slice_get-slice_set_same children child c (omega arith)

slice_get-slice_set_other : {C : Type 0} (children : List C) (child other : ℕ) (c : C) → other ≢ child → slice_get (slice_set children child c) other ≡ slice_get children other
slice_get-slice_set_other [] child other c apart = refl
slice_get-slice_set_other (x ∷ children) zero zero c apart = absurd (apart refl)
slice_get-slice_set_other (x ∷ children) zero (suc other) c apart = refl
slice_get-slice_set_other (x ∷ children) (suc child) zero c apart = refl
slice_get-slice_set_other (x ∷ children) (suc child) (suc other) c apart = slice_get-slice_set_other children child other c (λ e. apart (ap suc e))

pub OthersStay-slice_set : {C : Type 0} (children : List C) (child : ℕ) (c : C) → OthersStay child children (slice_set children child c)
OthersStay-slice_set children child c = record {
  others = λ other apart. slice_get-slice_set_other children child other c apart;
  count = length-set children child c;
}

-- a child is in the list where a kill is kept for it
pub child_within : {C Z : Type 0} (children : Vec C Z) (kills : Vec Bool Z) (child : ℕ) → vec_len kills ≡ vec_len children → child < length kills.items → child < length children.items
child_within children kills child same there = omega (arith, kills.ok.0, children.ok.0)

-- an answer that is no fault leaves the count as it was
pub faults_after-no_fault : (answer : Answer) (faults : ℕ) → is_fault answer ≡ false → faults ≡ faults_after answer faults
faults_after-no_fault answer faults no_fault = rw no_fault refl

pub HasCause-no_fault : (answer : Answer) (faults : ℕ) → is_fault answer ≡ false → HasCause faults faults (IsTrue (is_fault answer))
HasCause-no_fault answer faults no_fault = record { later = omega arith; rose = λ fault. absurd (true≢false (sym fault ∙ no_fault)) }
