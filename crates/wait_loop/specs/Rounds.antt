-- What comes next of a wait, in the words of the machine.
use Rattle.std.specs.Prelude.{◌≡◌, ℕ, suc, ◌⊎◌, true, false, List, [], ◌∷◌}
use Rattle.editor_model.specs.Values.{Value, T, Nil}
use Rattle.plain_machine.specs.State.{State}
use Rattle.plain_machine.specs.Items.{Item, GiveAnswer, Wait, Target, Waiting}
use Rattle.plain_machine.specs.Calls.{on}
use Rattle.plain_machine.specs.Waits.{eligible, from_eligible, target_is_eligible, ask_process, wait}
use Rattle.wait_loop.specs.declared.rounds.Step.{Step}
use Rattle.wait_loop.specs.declared.rounds.Step.TheVariants.{Ask, Done}

-- WHAT COMES NEXT
abbrev pub IfAsk : Step → (ℕ → Type 0) → Type 0
IfAsk (Ask p) P = P p
IfAsk (Done answer) P = Unit {0}

abbrev pub IfDone : Step → Type 0 → Type 0
IfDone (Ask p) P = Unit {0}
IfDone (Done answer) P = P

-- the wait answers nil: its target isn't eligible, or nobody is left in this round and none is eligible or
-- no round is left
abbrev pub GivesNil : State → Waiting → Type 0
GivesNil s w = (w.counted ≡ false) ×
    ((target_is_eligible s w ≡ false) ⊎
    ((from_eligible s w w.asking ≡ []) × ((eligible s w ≡ []) ⊎ (w.rounds ≡ 0))))

-- p is the first eligible one of those left in this round, and is taken
pub record Takes (s : State) (w : Waiting) (p : ℕ) (v : Waiting) : Type 0 where
  pub first : from_eligible s w w.asking ≡ p ∷ v.asking
  pub same : v ≡ record w { asking = v.asking }

-- nobody is left in this round; another one begins with the eligible processes, and the first of them, p,
-- is taken
pub record BeginsRound (s : State) (w : Waiting) (p : ℕ) (v : Waiting) : Type 0 where
  pub over : from_eligible s w w.asking ≡ []
  pub first : eligible s w ≡ p ∷ v.asking
  pub one_less : w.rounds ≡ suc v.rounds
  pub same : v ≡ record w { rounds = v.rounds; asking = v.asking }

-- p is to be asked, and the wait is left with the others
pub record AsksNext (s : State) (w : Waiting) (p : ℕ) (v : Waiting) : Type 0 where
  pub quiet : w.counted ≡ false
  pub fit : target_is_eligible s w ≡ true
  pub taken : Takes s w p v ⊎ BeginsRound s w p v

-- THE MACHINE'S STEPS, whatever the target of the answer and the work behind the wait
abbrev pub Answers : State → Waiting → Value → Type 0
Answers s w v = (target : Target) (rest : List Item) → wait s w target rest ≡ on s (GiveAnswer v target ∷ rest)

abbrev pub GoesOn : State → (w v : Waiting) → Type 0
GoesOn s w v = (target : Target) (rest : List Item) → wait s w target rest ≡ on s (Wait v target ∷ rest)

abbrev pub AsksProcess : State → Waiting → (p : ℕ) → Waiting → Type 0
AsksProcess s w p v =
    (target : Target) (rest : List Item) → wait s w target rest ≡ ask_process s v target rest p

-- in one step, or in two where a round begins first
abbrev pub Leads : State → Waiting → Step → Waiting → Type 0
Leads s w (Ask p) v = AsksProcess s w p v ⊎ ((u : Waiting) × (GoesOn s w u × AsksProcess s u p v))
Leads s w (Done true) v = Answers s w T
Leads s w (Done false) v = Answers s w Nil
