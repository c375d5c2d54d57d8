use Rattle.std.proofs.Common.{◌≡◌, true, false, [], ◌⊎◌, inl, inr, subst}
use Rattle.plain_machine.specs.Waits.{eligible, target_is_eligible}
use Rattle.process_table.specs.Table.{with_table}
use Rattle.wait_loop.specs.KeptWaits.{KeptWait, new_waiting}
use Rattle.wait_loop.specs.Rounds.{BeginsRound, AsksNext}
use Rattle.wait_loop.proofs.StepLemmas.{leads_true, asked_is_eligible, eligible_is_made}
use Rattle.wait_loop.proofs.RoundLemmas.{asks, asks_lead, unfit_leads, over_leads}
use Rattle.wait_loop.proofs.rounds.Wait.next.Goals as goal

taken : (c : goal.In-Some) → AsksNext (with_table c.args.table.now) c.args.self.now.waiting c.in-Some.p c.take.new.self.waiting
taken c =
    let now = with_table c.args.table.now in
    let quiet : c.args.self.now.waiting.counted ≡ false = subst (λ (k : KeptWait). k.waiting.counted ≡ false) c.self.view_is c.if-self.false in
    let fit : true ≡ target_is_eligible now (new_waiting c.args.self.now.waiting.target 0 c.args.self.now.waiting.just) =
    subst (λ (k : KeptWait). true ≡ target_is_eligible now (new_waiting k.waiting.target 0 k.waiting.just)) c.self.view_is c.if-not-may_ask_target.ensures in
    asks now c.args.self.now.waiting c.in-Some.p c.take.new.self.waiting quiet fit (inl c.in-Some.ensures.taken)

pub returns-in-Some-clause-eligible : goal.returns-in-Some-clause-eligible
returns-in-Some-clause-eligible c = asked_is_eligible (with_table c.args.table.now) c.args.self.now.waiting c.in-Some.p c.take.new.self.waiting (taken c)

pub returns-in-Some-clause-made : goal.returns-in-Some-clause-made
returns-in-Some-clause-made c = eligible_is_made c.args.table.now c.args.self.now.waiting c.in-Some.p (returns-in-Some-clause-eligible c)

pub returns-in-Some-clause-machine : goal.returns-in-Some-clause-machine
returns-in-Some-clause-machine c = λ s stands. asks_lead s c.args.table.now c.args.self.now.waiting c.in-Some.p c.take.new.self.waiting stands (taken c)

begun : (c : goal.In-Some-begin) → AsksNext (with_table c.args.table.now) c.args.self.now.waiting c.in-Some-begin.p c.begin.new.self.waiting
begun c =
    let now = with_table c.args.table.now in
    let quiet : c.args.self.now.waiting.counted ≡ false = subst (λ (k : KeptWait). k.waiting.counted ≡ false) c.self.view_is c.if-self.false in
    let fit : true ≡ target_is_eligible now (new_waiting c.args.self.now.waiting.target 0 c.args.self.now.waiting.just) =
    subst (λ (k : KeptWait). true ≡ target_is_eligible now (new_waiting k.waiting.target 0 k.waiting.just)) c.self.view_is c.if-not-may_ask_target.ensures in
    let round : BeginsRound now c.args.self.now.waiting c.in-Some-begin.p c.begin.new.self.waiting =
    subst (λ (k : KeptWait). BeginsRound now k.waiting c.in-Some-begin.p c.begin.new.self.waiting) c.in_default.ensures.none c.in-Some-begin.ensures.begun in
    asks now c.args.self.now.waiting c.in-Some-begin.p c.begin.new.self.waiting quiet fit (inr round)

pub returns-in-Some-begin-clause-eligible : goal.returns-in-Some-begin-clause-eligible
returns-in-Some-begin-clause-eligible c = asked_is_eligible (with_table c.args.table.now) c.args.self.now.waiting c.in-Some-begin.p c.begin.new.self.waiting (begun c)

pub returns-in-Some-begin-clause-made : goal.returns-in-Some-begin-clause-made
returns-in-Some-begin-clause-made c = eligible_is_made c.args.table.now c.args.self.now.waiting c.in-Some-begin.p (returns-in-Some-begin-clause-eligible c)

pub returns-in-Some-begin-clause-machine : goal.returns-in-Some-begin-clause-machine
returns-in-Some-begin-clause-machine c = λ s stands. asks_lead s c.args.table.now c.args.self.now.waiting c.in-Some-begin.p c.begin.new.self.waiting stands (begun c)

pub returns-in-None-clause-machine : goal.returns-in-None-clause-machine
returns-in-None-clause-machine c =
    let quiet : c.args.self.now.waiting.counted ≡ false = subst (λ (k : KeptWait). k.waiting.counted ≡ false) c.self.view_is c.if-self.false in
    let last = subst (λ (k : KeptWait). (eligible (with_table c.args.table.now) k.waiting ≡ []) ⊎ (k.waiting.rounds ≡ 0)) c.in_default.ensures.none c.in-None.ensures.begun in
    λ s stands. over_leads s c.args.table.now c.args.self.now.waiting stands quiet c.in_default.ensures.taken last

pub returns-then-self-clause-machine : goal.returns-then-self-clause-machine
returns-then-self-clause-machine c = λ s stands. leads_true s c.args.self.now.waiting (subst (λ (k : KeptWait). k.waiting.counted ≡ true) c.self.view_is c.if-self.true)

pub returns-then-not-may_ask_target-clause-machine : goal.returns-then-not-may_ask_target-clause-machine
returns-then-not-may_ask_target-clause-machine c =
    let now = with_table c.args.table.now in
    let quiet : c.args.self.now.waiting.counted ≡ false = subst (λ (k : KeptWait). k.waiting.counted ≡ false) c.self.view_is c.if-self.false in
    let unfit : false ≡ target_is_eligible now (new_waiting c.args.self.now.waiting.target 0 c.args.self.now.waiting.just) =
    subst (λ (k : KeptWait). false ≡ target_is_eligible now (new_waiting k.waiting.target 0 k.waiting.just)) c.self.view_is c.if-not-may_ask_target.ensures in
    λ s stands. unfit_leads s c.args.table.now c.args.self.now.waiting stands quiet unfit
