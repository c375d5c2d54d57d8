use Rattle.std.proofs.Common.{◌≡◌, ℕ, zero, suc, ◌+◌, ◌-◌, List, [], ◌∷◌, length, get_or, take, drop, refl, ap, sym, ◌∙◌, subst, arith}
use Rattle.std.specs.Prelude.{Some, None}
use Rattle.std.specs.List.{position}
use Rattle.std.proofs.lemmas.List.{drop_all}
use Rattle.plain_machine.specs.Items.{Waiting}
use Rattle.plain_machine.specs.Waits.{is_eligible}
use Rattle.process_table.specs.Table.{with_table}
use Rattle.wait_loop.specs.Aims.{waiting_for}
use Rattle.wait_loop.proofs.RoundLemmas.{none_left, one_left}
use Rattle.trace_check.specs.contracts.waiting.Waiting.{the_view}
use Rattle.trace_check.specs.Waits.{without_first}
use Rattle.trace_check.proofs.Aheads.{first_taken, nobody_taken}
use Rattle.trace_check.proofs.waiting.Waiting.pass_first.Goals as goal

read_again : (xs : List ℕ) (i : ℕ) → get_or xs i 0 ≡ get_or xs i (get_or xs i 0)
read_again [] i = refl
read_again (x ∷ xs) zero = refl
read_again (x ∷ xs) (suc i) = read_again xs i

pub returns-in-Some : goal.returns-in-Some
returns-in-Some c =
    let s = with_table c.args.table.now in
    let old = the_view c.self.inside in
    let seen = λ (xs : List ℕ). position (is_eligible s (waiting_for c.self.inside.aim)) (take (length xs - c.self.inside.at) (drop c.self.inside.at xs)) in
    let found : Some c.in-Some.i ≡ seen c.self.inside.asking.items = sym c.in-Some.is ∙ c.first_in.ensures ∙ ap seen c.deref.ensures.value in
    let left : Waiting = record old { asking = drop (c.self.inside.at + (c.in-Some.i + 1)) c.self.inside.asking.items } in
    let place = c.self.inside.at + c.in-Some.i in
    let first = get_or c.self.inside.asking.items place 0 in
    subst (λ (w : Waiting). left ≡ without_first s w) c.self.view_is
    (first_taken s old first left (one_left s old c.self.inside.asking.items c.self.inside.at c.in-Some.i first refl found (read_again c.self.inside.asking.items place)))

pub returns-in-None : goal.returns-in-None
returns-in-None c =
    let s = with_table c.args.table.now in
    let old = the_view c.self.inside in
    let items = c.self.inside.asking.items in
    let seen = λ (xs : List ℕ). position (is_eligible s (waiting_for c.self.inside.aim)) (take (length xs - c.self.inside.at) (drop c.self.inside.at xs)) in
    let found : None ≡ seen items = sym c.in-None.is ∙ c.first_in.ensures ∙ ap seen c.deref.ensures.value in
    let left : Waiting = record old { asking = drop c.len-self-inside.result items } in
    let none : drop c.len-self-inside.result items ≡ [] = drop_all c.len-self-inside.result items (omega (arith, c.len-self-inside.ensures)) in
    subst (λ (w : Waiting). left ≡ without_first s w) c.self.view_is
    (ap (λ l. record old { asking = l }) none ∙ nobody_taken s old (none_left s old items c.self.inside.at refl found))
