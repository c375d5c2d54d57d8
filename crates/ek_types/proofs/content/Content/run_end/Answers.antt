use Rattle.std.proofs.Common.{◌≡◌, ◌<◌, ◌≤◌, length, get_or, refl, subst, ap, sym, ◌∙◌, arith}
use Rattle.std.specs.List.{prefix_len}
use Rattle.ek_types.specs.Runs.{ends_by}
use Rattle.ek_types.specs.declared.content.Run.{Run}
use Rattle.ek_types.proofs.Pieces.{length-zip, enough_sets}
use Rattle.ek_types.proofs.Appending.{ends_later, ends_within, same_set, Reaches}
use Rattle.ek_types.proofs.content.Content.run_end.Goals as goal

found : (c : goal.In-Some) → prefix_len (ends_by c.args.i) c.self.inside.runs.items < length c.self.inside.runs.items
found c =
    let there = c.in-Some.ensures.lookup.3 in
    let below = there.0 in
    rw (c.ending_by.ensures.exact, c.deref.ensures.value, c.deref-2.ensures.value) at below

end_is : (c : goal.In-Some) (d : Run) → c.in-Some.run'.now ≡ get_or c.self.inside.runs.items (prefix_len (ends_by c.args.i) c.self.inside.runs.items) d
end_is c d =
    let there = c.in-Some.ensures.lookup.3 in
    there.1 d ∙ rw (c.ending_by.ensures.exact, c.deref.ensures.value, c.deref-2.ensures.value) refl

pub returns-in-Some-clause-behind : goal.returns-in-Some-clause-behind
returns-in-Some-clause-behind c =
    let later = ends_later c.self.inside.runs.items c.args.i c.in-Some.run'.now (found c) in
    subst (λ r. c.args.i < r.end) (sym (end_is c c.in-Some.run'.now)) later

within : (c : goal.In-Some) → c.in-Some.run'.now.end ≤ length c.self.inside.text.items
within c =
    let k = prefix_len (ends_by c.args.i) c.self.inside.runs.items in
    subst (λ r. r.end ≤ length c.self.inside.text.items) (sym (end_is c c.in-Some.run'.now)) (ends_within 0 c.self.inside.runs.items (length c.self.inside.text.items) k c.in-Some.run'.now c.self.invariant.0 (found c))

pub returns-in-Some-clause-within : goal.returns-in-Some-clause-within
returns-in-Some-clause-within c =
    omega (arith, within c, length-zip c.self.inside.text.items _ (enough_sets c.self.inside.text.items c.self.inside.runs.items c.self.invariant.0), ap length c.self.view_is)

pub returns-in-Some-clause-same : goal.returns-in-Some-clause-same
returns-in-Some-clause-same c = λ j from to.
    let reaches : Reaches c.args.i j c.self.inside.runs.items = λ d k. subst (λ r. j < r.end) (end_is c d) to in
    rw (← c.self.view_is) (same_set c.self.inside.text.items c.self.inside.runs.items c.args.i j c.self.invariant.0 from (omega (arith, to, within c)) reaches)

pub returns-in-None-clause-behind : goal.returns-in-None-clause-behind
returns-in-None-clause-behind c =
    omega (arith, c.requires, c.len.ensures, length-zip c.self.inside.text.items _ (enough_sets c.self.inside.text.items c.self.inside.runs.items c.self.invariant.0), ap length c.self.view_is)

pub returns-in-None-clause-within : goal.returns-in-None-clause-within
returns-in-None-clause-within c =
    omega (arith, c.len.ensures, length-zip c.self.inside.text.items _ (enough_sets c.self.inside.text.items c.self.inside.runs.items c.self.invariant.0), ap length c.self.view_is)

pub returns-in-None-clause-same : goal.returns-in-None-clause-same
returns-in-None-clause-same c = λ j from to.
    let none = c.in-None.ensures.lookup.3 in
    let behind = (rw (c.ending_by.ensures.exact, c.deref.ensures.value, c.deref-2.ensures.value) at none) in
    let reaches : Reaches c.args.i j c.self.inside.runs.items = λ d k. absurd (omega (arith, k, behind)) in
    rw (← c.self.view_is) (same_set c.self.inside.text.items c.self.inside.runs.items c.args.i j c.self.invariant.0 from (omega (arith, to, c.len.ensures)) reaches)
