use Rattle.std.proofs.Common.{◌∙◌, sym, ap}
use Rattle.ek_types.proofs.Putting.{set_found, set_absent}
use Rattle.ek_types.proofs.content.set_of.Goals as goal

pub returns-in-Some : goal.returns-in-Some
returns-in-Some c =
    let there = c.in-Some.ensures.lookup.3 in
    ap (λ r. r.set) (there.1 c.in-Some.run'.now) ∙ set_found c.args.runs.now c.args.number c.in-Some.run'.now there.0

pub returns-in-None : goal.returns-in-None
returns-in-None c = c.requires ∙ sym (set_absent c.args.runs.now c.args.number c.in-None.ensures.lookup.3)
