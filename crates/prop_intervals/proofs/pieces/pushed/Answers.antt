use Rattle.std.proofs.Common.{◌≡◌, List, [], ◌∷◌, ◌++◌, refl, ap, ◌∙◌, append-nil}
use Rattle.std.specs.Prelude.{replicate}
use Rattle.prop_intervals.specs.Runs.{Run, sets_of}
use Rattle.prop_intervals.proofs.SetLemmas.{sets_of-glued, apart-glued}
use Rattle.prop_intervals.proofs.pieces.pushed.Goals as goal

pub returns-clause-sets : goal.returns-clause-sets
returns-clause-sets c =
    let last : List Run = (c.args.set, c.args.len) ∷ [] in
    let one : c.join.result ≡ last = c.join.ensures ∙ rw (c.new.ensures, c.new-2.ensures, c.in_ok-node.ensures) refl in
    rw (c.glue.ensures, one) (sets_of-glued c.args.tree last ∙ ap (λ s. sets_of c.args.tree ++ s) (append-nil (replicate c.args.len c.args.set)))

pub returns-clause-apart : goal.returns-clause-apart
returns-clause-apart c =
    let last : List Run = (c.args.set, c.args.len) ∷ [] in
    let one : c.join.result ≡ last = c.join.ensures ∙ rw (c.new.ensures, c.new-2.ensures, c.in_ok-node.ensures) refl in
    rw (c.glue.ensures, one) (apart-glued c.args.tree last c.requires.apart (c.requires.len, tt, tt))
