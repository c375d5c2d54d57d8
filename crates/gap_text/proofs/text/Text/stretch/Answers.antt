use Rattle.std.proofs.Common.{◌≡◌, ℕ, ◌+◌, List, length, take, drop, map, ap, sym, subst, ◌∙◌, arith}
use Rattle.text_model.specs.Characters.{code}
use Rattle.gap_text.specs.Blocks.{cells_of}
use Rattle.gap_text.specs.Text.{Gapped, characters, LiesIn}
use Rattle.gap_text.proofs.Texts.{lent_before, lent_behind}
use Rattle.gap_text.proofs.text.Text.stretch.Goals as goal

pub returns-then-at-self-clause-codes : goal.returns-then-at-self-clause-codes
returns-then-at-self-clause-codes c =
    let here : Gapped = record { blocks = c.self.inside.blocks.items; gap = c.self.inside.gap; spare = c.self.inside.spare } in
    let found = c.cells_from.result.now in
    let lies : LiesIn c.args.pool.now here = subst (LiesIn c.args.pool.now) (sym c.self.view_is) c.requires.lies in
    subst (λ (t : Gapped). found ≡ map code (take (length found) (drop c.args.at (characters c.args.pool.now t)))) c.self.view_is
    (lent_before c.args.pool.now here c.args.at found lies (omega arith)
    (c.cells_from.ensures.cells ∙ ap (λ (blocks : List ℕ). take (length found) (drop c.args.at (cells_of c.args.pool.now blocks))) c.deref.ensures.value))

pub returns-else-at-self-clause-codes : goal.returns-else-at-self-clause-codes
returns-else-at-self-clause-codes c =
    let here : Gapped = record { blocks = c.self.inside.blocks.items; gap = c.self.inside.gap; spare = c.self.inside.spare } in
    let found = c.cells_from-else-at-self.result.now in
    let lies : LiesIn c.args.pool.now here = subst (LiesIn c.args.pool.now) (sym c.self.view_is) c.requires.lies in
    subst (λ (t : Gapped). found ≡ map code (take (length found) (drop c.args.at (characters c.args.pool.now t)))) c.self.view_is
    (lent_behind c.args.pool.now here c.args.at found lies (omega arith)
    (c.cells_from-else-at-self.ensures.cells ∙ ap (λ (blocks : List ℕ). take (length found) (drop (c.args.at + c.self.inside.spare) (cells_of c.args.pool.now blocks))) c.deref-else-at-self.ensures.value))
