use Rattle.std.proofs.Common.{◌≡◌, ◌+◌, ◌*◌, length, ap, subst, sym, arith}
use Rattle.gap_text.specs.Text.{Gapped, codes}
use Rattle.gap_text.proofs.Texts.{length_codes}
use Rattle.gap_text.proofs.text.Text.code_at.Goals as goal

pub overflow_add-i : goal.overflow_add-i
overflow_add-i c =
    let e : length (codes c.args.pool.now c.args.self.now) + c.self.inside.spare ≡ 256 * length c.self.inside.blocks.items =
    subst (λ (t : Gapped). length (codes c.args.pool.now c.args.self.now) + t.spare ≡ 256 * length t.blocks) (sym c.self.view_is) (length_codes c.args.pool.now c.args.self.now c.requires.lies) in
    omega arith

pub cell_at-requires-else-i-self-clause-range : goal.cell_at-requires-else-i-self-clause-range
cell_at-requires-else-i-self-clause-range c =
    let e : length (codes c.args.pool.now c.args.self.now) + c.self.inside.spare ≡ 256 * length c.self.inside.blocks.items =
    subst (λ (t : Gapped). length (codes c.args.pool.now c.args.self.now) + t.spare ≡ 256 * length t.blocks) (sym c.self.view_is) (length_codes c.args.pool.now c.args.self.now c.requires.lies) in
    omega (arith, ap length c.deref-else-i-self.ensures.value)
