use Rattle.std.proofs.Common.{◌≡◌, ◌*◌, ◌≤◌, ap, subst, sym, ◌∙◌}
use Rattle.editor_model.specs.Editor.{characters_in}
use Rattle.text_pool.specs.Pool.{live}
use Rattle.buffer_table.specs.Kept.{Kept, IsKept, cells_in, editor_of}
use Rattle.buffer_table.proofs.Shown.{account_cells, characters_below}
use Rattle.buffer_table.proofs.editor.Editor.pool_live.Goals as goal

pub returns-clause-account : goal.returns-clause-account
returns-clause-account c =
    let kept : IsKept c.args.self.now = subst IsKept c.self.view_is c.self.invariant in
    ap (λ n. 256 * n) (c.live.ensures ∙ ap (λ (k : Kept). live k.pool) c.self.view_is ∙ kept.all.account) ∙ account_cells c.args.self.now.pool c.args.self.now.buffers kept.all.lie

pub returns-clause-bound : goal.returns-clause-bound
returns-clause-bound c =
    let kept : IsKept c.args.self.now = subst IsKept c.self.view_is c.self.invariant in
    let account : 256 * c.live.result ≡ cells_in c.args.self.now.pool c.args.self.now.buffers = ap (λ n. 256 * n) (c.live.ensures ∙ ap (λ (k : Kept). live k.pool) c.self.view_is ∙ kept.all.account) ∙ account_cells c.args.self.now.pool c.args.self.now.buffers kept.all.lie in
    subst (λ n. characters_in (editor_of c.args.self.now).buffers ≤ n) (sym account) (characters_below c.args.self.now.pool c.args.self.now.buffers)
