use Rattle.std.proofs.Common.{◌≡◌, ◌≤◌, length, None, ap, sym, subst, ◌∙◌, arith}
use Rattle.text_model.specs.Undo.{passed, trial}
use Rattle.text_model.specs.Commit.{Buffer, Site}
use Rattle.machine_laws.specs.Boundaries.{KeepsBoundaries}
use Rattle.machine_laws.proofs.Groups.{trial-undone}
use Rattle.undo_list.specs.Plans.{planned}
use Rattle.undo_list.specs.State.{Recording}
use Rattle.buffer_core.specs.Meaning.{site_of}
use Rattle.buffer_core.proofs.Laws.{on_ok, whole_text}
use Rattle.buffer_core.proofs.buffer.Buffer.apply_plan.Goals as goal

pub returns-clause-undo : goal.returns-clause-undo
returns-clause-undo c = λ good.
    let old : Site = site_of c.args.pool.now c.args.self.now c.args.marks.now in
    let b = c.args.self.now in
    let groups = c.requires.plan.0 in
    let some = c.requires.plan.1 in
    let h = c.requires.plan.2 in
    let stored = c.bounds-bounds.ensures.stored in
    let size = whole_text c.args.pool.now b c.requires.lies stored in
    let within : old.buffer.end ≤ length old.buffer.text = (let end = stored.end in omega (arith, size, end)) in
    let inside : trial b.begin b.end (passed groups b.undo.state) ≡ None =
    subst (λ (u : Recording). trial b.begin b.end (passed groups u.state) ≡ None) c.undo.ensures
    (c.passed-passed.ensures.inside groups b.begin b.end some (ap (λ (u : Recording). planned groups b.begin b.end u.state) c.undo.ensures ∙ h)) in
    let keeps = c.undoing_keeps_boundaries.ensures c.args.id groups old good within (trial-undone b.begin b.end (passed groups b.undo.state) ∙ inside) in
    on_ok c.undo_groups.result (λ e. subst (λ (x : Buffer). KeepsBoundaries old.buffer x) (sym (ap (λ (s : Site). s.buffer) e)) keeps) (c.undo_groups.ensures.ok groups some h)
