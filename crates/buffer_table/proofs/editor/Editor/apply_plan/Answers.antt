use Rattle.std.proofs.Common.{◌≡◌, ℕ, ◌≤◌, Ok, true, length, subst, sym, ap, ◌∙◌}
use Rattle.std.specs.Prelude.{Some}
use Rattle.std.proofs.lemmas.Result.{on_ok_weaker, on_err_weaker}
use Rattle.text_model.specs.Undo.{passed}
use Rattle.text_model.specs.Commit.{Buffer, undone_groups}
use Rattle.editor_model.specs.Editor as shown
use Rattle.editor_model.specs.Editor.{change_site}
use Rattle.gap_text.specs.Text.{LiesIn}
use Rattle.undo_list.specs.Plans.{planned}
use Rattle.buffer_core.specs.Meaning.{buffer_of}
use Rattle.buffer_core.specs.Standing.{AreWithin}
use Rattle.buffer_table.specs.Kept.{Named, Kept, Lives, is_live, editor_of}
use Rattle.buffer_table.proofs.KeptLemmas.{live_here, none_here, live_in, buffer_is, Changes, kept_after, editor_after, editor_same}
use Rattle.buffer_table.proofs.Undoing.{applied_changes}
use Rattle.buffer_table.proofs.editor.Editor.apply_plan.Goals as goal

pub apply_plan-requires-clause-lies : goal.apply_plan-requires-clause-lies
apply_plan-requires-clause-lies c =
    let live : is_live c.self.inside.buffers.items c.args.id ≡ true = live_in (record { buffers = c.self.inside.buffers.items; current = c.self.inside.current; marks = c.self.inside.marks; registers = c.self.inside.registers.items; pool = c.self.inside.pool; lifted = c.self.inside.lifted }) c.args.id (ap (λ (k : Kept). shown.is_live (editor_of k) c.args.id) c.self.view_is ∙ c.requires.live) in
    let lives : Lives c.self.inside.buffers.items c.args.id c.in-Some.live = live_here c.self.inside.buffers.items c.args.id c.index_mut.result.now c.in-Some.live live c.index_mut.ensures.value c.in-Some.is in
    let n : Named = record { name = c.live.inside.name.items; buffer = c.live.inside.buffer; read_only = c.live.inside.read_only } in
    let kept : Kept = (record { buffers = c.self.inside.buffers.items; current = c.self.inside.current; marks = c.self.inside.marks; registers = c.self.inside.registers.items; pool = c.self.inside.pool; lifted = c.self.inside.lifted }) in
    let here : Lives c.self.inside.buffers.items c.args.id n = lives ∙ ap (λ (m : Named). Some (Some m)) (sym c.live.view_is) in
    subst (λ (m : Named). LiesIn c.self.inside.pool m.buffer.text) (sym c.live.view_is) (c.self.invariant.all.lie c.args.id c.in-Some.live lives)

pub apply_plan-requires-clause-marks : goal.apply_plan-requires-clause-marks
apply_plan-requires-clause-marks c =
    let live : is_live c.self.inside.buffers.items c.args.id ≡ true = live_in (record { buffers = c.self.inside.buffers.items; current = c.self.inside.current; marks = c.self.inside.marks; registers = c.self.inside.registers.items; pool = c.self.inside.pool; lifted = c.self.inside.lifted }) c.args.id (ap (λ (k : Kept). shown.is_live (editor_of k) c.args.id) c.self.view_is ∙ c.requires.live) in
    let lives : Lives c.self.inside.buffers.items c.args.id c.in-Some.live = live_here c.self.inside.buffers.items c.args.id c.index_mut.result.now c.in-Some.live live c.index_mut.ensures.value c.in-Some.is in
    let n : Named = record { name = c.live.inside.name.items; buffer = c.live.inside.buffer; read_only = c.live.inside.read_only } in
    let kept : Kept = (record { buffers = c.self.inside.buffers.items; current = c.self.inside.current; marks = c.self.inside.marks; registers = c.self.inside.registers.items; pool = c.self.inside.pool; lifted = c.self.inside.lifted }) in
    let here : Lives c.self.inside.buffers.items c.args.id n = lives ∙ ap (λ (m : Named). Some (Some m)) (sym c.live.view_is) in
    subst (λ (m : Named). AreWithin c.args.id (length m.buffer.sets) c.self.inside.marks) (sym c.live.view_is) (c.self.invariant.all.within c.args.id c.in-Some.live lives)

pub apply_plan-requires-clause-plan : goal.apply_plan-requires-clause-plan
apply_plan-requires-clause-plan c =
    let live : is_live c.self.inside.buffers.items c.args.id ≡ true = live_in (record { buffers = c.self.inside.buffers.items; current = c.self.inside.current; marks = c.self.inside.marks; registers = c.self.inside.registers.items; pool = c.self.inside.pool; lifted = c.self.inside.lifted }) c.args.id (ap (λ (k : Kept). shown.is_live (editor_of k) c.args.id) c.self.view_is ∙ c.requires.live) in
    let lives : Lives c.self.inside.buffers.items c.args.id c.in-Some.live = live_here c.self.inside.buffers.items c.args.id c.index_mut.result.now c.in-Some.live live c.index_mut.ensures.value c.in-Some.is in
    let n : Named = record { name = c.live.inside.name.items; buffer = c.live.inside.buffer; read_only = c.live.inside.read_only } in
    let kept : Kept = (record { buffers = c.self.inside.buffers.items; current = c.self.inside.current; marks = c.self.inside.marks; registers = c.self.inside.registers.items; pool = c.self.inside.pool; lifted = c.self.inside.lifted }) in
    let here : Lives c.self.inside.buffers.items c.args.id n = lives ∙ ap (λ (m : Named). Some (Some m)) (sym c.live.view_is) in
    let there : shown.buffer_at (editor_of c.args.self.now) c.args.id ≡ buffer_of c.self.inside.pool c.live.inside.buffer = ap (λ (k : Kept). shown.buffer_at (editor_of k) c.args.id) (sym c.self.view_is) ∙ buffer_is kept c.args.id n here in
    subst (λ (b : Buffer). (groups : ℕ) × (1 ≤ groups) × (planned groups b.begin b.end b.undo ≡ Ok c.args.plan.now)) there c.requires.plan

pub invariant_of-self : goal.invariant_of-self
invariant_of-self c =
    let live : is_live c.self.inside.buffers.items c.args.id ≡ true = live_in (record { buffers = c.self.inside.buffers.items; current = c.self.inside.current; marks = c.self.inside.marks; registers = c.self.inside.registers.items; pool = c.self.inside.pool; lifted = c.self.inside.lifted }) c.args.id (ap (λ (k : Kept). shown.is_live (editor_of k) c.args.id) c.self.view_is ∙ c.requires.live) in
    let lives : Lives c.self.inside.buffers.items c.args.id c.in-Some.live = live_here c.self.inside.buffers.items c.args.id c.index_mut.result.now c.in-Some.live live c.index_mut.ensures.value c.in-Some.is in
    let n : Named = record { name = c.live.inside.name.items; buffer = c.live.inside.buffer; read_only = c.live.inside.read_only } in
    let kept : Kept = (record { buffers = c.self.inside.buffers.items; current = c.self.inside.current; marks = c.self.inside.marks; registers = c.self.inside.registers.items; pool = c.self.inside.pool; lifted = c.self.inside.lifted }) in
    let here : Lives c.self.inside.buffers.items c.args.id n = lives ∙ ap (λ (m : Named). Some (Some m)) (sym c.live.view_is) in
    let there : shown.buffer_at (editor_of c.args.self.now) c.args.id ≡ buffer_of c.self.inside.pool c.live.inside.buffer = ap (λ (k : Kept). shown.buffer_at (editor_of k) c.args.id) (sym c.self.view_is) ∙ buffer_is kept c.args.id n here in
    let groups : ℕ = c.requires.plan.0 in
    let planned_here : planned groups c.live.inside.buffer.begin c.live.inside.buffer.end c.live.inside.buffer.undo.state ≡ Ok c.args.plan.now = subst (λ (b : Buffer). planned groups b.begin b.end b.undo ≡ Ok c.args.plan.now) there c.requires.plan.2 in
    let changes : Changes c.args.id c.live.inside.buffer c.apply_plan.new.self c.self.inside.marks c.apply_plan.new.marks c.self.inside.pool c.apply_plan.new.pool =
    applied_changes c.apply_plan.result c.args.id (passed groups c.live.inside.buffer.undo.state) c.live.inside.buffer c.apply_plan.new.self c.self.inside.marks c.apply_plan.new.marks c.self.inside.pool c.apply_plan.new.pool
    c.apply_plan.ensures.lies c.apply_plan.ensures.blocks c.apply_plan.ensures.marks (c.apply_plan.ensures.ok groups c.requires.plan.1 planned_here) c.apply_plan.ensures.err in
    kept_after kept c.args.id n c.apply_plan.new.self c.apply_plan.new.marks c.apply_plan.new.pool c.self.invariant here changes

pub returns-clause-ok : goal.returns-clause-ok
returns-clause-ok c count some is_planned =
    let live : is_live c.self.inside.buffers.items c.args.id ≡ true = live_in (record { buffers = c.self.inside.buffers.items; current = c.self.inside.current; marks = c.self.inside.marks; registers = c.self.inside.registers.items; pool = c.self.inside.pool; lifted = c.self.inside.lifted }) c.args.id (ap (λ (k : Kept). shown.is_live (editor_of k) c.args.id) c.self.view_is ∙ c.requires.live) in
    let lives : Lives c.self.inside.buffers.items c.args.id c.in-Some.live = live_here c.self.inside.buffers.items c.args.id c.index_mut.result.now c.in-Some.live live c.index_mut.ensures.value c.in-Some.is in
    let n : Named = record { name = c.live.inside.name.items; buffer = c.live.inside.buffer; read_only = c.live.inside.read_only } in
    let kept : Kept = (record { buffers = c.self.inside.buffers.items; current = c.self.inside.current; marks = c.self.inside.marks; registers = c.self.inside.registers.items; pool = c.self.inside.pool; lifted = c.self.inside.lifted }) in
    let here : Lives c.self.inside.buffers.items c.args.id n = lives ∙ ap (λ (m : Named). Some (Some m)) (sym c.live.view_is) in
    let there : shown.buffer_at (editor_of c.args.self.now) c.args.id ≡ buffer_of c.self.inside.pool c.live.inside.buffer = ap (λ (k : Kept). shown.buffer_at (editor_of k) c.args.id) (sym c.self.view_is) ∙ buffer_is kept c.args.id n here in
    let groups : ℕ = c.requires.plan.0 in
    let planned_here : planned groups c.live.inside.buffer.begin c.live.inside.buffer.end c.live.inside.buffer.undo.state ≡ Ok c.args.plan.now = subst (λ (b : Buffer). planned groups b.begin b.end b.undo ≡ Ok c.args.plan.now) there c.requires.plan.2 in
    let changes : Changes c.args.id c.live.inside.buffer c.apply_plan.new.self c.self.inside.marks c.apply_plan.new.marks c.self.inside.pool c.apply_plan.new.pool =
    applied_changes c.apply_plan.result c.args.id (passed groups c.live.inside.buffer.undo.state) c.live.inside.buffer c.apply_plan.new.self c.self.inside.marks c.apply_plan.new.marks c.self.inside.pool c.apply_plan.new.pool
    c.apply_plan.ensures.lies c.apply_plan.ensures.blocks c.apply_plan.ensures.marks (c.apply_plan.ensures.ok groups c.requires.plan.1 planned_here) c.apply_plan.ensures.err in
    let again : planned count c.live.inside.buffer.begin c.live.inside.buffer.end c.live.inside.buffer.undo.state ≡ Ok c.args.plan.now = subst (λ (b : Buffer). planned count b.begin b.end b.undo ≡ Ok c.args.plan.now) there is_planned in
    on_ok_weaker c.apply_plan.result
    (λ e. editor_after kept c.args.id n c.apply_plan.new.self c.apply_plan.new.marks c.apply_plan.new.pool (undone_groups c.args.id (passed count c.live.inside.buffer.undo.state)) c.self.invariant here changes e
    ∙ ap (λ (k : Kept). change_site c.args.id (undone_groups c.args.id (passed count c.live.inside.buffer.undo.state)) (editor_of k)) c.self.view_is
    ∙ ap (λ (b : Buffer). change_site c.args.id (undone_groups c.args.id (passed count b.undo)) (editor_of c.args.self.now)) (sym there))
    (c.apply_plan.ensures.ok count some again)

pub returns-clause-err : goal.returns-clause-err
returns-clause-err c =
    let live : is_live c.self.inside.buffers.items c.args.id ≡ true = live_in (record { buffers = c.self.inside.buffers.items; current = c.self.inside.current; marks = c.self.inside.marks; registers = c.self.inside.registers.items; pool = c.self.inside.pool; lifted = c.self.inside.lifted }) c.args.id (ap (λ (k : Kept). shown.is_live (editor_of k) c.args.id) c.self.view_is ∙ c.requires.live) in
    let lives : Lives c.self.inside.buffers.items c.args.id c.in-Some.live = live_here c.self.inside.buffers.items c.args.id c.index_mut.result.now c.in-Some.live live c.index_mut.ensures.value c.in-Some.is in
    let n : Named = record { name = c.live.inside.name.items; buffer = c.live.inside.buffer; read_only = c.live.inside.read_only } in
    let kept : Kept = (record { buffers = c.self.inside.buffers.items; current = c.self.inside.current; marks = c.self.inside.marks; registers = c.self.inside.registers.items; pool = c.self.inside.pool; lifted = c.self.inside.lifted }) in
    let here : Lives c.self.inside.buffers.items c.args.id n = lives ∙ ap (λ (m : Named). Some (Some m)) (sym c.live.view_is) in
    let there : shown.buffer_at (editor_of c.args.self.now) c.args.id ≡ buffer_of c.self.inside.pool c.live.inside.buffer = ap (λ (k : Kept). shown.buffer_at (editor_of k) c.args.id) (sym c.self.view_is) ∙ buffer_is kept c.args.id n here in
    let groups : ℕ = c.requires.plan.0 in
    let planned_here : planned groups c.live.inside.buffer.begin c.live.inside.buffer.end c.live.inside.buffer.undo.state ≡ Ok c.args.plan.now = subst (λ (b : Buffer). planned groups b.begin b.end b.undo ≡ Ok c.args.plan.now) there c.requires.plan.2 in
    let changes : Changes c.args.id c.live.inside.buffer c.apply_plan.new.self c.self.inside.marks c.apply_plan.new.marks c.self.inside.pool c.apply_plan.new.pool =
    applied_changes c.apply_plan.result c.args.id (passed groups c.live.inside.buffer.undo.state) c.live.inside.buffer c.apply_plan.new.self c.self.inside.marks c.apply_plan.new.marks c.self.inside.pool c.apply_plan.new.pool
    c.apply_plan.ensures.lies c.apply_plan.ensures.blocks c.apply_plan.ensures.marks (c.apply_plan.ensures.ok groups c.requires.plan.1 planned_here) c.apply_plan.ensures.err in
    on_err_weaker c.apply_plan.result
    (λ e. editor_same kept c.args.id n c.apply_plan.new.self c.apply_plan.new.marks c.apply_plan.new.pool c.self.invariant here changes e ∙ ap editor_of c.self.view_is)
    c.apply_plan.ensures.err

pub unreachable-requires : goal.unreachable-requires
unreachable-requires c =
    let live : is_live c.self.inside.buffers.items c.args.id ≡ true = live_in (record { buffers = c.self.inside.buffers.items; current = c.self.inside.current; marks = c.self.inside.marks; registers = c.self.inside.registers.items; pool = c.self.inside.pool; lifted = c.self.inside.lifted }) c.args.id (ap (λ (k : Kept). shown.is_live (editor_of k) c.args.id) c.self.view_is ∙ c.requires.live) in
    none_here c.self.inside.buffers.items c.args.id c.index_mut.result.now live c.index_mut.ensures.value c.in-None.is
