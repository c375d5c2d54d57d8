use Rattle.std.proofs.Common.{◌≡◌, ◌+◌, true, length, sym, ap, subst, ◌∙◌, Option, Some, None}
use Rattle.std.specs.Prelude.{slice_set}
use Rattle.text_model.specs.Marks.{Marks}
use Rattle.editor_model.specs.Editor as shown
use Rattle.text_pool.specs.Pool.{live}
use Rattle.buffer_table.specs.Kept.{Named, Kept, Lives, IsKept, is_live, named_at, editor_of}
use Rattle.buffer_table.specs.Places.{gone}
use Rattle.buffer_table.proofs.KeptLemmas.{some_lives, held, live_in, named_is}
use Rattle.buffer_table.proofs.Removing.{GivesBack, gives_back, entry_lies, kept_without, editor_without}
use Rattle.buffer_table.proofs.editor.Editor.forget.Goals as goal

pub release-requires : goal.release-requires
release-requires c =
    let kept : Kept = record { buffers = c.self.inside.buffers.items; current = c.self.inside.current; marks = c.self.inside.marks; registers = c.self.inside.registers.items; pool = c.self.inside.pool; lifted = c.self.inside.lifted } in
    let alive : is_live c.self.inside.buffers.items c.args.id ≡ true = live_in kept c.args.id (ap (λ (k : Kept). shown.is_live (editor_of k) c.args.id) c.self.view_is ∙ c.requires.live) in
    let found : (n : Named) × Lives c.self.inside.buffers.items c.args.id n = some_lives c.self.inside.buffers.items c.args.id alive in
    let n : Named = found.0 in
    let here : Lives c.self.inside.buffers.items c.args.id n = found.1 in
    let is : c.replace-entry.result ≡ Some n = c.replace-entry.ensures.value ∙ held c.self.inside.buffers.items c.args.id c.index_mut.result.now n here c.index_mut.ensures.value in
    entry_lies kept c.replace-entry.result c.args.id n c.self.invariant here is

pub invariant_of-self : goal.invariant_of-self
invariant_of-self c =
    let kept : Kept = record { buffers = c.self.inside.buffers.items; current = c.self.inside.current; marks = c.self.inside.marks; registers = c.self.inside.registers.items; pool = c.self.inside.pool; lifted = c.self.inside.lifted } in
    let alive : is_live c.self.inside.buffers.items c.args.id ≡ true = live_in kept c.args.id (ap (λ (k : Kept). shown.is_live (editor_of k) c.args.id) c.self.view_is ∙ c.requires.live) in
    let found : (n : Named) × Lives c.self.inside.buffers.items c.args.id n = some_lives c.self.inside.buffers.items c.args.id alive in
    let n : Named = found.0 in
    let here : Lives c.self.inside.buffers.items c.args.id n = found.1 in
    let is : c.replace-entry.result ≡ Some n = c.replace-entry.ensures.value ∙ held c.self.inside.buffers.items c.args.id c.index_mut.result.now n here c.index_mut.ensures.value in
    let back : GivesBack n.buffer.text.blocks c.self.inside.pool c.release.new.pool = gives_back c.replace-entry.result n c.self.inside.pool c.release.new.pool is c.release.ensures.others c.release.ensures.count in
    subst (λ (o : Option Named). IsKept (record { buffers = slice_set c.self.inside.buffers.items c.args.id o; current = c.self.inside.current; marks = c.drop_buffer.new.self; registers = c.self.inside.registers.items; pool = c.release.new.pool; lifted = c.self.inside.lifted })) (sym c.replace-entry.ensures.after)
    (subst (λ (m : Marks). IsKept (record { buffers = slice_set c.self.inside.buffers.items c.args.id None; current = c.self.inside.current; marks = m; registers = c.self.inside.registers.items; pool = c.release.new.pool; lifted = c.self.inside.lifted })) (sym c.drop_buffer.ensures)
    (kept_without kept c.args.id n c.release.new.pool c.self.invariant here (λ e. c.requires.aside (sym (ap (λ (k : Kept). k.current) c.self.view_is) ∙ e)) back))

pub returns-clause-editor : goal.returns-clause-editor
returns-clause-editor c =
    let kept : Kept = record { buffers = c.self.inside.buffers.items; current = c.self.inside.current; marks = c.self.inside.marks; registers = c.self.inside.registers.items; pool = c.self.inside.pool; lifted = c.self.inside.lifted } in
    let alive : is_live c.self.inside.buffers.items c.args.id ≡ true = live_in kept c.args.id (ap (λ (k : Kept). shown.is_live (editor_of k) c.args.id) c.self.view_is ∙ c.requires.live) in
    let found : (n : Named) × Lives c.self.inside.buffers.items c.args.id n = some_lives c.self.inside.buffers.items c.args.id alive in
    let n : Named = found.0 in
    let here : Lives c.self.inside.buffers.items c.args.id n = found.1 in
    let is : c.replace-entry.result ≡ Some n = c.replace-entry.ensures.value ∙ held c.self.inside.buffers.items c.args.id c.index_mut.result.now n here c.index_mut.ensures.value in
    let back : GivesBack n.buffer.text.blocks c.self.inside.pool c.release.new.pool = gives_back c.replace-entry.result n c.self.inside.pool c.release.new.pool is c.release.ensures.others c.release.ensures.count in
    ap (λ (o : Option Named). let k : Kept = record { buffers = slice_set c.self.inside.buffers.items c.args.id o; current = c.self.inside.current; marks = c.drop_buffer.new.self; registers = c.self.inside.registers.items; pool = c.release.new.pool; lifted = c.self.inside.lifted } in editor_of k) c.replace-entry.ensures.after
    ∙ ap (λ (m : Marks). let k : Kept = record { buffers = slice_set c.self.inside.buffers.items c.args.id None; current = c.self.inside.current; marks = m; registers = c.self.inside.registers.items; pool = c.release.new.pool; lifted = c.self.inside.lifted } in editor_of k) c.drop_buffer.ensures
    ∙ editor_without kept c.args.id n c.release.new.pool c.self.invariant here back
    ∙ ap (λ (k : Kept). gone c.args.id (editor_of k)) c.self.view_is

pub returns-clause-blocks : goal.returns-clause-blocks
returns-clause-blocks c =
    let kept : Kept = record { buffers = c.self.inside.buffers.items; current = c.self.inside.current; marks = c.self.inside.marks; registers = c.self.inside.registers.items; pool = c.self.inside.pool; lifted = c.self.inside.lifted } in
    let alive : is_live c.self.inside.buffers.items c.args.id ≡ true = live_in kept c.args.id (ap (λ (k : Kept). shown.is_live (editor_of k) c.args.id) c.self.view_is ∙ c.requires.live) in
    let found : (n : Named) × Lives c.self.inside.buffers.items c.args.id n = some_lives c.self.inside.buffers.items c.args.id alive in
    let n : Named = found.0 in
    let here : Lives c.self.inside.buffers.items c.args.id n = found.1 in
    let is : c.replace-entry.result ≡ Some n = c.replace-entry.ensures.value ∙ held c.self.inside.buffers.items c.args.id c.index_mut.result.now n here c.index_mut.ensures.value in
    let back : GivesBack n.buffer.text.blocks c.self.inside.pool c.release.new.pool = gives_back c.replace-entry.result n c.self.inside.pool c.release.new.pool is c.release.ensures.others c.release.ensures.count in
    ap (λ (k : Kept). live c.release.new.pool + length (named_at k.buffers c.args.id).buffer.text.blocks) (sym c.self.view_is)
    ∙ ap (λ (m : Named). live c.release.new.pool + length m.buffer.text.blocks) (named_is c.self.inside.buffers.items c.args.id n here)
    ∙ back.count ∙ ap (λ (k : Kept). live k.pool) c.self.view_is
