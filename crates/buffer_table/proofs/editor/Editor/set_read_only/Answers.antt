use Rattle.std.proofs.Common.{◌≡◌, true, length, refl, subst, sym, ap, ◌∙◌}
use Rattle.std.specs.Prelude.{Some}
use Rattle.editor_model.specs.Editor as shown
use Rattle.gap_text.specs.Text.{LiesIn}
use Rattle.buffer_core.specs.Standing.{AreWithin}
use Rattle.buffer_table.specs.Kept.{Named, Kept, Lives, is_live, editor_of}
use Rattle.buffer_table.proofs.KeptLemmas.{kept_anew, editor_protected, live_here, live_in, quiet}
use Rattle.buffer_table.proofs.editor.Editor.set_read_only.Goals as goal

pub invariant_of-self : goal.invariant_of-self
invariant_of-self c =
    let live : is_live c.self.inside.buffers.items c.args.id ≡ true = live_in (record { buffers = c.self.inside.buffers.items; current = c.self.inside.current; marks = c.self.inside.marks; registers = c.self.inside.registers.items; pool = c.self.inside.pool; lifted = c.self.inside.lifted }) c.args.id (ap (λ (k : Kept). shown.is_live (editor_of k) c.args.id) c.self.view_is ∙ c.requires) in
    let lives : Lives c.self.inside.buffers.items c.args.id c.in-Some.live = live_here c.self.inside.buffers.items c.args.id c.index_mut.result.now c.in-Some.live live c.index_mut.ensures.value c.in-Some.is in
    let n : Named = record { name = c.live.inside.name.items; buffer = c.live.inside.buffer; read_only = c.live.inside.read_only } in
    let kept : Kept = (record { buffers = c.self.inside.buffers.items; current = c.self.inside.current; marks = c.self.inside.marks; registers = c.self.inside.registers.items; pool = c.self.inside.pool; lifted = c.self.inside.lifted }) in
    let here : Lives c.self.inside.buffers.items c.args.id n = lives ∙ ap (λ (m : Named). Some (Some m)) (sym c.live.view_is) in
    kept_anew kept c.args.id n c.live.inside.name.items c.args.on c.live.inside.buffer c.self.inside.marks c.self.inside.pool c.self.invariant here
    (λ other m e l. c.self.invariant.all.names other c.args.id m n e l here)
    (quiet c.args.id c.live.inside.buffer c.live.inside.buffer c.self.inside.marks c.self.inside.pool refl refl (subst (λ (m : Named). LiesIn c.self.inside.pool m.buffer.text) (sym c.live.view_is) (c.self.invariant.all.lie c.args.id c.in-Some.live lives)) (subst (λ (m : Named). AreWithin c.args.id (length m.buffer.sets) c.self.inside.marks) (sym c.live.view_is) (c.self.invariant.all.within c.args.id c.in-Some.live lives)))

pub returns : goal.returns
returns c =
    let live : is_live c.self.inside.buffers.items c.args.id ≡ true = live_in (record { buffers = c.self.inside.buffers.items; current = c.self.inside.current; marks = c.self.inside.marks; registers = c.self.inside.registers.items; pool = c.self.inside.pool; lifted = c.self.inside.lifted }) c.args.id (ap (λ (k : Kept). shown.is_live (editor_of k) c.args.id) c.self.view_is ∙ c.requires) in
    let lives : Lives c.self.inside.buffers.items c.args.id c.in-Some.live = live_here c.self.inside.buffers.items c.args.id c.index_mut.result.now c.in-Some.live live c.index_mut.ensures.value c.in-Some.is in
    let n : Named = record { name = c.live.inside.name.items; buffer = c.live.inside.buffer; read_only = c.live.inside.read_only } in
    let kept : Kept = (record { buffers = c.self.inside.buffers.items; current = c.self.inside.current; marks = c.self.inside.marks; registers = c.self.inside.registers.items; pool = c.self.inside.pool; lifted = c.self.inside.lifted }) in
    let here : Lives c.self.inside.buffers.items c.args.id n = lives ∙ ap (λ (m : Named). Some (Some m)) (sym c.live.view_is) in
    editor_protected kept c.args.id n c.args.on here
    ∙ ap (λ (k : Kept). shown.protected c.args.id c.args.on (editor_of k)) c.self.view_is
