use Rattle.std.proofs.Common.{◌≡◌, true, List, length, refl, subst, sym, ap, ◌∙◌}
use Rattle.std.specs.Prelude.{slice_set, Some, None}
use Rattle.text_model.specs.Characters.{Ch}
use Rattle.editor_model.specs.Editor as shown
use Rattle.editor_model.specs.Editor.{find_from}
use Rattle.gap_text.specs.Text.{LiesIn}
use Rattle.buffer_core.specs.Standing.{AreWithin}
use Rattle.buffer_table.specs.Kept.{Named, Kept, Lives, is_live, editor_of}
use Rattle.buffer_table.proofs.NameLemmas.{free_for}
use Rattle.buffer_table.proofs.KeptLemmas.{kept_anew, editor_renamed, live_here, live_in, quiet}
use Rattle.buffer_table.proofs.editor.Editor.rename.Goals as goal

pub invariant_of-self : goal.invariant_of-self
invariant_of-self c =
    let live : is_live c.self.inside.buffers.items c.args.id ≡ true = live_in (record { buffers = c.self.inside.buffers.items; current = c.self.inside.current; marks = c.self.inside.marks; registers = c.self.inside.registers.items; pool = c.self.inside.pool; lifted = c.self.inside.lifted }) c.args.id (ap (λ (k : Kept). shown.is_live (editor_of k) c.args.id) c.self.view_is ∙ c.requires.live) in
    let lives : Lives c.self.inside.buffers.items c.args.id c.in-Some.live = live_here c.self.inside.buffers.items c.args.id c.index_mut.result.now c.in-Some.live live c.index_mut.ensures.value c.in-Some.is in
    let n : Named = record { name = c.live.inside.name.items; buffer = c.live.inside.buffer; read_only = c.live.inside.read_only } in
    let kept : Kept = (record { buffers = c.self.inside.buffers.items; current = c.self.inside.current; marks = c.self.inside.marks; registers = c.self.inside.registers.items; pool = c.self.inside.pool; lifted = c.self.inside.lifted }) in
    let here : Lives c.self.inside.buffers.items c.args.id n = lives ∙ ap (λ (m : Named). Some (Some m)) (sym c.live.view_is) in
    kept_anew kept c.args.id n c.in_ok-name.name.items n.read_only c.live.inside.buffer c.self.inside.marks c.self.inside.pool c.self.invariant here
    (λ j m e l g. free_for kept c.args.id c.args.name.now.items (subst (λ (k : Kept). find_from 0 (slice_set (editor_of k).buffers c.args.id None) c.args.name.now.items ≡ None) (sym c.self.view_is) c.requires.free) j m e l (g ∙ c.in_ok-name.ensures))
    (quiet c.args.id c.live.inside.buffer c.live.inside.buffer c.self.inside.marks c.self.inside.pool refl refl (subst (λ (m : Named). LiesIn c.self.inside.pool m.buffer.text) (sym c.live.view_is) (c.self.invariant.all.lie c.args.id c.in-Some.live lives)) (subst (λ (m : Named). AreWithin c.args.id (length m.buffer.sets) c.self.inside.marks) (sym c.live.view_is) (c.self.invariant.all.within c.args.id c.in-Some.live lives)))

pub returns-clause-ok : goal.returns-clause-ok
returns-clause-ok c =
    let live : is_live c.self.inside.buffers.items c.args.id ≡ true = live_in (record { buffers = c.self.inside.buffers.items; current = c.self.inside.current; marks = c.self.inside.marks; registers = c.self.inside.registers.items; pool = c.self.inside.pool; lifted = c.self.inside.lifted }) c.args.id (ap (λ (k : Kept). shown.is_live (editor_of k) c.args.id) c.self.view_is ∙ c.requires.live) in
    let lives : Lives c.self.inside.buffers.items c.args.id c.in-Some.live = live_here c.self.inside.buffers.items c.args.id c.index_mut.result.now c.in-Some.live live c.index_mut.ensures.value c.in-Some.is in
    let n : Named = record { name = c.live.inside.name.items; buffer = c.live.inside.buffer; read_only = c.live.inside.read_only } in
    let kept : Kept = (record { buffers = c.self.inside.buffers.items; current = c.self.inside.current; marks = c.self.inside.marks; registers = c.self.inside.registers.items; pool = c.self.inside.pool; lifted = c.self.inside.lifted }) in
    let here : Lives c.self.inside.buffers.items c.args.id n = lives ∙ ap (λ (m : Named). Some (Some m)) (sym c.live.view_is) in
    editor_renamed kept c.args.id n c.in_ok-name.name.items here
    ∙ ap (λ (x : List Ch). shown.renamed c.args.id x (editor_of kept)) c.in_ok-name.ensures
    ∙ ap (λ (k : Kept). shown.renamed c.args.id c.args.name.now.items (editor_of k)) c.self.view_is
