use Rattle.std.proofs.Common.{◌≡◌, ◌≤◌, Bool, true, length, subst, sym, ap, ◌∙◌}
use Rattle.std.specs.Prelude.{Some, IfOk}
use Rattle.std.proofs.lemmas.Result.{on_ok_weaker, on_err_weaker, IfOk-weaker}
use Rattle.text_model.specs.Commit.{Buffer, Site, reset, property_records}
use Rattle.editor_model.specs.Editor as shown
use Rattle.editor_model.specs.Editor.{change_buffer}
use Rattle.gap_text.specs.Text.{LiesIn, characters}
use Rattle.prop_intervals.specs.Edits.{edit_of}
use Rattle.buffer_core.specs.Changes.{is_some_record}
use Rattle.buffer_core.specs.Meaning.{buffer_of}
use Rattle.buffer_core.specs.Standing.{AreWithin}
use Rattle.buffer_table.specs.Kept.{Named, Kept, Lives, is_live, editor_of}
use Rattle.buffer_table.proofs.KeptLemmas.{live_here, none_here, live_in, buffer_is, place_in, quiet, Changes, kept_after, editor_after, editor_same}
use Rattle.buffer_table.proofs.editor.Editor.reprop.Goals as goal

pub reprop-requires-clause-range : goal.reprop-requires-clause-range
reprop-requires-clause-range c =
    let live : is_live c.self.inside.buffers.items c.args.id ≡ true = live_in (record { buffers = c.self.inside.buffers.items; current = c.self.inside.current; marks = c.self.inside.marks; registers = c.self.inside.registers.items; pool = c.self.inside.pool; lifted = c.self.inside.lifted }) c.args.id (ap (λ (k : Kept). shown.is_live (editor_of k) c.args.id) c.self.view_is ∙ c.requires.live) in
    let lives : Lives c.self.inside.buffers.items c.args.id c.in-Some.live = live_here c.self.inside.buffers.items c.args.id c.index_mut.result.now c.in-Some.live live c.index_mut.ensures.value c.in-Some.is in
    let n : Named = record { name = c.live.inside.name.items; buffer = c.live.inside.buffer; read_only = c.live.inside.read_only } in
    let kept : Kept = (record { buffers = c.self.inside.buffers.items; current = c.self.inside.current; marks = c.self.inside.marks; registers = c.self.inside.registers.items; pool = c.self.inside.pool; lifted = c.self.inside.lifted }) in
    let here : Lives c.self.inside.buffers.items c.args.id n = lives ∙ ap (λ (m : Named). Some (Some m)) (sym c.live.view_is) in
    let place : (c.args.to ≤ length (characters c.self.inside.pool n.buffer.text)) × (c.args.to ≤ length n.buffer.sets) =
    place_in kept c.args.id c.args.to n here (subst (λ (k : Kept). c.args.to ≤ length (shown.buffer_at (editor_of k) c.args.id).text) (sym c.self.view_is) c.requires.range) in
    place.1

pub invariant_of-self : goal.invariant_of-self
invariant_of-self c =
    let live : is_live c.self.inside.buffers.items c.args.id ≡ true = live_in (record { buffers = c.self.inside.buffers.items; current = c.self.inside.current; marks = c.self.inside.marks; registers = c.self.inside.registers.items; pool = c.self.inside.pool; lifted = c.self.inside.lifted }) c.args.id (ap (λ (k : Kept). shown.is_live (editor_of k) c.args.id) c.self.view_is ∙ c.requires.live) in
    let lives : Lives c.self.inside.buffers.items c.args.id c.in-Some.live = live_here c.self.inside.buffers.items c.args.id c.index_mut.result.now c.in-Some.live live c.index_mut.ensures.value c.in-Some.is in
    let n : Named = record { name = c.live.inside.name.items; buffer = c.live.inside.buffer; read_only = c.live.inside.read_only } in
    let kept : Kept = (record { buffers = c.self.inside.buffers.items; current = c.self.inside.current; marks = c.self.inside.marks; registers = c.self.inside.registers.items; pool = c.self.inside.pool; lifted = c.self.inside.lifted }) in
    let here : Lives c.self.inside.buffers.items c.args.id n = lives ∙ ap (λ (m : Named). Some (Some m)) (sym c.live.view_is) in
    let changes : Changes c.args.id c.live.inside.buffer c.reprop.new.self c.self.inside.marks c.self.inside.marks c.self.inside.pool c.self.inside.pool =
    quiet c.args.id c.live.inside.buffer c.reprop.new.self c.self.inside.marks c.self.inside.pool c.reprop.ensures.text c.reprop.ensures.size
    (subst (λ (m : Named). LiesIn c.self.inside.pool m.buffer.text) (sym c.live.view_is) (c.self.invariant.all.lie c.args.id c.in-Some.live lives))
    (subst (λ (m : Named). AreWithin c.args.id (length m.buffer.sets) c.self.inside.marks) (sym c.live.view_is) (c.self.invariant.all.within c.args.id c.in-Some.live lives)) in
    kept_after kept c.args.id n c.reprop.new.self c.self.inside.marks c.self.inside.pool c.self.invariant here changes

pub returns-clause-ok : goal.returns-clause-ok
returns-clause-ok c =
    let live : is_live c.self.inside.buffers.items c.args.id ≡ true = live_in (record { buffers = c.self.inside.buffers.items; current = c.self.inside.current; marks = c.self.inside.marks; registers = c.self.inside.registers.items; pool = c.self.inside.pool; lifted = c.self.inside.lifted }) c.args.id (ap (λ (k : Kept). shown.is_live (editor_of k) c.args.id) c.self.view_is ∙ c.requires.live) in
    let lives : Lives c.self.inside.buffers.items c.args.id c.in-Some.live = live_here c.self.inside.buffers.items c.args.id c.index_mut.result.now c.in-Some.live live c.index_mut.ensures.value c.in-Some.is in
    let n : Named = record { name = c.live.inside.name.items; buffer = c.live.inside.buffer; read_only = c.live.inside.read_only } in
    let kept : Kept = (record { buffers = c.self.inside.buffers.items; current = c.self.inside.current; marks = c.self.inside.marks; registers = c.self.inside.registers.items; pool = c.self.inside.pool; lifted = c.self.inside.lifted }) in
    let here : Lives c.self.inside.buffers.items c.args.id n = lives ∙ ap (λ (m : Named). Some (Some m)) (sym c.live.view_is) in
    let changes : Changes c.args.id c.live.inside.buffer c.reprop.new.self c.self.inside.marks c.self.inside.marks c.self.inside.pool c.self.inside.pool =
    quiet c.args.id c.live.inside.buffer c.reprop.new.self c.self.inside.marks c.self.inside.pool c.reprop.ensures.text c.reprop.ensures.size
    (subst (λ (m : Named). LiesIn c.self.inside.pool m.buffer.text) (sym c.live.view_is) (c.self.invariant.all.lie c.args.id c.in-Some.live lives))
    (subst (λ (m : Named). AreWithin c.args.id (length m.buffer.sets) c.self.inside.marks) (sym c.live.view_is) (c.self.invariant.all.within c.args.id c.in-Some.live lives)) in
    let change : Buffer → Buffer = reset (edit_of c.args.edit.now) c.args.from c.args.to in
    on_ok_weaker c.reprop.result
    (λ e. editor_after kept c.args.id n c.reprop.new.self c.self.inside.marks c.self.inside.pool (λ (s : Site). record s { buffer = change s.buffer }) c.self.invariant here changes
    (ap (λ (b : Buffer). let s : Site = record { buffer = b; marks = c.self.inside.marks } in s) e)
    ∙ ap (λ (k : Kept). change_buffer c.args.id change (editor_of k)) c.self.view_is)
    (c.reprop.ensures.ok c.self.inside.pool (subst (λ (m : Named). LiesIn c.self.inside.pool m.buffer.text) (sym c.live.view_is) (c.self.invariant.all.lie c.args.id c.in-Some.live lives)))

pub returns-clause-changed : goal.returns-clause-changed
returns-clause-changed c =
    let live : is_live c.self.inside.buffers.items c.args.id ≡ true = live_in (record { buffers = c.self.inside.buffers.items; current = c.self.inside.current; marks = c.self.inside.marks; registers = c.self.inside.registers.items; pool = c.self.inside.pool; lifted = c.self.inside.lifted }) c.args.id (ap (λ (k : Kept). shown.is_live (editor_of k) c.args.id) c.self.view_is ∙ c.requires.live) in
    let lives : Lives c.self.inside.buffers.items c.args.id c.in-Some.live = live_here c.self.inside.buffers.items c.args.id c.index_mut.result.now c.in-Some.live live c.index_mut.ensures.value c.in-Some.is in
    let n : Named = record { name = c.live.inside.name.items; buffer = c.live.inside.buffer; read_only = c.live.inside.read_only } in
    let kept : Kept = (record { buffers = c.self.inside.buffers.items; current = c.self.inside.current; marks = c.self.inside.marks; registers = c.self.inside.registers.items; pool = c.self.inside.pool; lifted = c.self.inside.lifted }) in
    let here : Lives c.self.inside.buffers.items c.args.id n = lives ∙ ap (λ (m : Named). Some (Some m)) (sym c.live.view_is) in
    IfOk-weaker c.reprop.result (λ (b : Bool). b ≡ is_some_record (property_records (edit_of c.args.edit.now) c.args.from c.args.to (buffer_of c.self.inside.pool c.live.inside.buffer).text))
    (λ (b : Bool). b ≡ is_some_record (property_records (edit_of c.args.edit.now) c.args.from c.args.to (shown.buffer_at (editor_of c.args.self.now) c.args.id).text))
    (λ b e. e ∙ ap (λ (x : Buffer). is_some_record (property_records (edit_of c.args.edit.now) c.args.from c.args.to x.text)) (sym (buffer_is kept c.args.id n here))
    ∙ ap (λ (k : Kept). is_some_record (property_records (edit_of c.args.edit.now) c.args.from c.args.to (shown.buffer_at (editor_of k) c.args.id).text)) c.self.view_is)
    (c.reprop.ensures.changed c.self.inside.pool (subst (λ (m : Named). LiesIn c.self.inside.pool m.buffer.text) (sym c.live.view_is) (c.self.invariant.all.lie c.args.id c.in-Some.live lives)))

pub returns-clause-err : goal.returns-clause-err
returns-clause-err c =
    let live : is_live c.self.inside.buffers.items c.args.id ≡ true = live_in (record { buffers = c.self.inside.buffers.items; current = c.self.inside.current; marks = c.self.inside.marks; registers = c.self.inside.registers.items; pool = c.self.inside.pool; lifted = c.self.inside.lifted }) c.args.id (ap (λ (k : Kept). shown.is_live (editor_of k) c.args.id) c.self.view_is ∙ c.requires.live) in
    let lives : Lives c.self.inside.buffers.items c.args.id c.in-Some.live = live_here c.self.inside.buffers.items c.args.id c.index_mut.result.now c.in-Some.live live c.index_mut.ensures.value c.in-Some.is in
    let n : Named = record { name = c.live.inside.name.items; buffer = c.live.inside.buffer; read_only = c.live.inside.read_only } in
    let kept : Kept = (record { buffers = c.self.inside.buffers.items; current = c.self.inside.current; marks = c.self.inside.marks; registers = c.self.inside.registers.items; pool = c.self.inside.pool; lifted = c.self.inside.lifted }) in
    let here : Lives c.self.inside.buffers.items c.args.id n = lives ∙ ap (λ (m : Named). Some (Some m)) (sym c.live.view_is) in
    let changes : Changes c.args.id c.live.inside.buffer c.reprop.new.self c.self.inside.marks c.self.inside.marks c.self.inside.pool c.self.inside.pool =
    quiet c.args.id c.live.inside.buffer c.reprop.new.self c.self.inside.marks c.self.inside.pool c.reprop.ensures.text c.reprop.ensures.size
    (subst (λ (m : Named). LiesIn c.self.inside.pool m.buffer.text) (sym c.live.view_is) (c.self.invariant.all.lie c.args.id c.in-Some.live lives))
    (subst (λ (m : Named). AreWithin c.args.id (length m.buffer.sets) c.self.inside.marks) (sym c.live.view_is) (c.self.invariant.all.within c.args.id c.in-Some.live lives)) in
    on_err_weaker c.reprop.result
    (λ e. editor_same kept c.args.id n c.reprop.new.self c.self.inside.marks c.self.inside.pool c.self.invariant here changes
    (ap (λ (b : Buffer). let s : Site = record { buffer = b; marks = c.self.inside.marks } in s) e) ∙ ap editor_of c.self.view_is)
    (c.reprop.ensures.err c.self.inside.pool)

pub unreachable-requires : goal.unreachable-requires
unreachable-requires c =
    let live : is_live c.self.inside.buffers.items c.args.id ≡ true = live_in (record { buffers = c.self.inside.buffers.items; current = c.self.inside.current; marks = c.self.inside.marks; registers = c.self.inside.registers.items; pool = c.self.inside.pool; lifted = c.self.inside.lifted }) c.args.id (ap (λ (k : Kept). shown.is_live (editor_of k) c.args.id) c.self.view_is ∙ c.requires.live) in
    none_here c.self.inside.buffers.items c.args.id c.index_mut.result.now live c.index_mut.ensures.value c.in-None.is
