use Rattle.std.proofs.Common.{◌≡◌, ◌≤◌, true, length, subst, sym, ap, ◌∙◌}
use Rattle.std.specs.Prelude.{Some}
use Rattle.std.proofs.lemmas.Result.{on_ok_weaker, on_err_weaker}
use Rattle.text_model.specs.Commit.{replaced}
use Rattle.editor_model.specs.Editor as shown
use Rattle.editor_model.specs.Editor.{change_site}
use Rattle.gap_text.specs.Text.{LiesIn, characters}
use Rattle.prop_intervals.specs.Sets.{together}
use Rattle.buffer_core.specs.Standing.{AreWithin}
use Rattle.buffer_table.specs.Kept.{Named, Kept, Lives, is_live, editor_of}
use Rattle.buffer_table.proofs.KeptLemmas.{live_here, none_here, live_in, place_in, Changes, kept_after, editor_after, editor_same}
use Rattle.buffer_table.proofs.Replacing.{replace_changes}
use Rattle.buffer_table.proofs.editor.Editor.replace.Goals as goal

pub replace-requires-clause-lies : goal.replace-requires-clause-lies
replace-requires-clause-lies c =
    let live : is_live c.self.inside.buffers.items c.args.id ≡ true = live_in (record { buffers = c.self.inside.buffers.items; current = c.self.inside.current; marks = c.self.inside.marks; registers = c.self.inside.registers.items; pool = c.self.inside.pool; lifted = c.self.inside.lifted }) c.args.id (ap (λ (k : Kept). shown.is_live (editor_of k) c.args.id) c.self.view_is ∙ c.requires.live) in
    let lives : Lives c.self.inside.buffers.items c.args.id c.in-Some.live = live_here c.self.inside.buffers.items c.args.id c.index_mut.result.now c.in-Some.live live c.index_mut.ensures.value c.in-Some.is in
    let n : Named = record { name = c.live.inside.name.items; buffer = c.live.inside.buffer; read_only = c.live.inside.read_only } in
    let kept : Kept = (record { buffers = c.self.inside.buffers.items; current = c.self.inside.current; marks = c.self.inside.marks; registers = c.self.inside.registers.items; pool = c.self.inside.pool; lifted = c.self.inside.lifted }) in
    let here : Lives c.self.inside.buffers.items c.args.id n = lives ∙ ap (λ (m : Named). Some (Some m)) (sym c.live.view_is) in
    subst (λ (m : Named). LiesIn c.self.inside.pool m.buffer.text) (sym c.live.view_is) (c.self.invariant.all.lie c.args.id c.in-Some.live lives)

pub replace-requires-clause-range : goal.replace-requires-clause-range
replace-requires-clause-range c =
    let live : is_live c.self.inside.buffers.items c.args.id ≡ true = live_in (record { buffers = c.self.inside.buffers.items; current = c.self.inside.current; marks = c.self.inside.marks; registers = c.self.inside.registers.items; pool = c.self.inside.pool; lifted = c.self.inside.lifted }) c.args.id (ap (λ (k : Kept). shown.is_live (editor_of k) c.args.id) c.self.view_is ∙ c.requires.live) in
    let lives : Lives c.self.inside.buffers.items c.args.id c.in-Some.live = live_here c.self.inside.buffers.items c.args.id c.index_mut.result.now c.in-Some.live live c.index_mut.ensures.value c.in-Some.is in
    let n : Named = record { name = c.live.inside.name.items; buffer = c.live.inside.buffer; read_only = c.live.inside.read_only } in
    let kept : Kept = (record { buffers = c.self.inside.buffers.items; current = c.self.inside.current; marks = c.self.inside.marks; registers = c.self.inside.registers.items; pool = c.self.inside.pool; lifted = c.self.inside.lifted }) in
    let here : Lives c.self.inside.buffers.items c.args.id n = lives ∙ ap (λ (m : Named). Some (Some m)) (sym c.live.view_is) in
    let place : (c.args.to ≤ length (characters c.self.inside.pool n.buffer.text)) × (c.args.to ≤ length n.buffer.sets) =
    place_in kept c.args.id c.args.to n here (subst (λ (k : Kept). c.args.to ≤ length (shown.buffer_at (editor_of k) c.args.id).text) (sym c.self.view_is) c.requires.range) in
    place.1

pub replace-requires-clause-marks : goal.replace-requires-clause-marks
replace-requires-clause-marks c =
    let live : is_live c.self.inside.buffers.items c.args.id ≡ true = live_in (record { buffers = c.self.inside.buffers.items; current = c.self.inside.current; marks = c.self.inside.marks; registers = c.self.inside.registers.items; pool = c.self.inside.pool; lifted = c.self.inside.lifted }) c.args.id (ap (λ (k : Kept). shown.is_live (editor_of k) c.args.id) c.self.view_is ∙ c.requires.live) in
    let lives : Lives c.self.inside.buffers.items c.args.id c.in-Some.live = live_here c.self.inside.buffers.items c.args.id c.index_mut.result.now c.in-Some.live live c.index_mut.ensures.value c.in-Some.is in
    let n : Named = record { name = c.live.inside.name.items; buffer = c.live.inside.buffer; read_only = c.live.inside.read_only } in
    let kept : Kept = (record { buffers = c.self.inside.buffers.items; current = c.self.inside.current; marks = c.self.inside.marks; registers = c.self.inside.registers.items; pool = c.self.inside.pool; lifted = c.self.inside.lifted }) in
    let here : Lives c.self.inside.buffers.items c.args.id n = lives ∙ ap (λ (m : Named). Some (Some m)) (sym c.live.view_is) in
    subst (λ (m : Named). AreWithin c.args.id (length m.buffer.sets) c.self.inside.marks) (sym c.live.view_is) (c.self.invariant.all.within c.args.id c.in-Some.live lives)

pub invariant_of-self : goal.invariant_of-self
invariant_of-self c =
    let live : is_live c.self.inside.buffers.items c.args.id ≡ true = live_in (record { buffers = c.self.inside.buffers.items; current = c.self.inside.current; marks = c.self.inside.marks; registers = c.self.inside.registers.items; pool = c.self.inside.pool; lifted = c.self.inside.lifted }) c.args.id (ap (λ (k : Kept). shown.is_live (editor_of k) c.args.id) c.self.view_is ∙ c.requires.live) in
    let lives : Lives c.self.inside.buffers.items c.args.id c.in-Some.live = live_here c.self.inside.buffers.items c.args.id c.index_mut.result.now c.in-Some.live live c.index_mut.ensures.value c.in-Some.is in
    let n : Named = record { name = c.live.inside.name.items; buffer = c.live.inside.buffer; read_only = c.live.inside.read_only } in
    let kept : Kept = (record { buffers = c.self.inside.buffers.items; current = c.self.inside.current; marks = c.self.inside.marks; registers = c.self.inside.registers.items; pool = c.self.inside.pool; lifted = c.self.inside.lifted }) in
    let here : Lives c.self.inside.buffers.items c.args.id n = lives ∙ ap (λ (m : Named). Some (Some m)) (sym c.live.view_is) in
    let changes : Changes c.args.id c.live.inside.buffer c.replace.new.self c.self.inside.marks c.replace.new.marks c.self.inside.pool c.replace.new.pool =
    replace_changes c.replace.result c.args.id c.args.from c.args.to (together c.args.with.now) c.args.all c.live.inside.buffer c.replace.new.self c.self.inside.marks c.replace.new.marks c.self.inside.pool c.replace.new.pool
    c.replace.ensures.lies c.replace.ensures.blocks c.replace.ensures.marks c.replace.ensures.ok c.replace.ensures.err in
    kept_after kept c.args.id n c.replace.new.self c.replace.new.marks c.replace.new.pool c.self.invariant here changes

pub returns-clause-ok : goal.returns-clause-ok
returns-clause-ok c =
    let live : is_live c.self.inside.buffers.items c.args.id ≡ true = live_in (record { buffers = c.self.inside.buffers.items; current = c.self.inside.current; marks = c.self.inside.marks; registers = c.self.inside.registers.items; pool = c.self.inside.pool; lifted = c.self.inside.lifted }) c.args.id (ap (λ (k : Kept). shown.is_live (editor_of k) c.args.id) c.self.view_is ∙ c.requires.live) in
    let lives : Lives c.self.inside.buffers.items c.args.id c.in-Some.live = live_here c.self.inside.buffers.items c.args.id c.index_mut.result.now c.in-Some.live live c.index_mut.ensures.value c.in-Some.is in
    let n : Named = record { name = c.live.inside.name.items; buffer = c.live.inside.buffer; read_only = c.live.inside.read_only } in
    let kept : Kept = (record { buffers = c.self.inside.buffers.items; current = c.self.inside.current; marks = c.self.inside.marks; registers = c.self.inside.registers.items; pool = c.self.inside.pool; lifted = c.self.inside.lifted }) in
    let here : Lives c.self.inside.buffers.items c.args.id n = lives ∙ ap (λ (m : Named). Some (Some m)) (sym c.live.view_is) in
    let changes : Changes c.args.id c.live.inside.buffer c.replace.new.self c.self.inside.marks c.replace.new.marks c.self.inside.pool c.replace.new.pool =
    replace_changes c.replace.result c.args.id c.args.from c.args.to (together c.args.with.now) c.args.all c.live.inside.buffer c.replace.new.self c.self.inside.marks c.replace.new.marks c.self.inside.pool c.replace.new.pool
    c.replace.ensures.lies c.replace.ensures.blocks c.replace.ensures.marks c.replace.ensures.ok c.replace.ensures.err in
    on_ok_weaker c.replace.result
    (λ e. editor_after kept c.args.id n c.replace.new.self c.replace.new.marks c.replace.new.pool (replaced c.args.id c.args.from c.args.to (together c.args.with.now) c.args.all) c.self.invariant here changes e
    ∙ ap (λ (k : Kept). change_site c.args.id (replaced c.args.id c.args.from c.args.to (together c.args.with.now) c.args.all) (editor_of k)) c.self.view_is)
    c.replace.ensures.ok

pub returns-clause-err : goal.returns-clause-err
returns-clause-err c =
    let live : is_live c.self.inside.buffers.items c.args.id ≡ true = live_in (record { buffers = c.self.inside.buffers.items; current = c.self.inside.current; marks = c.self.inside.marks; registers = c.self.inside.registers.items; pool = c.self.inside.pool; lifted = c.self.inside.lifted }) c.args.id (ap (λ (k : Kept). shown.is_live (editor_of k) c.args.id) c.self.view_is ∙ c.requires.live) in
    let lives : Lives c.self.inside.buffers.items c.args.id c.in-Some.live = live_here c.self.inside.buffers.items c.args.id c.index_mut.result.now c.in-Some.live live c.index_mut.ensures.value c.in-Some.is in
    let n : Named = record { name = c.live.inside.name.items; buffer = c.live.inside.buffer; read_only = c.live.inside.read_only } in
    let kept : Kept = (record { buffers = c.self.inside.buffers.items; current = c.self.inside.current; marks = c.self.inside.marks; registers = c.self.inside.registers.items; pool = c.self.inside.pool; lifted = c.self.inside.lifted }) in
    let here : Lives c.self.inside.buffers.items c.args.id n = lives ∙ ap (λ (m : Named). Some (Some m)) (sym c.live.view_is) in
    let changes : Changes c.args.id c.live.inside.buffer c.replace.new.self c.self.inside.marks c.replace.new.marks c.self.inside.pool c.replace.new.pool =
    replace_changes c.replace.result c.args.id c.args.from c.args.to (together c.args.with.now) c.args.all c.live.inside.buffer c.replace.new.self c.self.inside.marks c.replace.new.marks c.self.inside.pool c.replace.new.pool
    c.replace.ensures.lies c.replace.ensures.blocks c.replace.ensures.marks c.replace.ensures.ok c.replace.ensures.err in
    on_err_weaker c.replace.result
    (λ e. editor_same kept c.args.id n c.replace.new.self c.replace.new.marks c.replace.new.pool c.self.invariant here changes e ∙ ap editor_of c.self.view_is)
    c.replace.ensures.err

pub unreachable-requires : goal.unreachable-requires
unreachable-requires c =
    let live : is_live c.self.inside.buffers.items c.args.id ≡ true = live_in (record { buffers = c.self.inside.buffers.items; current = c.self.inside.current; marks = c.self.inside.marks; registers = c.self.inside.registers.items; pool = c.self.inside.pool; lifted = c.self.inside.lifted }) c.args.id (ap (λ (k : Kept). shown.is_live (editor_of k) c.args.id) c.self.view_is ∙ c.requires.live) in
    none_here c.self.inside.buffers.items c.args.id c.index_mut.result.now live c.index_mut.ensures.value c.in-None.is
