use Rattle.std.proofs.Common.{◌≡◌, true, length, subst, sym, ap, ◌∙◌, w64}
use Rattle.std.specs.Prelude.{Some}
use Rattle.std.proofs.lemmas.Int.{to_z-of_z}
use Rattle.text_model.specs.Places.{clip}
use Rattle.text_model.specs.Commit.{Buffer, Site}
use Rattle.editor_model.specs.Editor as shown
use Rattle.editor_model.specs.Editor.{change_buffer}
use Rattle.gap_text.specs.Text.{LiesIn}
use Rattle.narrow_region.specs.Positions.{place_of}
use Rattle.buffer_core.specs.Meaning.{Stored, site_of, buffer_of}
use Rattle.buffer_core.specs.Standing.{AreWithin}
use Rattle.buffer_table.specs.Kept.{Named, Kept, Lives, is_live, editor_of}
use Rattle.buffer_table.proofs.KeptLemmas.{live_here, none_here, live_in, quiet, Changes, kept_after, editor_after}
use Rattle.buffer_table.proofs.editor.Editor.goto.Goals as goal

pub invariant_of-self : goal.invariant_of-self
invariant_of-self c =
    let live : is_live c.self.inside.buffers.items c.args.id ≡ true = live_in (record { buffers = c.self.inside.buffers.items; current = c.self.inside.current; marks = c.self.inside.marks; registers = c.self.inside.registers.items; pool = c.self.inside.pool; lifted = c.self.inside.lifted }) c.args.id (ap (λ (k : Kept). shown.is_live (editor_of k) c.args.id) c.self.view_is ∙ c.requires) in
    let lives : Lives c.self.inside.buffers.items c.args.id c.in-Some.live = live_here c.self.inside.buffers.items c.args.id c.index_mut.result.now c.in-Some.live live c.index_mut.ensures.value c.in-Some.is in
    let n : Named = record { name = c.live.inside.name.items; buffer = c.live.inside.buffer; read_only = c.live.inside.read_only } in
    let kept : Kept = (record { buffers = c.self.inside.buffers.items; current = c.self.inside.current; marks = c.self.inside.marks; registers = c.self.inside.registers.items; pool = c.self.inside.pool; lifted = c.self.inside.lifted }) in
    let here : Lives c.self.inside.buffers.items c.args.id n = lives ∙ ap (λ (m : Named). Some (Some m)) (sym c.live.view_is) in
    let changes : Changes c.args.id c.live.inside.buffer c.goto.new.self c.self.inside.marks c.self.inside.marks c.self.inside.pool c.self.inside.pool =
    quiet c.args.id c.live.inside.buffer c.goto.new.self c.self.inside.marks c.self.inside.pool (ap (λ (b : Stored). b.text) c.goto.ensures) (ap (λ (b : Stored). length b.sets) c.goto.ensures)
    (subst (λ (m : Named). LiesIn c.self.inside.pool m.buffer.text) (sym c.live.view_is) (c.self.invariant.all.lie c.args.id c.in-Some.live lives))
    (subst (λ (m : Named). AreWithin c.args.id (length m.buffer.sets) c.self.inside.marks) (sym c.live.view_is) (c.self.invariant.all.within c.args.id c.in-Some.live lives)) in
    kept_after kept c.args.id n c.goto.new.self c.self.inside.marks c.self.inside.pool c.self.invariant here changes

pub returns : goal.returns
returns c =
    let live : is_live c.self.inside.buffers.items c.args.id ≡ true = live_in (record { buffers = c.self.inside.buffers.items; current = c.self.inside.current; marks = c.self.inside.marks; registers = c.self.inside.registers.items; pool = c.self.inside.pool; lifted = c.self.inside.lifted }) c.args.id (ap (λ (k : Kept). shown.is_live (editor_of k) c.args.id) c.self.view_is ∙ c.requires) in
    let lives : Lives c.self.inside.buffers.items c.args.id c.in-Some.live = live_here c.self.inside.buffers.items c.args.id c.index_mut.result.now c.in-Some.live live c.index_mut.ensures.value c.in-Some.is in
    let n : Named = record { name = c.live.inside.name.items; buffer = c.live.inside.buffer; read_only = c.live.inside.read_only } in
    let kept : Kept = (record { buffers = c.self.inside.buffers.items; current = c.self.inside.current; marks = c.self.inside.marks; registers = c.self.inside.registers.items; pool = c.self.inside.pool; lifted = c.self.inside.lifted }) in
    let here : Lives c.self.inside.buffers.items c.args.id n = lives ∙ ap (λ (m : Named). Some (Some m)) (sym c.live.view_is) in
    let changes : Changes c.args.id c.live.inside.buffer c.goto.new.self c.self.inside.marks c.self.inside.marks c.self.inside.pool c.self.inside.pool =
    quiet c.args.id c.live.inside.buffer c.goto.new.self c.self.inside.marks c.self.inside.pool (ap (λ (b : Stored). b.text) c.goto.ensures) (ap (λ (b : Stored). length b.sets) c.goto.ensures)
    (subst (λ (m : Named). LiesIn c.self.inside.pool m.buffer.text) (sym c.live.view_is) (c.self.invariant.all.lie c.args.id c.in-Some.live lives))
    (subst (λ (m : Named). AreWithin c.args.id (length m.buffer.sets) c.self.inside.marks) (sym c.live.view_is) (c.self.invariant.all.within c.args.id c.in-Some.live lives)) in
    let change : Buffer → Buffer = λ b. record b { point = clip b.begin b.end (place_of c.args.p) } in
    editor_after kept c.args.id n c.goto.new.self c.self.inside.marks c.self.inside.pool (λ (s : Site). record s { buffer = change s.buffer }) c.self.invariant here changes
    (ap (λ (b : Stored). site_of c.self.inside.pool b c.self.inside.marks) c.goto.ensures
    ∙ ap (λ p. let s : Site = record { buffer = record (buffer_of c.self.inside.pool c.live.inside.buffer) { point = clip c.live.inside.buffer.begin c.live.inside.buffer.end (place_of p) }; marks = c.self.inside.marks } in s) (to_z-of_z w64 c.args.p c.ranges.p))
    ∙ ap (λ (k : Kept). change_buffer c.args.id change (editor_of k)) c.self.view_is

pub unreachable-requires : goal.unreachable-requires
unreachable-requires c =
    let live : is_live c.self.inside.buffers.items c.args.id ≡ true = live_in (record { buffers = c.self.inside.buffers.items; current = c.self.inside.current; marks = c.self.inside.marks; registers = c.self.inside.registers.items; pool = c.self.inside.pool; lifted = c.self.inside.lifted }) c.args.id (ap (λ (k : Kept). shown.is_live (editor_of k) c.args.id) c.self.view_is ∙ c.requires) in
    none_here c.self.inside.buffers.items c.args.id c.index_mut.result.now live c.index_mut.ensures.value c.in-None.is
