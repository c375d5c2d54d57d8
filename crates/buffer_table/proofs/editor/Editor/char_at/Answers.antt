use Rattle.std.proofs.Common.{◌≡◌, ◌+◌, ◌≤◌, true, length, subst, sym, ap, ◌∙◌, arith}
use Rattle.std.specs.Prelude.{slice_get, Some, option_map}
use Rattle.text_model.specs.Commit.{Buffer}
use Rattle.editor_model.specs.Editor as shown
use Rattle.gap_text.specs.Text.{LiesIn, characters}
use Rattle.ek_types.specs.Seen.{ch_of}
use Rattle.buffer_table.specs.Kept.{Named, Kept, Lives, is_live, editor_of}
use Rattle.buffer_table.proofs.KeptLemmas.{char_in, live_here, none_here, live_in, buffer_is, place_in}
use Rattle.buffer_table.proofs.editor.Editor.char_at.Goals as goal

pub at-requires-clause-lies : goal.at-requires-clause-lies
at-requires-clause-lies c =
    let live : is_live c.self.inside.buffers.items c.args.id ≡ true = live_in (record { buffers = c.self.inside.buffers.items; current = c.self.inside.current; marks = c.self.inside.marks; registers = c.self.inside.registers.items; pool = c.self.inside.pool; lifted = c.self.inside.lifted }) c.args.id (ap (λ (k : Kept). shown.is_live (editor_of k) c.args.id) c.self.view_is ∙ c.requires.live) in
    let lives : Lives c.self.inside.buffers.items c.args.id c.in-Some.live = live_here c.self.inside.buffers.items c.args.id c.index.result.now c.in-Some.live live c.index.ensures c.in-Some.is in
    let n : Named = record { name = c.live.inside.name.items; buffer = c.live.inside.buffer; read_only = c.live.inside.read_only } in
    let kept : Kept = (record { buffers = c.self.inside.buffers.items; current = c.self.inside.current; marks = c.self.inside.marks; registers = c.self.inside.registers.items; pool = c.self.inside.pool; lifted = c.self.inside.lifted }) in
    let here : Lives c.self.inside.buffers.items c.args.id n = lives ∙ ap (λ (m : Named). Some (Some m)) (sym c.live.view_is) in
    subst (LiesIn c.self.inside.pool) (sym c.text.ensures) (subst (λ (m : Named). LiesIn c.self.inside.pool m.buffer.text) (sym c.live.view_is) (c.self.invariant.all.lie c.args.id c.in-Some.live lives))

pub at-requires-clause-range : goal.at-requires-clause-range
at-requires-clause-range c =
    let live : is_live c.self.inside.buffers.items c.args.id ≡ true = live_in (record { buffers = c.self.inside.buffers.items; current = c.self.inside.current; marks = c.self.inside.marks; registers = c.self.inside.registers.items; pool = c.self.inside.pool; lifted = c.self.inside.lifted }) c.args.id (ap (λ (k : Kept). shown.is_live (editor_of k) c.args.id) c.self.view_is ∙ c.requires.live) in
    let lives : Lives c.self.inside.buffers.items c.args.id c.in-Some.live = live_here c.self.inside.buffers.items c.args.id c.index.result.now c.in-Some.live live c.index.ensures c.in-Some.is in
    let n : Named = record { name = c.live.inside.name.items; buffer = c.live.inside.buffer; read_only = c.live.inside.read_only } in
    let kept : Kept = (record { buffers = c.self.inside.buffers.items; current = c.self.inside.current; marks = c.self.inside.marks; registers = c.self.inside.registers.items; pool = c.self.inside.pool; lifted = c.self.inside.lifted }) in
    let here : Lives c.self.inside.buffers.items c.args.id n = lives ∙ ap (λ (m : Named). Some (Some m)) (sym c.live.view_is) in
    let place : ((c.args.i + 1) ≤ length (characters c.self.inside.pool n.buffer.text)) × ((c.args.i + 1) ≤ length n.buffer.sets) =
    place_in kept c.args.id (c.args.i + 1) n here (subst (λ (k : Kept). (c.args.i + 1) ≤ length (shown.buffer_at (editor_of k) c.args.id).text) (sym c.self.view_is) (let l : c.args.i + 1 ≤ length (shown.buffer_at (editor_of c.args.self.now) c.args.id).text = omega (arith, c.requires.range) in l)) in
    let e : length (characters c.self.inside.pool c.text.result.now) ≡ length (characters c.self.inside.pool n.buffer.text) = ap (λ t. length (characters c.self.inside.pool t)) c.text.ensures in
    omega (arith, place.0)

pub returns : goal.returns
returns c =
    let live : is_live c.self.inside.buffers.items c.args.id ≡ true = live_in (record { buffers = c.self.inside.buffers.items; current = c.self.inside.current; marks = c.self.inside.marks; registers = c.self.inside.registers.items; pool = c.self.inside.pool; lifted = c.self.inside.lifted }) c.args.id (ap (λ (k : Kept). shown.is_live (editor_of k) c.args.id) c.self.view_is ∙ c.requires.live) in
    let lives : Lives c.self.inside.buffers.items c.args.id c.in-Some.live = live_here c.self.inside.buffers.items c.args.id c.index.result.now c.in-Some.live live c.index.ensures c.in-Some.is in
    let n : Named = record { name = c.live.inside.name.items; buffer = c.live.inside.buffer; read_only = c.live.inside.read_only } in
    let kept : Kept = (record { buffers = c.self.inside.buffers.items; current = c.self.inside.current; marks = c.self.inside.marks; registers = c.self.inside.registers.items; pool = c.self.inside.pool; lifted = c.self.inside.lifted }) in
    let here : Lives c.self.inside.buffers.items c.args.id n = lives ∙ ap (λ (m : Named). Some (Some m)) (sym c.live.view_is) in
    let place : ((c.args.i + 1) ≤ length (characters c.self.inside.pool n.buffer.text)) × ((c.args.i + 1) ≤ length n.buffer.sets) =
    place_in kept c.args.id (c.args.i + 1) n here (subst (λ (k : Kept). (c.args.i + 1) ≤ length (shown.buffer_at (editor_of k) c.args.id).text) (sym c.self.view_is) (let l : c.args.i + 1 ≤ length (shown.buffer_at (editor_of c.args.self.now) c.args.id).text = omega (arith, c.requires.range) in l)) in
    ap (λ (k : Kept). option_map (λ x. x.0) (slice_get (shown.buffer_at (editor_of k) c.args.id).text c.args.i)) (sym c.self.view_is)
    ∙ ap (λ (b : Buffer). option_map (λ x. x.0) (slice_get b.text c.args.i)) (buffer_is kept c.args.id n here)
    ∙ char_in (characters c.self.inside.pool n.buffer.text) n.buffer.sets c.args.i (ch_of c.at.result) (sym (ap (λ t. slice_get (characters c.self.inside.pool t) c.args.i) c.text.ensures) ∙ c.at.ensures.item) (omega (arith, place.1))

pub unreachable-requires : goal.unreachable-requires
unreachable-requires c =
    let live : is_live c.self.inside.buffers.items c.args.id ≡ true = live_in (record { buffers = c.self.inside.buffers.items; current = c.self.inside.current; marks = c.self.inside.marks; registers = c.self.inside.registers.items; pool = c.self.inside.pool; lifted = c.self.inside.lifted }) c.args.id (ap (λ (k : Kept). shown.is_live (editor_of k) c.args.id) c.self.view_is ∙ c.requires.live) in
    none_here c.self.inside.buffers.items c.args.id c.index.result.now live c.index.ensures c.in-None.is
