use Rattle.std.proofs.Common.{◌≡◌, ◌≤◌, true, List, length, subst, sym, ap, ◌∙◌}
use Rattle.std.specs.Prelude.{Some, IfOk}
use Rattle.std.proofs.lemmas.Result.{IfOk-weaker}
use Rattle.text_model.specs.Properties.{Cell, part}
use Rattle.text_model.specs.Commit.{Buffer}
use Rattle.editor_model.specs.Editor as shown
use Rattle.gap_text.specs.Text.{LiesIn, characters}
use Rattle.buffer_core.specs.Meaning.{buffer_of}
use Rattle.buffer_table.specs.Kept.{Named, Kept, Lives, is_live, editor_of}
use Rattle.buffer_table.proofs.KeptLemmas.{live_here, none_here, live_in, buffer_is, place_in}
use Rattle.buffer_table.proofs.editor.Editor.substring.Goals as goal

pub substring-requires-clause-lies : goal.substring-requires-clause-lies
substring-requires-clause-lies c =
    let live : is_live c.self.inside.buffers.items c.args.id ≡ true = live_in (record { buffers = c.self.inside.buffers.items; current = c.self.inside.current; marks = c.self.inside.marks; registers = c.self.inside.registers.items; pool = c.self.inside.pool; lifted = c.self.inside.lifted }) c.args.id (ap (λ (k : Kept). shown.is_live (editor_of k) c.args.id) c.self.view_is ∙ c.requires.live) in
    let lives : Lives c.self.inside.buffers.items c.args.id c.in-Some.live = live_here c.self.inside.buffers.items c.args.id c.index.result.now c.in-Some.live live c.index.ensures c.in-Some.is in
    let n : Named = record { name = c.live.inside.name.items; buffer = c.live.inside.buffer; read_only = c.live.inside.read_only } in
    let kept : Kept = (record { buffers = c.self.inside.buffers.items; current = c.self.inside.current; marks = c.self.inside.marks; registers = c.self.inside.registers.items; pool = c.self.inside.pool; lifted = c.self.inside.lifted }) in
    let here : Lives c.self.inside.buffers.items c.args.id n = lives ∙ ap (λ (m : Named). Some (Some m)) (sym c.live.view_is) in
    subst (λ (m : Named). LiesIn c.self.inside.pool m.buffer.text) (sym c.live.view_is) (c.self.invariant.all.lie c.args.id c.in-Some.live lives)

pub substring-requires-clause-range : goal.substring-requires-clause-range
substring-requires-clause-range c =
    let live : is_live c.self.inside.buffers.items c.args.id ≡ true = live_in (record { buffers = c.self.inside.buffers.items; current = c.self.inside.current; marks = c.self.inside.marks; registers = c.self.inside.registers.items; pool = c.self.inside.pool; lifted = c.self.inside.lifted }) c.args.id (ap (λ (k : Kept). shown.is_live (editor_of k) c.args.id) c.self.view_is ∙ c.requires.live) in
    let lives : Lives c.self.inside.buffers.items c.args.id c.in-Some.live = live_here c.self.inside.buffers.items c.args.id c.index.result.now c.in-Some.live live c.index.ensures c.in-Some.is in
    let n : Named = record { name = c.live.inside.name.items; buffer = c.live.inside.buffer; read_only = c.live.inside.read_only } in
    let kept : Kept = (record { buffers = c.self.inside.buffers.items; current = c.self.inside.current; marks = c.self.inside.marks; registers = c.self.inside.registers.items; pool = c.self.inside.pool; lifted = c.self.inside.lifted }) in
    let here : Lives c.self.inside.buffers.items c.args.id n = lives ∙ ap (λ (m : Named). Some (Some m)) (sym c.live.view_is) in
    let place : (c.args.to ≤ length (characters c.self.inside.pool n.buffer.text)) × (c.args.to ≤ length n.buffer.sets) =
    place_in kept c.args.id c.args.to n here (subst (λ (k : Kept). c.args.to ≤ length (shown.buffer_at (editor_of k) c.args.id).text) (sym c.self.view_is) c.requires.range) in
    place.1

pub returns : goal.returns
returns c =
    let live : is_live c.self.inside.buffers.items c.args.id ≡ true = live_in (record { buffers = c.self.inside.buffers.items; current = c.self.inside.current; marks = c.self.inside.marks; registers = c.self.inside.registers.items; pool = c.self.inside.pool; lifted = c.self.inside.lifted }) c.args.id (ap (λ (k : Kept). shown.is_live (editor_of k) c.args.id) c.self.view_is ∙ c.requires.live) in
    let lives : Lives c.self.inside.buffers.items c.args.id c.in-Some.live = live_here c.self.inside.buffers.items c.args.id c.index.result.now c.in-Some.live live c.index.ensures c.in-Some.is in
    let n : Named = record { name = c.live.inside.name.items; buffer = c.live.inside.buffer; read_only = c.live.inside.read_only } in
    let kept : Kept = (record { buffers = c.self.inside.buffers.items; current = c.self.inside.current; marks = c.self.inside.marks; registers = c.self.inside.registers.items; pool = c.self.inside.pool; lifted = c.self.inside.lifted }) in
    let here : Lives c.self.inside.buffers.items c.args.id n = lives ∙ ap (λ (m : Named). Some (Some m)) (sym c.live.view_is) in
    IfOk-weaker c.substring.result (λ (p : List Cell). p ≡ part c.args.from c.args.to (buffer_of c.self.inside.pool c.live.inside.buffer).text) (λ (p : List Cell). p ≡ part c.args.from c.args.to (shown.buffer_at (editor_of c.args.self.now) c.args.id).text)
    (λ p e. e ∙ ap (λ (b : Buffer). part c.args.from c.args.to b.text) (sym (buffer_is kept c.args.id n here)) ∙ ap (λ (k : Kept). part c.args.from c.args.to (shown.buffer_at (editor_of k) c.args.id).text) c.self.view_is)
    c.substring.ensures

pub unreachable-requires : goal.unreachable-requires
unreachable-requires c =
    let live : is_live c.self.inside.buffers.items c.args.id ≡ true = live_in (record { buffers = c.self.inside.buffers.items; current = c.self.inside.current; marks = c.self.inside.marks; registers = c.self.inside.registers.items; pool = c.self.inside.pool; lifted = c.self.inside.lifted }) c.args.id (ap (λ (k : Kept). shown.is_live (editor_of k) c.args.id) c.self.view_is ∙ c.requires.live) in
    none_here c.self.inside.buffers.items c.args.id c.index.result.now live c.index.ensures c.in-None.is
