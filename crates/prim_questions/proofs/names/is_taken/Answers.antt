use Rattle.std.proofs.Common.{◌≡◌, ◌∙◌, length, ap, sym, arith}
use Rattle.std.specs.Prelude.{is_some}
use Rattle.std.proofs.lemmas.List.{length-map}
use Rattle.editor_model.specs.Editor.{find_from}
use Rattle.buffer_table.specs.Kept.{editor_of}
use Rattle.prim_questions.specs.Names.{rivals}
use Rattle.prim_questions.proofs.Finding.{name_met, name_passed, none_met}
use Rattle.prim_questions.proofs.NameLemmas.{length_rivals}
use Rattle.prim_questions.proofs.names.is_taken.Goals as goal

pub returns-then-is_rival : goal.returns-then-is_rival
returns-then-is_rival c =
    let e = editor_of c.args.editor.now in
    let bs = rivals c.args.but_current e in
    let size : length bs ≡ length c.args.editor.now.buffers = grind (arith, length-map, length_rivals c.args.but_current e) in
    ap is_some (name_met bs c.loop-id.id c.args.name.now.items (find_from 0 bs c.args.name.now.items) (grind (arith, size)) (sym c.is_rival.ensures ∙ c.if-is_rival.true) c.loop-id.invariant)

pub loop-id-preserved : goal.loop-id-preserved
loop-id-preserved c =
    let e = editor_of c.args.editor.now in
    let bs = rivals c.args.but_current e in
    let size : length bs ≡ length c.args.editor.now.buffers = grind (arith, length-map, length_rivals c.args.but_current e) in
    name_passed bs c.loop-id.id c.args.name.now.items (find_from 0 bs c.args.name.now.items) (grind (arith, size)) (sym c.is_rival.ensures ∙ c.if-is_rival.false) c.loop-id.invariant

pub returns : goal.returns
returns c =
    let e = editor_of c.args.editor.now in
    let bs = rivals c.args.but_current e in
    let size : length bs ≡ length c.args.editor.now.buffers = grind (arith, length-map, length_rivals c.args.but_current e) in
    ap is_some (none_met bs c.loop-id.id c.args.name.now.items (find_from 0 bs c.args.name.now.items) (grind (arith, size)) c.loop-id.invariant)
