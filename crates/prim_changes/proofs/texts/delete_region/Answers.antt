use Rattle.std.proofs.Common.{[]}
use Rattle.editor_model.specs.Values.{Nil}
use Rattle.editor_model.specs.TextCalls.{must_be_a_region, must_give_region, region_deletion}
use Rattle.ek_call.specs.Meaning.{view}
use Rattle.buffer_table.specs.Kept.{editor_of}
use Rattle.prim_changes.proofs.Refusing.{refused_in_front}
use Rattle.prim_changes.proofs.texts.delete_region.Goals as goal

pub returns-in_err-must_be_a_region : goal.returns-in_err-must_be_a_region
returns-in_err-must_be_a_region c =
    let e = editor_of c.args.editor.now in
    let a = view c.args.a.now in
    let b = view c.args.b.now in
    refused_in_front c.from_residual.result c.in_err-must_be_a_region.field-0.0 (must_be_a_region e a b []) (must_give_region e a b) (region_deletion e a b Nil) c.from_residual.ensures c.in_err-must_be_a_region.ensures
