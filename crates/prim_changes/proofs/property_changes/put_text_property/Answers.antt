use Rattle.editor_model.specs.Arguments.{symbol_of, value_of}
use Rattle.editor_model.specs.PropertyCalls.{property_tests, must_take_properties, property_change, put_edit}
use Rattle.editor_model.specs.Values.{Nil}
use Rattle.ek_call.specs.Meaning.{view}
use Rattle.buffer_table.specs.Kept.{editor_of}
use Rattle.prim_changes.proofs.Refusing.{refused_in_front}
use Rattle.prim_changes.proofs.property_changes.put_text_property.Goals as goal

pub returns-in_err-name : goal.returns-in_err-name
returns-in_err-name c =
    let e = editor_of c.args.editor.now in
    let a = view c.args.a.now in
    let b = view c.args.b.now in
    let name = view c.args.name.now in
    let v = view c.args.v.now in
    let edit = put_edit (symbol_of name) (value_of v) in
    refused_in_front c.from_residual.result c.in_err-name.field-0.0 (property_tests e a b name v) (must_take_properties e a b edit) (property_change e a b edit Nil) c.from_residual.ensures c.in_err-name.ensures.test
