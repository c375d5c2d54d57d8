use Rattle.std.proofs.Common.{◌≡◌, [], ◌∷◌, ◌-◌, ◌∙◌, rules}
use Rattle.std.specs.Prelude.{Some}
use Rattle.editor_model.specs.Arguments.{from_of, to_of, must_fit_a_string}
use Rattle.editor_model.specs.TextCalls.{must_be_a_region, must_give_region}
use Rattle.ek_call.specs.Faults.{fault_of}
use Rattle.ek_call.specs.Meaning.{view}
use Rattle.buffer_table.specs.Kept.{editor_of}
use Rattle.prim_arguments.specs.Meaning.{fault_in}
use Rattle.prim_changes.proofs.Strings.{first_in_front}
use Rattle.prim_changes.proofs.texts.must_give_and_fit.Goals as goal

pub returns-in_err-must_be_a_region-clause-whole : goal.returns-in_err-must_be_a_region-clause-whole
returns-in_err-must_be_a_region-clause-whole c =
    let e = editor_of c.args.editor.now in
    let a = view c.args.a.now in
    let b = view c.args.b.now in
    let f = c.in_err-must_be_a_region.field-0.0 in
    let told : fault_in c.from_residual.result ≡ Some (fault_of f) = search rules in
    told ∙ first_in_front (must_be_a_region e a b []) (must_give_region e a b ∷ must_fit_a_string (to_of e a b - from_of e a b) ∷ []) (fault_of f) c.in_err-must_be_a_region.ensures
