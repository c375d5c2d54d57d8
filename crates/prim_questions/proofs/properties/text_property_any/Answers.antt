use Rattle.std.proofs.Common.{ℕ, ap, ◌∙◌}
use Rattle.std.specs.Prelude.{Option}
use Rattle.text_model.specs.PropertyQuestions.{first_where, has_value}
use Rattle.editor_model.specs.Values.{Fault, Answered}
use Rattle.editor_model.specs.Answers.{reply_of}
use Rattle.editor_model.specs.Arguments.{symbol_of, value_of, from_of}
use Rattle.editor_model.specs.TextCalls.{region_text}
use Rattle.editor_model.specs.PropertyCalls.{place_value}
use Rattle.ek_call.specs.Meaning.{view}
use Rattle.buffer_table.specs.Kept.{editor_of}
use Rattle.prim_questions.proofs.properties.text_property_any.Goals as goal

pub returns : goal.returns
returns c =
    let e = editor_of c.args.editor.now in
    let a = view c.args.a.now in
    let b = view c.args.b.now in
    let v = view c.args.v.now in
    let found = λ (n : ℕ). place_value (first_where (has_value n (value_of v)) (from_of e a b) (region_text e a b)) in
    ap Answered (c.in_ok-first_in_region.ensures ∙ ap found c.in_ok-name.ensures.content)
    ∙ ap (λ (o : Option Fault). reply_of o (found (symbol_of (view c.args.name.now)))) c.in_ok-name.ensures.test
