use Rattle.std.proofs.Common.{◌++◌, map, ap, ◌∙◌}
use Rattle.text_model.specs.Characters.{Scalar}
use Rattle.text_model.specs.Properties.{bare}
use Rattle.editor_model.specs.Values.{Const, Str}
use Rattle.line_drill.proofs.MadeForms.{text_is, bare_scalars}
use Rattle.line_drill.proofs.drill_script.string.Goals as goal

pub returns : goal.returns
returns c =
    let all = c.in_ok-extend_bytes.ensures.ok ∙ ap (λ l. l ++ map Scalar c.args.bytes.now) c.new-text.ensures in
    ap Const (text_is c.in_ok-plain.field-0 ∙ ap Str (c.in_ok-plain.ensures ∙ ap bare all ∙ bare_scalars c.args.bytes.now))
