use Rattle.std.proofs.Common.{◌≡◌, length, drop, map, ap, sym, ◌∙◌, arith}
use Rattle.std.proofs.lemmas.List.{drop-map, length-map, take_all}
use Rattle.text_model.specs.Characters.{code}
use Rattle.trace_print.proofs.text.codes_from.Goals as goal

pub returns-clause-codes : goal.returns-clause-codes
returns-clause-codes c =
    let behind = drop c.args.i c.args.chars.now.items in
    let lent : c.split_at.result.1.now ≡ map code behind = c.split_at.ensures.back ∙ ap (drop c.args.i) c.codes.ensures.codes ∙ drop-map code c.args.i c.args.chars.now.items in
    let size : length c.split_at.result.1.now ≡ length behind = ap length lent ∙ length-map behind code in
    lent ∙ ap (map code) (sym (take_all (length c.split_at.result.1.now) behind (omega (arith, size))))
