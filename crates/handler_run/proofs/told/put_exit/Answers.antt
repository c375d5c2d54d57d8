use Rattle.std.proofs.Common.{◌≡◌, ◌++◌, map, ap, ◌∙◌, codes, w32, to_z, of_z}
use Rattle.std.specs.Fmt.{signed_decimal}
use Rattle.std.proofs.lemmas.Int.{to_z-of_z}
use Rattle.text_model.specs.Characters.{Scalar}
use Rattle.handler_run.proofs.Telling.{exit_said, three_put}
use Rattle.handler_run.proofs.told.put_exit.Goals as goal

pub returns : goal.returns
returns c =
    let front = c.args.text.now.items in
    let back : to_z w32 (of_z w32 c.args.code) ≡ c.args.code = to_z-of_z w32 c.args.code c.ranges.code in
    let number : c.put_number.new.text.items ≡ c.put_ascii.new.text.items ++ map Scalar (signed_decimal c.args.code) =
    c.put_number.ensures.items ∙ ap (λ z. c.put_ascii.new.text.items ++ map Scalar (signed_decimal z)) back in
    c.put_ascii-2.ensures.items
    ∙ ap (λ l. l ++ map Scalar (codes "\n")) (number ∙ ap (λ l. l ++ map Scalar (signed_decimal c.args.code)) c.put_ascii.ensures.items)
    ∙ three_put front (codes "exited abnormally with code ") (signed_decimal c.args.code) (codes "\n")
    ∙ ap (λ l. front ++ map Scalar l) (exit_said c.args.code c.requires.code)
