use Rattle.std.proofs.Common.{◌≡◌, false, nat_eq, length, take, ap, sym, ◌∙◌, arith}
use Rattle.std.proofs.lemmas.List.{length-take}
use Rattle.std.proofs.lemmas.Bool.{ne_eqb}
use Rattle.text_model.specs.Codings.{ends_in_return}
use Rattle.utf8_stream.specs.Codings.{Held, coding_of}
use Rattle.utf8_stream.proofs.Returns.{no_return}
use Rattle.utf8_stream.proofs.decoder.Decoder.holds_return.Goals as goal

pub returns-else-self-eq1-clause-answer : goal.returns-else-self-eq1-clause-answer
returns-else-self-eq1-clause-answer c =
    let n = c.self.inside.count in
    let h = take n c.self.inside.bytes in
    let size : length h ≡ n = omega (arith, length-take n c.self.inside.bytes, c.self.invariant.0) in
    let off : nat_eq n 1 ≡ false = ne_eqb n 1 c.if-self-eq1.false in
    off
    ∙ sym (no_return (coding_of c.self.inside.coding) h c.self.invariant.1 (λ one. c.if-self-eq1.false (sym size ∙ one)))
    ∙ ap (λ (d : Held). ends_in_return d.bytes) c.self.view_is
