use Rattle.std.proofs.Common.{◌≡◌, length, ap, ◌∙◌, arith}
use Rattle.std.specs.Prelude.{◌==◌, vec_len}
use Rattle.ek_types.proofs.Readings.{length-read}
use Rattle.ek_types.proofs.chars.Chars.is_empty.Goals as goal

pub returns : goal.returns
returns c =
    let size : vec_len c.self.inside.codes ≡ length c.args.self.now.items = omega (arith, length-read c.self.inside.codes.items c.self.invariant, ap (λ v. length v.items) c.self.view_is) in
    c.is_empty.ensures ∙ ap (λ n. n == 0) size
