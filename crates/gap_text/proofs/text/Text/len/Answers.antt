use Rattle.std.proofs.Common.{◌≡◌, ◌+◌, ◌*◌, length, subst, sym, arith}
use Rattle.gap_text.specs.Text.{characters, Gapped}
use Rattle.gap_text.proofs.Texts.{length_characters}
use Rattle.gap_text.proofs.text.Text.len.Goals as goal

pub returns-clause-characters : goal.returns-clause-characters
returns-clause-characters c pool lies =
    let e : length (characters pool c.args.self.now) + c.self.inside.spare ≡ 256 * length c.self.inside.blocks.items =
    subst (λ (t : Gapped). length (characters pool c.args.self.now) + t.spare ≡ 256 * length t.blocks) (sym c.self.view_is) (length_characters pool c.args.self.now lies) in
    omega arith
