use Rattle.std.proofs.Common.{◌≡◌, ℕ, List, [], subst}
use Rattle.text_pool.specs.Pool.{Pooled}
use Rattle.gap_text.specs.Blocks.{Apart, SameOutside, OnlyFresh}
use Rattle.gap_text.specs.Text.{Gapped, LiesIn}
use Rattle.gap_text.proofs.BlockLemmas.{apart_nil}
use Rattle.gap_text.proofs.Copying.{apart_from_fresh}
use Rattle.gap_text.proofs.Elsewhere.{text_elsewhere}
use Rattle.layer_rows.proofs.texts.empties_a_copy.Goals as goal

-- a text stays where its copy changed and was given back
outlives_a_copy : (first second third last : Pooled) (source : Gapped) (blocks given : List ℕ) → LiesIn first source → LiesIn second source → OnlyFresh first [] blocks → given ≡ blocks → SameOutside blocks second third → SameOutside given third last → LiesIn last source
outlives_a_copy first second third last source blocks given lies stays fresh is others last_others =
    let apart : Apart source.blocks blocks = apart_from_fresh first [] blocks source.blocks fresh lies.blocks (apart_nil source.blocks) in
    let once = text_elsewhere second third source blocks others apart stays in
    (text_elsewhere third last source blocks (subst (λ b. SameOutside b third last) is last_others) apart once.lies).lies

pub returns : goal.returns
returns g c =
    outlives_a_copy c.args.pool.now c.copy.new.pool c.delete.new.pool c.release.new.pool c.args.text.now c.in-Ok.copy.blocks c.delete.new.self.blocks c.requires c.copy.ensures.source c.in-Ok.ensures.own_blocks c.delete.ensures.blocks
    c.delete.ensures.pool.others c.release.ensures.others
