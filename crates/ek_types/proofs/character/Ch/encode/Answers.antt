use Rattle.std.proofs.Common.{◌≡◌, ℕ, ◌<◌, List, [], ◌∷◌, length, take, slice_set, refl, arith, ap, sym, ◌∙◌}
use Rattle.text_model.specs.Characters.{encoded}
use Rattle.ek_types.specs.Seen.{ch_of}
use Rattle.ek_types.proofs.character.Ch.encode.Goals as goal

the_first : (out : List ℕ) (b : ℕ) → 0 < length out → take 1 (slice_set out 0 b) ≡ b ∷ []
the_first [] b h = absurd (omega arith)
the_first (x ∷ out) b h = refl

pub returns-in-Raw-clause-bytes : goal.returns-in-Raw-clause-bytes
returns-in-Raw-clause-bytes c = the_first c.args.out.now c.in-Raw.byte (omega arith) ∙ ap (λ s. encoded (ch_of s)) (sym c.in-Raw.is)
