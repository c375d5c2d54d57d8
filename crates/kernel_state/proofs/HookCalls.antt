-- Names with one in front, unless it stands there.
use Rattle.std.proofs.Common.{◌≡◌, ℕ, Bool, true, false, List, ◌∷◌, sym, ap, ◌∙◌}
use Rattle.std.specs.Prelude.{◌==◌, if◌then◌else◌}
use Rattle.std.specs.List.{list_any}
use Rattle.kernel_state.specs.Setting.{added}

abbrev choose : (there : Bool) (name : ℕ) (names : List ℕ) → List ℕ
choose there name names = if there then names else name ∷ names

pub added_there : (there : Bool) (name : ℕ) (names : List ℕ) → there ≡ list_any (λ n. n == name) names → there ≡ true → names ≡ added name names
added_there there name names is so = ap (λ b. choose b name names) (sym so ∙ is)

pub added_new : (there : Bool) (name : ℕ) (names : List ℕ) → there ≡ list_any (λ n. n == name) names → there ≡ false → name ∷ names ≡ added name names
added_new there name names is so = ap (λ b. choose b name names) (sym so ∙ is)
