use Rattle.std.proofs.Common.{◌≡◌, ℕ, List, sym, ◌∙◌}
use Rattle.std.specs.Prelude.{Result, Ok, Err, MatchResult, IsUtf8}
use Rattle.std.specs.Result.{is_ok}
use Rattle.std.specs.Str.{is_utf8}
use Rattle.std.proofs.lemmas.Bool.{false_from_ne_true}
use Rattle.std.proofs.lemmas.Str.{IsUtf8-from_is_utf8, is_utf8-from_IsUtf8}
use Rattle.journal_text.proofs.hex.is_utf8.Goals as goal

ok_where_utf8 : {T E : Type 0} (result : Result T E) (bytes : List ℕ) (A : T → Type 0) (B : E → Type 0)
    → MatchResult result (λ s. A s × IsUtf8 bytes) (λ e. (IsUtf8 bytes → ⊥) × B e) → is_ok result ≡ is_utf8 bytes
ok_where_utf8 (Ok s) bytes A B h = sym (is_utf8-from_IsUtf8 bytes h.1)
ok_where_utf8 (Err e) bytes A B h = sym (false_from_ne_true (is_utf8 bytes) (λ u. h.0 (IsUtf8-from_is_utf8 bytes u)))

pub returns : goal.returns
returns c = c.is_ok.ensures.value ∙ ok_where_utf8 c.from_utf8.result c.args.bytes.now _ _ c.from_utf8.ensures.cases
