-- What a sentinel is told of an exit code.
use Rattle.std.proofs.Common.{◌≡◌, ◌≢◌, ℕ, zero, suc, List, ◌++◌, map, refl, ap, sym, ◌∙◌, append_assoc, arith, codes, decimal, ◌+◌, ℤ, pos, negsuc}
use Rattle.std.specs.Fmt.{signed_decimal}
use Rattle.std.proofs.lemmas.List.{map-append}
use Rattle.text_model.specs.Characters.{Ch, Scalar}
use Rattle.plain_machine.specs.Waits.{exit_text}

pub exit_said : (code : ℤ) → code ≢ pos 0 → codes "exited abnormally with code " ++ (signed_decimal code ++ codes "\n") ≡ exit_text code
exit_said (pos zero) other = absurd (other refl)
exit_said (pos (suc n)) other = refl
exit_said (negsuc n) other = ap (λ m. codes "exited abnormally with code -" ++ (decimal m ++ codes "\n")) (let next : suc n ≡ n + 1 = omega arith in next)

pub three_put : (text : List Ch) (a b c : List ℕ) → ((text ++ map Scalar a) ++ map Scalar b) ++ map Scalar c ≡ text ++ map Scalar (a ++ (b ++ c))
three_put text a b c =
    append_assoc (text ++ map Scalar a) (map Scalar b) (map Scalar c)
    ∙ append_assoc text (map Scalar a) (map Scalar b ++ map Scalar c)
    ∙ ap (λ l. text ++ (map Scalar a ++ l)) (sym (map-append Scalar b c))
    ∙ ap (λ l. text ++ l) (sym (map-append Scalar a (b ++ c)))
