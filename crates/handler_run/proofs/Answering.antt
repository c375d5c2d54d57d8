-- Answers that were told, as a host gives them.
use Rattle.std.proofs.Common.{◌≡◌, ℕ, List, [], ◌∷◌, length, take, refl, ap, sym, subst, arith}
use Rattle.std.proofs.lemmas.List.{length-take}
use Rattle.plain_machine.specs.Exchanges.{Bytes, Nothing, most_read}
use Rattle.ek_types.specs.declared.list.ListOf.{ListOf}
use Rattle.ek_types.specs.Listing.{items_of}
use Rattle.host_link.specs.Meaning.{answer_of}
use Rattle.host_link.specs.Played.{read_as}
use Rattle.host_link.specs.declared.host.Got.TheVariants as got
use Rattle.host_link.specs.declared.asking.Answer.{Answer as Told}
use Rattle.host_link.specs.declared.asking.Answer.TheVariants as told
use Rattle.handler_run.specs.Answers.{IsRead}
use Rattle.handler_run.specs.Asking.{bytes_in}

read_whole : (bytes : List ℕ) → read_as most_read (Bytes bytes) ≡ Bytes bytes → IsRead (got.Bytes (length bytes)) bytes
read_whole [] e = absurd (let none : Nothing ≡ Bytes [] = e in cc)
read_whole (b ∷ bytes) e =
    let both : Bytes (take most_read (b ∷ bytes)) ≡ Bytes (b ∷ bytes) = e in
    let same : take most_read (b ∷ bytes) ≡ b ∷ bytes = cc in
    (refl, omega arith, omega (arith, ap length same, length-take most_read (b ∷ bytes)))

pub bytes_read : (a : Told) (n : ℕ) (bytes : ListOf ℕ) → a ≡ told.Bytes bytes → n ≡ length (items_of bytes) → read_as most_read (answer_of a) ≡ answer_of a → IsRead (got.Bytes n) (bytes_in (answer_of a))
bytes_read a n bytes is size whole =
    subst (λ (b : Told). IsRead (got.Bytes n) (bytes_in (answer_of b))) (sym is)
    (subst (λ m. IsRead (got.Bytes m) (items_of bytes)) (sym size)
    (read_whole (items_of bytes) (subst (λ (b : Told). read_as most_read (answer_of b) ≡ answer_of b) is whole)))
