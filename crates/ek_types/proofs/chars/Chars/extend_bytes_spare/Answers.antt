use Rattle.std.proofs.Common.{ℕ, ◌<◌, ◌++◌, ◌∙◌, filter_map, get_or, ap, arith}
use Rattle.std.proofs.lemmas.List.Elements.{filter_map-append}
use Rattle.text_model.specs.Characters.{from_code}
use Rattle.ek_types.proofs.Readings.{are_codes_bytes, are_codes_then, filter_map-bytes}
use Rattle.ek_types.proofs.chars.Chars.extend_bytes_spare.Goals as goal

pub invariant_of-self : goal.invariant_of-self
invariant_of-self c =
    let byte : (i : ℕ) → get_or c.args.bytes.now i 0 < 256 = λ i. omega (arith, c.type_inv.bytes i) in
    rw (c.push_bytes.ensures.items, c.replace.ensures.value) (are_codes_then c.self.inside.codes.items c.args.bytes.now c.self.invariant (are_codes_bytes c.args.bytes.now byte))

pub returns-clause-items : goal.returns-clause-items
returns-clause-items c =
    let byte : (i : ℕ) → get_or c.args.bytes.now i 0 < 256 = λ i. omega (arith, c.type_inv.bytes i) in
    rw (← c.self.view_is, c.push_bytes.ensures.items, c.replace.ensures.value)
    (filter_map-append from_code c.self.inside.codes.items c.args.bytes.now ∙ ap (λ l. filter_map from_code c.self.inside.codes.items ++ l) (filter_map-bytes c.args.bytes.now byte))
