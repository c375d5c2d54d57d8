use Rattle.std.proofs.Common.{◌≤◌, length, ap, arith}
use Rattle.std.specs.Prelude.{vec_len, vec_capacity, ◌-◌}
use Rattle.std.proofs.lemmas.List.Elements.{filter_map-append}
use Rattle.std.proofs.lemmas.Grind.{common_steps}
use Rattle.text_model.specs.Characters.{from_code}
use Rattle.ek_types.proofs.Readings.{length-read, are_codes_then}
use Rattle.ek_types.proofs.chars.Chars.extend.Goals as goal

pub returns-in_err-extend_from_slice-clause-had : goal.returns-in_err-extend_from_slice-clause-had
returns-in_err-extend_from_slice-clause-had c = λ h.
    let fits : length c.deref.result.now ≤ vec_capacity c.self.inside.codes - vec_len c.self.inside.codes = omega (arith, h, length-read c.more.inside.codes.items c.more.invariant, ap (λ v. length v.items) c.more.view_is, ap (λ v. v.spare) c.self.view_is, ap length c.deref.ensures.value) in
    grind (arith, common_steps, fits)

pub invariant_of-self-2 : goal.invariant_of-self-2
invariant_of-self-2 c =
    rw (c.in_ok-extend_from_slice.ensures.items, c.deref.ensures.value) (are_codes_then c.self.inside.codes.items c.more.inside.codes.items c.self.invariant c.more.invariant)

pub returns-clause-ok : goal.returns-clause-ok
returns-clause-ok c =
    rw (← c.self.view_is, ← c.more.view_is, c.in_ok-extend_from_slice.ensures.items, c.deref.ensures.value) (filter_map-append from_code c.self.inside.codes.items c.more.inside.codes.items)

pub returns-clause-room : goal.returns-clause-room
returns-clause-room c =
    omega (arith, length-read c.more.inside.codes.items c.more.invariant, ap (λ v. length v.items) c.more.view_is, ap (λ v. v.spare) c.self.view_is, c.in_ok-extend_from_slice.ensures.len, c.in_ok-extend_from_slice.ensures.capacity, c.deref.ensures.len)
