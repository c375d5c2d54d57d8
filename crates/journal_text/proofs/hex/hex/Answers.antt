use Rattle.std.proofs.Common.{◌≡◌, ◌%◌, true, length, ap, sym, ◌∙◌, take, arith}
use Rattle.std.specs.List.{list_all}
use Rattle.std.proofs.lemmas.Bool.{eqb-true}
use Rattle.journal_text.specs.Reading.{is_hex, are_pairs}
use Rattle.journal_text.proofs.Hexes.{pairs_even}
use Rattle.journal_text.proofs.Prefixes.{prefix_passes}
use Rattle.journal_text.proofs.hex.hex.Goals as goal

pub fill-requires-clause-hex : goal.fill-requires-clause-hex
fill-requires-clause-hex c = ap (list_all is_hex) (c.split_at.ensures.front ∙ ap (λ k. take k c.args.bytes.now) c.hex_len.ensures.exact) ∙ prefix_passes is_hex c.args.bytes.now

pub fill-requires-clause-spare : goal.fill-requires-clause-spare
fill-requires-clause-spare c =
    let digits = c.split_at.result.0.now in
    let yes : c.are_pairs.result ≡ true = grind arith in
    let pairs : are_pairs digits ≡ true = sym c.are_pairs.ensures ∙ yes in
    let even = eqb-true (length digits % 2) 0 (pairs_even digits ∙ pairs) in
    omega (arith, even, c.in_ok-reserve.ensures.room)
