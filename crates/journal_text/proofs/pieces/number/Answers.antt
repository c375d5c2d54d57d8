use Rattle.std.proofs.Common.{ap, ◌∙◌, take}
use Rattle.std.specs.List.{list_all}
use Rattle.plain_machine.specs.Words.{is_digit}
use Rattle.journal_text.proofs.Prefixes.{prefix_passes}
use Rattle.journal_text.proofs.pieces.number.Goals as goal

pub number_of-requires : goal.number_of-requires
number_of-requires c = ap (list_all is_digit) (c.split_at.ensures.front ∙ ap (λ k. take k c.args.bytes.now) c.digits_len.ensures.exact) ∙ prefix_passes is_digit c.args.bytes.now
