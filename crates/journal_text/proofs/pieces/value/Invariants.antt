use Rattle.std.proofs.Common.{◌≡◌, ◌<◌, ◌^◌, drop}
use Rattle.plain_machine.specs.Words.{digits_value}
use Rattle.journal_text.proofs.pieces.value.Given as goal

abbrev pub invariant-digits : goal.invariant-digits
invariant-digits l = record {
  value : digits_value l.n (drop l.d-index l.digits) ≡ digits_value 0 l.digits;
  below : l.n < 10 ^ l.d-index;
}
