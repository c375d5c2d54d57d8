use Rattle.std.proofs.Common.{◌≡◌, ◌<◌, ◌^◌, drop}
use Rattle.plain_machine.specs.Words.{digits_value}
use Rattle.command_words.proofs.words.value.Given as goal

abbrev pub invariant-loop-d : goal.invariant-loop-d
invariant-loop-d l = record {
  value : digits_value l.n (drop l.d-index l.digits) ≡ digits_value 0 l.digits;
  below : l.n < 10 ^ l.d-index;
}
