use Rattle.std.proofs.Common.{◌≡◌, drop, map}
use Rattle.std.specs.Prelude.{string_bytes}
use Rattle.text_model.specs.Properties.{same_list}
use Rattle.plain_machine.specs.Run.{same_bytes}
use Rattle.host_link.specs.Meaning.{words_of}
use Rattle.trace_check.proofs.asks.are_words.Given as goal

abbrev pub invariant-loop-i : goal.invariant-loop-i
invariant-loop-i l = same_list same_bytes (map string_bytes l.words) (words_of l.list) ≡ same_list same_bytes (drop l.i (map string_bytes l.words)) (drop l.i (words_of l.list))
