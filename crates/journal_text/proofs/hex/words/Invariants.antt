use Rattle.std.proofs.Common.{length}
use Rattle.host_link.specs.Meaning.{words_of}
use Rattle.journal_text.proofs.Arguments.{SoFar}
use Rattle.journal_text.proofs.hex.words.Given as goal

abbrev pub invariant-words : goal.invariant-words
invariant-words l = SoFar (words_of l.words) l.rest l.bytes

abbrev pub decreases-words : goal.decreases-words
decreases-words l = length l.rest
