use Rattle.std.proofs.Common.{length}
use Rattle.host_link.specs.Meaning.{exchanges_of}
use Rattle.journal_text.proofs.Journals.{SoFar}
use Rattle.journal_text.proofs.journal.good_lines.Given as goal

abbrev pub invariant-lines : goal.invariant-lines
invariant-lines l = SoFar l.bytes (exchanges_of l.list) l.next l.rest

abbrev pub decreases-lines : goal.decreases-lines
decreases-lines l = length l.rest
