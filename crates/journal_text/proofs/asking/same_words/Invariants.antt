use Rattle.std.proofs.Common.{◌≡◌, take}
use Rattle.host_link.specs.Meaning.{words_of}
use Rattle.journal_text.proofs.asking.same_words.Given as goal

abbrev pub invariant-words : goal.invariant-words
invariant-words l = take l.i (words_of l.a) ≡ take l.i (words_of l.b)
