use Rattle.std.proofs.Common.{map, ap, ◌∙◌}
use Rattle.plain_machine.specs.Arguments.{is_word}
use Rattle.ek_types.specs.Listing.{items_of}
use Rattle.ek_call.specs.Meaning.{view}
use Rattle.kernel_state.specs.Meaning.{state_of}
use Rattle.kernel_state.proofs.Refusing.{program_passes, words_pass_all}
use Rattle.kernel_state.proofs.words.command.Goals as goal

pub all_words-requires : goal.all_words-requires
all_words-requires g c = words_pass_all (g.P.Program.meant c.args.program.now) (state_of c.args.kernel.now) (map view (items_of c.args.args.now)) c.requires

pub word_of-requires : goal.word_of-requires
word_of-requires g c = ap is_word c.arg.ensures ∙ program_passes (g.P.Program.meant c.args.program.now) (state_of c.args.kernel.now) (map view (items_of c.args.args.now)) c.requires
