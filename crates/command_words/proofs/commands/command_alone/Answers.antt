use Rattle.std.proofs.Common.{codes, refl}
use Rattle.command_words.proofs.SameWords.{other_word}
use Rattle.command_words.proofs.commands.command_alone.Goals as goal

pub returns-in_default : goal.returns-in_default
returns-in_default c =
    let run = other_word c.args.word.now (codes "run") c.in_default.not-run in
    let recording = other_word c.args.word.now (codes "record") c.in_default.not-record in
    let replay = other_word c.args.word.now (codes "replay") c.in_default.not-replay in
    let check = other_word c.args.word.now (codes "check") c.in_default.not-check in
    let view = other_word c.args.word.now (codes "view") c.in_default.not-view in
    rw (run, recording, replay, check, view) refl
