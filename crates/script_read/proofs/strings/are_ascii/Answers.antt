use Rattle.script_read.proofs.Ascii.{ascii_test}
use Rattle.script_read.proofs.strings.are_ascii.Goals as goal

pub returns : goal.returns
returns c = ascii_test c.args.bytes.now c.is_ascii.result c.is_ascii.ensures.cases
