use Rattle.script_read.proofs.Ascii.{ascii_put}
use Rattle.script_read.proofs.strings.push_ascii.Goals as goal

pub returns : goal.returns
returns c = ascii_put c.args.chars.now.items c.extend_bytes.new.self.items c.args.run.now c.requires c.in_ok-extend_bytes.ensures.ok
