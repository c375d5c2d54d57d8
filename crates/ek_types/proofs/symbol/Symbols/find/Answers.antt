use Rattle.std.proofs.Common.{string_bytes}
use Rattle.ek_types.proofs.Naming.{number_in-keys}
use Rattle.ek_types.proofs.symbol.Symbols.find.Goals as goal

pub returns-in-Some : goal.returns-in-Some
returns-in-Some c = rw (← c.self.view_is, number_in-keys string_bytes c.args.name.now) c.in-Some.ensures.index

pub returns-in-None : goal.returns-in-None
returns-in-None c = rw (← c.self.view_is, number_in-keys string_bytes c.args.name.now) c.in-None.ensures.index
