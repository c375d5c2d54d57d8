use Rattle.std.proofs.Common.{refl}
use Rattle.kernel_top.proofs.Taking.{left_unread}
use Rattle.kernel_top.proofs.reading.read_script.Goals as goal

pub returns-in-Err-Failed-clause-none : goal.returns-in-Err-Failed-clause-none
returns-in-Err-Failed-clause-none g c = left_unread _ _ (g.S.Source.state c.args.source.now) (g.S.Source.state c.read_all.new.source) c.in-Err-Failed.ensures.some (λ bytes long. tt)

pub returns-in-Err-TooLong-clause-none : goal.returns-in-Err-TooLong-clause-none
returns-in-Err-TooLong-clause-none g c = left_unread _ _ (g.S.Source.state c.args.source.now) (g.S.Source.state c.read_all.new.source) c.in-Err-TooLong.ensures.some (λ bytes long. (refl, long c.in-Err-TooLong.field-0-is))

pub returns-in-Err-NoMemory-clause-none : goal.returns-in-Err-NoMemory-clause-none
returns-in-Err-NoMemory-clause-none g c = left_unread _ _ (g.S.Source.state c.args.source.now) (g.S.Source.state c.read_all.new.source) c.in-Err-NoMemory.ensures.some (λ bytes long. tt)
