use Rattle.std.proofs.Common.{◌∙◌, arith}
use Rattle.utf8_stream.proofs.Blocks.{decodes_all, then_decodes}
use Rattle.utf8_stream.proofs.decoding.open_utf8.Goals as goal

pub loop-rest-preserved : goal.loop-rest-preserved
loop-rest-preserved c =
    let few = c.put_few-ends in
    let ascii = c.put_ascii-rest in
    then_decodes c.args.out.now ascii.new.out few.new.out c.args.bytes.now ascii.result.now few.result.0.now
    (then_decodes c.args.out.now c.loop-rest.out ascii.new.out c.args.bytes.now c.loop-rest.rest.now ascii.result.now c.loop-rest.invariant ascii.ensures) few.ensures.decodes

pub returns-then-ends-clause-items : goal.returns-then-ends-clause-items
returns-then-ends-clause-items c =
    let few = c.put_few-ends in
    let all = decodes_all c.put_ascii-rest.new.out few.new.out c.put_ascii-rest.result.now few.result.0.now few.ensures.decodes (few.ensures.closed c.if-ends.true) in
    all.0 ∙ c.put_ascii-rest.ensures.items ∙ c.loop-rest.invariant.items

pub returns-then-ends-clause-spare : goal.returns-then-ends-clause-spare
returns-then-ends-clause-spare c =
    let few = c.put_few-ends in
    let all = decodes_all c.put_ascii-rest.new.out few.new.out c.put_ascii-rest.result.now few.result.0.now few.ensures.decodes (few.ensures.closed c.if-ends.true) in
    omega (arith, all.1, c.put_ascii-rest.ensures.spare, c.loop-rest.invariant.spare)
