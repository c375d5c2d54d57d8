use Rattle.std.proofs.Common.{◌≡◌, sym, ◌∙◌, subst, inr}
use Rattle.host_link.specs.Meaning.{answer_of}
use Rattle.host_link.specs.Played.{end_as}
use Rattle.handler_run.specs.Asking.{MayAnswer}
use Rattle.handler_run.proofs.taken.take_answer.Goals as goal

pub got_of-requires : goal.got_of-requires
got_of-requires c =
    subst (λ d. MayAnswer d (answer_of c.args.answer.now)) (sym c.drained.ensures ∙ c.if-drained.false) (c.requires.told c.get-process.result.now c.get-process.ensures)

pub returns-then-drained-clause-ok : goal.returns-then-drained-clause-ok
returns-then-drained-clause-ok c =
    let drained = sym c.drained.ensures ∙ c.if-drained.true in
    let whole : end_as (answer_of c.args.answer.now) ≡ answer_of c.args.answer.now =
    subst (λ d. MayAnswer d (answer_of c.args.answer.now)) drained (c.requires.told c.get-process.result.now c.get-process.ensures) in
    record {
      one = c.get-process.result.now;
      found = c.get-process.ensures;
      taken = inr (drained, record { how = c.end_of.result; same = c.end_of.ensures ∙ whole; takes = c.take_end.ensures });
    }
