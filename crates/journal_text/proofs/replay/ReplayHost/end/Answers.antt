use Rattle.std.proofs.Common.{rules, ◌<◌, ◌^◌, refl, subst}
use Rattle.plain_machine.specs.Exchanges.{AskEnd}
use Rattle.journal_text.specs.Replayed.{ReplayState}
use Rattle.journal_text.proofs.Replies.{exchanged}
use Rattle.journal_text.proofs.replay.ReplayHost.end.Goals as goal

pub returns-clause-made : goal.returns-clause-made
returns-clause-made c = search rules

pub returns-clause-asked : goal.returns-clause-asked
returns-clause-asked c =
    let made = returns-clause-made c in
    let small = subst (λ (s : ReplayState). s.faults < 2 ^ 64) c.self.view_is (subst (λ n. n < 2 ^ 64) c.in_ok-reply.ensures.faults c.keep.ensures.counted) in
    exchanged c.args.self.now _ (AskEnd c.args.child) _ _ c.args.self.now.kills small made refl
