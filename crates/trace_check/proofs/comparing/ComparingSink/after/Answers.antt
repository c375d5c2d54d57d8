use Rattle.std.proofs.Common.{◌+◌, true, false, ◌++◌, ◌∷◌, [], sym, ap, ◌∙◌, subst, arith}
use Rattle.plain_machine.specs.Grammar.{line_feeds}
use Rattle.trace_check.specs.Comparing.{firsts, Compared, Agrees, common}
use Rattle.trace_check.proofs.Agreeing.{goes_on, met, stays_differing, stays_at_end, stays_at_other, one_agrees, one_differs, few_feeds, at_within}
use Rattle.trace_check.proofs.CommonFronts.{one_feed, no_feed}
use Rattle.trace_check.proofs.comparing.ComparingSink.after.Goals as goal

pub returns-then-self : goal.returns-then-self
returns-then-self c =
    let claimed = c.self.inside.claimed.now in
    let given = firsts c.self.inside.given.items in
    subst (λ (v : Compared). Agrees (record v { given = v.given ++ c.args.byte ∷ [] }) c.self.inside.at c.self.inside.feeds true) c.self.view_is
    (one_differs claimed given c.self.inside.at c.self.inside.feeds c.self.inside.differs c.self.invariant c.args.byte (stays_differing claimed given c.self.inside.at c.self.inside.feeds c.self.inside.differs c.self.invariant c.args.byte c.if-self.true))

pub returns-then-self-2 : goal.returns-then-self-2
returns-then-self-2 c =
    let claimed = c.self.inside.claimed.now in
    let given = firsts c.self.inside.given.items in
    subst (λ (v : Compared). Agrees (record v { given = v.given ++ c.args.byte ∷ [] }) c.self.inside.at c.self.inside.feeds true) c.self.view_is
    (one_differs claimed given c.self.inside.at c.self.inside.feeds c.self.inside.differs c.self.invariant c.args.byte (stays_at_end claimed given c.self.inside.at c.self.inside.feeds c.self.inside.differs c.self.invariant c.args.byte c.if-self.false (omega (arith, c.if-self-2.true))))

pub returns-then-self-byte : goal.returns-then-self-byte
returns-then-self-byte c =
    let claimed = c.self.inside.claimed.now in
    let given = firsts c.self.inside.given.items in
    subst (λ (v : Compared). Agrees (record v { given = v.given ++ c.args.byte ∷ [] }) c.self.inside.at c.self.inside.feeds true) c.self.view_is
    (one_differs claimed given c.self.inside.at c.self.inside.feeds c.self.inside.differs c.self.invariant c.args.byte (stays_at_other claimed given c.self.inside.at c.self.inside.feeds c.self.inside.differs c.self.invariant c.args.byte c.if-self.false c.if-self-byte.true))

pub returns-then-byte-eq10 : goal.returns-then-byte-eq10
returns-then-byte-eq10 c =
    let claimed = c.self.inside.claimed.now in
    let given = firsts c.self.inside.given.items in
    subst (λ (v : Compared). Agrees (record v { given = v.given ++ c.args.byte ∷ [] }) (c.self.inside.at + 1) (c.self.inside.feeds + 1) false) c.self.view_is
    (one_agrees claimed given c.self.inside.at c.self.inside.feeds c.self.inside.differs c.self.invariant c.args.byte (c.self.inside.feeds + 1) (goes_on claimed given c.self.inside.at c.self.inside.feeds c.self.inside.differs c.self.invariant c.args.byte c.if-self.false (omega (arith, c.if-self-2.false)) c.if-self-byte.false) (sym c.self.invariant.bytes ∙ met claimed given c.self.inside.at c.self.inside.feeds c.self.inside.differs c.self.invariant c.if-self.false) (ap (λ n. n + 1) c.self.invariant.lines ∙ sym (one_feed (common claimed given)) ∙ ap (λ b. line_feeds (common claimed given ++ b ∷ [])) (sym c.if-byte-eq10.true)))

pub returns : goal.returns
returns c =
    let claimed = c.self.inside.claimed.now in
    let given = firsts c.self.inside.given.items in
    subst (λ (v : Compared). Agrees (record v { given = v.given ++ c.args.byte ∷ [] }) (c.self.inside.at + 1) c.self.inside.feeds false) c.self.view_is
    (one_agrees claimed given c.self.inside.at c.self.inside.feeds c.self.inside.differs c.self.invariant c.args.byte c.self.inside.feeds (goes_on claimed given c.self.inside.at c.self.inside.feeds c.self.inside.differs c.self.invariant c.args.byte c.if-self.false (omega (arith, c.if-self-2.false)) c.if-self-byte.false) (sym c.self.invariant.bytes ∙ met claimed given c.self.inside.at c.self.inside.feeds c.self.inside.differs c.self.invariant c.if-self.false) (c.self.invariant.lines ∙ sym (no_feed (common claimed given) c.args.byte c.if-byte-eq10.false)))

pub overflow_add-result : goal.overflow_add-result
overflow_add-result c =
    let within = at_within c.self.inside.claimed.now (firsts c.self.inside.given.items) c.self.inside.at c.self.inside.feeds c.self.inside.differs c.self.invariant in
    omega (arith, within, c.self.invariant.short)

pub overflow_add-result-then-byte-eq10 : goal.overflow_add-result-then-byte-eq10
overflow_add-result-then-byte-eq10 c =
    let few = few_feeds c.self.inside.claimed.now (firsts c.self.inside.given.items) c.self.inside.at c.self.inside.feeds c.self.inside.differs c.self.invariant in
    omega (arith, few)
