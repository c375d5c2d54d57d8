use Rattle.std.proofs.Common.{map, sym, ◌∙◌}
use Rattle.text_model.specs.Characters.{Scalar}
use Rattle.text_model.specs.Properties.{same_ch}
use Rattle.line_session.proofs.Strings.{from_place, scalar_at}
use Rattle.line_session.proofs.restarting.same_ascii.Goals as goal

pub returns-then-not-same : goal.returns-then-not-same
returns-then-not-same c =
    let byte = scalar_at c.args.bytes.now c.loop-i.i c.from.result c.loop-i-test.true c.from.ensures in
    from_place same_ch c.args.text.now.items (map Scalar c.args.bytes.now) c.loop-i.i _ _ _ _ c.at.ensures.item byte (sym c.same.ensures ∙ c.if-not-same.true) c.loop-i.invariant.0

pub loop-i-preserved : goal.loop-i-preserved
loop-i-preserved c =
    let byte = scalar_at c.args.bytes.now c.loop-i.i c.from.result c.loop-i-test.true c.from.ensures in
    (from_place same_ch c.args.text.now.items (map Scalar c.args.bytes.now) c.loop-i.i _ _ _ _ c.at.ensures.item byte (sym c.same.ensures ∙ c.if-not-same.false) c.loop-i.invariant.0, c.loop-i.invariant.1)
