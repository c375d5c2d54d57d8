use Rattle.std.proofs.Common.{◌≡◌, true, false, take, drop, ap, sym, ◌∙◌, arith}
use Rattle.std.specs.Prelude.{option_map, slice_get, Some, Option}
use Rattle.text_model.specs.Properties.{PropVal, get, same_option, same_value}
use Rattle.ek_types.specs.Property.{prop_of, number_of}
use Rattle.buffer_core.specs.Changes.{values_of, records_from, is_some_record}
use Rattle.buffer_core.proofs.SomeRecord.{some_first, none_first}
use Rattle.buffer_core.proofs.Stretches.{records_first}
use Rattle.buffer_core.proofs.Reset.{value_at}
use Rattle.buffer_core.proofs.reprop.has_record_of_name.Goals as goal

pub returns-then-not-same_option : goal.returns-then-not-same_option
returns-then-not-same_option c =
    let n = number_of c.args.name in
    let props = c.args.props.now in
    let v : Option PropVal = get c.at.result.now n in
    let new : Option PropVal = option_map (λ v. prop_of v.now) c.args.new in
    let here : slice_get (values_of n props) c.loop-start.start ≡ Some v = value_at n props c.loop-start.start c.at.result.now c.at.ensures.exact in
    let other : same_option same_value v new ≡ false = ap (λ (w : Option PropVal). same_option same_value w new) (sym c.get.ensures) ∙ sym c.same_option.ensures ∙ c.if-not-same_option.true in
    sym (ap is_some_record
    (sym c.loop-start.invariant.2
    ∙ records_first n new props c.loop-start.start c.stretch_end-end.result c.args.to v c.stretch_end-end.ensures.behind c.stretch_end-end.ensures.within c.requires.range here c.stretch_end-end.ensures.same c.stretch_end-end.ensures.other)
    ∙ some_first n new v c.loop-start.start c.stretch_end-end.result (records_from n new c.stretch_end-end.result (drop c.stretch_end-end.result (take c.args.to props))) other)

pub loop-start-preserved : goal.loop-start-preserved
loop-start-preserved c =
    let n = number_of c.args.name in
    let props = c.args.props.now in
    let v : Option PropVal = get c.at.result.now n in
    let new : Option PropVal = option_map (λ v. prop_of v.now) c.args.new in
    let here : slice_get (values_of n props) c.loop-start.start ≡ Some v = value_at n props c.loop-start.start c.at.result.now c.at.ensures.exact in
    let same : same_option same_value v new ≡ true = ap (λ (w : Option PropVal). same_option same_value w new) (sym c.get.ensures) ∙ sym c.same_option.ensures ∙ c.if-not-same_option.false in (
      omega (arith, c.loop-start.invariant.0, c.stretch_end-end.ensures.behind),
      c.stretch_end-end.ensures.within,
      sym (none_first n new v c.loop-start.start c.stretch_end-end.result (records_from n new c.stretch_end-end.result (drop c.stretch_end-end.result (take c.args.to props))) same)
          ∙ sym (records_first n new props c.loop-start.start c.stretch_end-end.result c.args.to v c.stretch_end-end.ensures.behind c.stretch_end-end.ensures.within c.requires.range here c.stretch_end-end.ensures.same c.stretch_end-end.ensures.other)
          ∙ c.loop-start.invariant.2,
    )
