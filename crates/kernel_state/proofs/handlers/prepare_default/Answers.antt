use Rattle.std.proofs.Common.{List, sym, ap, ◌∙◌, map}
use Rattle.text_model.specs.Properties.{Cell}
use Rattle.ek_types.specs.Listing.{items_of}
use Rattle.ek_call.specs.Meaning.{view}
use Rattle.kernel_steps.specs.Handlers.{default_prepared, kind_of}
use Rattle.kernel_steps.specs.declared.kernel.Kind.{Kind}
use Rattle.kernel_state.specs.Defaults.{text_prepared}
use Rattle.kernel_state.specs.Meaning.{state_of}
use Rattle.kernel_state.proofs.handlers.prepare_default.Goals as goal

pub returns-in_ok-text-in-Filter-clause-prepared :
    goal.returns-in_ok-text-in-Filter-clause-prepared
returns-in_ok-text-in-Filter-clause-prepared c =
    let s = state_of c.args.kernel.now in
    c.prepare_text.ensures.prepared
    ∙ ap (λ (t : List Cell). text_prepared s c.in-Filter.p t) c.in_ok-text-in-Filter.ensures
    ∙ ap (λ (k : Kind). default_prepared (kind_of k) (map view (items_of c.args.args.now)) s) (sym c.in-Filter.is)

pub returns-in_ok-text-in-Sentinel-clause-prepared :
    goal.returns-in_ok-text-in-Sentinel-clause-prepared
returns-in_ok-text-in-Sentinel-clause-prepared c =
    let s = state_of c.args.kernel.now in
    c.prepare_text-in-Sentinel.ensures.prepared
    ∙ ap (λ (t : List Cell). text_prepared s c.in-Sentinel.p t) c.in_ok-text-in-Sentinel.ensures
    ∙ ap (λ (k : Kind). default_prepared (kind_of k) (map view (items_of c.args.args.now)) s) (sym c.in-Sentinel.is)
