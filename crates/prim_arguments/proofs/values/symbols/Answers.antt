use Rattle.std.proofs.Common.{ap, ◌∙◌, map, option_map, arith}
use Rattle.std.proofs.lemmas.Option.{slice_get-map}
use Rattle.std.proofs.lemmas.List.{length-map}
use Rattle.editor_model.specs.Values.{Sym}
use Rattle.ek_types.specs.Listing.{items_of}
use Rattle.ek_types.specs.Property.{number_of}
use Rattle.ek_call.specs.Meaning.{view}
use Rattle.prim_arguments.proofs.Loops.{seen_more, mapped_all}
use Rattle.prim_arguments.proofs.values.symbols.Goals as goal

pub loop-i-preserved : goal.loop-i-preserved
loop-i-preserved c =
    let names = items_of c.args.names.now in
    seen_more view Sym (map number_of names) _ _ c.loop-i.i _ _ c.in_ok-push.ensures.ok (slice_get-map number_of names c.loop-i.i ∙ ap (option_map number_of) c.at.ensures) c.symbol.ensures c.loop-i.invariant

pub returns : goal.returns
returns c = mapped_all Sym (map number_of (items_of c.args.names.now)) _ c.loop-i.i (omega (arith, length-map (items_of c.args.names.now) number_of)) c.loop-i.invariant
