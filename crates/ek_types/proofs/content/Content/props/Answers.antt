use Rattle.std.proofs.Common.{◌<◌, length, ap, arith}
use Rattle.ek_types.proofs.Pieces.{length-zip, enough_sets}
use Rattle.ek_types.proofs.Putting.{set_beside}
use Rattle.ek_types.proofs.content.Content.props.Goals as goal

pub returns : goal.returns
returns c =
    let within : c.args.i < length c.self.inside.text.items = omega (arith, c.requires, length-zip c.self.inside.text.items _ (enough_sets c.self.inside.text.items c.self.inside.runs.items c.self.invariant.0), ap length c.self.view_is) in
    rw (← c.self.view_is, c.set_of.ensures, c.ending_by.ensures.exact, c.deref.ensures.value, c.deref-2.ensures.value)
    (set_beside c.self.inside.text.items c.self.inside.runs.items c.args.i c.self.invariant.0 within)
