use Rattle.std.proofs.Common.{◌∙◌, ap}
use Rattle.marker_set.specs.Numbered.{spot_of}
use Rattle.editor_model.specs.Editor.{Editor, set_marker_spot, change_marker}
use Rattle.buffer_table.specs.Kept.{editor_of}
use Rattle.prim_questions.proofs.Making.{made, still_places}
use Rattle.prim_questions.proofs.markers.make.Goals as goal

pub set_marker-requires-clause-place : goal.set_marker-requires-clause-place
set_marker-requires-clause-place c = still_places _ _ c.args.to c.in_ok-k.ensures.ok c.requires.place

pub returns-clause-ok : goal.returns-clause-ok
returns-clause-ok c =
    let e = editor_of c.args.editor.now in
    let k = c.in_ok-k.k in
    c.set_marker_kind.ensures
    ∙ ap (λ (x : Editor). change_marker k (λ m. record m { advances = c.args.on }) x) c.set_marker.ensures
    ∙ ap (λ (x : Editor). change_marker k (λ m. record m { advances = c.args.on }) (set_marker_spot k (spot_of c.args.to) x)) c.in_ok-k.ensures.ok
    ∙ made e k (spot_of c.args.to) c.args.on c.in_ok-k.ensures.number
