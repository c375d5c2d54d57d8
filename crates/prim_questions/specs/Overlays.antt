-- Overlays that are to be taken out of their buffers.
use Rattle.std.specs.Prelude.{Bool, false, ◌&&◌, ◌==◌, Some, None, is_some}
use Rattle.text_model.specs.Properties.{get}
use Rattle.text_model.specs.Marks.{Overlay, evaporate}

-- whether an overlay is empty and evaporates
abbrev pub vanishes : Overlay → Bool
vanishes o = elim o.span [ None ↦ false | Some s ↦ (s.start == s.end) && is_some (get o.props evaporate) ]
