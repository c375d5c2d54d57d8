use Rattle.std.proofs.Common.{◌≡◌, ℕ, None, slice_set, ap, ◌∙◌}
use Rattle.std.proofs.lemmas.List.{set-set}
use Rattle.text_model.specs.Marks.{Overlay}
use Rattle.overlay_set.specs.Numbered.{overlay_at}
use Rattle.overlay_set.specs.Slots.{with_span}
use Rattle.overlay_set.proofs.Lists.{overlay_at_set}
use Rattle.overlay_set.proofs.overlays.Overlays.shift.Goals as goal

pub returns-clause-ok : goal.returns-clause-ok
returns-clause-ok c =
    let k = c.args.k in
    let os = c.args.self.now in
    let stretch : ℕ × ℕ × ℕ = (c.args.buffer, c.args.from, c.args.to) in
    let away : Overlay = record (overlay_at os k) { span = None } in
    let stands : c.stand.new.self ≡ slice_set c.remove.new.self k (with_span (overlay_at c.remove.new.self k) stretch) = rw c.in_ok-node.ensures at c.stand.ensures in
    let there : overlay_at (slice_set os k away) k ≡ away = overlay_at_set os k away c.requires.made in
    stands
    ∙ ap (λ ps. slice_set ps k (with_span (overlay_at ps k) stretch)) c.remove.ensures
    ∙ ap (λ o. slice_set (slice_set os k away) k (with_span o stretch)) there
    ∙ set-set os k away (with_span (overlay_at os k) stretch)
