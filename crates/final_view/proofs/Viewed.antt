-- A live buffer that is lent is that of the editor.
use Rattle.std.proofs.Common.{◌≡◌, ℕ, List, Some, None, ap, ◌∙◌}
use Rattle.text_model.specs.Properties.{part}
use Rattle.text_model.specs.Marks.{Overlay}
use Rattle.text_model.specs.Commit.{Buffer}
use Rattle.editor_model.specs.Editor.{Editor, Live, live, buffer_at, empty_buffer}
use Rattle.final_view.specs.Shown.{scene_in, shown_from, shown}

pub lent : (e : Editor) (id : ℕ) (l : Live) → Some l ≡ live e id → l.buffer ≡ buffer_at e id
lent e id l h = ap (λ x. elim x [ Some l ↦ l.buffer | None ↦ empty_buffer ]) h

pub viewed : (e : Editor) (id : ℕ) (l : Live) (first last : ℕ) (overlays : List Overlay) → Some l ≡ live e id → first ≡ (buffer_at e id).begin → last ≡ (buffer_at e id).end → overlays ≡ e.marks.overlays
    → shown_from (scene_in id first last overlays) first (part first last l.buffer.text) ≡ shown e id
viewed e id l first last overlays h p q r =
    let b : Buffer = buffer_at e id in
    ap (λ n. shown_from (scene_in id n last overlays) n (part n last l.buffer.text)) p
    ∙ ap (λ n. shown_from (scene_in id b.begin n overlays) b.begin (part b.begin n l.buffer.text)) q
    ∙ ap (λ os. shown_from (scene_in id b.begin b.end os) b.begin (part b.begin b.end l.buffer.text)) r
    ∙ ap (λ (x : Buffer). shown_from (scene_in id b.begin b.end e.marks.overlays) b.begin (part b.begin b.end x.text)) (lent e id l h)
