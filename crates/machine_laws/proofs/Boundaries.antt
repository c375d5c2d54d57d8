-- The law of one buffer, from what each change of it keeps.
use Rattle.std.proofs.Common.{◌≡◌, ℕ, Bool, true, false, [], refl, sym, ◌∙◌, arith}
use Rattle.std.proofs.lemmas.Bool.{ltb-true, ltb-false, false≢true}
use Rattle.std.specs.Prelude.{nat_lt}
use Rattle.text_model.specs.Undo.{boundary_at, newer_than, with_boundary}
use Rattle.text_model.specs.Commit.{Buffer}
use Rattle.editor_model.specs.Editor.{empty_buffer}
use Rattle.machine_laws.specs.Good.{Good}
use Rattle.machine_laws.specs.Boundaries.{KeepsBoundaries, ReplacingKeeps, ResettingKeeps, UndoingKeeps, BoundaryKeeps, RecordingKeeps}
use Rattle.machine_laws.proofs.OneBuffer.{same_text, passes_from_follows, replaced_follows, reset_follows, undone_passes, boundary_passes, started_passes, disabled_passes, enabled_passes}
use Rattle.machine_laws.proofs.GoodEditor.{Passes}

keeps : (b c : Buffer) → Good b → Passes b c → KeepsBoundaries b c
keeps b c g p = record { good = p.good; same_text = λ serial h k. same_text b c serial g p h k }

pub replacing_keeps : ReplacingKeeps
replacing_keeps id from to piece all site h k p g = keeps _ _ g (passes_from_follows _ _ (replaced_follows id from to piece all site h k p g))

pub resetting_keeps : ResettingKeeps
resetting_keeps edit from to b h e g = keeps _ _ g (passes_from_follows _ _ (reset_follows edit from to b h e g))

pub undoing_keeps : UndoingKeeps
undoing_keeps id n site g h t = keeps _ _ g (undone_passes id n site g h t)

pub boundary_keeps : BoundaryKeeps
boundary_keeps b g = (keeps b (record b { undo = with_boundary b.undo }) g p, fresh)
  where
    p : Passes b (record b { undo = with_boundary b.undo })
    p = boundary_passes b _ g refl refl

    fresh : (serial : ℕ) → boundary_at serial b.undo.entries ≡ false → boundary_at serial (with_boundary b.undo).entries ≡ true → newer_than serial (with_boundary b.undo).entries ≡ []
    fresh serial h k = go (nat_lt serial b.undo.next) refl
      where
        go : (v : Bool) → nat_lt serial b.undo.next ≡ v → newer_than serial (with_boundary b.undo).entries ≡ []
        go true l = absurd (false≢true (sym h ∙ p.stood serial (ltb-true serial b.undo.next l) k))
        go false l = p.pushed serial (ltb-false serial b.undo.next l) k

pub recording_keeps : RecordingKeeps
recording_keeps b g = (keeps b _ g (started_passes b _ g refl refl), keeps b _ g (disabled_passes b _ g refl refl), keeps b _ g (enabled_passes b _ g refl refl))

-- the buffer with which each run begins, and every new one
pub new_buffer_is_good : Good empty_buffer
new_buffer_is_good = record { ordered = tt; falling = tt; off = λ h. refl; below = omega arith; agrees = λ serial h k. absurd (false≢true k) }
