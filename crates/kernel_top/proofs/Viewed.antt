-- What the word `view` comes to.
use Rattle.std.proofs.Common.{◌≡◌, ℕ, List, [], Result, Ok, Err, inl, inr, refl, sym, ap, subst, arith}
use Rattle.std.specs.Io.KnownBytes.{Appends}
use Rattle.std.proofs.KnownBytes.{Appends-nil}
use Rattle.editor_model.specs.Values.{Script}
use Rattle.editor_model.specs.Editor.{Editor}
use Rattle.plain_machine.specs.Exchanges.{Exchange}
use Rattle.plain_machine.specs.State.{Program}
use Rattle.plain_machine.specs.WholeRuns.{Ran}
use Rattle.plain_machine.specs.Grammar.{IsScript}
use Rattle.ek_types.specs.Io.{SinkState, HasCause}
use Rattle.final_view.specs.Faults.{Views}
use Rattle.final_view.specs.declared.fault.ViewFault.{ViewFault}
use Rattle.final_view.specs.declared.fault.ViewFault.TheVariants as fault
use Rattle.kernel_steps.specs.Outside.{deepest}
use Rattle.kernel_top.specs.Reading.{HasEnded}
use Rattle.kernel_top.specs.Writing.{IsWhollyWritten, IsFrontWritten}
use Rattle.kernel_top.specs.Viewing.{view_of, Viewed, viewed_status}
use Rattle.kernel_top.specs.Outcomes.{Seen, OnView}
use Rattle.kernel_top.specs.declared.status.Status.{Status}
use Rattle.kernel_top.specs.declared.status.Status.TheVariants as status
use Rattle.kernel_top.proofs.Writing.{all_written, front_written}

-- a view that couldn't be written is the sink's fault
pub cause : (r : Result (Unit {0}) ViewFault) (old new : SinkState) (bytes : List ℕ) → Views old new r bytes → HasCause old.faults new.faults (viewed_status r ≡ status.WriteFault)
cause (Ok x) old new bytes w = record { later = w.later; rose = λ e. absurd (let no : status.Done ≡ status.WriteFault = e in cc) }
cause (Err fault.Sink) old new bytes w = record { later = w.later; rose = λ e. w.rose }
cause (Err fault.NoMemory) old new bytes same = record {
  later = let e = ap (λ (s : SinkState). s.faults) same in omega (arith, e);
  rose = λ e. absurd (let no : status.NoMemory ≡ status.WriteFault = e in cc);
}

module _ (program : Program) (script : Script) where
  pub no_read_fault : (answer : Status) (written : List ℕ) (exchanges : List Exchange) (before now : SinkState) → Viewed answer program script written exchanges before now → answer ≡ status.ReadFault → ⊥
  no_read_fault answer written exchanges before now so e = subst (λ a. Viewed a program script written exchanges before now) e so

  -- THE VIEW
  -- a script that was run to its end was viewed
  pub viewed : (exchanges : List Exchange) (lines : List ℕ) (ran : Ran program deepest script exchanges lines) (left : Editor) → ran.last.state.editor ≡ left → (r : Result (Unit {0}) ViewFault) (old new : SinkState) → Views old new r (view_of left) →
      (written : List ℕ) × Appends old.held new.held written × Viewed (viewed_status r) program script written exchanges old new
  viewed exchanges lines ran left last (Ok x) old new w =
      let view = subst (λ e. IsWhollyWritten (view_of e) (view_of left) old new) (sym last) (all_written old new (view_of left) w) in
      (view_of left, w.ok, record { lines = lines; ran = ran; view = view })
  viewed exchanges lines ran left last (Err fault.Sink) old new w =
      let (front, is_front, put) = w.err in
      let view = subst (λ e. IsFrontWritten (view_of e) front old) (sym last) (front_written old new (view_of left) front w is_front) in
      (front, put, record { lines = lines; ran = ran; view = view })
  viewed exchanges lines ran left last (Err fault.NoMemory) old new same =
      ([], subst (λ s. Appends old.held s.held []) (sym same) (Appends-nil old.held), record { came = inl (record { lines = lines; ran = ran }); nothing = refl; same = same })

-- BY STATUS
pub came_viewed : (program : Script → Program) (script : Script) (answer : Status) (read written : List ℕ) (exchanges : List Exchange) (before now : Seen) →
    HasEnded before.source.left now.source.left → IsScript read script → Viewed answer (program script) script written exchanges before.sink now.sink → OnView program answer read written exchanges before now
came_viewed program script status.Done read written exchanges before now ended is so = record { ended = ended; script = script; is = is; so = so }
came_viewed program script status.WriteFault read written exchanges before now ended is so = record { ended = ended; script = script; is = is; so = so }
came_viewed program script status.NoMemory read written exchanges before now ended is so = inr (record { ended = ended; script = script; is = is; so = so })
came_viewed program script status.Usage read written exchanges before now ended is so = absurd so
came_viewed program script (status.Script line) read written exchanges before now ended is so = absurd so
came_viewed program script status.ReadFault read written exchanges before now ended is so = absurd so
came_viewed program script (status.Journal line) read written exchanges before now ended is so = absurd so
came_viewed program script status.JournalFull read written exchanges before now ended is so = absurd so
came_viewed program script status.SessionFull read written exchanges before now ended is so = absurd so
came_viewed program script (status.Strayed most) read written exchanges before now ended is so = absurd so
came_viewed program script (status.Differs line) read written exchanges before now ended is so = absurd so
