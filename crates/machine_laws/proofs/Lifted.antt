-- Whether the tests for what is read-only are lifted: no change of an editor by calls and commits says anything of that.
use Rattle.std.proofs.Common.{◌≡◌, ℕ, ◌+◌, List, [], ◌∷◌, length, refl, ◌∙◌}
use Rattle.std.specs.Prelude.{◌==◌, Bool, if◌then◌else◌, Option, Some, None, slice_set}
use Rattle.text_model.specs.Marks.{leave_buffer}
use Rattle.text_model.specs.Undo.{passed, with_boundary, started, disabled, enabled}
use Rattle.text_model.specs.Commit.{Buffer, Site, reset, undone_groups}
use Rattle.text_model.proofs.Cases.{by_test}
use Rattle.editor_model.specs.Values.{Value, Nil, Int, Str, TheBuffer, TheMarker, Fault, Prim, SetBuffer, GetBufferCreate, GenerateNewBuffer, RenameBuffer, SetBufferModifiedP, SetBufferReadOnly, GotoChar, NarrowToRegion, Widen, MakeMarker, PointMarker, CopyMarker, SetMarker, SetMarkerInsertionType, MakeOverlay, OverlayPut, MoveOverlay, DeleteOverlay, UndoBoundary, UndoStart, BufferDisableUndo, BufferEnableUndo}
use Rattle.editor_model.specs.Editor.{Editor, Live, live, find, live_from, scratch, with_buffer, protected, change_site, change_buffer, killed, buffer_at}
use Rattle.editor_model.specs.Arguments.{arg, flag, name_of, place, from_of, to_of}
use Rattle.editor_model.specs.Answers.{first_fault, applied_of, What, Put, Props, UndoGroups, Change}
use Rattle.editor_model.specs.BufferCalls.{found_or_made, get_buffer_create}
use Rattle.editor_model.specs.MarkerCalls.{copy_marker}
use Rattle.editor_model.specs.Commits.{mark_to, put_site, changed, commit_of, commit_tests}
use Rattle.editor_model.specs.TextCalls.{point_at, narrowed, widened}
use Rattle.editor_model.specs.Table.{apply, commit}

site_lifted : (id : ℕ) (f : Site → Site) (e : Editor) → (change_site id f e).lifted ≡ e.lifted
site_lifted id f e = go (live e id)
  where
    go : (o : Option Live) → let new : Editor = elim o [
      | None ↦ e
      | Some l ↦
          let site : Site = f (record { buffer = l.buffer; marks = e.marks }) in
          record e { buffers = slice_set e.buffers id (Some (record l { buffer = site.buffer })); marks = site.marks }
    ] in new.lifted ≡ e.lifted
    go None = refl
    go (Some l) = refl

pub buffer_lifted : (id : ℕ) (f : Buffer → Buffer) (e : Editor) → (change_buffer id f e).lifted ≡ e.lifted
buffer_lifted id f e = site_lifted id (λ site. record site { buffer = f site.buffer }) e

protected_lifted : (id : ℕ) (on : Bool) (e : Editor) → (protected id on e).lifted ≡ e.lifted
protected_lifted id on e = go (live e id)
  where
    go : (o : Option Live) → let new : Editor = elim o [ None ↦ e | Some l ↦ record e { buffers = slice_set e.buffers id (Some (record l { read_only = on })) } ] in new.lifted ≡ e.lifted
    go None = refl
    go (Some l) = refl

of_fault : (o : Option Fault) (e new : Editor) (v : Value) → new.lifted ≡ e.lifted → (applied_of o e new v).editor.lifted ≡ e.lifted
of_fault None e new v q = q
of_fault (Some f) e new v q = refl

found_lifted : (e : Editor) (name : Value) (o : Option ℕ) → (found_or_made e name o).editor.lifted ≡ e.lifted
found_lifted e name None = of_fault _ e _ _ refl
found_lifted e name (Some id) = refl

create_lifted : (e : Editor) (v : Value) → (get_buffer_create e v).editor.lifted ≡ e.lifted
create_lifted e (TheBuffer b) = refl
create_lifted e (Str s) = found_lifted e (Str s) (find e (name_of (Str s)))
create_lifted e _ = refl

copy_lifted : (e : Editor) (x kind : Value) → (copy_marker e x kind).editor.lifted ≡ e.lifted
copy_lifted e Nil kind = of_fault _ e _ _ refl
copy_lifted e (Int i) kind = of_fault _ e _ _ refl
copy_lifted e (TheMarker k) kind = of_fault _ e _ _ refl
copy_lifted e _ kind = refl

pub apply_lifted : (e : Editor) (prim : Prim) (args : List Value) → (apply e prim args).editor.lifted ≡ e.lifted
apply_lifted e SetBuffer args = of_fault _ e _ _ refl
apply_lifted e GetBufferCreate args = create_lifted e (arg args 0)
apply_lifted e GenerateNewBuffer args = of_fault _ e _ _ refl
apply_lifted e RenameBuffer args = of_fault _ e _ _ refl
apply_lifted e SetBufferModifiedP args = buffer_lifted e.current (λ b. record b { modified = flag (arg args 0) }) e
apply_lifted e SetBufferReadOnly args = protected_lifted e.current (flag (arg args 0)) e
apply_lifted e GotoChar args = of_fault _ e _ _ (buffer_lifted e.current (point_at (place e (arg args 0))) e)
apply_lifted e NarrowToRegion args = of_fault _ e _ _ (buffer_lifted e.current (narrowed (from_of e (arg args 0) (arg args 1)) (to_of e (arg args 0) (arg args 1))) e)
apply_lifted e Widen args = buffer_lifted e.current widened e
apply_lifted e MakeMarker args = of_fault _ e _ _ refl
apply_lifted e PointMarker args = of_fault _ e _ _ refl
apply_lifted e CopyMarker args = copy_lifted e (arg args 0) (arg args 1)
apply_lifted e SetMarker args = of_fault _ e _ _ refl
apply_lifted e SetMarkerInsertionType args = of_fault _ e _ _ refl
apply_lifted e MakeOverlay args = of_fault _ e _ _ refl
apply_lifted e OverlayPut args = of_fault _ e _ _ refl
apply_lifted e MoveOverlay args = of_fault _ e _ _ refl
apply_lifted e DeleteOverlay args = of_fault _ e _ _ refl
apply_lifted e UndoBoundary args = buffer_lifted e.current (λ b. record b { undo = with_boundary b.undo }) e
apply_lifted e UndoStart args = of_fault _ e _ _ (buffer_lifted e.current (λ b. record b { undo = started b.undo }) e)
apply_lifted e BufferDisableUndo args = buffer_lifted e.current (λ b. record b { undo = disabled b.undo }) e
apply_lifted e BufferEnableUndo args = buffer_lifted e.current (λ b. record b { undo = enabled b.undo }) e
apply_lifted e _ args = refl

marked_lifted : (mark : Option ℕ) (id at : ℕ) (e : Editor) → (mark_to mark id at e).lifted ≡ e.lifted
marked_lifted None id at e = refl
marked_lifted (Some k) id at e = refl

what_lifted : (e : Editor) (id from to : ℕ) (what : What) → (changed e id from to what).lifted ≡ e.lifted
what_lifted e id from to (Put piece all point_after widen mark) =
    marked_lifted mark id (from + length piece) (change_site id (put_site id from to piece all point_after widen) e) ∙ site_lifted id (put_site id from to piece all point_after widen) e
what_lifted e id from to (Props edit) = buffer_lifted id (reset edit from to) e
what_lifted e id from to (UndoGroups n) = site_lifted id (undone_groups id (passed n (buffer_at e id).undo)) e

pub commit_lifted : (e : Editor) (c : Change) → (commit e c).editor.lifted ≡ e.lifted
commit_lifted e c = go (first_fault (commit_tests e c.buffer c.what))
  where
    go : (o : Option Fault) → (commit_of o e (changed e c.buffer c.from c.to c.what) c).editor.lifted ≡ e.lifted
    go None = what_lifted e c.buffer c.from c.to c.what
    go (Some f) = refl

pub killed_lifted : (e : Editor) (id : ℕ) → (killed id e).lifted ≡ e.lifted
killed_lifted e id = go (live_from 0 gone.buffers) (e.current == id)
  where
    gone : Editor
    gone = record e { buffers = slice_set e.buffers id None; marks = leave_buffer id e.marks }

    go : (ids : List ℕ) (v : Bool) → let new : Editor = elim ids [
      | [] ↦ record (with_buffer scratch gone) { current = length gone.buffers }
      | n ∷ more ↦ if v then record gone { current = n } else gone
    ] in new.lifted ≡ e.lifted
    go [] v = refl
    go (n ∷ more) v = by_test (λ x. x.lifted ≡ e.lifted) v (record gone { current = n }) gone (λ q. refl) (λ q. refl)
