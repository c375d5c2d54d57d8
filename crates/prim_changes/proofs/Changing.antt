-- Changes of one buffer.
use Rattle.std.proofs.Common.{◌≡◌, ℕ, Bool, true, false, List, [], ◌∷◌, refl, sym, ap, ◌∙◌}
use Rattle.std.specs.Prelude.{Option, Some, None, is_some, slice_set}
use Rattle.text_model.specs.Commit.{Site}
use Rattle.editor_model.specs.Editor.{Editor, Live, live, is_live, change_site}
use Rattle.editor_model.specs.Values.{Value, Fault, Answered}
use Rattle.editor_model.specs.Answers.{Test, refuse, first_fault, Applied, applied, applied_of}

-- where no live buffer has the number, nothing changes
pub unchanged : (e : Editor) (id : ℕ) (change : Site → Site) → is_live e id ≡ false → e ≡ change_site id change e
unchanged e id change h = go (live e id) h
  where
    go : (o : Option Live) → is_some o ≡ false → e ≡ (let x : Editor = elim o [
      | None ↦ e
      | Some l ↦
          let site : Site = change (record { buffer = l.buffer; marks = e.marks }) in
          record e { buffers = slice_set e.buffers id (Some (record l { buffer = site.buffer })); marks = site.marks }
    ] in x)
    go None h = refl
    go (Some l) h = cc

-- TESTS THAT ALL PASS
pub applies : (e new goal : Editor) (tests : List Test) (v w : Value) → first_fault tests ≡ None → new ≡ goal → v ≡ w → (let a : Applied = record { editor = new; reply = Answered v } in a) ≡ applied e tests goal w
applies e new goal tests v w h g s =
    ap (λ n. let a : Applied = record { editor = n; reply = Answered v } in a) g
    ∙ ap (λ x. let a : Applied = record { editor = goal; reply = Answered x } in a) s
    ∙ sym (ap (λ f. applied_of f e goal w) h)

pub two_pass : (t u : Test) → None ≡ t → None ≡ u → first_fault (t ∷ u ∷ []) ≡ None
two_pass None None h k = refl
two_pass None (Some f) h k = cc
two_pass (Some f) u h k = cc

pub test_passed : (f : Fault) (b : Bool) → None ≡ refuse f b → b ≡ true
test_passed f true h = refl
test_passed f false h = cc
