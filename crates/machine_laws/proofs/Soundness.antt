-- Editors are sound in each state of each run.
use Rattle.std.proofs.Common.{◌≡◌, ℕ, zero, suc, true, List, [], ◌∷◌, refl, sym, subst, arith}
use Rattle.std.specs.Prelude.{Option, Some, None, is_some, not}
use Rattle.std.proofs.lemmas.Bool.{false≢true}
use Rattle.std.proofs.lemmas.Option.{same_Some, none-some}
use Rattle.text_model.specs.Undo.{Entry}
use Rattle.editor_model.specs.Values.{Value, Str, Script}
use Rattle.editor_model.specs.Editor.{Editor, Live, live, find, new_editor, with_marker}
use Rattle.editor_model.specs.Arguments.{name_of}
use Rattle.plain_machine.specs.State.{Program}
use Rattle.plain_machine.specs.Run.{start}
use Rattle.machine_laws.specs.Editors.{EndsInRecord, EditorsAreSound}
use Rattle.machine_laws.proofs.Carried.{KeptBy, run_carries}
use Rattle.machine_laws.proofs.Returning.{reaches_good, start_good}
use Rattle.machine_laws.proofs.Lively.{Here, applies_here, commits_here, kills_here, buffer_here, starts_here}
use Rattle.plain_machine.specs.Arguments.{is_new_name}
use Rattle.machine_laws.proofs.Naming.{Named, applies_named, commits_named, kills_named, buffer_named, same_named, made_named, fewer_fits}
use Rattle.machine_laws.proofs.Parting.{Parted, AllEnd, same_end, applies_end, commits_end, kills_end, buffer_end, made_end}

here_kept : KeptBy Here
here_kept = record {
  applies = λ e prim args g h. applies_here e prim args h;
  commits = λ e c g f h. commits_here e c h;
  kills = λ e id l t h. kills_here e id h;
  bounds = λ e id f t u h. buffer_here id f e h;
  moves = λ e id l h. record { lives = l };
  keeps = λ e saved h. record { lives = h.lives };
  names = λ e registers h. record { lives = h.lives };
  lifts = λ e on h. record { lives = h.lives };
  starts = λ e name q t h. starts_here e (name_of name) h;
  marks = λ e m h. record { lives = h.lives };
}

ends_kept : KeptBy AllEnd
ends_kept = record {
  applies = λ e prim args g h. applies_end e prim args h;
  commits = λ e c g f h. commits_end e c h;
  kills = λ e id l t h. kills_end e id h;
  bounds = λ e id f t u h. buffer_end id f e (λ b k. subst (λ x. Parted x.entries) (sym (u b)) k) h;
  moves = λ e id l h. same_end e (record e { current = id }) refl h;
  keeps = λ e saved h. same_end e (record e { marks = record e.marks { saved = saved } }) refl h;
  names = λ e registers h. same_end e (record e { registers = registers }) refl h;
  lifts = λ e on h. same_end e (record e { lifted = on }) refl h;
  starts = λ e name q t h. made_end (name_of name) e h;
  marks = λ e m h. same_end e (with_marker m e) refl h;
}

new_is_free : (e : Editor) (v : Value) → is_new_name e v ≡ true → find e (name_of v) ≡ None
new_is_free e (Str s) q = go (find e (name_of (Str s))) q
  where
    go : (o : Option ℕ) → not (is_some o) ≡ true → o ≡ None
    go None k = refl
    go (Some id) k = absurd (false≢true k)
new_is_free e _ q = absurd (false≢true q)

names_differ : KeptBy Named
names_differ = record {
  applies = λ e prim args g h. applies_named e prim args h;
  commits = λ e c g f h. commits_named e c h;
  kills = λ e id l t h. kills_named e id l t h;
  bounds = λ e id f t u h. buffer_named id f e h;
  moves = λ e id l h. same_named e (record e { current = id }) refl h;
  keeps = λ e saved h. same_named e (record e { marks = record e.marks { saved = saved } }) refl h;
  names = λ e registers h. same_named e (record e { registers = registers }) refl h;
  lifts = λ e on h. same_named e (record e { lifted = on }) refl h;
  starts = λ e name q t h. made_named (name_of name) e (new_is_free e name q) (fewer_fits e t) h;
  marks = λ e m h. same_named e (with_marker m e) refl h;
}

new_named : Named new_editor
new_named = record { few = omega arith; differ = λ id other l m h k q. go id other l m h k }
  where
    go : (id other : ℕ) (l m : Live) → live new_editor id ≡ Some l → live new_editor other ≡ Some m → id ≡ other
    go zero zero l m h k = refl
    go zero (suc other) l m h k = absurd (none-some m k)
    go (suc id) other l m h k = absurd (none-some l h)

parted_ends : (entries : List Entry) → Parted entries → EndsInRecord entries
parted_ends [] h = tt
parted_ends (e ∷ []) h = h
parted_ends (e ∷ f ∷ entries) h = parted_ends (f ∷ entries) h.1

new_end : AllEnd new_editor
new_end = record { each = each }
  where
    each : (id : ℕ) (l : Live) → live new_editor id ≡ Some l → Parted l.buffer.undo.entries
    each zero l h = subst (λ (x : Live). Parted x.buffer.undo.entries) (same_Some _ l h) tt
    each (suc id) l h = absurd (none-some l h)

pub editors_are_sound : (program : Program) (bound : ℕ) (script : Script) → EditorsAreSound program bound (start script)
editors_are_sound program bound script exchanges said c r = record {
  each = (reaches_good program bound (start script) c exchanges said (start_good script) r).editor.each;
  records = λ id l h. parted_ends l.buffer.undo.entries ((run_carries AllEnd ends_kept program bound script exchanges said c new_end r).each id l h);
  names = (run_carries Named names_differ program bound script exchanges said c new_named r).differ;
  here = (run_carries Here here_kept program bound script exchanges said c (record { lives = refl }) r).lives;
}
