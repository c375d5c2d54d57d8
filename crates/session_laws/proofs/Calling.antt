-- Calls that go by themselves, in front of any rest.
use Rattle.std.proofs.Common.{◌≡◌, ℕ, List, [], ◌∷◌, ◌++◌, refl, ◌∙◌, ap}
use Rattle.std.specs.Prelude.{None}
use Rattle.editor_model.specs.Values.{Value, Fault, Answered, Refused, Prim}
use Rattle.editor_model.specs.Editor.{Editor}
use Rattle.editor_model.specs.Prims.{OnlyAsks, SetsState, ChangesText, ConcernsHandlers, manner_of}
use Rattle.editor_model.specs.Answers.{first_fault}
use Rattle.editor_model.specs.Table.{Applied, Prepared, Change, Changes, Barred, query, apply, prepare}
use Rattle.plain_machine.specs.State.{State, Program}
use Rattle.plain_machine.specs.Refusals.{process_tests}
use Rattle.plain_machine.specs.Items.{Item, GiveAnswer, MakeChange, Target, Nowhere, ToName, ToNative, Said}
use Rattle.plain_machine.specs.Calls.{on, answered, set_call, change_call, call_by, unless_fault, process_effect, with_editor}
use Rattle.plain_machine.specs.Forms.{give, refused}
use Rattle.plain_machine.specs.Run.{Reaches, stays, goes, given, Calls, Runs, Fine}
use Rattle.plain_machine.proofs.Composed.{reaches_then}

module _ (program : Program) (bound : ℕ) where
  -- the line of an answer, and that of a refusal
  abbrev pub told : State → Value → List Said
  told s v = (give program s v Nowhere []).said

  abbrev pub told_refused : State → Fault → List Said
  told_refused s f = (refused program s f []).said

  gives : (s : State) (v : Value) (target : Target) (rest : List Item) → Reaches program bound (record { state = s; work = GiveAnswer v target ∷ rest }) [] (told s v) (given (Answered v) target s rest)
  gives s v Nowhere rest = goes refl stays
  gives s v (ToName name) rest = goes refl stays
  gives s v ToNative rest = goes refl stays

  pub asks_only : (prim : Prim) (args : List Value) (s : State) (v : Value) → manner_of prim ≡ OnlyAsks → query s.editor prim args ≡ Answered v → Calls program bound prim args s [] (told s v) (Answered v) s
  asks_only prim args s v manner is target rest =
      goes (ap (λ m. call_by m program bound s target rest prim args) manner ∙ ap (λ r. answered s target r rest) is) (gives s v target rest)

  pub sets : (prim : Prim) (args : List Value) (s : State) (e : Editor) (v : Value) → manner_of prim ≡ SetsState → apply s.editor prim args ≡ record { editor = e; reply = Answered v } →
      Calls program bound prim args s [] (told (with_editor e s) v) (Answered v) (with_editor e s)
  sets prim args s e v manner is target rest =
      goes (ap (λ m. call_by m program bound s target rest prim args) manner ∙ ap (λ (a : Applied). set_call s target rest a) is) (gives (with_editor e s) v target rest)

  pub concerns : (prim : Prim) (args : List Value) (s t : State) (v : Value) → manner_of prim ≡ ConcernsHandlers → first_fault (process_tests program bound s prim args) ≡ None →
      ((target : Target) (rest : List Item) → process_effect s target rest prim args ≡ on t (GiveAnswer v target ∷ rest)) → Calls program bound prim args s [] (told t v) (Answered v) t
  concerns prim args s t v manner none effect target rest =
      goes (ap (λ m. call_by m program bound s target rest prim args) manner ∙ ap (λ f. unless_fault f s rest (process_effect s target rest prim args)) none ∙ effect target rest) (gives t v target rest)

  pub changes : (prim : Prim) (args : List Value) (s t : State) (c : Change) (said : List Said) → manner_of prim ≡ ChangesText → prepare s.editor prim args ≡ Changes c → Runs program bound (MakeChange c) s [] said (Fine t) →
      Calls program bound prim args s [] (said ++ told t c.reply) (Answered c.reply) t
  changes prim args s t c said manner is h target rest =
      goes (ap (λ m. call_by m program bound s target rest prim args) manner ∙ ap (λ (p : Prepared). change_call s target rest p) is)
      (reaches_then program bound _ _ _ [] [] said (told t c.reply) (h (GiveAnswer c.reply target ∷ rest)) (gives t c.reply target rest))

  pub barred : (prim : Prim) (args : List Value) (s : State) (f : Fault) → manner_of prim ≡ ChangesText → prepare s.editor prim args ≡ Barred f → Calls program bound prim args s [] (told_refused s f) (Refused f) s
  barred prim args s f manner is target rest =
      goes (ap (λ m. call_by m program bound s target rest prim args) manner ∙ ap (λ (p : Prepared). change_call s target rest p) is) (goes refl stays)
