-- A run that undoes back to a boundary, and one whose undoing is refused at its commit.
use Rattle.std.specs.Prelude.{ℕ, zero, suc, ◌+◌, Bool, true, false, List, [], ◌∷◌, codes, None}
use Rattle.text_model.specs.Commit.{Buffer}
use Rattle.editor_model.specs.Values.{Form, Prim, HandlerDef}
use Rattle.editor_model.specs.Editor.{buffer_at}
use Rattle.editor_model.specs.Answers.{UndoGroups}
use Rattle.plain_machine.specs.Items.{Item, CommitChange, Config}
use Rattle.plain_machine.specs.Symbols.{program_of}
use Rattle.plain_machine.specs.Run.{run, start}
use Rattle.worked_rows.specs.Row.{script, handler, call, number, string, symbol, before_change_functions}

-- the names of these scripts
abbrev pub face : ℕ
face = 17

abbrev pub narrowing : ℕ
narrowing = 18

-- (insert "ab")(undo-boundary)(insert "c")(put-text-property 1 3 'face 'face)(delete-region 1
-- 2)(undo-start)(undo-more 1)
abbrev pub undoing : List Form
undoing =
    call Prim.Insert (string (codes "ab") ∷ []) ∷
    call Prim.UndoBoundary [] ∷
    call Prim.Insert (string (codes "c") ∷ []) ∷
    call Prim.PutTextProperty (number 1 ∷ number 3 ∷ symbol face ∷ symbol face ∷ []) ∷
    call Prim.DeleteRegion (number 1 ∷ number 2 ∷ []) ∷
    call Prim.UndoStart [] ∷
    call Prim.UndoMore (number 1 ∷ []) ∷ []

-- a hook function narrows the buffer before the undoing, whose commit is refused then
--     (defhandler narrowing () (narrow-to-region 1 1))
-- (insert "ab")(undo-boundary)(insert "c")(undo-start)(add-hook 'before-change-functions
-- 'narrowing)(undo-more 1)
abbrev pub narrows : HandlerDef
narrows = handler narrowing [] (call Prim.NarrowToRegion (number 1 ∷ number 1 ∷ []) ∷ [])

abbrev pub barred : List Form
barred =
    call Prim.Insert (string (codes "ab") ∷ []) ∷
    call Prim.UndoBoundary [] ∷
    call Prim.Insert (string (codes "c") ∷ []) ∷
    call Prim.UndoStart [] ∷
    call Prim.AddHook (symbol before_change_functions ∷ symbol narrowing ∷ []) ∷
    call Prim.UndoMore (number 1 ∷ []) ∷ []

-- after so many steps
abbrev pub config_at : List Form → ℕ → Config
config_at fs steps =
    let s = script (codes "face" ∷ codes "narrowing" ∷ []) (narrows ∷ []) fs in
    (run (program_of s [] (λ i args past. None)) 16 steps (start s) []).last

abbrev pub buffer_after : List Form → ℕ → Buffer
buffer_after fs steps = buffer_at (config_at fs steps).state.editor 0

-- the first step that commits groups
abbrev pub commits_groups : List Item → Bool
commits_groups (CommitChange c ∷ rest) = elim c.what [ UndoGroups n ↦ true | _ ↦ false ]
commits_groups _ = false

abbrev pub first_from : List Form → (tries steps : ℕ) → ℕ
first_from fs zero steps = steps
first_from fs (suc tries) steps =
    elim (commits_groups (config_at fs steps).work) [ true ↦ steps | false ↦ first_from fs tries (steps + 1) ]
