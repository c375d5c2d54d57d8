-- Worked rows: undo.
use Rattle.std.specs.Prelude.{ℕ, [], ◌∷◌, codes}
use Rattle.text_model.specs.Properties.{Symbol}
use Rattle.editor_model.specs.Values.{Str, Name, Prim}
use Rattle.worked_rows.specs.Row.{Row, row, script, call, set, number, string, symbol, quoted, with_set}

-- Two groups undone, and then redone by undoing the undoing; properties come back.
-- (insert "abcd")(undo-boundary)(insert "xy")(put-text-property 1 3 'face 'bold)(delete-region 2
-- 4)(undo-boundary) (undo-start)(undo-more 2)(buffer-string)(undo-boundary)(undo-start)(undo-more
-- 2)(buffer-string)
abbrev pub undo_in_groups : Row
undo_in_groups =
    let face : ℕ = 17 in let bold : ℕ = 18 in
    row (script (codes "face" ∷ codes "bold" ∷ []) [] (
    call Prim.Insert (string (codes "abcd") ∷ []) ∷
    call Prim.UndoBoundary [] ∷
    call Prim.Insert (string (codes "xy") ∷ []) ∷
    call Prim.PutTextProperty (number 1 ∷ number 3 ∷ symbol face ∷ symbol bold ∷ []) ∷
    call Prim.DeleteRegion (number 2 ∷ number 4 ∷ []) ∷
    call Prim.UndoBoundary [] ∷
    call Prim.UndoStart [] ∷
    call Prim.UndoMore (number 2 ∷ []) ∷
    call Prim.BufferString [] ∷
    call Prim.UndoBoundary [] ∷
    call Prim.UndoStart [] ∷
    call Prim.UndoMore (number 2 ∷ []) ∷
    call Prim.BufferString [] ∷ []
    )) [] (
    codes "= nil" ∷
    codes "= nil" ∷
    codes "= nil" ∷
    codes "= nil" ∷
    codes "= nil" ∷
    codes "= nil" ∷
    codes "= nil" ∷
    codes "= nil" ∷
    codes "= \"abcd\"" ∷
    codes "= nil" ∷
    codes "= nil" ∷
    codes "= nil" ∷
    codes "= #(\"adxy\" 0 1 (face bold))" ∷
    codes "buffer *scratch* point 2 min 1 max 5 modified t current" ∷
    codes "text #(\"adxy\" 0 1 (face bold))" ∷ []
    )

-- Undoing outside the accessible portion is refused.
--     (insert "abcd")(undo-start)(narrow-to-region 1 2)(undo-more 1)
abbrev pub undo_outside : Row
undo_outside =
    row (script [] [] (
    call Prim.Insert (string (codes "abcd") ∷ []) ∷
    call Prim.UndoStart [] ∷
    call Prim.NarrowToRegion (number 1 ∷ number 2 ∷ []) ∷
    call Prim.UndoMore (number 1 ∷ []) ∷ []
    )) [] (
    codes "= nil" ∷
    codes "= nil" ∷
    codes "= nil" ∷
    codes "! 7 undo-outside" ∷
    codes "buffer *scratch* point 2 min 1 max 2 modified t current" ∷
    codes "text \"abcd\"" ∷ []
    )

-- The records as `buffer-undo-list` shows them.
--     (insert "abcd")(setq m (copy-marker 3))(undo-boundary)(delete-region 2 4)(buffer-undo-list)
abbrev pub undo_list_as_printed : Row
undo_list_as_printed =
    let m : ℕ = 17 in
    row (script (codes "m" ∷ []) [] (
    call Prim.Insert (string (codes "abcd") ∷ []) ∷
    set m Prim.CopyMarker (number 3 ∷ []) ∷
    call Prim.UndoBoundary [] ∷
    call Prim.DeleteRegion (number 2 ∷ number 4 ∷ []) ∷
    call Prim.BufferUndoList [] ∷ []
    )) [] (
    codes "= nil" ∷
    codes "= #<marker at 3 in *scratch*>" ∷
    codes "= nil" ∷
    codes "= nil" ∷
    codes "= ((\"bc\" . 2) (#<marker at 2 in *scratch*> . -1) 5 nil (1 . 5) (t . 0))" ∷
    codes "buffer *scratch* point 3 min 1 max 3 modified t current" ∷
    codes "text \"ad\"" ∷
    codes "marker 0 #<marker at 2 in *scratch*>" ∷ []
    )

-- Recording switched off and on again.
-- (insert "ab")(undo-more
-- 1)(buffer-disable-undo)(undo-start)(buffer-undo-list)(buffer-enable-undo)(buffer-undo-list)
abbrev pub recording_switched_off : Row
recording_switched_off =
    row (script [] [] (
    call Prim.Insert (string (codes "ab") ∷ []) ∷
    call Prim.UndoMore (number 1 ∷ []) ∷
    call Prim.BufferDisableUndo [] ∷
    call Prim.UndoStart [] ∷
    call Prim.BufferUndoList [] ∷
    call Prim.BufferEnableUndo [] ∷
    call Prim.BufferUndoList [] ∷ []
    )) [] (
    codes "= nil" ∷
    codes "! 6 no-further-undo" ∷
    codes "= nil" ∷
    codes "! 8 undo-disabled" ∷
    codes "= t" ∷
    codes "= nil" ∷
    codes "= nil" ∷
    codes "buffer *scratch* point 3 min 1 max 3 modified t current" ∷
    codes "text \"ab\"" ∷ []
    )

-- A deletion undone brings its properties back.
-- (insert #("ab" 0 2 (face bold)))(undo-boundary)(delete-region 1 2)(undo-start)(undo-more
-- 1)(buffer-string)
abbrev pub deletion_undone_with_properties : Row
deletion_undone_with_properties =
    let face : ℕ = 17 in let bold : ℕ = 18 in
    row (script (codes "face" ∷ codes "bold" ∷ []) [] (
    call Prim.Insert (quoted (Str (with_set ((face, Symbol bold) ∷ []) (codes "ab"))) ∷ []) ∷
    call Prim.UndoBoundary [] ∷
    call Prim.DeleteRegion (number 1 ∷ number 2 ∷ []) ∷
    call Prim.UndoStart [] ∷
    call Prim.UndoMore (number 1 ∷ []) ∷
    call Prim.BufferString [] ∷ []
    )) [] (
    codes "= nil" ∷
    codes "= nil" ∷
    codes "= nil" ∷
    codes "= nil" ∷
    codes "= nil" ∷
    codes "= #(\"ab\" 0 2 (face bold))" ∷
    codes "buffer *scratch* point 3 min 1 max 3 modified t current" ∷
    codes "text #(\"ab\" 0 2 (face bold))" ∷ []
    )

-- The first `undo-more` behind a boundary passes an empty group.
-- (insert "ab")(undo-boundary)(insert "c")(undo-boundary)(undo-start)(undo-more 1)(undo-more
-- 1)(buffer-string)(undo-more 1)(undo-more 1)
abbrev pub empty_group_first : Row
empty_group_first =
    row (script [] [] (
    call Prim.Insert (string (codes "ab") ∷ []) ∷
    call Prim.UndoBoundary [] ∷
    call Prim.Insert (string (codes "c") ∷ []) ∷
    call Prim.UndoBoundary [] ∷
    call Prim.UndoStart [] ∷
    call Prim.UndoMore (number 1 ∷ []) ∷
    call Prim.UndoMore (number 1 ∷ []) ∷
    call Prim.BufferString [] ∷
    call Prim.UndoMore (number 1 ∷ []) ∷
    call Prim.UndoMore (number 1 ∷ []) ∷ []
    )) [] (
    codes "= nil" ∷
    codes "= nil" ∷
    codes "= nil" ∷
    codes "= nil" ∷
    codes "= nil" ∷
    codes "= nil" ∷
    codes "= nil" ∷
    codes "= \"ab\"" ∷
    codes "= nil" ∷
    codes "! 6 no-further-undo" ∷
    codes "buffer *scratch* point 1 min 1 max 1 modified nil current" ∷
    codes "text \"\"" ∷ []
    )

-- A marker that was set elsewhere since a deletion stays there when this is undone.
-- (insert "abcd")(setq m (copy-marker 3))(undo-boundary)(delete-region 2 4)(set-marker m
-- 1)(undo-start)(undo-more 1) (marker-position m)
abbrev pub undo_leaves_a_marker_that_has_moved : Row
undo_leaves_a_marker_that_has_moved =
    let m : ℕ = 17 in
    row (script (codes "m" ∷ []) [] (
    call Prim.Insert (string (codes "abcd") ∷ []) ∷
    set m Prim.CopyMarker (number 3 ∷ []) ∷
    call Prim.UndoBoundary [] ∷
    call Prim.DeleteRegion (number 2 ∷ number 4 ∷ []) ∷
    call Prim.SetMarker (Name m ∷ number 1 ∷ []) ∷
    call Prim.UndoStart [] ∷
    call Prim.UndoMore (number 1 ∷ []) ∷
    call Prim.MarkerPosition (Name m ∷ []) ∷ []
    )) [] (
    codes "= nil" ∷
    codes "= #<marker at 3 in *scratch*>" ∷
    codes "= nil" ∷
    codes "= nil" ∷
    codes "= #<marker at 1 in *scratch*>" ∷
    codes "= nil" ∷
    codes "= nil" ∷
    codes "= 1" ∷
    codes "buffer *scratch* point 5 min 1 max 5 modified t current" ∷
    codes "text \"abcd\"" ∷
    codes "marker 0 #<marker at 1 in *scratch*>" ∷ []
    )
