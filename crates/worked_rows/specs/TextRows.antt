-- Worked rows: texts, markers and blocks.
use Rattle.std.specs.Prelude.{ℕ, [], ◌∷◌, codes}
use Rattle.editor_model.specs.Values.{In, SaveExcursion, SaveRestriction, SaveCurrentBuffer, Name, WhenEq, Prim}
use Rattle.worked_rows.specs.Row.{Row, row, script, forms, call, set, number, string, t}

-- The empty script.
abbrev pub empty_script : Row
empty_script =
    row (script [] [] []) [] (
    codes "buffer *scratch* point 1 min 1 max 1 modified nil current" ∷
    codes "text \"\"" ∷ []
    )

-- Insert, go, delete.
--     (insert "hello")(goto-char 2)(delete-region 2 3)
abbrev pub first_path : Row
first_path =
    row (script [] [] (
    call Prim.Insert (string (codes "hello") ∷ []) ∷
    call Prim.GotoChar (number 2 ∷ []) ∷
    call Prim.DeleteRegion (number 2 ∷ number 3 ∷ []) ∷ []
    )) [] (
    codes "= nil" ∷
    codes "= 2" ∷
    codes "= nil" ∷
    codes "buffer *scratch* point 2 min 1 max 5 modified t current" ∷
    codes "text \"hllo\"" ∷ []
    )

-- A region past the end is refused.
--     (insert "ab")(delete-region 1 9)
abbrev pub region_out_of_range : Row
region_out_of_range =
    row (script [] [] (
    call Prim.Insert (string (codes "ab") ∷ []) ∷
    call Prim.DeleteRegion (number 1 ∷ number 9 ∷ []) ∷ []
    )) [] (
    codes "= nil" ∷
    codes "! 1 args-out-of-range" ∷
    codes "buffer *scratch* point 3 min 1 max 3 modified t current" ∷
    codes "text \"ab\"" ∷ []
    )

-- An empty insertion changes nothing.
--     (insert "")(goto-char 7)
abbrev pub empty_insertion : Row
empty_insertion =
    row (script [] [] (
    call Prim.Insert (string (codes "") ∷ []) ∷
    call Prim.GotoChar (number 7 ∷ []) ∷ []
    )) [] (
    codes "= nil" ∷
    codes "= 7" ∷
    codes "buffer *scratch* point 1 min 1 max 1 modified nil current" ∷
    codes "text \"\"" ∷ []
    )

-- Markers at a tie: one stays, one advances.
--     (insert "abcd")(setq m (copy-marker 2))(setq n (copy-marker 2 t))(goto-char 2)(insert "xy")
abbrev pub markers_at_a_tie : Row
markers_at_a_tie =
    let m : ℕ = 17 in let n : ℕ = 18 in
    row (script (codes "m" ∷ codes "n" ∷ []) [] (
    call Prim.Insert (string (codes "abcd") ∷ []) ∷
    set m Prim.CopyMarker (number 2 ∷ []) ∷
    set n Prim.CopyMarker (number 2 ∷ t ∷ []) ∷
    call Prim.GotoChar (number 2 ∷ []) ∷
    call Prim.Insert (string (codes "xy") ∷ []) ∷ []
    )) [] (
    codes "= nil" ∷
    codes "= #<marker at 2 in *scratch*>" ∷
    codes "= #<marker (moves after insertion) at 2 in *scratch*>" ∷
    codes "= 2" ∷
    codes "= nil" ∷
    codes "buffer *scratch* point 4 min 1 max 7 modified t current" ∷
    codes "text \"axybcd\"" ∷
    codes "marker 0 #<marker at 2 in *scratch*>" ∷
    codes "marker 1 #<marker (moves after insertion) at 4 in *scratch*>" ∷ []
    )

-- Blocks put back point and the bounds; the last buffer killed gives a new one.
--     (insert "abcdef")
-- (save-restriction (narrow-to-region 2 4)(goto-char 1)(save-excursion (goto-char 4)(insert
-- "X"))(point-max)) (point-max)(kill-buffer)(buffer-list)
abbrev pub excursion_in_a_restriction : Row
excursion_in_a_restriction =
    row (script [] [] (
    call Prim.Insert (string (codes "abcdef") ∷ []) ∷
    In SaveRestriction (forms (call Prim.NarrowToRegion (number 2 ∷ number 4 ∷ []) ∷
    call Prim.GotoChar (number 1 ∷ []) ∷
    In SaveExcursion (forms (call Prim.GotoChar (number 4 ∷ []) ∷
    call Prim.Insert (string (codes "X") ∷ []) ∷ [])) ∷ call Prim.PointMax [] ∷ [])) ∷
    call Prim.PointMax [] ∷
    call Prim.KillBuffer [] ∷
    call Prim.BufferList [] ∷ []
    )) [] (
    codes "= nil" ∷
    codes "= nil" ∷
    codes "= 1" ∷
    codes "= 4" ∷
    codes "= nil" ∷
    codes "= 5" ∷
    codes "= 8" ∷
    codes "= t" ∷
    codes "= (#<buffer *scratch*>)" ∷
    codes "buffer *scratch* point 1 min 1 max 1 modified nil current" ∷
    codes "text \"\"" ∷ []
    )

-- The end of a restriction that is kept moves with the text in front of it.
--     (insert "abcd")(narrow-to-region 2 4)(save-restriction (goto-char 4)(insert "X"))(point-max)
abbrev pub kept_end_of_a_restriction : Row
kept_end_of_a_restriction =
    row (script [] [] (
    call Prim.Insert (string (codes "abcd") ∷ []) ∷
    call Prim.NarrowToRegion (number 2 ∷ number 4 ∷ []) ∷
    In SaveRestriction (forms (call Prim.GotoChar (number 4 ∷ []) ∷
    call Prim.Insert (string (codes "X") ∷ []) ∷ [])) ∷
    call Prim.PointMax [] ∷ []
    )) [] (
    codes "= nil" ∷
    codes "= nil" ∷
    codes "= 4" ∷
    codes "= nil" ∷
    codes "= 5" ∷
    codes "buffer *scratch* point 5 min 2 max 5 modified t current" ∷
    codes "text \"abcXd\"" ∷ []
    )

-- A point that is kept stays in front of a text that goes in there.
--     (insert "ab")(goto-char 2)(save-excursion (insert "X"))(point)
abbrev pub kept_point_of_an_excursion : Row
kept_point_of_an_excursion =
    row (script [] [] (
    call Prim.Insert (string (codes "ab") ∷ []) ∷
    call Prim.GotoChar (number 2 ∷ []) ∷
    In SaveExcursion (forms (call Prim.Insert (string (codes "X") ∷ []) ∷ [])) ∷
    call Prim.PointAt [] ∷ []
    )) [] (
    codes "= nil" ∷
    codes "= 2" ∷
    codes "= nil" ∷
    codes "= 2" ∷
    codes "buffer *scratch* point 2 min 1 max 4 modified t current" ∷
    codes "text \"aXb\"" ∷ []
    )

-- The block `save-current-buffer` puts the current buffer back; `when-eq` runs its forms where its two
-- values are equal. (get-buffer-create "w")(save-current-buffer (set-buffer "w")(insert
-- "x"))(current-buffer) (setq a (point-max))(when-eq a 1 (insert "y"))(when-eq a 2 (insert "z"))
abbrev pub buffer_put_back_and_forms_chosen : Row
buffer_put_back_and_forms_chosen =
    let a : ℕ = 17 in
    row (script (codes "a" ∷ []) [] (
    call Prim.GetBufferCreate (string (codes "w") ∷ []) ∷
    In SaveCurrentBuffer (forms (call Prim.SetBuffer (string (codes "w") ∷ []) ∷
    call Prim.Insert (string (codes "x") ∷ []) ∷ [])) ∷
    call Prim.CurrentBuffer [] ∷
    set a Prim.PointMax [] ∷
    WhenEq (Name a) (number 1) (forms (call Prim.Insert (string (codes "y") ∷ []) ∷ [])) ∷
    WhenEq (Name a) (number 2) (forms (call Prim.Insert (string (codes "z") ∷ []) ∷ [])) ∷ []
    )) [] (
    codes "= #<buffer w>" ∷
    codes "= #<buffer w>" ∷
    codes "= nil" ∷
    codes "= #<buffer *scratch*>" ∷
    codes "= 1" ∷
    codes "= nil" ∷
    codes "buffer *scratch* point 2 min 1 max 2 modified t current" ∷
    codes "text \"y\"" ∷
    codes "buffer w point 2 min 1 max 2 modified t" ∷
    codes "text \"x\"" ∷ []
    )

-- A point that is kept moves with the text behind a part that is taken out.
--     (insert "abcd")(goto-char 4)(save-excursion (delete-region 1 3))(point)
abbrev pub kept_point_moves : Row
kept_point_moves =
    row (script [] [] (
    call Prim.Insert (string (codes "abcd") ∷ []) ∷
    call Prim.GotoChar (number 4 ∷ []) ∷
    In SaveExcursion (forms (call Prim.DeleteRegion (number 1 ∷ number 3 ∷ []) ∷ [])) ∷
    call Prim.PointAt [] ∷ []
    )) [] (
    codes "= nil" ∷
    codes "= 4" ∷
    codes "= nil" ∷
    codes "= 2" ∷
    codes "buffer *scratch* point 2 min 1 max 3 modified t current" ∷
    codes "text \"cd\"" ∷ []
    )
