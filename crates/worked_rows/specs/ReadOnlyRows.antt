-- Worked rows: read-only buffers and read-only text.
use Rattle.std.specs.Prelude.{ℕ, [], ◌∷◌, ◌++◌, codes}
use Rattle.text_model.specs.Properties.{Truth}
use Rattle.editor_model.specs.Values.{Str, In, InhibitReadOnly, Prim}
use Rattle.worked_rows.specs.Row.{Row, row, script, forms, handler, call, nil, t, number, string}
use Rattle.worked_rows.specs.Row.{symbol, quoted, with_set, front_sticky, rear_nonsticky, read_only}
use Rattle.worked_rows.specs.Row.{before_change_functions, spawned, reads, output_ends, exits}

-- Text and a buffer that are read-only, and a block in which nothing is.
-- (insert "abcd")(put-text-property 2 3 'read-only t)(delete-region 1 3)(goto-char 3)(insert "x")(goto-char
-- 2)(insert "y") (set-buffer-read-only t)(insert "z")(inhibit-read-only (insert "w"))(buffer-read-only-p)
abbrev pub what_is_read_only : Row
what_is_read_only =
    row (script [] [] (
    call Prim.Insert (string (codes "abcd") ∷ []) ∷
    call Prim.PutTextProperty (number 2 ∷ number 3 ∷ symbol read_only ∷ t ∷ []) ∷
    call Prim.DeleteRegion (number 1 ∷ number 3 ∷ []) ∷
    call Prim.GotoChar (number 3 ∷ []) ∷
    call Prim.Insert (string (codes "x") ∷ []) ∷
    call Prim.GotoChar (number 2 ∷ []) ∷
    call Prim.Insert (string (codes "y") ∷ []) ∷
    call Prim.SetBufferReadOnly (t ∷ []) ∷
    call Prim.Insert (string (codes "z") ∷ []) ∷
    In InhibitReadOnly (forms (call Prim.Insert (string (codes "w") ∷ []) ∷ [])) ∷
    call Prim.BufferReadOnlyP [] ∷ []
    )) [] (
    codes "= nil" ∷
    codes "= nil" ∷
    codes "! 18 text-read-only" ∷
    codes "= 3" ∷
    codes "! 18 text-read-only" ∷
    codes "= 2" ∷
    codes "= nil" ∷
    codes "= t" ∷
    codes "! 17 buffer-read-only" ∷
    codes "= nil" ∷
    codes "= t" ∷
    codes "buffer *scratch* point 4 min 1 max 7 modified t read-only current" ∷
    codes "text #(\"aywbcd\" 3 4 (read-only t))" ∷ []
    )

-- What would change nothing isn't refused; a region out of range is so first.
--     (set-buffer-read-only t)(insert "")(delete-region 1 1)(delete-region 1 99)
abbrev pub nothing_to_change : Row
nothing_to_change =
    row (script [] [] (
    call Prim.SetBufferReadOnly (t ∷ []) ∷
    call Prim.Insert (string [] ∷ []) ∷
    call Prim.DeleteRegion (number 1 ∷ number 1 ∷ []) ∷
    call Prim.DeleteRegion (number 1 ∷ number 99 ∷ []) ∷ []
    )) [] (
    codes "= t" ∷
    codes "= nil" ∷
    codes "= nil" ∷
    codes "! 1 args-out-of-range" ∷
    codes "buffer *scratch* point 1 min 1 max 1 modified nil read-only current" ∷
    codes "text \"\"" ∷ []
    )

-- Behind a block that ends by a fault what is read-only counts again.
-- (set-buffer-read-only t)(inhibit-read-only (insert "a")(goto-char t)(insert "b"))(insert
-- "c")(buffer-read-only-p)
abbrev pub block_ended_by_a_fault : Row
block_ended_by_a_fault =
    row (script [] [] (
    call Prim.SetBufferReadOnly (t ∷ []) ∷
    In InhibitReadOnly (forms (call Prim.Insert (string (codes "a") ∷ []) ∷
    call Prim.GotoChar (t ∷ []) ∷ call Prim.Insert (string (codes "b") ∷ []) ∷ [])) ∷
    call Prim.Insert (string (codes "c") ∷ []) ∷
    call Prim.BufferReadOnlyP [] ∷ []
    )) [] (
    codes "= t" ∷
    codes "= nil" ∷
    codes "! 2 wrong-type-argument" ∷
    codes "! 17 buffer-read-only" ∷
    codes "= t" ∷
    codes "buffer *scratch* point 2 min 1 max 2 modified t read-only current" ∷
    codes "text \"a\"" ∷ []
    )

-- Both neighbours say whether text may come between them. Properties that stand already aren't changed.
--     (insert #("ab" 0 1 (front-sticky t read-only t) 1 2 (rear-nonsticky t read-only t)))
--     (goto-char 1)(insert "x")(goto-char 3)(insert "y")(goto-char 2)(insert "z")(delete-region 3 4)
--     (put-text-property 1 2 'priority 1)(put-text-property 1 2 'read-only t)
abbrev pub neighbours_of_read_only_text : Row
neighbours_of_read_only_text =
    let priority : ℕ = 3 in
    row (script [] [] (
    call Prim.Insert (quoted (Str (with_set ((front_sticky, Truth) ∷ (read_only, Truth) ∷ [])
    (codes "a") ++ with_set ((rear_nonsticky, Truth) ∷ (read_only, Truth) ∷ []) (codes "b"))) ∷ []) ∷
    call Prim.GotoChar (number 1 ∷ []) ∷
    call Prim.Insert (string (codes "x") ∷ []) ∷
    call Prim.GotoChar (number 3 ∷ []) ∷
    call Prim.Insert (string (codes "y") ∷ []) ∷
    call Prim.GotoChar (number 2 ∷ []) ∷
    call Prim.Insert (string (codes "z") ∷ []) ∷
    call Prim.DeleteRegion (number 3 ∷ number 4 ∷ []) ∷
    call Prim.PutTextProperty (number 1 ∷ number 2 ∷ symbol priority ∷ number 1 ∷ []) ∷
    call Prim.PutTextProperty (number 1 ∷ number 2 ∷ symbol read_only ∷ t ∷ []) ∷ []
    )) [] (
    codes "= nil" ∷
    codes "= 1" ∷
    codes "! 18 text-read-only" ∷
    codes "= 3" ∷
    codes "= nil" ∷
    codes "= 2" ∷
    codes "! 18 text-read-only" ∷
    codes "= nil" ∷
    codes "! 18 text-read-only" ∷
    codes "= nil" ∷
    codes "buffer *scratch* point 2 min 1 max 3 modified t current" ∷
    codes "text #(\"ab\" 0 1 (front-sticky t read-only t) 1 2 (rear-nonsticky t read-only t))" ∷ []
    )

-- A read-only buffer bars undoing, also where no record is undone; read-only text doesn't.
--     (insert "ab")(undo-boundary)(put-text-property 1 3 'read-only t)(delete-region 1 2)(undo-boundary)
--     (undo-start)(set-buffer-read-only t)(undo-more 1)(set-buffer-read-only nil)(undo-more 3)
abbrev pub undoing_what_is_read_only : Row
undoing_what_is_read_only =
    row (script [] [] (
    call Prim.Insert (string (codes "ab") ∷ []) ∷
    call Prim.UndoBoundary [] ∷
    call Prim.PutTextProperty (number 1 ∷ number 3 ∷ symbol read_only ∷ t ∷ []) ∷
    call Prim.DeleteRegion (number 1 ∷ number 2 ∷ []) ∷
    call Prim.UndoBoundary [] ∷
    call Prim.UndoStart [] ∷
    call Prim.SetBufferReadOnly (t ∷ []) ∷
    call Prim.UndoMore (number 1 ∷ []) ∷
    call Prim.SetBufferReadOnly (nil ∷ []) ∷
    call Prim.UndoMore (number 3 ∷ []) ∷ []
    )) [] (
    codes "= nil" ∷
    codes "= nil" ∷
    codes "= nil" ∷
    codes "! 18 text-read-only" ∷
    codes "= nil" ∷
    codes "= nil" ∷
    codes "= t" ∷
    codes "! 17 buffer-read-only" ∷
    codes "= nil" ∷
    codes "= nil" ∷
    codes "buffer *scratch* point 1 min 1 max 1 modified nil current" ∷
    codes "text \"\"" ∷ []
    )

-- The tests are made as a change is prepared: what a hook function makes read-only doesn't bar the change.
--     (defhandler h (b e) (set-buffer-read-only t))
--     (add-hook 'before-change-functions 'h)(insert "a")(insert "b")
abbrev pub hook_makes_the_buffer_read_only : Row
hook_makes_the_buffer_read_only =
    let h : ℕ = 17 in let b : ℕ = 18 in let e : ℕ = 19 in
    row (script (codes "h" ∷ codes "b" ∷ codes "e" ∷ [])
    (handler h (b ∷ e ∷ []) (call Prim.SetBufferReadOnly (t ∷ []) ∷ []) ∷ []) (
    call Prim.AddHook (symbol before_change_functions ∷ symbol h ∷ []) ∷
    call Prim.Insert (string (codes "a") ∷ []) ∷
    call Prim.Insert (string (codes "b") ∷ []) ∷ []
    )) [] (
    codes "= (h)" ∷
    codes "> before h 1 1" ∷
    codes "  = t" ∷
    codes "< h" ∷
    codes "= nil" ∷
    codes "! 17 buffer-read-only" ∷
    codes "buffer *scratch* point 2 min 1 max 2 modified t read-only current" ∷
    codes "text \"a\"" ∷ []
    )

-- The default handlers put text in a read-only buffer, but not where it would be read-only.
--     (start-process "c" "*scratch*" "cat")(set-buffer-read-only t)(accept-process-output)
--     (inhibit-read-only (put-text-property 2 3 'read-only t))(accept-process-output)(accept-process-output)
abbrev pub output_where_it_is_read_only : Row
output_where_it_is_read_only =
    row (script [] [] (
    call Prim.StartProcess (string (codes "c") ∷ string (codes "*scratch*") ∷ string (codes "cat") ∷ []) ∷
    call Prim.SetBufferReadOnly (t ∷ []) ∷
    call Prim.AcceptProcessOutput [] ∷
    In InhibitReadOnly (forms (call Prim.PutTextProperty
    (number 2 ∷ number 3 ∷ symbol read_only ∷ t ∷ []) ∷ [])) ∷
    call Prim.AcceptProcessOutput [] ∷
    call Prim.AcceptProcessOutput [] ∷ []
    )) (spawned (codes "cat") [] 0 ∷ reads 0 (codes "ab") ∷ reads 0 (codes "cd") ∷ output_ends 0 ∷
    exits 0 0 ∷ []) (
    codes "= #<process c>" ∷
    codes "= t" ∷
    codes "> filter default #<process c> \"ab\"" ∷
    codes "< default" ∷
    codes "= t" ∷
    codes "= nil" ∷
    codes "> filter default #<process c> \"cd\"" ∷
    codes "  ! 18 text-read-only" ∷
    codes "< default" ∷
    codes "= t" ∷
    codes "> sentinel default #<process c> \"finished\\n\"" ∷
    codes "  ! 18 text-read-only" ∷
    codes "< default" ∷
    codes "= nil" ∷
    codes "buffer *scratch* point 3 min 1 max 3 modified t read-only current" ∷
    codes "text #(\"ab\" 1 2 (read-only t))" ∷
    codes "marker 0 #<marker at 3 in *scratch*>" ∷
    codes "process 0 #<process c> exit 0" ∷ []
    )
