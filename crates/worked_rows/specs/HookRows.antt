-- Worked rows: change hooks.
use Rattle.std.specs.Prelude.{ℕ, [], ◌∷◌, codes}
use Rattle.editor_model.specs.Values.{Name, In, InhibitHooks, Prim}
use Rattle.worked_rows.specs.Row.{Row, row, script, forms, call, set, handler, number, string, symbol}
use Rattle.worked_rows.specs.Row.{before_change_functions, after_change_functions}

-- A hook function edits the buffer before the change; its ends move along.
--     (defhandler h (b e) (delete-region 1 2))
--     (insert "abcd")(add-hook 'before-change-functions 'h)(delete-region 3 4)
abbrev pub hook_edits_before_the_change : Row
hook_edits_before_the_change =
    let h : ℕ = 17 in let b : ℕ = 18 in let e : ℕ = 19 in
    row (script (codes "h" ∷ codes "b" ∷ codes "e" ∷ [])
    (handler h (b ∷ e ∷ []) (call Prim.DeleteRegion (number 1 ∷ number 2 ∷ []) ∷ []) ∷ []) (
    call Prim.Insert (string (codes "abcd") ∷ []) ∷
    call Prim.AddHook (symbol before_change_functions ∷ symbol h ∷ []) ∷
    call Prim.DeleteRegion (number 3 ∷ number 4 ∷ []) ∷ []
    )) [] (
    codes "= nil" ∷
    codes "= (h)" ∷
    codes "> before h 3 4" ∷
    codes "  = nil" ∷
    codes "< h" ∷
    codes "= nil" ∷
    codes "buffer *scratch* point 3 min 1 max 3 modified t current" ∷
    codes "text \"bd\"" ∷ []
    )

-- A hook function kills the buffer: the change is refused.
--     (defhandler h (b e) (kill-buffer))
--     (get-buffer-create "w")(set-buffer "w")(insert "ab")(setq m (point-marker))(make-overlay 1 2)
--     (add-hook 'before-change-functions 'h)(insert "c")(marker-buffer m)
abbrev pub hook_kills_the_buffer : Row
hook_kills_the_buffer =
    let h : ℕ = 17 in let b : ℕ = 18 in let e : ℕ = 19 in let m : ℕ = 20 in
    row (script (codes "h" ∷ codes "b" ∷ codes "e" ∷ codes "m" ∷ [])
    (handler h (b ∷ e ∷ []) (call Prim.KillBuffer [] ∷ []) ∷ []) (
    call Prim.GetBufferCreate (string (codes "w") ∷ []) ∷
    call Prim.SetBuffer (string (codes "w") ∷ []) ∷
    call Prim.Insert (string (codes "ab") ∷ []) ∷
    set m Prim.PointMarker [] ∷
    call Prim.MakeOverlay (number 1 ∷ number 2 ∷ []) ∷
    call Prim.AddHook (symbol before_change_functions ∷ symbol h ∷ []) ∷
    call Prim.Insert (string (codes "c") ∷ []) ∷
    call Prim.MarkerBuffer (Name m ∷ []) ∷ []
    )) [] (
    codes "= #<buffer w>" ∷
    codes "= #<buffer w>" ∷
    codes "= nil" ∷
    codes "= #<marker at 3 in w>" ∷
    codes "= #<overlay from 1 to 2 in w>" ∷
    codes "= (h)" ∷
    codes "> before h 3 3" ∷
    codes "  = t" ∷
    codes "< h" ∷
    codes "! 5 buffer-killed" ∷
    codes "= nil" ∷
    codes "buffer *scratch* point 1 min 1 max 1 modified nil current" ∷
    codes "text \"\"" ∷
    codes "marker 0 #<marker in no buffer>" ∷
    codes "overlay 0 #<overlay in no buffer> nil" ∷ []
    )

-- What a function behind a change is given; a change that is refused or changes nothing enters none.
--     (defhandler g (b e n))
-- (insert "abcdef")(add-hook 'after-change-functions 'g)(delete-region 3 2)(narrow-to-region 1
-- 3)(delete-region 2 4)(delete-region 2 2)
abbrev pub after_change_arguments : Row
after_change_arguments =
    let g : ℕ = 17 in let b : ℕ = 18 in let e : ℕ = 19 in let n : ℕ = 20 in
    row (script (codes "g" ∷ codes "b" ∷ codes "e" ∷ codes "n" ∷ []) (handler g (b ∷ e ∷ n ∷ []) ([]) ∷ []) (
    call Prim.Insert (string (codes "abcdef") ∷ []) ∷
    call Prim.AddHook (symbol after_change_functions ∷ symbol g ∷ []) ∷
    call Prim.DeleteRegion (number 3 ∷ number 2 ∷ []) ∷
    call Prim.NarrowToRegion (number 1 ∷ number 3 ∷ []) ∷
    call Prim.DeleteRegion (number 2 ∷ number 4 ∷ []) ∷
    call Prim.DeleteRegion (number 2 ∷ number 2 ∷ []) ∷ []
    )) [] (
    codes "= nil" ∷
    codes "= (g)" ∷
    codes "> after g 2 2 1" ∷
    codes "< g" ∷
    codes "= nil" ∷
    codes "= nil" ∷
    codes "! 1 args-out-of-range" ∷
    codes "= nil" ∷
    codes "buffer *scratch* point 3 min 1 max 3 modified t current" ∷
    codes "text \"acdef\"" ∷ []
    )

-- A hook function that ends by a fault empties its list, and the change goes on.
--     (defhandler h (b e) (goto-char unset))
--     (add-hook 'before-change-functions 'h)(insert "a")(insert "b")
abbrev pub hook_ended_by_a_fault : Row
hook_ended_by_a_fault =
    let h : ℕ = 17 in let b : ℕ = 18 in let e : ℕ = 19 in let unset : ℕ = 20 in
    row (script (codes "h" ∷ codes "b" ∷ codes "e" ∷ codes "unset" ∷ [])
    (handler h (b ∷ e ∷ []) (call Prim.GotoChar (Name unset ∷ []) ∷ []) ∷ []) (
    call Prim.AddHook (symbol before_change_functions ∷ symbol h ∷ []) ∷
    call Prim.Insert (string (codes "a") ∷ []) ∷
    call Prim.Insert (string (codes "b") ∷ []) ∷ []
    )) [] (
    codes "= (h)" ∷
    codes "> before h 1 1" ∷
    codes "  ! 3 void-variable" ∷
    codes "< h" ∷
    codes "= nil" ∷
    codes "= nil" ∷
    codes "buffer *scratch* point 3 min 1 max 3 modified t current" ∷
    codes "text \"ab\"" ∷ []
    )

-- The end of a change that waits for its hooks stays in front of a text that goes in there.
--     (defhandler h (b e) (goto-char 4)(insert "X"))
--     (insert "abcdef")(add-hook 'before-change-functions 'h)(delete-region 2 4)(buffer-string)
abbrev pub ends_of_a_pending_change : Row
ends_of_a_pending_change =
    let h : ℕ = 17 in let b : ℕ = 18 in let e : ℕ = 19 in
    row (script (codes "h" ∷ codes "b" ∷ codes "e" ∷ [])
    (handler h (b ∷ e ∷ []) (call Prim.GotoChar (number 4 ∷ []) ∷
    call Prim.Insert (string (codes "X") ∷ []) ∷ []) ∷ []) (
    call Prim.Insert (string (codes "abcdef") ∷ []) ∷
    call Prim.AddHook (symbol before_change_functions ∷ symbol h ∷ []) ∷
    call Prim.DeleteRegion (number 2 ∷ number 4 ∷ []) ∷
    call Prim.BufferString [] ∷ []
    )) [] (
    codes "= nil" ∷
    codes "= (h)" ∷
    codes "> before h 2 4" ∷
    codes "  = 4" ∷
    codes "  = nil" ∷
    codes "< h" ∷
    codes "= nil" ∷
    codes "= \"aXdef\"" ∷
    codes "buffer *scratch* point 3 min 1 max 6 modified t current" ∷
    codes "text \"aXdef\"" ∷ []
    )

-- A function behind a change that ends by a fault empties its list too, so it is entered once.
--     (defhandler h (b e n) (goto-char unset))
--     (add-hook 'after-change-functions 'h)(insert "a")(insert "b")
abbrev pub function_behind_a_change_ended_by_a_fault : Row
function_behind_a_change_ended_by_a_fault =
    let h : ℕ = 17 in let b : ℕ = 18 in let e : ℕ = 19 in let n : ℕ = 20 in
    let unset : ℕ = 21 in
    row (script (codes "h" ∷ codes "b" ∷ codes "e" ∷ codes "n" ∷ codes "unset" ∷ [])
    (handler h (b ∷ e ∷ n ∷ []) (call Prim.GotoChar (Name unset ∷ []) ∷ []) ∷ []) (
    call Prim.AddHook (symbol after_change_functions ∷ symbol h ∷ []) ∷
    call Prim.Insert (string (codes "a") ∷ []) ∷
    call Prim.Insert (string (codes "b") ∷ []) ∷ []
    )) [] (
    codes "= (h)" ∷
    codes "> after h 1 2 0" ∷
    codes "  ! 3 void-variable" ∷
    codes "< h" ∷
    codes "= nil" ∷
    codes "= nil" ∷
    codes "buffer *scratch* point 3 min 1 max 3 modified t current" ∷
    codes "text \"ab\"" ∷ []
    )

-- A change that would change nothing runs no hook function: an empty text put in, an empty region deleted, a
-- property that has its value already.
--     (defhandler h (b e))
--     (add-hook 'before-change-functions 'h)(insert "")(delete-region 1 1)(insert "a")
--     (put-text-property 1 2 'face 'bold)(put-text-property 1 2 'face 'bold)
abbrev pub changes_of_nothing : Row
changes_of_nothing =
    let h : ℕ = 17 in let b : ℕ = 18 in let e : ℕ = 19 in
    let face : ℕ = 20 in let bold : ℕ = 21 in
    row (script (codes "h" ∷ codes "b" ∷ codes "e" ∷ codes "face" ∷ codes "bold" ∷ [])
    (handler h (b ∷ e ∷ []) [] ∷ []) (
    call Prim.AddHook (symbol before_change_functions ∷ symbol h ∷ []) ∷
    call Prim.Insert (string (codes "") ∷ []) ∷
    call Prim.DeleteRegion (number 1 ∷ number 1 ∷ []) ∷
    call Prim.Insert (string (codes "a") ∷ []) ∷
    call Prim.PutTextProperty (number 1 ∷ number 2 ∷ symbol face ∷ symbol bold ∷ []) ∷
    call Prim.PutTextProperty (number 1 ∷ number 2 ∷ symbol face ∷ symbol bold ∷ []) ∷ []
    )) [] (
    codes "= (h)" ∷
    codes "= nil" ∷
    codes "= nil" ∷
    codes "> before h 1 1" ∷
    codes "< h" ∷
    codes "= nil" ∷
    codes "> before h 1 2" ∷
    codes "< h" ∷
    codes "= nil" ∷
    codes "= nil" ∷
    codes "buffer *scratch* point 2 min 1 max 2 modified t current" ∷
    codes "text #(\"a\" 0 1 (face bold))" ∷ []
    )

-- Functions that stand on a list: one that is added stands in front, once. One that ends by a fault empties the
-- list, and those behind it aren't entered.
--     (defhandler g (b e) (goto-char unset))(defhandler h (b e))
--     (add-hook 'before-change-functions 'g)(add-hook 'before-change-functions 'h)
--     (add-hook 'before-change-functions 'g)(insert "a")
--     (add-hook 'before-change-functions 'h)(add-hook 'before-change-functions 'g)(insert "b")(insert "c")
abbrev pub functions_in_a_list : Row
functions_in_a_list =
    let g : ℕ = 17 in let h : ℕ = 18 in let b : ℕ = 19 in let e : ℕ = 20 in let unset : ℕ = 21 in
    row (script (codes "g" ∷ codes "h" ∷ codes "b" ∷ codes "e" ∷ codes "unset" ∷ [])
    (handler g (b ∷ e ∷ []) (call Prim.GotoChar (Name unset ∷ []) ∷ []) ∷ handler h (b ∷ e ∷ []) [] ∷ []) (
    call Prim.AddHook (symbol before_change_functions ∷ symbol g ∷ []) ∷
    call Prim.AddHook (symbol before_change_functions ∷ symbol h ∷ []) ∷
    call Prim.AddHook (symbol before_change_functions ∷ symbol g ∷ []) ∷
    call Prim.Insert (string (codes "a") ∷ []) ∷
    call Prim.AddHook (symbol before_change_functions ∷ symbol h ∷ []) ∷
    call Prim.AddHook (symbol before_change_functions ∷ symbol g ∷ []) ∷
    call Prim.Insert (string (codes "b") ∷ []) ∷
    call Prim.Insert (string (codes "c") ∷ []) ∷ []
    )) [] (
    codes "= (g)" ∷
    codes "= (h g)" ∷
    codes "= (h g)" ∷
    codes "> before h 1 1" ∷
    codes "< h" ∷
    codes "> before g 1 1" ∷
    codes "  ! 3 void-variable" ∷
    codes "< g" ∷
    codes "= nil" ∷
    codes "= (h)" ∷
    codes "= (g h)" ∷
    codes "> before g 2 2" ∷
    codes "  ! 3 void-variable" ∷
    codes "< g" ∷
    codes "= nil" ∷
    codes "= nil" ∷
    codes "buffer *scratch* point 4 min 1 max 4 modified t current" ∷
    codes "text \"abc\"" ∷ []
    )

-- The functions are entered from a copy of the list: one that was removed meanwhile is entered still.
--     (defhandler g (b e))(defhandler h (b e) (remove-hook 'before-change-functions 'g))
--     (add-hook 'before-change-functions 'g)(add-hook 'before-change-functions 'h)(insert "a")(insert "b")
abbrev pub functions_of_a_copy : Row
functions_of_a_copy =
    let g : ℕ = 17 in let h : ℕ = 18 in let b : ℕ = 19 in let e : ℕ = 20 in
    row (script (codes "g" ∷ codes "h" ∷ codes "b" ∷ codes "e" ∷ [])
    (handler g (b ∷ e ∷ []) [] ∷ handler h (b ∷ e ∷ [])
    (call Prim.RemoveHook (symbol before_change_functions ∷ symbol g ∷ []) ∷ []) ∷ []) (
    call Prim.AddHook (symbol before_change_functions ∷ symbol g ∷ []) ∷
    call Prim.AddHook (symbol before_change_functions ∷ symbol h ∷ []) ∷
    call Prim.Insert (string (codes "a") ∷ []) ∷
    call Prim.Insert (string (codes "b") ∷ []) ∷ []
    )) [] (
    codes "= (g)" ∷
    codes "= (h g)" ∷
    codes "> before h 1 1" ∷
    codes "  = (h)" ∷
    codes "< h" ∷
    codes "> before g 1 1" ∷
    codes "< g" ∷
    codes "= nil" ∷
    codes "> before h 2 2" ∷
    codes "  = (h)" ∷
    codes "< h" ∷
    codes "= nil" ∷
    codes "buffer *scratch* point 3 min 1 max 3 modified t current" ∷
    codes "text \"ab\"" ∷ []
    )

-- In the block `inhibit-hooks` no function is entered, and behind it they are again.
--     (defhandler h (b e))
--     (add-hook 'before-change-functions 'h)(inhibit-hooks (insert "a"))(insert "b")
--     (remove-hook 'before-change-functions 'h)(insert "c")
abbrev pub hooks_inhibited : Row
hooks_inhibited =
    let h : ℕ = 17 in let b : ℕ = 18 in let e : ℕ = 19 in
    row (script (codes "h" ∷ codes "b" ∷ codes "e" ∷ []) (handler h (b ∷ e ∷ []) [] ∷ []) (
    call Prim.AddHook (symbol before_change_functions ∷ symbol h ∷ []) ∷
    In InhibitHooks (forms (call Prim.Insert (string (codes "a") ∷ []) ∷ [])) ∷
    call Prim.Insert (string (codes "b") ∷ []) ∷
    call Prim.RemoveHook (symbol before_change_functions ∷ symbol h ∷ []) ∷
    call Prim.Insert (string (codes "c") ∷ []) ∷ []
    )) [] (
    codes "= (h)" ∷
    codes "= nil" ∷
    codes "> before h 2 2" ∷
    codes "< h" ∷
    codes "= nil" ∷
    codes "= nil" ∷
    codes "= nil" ∷
    codes "buffer *scratch* point 4 min 1 max 4 modified t current" ∷
    codes "text \"abc\"" ∷ []
    )

-- In a handler a parameter's name is the parameter, and each other name is the script's.
--     (defhandler h (b e) (setq b (point-max))(setq r (point-min))(goto-char b))
--     (insert "abc")(add-hook 'before-change-functions 'h)(delete-region 1 2)(goto-char r)(goto-char b)
abbrev pub names_in_a_handler : Row
names_in_a_handler =
    let h : ℕ = 17 in let b : ℕ = 18 in let e : ℕ = 19 in let r : ℕ = 20 in
    row (script (codes "h" ∷ codes "b" ∷ codes "e" ∷ codes "r" ∷ [])
    (handler h (b ∷ e ∷ []) (set b Prim.PointMax [] ∷ set r Prim.PointMin [] ∷
    call Prim.GotoChar (Name b ∷ []) ∷ []) ∷ []) (
    call Prim.Insert (string (codes "abc") ∷ []) ∷
    call Prim.AddHook (symbol before_change_functions ∷ symbol h ∷ []) ∷
    call Prim.DeleteRegion (number 1 ∷ number 2 ∷ []) ∷
    call Prim.GotoChar (Name r ∷ []) ∷
    call Prim.GotoChar (Name b ∷ []) ∷ []
    )) [] (
    codes "= nil" ∷
    codes "= (h)" ∷
    codes "> before h 1 2" ∷
    codes "  = 4" ∷
    codes "  = 1" ∷
    codes "  = 4" ∷
    codes "< h" ∷
    codes "= nil" ∷
    codes "= 1" ∷
    codes "! 3 void-variable" ∷
    codes "buffer *scratch* point 1 min 1 max 3 modified t current" ∷
    codes "text \"bc\"" ∷ []
    )
