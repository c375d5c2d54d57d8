-- Worked rows: handlers that are not written in the script.
use Rattle.std.specs.Prelude.{ℕ, pos, List, [], ◌∷◌, ◌++◌, codes, replicate, Some, Option}
use Rattle.text_model.specs.Properties.{Symbol}
use Rattle.editor_model.specs.Values.{Value, T, Int, Sym, Str, Name, Prim}
use Rattle.worked_rows.specs.Row.{Row, shipped_row, script, handler, call, set, string, symbol, nil}
use Rattle.worked_rows.specs.Row.{text, before_change_functions, spawned, reads, output_ends, exits}
use Rattle.worked_rows.specs.Row.{killed}
use Rattle.std.specs.Prelude.{slice_get, length}
use Rattle.text_model.specs.Characters.{Scalar}
use Rattle.editor_model.specs.Values.{Reply, Items, End, More, TheBuffer, TheMarker, TheOverlay, TheProcess}
use Rattle.worked_rows.specs.Row.{native_row}

-- The filter `insert-filter` that the program brings along.
--     (setq p (start-process "c" "out" "cat"))(set-process-filter p 'insert-filter)(accept-process-output p)
abbrev pub shipped_insert_filter : Row
shipped_insert_filter =
    let p : ℕ = 17 in let insert_filter : ℕ = 18 in
    shipped_row (script (codes "p" ∷ codes "insert-filter" ∷ []) [] (
    set p Prim.StartProcess (string (codes "c") ∷ string (codes "out") ∷ string (codes "cat") ∷ []) ∷
    call Prim.SetProcessFilter (Name p ∷ symbol insert_filter ∷ []) ∷
    call Prim.AcceptProcessOutput (Name p ∷ []) ∷ []
    )) (spawned (codes "cat") [] 0 ∷ reads 0 (codes "hi") ∷ killed 0 ∷ []) (
    codes "= #<process c>" ∷
    codes "= insert-filter" ∷
    codes "> filter insert-filter #<process c> \"hi\"" ∷
    codes "  = #<buffer out>" ∷
    codes "  = #<buffer out>" ∷
    codes "  = 1" ∷
    codes "  = #<marker at 1 in out>" ∷
    codes "  = 1" ∷
    codes "  = #<marker at 1 in out>" ∷
    codes "  = nil" ∷
    codes "  = 3" ∷
    codes "  = #<marker at 3 in out>" ∷
    codes "< insert-filter" ∷
    codes "= t" ∷
    codes "kill #<process c>" ∷
    codes "buffer *scratch* point 1 min 1 max 1 modified nil current" ∷
    codes "text \"\"" ∷
    codes "buffer out point 3 min 1 max 3 modified t" ∷
    codes "text \"hi\"" ∷
    codes "marker 0 #<marker at 3 in out>" ∷
    codes "process 0 #<process c> run 0" ∷ []
    )

-- The sentinel `note-sentinel` that the program brings along.
--     (setq p (start-process "c" nil "cat"))(set-process-sentinel p 'note-sentinel)(accept-process-output p)
abbrev pub shipped_note_sentinel : Row
shipped_note_sentinel =
    let p : ℕ = 17 in let note_sentinel : ℕ = 18 in
    shipped_row (script (codes "p" ∷ codes "note-sentinel" ∷ []) [] (
    set p Prim.StartProcess (string (codes "c") ∷ nil ∷ string (codes "cat") ∷ []) ∷
    call Prim.SetProcessSentinel (Name p ∷ symbol note_sentinel ∷ []) ∷
    call Prim.AcceptProcessOutput (Name p ∷ []) ∷ []
    )) (spawned (codes "cat") [] 0 ∷ output_ends 0 ∷ exits 0 0 ∷ []) (
    codes "= #<process c>" ∷
    codes "= note-sentinel" ∷
    codes "> sentinel note-sentinel #<process c> \"finished\\n\"" ∷
    codes "  = #<buffer *events*>" ∷
    codes "  = #<buffer *events*>" ∷
    codes "  = 1" ∷
    codes "  = 1" ∷
    codes "  = nil" ∷
    codes "< note-sentinel" ∷
    codes "= nil" ∷
    codes "buffer *scratch* point 1 min 1 max 1 modified nil current" ∷
    codes "text \"\"" ∷
    codes "buffer *events* point 10 min 1 max 10 modified t" ∷
    codes "text \"finished\\n\"" ∷
    codes "marker 0 #<marker in no buffer>" ∷
    codes "process 0 #<process c> exit 0" ∷ []
    )

-- A native that never ends is ended after 256 replies.
--     (add-hook 'before-change-functions 'n)(insert "a")
abbrev pub native_that_never_ends : Row
native_that_never_ends =
    let n : ℕ = 17 in
    native_row (codes "n") (λ past. Some (Prim.PointAt, [])) (
    call Prim.AddHook (symbol before_change_functions ∷ symbol n ∷ []) ∷
    call Prim.Insert (string (codes "a") ∷ []) ∷ []
    ) (
    codes "= (n)" ∷
    codes "> before n 1 1" ∷
    (replicate 256 (codes "  = 1") ++
    codes "< n" ∷
    codes "= nil" ∷
    codes "buffer *scratch* point 2 min 1 max 2 modified t current" ∷
    codes "text \"a\"" ∷ [])
    )

-- A native that makes one call after the other, whatever the replies are.
abbrev pub in_turn : List (Prim × List Value) → List Reply → Option (Prim × List Value)
in_turn calls past = slice_get calls (length past)

-- A native calls with a buffer that was never made.
abbrev pub native_gives_a_buffer_never_made : Row
native_gives_a_buffer_never_made =
    let n : ℕ = 17 in
    native_row (codes "n") (in_turn ((Prim.GetBufferCreate, text (codes "w") ∷ []) ∷
    (Prim.SetBuffer, TheBuffer 9 ∷ []) ∷ [])) (
    call Prim.AddHook (symbol before_change_functions ∷ symbol n ∷ []) ∷
    call Prim.Insert (string (codes "a") ∷ []) ∷ []
    ) (
    codes "= (n)" ∷
    codes "> before n 1 1" ∷
    codes "  = #<buffer w>" ∷
    codes "  ! 2 wrong-type-argument" ∷
    codes "< n" ∷
    codes "= nil" ∷
    codes "buffer *scratch* point 2 min 1 max 2 modified t current" ∷
    codes "text \"a\"" ∷
    codes "buffer w point 1 min 1 max 1 modified nil" ∷
    codes "text \"\"" ∷ []
    )

-- A native calls with too many arguments, too few, and with objects and symbols that were never made, also
-- inside lists and strings; the empty list counts as nil.
abbrev pub odd_calls : List (Prim × List Value)
odd_calls =
    (Prim.PointAt, T ∷ []) ∷
    (Prim.GotoChar, []) ∷
    (Prim.BufferLiveP, TheBuffer 1 ∷ []) ∷
    (Prim.BufferLiveP, TheBuffer 0 ∷ []) ∷
    (Prim.BufferLiveP, TheMarker 0 ∷ []) ∷
    (Prim.BufferLiveP, TheOverlay 0 ∷ []) ∷
    (Prim.BufferLiveP, TheProcess 0 ∷ []) ∷
    (Prim.BufferLiveP, Sym 18 ∷ []) ∷
    (Prim.BufferLiveP, Sym 17 ∷ []) ∷
    (Prim.BufferLiveP, Items (More (Items (More (TheBuffer 1) End)) End) ∷ []) ∷
    (Prim.BufferLiveP, Str ((Scalar 97, (0, Symbol 18) ∷ []) ∷ []) ∷ []) ∷
    (Prim.BufferName, Items End ∷ []) ∷
    (Prim.PutTextProperty, Int (pos 1) ∷ Int (pos 1) ∷ Sym 0 ∷ Items End ∷ []) ∷
    (Prim.AddHook, Sym 3 ∷ Sym 99 ∷ []) ∷ []

abbrev pub odd_calls_of_a_native : Row
odd_calls_of_a_native =
    let n : ℕ = 17 in
    let wrong : List ℕ = codes "  ! 2 wrong-type-argument" in
    native_row (codes "n") (in_turn odd_calls) (
    call Prim.AddHook (symbol before_change_functions ∷ symbol n ∷ []) ∷
    call Prim.Insert (string (codes "x") ∷ []) ∷ []
    ) (
    codes "= (n)" ∷
    codes "> before n 1 1" ∷
    wrong ∷ wrong ∷ wrong ∷ codes "  = t" ∷ wrong ∷ wrong ∷ wrong ∷ wrong ∷ codes "  = nil" ∷ wrong ∷ wrong ∷
    codes "  = \"*scratch*\"" ∷ codes "  = nil" ∷ wrong ∷
    codes "< n" ∷
    codes "= nil" ∷
    codes "buffer *scratch* point 2 min 1 max 2 modified t current" ∷
    codes "text \"x\"" ∷ []
    )

-- A handler of the script hides a native of its name.
--     (defhandler drop-filter (p s) (point))
--     (setq p (start-process "c" nil "cat"))(set-process-filter p 'drop-filter)(accept-process-output p)
abbrev pub handler_hides_a_native : Row
handler_hides_a_native =
    let drop_filter : ℕ = 17 in let p : ℕ = 18 in let s : ℕ = 19 in
    shipped_row (script (codes "drop-filter" ∷ codes "p" ∷ codes "s" ∷ [])
    (handler drop_filter (p ∷ s ∷ []) (call Prim.PointAt [] ∷ []) ∷ []) (
    set p Prim.StartProcess (string (codes "c") ∷ nil ∷ string (codes "cat") ∷ []) ∷
    call Prim.SetProcessFilter (Name p ∷ symbol drop_filter ∷ []) ∷
    call Prim.AcceptProcessOutput (Name p ∷ []) ∷ []
    )) (spawned (codes "cat") [] 0 ∷ reads 0 (codes "hi") ∷ killed 0 ∷ []) (
    codes "= #<process c>" ∷
    codes "= drop-filter" ∷
    codes "> filter drop-filter #<process c> \"hi\"" ∷
    codes "  = 1" ∷
    codes "< drop-filter" ∷
    codes "= t" ∷
    codes "kill #<process c>" ∷
    codes "buffer *scratch* point 1 min 1 max 1 modified nil current" ∷
    codes "text \"\"" ∷
    codes "marker 0 #<marker in no buffer>" ∷
    codes "process 0 #<process c> run 0" ∷ []
    )
