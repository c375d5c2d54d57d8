-- Worked rows: waits and handlers that wait.
use Rattle.std.specs.Prelude.{ℕ, zero, suc, ◌+◌, List, [], ◌∷◌, ◌++◌, codes, replicate}
use Rattle.editor_model.specs.Values.{Name, Prim}
use Rattle.worked_rows.specs.Row.{Row, row, row_at, script, call, set, handler, number, string, symbol}
use Rattle.worked_rows.specs.Row.{nil, t, spawned, reads, reads_nothing, output_ends, exits, killed}
use Rattle.worked_rows.specs.Row.{indented}

-- A filter that waits: what it reads is entered inside it.
--     (defhandler f (p s) (accept-process-output p))
--     (setq p (start-process "c" nil "cat"))(set-process-filter p 'f)(accept-process-output p)
abbrev pub filter_that_waits : Row
filter_that_waits =
    let f : ℕ = 17 in let p : ℕ = 18 in let s : ℕ = 19 in
    row (script (codes "f" ∷ codes "p" ∷ codes "s" ∷ [])
    (handler f (p ∷ s ∷ []) (call Prim.AcceptProcessOutput (Name p ∷ []) ∷ []) ∷ []) (
    set p Prim.StartProcess (string (codes "c") ∷ nil ∷ string (codes "cat") ∷ []) ∷
    call Prim.SetProcessFilter (Name p ∷ symbol f ∷ []) ∷
    call Prim.AcceptProcessOutput (Name p ∷ []) ∷ []
    )) (spawned (codes "cat") [] 0 ∷ reads 0 (codes "a") ∷ reads 0 (codes "b") ∷ output_ends 0 ∷
    exits 0 0 ∷ []) (
    codes "= #<process c>" ∷
    codes "= f" ∷
    codes "> filter f #<process c> \"a\"" ∷
    codes "  > filter f #<process c> \"b\"" ∷
    codes "    > sentinel default #<process c> \"finished\\n\"" ∷
    codes "    < default" ∷
    codes "    = nil" ∷
    codes "  < f" ∷
    codes "  = t" ∷
    codes "< f" ∷
    codes "= t" ∷
    codes "buffer *scratch* point 1 min 1 max 1 modified nil current" ∷
    codes "text \"\"" ∷
    codes "marker 0 #<marker in no buffer>" ∷
    codes "process 0 #<process c> exit 0" ∷ []
    )

-- A filter deletes another process: it isn't asked any more.
--     (defhandler f (p s) (delete-process q))
-- (setq p (start-process "p" nil "a"))(setq q (start-process "q" nil "b"))(setq z (start-process "z" nil
-- "c")) (set-process-filter p 'f)(accept-process-output z 1)
abbrev pub filter_deletes_another_process : Row
filter_deletes_another_process =
    let f : ℕ = 17 in let p : ℕ = 18 in let s : ℕ = 19 in let q : ℕ = 20 in
    let z : ℕ = 21 in
    row (script (codes "f" ∷ codes "p" ∷ codes "s" ∷ codes "q" ∷ codes "z" ∷ [])
    (handler f (p ∷ s ∷ []) (call Prim.DeleteProcess (Name q ∷ []) ∷ []) ∷ []) (
    set p Prim.StartProcess (string (codes "p") ∷ nil ∷ string (codes "a") ∷ []) ∷
    set q Prim.StartProcess (string (codes "q") ∷ nil ∷ string (codes "b") ∷ []) ∷
    set z Prim.StartProcess (string (codes "z") ∷ nil ∷ string (codes "c") ∷ []) ∷
    call Prim.SetProcessFilter (Name p ∷ symbol f ∷ []) ∷
    call Prim.AcceptProcessOutput (Name z ∷ number 1 ∷ []) ∷ []
    )) (spawned (codes "a") [] 0 ∷ spawned (codes "b") [] 1 ∷ spawned (codes "c") [] 2 ∷
    reads_nothing 2 ∷ reads 0 (codes "x") ∷ killed 1 ∷ killed 0 ∷ killed 2 ∷ []) (
    codes "= #<process p>" ∷
    codes "= #<process q>" ∷
    codes "= #<process z>" ∷
    codes "= f" ∷
    codes "> filter f #<process p> \"x\"" ∷
    codes "  > sentinel default #<process q> \"killed\\n\"" ∷
    codes "  < default" ∷
    codes "  = nil" ∷
    codes "< f" ∷
    codes "= nil" ∷
    codes "kill #<process p>" ∷
    codes "kill #<process z>" ∷
    codes "buffer *scratch* point 1 min 1 max 1 modified nil current" ∷
    codes "text \"\"" ∷
    codes "marker 0 #<marker in no buffer>" ∷
    codes "marker 1 #<marker in no buffer>" ∷
    codes "marker 2 #<marker in no buffer>" ∷
    codes "process 0 #<process p> run 0" ∷
    codes "process 1 #<process q> signal nil" ∷
    codes "process 2 #<process z> run 0" ∷ []
    )

-- The same under a nesting bound of 1: the deletion is refused, and the process is asked on.
--     (defhandler f (p s) (delete-process q))
-- (setq p (start-process "p" nil "a"))(setq q (start-process "q" nil "b"))(setq z (start-process "z" nil
-- "c")) (set-process-filter p 'f)(accept-process-output z 1)
abbrev pub deletion_refused_at_bound_one : Row
deletion_refused_at_bound_one =
    let f : ℕ = 17 in let p : ℕ = 18 in let s : ℕ = 19 in let q : ℕ = 20 in
    let z : ℕ = 21 in
    row_at 1 (script (codes "f" ∷ codes "p" ∷ codes "s" ∷ codes "q" ∷ codes "z" ∷ [])
    (handler f (p ∷ s ∷ []) (call Prim.DeleteProcess (Name q ∷ []) ∷ []) ∷ []) (
    set p Prim.StartProcess (string (codes "p") ∷ nil ∷ string (codes "a") ∷ []) ∷
    set q Prim.StartProcess (string (codes "q") ∷ nil ∷ string (codes "b") ∷ []) ∷
    set z Prim.StartProcess (string (codes "z") ∷ nil ∷ string (codes "c") ∷ []) ∷
    call Prim.SetProcessFilter (Name p ∷ symbol f ∷ []) ∷
    call Prim.AcceptProcessOutput (Name z ∷ number 1 ∷ []) ∷ []
    )) (spawned (codes "a") [] 0 ∷ spawned (codes "b") [] 1 ∷ spawned (codes "c") [] 2 ∷
    reads_nothing 2 ∷ reads 0 (codes "x") ∷ output_ends 1 ∷ killed 0 ∷ killed 1 ∷ killed 2 ∷ []) (
    codes "= #<process p>" ∷
    codes "= #<process q>" ∷
    codes "= #<process z>" ∷
    codes "= f" ∷
    codes "> filter f #<process p> \"x\"" ∷
    codes "  ! 13 nesting" ∷
    codes "< f" ∷
    codes "= nil" ∷
    codes "kill #<process p>" ∷
    codes "kill #<process q>" ∷
    codes "kill #<process z>" ∷
    codes "buffer *scratch* point 1 min 1 max 1 modified nil current" ∷
    codes "text \"\"" ∷
    codes "marker 0 #<marker in no buffer>" ∷
    codes "marker 1 #<marker in no buffer>" ∷
    codes "marker 2 #<marker in no buffer>" ∷
    codes "process 0 #<process p> run 0" ∷
    codes "process 1 #<process q> run 0" ∷
    codes "process 2 #<process z> run 0" ∷ []
    )

-- Three rounds of one process alone, and two rounds of both, the target first.
-- (setq p (start-process "p" nil "a"))(setq q (start-process "q" nil "b"))(accept-process-output p 3
-- t)(accept-process-output p 2)
abbrev pub rounds_and_just_this_one : Row
rounds_and_just_this_one =
    let p : ℕ = 17 in let q : ℕ = 18 in
    row (script (codes "p" ∷ codes "q" ∷ []) [] (
    set p Prim.StartProcess (string (codes "p") ∷ nil ∷ string (codes "a") ∷ []) ∷
    set q Prim.StartProcess (string (codes "q") ∷ nil ∷ string (codes "b") ∷ []) ∷
    call Prim.AcceptProcessOutput (Name p ∷ number 3 ∷ t ∷ []) ∷
    call Prim.AcceptProcessOutput (Name p ∷ number 2 ∷ []) ∷ []
    )) (spawned (codes "a") [] 0 ∷ spawned (codes "b") [] 1 ∷ reads_nothing 0 ∷ reads_nothing 0 ∷
    reads_nothing 0 ∷ reads_nothing 0 ∷ reads_nothing 1 ∷ reads_nothing 0 ∷ reads_nothing 1 ∷
    killed 0 ∷ killed 1 ∷ []) (
    codes "= #<process p>" ∷
    codes "= #<process q>" ∷
    codes "= nil" ∷
    codes "= nil" ∷
    codes "kill #<process p>" ∷
    codes "kill #<process q>" ∷
    codes "buffer *scratch* point 1 min 1 max 1 modified nil current" ∷
    codes "text \"\"" ∷
    codes "marker 0 #<marker in no buffer>" ∷
    codes "marker 1 #<marker in no buffer>" ∷
    codes "process 0 #<process p> run 0" ∷
    codes "process 1 #<process q> run 0" ∷ []
    )

-- Sixteen filters wait inside one another, and the wait in the last one is refused: of seventeen reads
-- sixteen are made. (defhandler f (p s) (accept-process-output p))
--     (setq p (start-process "c" nil "cat"))(set-process-filter p 'f)(accept-process-output p)
abbrev pub nested : (filters depth : ℕ) → List (List ℕ)
nested zero depth = indented depth (codes "! 13 nesting") ∷ []
nested (suc filters) depth =
    indented depth (codes "> filter f #<process c> \"a\"") ∷
    (nested filters (depth + 1) ++ (indented depth (codes "< f") ∷ indented depth (codes "= t") ∷ []))

abbrev pub nesting_bound : Row
nesting_bound =
    let f : ℕ = 17 in let p : ℕ = 18 in let s : ℕ = 19 in
    row (script (codes "f" ∷ codes "p" ∷ codes "s" ∷ [])
    (handler f (p ∷ s ∷ []) (call Prim.AcceptProcessOutput (Name p ∷ []) ∷ []) ∷ []) (
    set p Prim.StartProcess (string (codes "c") ∷ nil ∷ string (codes "cat") ∷ []) ∷
    call Prim.SetProcessFilter (Name p ∷ symbol f ∷ []) ∷
    call Prim.AcceptProcessOutput (Name p ∷ []) ∷ []
    )) (spawned (codes "cat") [] 0 ∷ (replicate 16 (reads 0 (codes "a")) ++ killed 0 ∷ [])) (
    codes "= #<process c>" ∷
    codes "= f" ∷
    (nested 16 0 ++
    codes "kill #<process c>" ∷
    codes "buffer *scratch* point 1 min 1 max 1 modified nil current" ∷
    codes "text \"\"" ∷
    codes "marker 0 #<marker in no buffer>" ∷
    codes "process 0 #<process c> run 0" ∷ [])
    )

-- The target is asked before a process of a lower number; bytes of that one don't end the wait, and its own do.
--     (setq p (start-process "p" nil "a"))(setq q (start-process "q" nil "b"))
--     (set-process-filter p 'f)(set-process-filter q 'f)(accept-process-output q 2)
abbrev pub target_asked_first : Row
target_asked_first =
    let f : ℕ = 17 in let p : ℕ = 18 in let s : ℕ = 19 in let q : ℕ = 20 in
    row (script (codes "f" ∷ codes "p" ∷ codes "s" ∷ codes "q" ∷ []) (handler f (p ∷ s ∷ []) [] ∷ []) (
    set p Prim.StartProcess (string (codes "p") ∷ nil ∷ string (codes "a") ∷ []) ∷
    set q Prim.StartProcess (string (codes "q") ∷ nil ∷ string (codes "b") ∷ []) ∷
    call Prim.SetProcessFilter (Name p ∷ symbol f ∷ []) ∷
    call Prim.SetProcessFilter (Name q ∷ symbol f ∷ []) ∷
    call Prim.AcceptProcessOutput (Name q ∷ number 2 ∷ []) ∷ []
    )) (spawned (codes "a") [] 0 ∷ spawned (codes "b") [] 1 ∷ reads_nothing 1 ∷ reads 0 (codes "x") ∷
    reads 1 (codes "y") ∷ killed 0 ∷ killed 1 ∷ []) (
    codes "= #<process p>" ∷
    codes "= #<process q>" ∷
    codes "= f" ∷
    codes "= f" ∷
    codes "> filter f #<process p> \"x\"" ∷
    codes "< f" ∷
    codes "> filter f #<process q> \"y\"" ∷
    codes "< f" ∷
    codes "= t" ∷
    codes "kill #<process p>" ∷
    codes "kill #<process q>" ∷
    codes "buffer *scratch* point 1 min 1 max 1 modified nil current" ∷
    codes "text \"\"" ∷
    codes "marker 0 #<marker in no buffer>" ∷
    codes "marker 1 #<marker in no buffer>" ∷
    codes "process 0 #<process p> run 0" ∷
    codes "process 1 #<process q> run 0" ∷ []
    )
