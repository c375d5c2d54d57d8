-- Worked rows: processes and their default handlers.
use Rattle.std.specs.Prelude.{ℕ, ◌+◌, List, [], ◌∷◌, ◌++◌, codes, replicate, map}
use Rattle.editor_model.specs.Values.{Value, Str, Name, Prim}
use Rattle.worked_rows.specs.Row.{Row, row, script, call, set, handler, number, string, symbol, nil, t}
use Rattle.worked_rows.specs.Row.{spawned, refused, reads, output_ends, read_fails, exits, end_fails}
use Rattle.worked_rows.specs.Row.{killed, kill_fails}
use Rattle.text_model.specs.Characters.{Ch, Scalar}
use Rattle.plain_machine.specs.Exchanges.{Exchange}
use Rattle.plain_machine.specs.Lines.{Entered, OfFilter}
use Rattle.plain_machine.specs.Run.{Ran, HasEnded}
use Rattle.plain_machine.specs.Items.{Said}
use Rattle.worked_rows.specs.Row.{written, dump_of}
use Rattle.std.specs.Prelude.{◌≡◌, flat_map, length}

-- One child with the default filter and the default sentinel.
--     (start-process "c" "*scratch*" "cat")(accept-process-output)(accept-process-output)
abbrev pub default_handlers : Row
default_handlers =
    row (script [] [] (
    call Prim.StartProcess (string (codes "c") ∷ string (codes "*scratch*") ∷ string (codes "cat") ∷ []) ∷
    call Prim.AcceptProcessOutput [] ∷
    call Prim.AcceptProcessOutput [] ∷ []
    )) (spawned (codes "cat") [] 0 ∷ reads 0 (codes "ab") ∷ output_ends 0 ∷ exits 0 0 ∷ []) (
    codes "= #<process c>" ∷
    codes "> filter default #<process c> \"ab\"" ∷
    codes "< default" ∷
    codes "= t" ∷
    codes "> sentinel default #<process c> \"finished\\n\"" ∷
    codes "< default" ∷
    codes "= nil" ∷
    codes "buffer *scratch* point 23 min 1 max 23 modified t current" ∷
    codes "text \"ab\\nProcess c finished\\n\"" ∷
    codes "marker 0 #<marker at 23 in *scratch*>" ∷
    codes "process 0 #<process c> exit 0" ∷ []
    )

-- The same where the child can't be started.
--     (start-process "c" "*scratch*" "cat")(accept-process-output)(accept-process-output)
abbrev pub waits_without_a_process : Row
waits_without_a_process =
    row (script [] [] (
    call Prim.StartProcess (string (codes "c") ∷ string (codes "*scratch*") ∷ string (codes "cat") ∷ []) ∷
    call Prim.AcceptProcessOutput [] ∷
    call Prim.AcceptProcessOutput [] ∷ []
    )) (refused (codes "cat") [] ∷ []) (
    codes "! 12 spawn-failed" ∷
    codes "= nil" ∷
    codes "= nil" ∷
    codes "buffer *scratch* point 1 min 1 max 1 modified nil current" ∷
    codes "text \"\"" ∷ []
    )

-- A child that can't be started leaves nothing behind.
--     (start-process "p" "out" "nosuch")(get-process "p")(get-buffer "out")
abbrev pub spawn_refused : Row
spawn_refused =
    row (script [] [] (
    call Prim.StartProcess (string (codes "p") ∷ string (codes "out") ∷ string (codes "nosuch") ∷ []) ∷
    call Prim.GetProcess (string (codes "p") ∷ []) ∷
    call Prim.GetBuffer (string (codes "out") ∷ []) ∷ []
    )) (refused (codes "nosuch") [] ∷ []) (
    codes "! 12 spawn-failed" ∷
    codes "= nil" ∷
    codes "= nil" ∷
    codes "buffer *scratch* point 1 min 1 max 1 modified nil current" ∷
    codes "text \"\"" ∷ []
    )

-- A script whose child can't be started: the name stays unset.
--     (defhandler f (p s))
-- (setq p (start-process "c" nil "cat"))(set-process-filter p 'f)(set-process-sentinel p
-- 'f)(accept-process-output p)(accept-process-output p)
abbrev pub spawn_refused_leaves_a_void_name : Row
spawn_refused_leaves_a_void_name =
    let f : ℕ = 17 in let p : ℕ = 18 in let s : ℕ = 19 in
    row (script (codes "f" ∷ codes "p" ∷ codes "s" ∷ []) (handler f (p ∷ s ∷ []) ([]) ∷ []) (
    set p Prim.StartProcess (string (codes "c") ∷ nil ∷ string (codes "cat") ∷ []) ∷
    call Prim.SetProcessFilter (Name p ∷ symbol f ∷ []) ∷
    call Prim.SetProcessSentinel (Name p ∷ symbol f ∷ []) ∷
    call Prim.AcceptProcessOutput (Name p ∷ []) ∷
    call Prim.AcceptProcessOutput (Name p ∷ []) ∷ []
    )) (refused (codes "cat") [] ∷ []) (
    codes "! 12 spawn-failed" ∷
    codes "! 3 void-variable" ∷
    codes "! 3 void-variable" ∷
    codes "! 3 void-variable" ∷
    codes "! 3 void-variable" ∷
    codes "buffer *scratch* point 1 min 1 max 1 modified nil current" ∷
    codes "text \"\"" ∷ []
    )

-- A character cut across three reads; the filter set at the last one gets it.
--     (defhandler f (p s))(defhandler g (p s))
-- (setq p (start-process "c" nil "cat"))(set-process-filter p 'f)(accept-process-output
-- p)(accept-process-output p) (set-process-filter p 'g)(accept-process-output p)
abbrev pub character_cut_across_reads : Row
character_cut_across_reads =
    let f : ℕ = 17 in let p : ℕ = 18 in let s : ℕ = 19 in let g : ℕ = 20 in
    row (script (codes "f" ∷ codes "p" ∷ codes "s" ∷ codes "g" ∷ []) (
    handler f (p ∷ s ∷ []) ([]) ∷
    handler g (p ∷ s ∷ []) ([]) ∷ []
    ) (
    set p Prim.StartProcess (string (codes "c") ∷ nil ∷ string (codes "cat") ∷ []) ∷
    call Prim.SetProcessFilter (Name p ∷ symbol f ∷ []) ∷
    call Prim.AcceptProcessOutput (Name p ∷ []) ∷
    call Prim.AcceptProcessOutput (Name p ∷ []) ∷
    call Prim.SetProcessFilter (Name p ∷ symbol g ∷ []) ∷
    call Prim.AcceptProcessOutput (Name p ∷ []) ∷ []
    )) (spawned (codes "cat") [] 0 ∷ reads 0 (0xE2 ∷ []) ∷ reads 0 (0x82 ∷ []) ∷ reads 0 (0xAC ∷ []) ∷
    killed 0 ∷ []) (
    codes "= #<process c>" ∷
    codes "= f" ∷
    codes "= t" ∷
    codes "= t" ∷
    codes "= g" ∷
    (codes "> filter g #<process c> \"" ++ ((0xE2 ∷ 0x82 ∷ 0xAC ∷ []) ++ codes "\"")) ∷
    codes "< g" ∷
    codes "= t" ∷
    codes "kill #<process c>" ∷
    codes "buffer *scratch* point 1 min 1 max 1 modified nil current" ∷
    codes "text \"\"" ∷
    codes "marker 0 #<marker in no buffer>" ∷
    codes "process 0 #<process c> run 0" ∷ []
    )

-- A tail that was held comes out as raw bytes at the end of the output, before the sentinel.
--     (defhandler f (p s))
-- (setq p (start-process "c" nil "cat"))(set-process-filter p 'f)(set-process-sentinel p
-- 'f)(accept-process-output p)(accept-process-output p)
abbrev pub held_tail_at_end_of_output : Row
held_tail_at_end_of_output =
    let f : ℕ = 17 in let p : ℕ = 18 in let s : ℕ = 19 in
    row (script (codes "f" ∷ codes "p" ∷ codes "s" ∷ []) (handler f (p ∷ s ∷ []) ([]) ∷ []) (
    set p Prim.StartProcess (string (codes "c") ∷ nil ∷ string (codes "cat") ∷ []) ∷
    call Prim.SetProcessFilter (Name p ∷ symbol f ∷ []) ∷
    call Prim.SetProcessSentinel (Name p ∷ symbol f ∷ []) ∷
    call Prim.AcceptProcessOutput (Name p ∷ []) ∷
    call Prim.AcceptProcessOutput (Name p ∷ []) ∷ []
    )) (spawned (codes "cat") [] 0 ∷ reads 0 (0xE2 ∷ 0x82 ∷ []) ∷ output_ends 0 ∷ exits 0 0 ∷ []) (
    codes "= #<process c>" ∷
    codes "= f" ∷
    codes "= f" ∷
    codes "= t" ∷
    codes "> filter f #<process c> \"\\342\\202\"" ∷
    codes "< f" ∷
    codes "> sentinel f #<process c> \"finished\\n\"" ∷
    codes "< f" ∷
    codes "= nil" ∷
    codes "buffer *scratch* point 1 min 1 max 1 modified nil current" ∷
    codes "text \"\"" ∷
    codes "marker 0 #<marker in no buffer>" ∷
    codes "process 0 #<process c> exit 0" ∷ []
    )

-- A read that fails ends the output, and an end that fails ends the process.
--     (defhandler f (p s))
-- (setq p (start-process "c" nil "cat"))(set-process-filter p 'f)(set-process-sentinel p
-- 'f)(accept-process-output p)(accept-process-output p)
abbrev pub read_and_end_fail : Row
read_and_end_fail =
    let f : ℕ = 17 in let p : ℕ = 18 in let s : ℕ = 19 in
    row (script (codes "f" ∷ codes "p" ∷ codes "s" ∷ []) (handler f (p ∷ s ∷ []) ([]) ∷ []) (
    set p Prim.StartProcess (string (codes "c") ∷ nil ∷ string (codes "cat") ∷ []) ∷
    call Prim.SetProcessFilter (Name p ∷ symbol f ∷ []) ∷
    call Prim.SetProcessSentinel (Name p ∷ symbol f ∷ []) ∷
    call Prim.AcceptProcessOutput (Name p ∷ []) ∷
    call Prim.AcceptProcessOutput (Name p ∷ []) ∷ []
    )) (spawned (codes "cat") [] 0 ∷ reads 0 (0xE2 ∷ []) ∷ read_fails 0 ∷ end_fails 0 ∷ []) (
    codes "= #<process c>" ∷
    codes "= f" ∷
    codes "= f" ∷
    codes "= t" ∷
    codes "> filter f #<process c> \"\\342\"" ∷
    codes "< f" ∷
    codes "> sentinel f #<process c> \"failed\\n\"" ∷
    codes "< f" ∷
    codes "= nil" ∷
    codes "buffer *scratch* point 1 min 1 max 1 modified nil current" ∷
    codes "text \"\"" ∷
    codes "marker 0 #<marker in no buffer>" ∷
    codes "process 0 #<process c> failed nil" ∷ []
    )

-- A process whose filter is off isn't asked.
-- (setq p (start-process "c" "out" "cat"))(set-process-filter p t)(accept-process-output
-- p)(set-process-filter p nil)(accept-process-output p)
abbrev pub filter_off_and_on : Row
filter_off_and_on =
    let p : ℕ = 17 in
    row (script (codes "p" ∷ []) [] (
    set p Prim.StartProcess (string (codes "c") ∷ string (codes "out") ∷ string (codes "cat") ∷ []) ∷
    call Prim.SetProcessFilter (Name p ∷ t ∷ []) ∷
    call Prim.AcceptProcessOutput (Name p ∷ []) ∷
    call Prim.SetProcessFilter (Name p ∷ nil ∷ []) ∷
    call Prim.AcceptProcessOutput (Name p ∷ []) ∷ []
    )) (spawned (codes "cat") [] 0 ∷ reads 0 (codes "ab") ∷ killed 0 ∷ []) (
    codes "= #<process c>" ∷
    codes "= t" ∷
    codes "= nil" ∷
    codes "= nil" ∷
    codes "> filter default #<process c> \"ab\"" ∷
    codes "< default" ∷
    codes "= t" ∷
    codes "kill #<process c>" ∷
    codes "buffer *scratch* point 1 min 1 max 1 modified nil current" ∷
    codes "text \"\"" ∷
    codes "buffer out point 3 min 1 max 3 modified t" ∷
    codes "text \"ab\"" ∷
    codes "marker 0 #<marker at 3 in out>" ∷
    codes "process 0 #<process c> run 0" ∷ []
    )

-- The default filter inserts at the mark, also outside the accessible portion.
-- (get-buffer-create "out")(set-buffer "out")(insert "abcdef")(setq p (start-process "c" "out"
-- "cat"))(narrow-to-region 2 4)(accept-process-output p)
abbrev pub default_filter_outside_the_narrowing : Row
default_filter_outside_the_narrowing =
    let p : ℕ = 17 in
    row (script (codes "p" ∷ []) [] (
    call Prim.GetBufferCreate (string (codes "out") ∷ []) ∷
    call Prim.SetBuffer (string (codes "out") ∷ []) ∷
    call Prim.Insert (string (codes "abcdef") ∷ []) ∷
    set p Prim.StartProcess (string (codes "c") ∷ string (codes "out") ∷ string (codes "cat") ∷ []) ∷
    call Prim.NarrowToRegion (number 2 ∷ number 4 ∷ []) ∷
    call Prim.AcceptProcessOutput (Name p ∷ []) ∷ []
    )) (spawned (codes "cat") [] 0 ∷ reads 0 (codes "xy") ∷ killed 0 ∷ []) (
    codes "= #<buffer out>" ∷
    codes "= #<buffer out>" ∷
    codes "= nil" ∷
    codes "= #<process c>" ∷
    codes "= nil" ∷
    codes "> filter default #<process c> \"xy\"" ∷
    codes "< default" ∷
    codes "= t" ∷
    codes "kill #<process c>" ∷
    codes "buffer *scratch* point 1 min 1 max 1 modified nil" ∷
    codes "text \"\"" ∷
    codes "buffer out point 4 min 2 max 4 modified t current" ∷
    codes "text \"abcdefxy\"" ∷
    codes "marker 0 #<marker at 9 in out>" ∷
    codes "process 0 #<process c> run 0" ∷ []
    )

-- A deletion whose kill fails: the status is signal all the same, and no kill is asked at the end.
--     (defhandler s (p m))
--     (setq p (start-process "c" nil "cat"))(set-process-sentinel p 's)(delete-process p)
abbrev pub kill_that_fails : Row
kill_that_fails =
    let s : ℕ = 17 in let p : ℕ = 18 in let m : ℕ = 19 in
    row (script (codes "s" ∷ codes "p" ∷ codes "m" ∷ []) (handler s (p ∷ m ∷ []) ([]) ∷ []) (
    set p Prim.StartProcess (string (codes "c") ∷ nil ∷ string (codes "cat") ∷ []) ∷
    call Prim.SetProcessSentinel (Name p ∷ symbol s ∷ []) ∷
    call Prim.DeleteProcess (Name p ∷ []) ∷ []
    )) (spawned (codes "cat") [] 0 ∷ kill_fails 0 ∷ []) (
    codes "= #<process c>" ∷
    codes "= s" ∷
    codes "> sentinel s #<process c> \"killed\\n\"" ∷
    codes "< s" ∷
    codes "= nil" ∷
    codes "buffer *scratch* point 1 min 1 max 1 modified nil current" ∷
    codes "text \"\"" ∷
    codes "marker 0 #<marker in no buffer>" ∷
    codes "process 0 #<process c> signal nil" ∷ []
    )

-- The script that is run with a real child too.
--     (defhandler s (p m))
--     (setq p (start-process "sorted" "out" "sh" "-c" "printf 'b\\na\\n' | sort; exit 3"))
--     (set-process-sentinel p 's)(accept-process-output p)(accept-process-output p)(process-exit-status p)
abbrev pub real_children : Row
real_children =
    let s : ℕ = 17 in let p : ℕ = 18 in let m : ℕ = 19 in
    row (script (codes "s" ∷ codes "p" ∷ codes "m" ∷ []) (handler s (p ∷ m ∷ []) ([]) ∷ []) (
    set p Prim.StartProcess (string (codes "sorted") ∷ string (codes "out") ∷ string (codes "sh") ∷
    string (codes "-c") ∷ string (codes "printf 'b\\na\\n' | sort; exit 3") ∷ []) ∷
    call Prim.SetProcessSentinel (Name p ∷ symbol s ∷ []) ∷
    call Prim.AcceptProcessOutput (Name p ∷ []) ∷
    call Prim.AcceptProcessOutput (Name p ∷ []) ∷
    call Prim.ProcessExitStatus (Name p ∷ []) ∷ []
    )) (spawned (codes "sh") (codes "-c" ∷ codes "printf 'b\\na\\n' | sort; exit 3" ∷ []) 0 ∷
    reads 0 (codes "a\nb\n") ∷ output_ends 0 ∷ exits 0 3 ∷ []) (
    codes "= #<process sorted>" ∷
    codes "= s" ∷
    codes "> filter default #<process sorted> \"a\\nb\\n\"" ∷
    codes "< default" ∷
    codes "= t" ∷
    codes "> sentinel s #<process sorted> \"exited abnormally with code 3\\n\"" ∷
    codes "< s" ∷
    codes "= nil" ∷
    codes "= 3" ∷
    codes "buffer *scratch* point 1 min 1 max 1 modified nil current" ∷
    codes "text \"\"" ∷
    codes "buffer out point 5 min 1 max 5 modified t" ∷
    codes "text \"a\\nb\\n\"" ∷
    codes "marker 0 #<marker at 5 in out>" ∷
    codes "process 0 #<process sorted> exit 3" ∷ []
    )

-- The same child whose four bytes come in any of their eight cuttings: one wait for each read, and one more.
abbrev pub cut_reads : List (List ℕ) → List Exchange
cut_reads pieces = map (λ piece. reads 0 piece) pieces

abbrev pub cut_output : List (List ℕ) → Ran
cut_output pieces =
    let s : ℕ = 17 in let p : ℕ = 18 in let m : ℕ = 19 in
    (row (script (codes "s" ∷ codes "p" ∷ codes "m" ∷ []) (handler s (p ∷ m ∷ []) [] ∷ []) (
    set p Prim.StartProcess (string (codes "sorted") ∷ string (codes "out") ∷ string (codes "sort") ∷ []) ∷
    call Prim.SetProcessSentinel (Name p ∷ symbol s ∷ []) ∷
    replicate (length pieces + 1) (call Prim.AcceptProcessOutput (Name p ∷ []))
    )) (spawned (codes "sort") [] 0 ∷ (cut_reads pieces ++ output_ends 0 ∷ exits 0 3 ∷ [])) []).ran

abbrev pub second_text : List Value → List Ch
second_text (v ∷ Str cells ∷ args) = map (λ c. c.0) cells
second_text args = []

abbrev pub filter_text : Said → List Ch
filter_text said = elim said.event [ Entered depth (OfFilter p) handler args ↦ second_text args | _ ↦ [] ]

-- the run has ended with its exchanges used up; the filter's texts joined are what was read; and the dump
-- is the same
abbrev pub IsWhole : List (List ℕ) → Type 0
IsWhole pieces =
    ((cut_output pieces).how ≡ HasEnded) × ((cut_output pieces).left ≡ []) ×
    (flat_map filter_text (cut_output pieces).said ≡ map Scalar (codes "a\nb\n")) ×
    (dump_of (cut_output pieces) ≡ written (
    codes "buffer *scratch* point 1 min 1 max 1 modified nil current" ∷
    codes "text \"\"" ∷
    codes "buffer out point 5 min 1 max 5 modified t" ∷
    codes "text \"a\\nb\\n\"" ∷
    codes "marker 0 #<marker at 5 in out>" ∷
    codes "process 0 #<process sorted> exit 3" ∷ []
    ))

abbrev pub eight_cuttings : List (List (List ℕ))
eight_cuttings =
    (codes "a\nb\n" ∷ []) ∷
    (codes "a\nb" ∷ codes "\n" ∷ []) ∷
    (codes "a\n" ∷ codes "b\n" ∷ []) ∷
    (codes "a" ∷ codes "\nb\n" ∷ []) ∷
    (codes "a\n" ∷ codes "b" ∷ codes "\n" ∷ []) ∷
    (codes "a" ∷ codes "\nb" ∷ codes "\n" ∷ []) ∷
    (codes "a" ∷ codes "\n" ∷ codes "b\n" ∷ []) ∷
    (codes "a" ∷ codes "\n" ∷ codes "b" ∷ codes "\n" ∷ []) ∷ []

abbrev pub AreWhole : List (List (List ℕ)) → Type 0
AreWhole [] = Unit {0}
AreWhole (pieces ∷ cuttings) = IsWhole pieces × AreWhole cuttings

-- The parameters of a handler end with it.
--     (defhandler f (p s))
--     (setq p (start-process "c" nil "cat"))(set-process-filter p 'f)(accept-process-output p)(goto-char s)
abbrev pub scope_ends_with_its_handler : Row
scope_ends_with_its_handler =
    let f : ℕ = 17 in let p : ℕ = 18 in let s : ℕ = 19 in
    row (script (codes "f" ∷ codes "p" ∷ codes "s" ∷ []) (handler f (p ∷ s ∷ []) [] ∷ []) (
    set p Prim.StartProcess (string (codes "c") ∷ nil ∷ string (codes "cat") ∷ []) ∷
    call Prim.SetProcessFilter (Name p ∷ symbol f ∷ []) ∷
    call Prim.AcceptProcessOutput (Name p ∷ []) ∷
    call Prim.GotoChar (Name s ∷ []) ∷ []
    )) (spawned (codes "cat") [] 0 ∷ reads 0 (codes "a") ∷ killed 0 ∷ []) (
    codes "= #<process c>" ∷
    codes "= f" ∷
    codes "> filter f #<process c> \"a\"" ∷
    codes "< f" ∷
    codes "= t" ∷
    codes "! 3 void-variable" ∷
    codes "kill #<process c>" ∷
    codes "buffer *scratch* point 1 min 1 max 1 modified nil current" ∷
    codes "text \"\"" ∷
    codes "marker 0 #<marker in no buffer>" ∷
    codes "process 0 #<process c> run 0" ∷ []
    )

-- What is told of processes: a name that is taken gets a number, and a process that was deleted isn't
-- listed any more. (setq p (start-process "c" "out" "cat"))(setq q (start-process "c" nil
-- "cat"))(process-list)(process-name q) (process-buffer p)(process-mark p)(process-filter
-- p)(process-sentinel p)(process-status p)(process-live-p p) (delete-process p)(process-status
-- p)(process-live-p p)(process-list)(get-process "c")
abbrev pub questions_to_processes : Row
questions_to_processes =
    let p : ℕ = 17 in let q : ℕ = 18 in
    row (script (codes "p" ∷ codes "q" ∷ []) [] (
    set p Prim.StartProcess (string (codes "c") ∷ string (codes "out") ∷ string (codes "cat") ∷ []) ∷
    set q Prim.StartProcess (string (codes "c") ∷ nil ∷ string (codes "cat") ∷ []) ∷
    call Prim.ProcessList [] ∷
    call Prim.ProcessName (Name q ∷ []) ∷
    call Prim.ProcessBuffer (Name p ∷ []) ∷
    call Prim.ProcessMark (Name p ∷ []) ∷
    call Prim.ProcessFilter (Name p ∷ []) ∷
    call Prim.ProcessSentinel (Name p ∷ []) ∷
    call Prim.ProcessStatus (Name p ∷ []) ∷
    call Prim.ProcessLiveP (Name p ∷ []) ∷
    call Prim.DeleteProcess (Name p ∷ []) ∷
    call Prim.ProcessStatus (Name p ∷ []) ∷
    call Prim.ProcessLiveP (Name p ∷ []) ∷
    call Prim.ProcessList [] ∷
    call Prim.GetProcess (string (codes "c") ∷ []) ∷ []
    )) (spawned (codes "cat") [] 0 ∷ spawned (codes "cat") [] 1 ∷ killed 0 ∷ killed 1 ∷ []) (
    codes "= #<process c>" ∷
    codes "= #<process c<1>>" ∷
    codes "= (#<process c> #<process c<1>>)" ∷
    codes "= \"c<1>\"" ∷
    codes "= #<buffer out>" ∷
    codes "= #<marker at 1 in out>" ∷
    codes "= nil" ∷
    codes "= nil" ∷
    codes "= run" ∷
    codes "= t" ∷
    codes "> sentinel default #<process c> \"killed\\n\"" ∷
    codes "< default" ∷
    codes "= nil" ∷
    codes "= signal" ∷
    codes "= nil" ∷
    codes "= (#<process c<1>>)" ∷
    codes "= nil" ∷
    codes "kill #<process c<1>>" ∷
    codes "buffer *scratch* point 1 min 1 max 1 modified nil current" ∷
    codes "text \"\"" ∷
    codes "buffer out point 19 min 1 max 19 modified t" ∷
    codes "text \"\\nProcess c killed\\n\"" ∷
    codes "marker 0 #<marker at 19 in out>" ∷
    codes "marker 1 #<marker in no buffer>" ∷
    codes "process 0 #<process c> signal nil" ∷
    codes "process 1 #<process c<1>> run 0" ∷ []
    )
