-- Worked rows on the codings of processes.
use Rattle.std.specs.Prelude.{ℕ, [], ◌∷◌, ◌++◌, codes}
use Rattle.editor_model.specs.Values.{Name, Prim}
use Rattle.worked_rows.specs.Row.{Row, row, script, handler, call, set, nil, number, string, symbol}
use Rattle.worked_rows.specs.Row.{spawned, reads, reads_nothing, output_ends, exits, killed}

-- A carriage return at the end of a read is held back: a line feed that comes joins with it, and at the end
-- of the output it comes by itself. A coding stays once bytes were read.
--     (defhandler f (p s))
--     (setq p (start-process "c" nil "cat"))(set-process-filter p 'f)(set-process-sentinel p 'f)
--     (set-process-coding-system p 'utf-8-dos)(accept-process-output p)(accept-process-output p)
--     (set-process-coding-system p 'latin-1-unix)(accept-process-output p)
abbrev pub line_ends_cut_across_reads : Row
line_ends_cut_across_reads =
    let f : ℕ = 17 in let p : ℕ = 18 in let s : ℕ = 19 in
    row (script (codes "f" ∷ codes "p" ∷ codes "s" ∷ []) (handler f (p ∷ s ∷ []) ([]) ∷ []) (
    set p Prim.StartProcess (string (codes "c") ∷ nil ∷ string (codes "cat") ∷ []) ∷
    call Prim.SetProcessFilter (Name p ∷ symbol f ∷ []) ∷
    call Prim.SetProcessSentinel (Name p ∷ symbol f ∷ []) ∷
    call Prim.SetProcessCodingSystem (Name p ∷ symbol 15 ∷ []) ∷
    call Prim.AcceptProcessOutput (Name p ∷ []) ∷
    call Prim.AcceptProcessOutput (Name p ∷ []) ∷
    call Prim.SetProcessCodingSystem (Name p ∷ symbol 16 ∷ []) ∷
    call Prim.AcceptProcessOutput (Name p ∷ []) ∷ []
    )) (spawned (codes "cat") [] 0 ∷ reads 0 (0x61 ∷ 0x0D ∷ []) ∷ reads 0 (0x0A ∷ 0x62 ∷ 0x0D ∷ []) ∷
    output_ends 0 ∷ exits 0 0 ∷ []) (
    codes "= #<process c>" ∷
    codes "= f" ∷
    codes "= f" ∷
    codes "= utf-8-dos" ∷
    codes "> filter f #<process c> \"a\"" ∷
    codes "< f" ∷
    codes "= t" ∷
    codes "> filter f #<process c> \"\\nb\"" ∷
    codes "< f" ∷
    codes "= t" ∷
    codes "! 19 coding-fixed" ∷
    codes "> filter f #<process c> \"\\015\"" ∷
    codes "< f" ∷
    codes "> sentinel f #<process c> \"finished\\n\"" ∷
    codes "< f" ∷
    codes "= nil" ∷
    codes "buffer *scratch* point 1 min 1 max 1 modified nil current" ∷
    codes "text \"\"" ∷
    codes "marker 0 #<marker in no buffer>" ∷
    codes "process 0 #<process c> exit 0" ∷ []
    )

-- In latin-1-unix each byte is the character of its number.
--     (defhandler f (p s))
-- (setq p (start-process "c" nil "cat"))(set-process-coding-system p 'latin-1-unix)(set-process-filter p
-- 'f) (accept-process-output p)
abbrev pub bytes_as_characters : Row
bytes_as_characters =
    let f : ℕ = 17 in let p : ℕ = 18 in let s : ℕ = 19 in
    row (script (codes "f" ∷ codes "p" ∷ codes "s" ∷ []) (handler f (p ∷ s ∷ []) ([]) ∷ []) (
    set p Prim.StartProcess (string (codes "c") ∷ nil ∷ string (codes "cat") ∷ []) ∷
    call Prim.SetProcessCodingSystem (Name p ∷ symbol 16 ∷ []) ∷
    call Prim.SetProcessFilter (Name p ∷ symbol f ∷ []) ∷
    call Prim.AcceptProcessOutput (Name p ∷ []) ∷ []
    )) (spawned (codes "cat") [] 0 ∷ reads 0 (0xE9 ∷ 0x41 ∷ []) ∷ killed 0 ∷ []) (
    codes "= #<process c>" ∷
    codes "= latin-1-unix" ∷
    codes "= f" ∷
    (codes "> filter f #<process c> \"" ++ (0xC3 ∷ 0xA9 ∷ codes "A\"")) ∷
    codes "< f" ∷
    codes "= t" ∷
    codes "kill #<process c>" ∷
    codes "buffer *scratch* point 1 min 1 max 1 modified nil current" ∷
    codes "text \"\"" ∷
    codes "marker 0 #<marker in no buffer>" ∷
    codes "process 0 #<process c> run 0" ∷ []
    )

-- Carriage returns behind one another, and before bytes that are part of no character.
--     (defhandler f (p s))
--     (setq p (start-process "c" nil "cat"))(set-process-coding-system p 'utf-8-dos)(set-process-filter p 'f)
--     (accept-process-output p)(accept-process-output p)(accept-process-output p)
abbrev pub returns_doubled_and_before_malformed_bytes : Row
returns_doubled_and_before_malformed_bytes =
    let f : ℕ = 17 in let p : ℕ = 18 in let s : ℕ = 19 in
    row (script (codes "f" ∷ codes "p" ∷ codes "s" ∷ []) (handler f (p ∷ s ∷ []) ([]) ∷ []) (
    set p Prim.StartProcess (string (codes "c") ∷ nil ∷ string (codes "cat") ∷ []) ∷
    call Prim.SetProcessCodingSystem (Name p ∷ symbol 15 ∷ []) ∷
    call Prim.SetProcessFilter (Name p ∷ symbol f ∷ []) ∷
    call Prim.AcceptProcessOutput (Name p ∷ []) ∷
    call Prim.AcceptProcessOutput (Name p ∷ []) ∷
    call Prim.AcceptProcessOutput (Name p ∷ []) ∷ []
    )) (spawned (codes "cat") [] 0 ∷ reads 0 (0x0D ∷ 0x0D ∷ 0x0A ∷ []) ∷
    reads 0 (0x0D ∷ 0xFF ∷ 0x0D ∷ []) ∷ reads 0 (0xE2 ∷ 0x82 ∷ 0x0D ∷ 0x0A ∷ []) ∷ killed 0 ∷ []) (
    codes "= #<process c>" ∷
    codes "= utf-8-dos" ∷
    codes "= f" ∷
    codes "> filter f #<process c> \"\\015\\n\"" ∷
    codes "< f" ∷
    codes "= t" ∷
    codes "> filter f #<process c> \"\\015\\377\"" ∷
    codes "< f" ∷
    codes "= t" ∷
    codes "> filter f #<process c> \"\\015\\342\\202\\n\"" ∷
    codes "< f" ∷
    codes "= t" ∷
    codes "kill #<process c>" ∷
    codes "buffer *scratch* point 1 min 1 max 1 modified nil current" ∷
    codes "text \"\"" ∷
    codes "marker 0 #<marker in no buffer>" ∷
    codes "process 0 #<process c> run 0" ∷ []
    )

-- A coding is set behind a read of nothing, but neither in a filter nor in a sentinel, once bytes were read.
--     (defhandler f (p s) (process-coding-system p) (set-process-coding-system p 'latin-1-unix))
--     (setq p (start-process "c" nil "cat"))(set-process-filter p 'f)(set-process-sentinel p 'f)
--     (accept-process-output p 1)(set-process-coding-system p 'utf-8-dos)(accept-process-output p)
--     (accept-process-output p)
abbrev pub coding_asked_in_a_filter : Row
coding_asked_in_a_filter =
    let f : ℕ = 17 in let p : ℕ = 18 in let s : ℕ = 19 in
    row (script (codes "f" ∷ codes "p" ∷ codes "s" ∷ [])
    (handler f (p ∷ s ∷ []) (call Prim.ProcessCodingSystem (Name p ∷ []) ∷
    call Prim.SetProcessCodingSystem (Name p ∷ symbol 16 ∷ []) ∷ []) ∷ []) (
    set p Prim.StartProcess (string (codes "c") ∷ nil ∷ string (codes "cat") ∷ []) ∷
    call Prim.SetProcessFilter (Name p ∷ symbol f ∷ []) ∷
    call Prim.SetProcessSentinel (Name p ∷ symbol f ∷ []) ∷
    call Prim.AcceptProcessOutput (Name p ∷ number 1 ∷ []) ∷
    call Prim.SetProcessCodingSystem (Name p ∷ symbol 15 ∷ []) ∷
    call Prim.AcceptProcessOutput (Name p ∷ []) ∷
    call Prim.AcceptProcessOutput (Name p ∷ []) ∷ []
    )) (spawned (codes "cat") [] 0 ∷ reads_nothing 0 ∷ reads 0 (0x61 ∷ 0x0D ∷ []) ∷ output_ends 0 ∷
    exits 0 0 ∷ []) (
    codes "= #<process c>" ∷
    codes "= f" ∷
    codes "= f" ∷
    codes "= nil" ∷
    codes "= utf-8-dos" ∷
    codes "> filter f #<process c> \"a\"" ∷
    codes "  = utf-8-dos" ∷
    codes "  ! 19 coding-fixed" ∷
    codes "< f" ∷
    codes "= t" ∷
    codes "> filter f #<process c> \"\\015\"" ∷
    codes "  = utf-8-dos" ∷
    codes "  ! 19 coding-fixed" ∷
    codes "< f" ∷
    codes "> sentinel f #<process c> \"finished\\n\"" ∷
    codes "  = utf-8-dos" ∷
    codes "  ! 19 coding-fixed" ∷
    codes "< f" ∷
    codes "= nil" ∷
    codes "buffer *scratch* point 1 min 1 max 1 modified nil current" ∷
    codes "text \"\"" ∷
    codes "marker 0 #<marker in no buffer>" ∷
    codes "process 0 #<process c> exit 0" ∷ []
    )

-- A process of which no bytes were read: its coding is set in its sentinel and behind its end.
--     (defhandler g (p s) (set-process-coding-system p 'latin-1-unix))
--     (setq p (start-process "c" nil "cat"))(set-process-sentinel p 'g)(accept-process-output p)
--     (process-coding-system p)(process-send-string p "x")(set-process-coding-system p 'utf-8-dos)
-- (set-process-coding-system p q)(set-process-coding-system "c" 'utf-8-dos)(set-process-coding-system p
-- 'run) (set-process-coding-system p nil)
abbrev pub coding_of_a_process_that_was_never_read : Row
coding_of_a_process_that_was_never_read =
    let g : ℕ = 17 in let p : ℕ = 18 in let s : ℕ = 19 in let q : ℕ = 20 in
    row (script (codes "g" ∷ codes "p" ∷ codes "s" ∷ codes "q" ∷ [])
    (handler g (p ∷ s ∷ []) (call Prim.SetProcessCodingSystem (Name p ∷ symbol 16 ∷ []) ∷ []) ∷ []) (
    set p Prim.StartProcess (string (codes "c") ∷ nil ∷ string (codes "cat") ∷ []) ∷
    call Prim.SetProcessSentinel (Name p ∷ symbol g ∷ []) ∷
    call Prim.AcceptProcessOutput (Name p ∷ []) ∷
    call Prim.ProcessCodingSystem (Name p ∷ []) ∷
    call Prim.ProcessSendString (Name p ∷ string (codes "x") ∷ []) ∷
    call Prim.SetProcessCodingSystem (Name p ∷ symbol 15 ∷ []) ∷
    call Prim.SetProcessCodingSystem (Name p ∷ Name q ∷ []) ∷
    call Prim.SetProcessCodingSystem (string (codes "c") ∷ symbol 15 ∷ []) ∷
    call Prim.SetProcessCodingSystem (Name p ∷ symbol 6 ∷ []) ∷
    call Prim.SetProcessCodingSystem (Name p ∷ nil ∷ []) ∷ []
    )) (spawned (codes "cat") [] 0 ∷ output_ends 0 ∷ exits 0 0 ∷ []) (
    codes "= #<process c>" ∷
    codes "= g" ∷
    codes "> sentinel g #<process c> \"finished\\n\"" ∷
    codes "  = latin-1-unix" ∷
    codes "< g" ∷
    codes "= nil" ∷
    codes "= latin-1-unix" ∷
    codes "! 10 process-ended" ∷
    codes "= utf-8-dos" ∷
    codes "! 3 void-variable" ∷
    codes "! 9 no-such-process" ∷
    codes "! 2 wrong-type-argument" ∷
    codes "! 2 wrong-type-argument" ∷
    codes "buffer *scratch* point 1 min 1 max 1 modified nil current" ∷
    codes "text \"\"" ∷
    codes "marker 0 #<marker in no buffer>" ∷
    codes "process 0 #<process c> exit 0" ∷ []
    )

-- Once bytes were read a coding is refused behind wrong types and unknown names, also where it is the same
-- and where the process has ended.
--     (defhandler f (p s))
--     (setq p (start-process "c" nil "cat"))(set-process-filter p 'f)(accept-process-output p)
--     (set-process-coding-system p 'run)(set-process-coding-system "no" 'utf-8-dos)
--     (set-process-coding-system p 'utf-8-dos)(set-process-coding-system p 'utf-8-unix)(delete-process p)
--     (process-send-string p "x")(set-process-coding-system p 'utf-8-dos)
abbrev pub coding_is_refused_last : Row
coding_is_refused_last =
    let f : ℕ = 17 in let p : ℕ = 18 in let s : ℕ = 19 in
    row (script (codes "f" ∷ codes "p" ∷ codes "s" ∷ []) (handler f (p ∷ s ∷ []) ([]) ∷ []) (
    set p Prim.StartProcess (string (codes "c") ∷ nil ∷ string (codes "cat") ∷ []) ∷
    call Prim.SetProcessFilter (Name p ∷ symbol f ∷ []) ∷
    call Prim.AcceptProcessOutput (Name p ∷ []) ∷
    call Prim.SetProcessCodingSystem (Name p ∷ symbol 6 ∷ []) ∷
    call Prim.SetProcessCodingSystem (string (codes "no") ∷ symbol 15 ∷ []) ∷
    call Prim.SetProcessCodingSystem (Name p ∷ symbol 15 ∷ []) ∷
    call Prim.SetProcessCodingSystem (Name p ∷ symbol 14 ∷ []) ∷
    call Prim.DeleteProcess (Name p ∷ []) ∷
    call Prim.ProcessSendString (Name p ∷ string (codes "x") ∷ []) ∷
    call Prim.SetProcessCodingSystem (Name p ∷ symbol 15 ∷ []) ∷ []
    )) (spawned (codes "cat") [] 0 ∷ reads 0 (0x61 ∷ []) ∷ killed 0 ∷ []) (
    codes "= #<process c>" ∷
    codes "= f" ∷
    codes "> filter f #<process c> \"a\"" ∷
    codes "< f" ∷
    codes "= t" ∷
    codes "! 2 wrong-type-argument" ∷
    codes "! 9 no-such-process" ∷
    codes "! 19 coding-fixed" ∷
    codes "! 19 coding-fixed" ∷
    codes "> sentinel default #<process c> \"killed\\n\"" ∷
    codes "< default" ∷
    codes "= nil" ∷
    codes "! 10 process-ended" ∷
    codes "! 19 coding-fixed" ∷
    codes "buffer *scratch* point 1 min 1 max 1 modified nil current" ∷
    codes "text \"\"" ∷
    codes "marker 0 #<marker in no buffer>" ∷
    codes "process 0 #<process c> signal nil" ∷ []
    )
