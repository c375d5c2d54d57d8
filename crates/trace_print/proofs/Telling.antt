-- The lines of a run.
use Rattle.std.proofs.Common.{◌≡◌, ℕ, zero, suc, ◌+◌, ◌<◌, ◌≤◌, List, [], ◌∷◌, ◌++◌, length, map, refl, ap, sym, ◌∙◌, arith, append-nil}
use Rattle.std.specs.Prelude.{codes, decimal, flat_map, Option}
use Rattle.std.specs.List.{enumerate_from}
use Rattle.std.specs.Fmt.{digits}
use Rattle.editor_model.specs.Editor.{Editor}
use Rattle.editor_model.specs.Values.{Value, Values, Nil, T, Int, Sym, Str, Items, Dotted, TheBuffer, TheMarker, TheOverlay, TheProcess, End, More, Reply, Answered, Refused}
use Rattle.plain_machine.specs.State.{State}
use Rattle.plain_machine.specs.Lines.{Kind, Replied, Entered, Left, KilledLast, Dumped, line, shown_live, indented, spaced, bracketed, shown, shown_each, shown_buffer, shown_marker, shown_overlay, shown_process, fault_words, kind_word, handler_word}
use Rattle.process_table.specs.Table.{with_table}
use Rattle.ek_call.specs.Meaning.{view}
use Rattle.ek_call.specs.Faults.{fault_of, fault_number, fault_name}
use Rattle.ek_call.specs.declared.value.Value as declared
use Rattle.ek_call.specs.declared.fault.Fault.{Fault}
use Rattle.ek_call.specs.declared.fault.Fault.TheVariants as fault
use Rattle.trace_print.specs.declared.names.Names.{Names}
use Rattle.trace_print.specs.Kinds.{margin, reply_words}
use Rattle.trace_print.specs.Strings.{led}
use Rattle.trace_print.specs.Dumped.{marker_line, overlay_line, process_line}
use Rattle.buffer_table.specs.Kept.{editor_of}
use Rattle.trace_print.specs.Standing.{state_of, AreNamesIn}
use Rattle.trace_print.proofs.Stretches.{led_spaced}

-- MARGINS
pub margin_more : (depth : ℕ) → margin depth ++ (32 ∷ 32 ∷ []) ≡ margin (depth + 1)
margin_more zero = refl
margin_more (suc depth) =
    let next : suc depth + 1 ≡ suc (depth + 1) = omega arith in
    ap (λ l. 32 ∷ 32 ∷ l) (margin_more depth) ∙ ap margin (sym next)

pub indents : (depth : ℕ) (l : List ℕ) → margin depth ++ (l ++ 10 ∷ []) ≡ indented depth l
indents zero l = refl
indents (suc depth) l = ap (λ m. 32 ∷ 32 ∷ m) (indents depth l)

-- WORDS
fault_line : (f : Fault) → decimal (fault_number (fault_of f)) ++ (codes " " ++ fault_name (fault_of f)) ≡ fault_words (fault_of f)
unfolding digits
fault_line fault.ArgsOutOfRange = refl
fault_line fault.WrongType = refl
fault_line fault.VoidVariable = refl
fault_line fault.NoSuchBuffer = refl
fault_line fault.BufferKilled = refl
fault_line fault.NoFurtherUndo = refl
fault_line fault.UndoOutside = refl
fault_line fault.UndoDisabled = refl
fault_line fault.NoSuchProcess = refl
fault_line fault.ProcessEnded = refl
fault_line fault.BrokenPipe = refl
fault_line fault.SpawnFailed = refl
fault_line fault.Nesting = refl
fault_line fault.ExchangesSpent = refl
fault_line fault.BufferFull = refl
fault_line fault.TooMany = refl
fault_line fault.BufferReadOnly = refl
fault_line fault.TextReadOnly = refl
fault_line fault.CodingFixed = refl

pub fault_said : (f : Fault) (n : ℕ) (name : List ℕ) → n ≡ fault_number (fault_of f) → name ≡ fault_name (fault_of f) → decimal n ++ (codes " " ++ name) ≡ fault_words (fault_of f)
fault_said f n name e k = rw (e, k) (fault_line f)

pub led_some : (f : Value → List ℕ) (vs : List declared.Value) → 0 < length vs → 32 ∷ spaced (map f (map view vs)) ≡ led (map f (map view vs))
led_some f [] h = absurd (omega (arith, h))
led_some f (v ∷ vs) h = sym (led_spaced (f (view v)) (map f (map view vs)))

pub led_none : (f : Value → List ℕ) (vs : List declared.Value) → length vs ≤ 0 → [] ≡ led (map f (map view vs))
led_none f [] h = refl
led_none f (v ∷ vs) h = absurd (omega (arith, h))

spaced_led : (w : List ℕ) (words : List (List ℕ)) → w ++ led words ≡ spaced (w ∷ words)
spaced_led w [] = append-nil w
spaced_led w (v ∷ words) = ap (λ l. w ++ l) (led_spaced v words)

-- THE STATE
process_alike : (s t : State) → s.processes ≡ t.processes → (p : ℕ) → shown_process s p ≡ shown_process t p
process_alike s t k p = ap (λ l. shown_process (with_table l) p) k

-- a value is printed alike in states that have one editor and the same processes
module _ (symbols : List (List ℕ)) (s t : State) (e : s.editor ≡ t.editor) (k : s.processes ≡ t.processes) where
  mutual
    pub shown_alike : (v : Value) → shown symbols s v ≡ shown symbols t v
    shown_alike Nil = refl
    shown_alike T = refl
    shown_alike (Int i) = refl
    shown_alike (Sym n) = refl
    shown_alike (Str text) = refl
    shown_alike (Items vs) = ap (λ l. bracketed (spaced l)) (each_alike vs)
    shown_alike (Dotted vs v) = ap (λ l. bracketed (spaced l ++ (codes " . " ++ shown symbols s v))) (each_alike vs) ∙ ap (λ l. bracketed (spaced (shown_each symbols t vs) ++ (codes " . " ++ l))) (shown_alike v)
    shown_alike (TheBuffer b) = ap (λ x. shown_buffer x b) e
    shown_alike (TheMarker m) = ap (λ x. shown_marker x m) e
    shown_alike (TheOverlay o) = ap (λ x. shown_overlay x o) e
    shown_alike (TheProcess p) = process_alike s t k p

    pub each_alike : (vs : Values) → shown_each symbols s vs ≡ shown_each symbols t vs
    each_alike End = refl
    each_alike (More v vs) = ap (λ l. l ∷ shown_each symbols s vs) (shown_alike v) ∙ ap (λ l. shown symbols t v ∷ l) (each_alike vs)

  pub words_alike : (vs : List Value) → map (shown symbols s) vs ≡ map (shown symbols t) vs
  words_alike [] = refl
  words_alike (v ∷ vs) = ap (λ l. l ∷ map (shown symbols s) vs) (shown_alike v) ∙ ap (λ l. shown symbols t v ∷ l) (words_alike vs)

-- the dump, by the lines of its processes
abbrev edited : List (List ℕ) → Editor → List ℕ → List ℕ
edited symbols e processes =
    flat_map (shown_live symbols e.current) (enumerate_from 0 e.buffers) ++
    (flat_map (marker_line e) (enumerate_from 0 e.marks.markers) ++
    (flat_map (overlay_line symbols e) (enumerate_from 0 e.marks.overlays) ++ processes))

module _ (names : Names) (s : State) (known : AreNamesIn s names) where
  module _ (symbols : List (List ℕ)) where
    pub reply_told : (depth : ℕ) (r : Reply) → margin depth ++ (reply_words symbols (state_of names) r ++ 10 ∷ []) ≡ line symbols s (Replied depth r)
    reply_told depth (Answered v) = indents depth (reply_words symbols (state_of names) (Answered v)) ∙ ap (λ l. indented depth (codes "= " ++ l)) (shown_alike symbols (state_of names) s known.editor known.processes v)
    reply_told depth (Refused f) = indents depth (reply_words symbols (state_of names) (Refused f))

    pub entry_told : (depth : ℕ) (kind : Kind) (handler : Option ℕ) (args : List Value) →
        margin depth ++ ((codes "> " ++ (kind_word kind ++ (32 ∷ (handler_word symbols handler ++ led (map (shown symbols (state_of names)) args))))) ++ 10 ∷ []) ≡ line symbols s (Entered depth kind handler args)
    entry_told depth kind handler args =
        indents depth (codes "> " ++ (kind_word kind ++ (32 ∷ (handler_word symbols handler ++ led (map (shown symbols (state_of names)) args))))) ∙
        ap (λ l. indented depth (codes "> " ++ (kind_word kind ++ (32 ∷ l)))) (spaced_led (handler_word symbols handler) (map (shown symbols (state_of names)) args)) ∙
        ap (λ l. indented depth (codes "> " ++ spaced (kind_word kind ∷ handler_word symbols handler ∷ l))) (words_alike symbols (state_of names) s known.editor known.processes args)

    pub kill_told : (p : ℕ) → codes "kill " ++ (shown_process (state_of names) p ++ 10 ∷ []) ≡ line symbols s (KilledLast p)
    kill_told p = ap (λ l. codes "kill " ++ (l ++ 10 ∷ [])) (process_alike (state_of names) s known.processes p)

  pub dump_told : (symbols : List (List ℕ)) →
      flat_map (shown_live symbols (editor_of names.editor.now).current) (enumerate_from 0 (editor_of names.editor.now).buffers) ++
      (flat_map (marker_line (editor_of names.editor.now)) (enumerate_from 0 (editor_of names.editor.now).marks.markers) ++
      (flat_map (overlay_line symbols (editor_of names.editor.now)) (enumerate_from 0 (editor_of names.editor.now).marks.overlays) ++
      flat_map (process_line (state_of names)) (enumerate_from 0 (state_of names).processes))) ≡ line symbols s Dumped
  dump_told symbols =
      ap (λ (e : Editor). edited symbols e (flat_map (process_line (state_of names)) (enumerate_from 0 (state_of names).processes))) known.editor ∙
      ap (λ l. edited symbols s.editor (flat_map (process_line (with_table l)) (enumerate_from 0 l))) known.processes

pub exit_told : (symbols : List (List ℕ)) (s : State) (depth : ℕ) (handler : Option ℕ) → margin depth ++ ((codes "< " ++ handler_word symbols handler) ++ 10 ∷ []) ≡ line symbols s (Left depth handler)
exit_told symbols s depth handler = indents depth (codes "< " ++ handler_word symbols handler)
