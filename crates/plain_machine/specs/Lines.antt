-- The bytes of lines and of the dump: what a user sees of a run. Values are printed as Lisp prints them.
use Rattle.std.specs.Prelude.{ℕ, zero, suc, ◌+◌, ◌/◌, ◌%◌, ℤ, pos, negsuc, ◌||◌, ◌==◌, nat_lt, List, []}
use Rattle.std.specs.Prelude.{◌∷◌, ◌++◌, map, flat_map, codes, decimal, encode_utf8, slice_get}
use Rattle.std.specs.Prelude.{if◌then◌else◌, Option, Some, None, unwrap_or}
use Rattle.std.specs.List.{enumerate_from}
use Rattle.text_model.specs.Characters.{Ch, Scalar, Raw}
use Rattle.text_model.specs.Properties.{Cell, PropSet, PropVal, stretches, same_set}
use Rattle.text_model.specs.Marks.{Marker}
use Rattle.editor_model.specs.Values.{Value, Values, Nil, T, Int, Sym, Str, Items, Dotted, TheBuffer}
use Rattle.editor_model.specs.Values.{TheMarker, TheOverlay, TheProcess, End, More, Reply, Answered}
use Rattle.editor_model.specs.Values.{Refused, Fault, ArgsOutOfRange, WrongType, VoidVariable}
use Rattle.editor_model.specs.Values.{NoSuchBuffer, BufferKilled, NoFurtherUndo, UndoOutside}
use Rattle.editor_model.specs.Values.{UndoDisabled, NoSuchProcess, ProcessEnded, BrokenPipe}
use Rattle.editor_model.specs.Values.{SpawnFailed, Nesting, ExchangesSpent, BufferFull, TooMany}
use Rattle.editor_model.specs.Values.{CodingFixed, BufferReadOnly, TextReadOnly}
use Rattle.editor_model.specs.Editor.{Editor, Name, Live, live}
use Rattle.editor_model.specs.Arguments.{marker_of}
use Rattle.plain_machine.specs.State.{State, Status, Runs, Exited, Signalled, Lost, process}

abbrev pub octal : ℕ → List ℕ
octal c = 92 ∷ (48 + c / 64) ∷ (48 + c / 8 % 8) ∷ (48 + c % 8) ∷ []

-- a character in a string or a name
abbrev pub shown_code : ℕ → List ℕ
shown_code c =
    if (c == 34) || (c == 92) then 92 ∷ c ∷ []
    else (if c == 10 then codes "\\n"
    else (if c == 9 then codes "\\t"
    else (if nat_lt c 32 || (c == 127) then octal c else encode_utf8 c)))

abbrev pub shown_ch : Ch → List ℕ
shown_ch (Scalar c) = shown_code c
shown_ch (Raw b) = octal b

abbrev pub shown_name : Name → List ℕ
shown_name name = flat_map shown_ch name

abbrev pub shown_int : ℤ → List ℕ
shown_int (pos n) = decimal n
shown_int (negsuc n) = 45 ∷ decimal (n + 1)

abbrev pub symbol_name : List (List ℕ) → ℕ → List ℕ
symbol_name symbols s = unwrap_or (slice_get symbols s) []

abbrev pub spaced : List (List ℕ) → List ℕ
spaced [] = []
spaced (w ∷ []) = w
spaced (w ∷ v ∷ words) = w ++ (32 ∷ spaced (v ∷ words))

abbrev pub bracketed : List ℕ → List ℕ
bracketed inside = 40 ∷ (inside ++ 41 ∷ [])

abbrev pub quoted : List Ch → List ℕ
quoted text = 34 ∷ (flat_map shown_ch text ++ 34 ∷ [])

-- a property value, which holds no object
abbrev pub shown_prop : List (List ℕ) → PropVal → List ℕ
shown_prop symbols PropVal.Truth = codes "t"
shown_prop symbols (PropVal.Number i) = shown_int i
shown_prop symbols (PropVal.Symbol s) = symbol_name symbols s
shown_prop symbols (PropVal.Symbols names) = bracketed (spaced (map (symbol_name symbols) names))
shown_prop symbols (PropVal.Text text) = quoted text

abbrev pub prop_words : List (List ℕ) → PropSet → List (List ℕ)
prop_words symbols [] = []
prop_words symbols (p ∷ set) = symbol_name symbols p.0 ∷ shown_prop symbols p.1 ∷ prop_words symbols set

abbrev pub shown_set : List (List ℕ) → PropSet → List ℕ
shown_set symbols [] = codes "nil"
shown_set symbols (p ∷ set) = bracketed (spaced (prop_words symbols (p ∷ set)))

abbrev pub run_words : List (List ℕ) → List (PropSet × ℕ × ℕ) → List (List ℕ)
run_words symbols [] = []
run_words symbols (r ∷ runs) = elim r.0 [
  | [] ↦ run_words symbols runs
  | p ∷ set ↦ decimal r.1 ∷ decimal r.2 ∷ shown_set symbols (p ∷ set) ∷ run_words symbols runs
]

abbrev pub shown_text : List (List ℕ) → List Cell → List ℕ
shown_text symbols text =
    let string : List ℕ = quoted (map (λ c. c.0) text) in
    elim (run_words symbols (stretches same_set 0 (map (λ c. c.1) text))) [
      | [] ↦ string
      | w ∷ words ↦ 35 ∷ bracketed (spaced (string ∷ w ∷ words))
    ]

abbrev pub shown_buffer : Editor → ℕ → List ℕ
shown_buffer e b = elim (live e b) [
  | Some l ↦ codes "#<buffer " ++ (shown_name l.name ++ codes ">")
  | None ↦ codes "#<killed buffer>"
]

abbrev pub buffer_name : Editor → ℕ → List ℕ
buffer_name e b = elim (live e b) [ Some l ↦ shown_name l.name | None ↦ [] ]

abbrev pub shown_marker : Editor → ℕ → List ℕ
shown_marker e k =
    let m : Marker = marker_of e k in
    codes "#<marker " ++ ((if m.advances then codes "(moves after insertion) " else []) ++
    (elim m.spot [
      | Some s ↦ codes "at " ++ (decimal (s.place + 1) ++
          (codes " in " ++ (buffer_name e s.buffer ++ codes ">")))
      | None ↦ codes "in no buffer>"
    ]))

abbrev pub shown_overlay : Editor → ℕ → List ℕ
shown_overlay e k = elim (slice_get e.marks.overlays k) [
  | None ↦ codes "#<overlay in no buffer>"
  | Some o ↦ (elim o.span [
    | Some s ↦
        codes "#<overlay from " ++ (decimal (s.start + 1) ++ (codes " to " ++ (decimal (s.end + 1) ++
        (codes " in " ++ (buffer_name e s.buffer ++ codes ">")))))
    | None ↦ codes "#<overlay in no buffer>"
  ])
]

abbrev pub shown_process : State → ℕ → List ℕ
shown_process s p =
    elim (process s p) [ Some x ↦ codes "#<process " ++ (shown_name x.name ++ codes ">") | None ↦ [] ]

abbrev mutual
  pub shown : List (List ℕ) → State → Value → List ℕ
  shown symbols s Nil = codes "nil"
  shown symbols s T = codes "t"
  shown symbols s (Int i) = shown_int i
  shown symbols s (Sym n) = symbol_name symbols n
  shown symbols s (Str text) = shown_text symbols text
  shown symbols s (Items vs) = bracketed (spaced (shown_each symbols s vs))
  shown symbols s (Dotted vs v) = bracketed
      (spaced (shown_each symbols s vs) ++ (codes " . " ++ shown symbols s v))
  shown symbols s (TheBuffer b) = shown_buffer s.editor b
  shown symbols s (TheMarker k) = shown_marker s.editor k
  shown symbols s (TheOverlay k) = shown_overlay s.editor k
  shown symbols s (TheProcess p) = shown_process s p

  pub shown_each : List (List ℕ) → State → Values → List (List ℕ)
  shown_each symbols s End = []
  shown_each symbols s (More v vs) = shown symbols s v ∷ shown_each symbols s vs

-- what is entered: a filter or sentinel of a process, a hook function of a buffer
pub data Kind : Type 0 where
  OfFilter : (process : ℕ) → Kind
  OfSentinel : (process : ℕ) → Kind
  OfBefore : (buffer : ℕ) → Kind
  OfAfter : (buffer : ℕ) → Kind

pub data Event : Type 0 where
  Replied : (depth : ℕ) → Reply → Event
  Entered : (depth : ℕ) → Kind → (handler : Option ℕ) → List Value → Event
  Left : (depth : ℕ) → (handler : Option ℕ) → Event
  KilledLast : (process : ℕ) → Event
  Dumped : Event

abbrev pub fault_words : Fault → List ℕ
fault_words ArgsOutOfRange = codes "1 args-out-of-range"
fault_words WrongType = codes "2 wrong-type-argument"
fault_words VoidVariable = codes "3 void-variable"
fault_words NoSuchBuffer = codes "4 no-such-buffer"
fault_words BufferKilled = codes "5 buffer-killed"
fault_words NoFurtherUndo = codes "6 no-further-undo"
fault_words UndoOutside = codes "7 undo-outside"
fault_words UndoDisabled = codes "8 undo-disabled"
fault_words NoSuchProcess = codes "9 no-such-process"
fault_words ProcessEnded = codes "10 process-ended"
fault_words BrokenPipe = codes "11 broken-pipe"
fault_words SpawnFailed = codes "12 spawn-failed"
fault_words Nesting = codes "13 nesting"
fault_words ExchangesSpent = codes "14 exchanges-spent"
fault_words BufferFull = codes "15 buffer-full"
fault_words TooMany = codes "16 too-many"
fault_words BufferReadOnly = codes "17 buffer-read-only"
fault_words TextReadOnly = codes "18 text-read-only"
fault_words CodingFixed = codes "19 coding-fixed"

abbrev pub indented : ℕ → List ℕ → List ℕ
indented zero line = line ++ 10 ∷ []
indented (suc depth) line = 32 ∷ 32 ∷ indented depth line

abbrev pub kind_word : Kind → List ℕ
kind_word (OfFilter p) = codes "filter"
kind_word (OfSentinel p) = codes "sentinel"
kind_word (OfBefore b) = codes "before"
kind_word (OfAfter b) = codes "after"

abbrev pub handler_word : List (List ℕ) → Option ℕ → List ℕ
handler_word symbols (Some s) = symbol_name symbols s
handler_word symbols None = codes "default"

-- the dump
abbrev pub shown_live : List (List ℕ) → (current : ℕ) → ℕ × Option Live → List ℕ
shown_live symbols current numbered = elim numbered.1 [
  | None ↦ []
  | Some l ↦
      codes "buffer " ++ (shown_name l.name ++
      (codes " point " ++ (decimal (l.buffer.point + 1) ++ (codes " min " ++ (decimal (l.buffer.begin + 1) ++
      (codes " max " ++ (decimal (l.buffer.end + 1) ++
      (codes " modified " ++ ((if l.buffer.modified then codes "t" else codes "nil") ++
      ((if l.read_only then codes " read-only" else []) ++
      ((if numbered.0 == current then codes " current\ntext " else codes "\ntext ") ++
      (shown_text symbols l.buffer.text ++ 10 ∷ []))))))))))))
]

abbrev pub shown_status : Status → List ℕ
shown_status Runs = codes "run 0"
shown_status (Exited n) = codes "exit " ++ shown_int n
shown_status Signalled = codes "signal nil"
shown_status Lost = codes "failed nil"

abbrev pub dump : List (List ℕ) → State → List ℕ
dump symbols s =
    flat_map (shown_live symbols s.editor.current) (enumerate_from 0 s.editor.buffers) ++
    (flat_map (λ m. codes "marker " ++ (decimal m.0 ++ (32 ∷ (shown_marker s.editor m.0 ++ 10 ∷ []))))
    (enumerate_from 0 s.editor.marks.markers) ++
    (flat_map (λ o. codes "overlay " ++
    (decimal o.0 ++ (32 ∷ (shown_overlay s.editor o.0 ++ (32 ∷ (shown_set symbols o.1.props ++ 10 ∷ []))))))
    (enumerate_from 0 s.editor.marks.overlays) ++
    flat_map (λ p. codes "process " ++
    (decimal p.0 ++ (32 ∷ (shown_process s p.0 ++ (32 ∷ (shown_status p.1.status ++ 10 ∷ []))))))
    (enumerate_from 0 s.processes)))

-- the line of an event in a state
abbrev pub line : List (List ℕ) → State → Event → List ℕ
line symbols s (Replied depth (Answered v)) = indented depth (codes "= " ++ shown symbols s v)
line symbols s (Replied depth (Refused f)) = indented depth (codes "! " ++ fault_words f)
line symbols s (Entered depth kind handler args) =
    indented depth (codes "> " ++ spaced
    (kind_word kind ∷ handler_word symbols handler ∷ map (shown symbols s) args))
line symbols s (Left depth handler) = indented depth (codes "< " ++ handler_word symbols handler)
line symbols s (KilledLast p) = codes "kill " ++ (shown_process s p ++ 10 ∷ [])
line symbols s Dumped = dump symbols s
