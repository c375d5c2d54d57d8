-- What calls ask of processes is the same of all bytes read and of the held ones.
use Rattle.std.proofs.Common.{◌≡◌, ℕ, ◌+◌, Bool, true, false, ◌&&◌, List, [], ◌∷◌, ◌++◌, map, length, filter, not, refl, ap, ◌∙◌, slice_get}
use Rattle.std.specs.Prelude.{Option, Some, None, option_map, drop, nat_lt, nat_le, is_some, unwrap_or, if◌then◌else◌}
use Rattle.std.specs.List.{enumerate_from}
use Rattle.std.proofs.lemmas.Option.{slice_get-map}
use Rattle.std.proofs.lemmas.List.{length-map}
use Rattle.editor_model.specs.Values.{Value, Nil, T, Int, Sym, Str, Items, Dotted, TheBuffer, TheMarker, TheOverlay, TheProcess, is_nil, WrongType, NoSuchProcess, ProcessEnded, TooMany, ArgsOutOfRange, Prim, CurrentBuffer, SetBuffer, GetBuffer, GetBufferCreate, GenerateNewBuffer, RenameBuffer, KillBuffer, BufferLiveP, BufferName, BufferList, BufferModifiedP, SetBufferModifiedP, PointAt, PointMin, PointMax, BufferSize, BufferNarrowedP, GotoChar, CharAfter, BufferString, BufferSubstring, BufferSubstringNoProperties, Insert, InsertAndInherit, InsertBeforeMarkers, InsertBeforeMarkersAndInherit, InsertBufferSubstring, DeleteRegion, DeleteAndExtractRegion, EraseBuffer, NarrowToRegion, Widen, MakeMarker, PointMarker, CopyMarker, SetMarker, MarkerPosition, MarkerBuffer, MarkerInsertionType, SetMarkerInsertionType, GetTextProperty, TextPropertiesAt, PutTextProperty, AddTextProperties, RemoveTextProperties, SetTextProperties, NextPropertyChange, NextSinglePropertyChange, PreviousPropertyChange, PreviousSinglePropertyChange, TextPropertyAny, TextPropertyNotAll, MakeOverlay, OverlayStart, OverlayEnd, OverlayBuffer, OverlayPut, OverlayGet, OverlayProperties, MoveOverlay, DeleteOverlay, OverlaysAt, OverlaysIn, GetCharProperty, NextOverlayChange, PreviousOverlayChange, AddHook, RemoveHook, UndoBoundary, UndoStart, UndoMore, BufferUndoList, BufferDisableUndo, BufferEnableUndo, StartProcess, ProcessList, GetProcess, ProcessName, ProcessStatus, ProcessBuffer, ProcessMark, ProcessLiveP, ProcessExitStatus, ProcessFilter, ProcessSentinel, SetProcessFilter, SetProcessSentinel, SetProcessBuffer, ProcessSendString, ProcessSendEof, DeleteProcess, AcceptProcessOutput, SetProcessCodingSystem, ProcessCodingSystem, CodingFixed, BufferReadOnlyP, SetBufferReadOnly}
use Rattle.editor_model.specs.Editor.{Name, same_name}
use Rattle.editor_model.specs.Limits.{most_buffers, most_markers}
use Rattle.editor_model.specs.Answers.{Test, refuse}
use Rattle.editor_model.specs.Arguments.{arg, string_of, name_of, buffer_of, must_be_string, must_be_name, must_be_buffer_or_nil, buffer_there, must_be_fewer, must_be_short}
use Rattle.plain_machine.specs.State.{State, Program, Process, process}
use Rattle.plain_machine.specs.Arguments.{find_process, process_of, is_process_there, is_running, is_closed, child_of, running_in, runs, stands_in, encoded, is_empty, is_new_name, is_filter_place, is_handler_place, is_process_buffer, is_fed, is_coding}
use Rattle.plain_machine.specs.Calls.{waiting}
use Rattle.plain_machine.specs.Refusals.{process_tests, must_be_handler, must_be_process, must_be_process_or_nil, must_be_word, process_there, must_live_or_be_named, must_ask, must_nest, only_where, must_be_replaceable, is_rounds, rounds_of, most_rounds, most_processes, most_sent}
use Rattle.process_table.specs.Table.{kept, kept_bytes}
use Rattle.kernel_steps.specs.Outside.{deepest}
use Rattle.kernel_steps.specs.Worlds.{kept_state, Stands}

-- NAMES
abbrev found_if : Bool → (p : ℕ) → Option ℕ → Option ℕ
found_if b p more = elim b [ true ↦ Some p | false ↦ more ]

find_by : (b : Bool) (p : ℕ) (found also : Option ℕ) → found ≡ also → found_if b p found ≡ found_if b p also
find_by true p found also e = refl
find_by false p found also e = e

pub find_kept : (p : ℕ) (all : List Process) (name : Name) → find_process p (map kept all) name ≡ find_process p all name
find_kept p [] name = refl
find_kept p (x ∷ all) name = find_by (x.listed && same_name x.name name) p _ _ (find_kept (p + 1) all name)

pub process_of_kept : (s : State) (v : Value) → process_of (kept_state s) v ≡ process_of s v
process_of_kept s Nil = refl
process_of_kept s T = refl
process_of_kept s (Int i) = refl
process_of_kept s (Sym n) = refl
process_of_kept s (Str t) = ap (λ o. unwrap_or o 0) (find_kept 0 s.processes (name_of (Str t)))
process_of_kept s (Items vs) = refl
process_of_kept s (Dotted vs v) = refl
process_of_kept s (TheBuffer b) = refl
process_of_kept s (TheMarker k) = refl
process_of_kept s (TheOverlay k) = refl
process_of_kept s (TheProcess p) = refl

there_kept : (s : State) (v : Value) → is_process_there (kept_state s) v ≡ is_process_there s v
there_kept s Nil = refl
there_kept s T = refl
there_kept s (Int i) = refl
there_kept s (Sym n) = refl
there_kept s (Str t) = ap (λ o. is_some o) (find_kept 0 s.processes (name_of (Str t)))
there_kept s (Items vs) = refl
there_kept s (Dotted vs v) = refl
there_kept s (TheBuffer b) = refl
there_kept s (TheMarker k) = refl
there_kept s (TheOverlay k) = refl
there_kept s (TheProcess p) = refl

-- ONE PROCESS
-- what is told of one process without its bytes
pub one_kept : {X : Type 0} (s : State) (p : ℕ) (tell : Option Process → X) → ((x : Process) → tell (Some (kept x)) ≡ tell (Some x)) → tell (process (kept_state s) p) ≡ tell (process s p)
one_kept s p tell same = ap tell (slice_get-map kept s.processes p) ∙ by (slice_get s.processes p)
  where
    by : (o : Option Process) → tell (option_map kept o) ≡ tell o
    by None = refl
    by (Some x) = same x

pub running_kept_at : (s : State) (p : ℕ) → is_running (kept_state s) p ≡ is_running s p
running_kept_at s p = one_kept s p (λ o. elim o [ None ↦ false | Some x ↦ runs x.status ]) (λ x. refl)

pub closed_kept : (s : State) (p : ℕ) → is_closed (kept_state s) p ≡ is_closed s p
closed_kept s p = one_kept s p (λ o. elim o [ Some x ↦ x.closed | None ↦ true ]) (λ x. refl)

pub child_kept : (s : State) (p : ℕ) → child_of (kept_state s) p ≡ child_of s p
child_kept s p = one_kept s p (λ o. elim o [ Some x ↦ x.child | None ↦ 0 ]) (λ x. refl)

some_kept : {A B : Type 0} (f : A → B) (o : Option A) → is_some (option_map f o) ≡ is_some o
some_kept f None = refl
some_kept f (Some x) = refl

pub fed_kept : (s : State) (p : ℕ) → is_fed (kept_state s) p ≡ is_fed s p
fed_kept s p = one_kept s p (λ o. elim o [ None ↦ false | Some x ↦ is_some x.bytes ]) (λ x. some_kept (kept_bytes x.drained x.coding) x.bytes)

-- PROCESSES OF A BUFFER
abbrev among : (b n : ℕ) → List Process → List ℕ
among b n all = map (λ x. x.0) (filter (λ x. runs x.1.status && stands_in b x.1) (enumerate_from n all))

among_if : (chosen : Bool) (n : ℕ) (x y : Process) (more also : List (ℕ × Process)) → map (λ x. x.0) more ≡ map (λ x. x.0) also →
    map (λ x. x.0) (if chosen then (n, x) ∷ more else more) ≡ map (λ x. x.0) (if chosen then (n, y) ∷ also else also)
among_if true n x y more also e = ap (λ l. n ∷ l) e
among_if false n x y more also e = e

among_kept : (b n : ℕ) (all : List Process) → among b n (map kept all) ≡ among b n all
among_kept b n [] = refl
among_kept b n (x ∷ all) = among_if (runs x.status && stands_in b x) n (kept x) x _ _ (among_kept b (n + 1) all)

pub running_in_kept : (s : State) (b : ℕ) → running_in (kept_state s) b ≡ running_in s b
running_in_kept s b = among_kept b 0 s.processes

-- WAITS
pub waiting_kept : (s : State) (p n flag : Value) → waiting (kept_state s) p n flag ≡ waiting s p n flag
waiting_kept s Nil n flag = refl
waiting_kept s T n flag = refl
waiting_kept s (Int i) n flag = refl
waiting_kept s (Sym m) n flag = refl
waiting_kept s (Str t) n flag = ap (λ (q : ℕ). record (waiting s T n flag) { target = Some q; just = not (is_nil flag) }) (process_of_kept s (Str t))
waiting_kept s (Items vs) n flag = refl
waiting_kept s (Dotted vs v) n flag = refl
waiting_kept s (TheBuffer b) n flag = refl
waiting_kept s (TheMarker k) n flag = refl
waiting_kept s (TheOverlay k) n flag = refl
waiting_kept s (TheProcess p) n flag = refl

-- REFUSALS
module _ (s : State) (args : List Value) where
  there : process_there (kept_state s) (arg args 0) ≡ process_there s (arg args 0)
  there = ap (refuse NoSuchProcess) (there_kept s (arg args 0))

  runs_same : is_running (kept_state s) (process_of (kept_state s) (arg args 0)) ≡ is_running s (process_of s (arg args 0))
  runs_same = ap (is_running (kept_state s)) (process_of_kept s (arg args 0)) ∙ running_kept_at s (process_of s (arg args 0))

  closed_same : is_closed (kept_state s) (process_of (kept_state s) (arg args 0)) ≡ is_closed s (process_of s (arg args 0))
  closed_same = ap (is_closed (kept_state s)) (process_of_kept s (arg args 0)) ∙ closed_kept s (process_of s (arg args 0))

  one_test : must_be_process (arg args 0) ∷ process_there (kept_state s) (arg args 0) ∷ [] ≡ must_be_process (arg args 0) ∷ process_there s (arg args 0) ∷ []
  one_test = ap (λ t. must_be_process (arg args 0) ∷ t ∷ []) there

  abbrev with_running : List ℕ → List Test
  with_running ps =
      let b : ℕ = buffer_of s.editor (arg args 0) in
      must_be_buffer_or_nil (arg args 0) ∷ buffer_there s.editor (arg args 0) ∷ must_be_replaceable s.editor b ∷ only_where (nat_lt 0 (length ps)) (must_nest deepest s) ∷ []

  kill_tests : with_running (running_in (kept_state s) (buffer_of s.editor (arg args 0))) ≡ with_running (running_in s (buffer_of s.editor (arg args 0)))
  kill_tests = ap with_running (running_in_kept s (buffer_of s.editor (arg args 0)))

  abbrev with_count : ℕ → List Test
  with_count n =
      let new : Bool = is_new_name s.editor (arg args 1) in
      must_be_name (arg args 0) ∷ refuse WrongType (is_process_buffer (arg args 1)) ∷ must_be_name (arg args 2) ∷ must_be_word (arg args 2) ∷ map must_be_word (drop 3 args) ++
      must_live_or_be_named s.editor (arg args 1) ∷
      must_be_short (arg args 0) ∷ only_where new (must_be_short (arg args 1)) ∷
      must_be_fewer most_processes n ∷ must_be_fewer most_markers (length s.editor.marks.markers) ∷ only_where new (must_be_fewer most_buffers (length s.editor.buffers)) ∷
      must_ask s ∷ []

  start_tests : with_count (length (map kept s.processes)) ≡ with_count (length s.processes)
  start_tests = ap with_count (length-map s.processes kept)

  abbrev sending : (here : Test) → (running closed : Bool) → List Test
  sending here running closed =
      let sends : Bool = not (is_empty (arg args 1)) in
      must_be_process (arg args 0) ∷ must_be_string (arg args 1) ∷ here ∷ only_where sends (refuse ProcessEnded (running && not closed)) ∷
      only_where sends (refuse TooMany (nat_le (s.sent + length (encoded (string_of (arg args 1)))) most_sent)) ∷ only_where sends (must_ask s) ∷ []

  abbrev there_now : State → Test
  there_now t = process_there t (arg args 0)

  abbrev running_now : State → Bool
  running_now t = is_running t (process_of t (arg args 0))

  abbrev closed_now : State → Bool
  closed_now t = is_closed t (process_of t (arg args 0))

  string_tests : sending (there_now (kept_state s)) (running_now (kept_state s)) (closed_now (kept_state s)) ≡ sending (there_now s) (running_now s) (closed_now s)
  string_tests =
      ap (λ t. sending t (running_now (kept_state s)) (closed_now (kept_state s))) there ∙
      ap (λ b. sending (there_now s) b (closed_now (kept_state s))) runs_same ∙
      ap (λ b. sending (there_now s) (running_now s) b) closed_same

  abbrev closing : (here : Test) → (running closed : Bool) → List Test
  closing here running closed = must_be_process (arg args 0) ∷ here ∷ refuse ProcessEnded running ∷ only_where (not closed) (must_ask s) ∷ []

  eof_tests : closing (there_now (kept_state s)) (running_now (kept_state s)) (closed_now (kept_state s)) ≡ closing (there_now s) (running_now s) (closed_now s)
  eof_tests =
      ap (λ t. closing t (running_now (kept_state s)) (closed_now (kept_state s))) there ∙
      ap (λ b. closing (there_now s) b (closed_now (kept_state s))) runs_same ∙
      ap (λ b. closing (there_now s) (running_now s) b) closed_same

  abbrev deleted : (here : Test) → (running : Bool) → List Test
  deleted here running = must_be_process (arg args 0) ∷ here ∷ only_where running (must_nest deepest s) ∷ []

  delete_tests : deleted (there_now (kept_state s)) (running_now (kept_state s)) ≡ deleted (there_now s) (running_now s)
  delete_tests = ap (λ t. deleted t (running_now (kept_state s))) there ∙ ap (λ b. deleted (there_now s) b) runs_same

  abbrev waited : (here : Test) → List Test
  waited here =
      must_be_process_or_nil (arg args 0) ∷ refuse WrongType (is_rounds (arg args 1)) ∷ here ∷
      refuse ArgsOutOfRange (nat_le 1 (rounds_of (arg args 1)) && nat_le (rounds_of (arg args 1)) most_rounds) ∷ must_nest deepest s ∷ []

  wait_tests : waited (there_now (kept_state s)) ≡ waited (there_now s)
  wait_tests = ap waited there

  abbrev buffered : (here : Test) → List Test
  buffered here = must_be_process (arg args 0) ∷ must_be_buffer_or_nil (arg args 1) ∷ here ∷ buffer_there s.editor (arg args 1) ∷ []

  buffer_tests : buffered (there_now (kept_state s)) ≡ buffered (there_now s)
  buffer_tests = ap buffered there

  fed_same : is_fed (kept_state s) (process_of (kept_state s) (arg args 0)) ≡ is_fed s (process_of s (arg args 0))
  fed_same = ap (is_fed (kept_state s)) (process_of_kept s (arg args 0)) ∙ fed_kept s (process_of s (arg args 0))

  abbrev coded : (here : Test) → (fed : Bool) → List Test
  coded here fed = must_be_process (arg args 0) ∷ refuse WrongType (is_coding (arg args 1)) ∷ here ∷ refuse CodingFixed (not fed) ∷ []

  coding_tests : coded (there_now (kept_state s)) (is_fed (kept_state s) (process_of (kept_state s) (arg args 0))) ≡ coded (there_now s) (is_fed s (process_of s (arg args 0)))
  coding_tests = ap (λ t. coded t (is_fed (kept_state s) (process_of (kept_state s) (arg args 0)))) there ∙ ap (coded (there_now s)) fed_same

  abbrev handled : (first right : Test) → (here : Test) → List Test
  handled first right here = first ∷ must_be_process (arg args 0) ∷ right ∷ here ∷ []

  handler_tests : (first right : Test) → handled first right (there_now (kept_state s)) ≡ handled first right (there_now s)
  handler_tests first right = ap (handled first right) there

pub tests_of_kept : (program : Program) (s : State) (prim : Prim) (args : List Value) → process_tests program deepest (kept_state s) prim args ≡ process_tests program deepest s prim args
tests_of_kept program s CurrentBuffer args = one_test s args
tests_of_kept program s SetBuffer args = one_test s args
tests_of_kept program s GetBuffer args = one_test s args
tests_of_kept program s GetBufferCreate args = one_test s args
tests_of_kept program s GenerateNewBuffer args = one_test s args
tests_of_kept program s RenameBuffer args = one_test s args
tests_of_kept program s KillBuffer args = kill_tests s args
tests_of_kept program s BufferLiveP args = one_test s args
tests_of_kept program s BufferName args = one_test s args
tests_of_kept program s BufferList args = one_test s args
tests_of_kept program s BufferModifiedP args = one_test s args
tests_of_kept program s SetBufferModifiedP args = one_test s args
tests_of_kept program s BufferReadOnlyP args = one_test s args
tests_of_kept program s SetBufferReadOnly args = one_test s args
tests_of_kept program s PointAt args = one_test s args
tests_of_kept program s PointMin args = one_test s args
tests_of_kept program s PointMax args = one_test s args
tests_of_kept program s BufferSize args = one_test s args
tests_of_kept program s BufferNarrowedP args = one_test s args
tests_of_kept program s GotoChar args = one_test s args
tests_of_kept program s CharAfter args = one_test s args
tests_of_kept program s BufferString args = one_test s args
tests_of_kept program s BufferSubstring args = one_test s args
tests_of_kept program s BufferSubstringNoProperties args = one_test s args
tests_of_kept program s Insert args = one_test s args
tests_of_kept program s InsertAndInherit args = one_test s args
tests_of_kept program s InsertBeforeMarkers args = one_test s args
tests_of_kept program s InsertBeforeMarkersAndInherit args = one_test s args
tests_of_kept program s InsertBufferSubstring args = one_test s args
tests_of_kept program s DeleteRegion args = one_test s args
tests_of_kept program s DeleteAndExtractRegion args = one_test s args
tests_of_kept program s EraseBuffer args = one_test s args
tests_of_kept program s NarrowToRegion args = one_test s args
tests_of_kept program s Widen args = one_test s args
tests_of_kept program s MakeMarker args = one_test s args
tests_of_kept program s PointMarker args = one_test s args
tests_of_kept program s CopyMarker args = one_test s args
tests_of_kept program s SetMarker args = one_test s args
tests_of_kept program s MarkerPosition args = one_test s args
tests_of_kept program s MarkerBuffer args = one_test s args
tests_of_kept program s MarkerInsertionType args = one_test s args
tests_of_kept program s SetMarkerInsertionType args = one_test s args
tests_of_kept program s GetTextProperty args = one_test s args
tests_of_kept program s TextPropertiesAt args = one_test s args
tests_of_kept program s PutTextProperty args = one_test s args
tests_of_kept program s AddTextProperties args = one_test s args
tests_of_kept program s RemoveTextProperties args = one_test s args
tests_of_kept program s SetTextProperties args = one_test s args
tests_of_kept program s NextPropertyChange args = one_test s args
tests_of_kept program s NextSinglePropertyChange args = one_test s args
tests_of_kept program s PreviousPropertyChange args = one_test s args
tests_of_kept program s PreviousSinglePropertyChange args = one_test s args
tests_of_kept program s TextPropertyAny args = one_test s args
tests_of_kept program s TextPropertyNotAll args = one_test s args
tests_of_kept program s MakeOverlay args = one_test s args
tests_of_kept program s OverlayStart args = one_test s args
tests_of_kept program s OverlayEnd args = one_test s args
tests_of_kept program s OverlayBuffer args = one_test s args
tests_of_kept program s OverlayPut args = one_test s args
tests_of_kept program s OverlayGet args = one_test s args
tests_of_kept program s OverlayProperties args = one_test s args
tests_of_kept program s MoveOverlay args = one_test s args
tests_of_kept program s DeleteOverlay args = one_test s args
tests_of_kept program s OverlaysAt args = one_test s args
tests_of_kept program s OverlaysIn args = one_test s args
tests_of_kept program s GetCharProperty args = one_test s args
tests_of_kept program s NextOverlayChange args = one_test s args
tests_of_kept program s PreviousOverlayChange args = one_test s args
tests_of_kept program s AddHook args = refl
tests_of_kept program s RemoveHook args = refl
tests_of_kept program s UndoBoundary args = one_test s args
tests_of_kept program s UndoStart args = one_test s args
tests_of_kept program s UndoMore args = one_test s args
tests_of_kept program s BufferUndoList args = one_test s args
tests_of_kept program s BufferDisableUndo args = one_test s args
tests_of_kept program s BufferEnableUndo args = one_test s args
tests_of_kept program s StartProcess args = start_tests s args
tests_of_kept program s ProcessList args = refl
tests_of_kept program s GetProcess args = refl
tests_of_kept program s ProcessName args = one_test s args
tests_of_kept program s ProcessStatus args = one_test s args
tests_of_kept program s ProcessBuffer args = one_test s args
tests_of_kept program s ProcessMark args = one_test s args
tests_of_kept program s ProcessLiveP args = one_test s args
tests_of_kept program s ProcessExitStatus args = one_test s args
tests_of_kept program s ProcessFilter args = one_test s args
tests_of_kept program s ProcessSentinel args = one_test s args
tests_of_kept program s SetProcessFilter args = handler_tests s args (must_be_handler program (arg args 1)) (refuse WrongType (is_filter_place (arg args 1)))
tests_of_kept program s SetProcessSentinel args = handler_tests s args (must_be_handler program (arg args 1)) (refuse WrongType (is_handler_place (arg args 1)))
tests_of_kept program s SetProcessBuffer args = buffer_tests s args
tests_of_kept program s ProcessSendString args = string_tests s args
tests_of_kept program s ProcessSendEof args = eof_tests s args
tests_of_kept program s DeleteProcess args = delete_tests s args
tests_of_kept program s AcceptProcessOutput args = wait_tests s args
tests_of_kept program s SetProcessCodingSystem args = coding_tests s args
tests_of_kept program s ProcessCodingSystem args = one_test s args

-- a call is refused alike
pub tests_alike : (program : Program) (known s : State) (prim : Prim) (args : List Value) → Stands known s → process_tests program deepest known prim args ≡ process_tests program deepest s prim args
tests_alike program known s prim args stands = ap (λ (t : State). process_tests program deepest t prim args) stands ∙ tests_of_kept program s prim args

pub process_alike : (known s : State) (v : Value) → Stands known s → process_of known v ≡ process_of s v
process_alike known s v stands = ap (λ (t : State). process_of t v) stands ∙ process_of_kept s v

pub running_in_alike : (known s : State) (b : ℕ) → Stands known s → running_in known b ≡ running_in s b
running_in_alike known s b stands = ap (λ (t : State). running_in t b) stands ∙ running_in_kept s b

pub waiting_alike : (known s : State) (p n flag : Value) → Stands known s → waiting known p n flag ≡ waiting s p n flag
waiting_alike known s p n flag stands = ap (λ (t : State). waiting t p n flag) stands ∙ waiting_kept s p n flag
