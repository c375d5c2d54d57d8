-- Calls on hooks and processes that enter nothing: the machine's steps, and what the program keeps of them.
use Rattle.std.proofs.Common.{◌≡◌, ℕ, ◌+◌, Bool, true, false, List, [], ◌∷◌, map, length, filter, refl, ap, sym, ◌∙◌, subst, arith}
use Rattle.std.specs.Prelude.{if◌then◌else◌}
use Rattle.std.specs.List.{enumerate_from}
use Rattle.editor_model.specs.Values.{Value, Nil, T, Int, Sym, Str, Items, Dotted, TheBuffer, TheMarker, TheOverlay, TheProcess, Answered, list, Prim, CurrentBuffer, SetBuffer, GetBuffer, GetBufferCreate, GenerateNewBuffer, RenameBuffer, KillBuffer, BufferLiveP, BufferName, BufferList, BufferModifiedP, SetBufferModifiedP, PointAt, PointMin, PointMax, BufferSize, BufferNarrowedP, GotoChar, CharAfter, BufferString, BufferSubstring, BufferSubstringNoProperties, Insert, InsertAndInherit, InsertBeforeMarkers, InsertBeforeMarkersAndInherit, InsertBufferSubstring, DeleteRegion, DeleteAndExtractRegion, EraseBuffer, NarrowToRegion, Widen, MakeMarker, PointMarker, CopyMarker, SetMarker, MarkerPosition, MarkerBuffer, MarkerInsertionType, SetMarkerInsertionType, GetTextProperty, TextPropertiesAt, PutTextProperty, AddTextProperties, RemoveTextProperties, SetTextProperties, NextPropertyChange, NextSinglePropertyChange, PreviousPropertyChange, PreviousSinglePropertyChange, TextPropertyAny, TextPropertyNotAll, MakeOverlay, OverlayStart, OverlayEnd, OverlayBuffer, OverlayPut, OverlayGet, OverlayProperties, MoveOverlay, DeleteOverlay, OverlaysAt, OverlaysIn, GetCharProperty, NextOverlayChange, PreviousOverlayChange, AddHook, RemoveHook, UndoBoundary, UndoStart, UndoMore, BufferUndoList, BufferDisableUndo, BufferEnableUndo, StartProcess, ProcessList, GetProcess, ProcessName, ProcessStatus, ProcessBuffer, ProcessMark, ProcessLiveP, ProcessExitStatus, ProcessFilter, ProcessSentinel, SetProcessFilter, SetProcessSentinel, SetProcessBuffer, ProcessSendString, ProcessSendEof, DeleteProcess, AcceptProcessOutput, SetProcessCodingSystem, ProcessCodingSystem, BufferReadOnlyP, SetBufferReadOnly}
use Rattle.editor_model.specs.Prims.{ConcernsHandlers, manner_of}
use Rattle.editor_model.specs.Arguments.{arg, name_of}
use Rattle.plain_machine.specs.State.{State, Program, Process, process, change_process}
use Rattle.plain_machine.specs.Arguments.{filter_of, sentinel_of, process_of, coding_of}
use Rattle.plain_machine.specs.Calls.{on, process_effect, with_filter, with_sentinel, of_buffer, process_buffer, told_of_one, told_of, get_process, process_value, with_coding}
use Rattle.plain_machine.specs.Items.{Item, MakeCall, GiveAnswer, Target}
use Rattle.plain_machine.specs.Run.{stays, goes}
use Rattle.process_table.specs.Table.{kept}
use Rattle.ek_call.specs.Primitives.{prim_of}
use Rattle.ek_call.specs.declared.primitive.Primitive.{Primitive}
use Rattle.ek_call.specs.declared.primitive.Primitive.TheVariants as written
use Rattle.kernel_steps.specs.Processes.{IsSilent, told_by, set_by}
use Rattle.kernel_steps.specs.Waits.{Passes}
use Rattle.kernel_steps.specs.Work.{at_item, reply_item}
use Rattle.kernel_steps.specs.Worlds.{World, Hosted, Keeps, kept_state}
use Rattle.kernel_steps.proofs.Hosting.{IsMild, filter_mild, sentinel_mild, buffer_mild, changed_kept, changed_hosted, changed_length, changed_depth, changed_inhibited, changed_asked, coding_mild}
use Rattle.kernel_steps.proofs.KeptProcesses.{find_kept, process_of_kept, one_kept}
use Rattle.kernel_steps.proofs.Waiting.{effect_step}
use Rattle.kernel_steps.proofs.Works.{Went, went_silently}

-- THE MACHINE'S STEP
pub silent_step : (program : Program) (s : State) (target : Target) (rest : List Item) (prim : Prim) (args : List Value) → IsSilent prim → process_effect s target rest prim args ≡ on (set_by prim args s) (GiveAnswer (told_by s prim args) target ∷ rest)
silent_step program s target rest CurrentBuffer args h = refl
silent_step program s target rest SetBuffer args h = refl
silent_step program s target rest GetBuffer args h = refl
silent_step program s target rest GetBufferCreate args h = refl
silent_step program s target rest GenerateNewBuffer args h = refl
silent_step program s target rest RenameBuffer args h = refl
silent_step program s target rest KillBuffer args h = absurd h
silent_step program s target rest BufferLiveP args h = refl
silent_step program s target rest BufferName args h = refl
silent_step program s target rest BufferList args h = refl
silent_step program s target rest BufferModifiedP args h = refl
silent_step program s target rest SetBufferModifiedP args h = refl
silent_step program s target rest BufferReadOnlyP args h = refl
silent_step program s target rest SetBufferReadOnly args h = refl
silent_step program s target rest PointAt args h = refl
silent_step program s target rest PointMin args h = refl
silent_step program s target rest PointMax args h = refl
silent_step program s target rest BufferSize args h = refl
silent_step program s target rest BufferNarrowedP args h = refl
silent_step program s target rest GotoChar args h = refl
silent_step program s target rest CharAfter args h = refl
silent_step program s target rest BufferString args h = refl
silent_step program s target rest BufferSubstring args h = refl
silent_step program s target rest BufferSubstringNoProperties args h = refl
silent_step program s target rest Insert args h = refl
silent_step program s target rest InsertAndInherit args h = refl
silent_step program s target rest InsertBeforeMarkers args h = refl
silent_step program s target rest InsertBeforeMarkersAndInherit args h = refl
silent_step program s target rest InsertBufferSubstring args h = refl
silent_step program s target rest DeleteRegion args h = refl
silent_step program s target rest DeleteAndExtractRegion args h = refl
silent_step program s target rest EraseBuffer args h = refl
silent_step program s target rest NarrowToRegion args h = refl
silent_step program s target rest Widen args h = refl
silent_step program s target rest MakeMarker args h = refl
silent_step program s target rest PointMarker args h = refl
silent_step program s target rest CopyMarker args h = refl
silent_step program s target rest SetMarker args h = refl
silent_step program s target rest MarkerPosition args h = refl
silent_step program s target rest MarkerBuffer args h = refl
silent_step program s target rest MarkerInsertionType args h = refl
silent_step program s target rest SetMarkerInsertionType args h = refl
silent_step program s target rest GetTextProperty args h = refl
silent_step program s target rest TextPropertiesAt args h = refl
silent_step program s target rest PutTextProperty args h = refl
silent_step program s target rest AddTextProperties args h = refl
silent_step program s target rest RemoveTextProperties args h = refl
silent_step program s target rest SetTextProperties args h = refl
silent_step program s target rest NextPropertyChange args h = refl
silent_step program s target rest NextSinglePropertyChange args h = refl
silent_step program s target rest PreviousPropertyChange args h = refl
silent_step program s target rest PreviousSinglePropertyChange args h = refl
silent_step program s target rest TextPropertyAny args h = refl
silent_step program s target rest TextPropertyNotAll args h = refl
silent_step program s target rest MakeOverlay args h = refl
silent_step program s target rest OverlayStart args h = refl
silent_step program s target rest OverlayEnd args h = refl
silent_step program s target rest OverlayBuffer args h = refl
silent_step program s target rest OverlayPut args h = refl
silent_step program s target rest OverlayGet args h = refl
silent_step program s target rest OverlayProperties args h = refl
silent_step program s target rest MoveOverlay args h = refl
silent_step program s target rest DeleteOverlay args h = refl
silent_step program s target rest OverlaysAt args h = refl
silent_step program s target rest OverlaysIn args h = refl
silent_step program s target rest GetCharProperty args h = refl
silent_step program s target rest NextOverlayChange args h = refl
silent_step program s target rest PreviousOverlayChange args h = refl
silent_step program s target rest AddHook args h = refl
silent_step program s target rest RemoveHook args h = refl
silent_step program s target rest UndoBoundary args h = refl
silent_step program s target rest UndoStart args h = refl
silent_step program s target rest UndoMore args h = refl
silent_step program s target rest BufferUndoList args h = refl
silent_step program s target rest BufferDisableUndo args h = refl
silent_step program s target rest BufferEnableUndo args h = refl
silent_step program s target rest StartProcess args h = absurd h
silent_step program s target rest ProcessList args h = refl
silent_step program s target rest GetProcess args h = refl
silent_step program s target rest ProcessName args h = refl
silent_step program s target rest ProcessStatus args h = refl
silent_step program s target rest ProcessBuffer args h = refl
silent_step program s target rest ProcessMark args h = refl
silent_step program s target rest ProcessLiveP args h = refl
silent_step program s target rest ProcessExitStatus args h = refl
silent_step program s target rest ProcessFilter args h = refl
silent_step program s target rest ProcessSentinel args h = refl
silent_step program s target rest SetProcessFilter args h = refl
silent_step program s target rest SetProcessSentinel args h = refl
silent_step program s target rest SetProcessBuffer args h = refl
silent_step program s target rest ProcessSendString args h = absurd h
silent_step program s target rest ProcessSendEof args h = absurd h
silent_step program s target rest DeleteProcess args h = absurd h
silent_step program s target rest AcceptProcessOutput args h = absurd h
silent_step program s target rest SetProcessCodingSystem args h = refl
silent_step program s target rest ProcessCodingSystem args h = refl

-- WHAT THE PROGRAM KEEPS
set_kept : (s : State) (v : Value) (change : Process → Process) → IsMild change → change_process (process_of (kept_state s) v) change (kept_state s) ≡ kept_state (change_process (process_of s v) change s)
set_kept s v change mild = ap (λ p. change_process p change (kept_state s)) (process_of_kept s v) ∙ changed_kept change mild (process_of s v) s

pub set_by_kept : (prim : Prim) (args : List Value) (s : State) → set_by prim args (kept_state s) ≡ kept_state (set_by prim args s)
set_by_kept CurrentBuffer args s = refl
set_by_kept SetBuffer args s = refl
set_by_kept GetBuffer args s = refl
set_by_kept GetBufferCreate args s = refl
set_by_kept GenerateNewBuffer args s = refl
set_by_kept RenameBuffer args s = refl
set_by_kept KillBuffer args s = refl
set_by_kept BufferLiveP args s = refl
set_by_kept BufferName args s = refl
set_by_kept BufferList args s = refl
set_by_kept BufferModifiedP args s = refl
set_by_kept SetBufferModifiedP args s = refl
set_by_kept BufferReadOnlyP args s = refl
set_by_kept SetBufferReadOnly args s = refl
set_by_kept PointAt args s = refl
set_by_kept PointMin args s = refl
set_by_kept PointMax args s = refl
set_by_kept BufferSize args s = refl
set_by_kept BufferNarrowedP args s = refl
set_by_kept GotoChar args s = refl
set_by_kept CharAfter args s = refl
set_by_kept BufferString args s = refl
set_by_kept BufferSubstring args s = refl
set_by_kept BufferSubstringNoProperties args s = refl
set_by_kept Insert args s = refl
set_by_kept InsertAndInherit args s = refl
set_by_kept InsertBeforeMarkers args s = refl
set_by_kept InsertBeforeMarkersAndInherit args s = refl
set_by_kept InsertBufferSubstring args s = refl
set_by_kept DeleteRegion args s = refl
set_by_kept DeleteAndExtractRegion args s = refl
set_by_kept EraseBuffer args s = refl
set_by_kept NarrowToRegion args s = refl
set_by_kept Widen args s = refl
set_by_kept MakeMarker args s = refl
set_by_kept PointMarker args s = refl
set_by_kept CopyMarker args s = refl
set_by_kept SetMarker args s = refl
set_by_kept MarkerPosition args s = refl
set_by_kept MarkerBuffer args s = refl
set_by_kept MarkerInsertionType args s = refl
set_by_kept SetMarkerInsertionType args s = refl
set_by_kept GetTextProperty args s = refl
set_by_kept TextPropertiesAt args s = refl
set_by_kept PutTextProperty args s = refl
set_by_kept AddTextProperties args s = refl
set_by_kept RemoveTextProperties args s = refl
set_by_kept SetTextProperties args s = refl
set_by_kept NextPropertyChange args s = refl
set_by_kept NextSinglePropertyChange args s = refl
set_by_kept PreviousPropertyChange args s = refl
set_by_kept PreviousSinglePropertyChange args s = refl
set_by_kept TextPropertyAny args s = refl
set_by_kept TextPropertyNotAll args s = refl
set_by_kept MakeOverlay args s = refl
set_by_kept OverlayStart args s = refl
set_by_kept OverlayEnd args s = refl
set_by_kept OverlayBuffer args s = refl
set_by_kept OverlayPut args s = refl
set_by_kept OverlayGet args s = refl
set_by_kept OverlayProperties args s = refl
set_by_kept MoveOverlay args s = refl
set_by_kept DeleteOverlay args s = refl
set_by_kept OverlaysAt args s = refl
set_by_kept OverlaysIn args s = refl
set_by_kept GetCharProperty args s = refl
set_by_kept NextOverlayChange args s = refl
set_by_kept PreviousOverlayChange args s = refl
set_by_kept AddHook args s = refl
set_by_kept RemoveHook args s = refl
set_by_kept UndoBoundary args s = refl
set_by_kept UndoStart args s = refl
set_by_kept UndoMore args s = refl
set_by_kept BufferUndoList args s = refl
set_by_kept BufferDisableUndo args s = refl
set_by_kept BufferEnableUndo args s = refl
set_by_kept StartProcess args s = refl
set_by_kept ProcessList args s = refl
set_by_kept GetProcess args s = refl
set_by_kept ProcessName args s = refl
set_by_kept ProcessStatus args s = refl
set_by_kept ProcessBuffer args s = refl
set_by_kept ProcessMark args s = refl
set_by_kept ProcessLiveP args s = refl
set_by_kept ProcessExitStatus args s = refl
set_by_kept ProcessFilter args s = refl
set_by_kept ProcessSentinel args s = refl
set_by_kept SetProcessFilter args s = set_kept s (arg args 0) (with_filter (filter_of (arg args 1))) (filter_mild (filter_of (arg args 1)))
set_by_kept SetProcessSentinel args s = set_kept s (arg args 0) (with_sentinel (sentinel_of (arg args 1))) (sentinel_mild (sentinel_of (arg args 1)))
set_by_kept SetProcessBuffer args s = set_kept s (arg args 0) (of_buffer (process_buffer s.editor (arg args 1))) (buffer_mild (process_buffer s.editor (arg args 1)))
set_by_kept SetProcessCodingSystem args s = set_kept s (arg args 0) (with_coding (coding_of (arg args 1))) (coding_mild (coding_of (arg args 1)))
set_by_kept ProcessSendString args s = refl
set_by_kept ProcessSendEof args s = refl
set_by_kept DeleteProcess args s = refl
set_by_kept AcceptProcessOutput args s = refl
set_by_kept ProcessCodingSystem args s = refl

listed_if : (is_listed : Bool) (n : ℕ) (x y : Process) (more also : List (ℕ × Process)) → map (λ x. TheProcess x.0) more ≡ map (λ x. TheProcess x.0) also →
    map (λ x. TheProcess x.0) (if is_listed then (n, x) ∷ more else more) ≡ map (λ x. TheProcess x.0) (if is_listed then (n, y) ∷ also else also)
listed_if true n x y more also e = ap (λ l. TheProcess n ∷ l) e
listed_if false n x y more also e = e

listed_kept : (n : ℕ) (all : List Process) → map (λ x. TheProcess x.0) (filter (λ x. x.1.listed) (enumerate_from n (map kept all))) ≡ map (λ x. TheProcess x.0) (filter (λ x. x.1.listed) (enumerate_from n all))
listed_kept n [] = refl
listed_kept n (x ∷ all) = listed_if x.listed n (kept x) x _ _ (listed_kept (n + 1) all)

get_kept : (s : State) (v : Value) → get_process (kept_state s) v ≡ get_process s v
get_kept s Nil = refl
get_kept s T = refl
get_kept s (Int i) = refl
get_kept s (Sym n) = refl
get_kept s (Str t) = ap process_value (find_kept 0 s.processes (name_of (Str t)))
get_kept s (Items vs) = refl
get_kept s (Dotted vs v) = refl
get_kept s (TheBuffer b) = refl
get_kept s (TheMarker k) = refl
get_kept s (TheOverlay k) = refl
get_kept s (TheProcess p) = refl

one_told : (prim : Prim) (args : List Value) (s : State) → ((x : Process) → told_of prim (kept x) ≡ told_of prim x) →
    told_of_one prim (process (kept_state s) (process_of (kept_state s) (arg args 0))) ≡ told_of_one prim (process s (process_of s (arg args 0)))
one_told prim args s same = ap (λ p. told_of_one prim (process (kept_state s) p)) (process_of_kept s (arg args 0)) ∙ one_kept s (process_of s (arg args 0)) (told_of_one prim) same

pub told_by_kept : (prim : Prim) (args : List Value) (s : State) → told_by (kept_state s) prim args ≡ told_by s prim args
told_by_kept CurrentBuffer args s = one_told CurrentBuffer args s (λ x. refl)
told_by_kept SetBuffer args s = one_told SetBuffer args s (λ x. refl)
told_by_kept GetBuffer args s = one_told GetBuffer args s (λ x. refl)
told_by_kept GetBufferCreate args s = one_told GetBufferCreate args s (λ x. refl)
told_by_kept GenerateNewBuffer args s = one_told GenerateNewBuffer args s (λ x. refl)
told_by_kept RenameBuffer args s = one_told RenameBuffer args s (λ x. refl)
told_by_kept KillBuffer args s = one_told KillBuffer args s (λ x. refl)
told_by_kept BufferLiveP args s = one_told BufferLiveP args s (λ x. refl)
told_by_kept BufferName args s = one_told BufferName args s (λ x. refl)
told_by_kept BufferList args s = one_told BufferList args s (λ x. refl)
told_by_kept BufferModifiedP args s = one_told BufferModifiedP args s (λ x. refl)
told_by_kept SetBufferModifiedP args s = one_told SetBufferModifiedP args s (λ x. refl)
told_by_kept BufferReadOnlyP args s = one_told BufferReadOnlyP args s (λ x. refl)
told_by_kept SetBufferReadOnly args s = one_told SetBufferReadOnly args s (λ x. refl)
told_by_kept PointAt args s = one_told PointAt args s (λ x. refl)
told_by_kept PointMin args s = one_told PointMin args s (λ x. refl)
told_by_kept PointMax args s = one_told PointMax args s (λ x. refl)
told_by_kept BufferSize args s = one_told BufferSize args s (λ x. refl)
told_by_kept BufferNarrowedP args s = one_told BufferNarrowedP args s (λ x. refl)
told_by_kept GotoChar args s = one_told GotoChar args s (λ x. refl)
told_by_kept CharAfter args s = one_told CharAfter args s (λ x. refl)
told_by_kept BufferString args s = one_told BufferString args s (λ x. refl)
told_by_kept BufferSubstring args s = one_told BufferSubstring args s (λ x. refl)
told_by_kept BufferSubstringNoProperties args s = one_told BufferSubstringNoProperties args s (λ x. refl)
told_by_kept Insert args s = one_told Insert args s (λ x. refl)
told_by_kept InsertAndInherit args s = one_told InsertAndInherit args s (λ x. refl)
told_by_kept InsertBeforeMarkers args s = one_told InsertBeforeMarkers args s (λ x. refl)
told_by_kept InsertBeforeMarkersAndInherit args s = one_told InsertBeforeMarkersAndInherit args s (λ x. refl)
told_by_kept InsertBufferSubstring args s = one_told InsertBufferSubstring args s (λ x. refl)
told_by_kept DeleteRegion args s = one_told DeleteRegion args s (λ x. refl)
told_by_kept DeleteAndExtractRegion args s = one_told DeleteAndExtractRegion args s (λ x. refl)
told_by_kept EraseBuffer args s = one_told EraseBuffer args s (λ x. refl)
told_by_kept NarrowToRegion args s = one_told NarrowToRegion args s (λ x. refl)
told_by_kept Widen args s = one_told Widen args s (λ x. refl)
told_by_kept MakeMarker args s = one_told MakeMarker args s (λ x. refl)
told_by_kept PointMarker args s = one_told PointMarker args s (λ x. refl)
told_by_kept CopyMarker args s = one_told CopyMarker args s (λ x. refl)
told_by_kept SetMarker args s = one_told SetMarker args s (λ x. refl)
told_by_kept MarkerPosition args s = one_told MarkerPosition args s (λ x. refl)
told_by_kept MarkerBuffer args s = one_told MarkerBuffer args s (λ x. refl)
told_by_kept MarkerInsertionType args s = one_told MarkerInsertionType args s (λ x. refl)
told_by_kept SetMarkerInsertionType args s = one_told SetMarkerInsertionType args s (λ x. refl)
told_by_kept GetTextProperty args s = one_told GetTextProperty args s (λ x. refl)
told_by_kept TextPropertiesAt args s = one_told TextPropertiesAt args s (λ x. refl)
told_by_kept PutTextProperty args s = one_told PutTextProperty args s (λ x. refl)
told_by_kept AddTextProperties args s = one_told AddTextProperties args s (λ x. refl)
told_by_kept RemoveTextProperties args s = one_told RemoveTextProperties args s (λ x. refl)
told_by_kept SetTextProperties args s = one_told SetTextProperties args s (λ x. refl)
told_by_kept NextPropertyChange args s = one_told NextPropertyChange args s (λ x. refl)
told_by_kept NextSinglePropertyChange args s = one_told NextSinglePropertyChange args s (λ x. refl)
told_by_kept PreviousPropertyChange args s = one_told PreviousPropertyChange args s (λ x. refl)
told_by_kept PreviousSinglePropertyChange args s = one_told PreviousSinglePropertyChange args s (λ x. refl)
told_by_kept TextPropertyAny args s = one_told TextPropertyAny args s (λ x. refl)
told_by_kept TextPropertyNotAll args s = one_told TextPropertyNotAll args s (λ x. refl)
told_by_kept MakeOverlay args s = one_told MakeOverlay args s (λ x. refl)
told_by_kept OverlayStart args s = one_told OverlayStart args s (λ x. refl)
told_by_kept OverlayEnd args s = one_told OverlayEnd args s (λ x. refl)
told_by_kept OverlayBuffer args s = one_told OverlayBuffer args s (λ x. refl)
told_by_kept OverlayPut args s = one_told OverlayPut args s (λ x. refl)
told_by_kept OverlayGet args s = one_told OverlayGet args s (λ x. refl)
told_by_kept OverlayProperties args s = one_told OverlayProperties args s (λ x. refl)
told_by_kept MoveOverlay args s = one_told MoveOverlay args s (λ x. refl)
told_by_kept DeleteOverlay args s = one_told DeleteOverlay args s (λ x. refl)
told_by_kept OverlaysAt args s = one_told OverlaysAt args s (λ x. refl)
told_by_kept OverlaysIn args s = one_told OverlaysIn args s (λ x. refl)
told_by_kept GetCharProperty args s = one_told GetCharProperty args s (λ x. refl)
told_by_kept NextOverlayChange args s = one_told NextOverlayChange args s (λ x. refl)
told_by_kept PreviousOverlayChange args s = one_told PreviousOverlayChange args s (λ x. refl)
told_by_kept AddHook args s = refl
told_by_kept RemoveHook args s = refl
told_by_kept UndoBoundary args s = one_told UndoBoundary args s (λ x. refl)
told_by_kept UndoStart args s = one_told UndoStart args s (λ x. refl)
told_by_kept UndoMore args s = one_told UndoMore args s (λ x. refl)
told_by_kept BufferUndoList args s = one_told BufferUndoList args s (λ x. refl)
told_by_kept BufferDisableUndo args s = one_told BufferDisableUndo args s (λ x. refl)
told_by_kept BufferEnableUndo args s = one_told BufferEnableUndo args s (λ x. refl)
told_by_kept StartProcess args s = one_told StartProcess args s (λ x. refl)
told_by_kept ProcessList args s = ap list (listed_kept 0 s.processes)
told_by_kept GetProcess args s = get_kept s (arg args 0)
told_by_kept ProcessName args s = one_told ProcessName args s (λ x. refl)
told_by_kept ProcessStatus args s = one_told ProcessStatus args s (λ x. refl)
told_by_kept ProcessBuffer args s = one_told ProcessBuffer args s (λ x. refl)
told_by_kept ProcessMark args s = one_told ProcessMark args s (λ x. refl)
told_by_kept ProcessLiveP args s = one_told ProcessLiveP args s (λ x. refl)
told_by_kept ProcessExitStatus args s = one_told ProcessExitStatus args s (λ x. refl)
told_by_kept ProcessFilter args s = one_told ProcessFilter args s (λ x. refl)
told_by_kept ProcessSentinel args s = one_told ProcessSentinel args s (λ x. refl)
told_by_kept SetProcessFilter args s = refl
told_by_kept SetProcessSentinel args s = refl
told_by_kept SetProcessBuffer args s = refl
told_by_kept ProcessSendString args s = one_told ProcessSendString args s (λ x. refl)
told_by_kept ProcessSendEof args s = one_told ProcessSendEof args s (λ x. refl)
told_by_kept DeleteProcess args s = one_told DeleteProcess args s (λ x. refl)
told_by_kept AcceptProcessOutput args s = one_told AcceptProcessOutput args s (λ x. refl)
told_by_kept SetProcessCodingSystem args s = refl
told_by_kept ProcessCodingSystem args s = one_told ProcessCodingSystem args s (λ x. refl)

-- what it leaves
pub record IsCalm (s t : State) (kills : List Bool) : Type 0 where
  pub hosted : Hosted s.processes kills → Hosted t.processes kills
  pub size : length t.processes ≡ length s.processes
  pub depth : t.depth ≡ s.depth
  pub inhibited : t.inhibited ≡ s.inhibited
  pub asked : t.asked ≡ s.asked

calm_as : (s : State) (kills : List Bool) → IsCalm s s kills
calm_as s kills = record { hosted = λ h. h; size = refl; depth = refl; inhibited = refl; asked = refl }

set_calm : (s : State) (p : ℕ) (change : Process → Process) → IsMild change → (kills : List Bool) → IsCalm s (change_process p change s) kills
set_calm s p change mild kills = record { hosted = changed_hosted change mild p s kills; size = changed_length change mild p s; depth = changed_depth change mild p s; inhibited = changed_inhibited change mild p s; asked = changed_asked change mild p s }

pub set_by_calm : (prim : Prim) (args : List Value) (s : State) (kills : List Bool) → IsCalm s (set_by prim args s) kills
set_by_calm CurrentBuffer args s kills = calm_as s kills
set_by_calm SetBuffer args s kills = calm_as s kills
set_by_calm GetBuffer args s kills = calm_as s kills
set_by_calm GetBufferCreate args s kills = calm_as s kills
set_by_calm GenerateNewBuffer args s kills = calm_as s kills
set_by_calm RenameBuffer args s kills = calm_as s kills
set_by_calm KillBuffer args s kills = calm_as s kills
set_by_calm BufferLiveP args s kills = calm_as s kills
set_by_calm BufferName args s kills = calm_as s kills
set_by_calm BufferList args s kills = calm_as s kills
set_by_calm BufferModifiedP args s kills = calm_as s kills
set_by_calm SetBufferModifiedP args s kills = calm_as s kills
set_by_calm BufferReadOnlyP args s kills = calm_as s kills
set_by_calm SetBufferReadOnly args s kills = calm_as s kills
set_by_calm PointAt args s kills = calm_as s kills
set_by_calm PointMin args s kills = calm_as s kills
set_by_calm PointMax args s kills = calm_as s kills
set_by_calm BufferSize args s kills = calm_as s kills
set_by_calm BufferNarrowedP args s kills = calm_as s kills
set_by_calm GotoChar args s kills = calm_as s kills
set_by_calm CharAfter args s kills = calm_as s kills
set_by_calm BufferString args s kills = calm_as s kills
set_by_calm BufferSubstring args s kills = calm_as s kills
set_by_calm BufferSubstringNoProperties args s kills = calm_as s kills
set_by_calm Insert args s kills = calm_as s kills
set_by_calm InsertAndInherit args s kills = calm_as s kills
set_by_calm InsertBeforeMarkers args s kills = calm_as s kills
set_by_calm InsertBeforeMarkersAndInherit args s kills = calm_as s kills
set_by_calm InsertBufferSubstring args s kills = calm_as s kills
set_by_calm DeleteRegion args s kills = calm_as s kills
set_by_calm DeleteAndExtractRegion args s kills = calm_as s kills
set_by_calm EraseBuffer args s kills = calm_as s kills
set_by_calm NarrowToRegion args s kills = calm_as s kills
set_by_calm Widen args s kills = calm_as s kills
set_by_calm MakeMarker args s kills = calm_as s kills
set_by_calm PointMarker args s kills = calm_as s kills
set_by_calm CopyMarker args s kills = calm_as s kills
set_by_calm SetMarker args s kills = calm_as s kills
set_by_calm MarkerPosition args s kills = calm_as s kills
set_by_calm MarkerBuffer args s kills = calm_as s kills
set_by_calm MarkerInsertionType args s kills = calm_as s kills
set_by_calm SetMarkerInsertionType args s kills = calm_as s kills
set_by_calm GetTextProperty args s kills = calm_as s kills
set_by_calm TextPropertiesAt args s kills = calm_as s kills
set_by_calm PutTextProperty args s kills = calm_as s kills
set_by_calm AddTextProperties args s kills = calm_as s kills
set_by_calm RemoveTextProperties args s kills = calm_as s kills
set_by_calm SetTextProperties args s kills = calm_as s kills
set_by_calm NextPropertyChange args s kills = calm_as s kills
set_by_calm NextSinglePropertyChange args s kills = calm_as s kills
set_by_calm PreviousPropertyChange args s kills = calm_as s kills
set_by_calm PreviousSinglePropertyChange args s kills = calm_as s kills
set_by_calm TextPropertyAny args s kills = calm_as s kills
set_by_calm TextPropertyNotAll args s kills = calm_as s kills
set_by_calm MakeOverlay args s kills = calm_as s kills
set_by_calm OverlayStart args s kills = calm_as s kills
set_by_calm OverlayEnd args s kills = calm_as s kills
set_by_calm OverlayBuffer args s kills = calm_as s kills
set_by_calm OverlayPut args s kills = calm_as s kills
set_by_calm OverlayGet args s kills = calm_as s kills
set_by_calm OverlayProperties args s kills = calm_as s kills
set_by_calm MoveOverlay args s kills = calm_as s kills
set_by_calm DeleteOverlay args s kills = calm_as s kills
set_by_calm OverlaysAt args s kills = calm_as s kills
set_by_calm OverlaysIn args s kills = calm_as s kills
set_by_calm GetCharProperty args s kills = calm_as s kills
set_by_calm NextOverlayChange args s kills = calm_as s kills
set_by_calm PreviousOverlayChange args s kills = calm_as s kills
set_by_calm AddHook args s kills = record { hosted = λ h. h; size = refl; depth = refl; inhibited = refl; asked = refl }
set_by_calm RemoveHook args s kills = record { hosted = λ h. h; size = refl; depth = refl; inhibited = refl; asked = refl }
set_by_calm UndoBoundary args s kills = calm_as s kills
set_by_calm UndoStart args s kills = calm_as s kills
set_by_calm UndoMore args s kills = calm_as s kills
set_by_calm BufferUndoList args s kills = calm_as s kills
set_by_calm BufferDisableUndo args s kills = calm_as s kills
set_by_calm BufferEnableUndo args s kills = calm_as s kills
set_by_calm StartProcess args s kills = calm_as s kills
set_by_calm ProcessList args s kills = calm_as s kills
set_by_calm GetProcess args s kills = calm_as s kills
set_by_calm ProcessName args s kills = calm_as s kills
set_by_calm ProcessStatus args s kills = calm_as s kills
set_by_calm ProcessBuffer args s kills = calm_as s kills
set_by_calm ProcessMark args s kills = calm_as s kills
set_by_calm ProcessLiveP args s kills = calm_as s kills
set_by_calm ProcessExitStatus args s kills = calm_as s kills
set_by_calm ProcessFilter args s kills = calm_as s kills
set_by_calm ProcessSentinel args s kills = calm_as s kills
set_by_calm SetProcessFilter args s kills = set_calm s (process_of s (arg args 0)) (with_filter (filter_of (arg args 1))) (filter_mild (filter_of (arg args 1))) kills
set_by_calm SetProcessSentinel args s kills = set_calm s (process_of s (arg args 0)) (with_sentinel (sentinel_of (arg args 1))) (sentinel_mild (sentinel_of (arg args 1))) kills
set_by_calm SetProcessBuffer args s kills = set_calm s (process_of s (arg args 0)) (of_buffer (process_buffer s.editor (arg args 1))) (buffer_mild (process_buffer s.editor (arg args 1))) kills
set_by_calm SetProcessCodingSystem args s kills = set_calm s (process_of s (arg args 0)) (with_coding (coding_of (arg args 1))) (coding_mild (coding_of (arg args 1))) kills
set_by_calm ProcessSendString args s kills = calm_as s kills
set_by_calm ProcessSendEof args s kills = calm_as s kills
set_by_calm DeleteProcess args s kills = calm_as s kills
set_by_calm AcceptProcessOutput args s kills = calm_as s kills
set_by_calm ProcessCodingSystem args s kills = calm_as s kills

pub calm_keeps : (w : World) (known : State) → IsCalm w.state known w.kills → Hosted w.state.processes w.kills → Keeps w (record w { state = known })
calm_keeps w known calm hosted = record { hosted = calm.hosted hosted; count = omega (arith, calm.size); depth = calm.depth; inhibited = calm.inhibited; asked = omega (arith, calm.asked) }

pub silent_went : (program : Program) (w : World) (prim : Prim) (args : List Value) (target : Target) (known : State) (v : Value) → manner_of prim ≡ ConcernsHandlers → IsSilent prim → Passes program w.state prim args →
    known ≡ set_by prim args w.state → v ≡ told_by w.state prim args → Went program w (record w { state = known }) (at_item (MakeCall prim args target)) (at_item (reply_item (Answered v) target))
silent_went program w prim args target known v manner silent passes now is =
    went_silently program w known (set_by prim args) (at_item (MakeCall prim args target)) (at_item (GiveAnswer v target))
    (λ s h. now ∙ ap (set_by prim args) h ∙ set_by_kept prim args s)
    (λ s rest h. goes (effect_step program w prim args target manner passes s rest h ∙ silent_step program s target rest prim args silent ∙ ap (λ u. on (set_by prim args s) (GiveAnswer u target ∷ rest)) (sym (told_by_kept prim args s) ∙ ap (λ (t : State). told_by t prim args) (sym h) ∙ sym is)) stays)

pub calm_as_known : (s known t : State) (kills : List Bool) → known ≡ t → IsCalm s t kills → IsCalm s known kills
calm_as_known s known t kills is calm = subst (λ u. IsCalm s u kills) (sym is) calm

-- each call but six
pub silent_other : (p : Primitive) → (p ≡ written.StartProcess → ⊥) → (p ≡ written.ProcessSendString → ⊥) → (p ≡ written.ProcessSendEof → ⊥) → (p ≡ written.AcceptProcessOutput → ⊥) → (p ≡ written.DeleteProcess → ⊥) → (p ≡ written.KillBuffer → ⊥) → IsSilent (prim_of p)
silent_other written.CurrentBuffer a b c d e f = tt
silent_other written.SetBuffer a b c d e f = tt
silent_other written.GetBuffer a b c d e f = tt
silent_other written.GetBufferCreate a b c d e f = tt
silent_other written.GenerateNewBuffer a b c d e f = tt
silent_other written.RenameBuffer a b c d e f = tt
silent_other written.KillBuffer a b c d e f = absurd (f refl)
silent_other written.BufferLiveP a b c d e f = tt
silent_other written.BufferName a b c d e f = tt
silent_other written.BufferList a b c d e f = tt
silent_other written.BufferModifiedP a b c d e f = tt
silent_other written.SetBufferModifiedP a b c d e f = tt
silent_other written.BufferReadOnlyP a b c d e f = tt
silent_other written.SetBufferReadOnly a b c d e f = tt
silent_other written.Point a b c d e f = tt
silent_other written.PointMin a b c d e f = tt
silent_other written.PointMax a b c d e f = tt
silent_other written.BufferSize a b c d e f = tt
silent_other written.BufferNarrowedP a b c d e f = tt
silent_other written.GotoChar a b c d e f = tt
silent_other written.CharAfter a b c d e f = tt
silent_other written.BufferString a b c d e f = tt
silent_other written.BufferSubstring a b c d e f = tt
silent_other written.BufferSubstringNoProperties a b c d e f = tt
silent_other written.Insert a b c d e f = tt
silent_other written.InsertAndInherit a b c d e f = tt
silent_other written.InsertBeforeMarkers a b c d e f = tt
silent_other written.InsertBeforeMarkersAndInherit a b c d e f = tt
silent_other written.InsertBufferSubstring a b c d e f = tt
silent_other written.DeleteRegion a b c d e f = tt
silent_other written.DeleteAndExtractRegion a b c d e f = tt
silent_other written.EraseBuffer a b c d e f = tt
silent_other written.NarrowToRegion a b c d e f = tt
silent_other written.Widen a b c d e f = tt
silent_other written.MakeMarker a b c d e f = tt
silent_other written.PointMarker a b c d e f = tt
silent_other written.CopyMarker a b c d e f = tt
silent_other written.SetMarker a b c d e f = tt
silent_other written.MarkerPosition a b c d e f = tt
silent_other written.MarkerBuffer a b c d e f = tt
silent_other written.MarkerInsertionType a b c d e f = tt
silent_other written.SetMarkerInsertionType a b c d e f = tt
silent_other written.GetTextProperty a b c d e f = tt
silent_other written.TextPropertiesAt a b c d e f = tt
silent_other written.PutTextProperty a b c d e f = tt
silent_other written.AddTextProperties a b c d e f = tt
silent_other written.RemoveTextProperties a b c d e f = tt
silent_other written.SetTextProperties a b c d e f = tt
silent_other written.NextPropertyChange a b c d e f = tt
silent_other written.NextSinglePropertyChange a b c d e f = tt
silent_other written.PreviousPropertyChange a b c d e f = tt
silent_other written.PreviousSinglePropertyChange a b c d e f = tt
silent_other written.TextPropertyAny a b c d e f = tt
silent_other written.TextPropertyNotAll a b c d e f = tt
silent_other written.MakeOverlay a b c d e f = tt
silent_other written.OverlayStart a b c d e f = tt
silent_other written.OverlayEnd a b c d e f = tt
silent_other written.OverlayBuffer a b c d e f = tt
silent_other written.OverlayPut a b c d e f = tt
silent_other written.OverlayGet a b c d e f = tt
silent_other written.OverlayProperties a b c d e f = tt
silent_other written.MoveOverlay a b c d e f = tt
silent_other written.DeleteOverlay a b c d e f = tt
silent_other written.OverlaysAt a b c d e f = tt
silent_other written.OverlaysIn a b c d e f = tt
silent_other written.GetCharProperty a b c d e f = tt
silent_other written.NextOverlayChange a b c d e f = tt
silent_other written.PreviousOverlayChange a b c d e f = tt
silent_other written.AddHook a b c d e f = tt
silent_other written.RemoveHook a b c d e f = tt
silent_other written.UndoBoundary a b c d e f = tt
silent_other written.UndoStart a b c d e f = tt
silent_other written.UndoMore a b c d e f = tt
silent_other written.BufferUndoList a b c d e f = tt
silent_other written.BufferDisableUndo a b c d e f = tt
silent_other written.BufferEnableUndo a b c d e f = tt
silent_other written.StartProcess a b c d e f = absurd (a refl)
silent_other written.ProcessList a b c d e f = tt
silent_other written.GetProcess a b c d e f = tt
silent_other written.ProcessName a b c d e f = tt
silent_other written.ProcessStatus a b c d e f = tt
silent_other written.ProcessBuffer a b c d e f = tt
silent_other written.ProcessMark a b c d e f = tt
silent_other written.ProcessLiveP a b c d e f = tt
silent_other written.ProcessExitStatus a b c d e f = tt
silent_other written.ProcessFilter a b c d e f = tt
silent_other written.ProcessSentinel a b c d e f = tt
silent_other written.SetProcessFilter a b c d e f = tt
silent_other written.SetProcessSentinel a b c d e f = tt
silent_other written.SetProcessBuffer a b c d e f = tt
silent_other written.ProcessSendString a b c d e f = absurd (b refl)
silent_other written.ProcessSendEof a b c d e f = absurd (c refl)
silent_other written.DeleteProcess a b c d e f = absurd (e refl)
silent_other written.AcceptProcessOutput a b c d e f = absurd (d refl)
silent_other written.SetProcessCodingSystem a b c d e f = tt
silent_other written.ProcessCodingSystem a b c d e f = tt
