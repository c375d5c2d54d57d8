-- The table of the calls on buffers, texts, markers, properties, overlays and undo: the editor without
-- handlers and processes. The calls that concern those stand in the machine.
use Rattle.std.specs.Prelude.{true, false, List}
use Rattle.editor_model.specs.Values.{Value, TheBuffer, at_place, truth, WrongType, Reply, Answered}
use Rattle.editor_model.specs.Values.{Refused, Prim, CurrentBuffer, SetBuffer, GetBuffer}
use Rattle.editor_model.specs.Values.{GetBufferCreate, GenerateNewBuffer, RenameBuffer, BufferLiveP}
use Rattle.editor_model.specs.Values.{BufferName, BufferList, BufferModifiedP, SetBufferModifiedP}
use Rattle.editor_model.specs.Values.{BufferReadOnlyP, SetBufferReadOnly, PointAt, PointMin, PointMax}
use Rattle.editor_model.specs.Values.{BufferSize, BufferNarrowedP, GotoChar, CharAfter, BufferString}
use Rattle.editor_model.specs.Values.{BufferSubstring, BufferSubstringNoProperties, Insert}
use Rattle.editor_model.specs.Values.{InsertAndInherit, InsertBeforeMarkers}
use Rattle.editor_model.specs.Values.{InsertBeforeMarkersAndInherit, InsertBufferSubstring}
use Rattle.editor_model.specs.Values.{DeleteRegion, DeleteAndExtractRegion, EraseBuffer, NarrowToRegion}
use Rattle.editor_model.specs.Values.{Widen, MakeMarker, PointMarker, CopyMarker, SetMarker}
use Rattle.editor_model.specs.Values.{MarkerPosition, MarkerBuffer, MarkerInsertionType}
use Rattle.editor_model.specs.Values.{SetMarkerInsertionType, GetTextProperty, TextPropertiesAt}
use Rattle.editor_model.specs.Values.{PutTextProperty, AddTextProperties, RemoveTextProperties}
use Rattle.editor_model.specs.Values.{SetTextProperties, NextPropertyChange, NextSinglePropertyChange}
use Rattle.editor_model.specs.Values.{PreviousPropertyChange, PreviousSinglePropertyChange}
use Rattle.editor_model.specs.Values.{TextPropertyAny, TextPropertyNotAll, MakeOverlay, OverlayStart}
use Rattle.editor_model.specs.Values.{OverlayEnd, OverlayBuffer, OverlayPut, OverlayGet}
use Rattle.editor_model.specs.Values.{OverlayProperties, MoveOverlay, DeleteOverlay, OverlaysAt}
use Rattle.editor_model.specs.Values.{OverlaysIn, GetCharProperty, NextOverlayChange}
use Rattle.editor_model.specs.Values.{PreviousOverlayChange, UndoBoundary, UndoStart, UndoMore}
use Rattle.editor_model.specs.Values.{BufferUndoList, BufferDisableUndo, BufferEnableUndo}
use Rattle.editor_model.specs.Editor.{Editor, here}
use Rattle.editor_model.specs.Answers.{Applied, Prepared, Barred}
use Rattle.editor_model.specs.Arguments.{arg}
use Rattle.editor_model.specs.BufferCalls.{set_buffer, get_buffer, get_buffer_create}
use Rattle.editor_model.specs.BufferCalls.{generate_new_buffer, rename_buffer, buffer_live_p}
use Rattle.editor_model.specs.BufferCalls.{buffer_name, buffer_list, buffer_modified_p}
use Rattle.editor_model.specs.BufferCalls.{set_buffer_modified_p, buffer_read_only_p}
use Rattle.editor_model.specs.BufferCalls.{set_buffer_read_only}
use Rattle.editor_model.specs.TextCalls.{buffer_size, is_narrowed, goto_char, char_after, buffer_string}
use Rattle.editor_model.specs.TextCalls.{buffer_substring, buffer_substring_no_properties, insert}
use Rattle.editor_model.specs.TextCalls.{insert_buffer_substring, delete_region}
use Rattle.editor_model.specs.TextCalls.{delete_and_extract_region, erase_buffer, narrow_to_region}
use Rattle.editor_model.specs.TextCalls.{widen}
use Rattle.editor_model.specs.MarkerCalls.{make_marker, point_marker, copy_marker, set_marker}
use Rattle.editor_model.specs.MarkerCalls.{marker_position, marker_buffer, marker_insertion_type}
use Rattle.editor_model.specs.MarkerCalls.{set_marker_insertion_type}
use Rattle.editor_model.specs.PropertyCalls.{get_text_property, text_properties_at, put_text_property}
use Rattle.editor_model.specs.PropertyCalls.{add_text_properties, remove_text_properties}
use Rattle.editor_model.specs.PropertyCalls.{set_text_properties, next_property_change}
use Rattle.editor_model.specs.PropertyCalls.{next_single_property_change, previous_property_change}
use Rattle.editor_model.specs.PropertyCalls.{previous_single_property_change, text_property_any}
use Rattle.editor_model.specs.PropertyCalls.{text_property_not_all}
use Rattle.editor_model.specs.OverlayCalls.{make_overlay, overlay_start, overlay_end, overlay_buffer}
use Rattle.editor_model.specs.OverlayCalls.{overlay_put, overlay_get, overlay_properties, move_overlay}
use Rattle.editor_model.specs.OverlayCalls.{delete_overlay, overlays_at, overlays_in, get_char_property}
use Rattle.editor_model.specs.OverlayCalls.{next_overlay_change, previous_overlay_change}
use Rattle.editor_model.specs.UndoCalls.{undo_boundary, undo_start, undo_more, buffer_undo_list}
use Rattle.editor_model.specs.UndoCalls.{buffer_disable_undo, buffer_enable_undo}
pub use Rattle.editor_model.specs.Answers.{Applied, What, Put, Props, UndoGroups, Change, Prepared}
pub use Rattle.editor_model.specs.Answers.{Changes, Quiet, Nothing, Barred, Committed, Done, Failed}
pub use Rattle.editor_model.specs.Answers.{Commit}
pub use Rattle.editor_model.specs.Arguments.{has_room}
pub use Rattle.editor_model.specs.Commits.{commit}

-- calls that only ask
abbrev pub query : Editor → Prim → List Value → Reply
-- buffers
query e CurrentBuffer args = Answered (TheBuffer e.current)
query e GetBuffer args = get_buffer e (arg args 0)
query e BufferLiveP args = buffer_live_p e (arg args 0)
query e BufferName args = buffer_name e (arg args 0)
query e BufferList args = buffer_list e
query e BufferModifiedP args = buffer_modified_p e (arg args 0)
query e BufferReadOnlyP args = buffer_read_only_p e (arg args 0)
-- texts
query e PointAt args = Answered (at_place (here e).point)
query e PointMin args = Answered (at_place (here e).begin)
query e PointMax args = Answered (at_place (here e).end)
query e BufferSize args = buffer_size e (arg args 0)
query e BufferNarrowedP args = Answered (truth (is_narrowed (here e)))
query e CharAfter args = char_after e (arg args 0)
query e BufferString args = buffer_string e
query e BufferSubstring args = buffer_substring e (arg args 0) (arg args 1)
query e BufferSubstringNoProperties args = buffer_substring_no_properties e (arg args 0) (arg args 1)
-- markers
query e MarkerPosition args = marker_position e (arg args 0)
query e MarkerBuffer args = marker_buffer e (arg args 0)
query e MarkerInsertionType args = marker_insertion_type e (arg args 0)
-- text properties
query e GetTextProperty args = get_text_property e (arg args 0) (arg args 1)
query e TextPropertiesAt args = text_properties_at e (arg args 0)
query e NextPropertyChange args = next_property_change e (arg args 0) (arg args 1)
query e NextSinglePropertyChange args = next_single_property_change e (arg args 0) (arg args 1) (arg args 2)
query e PreviousPropertyChange args = previous_property_change e (arg args 0) (arg args 1)
query e PreviousSinglePropertyChange args =
    previous_single_property_change e (arg args 0) (arg args 1) (arg args 2)
query e TextPropertyAny args = text_property_any e (arg args 0) (arg args 1) (arg args 2) (arg args 3)
query e TextPropertyNotAll args = text_property_not_all e (arg args 0) (arg args 1) (arg args 2) (arg args 3)
-- overlays
query e OverlayStart args = overlay_start e (arg args 0)
query e OverlayEnd args = overlay_end e (arg args 0)
query e OverlayBuffer args = overlay_buffer e (arg args 0)
query e OverlayGet args = overlay_get e (arg args 0) (arg args 1)
query e OverlayProperties args = overlay_properties e (arg args 0)
query e OverlaysAt args = overlays_at e (arg args 0)
query e OverlaysIn args = overlays_in e (arg args 0) (arg args 1)
query e GetCharProperty args = get_char_property e (arg args 0) (arg args 1)
query e NextOverlayChange args = next_overlay_change e (arg args 0)
query e PreviousOverlayChange args = previous_overlay_change e (arg args 0)
-- undo
query e BufferUndoList args = buffer_undo_list e
query e _ args = Refused WrongType

-- calls that set state without hooks
abbrev pub apply : Editor → Prim → List Value → Applied
-- buffers
apply e SetBuffer args = set_buffer e (arg args 0)
apply e GetBufferCreate args = get_buffer_create e (arg args 0)
apply e GenerateNewBuffer args = generate_new_buffer e (arg args 0)
apply e RenameBuffer args = rename_buffer e (arg args 0)
apply e SetBufferModifiedP args = set_buffer_modified_p e (arg args 0)
apply e SetBufferReadOnly args = set_buffer_read_only e (arg args 0)
-- texts
apply e GotoChar args = goto_char e (arg args 0)
apply e NarrowToRegion args = narrow_to_region e (arg args 0) (arg args 1)
apply e Widen args = widen e
-- markers
apply e MakeMarker args = make_marker e
apply e PointMarker args = point_marker e
apply e CopyMarker args = copy_marker e (arg args 0) (arg args 1)
apply e SetMarker args = set_marker e (arg args 0) (arg args 1) (arg args 2)
apply e SetMarkerInsertionType args = set_marker_insertion_type e (arg args 0) (arg args 1)
-- overlays
apply e MakeOverlay args = make_overlay e (arg args 0) (arg args 1) (arg args 2) (arg args 3) (arg args 4)
apply e OverlayPut args = overlay_put e (arg args 0) (arg args 1) (arg args 2)
apply e MoveOverlay args = move_overlay e (arg args 0) (arg args 1) (arg args 2) (arg args 3)
apply e DeleteOverlay args = delete_overlay e (arg args 0)
-- undo
apply e UndoBoundary args = undo_boundary e
apply e UndoStart args = undo_start e
apply e BufferDisableUndo args = buffer_disable_undo e
apply e BufferEnableUndo args = buffer_enable_undo e
apply e _ args = record { editor = e; reply = Refused WrongType }

-- calls that change a text, and so are prepared first and committed when the hooks have run
abbrev pub prepare : Editor → Prim → List Value → Prepared
-- texts
prepare e Insert args = insert e false false args
prepare e InsertAndInherit args = insert e false true args
prepare e InsertBeforeMarkers args = insert e true false args
prepare e InsertBeforeMarkersAndInherit args = insert e true true args
prepare e InsertBufferSubstring args = insert_buffer_substring e (arg args 0) (arg args 1) (arg args 2)
prepare e DeleteRegion args = delete_region e (arg args 0) (arg args 1)
prepare e DeleteAndExtractRegion args = delete_and_extract_region e (arg args 0) (arg args 1)
prepare e EraseBuffer args = erase_buffer e
-- text properties
prepare e PutTextProperty args = put_text_property e (arg args 0) (arg args 1) (arg args 2) (arg args 3)
prepare e AddTextProperties args = add_text_properties e (arg args 0) (arg args 1) (arg args 2)
prepare e RemoveTextProperties args = remove_text_properties e (arg args 0) (arg args 1) (arg args 2)
prepare e SetTextProperties args = set_text_properties e (arg args 0) (arg args 1) (arg args 2)
-- undo
prepare e UndoMore args = undo_more e (arg args 0)
prepare e _ args = Barred WrongType
