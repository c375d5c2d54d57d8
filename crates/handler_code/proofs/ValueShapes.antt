-- What each kind of value stands for that is or holds an object or other values.
use Rattle.std.proofs.Common.{◌≡◌, ℕ, ◌&&◌, nat_lt, map, ap, sym, ◌∙◌}
use Rattle.std.specs.List.{list_all}
use Rattle.std.specs.declared.alloc.Global.{Global}
use Rattle.std.proofs.Common.{Box}
use Rattle.std.proofs.lemmas.List.{length-replicate}
use Rattle.editor_model.specs.Values.{Items, Dotted, TheBuffer, TheMarker, TheOverlay, TheProcess, values}
use Rattle.plain_machine.specs.State.{State, Program}
use Rattle.plain_machine.specs.Natives.{was_made}
use Rattle.ek_types.specs.Listing.{items_of}
use Rattle.ek_types.specs.declared.list.ListOf.{ListOf}
use Rattle.ek_call.specs.Meaning.{view}
use Rattle.ek_call.specs.declared.value.Value.{Value, fold-roll-Value}
use Rattle.ek_call.specs.declared.value.Value.TheOpen.{Value-F}
use Rattle.ek_call.specs.declared.value.Value.TheVariants as value
use Rattle.handler_code.specs.Counts.{program_with, state_with}
use Rattle.handler_code.specs.declared.made.Made.{Made}
use Rattle.handler_code.proofs.ValueLists.{each_made}

pub list_is : (vs : ListOf Value) → view (value.List vs) ≡ Items (values (map view (items_of vs)))
list_is vs = ap view (sym (value.rolls-List vs)) ∙ fold-roll-Value _ _ (Value-F.List vs)

pub dot_is : (vs : ListOf Value) (b : Box Value Global) → view (value.Dot vs b) ≡ Dotted (values (map view (items_of vs))) (view b.value)
dot_is vs b = ap view (sym (value.rolls-Dot vs b)) ∙ fold-roll-Value _ _ (Value-F.Dot vs b)

buffer_is : (b : ℕ) → view (value.Buffer b) ≡ TheBuffer b
buffer_is b = ap view (sym (value.rolls-Buffer b)) ∙ fold-roll-Value _ _ (Value-F.Buffer b)

marker_is : (k : ℕ) → view (value.Marker k) ≡ TheMarker k
marker_is k = ap view (sym (value.rolls-Marker k)) ∙ fold-roll-Value _ _ (Value-F.Marker k)

overlay_is : (k : ℕ) → view (value.Overlay k) ≡ TheOverlay k
overlay_is k = ap view (sym (value.rolls-Overlay k)) ∙ fold-roll-Value _ _ (Value-F.Overlay k)

process_is : (p : ℕ) → view (value.Process p) ≡ TheProcess p
process_is p = ap view (sym (value.rolls-Process p)) ∙ fold-roll-Value _ _ (Value-F.Process p)

-- WHETHER IT WAS MADE
pub list_made : (program : Program) (s : State) (v : Value) (vs : ListOf Value) → v ≡ value.List vs → was_made program s (view v) ≡ list_all (was_made program s) (map view (items_of vs))
list_made program s v vs is = ap (λ w. was_made program s (view w)) is ∙ ap (was_made program s) (list_is vs) ∙ each_made program s (map view (items_of vs))

pub dot_made : (program : Program) (s : State) (v : Value) (vs : ListOf Value) (b : Box Value Global) → v ≡ value.Dot vs b → was_made program s (view v) ≡ (list_all (was_made program s) (map view (items_of vs)) && was_made program s (view b.value))
dot_made program s v vs b is = ap (λ w. was_made program s (view w)) is ∙ ap (was_made program s) (dot_is vs b) ∙ ap (λ all. all && was_made program s (view b.value)) (each_made program s (map view (items_of vs)))

pub buffer_made : (made : Made) (v : Value) (b : ℕ) → v ≡ value.Buffer b → nat_lt b made.buffers ≡ was_made (program_with made) (state_with made) (view v)
buffer_made made v b is = sym (ap (λ w. was_made (program_with made) (state_with made) (view w)) is ∙ ap (was_made (program_with made) (state_with made)) (buffer_is b) ∙ ap (nat_lt b) (length-replicate _ _))

pub marker_made : (made : Made) (v : Value) (k : ℕ) → v ≡ value.Marker k → nat_lt k made.markers ≡ was_made (program_with made) (state_with made) (view v)
marker_made made v k is = sym (ap (λ w. was_made (program_with made) (state_with made) (view w)) is ∙ ap (was_made (program_with made) (state_with made)) (marker_is k) ∙ ap (nat_lt k) (length-replicate _ _))

pub overlay_made : (made : Made) (v : Value) (k : ℕ) → v ≡ value.Overlay k → nat_lt k made.overlays ≡ was_made (program_with made) (state_with made) (view v)
overlay_made made v k is = sym (ap (λ w. was_made (program_with made) (state_with made) (view w)) is ∙ ap (was_made (program_with made) (state_with made)) (overlay_is k) ∙ ap (nat_lt k) (length-replicate _ _))

pub process_made : (made : Made) (v : Value) (p : ℕ) → v ≡ value.Process p → nat_lt p made.processes ≡ was_made (program_with made) (state_with made) (view v)
process_made made v p is = sym (ap (λ w. was_made (program_with made) (state_with made) (view w)) is ∙ ap (was_made (program_with made) (state_with made)) (process_is p) ∙ ap (nat_lt p) (length-replicate _ _))
