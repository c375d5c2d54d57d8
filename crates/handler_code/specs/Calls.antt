-- What a native's calls stand for, and which of them may be made.
use Rattle.std.specs.Prelude.{true, false, List, map, Option, Some, None}
use Rattle.editor_model.specs.Values.{Value, Nil, Prim, Reply, Answered, Refused}
use Rattle.plain_machine.specs.State.{State, Program}
use Rattle.plain_machine.specs.Natives.{normal, is_callable}
use Rattle.ek_types.specs.Listing.{items_of}
use Rattle.ek_call.specs.Meaning.{view}
use Rattle.ek_call.specs.Primitives.{prim_of}
use Rattle.handler_code.specs.declared.native.NativeCall.{NativeCall}
use Rattle.handler_code.specs.declared.native.Next as written
use Rattle.handler_code.specs.declared.native.Next.TheVariants as next

abbrev pub call_asked : NativeCall → Prim × List Value
call_asked c = (prim_of c.prim, map view (items_of c.args))

abbrev pub asked_of : written.Next → Option (Prim × List Value)
asked_of (next.Call c) = Some (call_asked c)
asked_of next.Done = None

-- a native's call that the machine makes, with each empty list as nil
abbrev pub allowed : Program → State → Prim × List Value → Option (Prim × List Value)
allowed program s c = elim (is_callable program s c) [ true ↦ Some (c.0, map normal c.1) | false ↦ None ]

-- the answer of a reply, and nil where it was refused
abbrev pub answer_of : Reply → Value
answer_of (Answered v) = v
answer_of (Refused f) = Nil
