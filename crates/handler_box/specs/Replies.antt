-- The replies that a shipped handler has had, and what it wants of them.
use Rattle.std.specs.Prelude.{Bool, true, false, ◌&&◌, List, [], ◌∷◌, map}
use Rattle.editor_model.specs.Values.{Value, Reply, Answered, Refused}
use Rattle.plain_machine.specs.Shipped.{Wanted, ABuffer, AMarker, ANumber, Anything, is_wanted}
use Rattle.ek_types.specs.Listing.{items_of}
use Rattle.ek_types.specs.declared.list.ListOf.{ListOf}
use Rattle.ek_call.specs.Meaning.{reply_of}
use Rattle.handler_code.specs.Calls.{answer_of}
use Rattle.ek_call.specs.declared.reply.Reply as written
use Rattle.handler_box.specs.declared.replies.Wanted as declared
use Rattle.handler_box.specs.declared.replies.Wanted.TheVariants as wanted

abbrev pub wanted_of : declared.Wanted → Wanted
wanted_of wanted.Buffer = ABuffer
wanted_of wanted.Marker = AMarker
wanted_of wanted.Number = ANumber
wanted_of wanted.Anything = Anything

-- a reply is an answer of the kind that is wanted
abbrev pub is_kept : Reply → Wanted → Bool
is_kept (Answered v) w = is_wanted w v
is_kept (Refused f) w = false

-- each reply so far is, and there are no more than are wanted
abbrev pub are_kept : List Reply → List Wanted → Bool
are_kept [] wanted = true
are_kept (r ∷ past) [] = false
are_kept (r ∷ past) (w ∷ wanted) = is_kept r w && are_kept past wanted

abbrev pub answers_of : ListOf written.Reply → List Value
answers_of past = map answer_of (map reply_of (items_of past))

-- what the calls of the insert filter, and those of the note sentinel, have to answer
abbrev pub insert_wanted : List Wanted
insert_wanted = ABuffer ∷ Anything ∷ ANumber ∷ AMarker ∷ ANumber ∷ Anything ∷ Anything ∷ ANumber ∷ Anything ∷ []

abbrev pub note_wanted : List Wanted
note_wanted = ABuffer ∷ Anything ∷ ANumber ∷ Anything ∷ Anything ∷ []
