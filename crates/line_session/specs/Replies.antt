-- The arguments and replies of a native in the code, and which replies are answers.
use Rattle.std.specs.Prelude.{ℕ, zero, suc, Bool, true, false, ◌&&◌, List, [], ◌∷◌, map}
use Rattle.editor_model.specs.Values.{Value, Reply, Answered, Refused}
use Rattle.editor_model.specs.Arguments.{arg}
use Rattle.ek_types.specs.Listing.{items_of}
use Rattle.ek_types.specs.declared.list.ListOf.{ListOf}
use Rattle.ek_call.specs.Meaning.{view, reply_of}
use Rattle.handler_code.specs.Calls.{answer_of}
use Rattle.ek_call.specs.declared.reply.Reply as written
use Rattle.ek_call.specs.declared.value.Value as written_value

abbrev pub values_of : ListOf written_value.Value → List Value
values_of values = map view (items_of values)

abbrev pub replies_of : List written.Reply → List Reply
replies_of replies = map reply_of replies

-- the two arguments of a native: the process, and what is told of it
abbrev pub process_of : ListOf written_value.Value → Value
process_of args = arg (values_of args) 0

abbrev pub told_of : ListOf written_value.Value → Value
told_of args = arg (values_of args) 1

abbrev pub is_answer : Reply → Bool
is_answer (Answered v) = true
is_answer (Refused f) = false

-- the first so many replies are there and are answers
abbrev pub has_answers : (count : ℕ) → List Reply → Bool
has_answers zero past = true
has_answers (suc n) [] = false
has_answers (suc n) (r ∷ past) = is_answer r && has_answers n past

abbrev pub answers_of : List written.Reply → List Value
answers_of past = map answer_of (replies_of past)
