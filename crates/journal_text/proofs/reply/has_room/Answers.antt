use Rattle.std.proofs.Common.{◌≡◌, ℕ, refl}
use Rattle.ek_types.specs.declared.list.ListOf.{ListOf}
use Rattle.host_link.specs.declared.asking.Answer.{Answer}
use Rattle.host_link.specs.declared.asking.Answer.TheVariants as answer
use Rattle.host_link.specs.Meaning.{answer_of}
use Rattle.journal_text.specs.Replayed.{HasRoom}
use Rattle.journal_text.proofs.reply.has_room.Goals as goal

-- whatever holds no bytes fits
others_fit : (room : ℕ) (a : Answer) → ((bytes : ListOf ℕ) → a ≡ answer.Bytes bytes → ⊥) → HasRoom room (answer_of a)
others_fit room (answer.Started child) never = tt
others_fit room answer.Refused never = tt
others_fit room (answer.Bytes bytes) never = absurd (never bytes refl)
others_fit room answer.Nothing never = tt
others_fit room answer.End never = tt
others_fit room (answer.Code code) never = tt
others_fit room answer.Signal never = tt
others_fit room answer.Running never = tt
others_fit room answer.Sent never = tt
others_fit room answer.Broken never = tt
others_fit room answer.Closed never = tt
others_fit room answer.Killed never = tt
others_fit room answer.Failed never = tt

pub returns-in_default : goal.returns-in_default
returns-in_default c = others_fit c.args.room c.args.answer.now c.in_default.not-Bytes
