use Rattle.std.proofs.Common.{arith}
use Rattle.layer_rows.proofs.UptoLemmas.{all_upto, all_room}
use Rattle.layer_rows.proofs.overlays.put_in.Goals as goal

pub note_insert-requires : goal.note_insert-requires
note_insert-requires c = all_room 0 c.args.most c.args.overlays.now (omega (arith, c.requires.room)) c.requires.upto

pub returns : goal.returns
returns c = rw c.note_insert.ensures (all_upto 0 c.args.at c.args.most c.args.overlays.now c.requires.upto)
