use Rattle.buffer_table.specs.Kept.{editor_of}
use Rattle.kernel_state.proofs.Lives.{may_be_killed}
use Rattle.kernel_state.proofs.buffers.kill_one.Goals as goal

pub kill-requires-clause-room : goal.kill-requires-clause-room
kill-requires-clause-room c = may_be_killed (editor_of c.args.kernel.now.editor) c.args.buffer c.requires.live c.requires.free
