use Rattle.std.proofs.Common.{◌≡◌, map, take}
use Rattle.std.specs.String.{string_bytes}
use Rattle.line_session.specs.Script.{command_of}
use Rattle.line_session.specs.Replies.{values_of}
use Rattle.line_session.proofs.command.command.Given as goal

-- the words so far
abbrev pub invariant-loop-i : goal.invariant-loop-i
invariant-loop-i l = values_of l.command ≡ command_of l.program (map string_bytes (take l.i l.args))
