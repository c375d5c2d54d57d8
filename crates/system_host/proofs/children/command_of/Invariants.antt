use Rattle.std.proofs.Common.{◌≡◌, ℕ, List, ◌++◌, map, drop, None, false, string_bytes}
use Rattle.std.specs.Process.{command_program, command_args, command_var, command_dir, clears_env}
use Rattle.system_host.proofs.children.command_of.Given as goal

abbrev pub invariant-words : goal.invariant-words
invariant-words l = record {
  program : command_program l.command ≡ l.program;
  args : command_args l.command ++ map string_bytes (drop l.word-index l.args) ≡ map string_bytes l.args;
  cleared : clears_env l.command ≡ false;
  environment : (name : List ℕ) → command_var l.command name ≡ None;
  folder : command_dir l.command ≡ None;
}
