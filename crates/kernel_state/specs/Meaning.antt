-- What a kernel stands for.
use Rattle.std.specs.Prelude.{List, [], ◌∷◌, map, reverse}
use Rattle.plain_machine.specs.State.{State, Scope}
use Rattle.buffer_table.specs.Kept.{editor_of, registers_of}
use Rattle.kernel_state.specs.declared.kernel.KernelState.{KernelState}
use Rattle.kernel_state.specs.declared.scopes.Scopes.{Scopes}

-- the parameters of each handler that is running, the innermost first
abbrev pub scopes_of : Scopes → List Scope
scopes_of s = reverse (map (λ scope. registers_of scope.items) s.list.items)

abbrev pub innermost : List Scope → Scope
innermost [] = []
innermost (scope ∷ rest) = scope

-- the state of the machine, with what the decoders hold in the place of all bytes read
abbrev pub state_of : KernelState → State
state_of k = record {
  editor = editor_of k.editor;
  hooks = k.hooks.lists;
  inhibited = k.hooks.inhibited;
  processes = k.processes;
  scopes = scopes_of k.scopes;
  depth = k.depth;
  asked = k.asked;
  sent = k.sent;
}
