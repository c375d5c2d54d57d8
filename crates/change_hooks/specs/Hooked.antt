-- What concerns hooks in the machine's state.
use Rattle.std.specs.Prelude.{ℕ, Bool, List, if◌then◌else◌}
use Rattle.editor_model.specs.Editor.{new_editor}
use Rattle.plain_machine.specs.State.{State, HookLists, new_state}
use Rattle.plain_machine.specs.Hooks.{before_change_functions, after_change_functions, set_hook_list}

-- the two components of a state that concern hooks: the lists of each buffer, and whether no function is
-- entered
pub record Hooked : Type 0 where
  pub lists : List (ℕ × HookLists)
  pub inhibited : Bool

abbrev pub hooks_in : State → Hooked
hooks_in s = record { lists = s.hooks; inhibited = s.inhibited }

-- a state with these hooks, in which this buffer is current
abbrev pub state_with : Hooked → (current : ℕ) → State
state_with h b =
    record new_state { editor = record new_editor { current = b }; hooks = h.lists; inhibited = h.inhibited }

-- the symbol of the list before a change, or of the one behind it
abbrev pub hook : (before : Bool) → ℕ
hook before = if before then before_change_functions else after_change_functions

-- one list of a buffer, as the machine sets it
abbrev pub with_list : (buffer : ℕ) → (before : Bool) → List ℕ → Hooked → Hooked
with_list b before names h = hooks_in (set_hook_list b (hook before) names (state_with h b))
