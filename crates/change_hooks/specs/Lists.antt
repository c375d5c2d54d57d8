-- The lists of the buffers as the code keeps them.
use Rattle.std.specs.Prelude.{◌≡◌, ℕ, ◌<◌, ◌≤◌, Bool, false, ◌==◌, List, [], ◌∷◌, map, length}
use Rattle.std.specs.List.{list_any}
use Rattle.editor_model.specs.Limits.{most_buffers}
use Rattle.plain_machine.specs.State.{HookLists}
use Rattle.plain_machine.specs.Hooks.{most_hooks}
use Rattle.ek_types.specs.Listing.{items_of}
use Rattle.ek_types.specs.Property.{number_of}
use Rattle.change_hooks.specs.declared.lists.BufferHooks.{BufferHooks}

abbrev pub lists_of : BufferHooks → HookLists
lists_of h = record { before = map number_of (items_of h.before); after = map number_of (items_of h.after) }

-- a buffer with its lists
abbrev pub entry_of : BufferHooks → ℕ × HookLists
entry_of h = (h.buffer, lists_of h)

abbrev pub is_of : (buffer : ℕ) → ℕ × HookLists → Bool
is_of b h = h.0 == b

-- buffers that may be made, each once, with lists that aren't longer than they may be
abbrev pub AreKept : List (ℕ × HookLists) → Type 0
AreKept [] = Unit {0}
AreKept (h ∷ rest) = (h.0 < most_buffers) × (length h.1.before ≤ most_hooks) ×
    (length h.1.after ≤ most_hooks) × (list_any (is_of h.0) rest ≡ false) × AreKept rest
