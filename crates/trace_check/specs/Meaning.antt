-- What items and the list of work stand for.
use Rattle.std.specs.Prelude.{ℕ, ◌-◌, List, [], ◌∷◌, map, drop, option_map, vec_len, vec_capacity}
use Rattle.ek_types.specs.Listing.{items_of}
use Rattle.ek_types.specs.Property.{number_of}
use Rattle.ek_call.specs.Faults.{fault_of}
use Rattle.ek_call.specs.Meaning.{form_of, joined, reply_of, view}
use Rattle.ek_call.specs.Primitives.{prim_of}
use Rattle.prim_changes.specs.Meaning.{change_of}
use Rattle.kernel_steps.specs.Blocks.{kept_as}
use Rattle.kernel_steps.specs.Handlers.{kind_of}
use Rattle.plain_machine.specs.Items as plain
use Rattle.trace_check.specs.declared.item.Item.{Item}
use Rattle.trace_check.specs.declared.item.Item.TheVariants as item
use Rattle.trace_check.specs.declared.item.Target.{Target}
use Rattle.trace_check.specs.declared.item.Target.TheVariants as target
use Rattle.trace_check.specs.declared.work.Work.{Work}

abbrev pub target_of : Target → plain.Target
target_of target.Nowhere = plain.Nowhere
target_of (target.Name name) = plain.ToName name.0
target_of target.Native = plain.ToNative

abbrev pub item_of : Item → plain.Item
item_of (item.Top forms at) = plain.Top (joined (drop at (map form_of (items_of forms))))
item_of (item.Body forms at) = plain.Body (joined (drop at (map form_of (items_of forms))))
item_of (item.DoForm form) = plain.DoForm (form_of form)
item_of (item.MakeCall prim args to) = plain.MakeCall (prim_of prim) (map view (items_of args)) (target_of to)
item_of (item.Leave kept) = plain.Leave (kept_as kept)
item_of (item.GiveAnswer value to) = plain.GiveAnswer (view value) (target_of to)
item_of (item.Refuse fault) = plain.Refuse (fault_of fault)
item_of (item.MakeChange change) = plain.MakeChange (change_of change)
item_of (item.Hooks kind names at args) =
    plain.Hooks (kind_of kind) (drop at (map number_of (items_of names))) (map view (items_of args))
item_of (item.Calm old) = plain.Calm old
item_of (item.CommitChange change) = plain.CommitChange (change_of change)
item_of (item.Enter kind handler args) =
    plain.Enter (kind_of kind) (option_map number_of handler) (map view (items_of args))
item_of (item.Native native args past) =
    plain.Native native (map view (items_of args)) (map reply_of (items_of past))
item_of (item.Called native args past) =
    plain.Called native (map view (items_of args)) (map reply_of (items_of past))
item_of (item.Exit kind handler current faulted) =
    plain.Exit (kind_of kind) (option_map number_of handler) current faulted
item_of (item.Wait wait to) = plain.Wait wait (target_of to)
item_of (item.Delete p) = plain.Delete p
item_of (item.KillBuffer buffer to) = plain.KillBuffer buffer (target_of to)
item_of (item.Finish p) = plain.Finish p
item_of item.WriteDump = plain.WriteDump

-- the next item lies at the end
abbrev pub in_front : List Item → List plain.Item → List plain.Item
in_front [] rest = rest
in_front (x ∷ items) rest = in_front items (item_of x ∷ rest)

abbrev pub work_of : List Item → List plain.Item
work_of items = in_front items []

-- the work that is left, and how many more items have a place with no memory taken
abbrev pub list_of : Work → List plain.Item
list_of w = work_of w.items.items

abbrev pub places_of : Work → ℕ
places_of w = vec_capacity w.items - vec_len w.items
