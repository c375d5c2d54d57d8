-- The first item of the work, taken for what stands behind it.
use Rattle.std.proofs.Common.{◌≡◌, List, ◌∷◌, refl}
use Rattle.editor_model.specs.Values.{Reply}
use Rattle.plain_machine.specs.Items.{Item}
use Rattle.plain_machine.specs.Forms.{kept_reply}
use Rattle.plain_machine.specs.Handling.{without_hooks_item}
use Rattle.trace_check.specs.declared.item.Item.{Item as Piece}
use Rattle.trace_check.specs.declared.item.Item.TheVariants as item
use Rattle.trace_check.specs.Meaning.{item_of}

-- a reply is kept by the native in front alone
pub reply_goes_by : (x : Piece) → ((native : _) (args : _) (past : _) → x ≡ item.Called native args past → ⊥) → (r : Reply) (rest : List Item) → kept_reply r (item_of x ∷ rest) ≡ item_of x ∷ rest
reply_goes_by (item.Called native args past) a r rest = absurd (a native args past refl)
reply_goes_by (item.Top forms at) a r rest = refl
reply_goes_by (item.Body forms at) a r rest = refl
reply_goes_by (item.DoForm form) a r rest = refl
reply_goes_by (item.MakeCall prim args to) a r rest = refl
reply_goes_by (item.Leave kept) a r rest = refl
reply_goes_by (item.GiveAnswer value to) a r rest = refl
reply_goes_by (item.Refuse fault) a r rest = refl
reply_goes_by (item.MakeChange change) a r rest = refl
reply_goes_by (item.Hooks kind names at args) a r rest = refl
reply_goes_by (item.Calm old) a r rest = refl
reply_goes_by (item.CommitChange change) a r rest = refl
reply_goes_by (item.Enter kind handler args) a r rest = refl
reply_goes_by (item.Native native args past) a r rest = refl
reply_goes_by (item.Exit kind handler current faulted) a r rest = refl
reply_goes_by (item.Wait wait to) a r rest = refl
reply_goes_by (item.Delete p) a r rest = refl
reply_goes_by (item.KillBuffer buffer to) a r rest = refl
reply_goes_by (item.Finish p) a r rest = refl
reply_goes_by item.WriteDump a r rest = refl

-- hook functions go where they stand in front alone
pub others_stay : (x : Piece) → ((kind : _) (names : _) (at : _) (args : _) → x ≡ item.Hooks kind names at args → ⊥) → (rest : List Item) → without_hooks_item (item_of x ∷ rest) ≡ item_of x ∷ rest
others_stay (item.Hooks kind names at args) a rest = absurd (a kind names at args refl)
others_stay (item.Top forms at) a rest = refl
others_stay (item.Body forms at) a rest = refl
others_stay (item.DoForm form) a rest = refl
others_stay (item.MakeCall prim args to) a rest = refl
others_stay (item.Leave kept) a rest = refl
others_stay (item.GiveAnswer value to) a rest = refl
others_stay (item.Refuse fault) a rest = refl
others_stay (item.MakeChange change) a rest = refl
others_stay (item.Calm old) a rest = refl
others_stay (item.CommitChange change) a rest = refl
others_stay (item.Enter kind handler args) a rest = refl
others_stay (item.Native native args past) a rest = refl
others_stay (item.Called native args past) a rest = refl
others_stay (item.Exit kind handler current faulted) a rest = refl
others_stay (item.Wait wait to) a rest = refl
others_stay (item.Delete p) a rest = refl
others_stay (item.KillBuffer buffer to) a rest = refl
others_stay (item.Finish p) a rest = refl
others_stay item.WriteDump a rest = refl
