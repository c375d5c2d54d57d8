-- What a fault drops, item by item.
use Rattle.std.proofs.Common.{◌≡◌, ℕ, List, [], ◌∷◌, ◌++◌, refl, ap, sym, ◌∙◌}
use Rattle.editor_model.specs.Values.{Value, Reply, Refused, Fault, Forms}
use Rattle.plain_machine.specs.State.{State}
use Rattle.plain_machine.specs.Lines.{Kind}
use Rattle.plain_machine.specs.Items.{Item, Top, Called, Native, Exit, Leave, CommitChange, Kept}
use Rattle.plain_machine.specs.Forms.{dropped, popped, restored}
use Rattle.editor_model.specs.Answers.{Change}
use Rattle.kernel_steps.specs.Work.{working}
use Rattle.kernel_steps.proofs.KeptStates.{restored_apart}
use Rattle.std.specs.Prelude.{Bool, true, Option}
use Rattle.trace_check.specs.declared.item.Item.{Item as Piece}
use Rattle.trace_check.specs.declared.item.Item.TheVariants as item
use Rattle.trace_check.specs.Meaning.{item_of}
use Rattle.trace_check.specs.Steps.{Drops, Sheds}

module _ (f : Fault) (known : State) (rest left : List Item) where
  pub top_stays : (forms : Forms) → left ≡ Top forms ∷ rest → Drops f known known (Top forms ∷ rest) left
  top_stays forms e = λ s h. (s, h, ap (working s) (sym e))

  pub native_replied : (i : ℕ) (args : List Value) (past : List Reply) → left ≡ Native i args (past ++ Refused f ∷ []) ∷ rest → Drops f known known (Called i args past ∷ rest) left
  native_replied i args past e = λ s h. (s, h, ap (working s) (sym e))

  pub exit_faulted : (kind : Kind) (handler : Option ℕ) (c : ℕ) (faulted : Bool) → left ≡ Exit kind handler c true ∷ rest → Drops f known known (Exit kind handler c faulted ∷ rest) left
  exit_faulted kind handler c faulted e = λ s h. (s, h, ap (working s) (sym e))

module _ (f : Fault) (known known2 : State) (rest : List Item) where
  pub block_restored : (k : Kept) → known2 ≡ restored k known → Sheds f known known2 (Leave k ∷ rest) rest
  block_restored k now = λ s h. (restored k s, now ∙ ap (restored k) h ∙ (restored_apart k).kept_same s, refl)

  pub commit_dropped : (c : Change) → known2 ≡ popped known → Sheds f known known2 (CommitChange c ∷ rest) rest
  commit_dropped c now = λ s h. (popped s, now ∙ ap popped h, refl)

-- all others go
pub others_go : (x : Piece) → ((forms : _) (at : _) → x ≡ item.Top forms at → ⊥) → ((native : _) (args : _) (past : _) → x ≡ item.Called native args past → ⊥) → ((kind : _) (handler : _) (current : _) (faulted : _) → x ≡ item.Exit kind handler current faulted → ⊥) →
    ((kept : _) → x ≡ item.Leave kept → ⊥) → ((change : _) → x ≡ item.CommitChange change → ⊥) → (f : Fault) (rest : List Item) (s : State) → dropped f (item_of x ∷ rest) s ≡ dropped f rest s
others_go (item.Top forms at) a b c d e f rest s = absurd (a forms at refl)
others_go (item.Called native args past) a b c d e f rest s = absurd (b native args past refl)
others_go (item.Exit kind handler current faulted) a b c d e f rest s = absurd (c kind handler current faulted refl)
others_go (item.Leave kept) a b c d e f rest s = absurd (d kept refl)
others_go (item.CommitChange change) a b c d e f rest s = absurd (e change refl)
others_go (item.Body forms at) a b c d e f rest s = refl
others_go (item.DoForm form) a b c d e f rest s = refl
others_go (item.MakeCall prim args to) a b c d e f rest s = refl
others_go (item.GiveAnswer value to) a b c d e f rest s = refl
others_go (item.Refuse fault) a b c d e f rest s = refl
others_go (item.MakeChange change) a b c d e f rest s = refl
others_go (item.Hooks kind names at args) a b c d e f rest s = refl
others_go (item.Calm old) a b c d e f rest s = refl
others_go (item.Enter kind handler args) a b c d e f rest s = refl
others_go (item.Native native args past) a b c d e f rest s = refl
others_go (item.Wait wait to) a b c d e f rest s = refl
others_go (item.Delete p) a b c d e f rest s = refl
others_go (item.KillBuffer buffer to) a b c d e f rest s = refl
others_go (item.Finish p) a b c d e f rest s = refl
others_go item.WriteDump a b c d e f rest s = refl

pub other_dropped : (x : Piece) (f : Fault) (known : State) (rest : List Item) → ((s : State) → dropped f (item_of x ∷ rest) s ≡ dropped f rest s) → Sheds f known known (item_of x ∷ rest) rest
other_dropped x f known rest go = λ s h. (s, h, go s)

-- SEVERAL
pub shed_then : (f : Fault) (a b c : State) (work mid left : List Item) → Sheds f a b work mid → Drops f b c mid left → Drops f a c work left
shed_then f a b c work mid left first second = λ s h.
    let (t, stands, is) = first s h in
    let (u, stands2, is2) = second t stands in
    (u, stands2, is ∙ is2)

pub sheds_more : (f : Fault) (a b c : State) (work mid left : List Item) → Sheds f a b work mid → Sheds f b c mid left → Sheds f a c work left
sheds_more f a b c work mid left first second = λ s h.
    let (t, stands, is) = first s h in
    let (u, stands2, is2) = second t stands in
    (u, stands2, is ∙ is2)

pub sheds_nothing : (f : Fault) (a : State) (work : List Item) → Sheds f a a work work
sheds_nothing f a work = λ s h. (s, h, refl)

pub all_dropped : (f : Fault) (a b : State) (work left : List Item) → left ≡ [] → Sheds f a b work left → Drops f a b work left
all_dropped f a b work left none sheds = λ s h.
    let (t, stands, is) = sheds s h in
    (t, stands, is ∙ ap (λ l. dropped f l t) none ∙ ap (working t) (sym none))
