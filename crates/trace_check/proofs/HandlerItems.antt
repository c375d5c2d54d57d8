-- Natives, and lines of handlers.
use Rattle.std.proofs.Common.{◌≡◌, ℕ, ◌<◌, ◌≤◌, List, ◌∷◌, length, refl, ap, sym, ◌∙◌, map}
use Rattle.std.specs.Prelude.{Option, Some, None, Bool, true, false, nat_lt}
use Rattle.std.proofs.lemmas.Bool.{lt-ltb, le-ltb}
use Rattle.editor_model.specs.Values.{Value, WrongType, Reply, Prim}
use Rattle.plain_machine.specs.State.{State, Program}
use Rattle.plain_machine.specs.Items.{Item, Native, Called, MakeCall, Refuse, ToNative}
use Rattle.plain_machine.specs.Calls.{on}
use Rattle.plain_machine.specs.Natives.{normal, is_callable}
use Rattle.plain_machine.specs.Handling.{native_call, native_next}
use Rattle.plain_machine.specs.Step.{step}
use Rattle.handler_code.specs.Calls.{allowed}
use Rattle.kernel_steps.specs.Outside.{deepest}
use Rattle.kernel_steps.specs.Work.{working}
use Rattle.kernel_steps.specs.Worlds.{Stands}
use Rattle.kernel_steps.proofs.Defaults.{barred_item, callable_alike, made_item}
use Rattle.trace_check.specs.Steps.{Quietly}
use Rattle.trace_check.proofs.Quiet.{stays_put}

-- CALLS OF NATIVES
abbrev item_by : Bool → Prim × List Value → Item
item_by b c = elim b [ true ↦ MakeCall c.0 (map normal c.1) ToNative | false ↦ Refuse WrongType ]

abbrev allowed_by : Bool → Prim × List Value → Option (Prim × List Value)
allowed_by b c = elim b [ true ↦ Some (c.0, map normal c.1) | false ↦ None ]

pub call_made : (program : Program) (s : State) (c d : Prim × List Value) → Some d ≡ allowed program s c → MakeCall d.0 d.1 ToNative ≡ native_call program s c
call_made program s c d e = sym (made_item (is_callable program s c) c d e)

pub call_barred : (program : Program) (s : State) (c : Prim × List Value) → None ≡ allowed program s c → Refuse WrongType ≡ native_call program s c
call_barred program s c e = sym (barred_item (is_callable program s c) c e)

call_alike : (program : Program) (known s : State) (c : Prim × List Value) → Stands known s → native_call program known c ≡ native_call program s c
call_alike program known s c h = ap (λ b. item_by b c) (callable_alike program known s c h)

module _ (program : Program) (known : State) (rest : List Item) (i : ℕ) (args : List Value) (past : List Reply) where
  next_step : (b : Bool) (o : Option (Prim × List Value)) → nat_lt (length past) 256 ≡ b → program.does i args past ≡ o → (s : State) → step program deepest (working s (Native i args past ∷ rest)) ≡ native_next b o program s i args past rest
  next_step b o room is s = ap (λ x. native_next x (program.does i args past) program s i args past rest) room ∙ ap (λ x. native_next b x program s i args past rest) is

  pub native_asks : (c : Prim × List Value) (left : List Item) → length past < 256 → Some c ≡ program.does i args past → left ≡ native_call program known c ∷ Called i args past ∷ rest → Quietly program known known (Native i args past ∷ rest) left
  native_asks c left room is e = stays_put program known _ left (λ s h. next_step true (Some c) (lt-ltb (length past) 256 room) (sym is) s ∙ ap (λ x. on s (x ∷ Called i args past ∷ rest)) (sym (call_alike program known s c h)) ∙ ap (on s) (sym e))

  pub native_done : length past < 256 → None ≡ program.does i args past → Quietly program known known (Native i args past ∷ rest) rest
  native_done room is = stays_put program known _ rest (λ s h. next_step true None (lt-ltb (length past) 256 room) (sym is) s)

  pub native_spent : 256 ≤ length past → Quietly program known known (Native i args past ∷ rest) rest
  native_spent room = stays_put program known _ rest (λ s h. next_step false (program.does i args past) (le-ltb (length past) 256 room) refl s)
