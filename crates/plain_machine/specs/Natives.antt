-- Handlers that aren't written in the script but in the program: what their calls may hold. A native is
-- seen as a function of its arguments and of the replies that its calls have had so far.
use Rattle.std.specs.Prelude.{ℕ, Bool, true, ◌&&◌, nat_lt, nat_le, List, length}
use Rattle.std.specs.List.{list_all}
use Rattle.text_model.specs.Properties.{PropSet, PropVal, Symbol, Symbols}
use Rattle.editor_model.specs.Values.{Value, Values, Nil, Sym, Str, Items, Dotted, TheBuffer, TheMarker}
use Rattle.editor_model.specs.Values.{TheOverlay, TheProcess, End, More, Prim}
use Rattle.editor_model.specs.Prims.{arity}
use Rattle.plain_machine.specs.State.{State, Program}

-- the empty list is nil, in every value
abbrev mutual
  pub normal : Value → Value
  normal (Items End) = Nil
  normal (Items (More v vs)) = Items (More (normal v) (normal_each vs))
  normal (Dotted vs v) = Dotted (normal_each vs) (normal v)
  normal v = v

  pub normal_each : Values → Values
  normal_each End = End
  normal_each (More v vs) = More (normal v) (normal_each vs)

-- WHAT WAS MADE
abbrev pub is_symbol_there : Program → ℕ → Bool
is_symbol_there program n = nat_lt n (length program.symbols)

abbrev pub prop_was_made : Program → PropVal → Bool
prop_was_made program (Symbol n) = is_symbol_there program n
prop_was_made program (Symbols names) = list_all (is_symbol_there program) names
prop_was_made program _ = true

abbrev pub set_was_made : Program → PropSet → Bool
set_was_made program set = list_all (λ p. is_symbol_there program p.0 && prop_was_made program p.1) set

-- all buffers, markers, overlays, processes and symbols in a value
abbrev mutual
  pub was_made : Program → State → Value → Bool
  was_made program s (Sym n) = is_symbol_there program n
  was_made program s (Str text) = list_all (λ c. set_was_made program c.1) text
  was_made program s (Items vs) = each_was_made program s vs
  was_made program s (Dotted vs v) = each_was_made program s vs && was_made program s v
  was_made program s (TheBuffer b) = nat_lt b (length s.editor.buffers)
  was_made program s (TheMarker k) = nat_lt k (length s.editor.marks.markers)
  was_made program s (TheOverlay k) = nat_lt k (length s.editor.marks.overlays)
  was_made program s (TheProcess p) = nat_lt p (length s.processes)
  was_made program s v = true

  pub each_was_made : Program → State → Values → Bool
  each_was_made program s End = true
  each_was_made program s (More v vs) = was_made program s v && each_was_made program s vs

-- a call takes so many arguments
abbrev pub takes : Prim → ℕ → Bool
takes prim n = nat_le (arity prim).0 n && nat_le n (arity prim).1

-- a native's call is one that the script might make: as many arguments as it takes, and nothing that was
-- never made
abbrev pub is_callable : Program → State → Prim × List Value → Bool
is_callable program s c = takes c.0 (length c.1) && list_all (was_made program s) c.1
