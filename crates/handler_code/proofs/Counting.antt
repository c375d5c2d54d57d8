-- What was made is known by the counts alone.
use Rattle.std.proofs.Common.{◌≡◌, ℕ, ◌&&◌, nat_lt, List, refl, ap, ◌∙◌}
use Rattle.std.specs.List.{list_all}
use Rattle.std.proofs.lemmas.List.{length-replicate}
use Rattle.text_model.specs.Properties.{PropSet, PropVal, Truth, Number, Symbol, Symbols, Text}
use Rattle.editor_model.specs.Values.{Value, Values, Nil, T, Int, Sym, Str, Items, Dotted, TheBuffer, TheMarker, TheOverlay, TheProcess, End, More}
use Rattle.plain_machine.specs.State.{State, Program}
use Rattle.plain_machine.specs.Natives.{is_symbol_there, prop_was_made, set_was_made, was_made, each_was_made}
use Rattle.handler_code.specs.Counts.{AreMade, program_with, state_with}
use Rattle.handler_code.specs.declared.made.Made.{Made}
use Rattle.handler_code.proofs.Passing.{all_same}

symbol_same : (made : Made) (program : Program) (s : State) → AreMade made program s → (n : ℕ) → is_symbol_there (program_with made) n ≡ is_symbol_there program n
symbol_same made program s counts n = ap (nat_lt n) (length-replicate _ _ ∙ counts.0)

prop_same : (made : Made) (program : Program) (s : State) → AreMade made program s → (v : PropVal) → prop_was_made (program_with made) v ≡ prop_was_made program v
prop_same made program s counts Truth = refl
prop_same made program s counts (Number i) = refl
prop_same made program s counts (Symbol n) = symbol_same made program s counts n
prop_same made program s counts (Symbols names) = all_same (is_symbol_there (program_with made)) (is_symbol_there program) names (symbol_same made program s counts)
prop_same made program s counts (Text text) = refl

set_same : (made : Made) (program : Program) (s : State) → AreMade made program s → (set : PropSet) → set_was_made (program_with made) set ≡ set_was_made program set
set_same made program s counts set =
    all_same (λ p. is_symbol_there (program_with made) p.0 && prop_was_made (program_with made) p.1) (λ p. is_symbol_there program p.0 && prop_was_made program p.1) set
    (λ p. ap (λ b. b && prop_was_made (program_with made) p.1) (symbol_same made program s counts p.0) ∙ ap (λ b. is_symbol_there program p.0 && b) (prop_same made program s counts p.1))

mutual
  pub made_same : (made : Made) (program : Program) (s : State) → AreMade made program s → (v : Value) → was_made (program_with made) (state_with made) v ≡ was_made program s v
  made_same made program s counts Nil = refl
  made_same made program s counts T = refl
  made_same made program s counts (Int i) = refl
  made_same made program s counts (Sym n) = symbol_same made program s counts n
  made_same made program s counts (Str text) = all_same (λ c. set_was_made (program_with made) c.1) (λ c. set_was_made program c.1) text (λ c. set_same made program s counts c.1)
  made_same made program s counts (Items vs) = each_same made program s counts vs
  made_same made program s counts (Dotted vs v) = ap (λ b. b && was_made (program_with made) (state_with made) v) (each_same made program s counts vs) ∙ ap (λ b. each_was_made program s vs && b) (made_same made program s counts v)
  made_same made program s counts (TheBuffer b) = ap (nat_lt b) (length-replicate _ _ ∙ counts.1)
  made_same made program s counts (TheMarker k) = ap (nat_lt k) (length-replicate _ _ ∙ counts.2)
  made_same made program s counts (TheOverlay k) = ap (nat_lt k) (length-replicate _ _ ∙ counts.3)
  made_same made program s counts (TheProcess p) = ap (nat_lt p) (length-replicate _ _ ∙ counts.4)

  each_same : (made : Made) (program : Program) (s : State) → AreMade made program s → (vs : Values) → each_was_made (program_with made) (state_with made) vs ≡ each_was_made program s vs
  each_same made program s counts End = refl
  each_same made program s counts (More v vs) = ap (λ b. b && each_was_made (program_with made) (state_with made) vs) (made_same made program s counts v) ∙ ap (λ b. was_made program s v && b) (each_same made program s counts vs)

pub all_made_same : (made : Made) (program : Program) (s : State) → AreMade made program s → (vs : List Value) → list_all (was_made (program_with made) (state_with made)) vs ≡ list_all (was_made program s) vs
all_made_same made program s counts vs = all_same (was_made (program_with made) (state_with made)) (was_made program s) vs (made_same made program s counts)
