-- Lists of values: their normal form, and whether all in them was made.
use Rattle.std.proofs.Common.{◌≡◌, ◌<◌, ℕ, ◌&&◌, ◌+◌, List, [], ◌∷◌, ◌++◌, length, map, take, refl, ap, sym, ◌∙◌, slice_get, Some, arith}
use Rattle.std.specs.List.{list_all}
use Rattle.std.proofs.lemmas.List.{map-append}
use Rattle.text_model.proofs.Lists.{take_one_more}
use Rattle.ek_call.specs.Meaning.{view}
use Rattle.ek_call.specs.declared.value.Value.{Value as Written}
use Rattle.editor_model.specs.Values.{Value, Items, More, values}
use Rattle.plain_machine.specs.State.{State, Program}
use Rattle.plain_machine.specs.Natives.{normal, normal_each, was_made, each_was_made}

pub normal_list : (vs : List Value) → normal_each (values vs) ≡ values (map normal vs)
normal_list [] = refl
normal_list (v ∷ vs) = ap (More (normal v)) (normal_list vs)

pub normal_items : (vs : List Value) → 0 < length vs → normal (Items (values vs)) ≡ Items (values (map normal vs))
normal_items [] some = absurd (omega arith)
normal_items (v ∷ vs) some = ap (λ rest. Items (More (normal v) rest)) (normal_list vs)

pub each_made : (program : Program) (s : State) (vs : List Value) → each_was_made program s (values vs) ≡ list_all (was_made program s) vs
each_made program s [] = refl
each_made program s (v ∷ vs) = ap (λ b. was_made program s v && b) (each_made program s vs)

pub one_more_normal : (xs ys : List Written) (i : ℕ) (x y : Written) → slice_get xs i ≡ Some x → view y ≡ normal (view x) → map view ys ≡ map normal (map view (take i xs)) → map view (ys ++ y ∷ []) ≡ map normal (map view (take (i + 1) xs))
one_more_normal xs ys i x y at is so_far =
    map-append view ys (y ∷ [])
    ∙ ap (λ l. l ++ view y ∷ []) so_far
    ∙ ap (λ v. map normal (map view (take i xs)) ++ v ∷ []) is
    ∙ sym (map-append normal (map view (take i xs)) (view x ∷ []))
    ∙ ap (map normal) (sym (map-append view (take i xs) (x ∷ [])))
    ∙ ap (λ l. map normal (map view l)) (sym (take_one_more xs i x at))
