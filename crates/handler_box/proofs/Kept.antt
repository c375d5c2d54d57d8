-- Whether the replies are as wanted, as a loop tests it; and what a call answers is carried over.
use Rattle.std.proofs.Common.{◌≡◌, ◌<◌, ◌≤◌, ℕ, ◌+◌, Bool, true, false, ◌&&◌, List, [], ◌∷◌, length, drop, map, refl, ap, ◌∙◌, slice_get, Some, arith}
use Rattle.std.specs.Prelude.{Ok, Err, Result, IfOk, unwrap_or, option_map}
use Rattle.std.proofs.lemmas.List.{drop_all}
use Rattle.std.proofs.lemmas.Option.{slice_get-map}
use Rattle.text_model.proofs.Lists.{drop_at}
use Rattle.editor_model.specs.Arguments.{arg}
use Rattle.editor_model.specs.Values.{Nil, Reply}
use Rattle.plain_machine.specs.Shipped.{Wanted}
use Rattle.handler_code.specs.Calls.{answer_of}
use Rattle.handler_box.specs.Replies.{is_kept, are_kept}

pub too_many : (past : List Reply) (wanted : List Wanted) → length wanted < length past → are_kept past wanted ≡ false
too_many [] wanted more = absurd (omega arith)
too_many (r ∷ past) [] more = refl
too_many (r ∷ past) (w ∷ wanted) more = go (is_kept r w) (too_many past wanted (omega arith))
  where
    go : (t : Bool) → are_kept past wanted ≡ false → (t && are_kept past wanted) ≡ false
    go true later = later
    go false later = refl

kept_from : (past : List Reply) (wanted : List Wanted) (i : ℕ) (r : Reply) (w : Wanted) → slice_get past i ≡ Some r → slice_get wanted i ≡ Some w → are_kept (drop i past) (drop i wanted) ≡ (is_kept r w && are_kept (drop (i + 1) past) (drop (i + 1) wanted))
kept_from past wanted i r w at there = ap (λ p. are_kept p (drop i wanted)) (drop_at past i r at) ∙ ap (are_kept (r ∷ drop (i + 1) past)) (drop_at wanted i w there)

pub kept_more : (past : List Reply) (wanted : List Wanted) (i : ℕ) (r : Reply) (w : Wanted) → slice_get past i ≡ Some r → slice_get wanted i ≡ Some w → are_kept past wanted ≡ are_kept (drop i past) (drop i wanted) → is_kept r w ≡ true → are_kept past wanted ≡ are_kept (drop (i + 1) past) (drop (i + 1) wanted)
kept_more past wanted i r w at there so_far is = so_far ∙ kept_from past wanted i r w at there ∙ ap (λ b. b && are_kept (drop (i + 1) past) (drop (i + 1) wanted)) is

pub unkept_here : (past : List Reply) (wanted : List Wanted) (i : ℕ) (r : Reply) (w : Wanted) → slice_get past i ≡ Some r → slice_get wanted i ≡ Some w → are_kept past wanted ≡ are_kept (drop i past) (drop i wanted) → is_kept r w ≡ false → are_kept past wanted ≡ false
unkept_here past wanted i r w at there so_far is = so_far ∙ kept_from past wanted i r w at there ∙ ap (λ b. b && are_kept (drop (i + 1) past) (drop (i + 1) wanted)) is

pub all_kept : (past : List Reply) (wanted : List Wanted) (i : ℕ) → length past ≤ i → are_kept past wanted ≡ are_kept (drop i past) (drop i wanted) → are_kept past wanted ≡ true
all_kept past wanted i end so_far = so_far ∙ ap (λ p. are_kept p (drop i wanted)) (drop_all i past end)

pub arg_answers : (past : List Reply) (i : ℕ) → arg (map answer_of past) i ≡ unwrap_or (option_map answer_of (slice_get past i)) Nil
arg_answers past i = ap (λ o. unwrap_or o Nil) (slice_get-map answer_of past i)

pub if_ok_same : {T E B : Type 0} (f : T → B) (r : Result T E) (a b : B) → IfOk r (λ x. f x ≡ a) → a ≡ b → IfOk r (λ x. f x ≡ b)
if_ok_same f (Ok x) a b is same = is ∙ same
if_ok_same f (Err e) a b is same = is
