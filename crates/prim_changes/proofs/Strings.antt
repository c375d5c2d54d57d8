-- The contents of strings, one behind the other.
use Rattle.std.proofs.Common.{◌≡◌, ℕ, Bool, true, false, ◌+◌, ◌≤◌, List, [], ◌∷◌, ◌++◌, length, map, drop, sym, ap, ◌∙◌, append_assoc, append-nil, arith, refl}
use Rattle.std.specs.Prelude.{slice_get, Option, Some, None, ◌==◌}
use Rattle.std.proofs.lemmas.List.{drop_all, length-append, map-append}
use Rattle.std.proofs.lemmas.Option.{same_Some}
use Rattle.std.proofs.lemmas.Bool.{eqb-true}
use Rattle.std.proofs.lemmas.Grind.{flat_map-append}
use Rattle.text_model.proofs.Lists.{drop_at}
use Rattle.text_model.specs.Properties.{Cell, PropSet, put_all}
use Rattle.editor_model.specs.Values.{Value, Nil, Fault}
use Rattle.editor_model.specs.Answers as answers
use Rattle.editor_model.specs.Answers.{Test, first_fault}
use Rattle.editor_model.specs.Arguments.{must_be_string, string_of}
use Rattle.ek_call.specs.Meaning.{view}
use Rattle.ek_call.specs.declared.value.Value.{fold-roll-Value}
use Rattle.ek_call.specs.declared.value.Value.TheOpen.{Value-F}
use Rattle.ek_call.specs.declared.value.Value.TheVariants as value
use Rattle.editor_model.specs.TextCalls.{joined, with_inherited, insertion}
use Rattle.prop_intervals.specs.Sets.{together}

pub contents_more : (set : PropSet) (args : List Value) (old new : List (List Cell)) (piece whole : List Cell) (i : ℕ) (v : Value) → slice_get args i ≡ Some v → new ≡ old ++ piece ∷ [] → piece ≡ with_inherited set (string_of v)
    → together old ++ with_inherited set (joined (drop i args)) ≡ whole → together new ++ with_inherited set (joined (drop (i + 1) args)) ≡ whole
contents_more set args old new piece whole i v at pushed is inv =
    let rest = joined (drop (i + 1) args) in
    let more : together new ≡ together old ++ piece = ap together pushed ∙ flat_map-append (λ q. q) old (piece ∷ []) ∙ ap (λ q. together old ++ q) (append-nil piece) in
    ap (λ l. l ++ with_inherited set rest) more ∙ ap (λ q. (together old ++ q) ++ with_inherited set rest) is
    ∙ append_assoc (together old) (with_inherited set (string_of v)) (with_inherited set rest)
    ∙ ap (λ q. together old ++ q) (sym (map-append (λ c. (c.0, put_all set c.1)) (string_of v) rest))
    ∙ ap (λ s. together old ++ with_inherited set (joined s)) (sym (drop_at args i v at)) ∙ inv

pub contents_all : (set : PropSet) (args : List Value) (pieces : List (List Cell)) (i : ℕ) → length args ≤ i → together pieces ++ with_inherited set (joined (drop i args)) ≡ with_inherited set (joined args)
    → together pieces ≡ with_inherited set (joined args)
contents_all set args pieces i l inv = sym (append-nil (together pieces)) ∙ ap (λ s. together pieces ++ with_inherited set (joined s)) (sym (drop_all i args l)) ∙ inv

pub alone_contents : (set : PropSet) (args : List Value) (piece : List Cell) (v : Value) → length args ≡ 1 → slice_get args 0 ≡ Some v → piece ≡ with_inherited set (string_of v) → piece ≡ with_inherited set (joined args)
alone_contents set [] piece v one at is = absurd (omega (arith, one))
alone_contents set (w ∷ []) piece v one at is = is ∙ ap (λ x. with_inherited set (string_of x)) (sym (same_Some w v at)) ∙ ap (with_inherited set) (sym (append-nil (string_of w)))
alone_contents set (w ∷ x ∷ args) piece v one at is = absurd (omega (arith, one))

-- INSERTIONS
nil_is : view value.Nil ≡ Nil
nil_is = ap view (sym value.rolls-Nil) ∙ fold-roll-Value _ _ Value-F.Nil

pub nothing_inserted : (id at : ℕ) (text : List Cell) (all : Bool) → (length text == 0) ≡ true → answers.Nothing (view value.Nil) ≡ insertion id at text all
nothing_inserted id at [] all h = ap answers.Nothing nil_is
nothing_inserted id at (c ∷ text) all h = let l : length (c ∷ text) ≡ 0 = eqb-true (length (c ∷ text)) 0 h in absurd (omega arith)

pub something_inserted : (id at : ℕ) (text : List Cell) (all : Bool) → (length text == 0) ≡ false
    → answers.Changes (record { buffer = id; from = at; to = at; what = answers.Put text all true false None; reply = view value.Nil }) ≡ insertion id at text all
something_inserted id at [] all h = cc
something_inserted id at (c ∷ text) all h = ap (λ (v : Value). answers.Changes (record { buffer = id; from = at; to = at; what = answers.Put (c ∷ text) all true false None; reply = v })) nil_is

-- TESTS
pub string_met : (args : List Value) (i : ℕ) (v : Value) (whole : Option Fault) → slice_get args i ≡ Some v → None ≡ must_be_string v → first_fault (map must_be_string (drop i args)) ≡ whole → first_fault (map must_be_string (drop (i + 1) args)) ≡ whole
string_met args i v whole at h inv =
    ap (λ t. first_fault (t ∷ map must_be_string (drop (i + 1) args))) h ∙ ap (λ s. first_fault (map must_be_string s)) (sym (drop_at args i v at)) ∙ inv

pub other_met : (args : List Value) (i : ℕ) (v : Value) (f : Fault) (whole : Option Fault) → slice_get args i ≡ Some v → Some f ≡ must_be_string v → first_fault (map must_be_string (drop i args)) ≡ whole → Some f ≡ whole
other_met args i v f whole at h inv =
    ap (λ t. first_fault (t ∷ map must_be_string (drop (i + 1) args))) h ∙ ap (λ s. first_fault (map must_be_string s)) (sym (drop_at args i v at)) ∙ inv

pub all_strings : (args : List Value) (i : ℕ) (whole : Option Fault) → length args ≤ i → first_fault (map must_be_string (drop i args)) ≡ whole → None ≡ whole
all_strings args i whole l inv = ap (λ s. first_fault (map must_be_string s)) (sym (drop_all i args l)) ∙ inv

pub counted : (args : List Value) (i total n whole : ℕ) (v : Value) → slice_get args i ≡ Some v → n ≡ length (string_of v) → total + length (joined (drop i args)) ≡ whole → total + n + length (joined (drop (i + 1) args)) ≡ whole
counted args i total n whole v at size inv =
    let split : length (joined (drop i args)) ≡ length (string_of v ++ joined (drop (i + 1) args)) = ap (λ s. length (joined s)) (drop_at args i v at) in
    omega (arith, length-append (string_of v) (joined (drop (i + 1) args)))

pub all_counted : (args : List Value) (i total whole : ℕ) → length args ≤ i → total + length (joined (drop i args)) ≡ whole → total ≡ whole
all_counted args i total whole l inv =
    let none : length (joined (drop i args)) ≡ 0 = ap (λ s. length (joined s)) (drop_all i args l) in
    omega arith

-- two groups of tests
pub first_of_both : (front behind : List Test) → None ≡ first_fault front → first_fault behind ≡ first_fault (front ++ behind)
first_of_both [] behind h = refl
first_of_both (None ∷ front) behind h = first_of_both front behind h
first_of_both (Some f ∷ front) behind h = cc

pub first_in_front : (front behind : List Test) (f : Fault) → Some f ≡ first_fault front → Some f ≡ first_fault (front ++ behind)
first_in_front [] behind f h = cc
first_in_front (None ∷ front) behind f h = first_in_front front behind f h
first_in_front (Some g ∷ front) behind f h = h

pub alone : (t : Test) → t ≡ first_fault (t ∷ [])
alone None = refl
alone (Some f) = refl
