-- A buffer beside which no other lives is the last.
use Rattle.std.proofs.Common.{◌≡◌, ℕ, zero, suc, ◌+◌, ◌<◌, Bool, true, false, List, [], ◌∷◌, length, refl, ap, ◌∙◌, subst, arith}
use Rattle.std.specs.Prelude.{◌==◌, Option, Some, None, slice_get, slice_set, unwrap_or, is_some, nat_lt}
use Rattle.std.proofs.lemmas.Bool.{eq-eqb, ltb-true}
use Rattle.text_model.specs.PropertyQuestions.{first}
use Rattle.editor_model.specs.Values.{Fault, TooMany}
use Rattle.editor_model.specs.Answers.{refuse}
use Rattle.editor_model.specs.Arguments.{must_be_fewer}
use Rattle.editor_model.specs.Limits.{most_buffers}
use Rattle.editor_model.specs.Editor.{Editor, Live, live_from, is_live}
use Rattle.plain_machine.specs.Refusals.{is_last, must_be_replaceable, only_where}

abbrev alone : ℕ → List ℕ → Bool
alone b ids = elim ids [ c ∷ [] ↦ c == b | _ ↦ false ]

alone_from : (i j : ℕ) (buffers : List (Option Live)) (l : Live) → slice_get buffers j ≡ Some (Some l) → live_from i (slice_set buffers j None) ≡ [] → live_from i buffers ≡ (i + j) ∷ []
alone_from i zero [] l here none = cc
alone_from i zero (None ∷ buffers) l here none = cc
alone_from i zero (Some m ∷ buffers) l here none =
    let n : i ≡ i + 0 = omega arith in
    ap (λ ids. i ∷ ids) none ∙ ap (λ k. k ∷ []) n
alone_from i (suc j) [] l here none = cc
alone_from i (suc j) (None ∷ buffers) l here none =
    let n : i + 1 + j ≡ i + suc j = omega arith in
    alone_from (i + 1) j buffers l here none ∙ ap (λ k. k ∷ []) n
alone_from i (suc j) (Some m ∷ buffers) l here none = cc

nothing_first : (ids : List ℕ) → None ≡ first ids → ids ≡ []
nothing_first [] h = refl
nothing_first (id ∷ ids) h = cc

held : (o : Option (Option Live)) → is_some (unwrap_or o None) ≡ true → (l : Live) × (o ≡ Some (Some l))
held None h = cc
held (Some None) h = cc
held (Some (Some l)) h = (l, refl)

alone_is_last : (e : Editor) (b : ℕ) → is_live e b ≡ true → None ≡ first (live_from 0 (slice_set e.buffers b None)) → is_last e b ≡ true
alone_is_last e b lives none =
    let one = held (slice_get e.buffers b) lives in
    let n : 0 + b ≡ b = omega arith in
    ap (alone b) (alone_from 0 b e.buffers one.0 one.1 (nothing_first (live_from 0 (slice_set e.buffers b None)) none) ∙ ap (λ k. k ∷ []) n) ∙ eq-eqb b b refl

passed : (f : Fault) (b : Bool) → refuse f b ≡ None → b ≡ true
passed f true h = refl
passed f false h = absurd (let x : Some f ≡ None = h in cc)

-- it may be killed only where one more can be made
pub may_be_killed : (e : Editor) (b : ℕ) → is_live e b ≡ true → must_be_replaceable e b ≡ None → None ≡ first (live_from 0 (slice_set e.buffers b None)) → length e.buffers < 256
may_be_killed e b lives free none =
    ltb-true (length e.buffers) 256 (passed TooMany (nat_lt (length e.buffers) 256) (subst (λ (last : Bool). only_where last (must_be_fewer most_buffers (length e.buffers)) ≡ None) (alone_is_last e b lives none) free))
