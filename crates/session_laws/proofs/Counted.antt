-- The starts among the exchanges of a session, and what a kill at its end leaves.
use Rattle.std.proofs.Common.{◌≡◌, ◌⊎◌, inl, inr, ℕ, ◌+◌, Bool, true, false, ◌||◌, List, [], ◌∷◌, ◌++◌, length, refl, sym, ap, ap₂, ◌∙◌, subst, arith, append-nil, length-append}
use Rattle.std.specs.Prelude.{flat_map, filter, if◌then◌else◌}
use Rattle.std.proofs.lemmas.List.Elements.{filter-append}
use Rattle.std.proofs.lemmas.List.Folds.{list_any-append}
use Rattle.std.proofs.lemmas.Grind.{flat_map-append}
use Rattle.text_model.specs.Characters.{Ch}
use Rattle.text_model.specs.Codings.{Utf8, decoded, all_decoded}
use Rattle.plain_machine.specs.Exchanges.{Ask, Kill, Answer, Exchange, started_by, children_started}
use Rattle.machine_laws.specs.Entries.{read_bytes, read, is_end, output_ended}
use Rattle.machine_laws.specs.Children.{is_kill}
use Rattle.machine_laws.proofs.Alive.{started-append}
use Rattle.machine_laws.proofs.Basics.{none_first, or_nil}
use Rattle.line_session.specs.Lines.{tells_end, has_ended, closed, session_lines}
use Rattle.session_laws.specs.Sessions.{is_spawn, spawns, LastFailed}
use Rattle.session_laws.proofs.Lined.{feed_behind}

-- COUNTS
one_spawn : (b : Bool) (x : Exchange) → is_spawn x.ask ≡ b → length (filter (λ x. is_spawn x.ask) (x ∷ [])) ≡ (if b then 1 else 0)
one_spawn true x e = rw e refl
one_spawn false x e = rw e refl

spawns_more : (b : Bool) (exchanges : List Exchange) (x : Exchange) → is_spawn x.ask ≡ b → spawns (exchanges ++ x ∷ []) ≡ spawns exchanges + (if b then 1 else 0)
spawns_more b exchanges x e =
    ap length (filter-append (λ x. is_spawn x.ask) exchanges (x ∷ [])) ∙ length-append (filter (λ x. is_spawn x.ask) exchanges) (filter (λ x. is_spawn x.ask) (x ∷ []))
    ∙ ap (λ n. spawns exchanges + n) (one_spawn b x e)

pub spawns_one_more : (exchanges : List Exchange) (x : Exchange) → is_spawn x.ask ≡ true → spawns (exchanges ++ x ∷ []) ≡ spawns exchanges + 1
spawns_one_more exchanges x e = spawns_more true exchanges x e

pub spawns_no_more : (exchanges : List Exchange) (x : Exchange) → is_spawn x.ask ≡ false → spawns (exchanges ++ x ∷ []) ≡ spawns exchanges
spawns_no_more exchanges x e = spawns_more false exchanges x e ∙ omega arith

-- IN TURN
-- each start is the first, or the last child has failed
abbrev pub InTurn : List Exchange → Type 0
InTurn exchanges = (before after : List Exchange) (x : Exchange) → exchanges ≡ before ++ x ∷ after → is_spawn x.ask ≡ true → (spawns before ≡ 0) ⊎ LastFailed before

-- where one stands in a list that is longer by one
split_last : (exchanges before after : List Exchange) (x y : Exchange) → exchanges ++ y ∷ [] ≡ before ++ x ∷ after → ((before ≡ exchanges) × (x ≡ y)) ⊎ ((more : List Exchange) × (exchanges ≡ before ++ x ∷ more))
split_last [] [] after x y e = inl (refl, let k : y ≡ x = cc in sym k)
split_last [] (b ∷ before) after x y e = absurd (let k : before ++ x ∷ after ≡ [] = cc in let never = (none_first before (x ∷ after) k).1 in cc)
split_last (a ∷ exchanges) [] after x y e = inr (exchanges, let k : a ≡ x = cc in ap (λ z. z ∷ exchanges) k)
split_last (a ∷ exchanges) (b ∷ before) after x y e =
    let first : a ≡ b = cc in
    let behind : exchanges ++ y ∷ [] ≡ before ++ x ∷ after = cc in
    with_first first (split_last exchanges before after x y behind)
  where
    with_first : a ≡ b → ((before ≡ exchanges) × (x ≡ y)) ⊎ ((more : List Exchange) × (exchanges ≡ before ++ x ∷ more)) → ((b ∷ before ≡ a ∷ exchanges) × (x ≡ y)) ⊎ ((more : List Exchange) × (a ∷ exchanges ≡ b ∷ before ++ x ∷ more))
    with_first q (inl k) = inl (ap₂ (λ z l. z ∷ l) (sym q) k.0, k.1)
    with_first q (inr k) = inr (k.0, ap₂ (λ z l. z ∷ l) q k.1)

pub in_turn_more : (exchanges : List Exchange) (y : Exchange) → InTurn exchanges → (is_spawn y.ask ≡ true → (spawns exchanges ≡ 0) ⊎ LastFailed exchanges) → InTurn (exchanges ++ y ∷ [])
in_turn_more exchanges y turn new before after x e spawn = by (split_last exchanges before after x y e)
  where
    by : ((before ≡ exchanges) × (x ≡ y)) ⊎ ((more : List Exchange) × (exchanges ≡ before ++ x ∷ more)) → (spawns before ≡ 0) ⊎ LastFailed before
    by (inl k) = subst (λ l. (spawns l ≡ 0) ⊎ LastFailed l) (sym k.0) (new (ap (λ (z : Exchange). is_spawn z.ask) (sym k.1) ∙ spawn))
    by (inr k) = turn before k.0 x k.1 spawn

pub in_turn_still : (exchanges : List Exchange) (y : Exchange) → InTurn exchanges → is_spawn y.ask ≡ false → InTurn (exchanges ++ y ∷ [])
in_turn_still exchanges y turn other = in_turn_more exchanges y turn (λ spawn. absurd (let k : true ≡ false = sym spawn ∙ other in cc))

-- A KILL
kill_one : (child : ℕ) (ask : Ask) (answer : Answer) → is_kill ask ≡ true → (read_bytes child ask answer ≡ []) × (is_end child ask answer ≡ false) × (tells_end child ask answer ≡ false) × (is_spawn ask ≡ false)
kill_one child (Kill c) answer h = (refl, refl, refl, refl)
kill_one child _ answer h = absurd (let k = h in cc)

pub kill_spawns_none : (ask : Ask) → is_kill ask ≡ true → is_spawn ask ≡ false
kill_spawns_none ask h = (kill_one 0 ask Answer.Nothing h).3

closed_still : (exchanges : List Exchange) (x : Exchange) (child : ℕ) → is_kill x.ask ≡ true → closed child (exchanges ++ x ∷ []) ≡ closed child exchanges
closed_still exchanges x child h =
    let one = kill_one child x.ask x.answer h in
    let bytes : read child (exchanges ++ x ∷ []) ≡ read child exchanges =
    flat_map-append (λ x. read_bytes child x.ask x.answer) exchanges (x ∷ []) ∙ ap (λ l. read child exchanges ++ (l ++ [])) one.0 ∙ append-nil (read child exchanges) in
    let drained : output_ended child (exchanges ++ x ∷ []) ≡ output_ended child exchanges =
    list_any-append (λ x. is_end child x.ask x.answer) exchanges (x ∷ []) ∙ ap (λ b. output_ended child exchanges || (b || false)) one.1 ∙ or_nil (output_ended child exchanges) in
    let ended : has_ended child (exchanges ++ x ∷ []) ≡ has_ended child exchanges =
    list_any-append (λ x. tells_end child x.ask x.answer) exchanges (x ∷ []) ∙ ap (λ b. has_ended child exchanges || (b || false)) one.2 ∙ or_nil (has_ended child exchanges) in
    (λ i. let text : List Ch = (if drained i then all_decoded Utf8 (bytes i) else decoded Utf8 (bytes i)) in text ++ feed_behind (ended i) text)

pub kill_leaves_lines : (exchanges : List Exchange) (x : Exchange) → is_kill x.ask ≡ true → started_by x.answer ≡ [] → session_lines (exchanges ++ x ∷ []) ≡ session_lines exchanges
kill_leaves_lines exchanges x h none =
    let children : children_started (exchanges ++ x ∷ []) ≡ children_started exchanges =
    started-append exchanges (x ∷ []) ∙ ap (λ l. children_started exchanges ++ (l ++ [])) none ∙ append-nil (children_started exchanges) in
    (λ i. flat_map (λ child. closed_still exchanges x child h i) (children i))
