-- A coding stays once bytes were read of its process, in every run.
use Rattle.std.proofs.Common.{◌≡◌, ℕ, zero, suc, Bool, true, false, List, [], ◌∷◌, ◌++◌, map, refl, ap, sym, ◌∙◌, subst}
use Rattle.std.specs.Prelude.{Option, Some, None, is_some, unwrap_or, ◌==◌, slice_get, slice_set}
use Rattle.text_model.proofs.Lists.{set_same, set_other}
use Rattle.editor_model.specs.Values.{Script}
use Rattle.plain_machine.specs.Exchanges.{Ask, Answer, Exchange}
use Rattle.plain_machine.specs.State.{Program, Process}
use Rattle.plain_machine.specs.Items.{Said, Config, Next, Goes, Asks}
use Rattle.plain_machine.specs.Step.{step}
use Rattle.plain_machine.specs.Run.{Reaches, start}
use Rattle.plain_machine.proofs.Composed.{over_runs}
use Rattle.machine_laws.specs.Entries.{read, CodingsStay}
use Rattle.machine_laws.proofs.Keeping.{Core, core, cores}
use Rattle.machine_laws.proofs.Moves.{Valid, Coming, Phase, coming, phase, fresh, so_far, Moves, rests, enters, spawns, hears, drains, dies, closes, passes, kills, dumps}
use Rattle.machine_laws.proofs.Steps.{Made, get_cores, may_have, goes_moves, asks_moves}
use Rattle.machine_laws.proofs.Traced.{HoldsAt}
use Rattle.machine_laws.proofs.Heard.{Carried, carried}
use Rattle.machine_laws.proofs.Basics.{get_more, is_same, same_is}

-- a process of which bytes were read stands still there, with its coding
abbrev Stays : List Core → ℕ → Core → Type 0
Stays ds p x = (y : Core) × (slice_get ds p ≡ Some y) × (is_some y.bytes ≡ true) × (y.coding ≡ x.coding)

abbrev Fixed : List Core → List Core → Type 0
Fixed cs ds = (p : ℕ) (x : Core) → slice_get cs p ≡ Some x → is_some x.bytes ≡ true → Stays ds p x

fixed_same : (cs ds : List Core) → ds ≡ cs → Fixed cs ds
fixed_same cs ds same p x e read = (x, ap (λ l. slice_get l p) same ∙ e, read, refl)

fixed_then : (bs cs ds : List Core) → Fixed bs cs → Fixed cs ds → Fixed bs ds
fixed_then bs cs ds f g p x e read =
    let h : Stays cs p x = f p x e read in
    let k : Stays ds p h.0 = g p h.0 h.1 h.2 in
    (k.0, k.1, k.2, k.3 ∙ h.3)

-- one process changed
fixed_set : (cs : List Core) (p : ℕ) (x x' : Core) → slice_get cs p ≡ Some x → (is_some x.bytes ≡ true → (is_some x'.bytes ≡ true) × (x'.coding ≡ x.coding)) → Fixed cs (slice_set cs p x')
fixed_set cs p x x' there change q y e read = by (q == p) refl
  where
    by : (b : Bool) → (q == p) ≡ b → Stays (slice_set cs p x') q y
    by true k =
        let same : q ≡ p = same_is q p k in
        let found : Some x ≡ Some y = sym there ∙ (ap (λ n. slice_get cs n) (sym same) ∙ e) in
        let one : x ≡ y = cc in
        let changed = change (ap (λ (c : Core). is_some c.bytes) one ∙ read) in
        (x', ap (λ n. slice_get (slice_set cs p x') n) same ∙ set_same cs p x' x there, changed.0, changed.1 ∙ ap (λ (c : Core). c.coding) one)
    by false k =
        let away : q ≡ p → ⊥ = λ s. let wrong : true ≡ false = sym (is_same q p s) ∙ k in cc in
        (y, set_other cs p q x' away ∙ e, read, refl)

to_these : (bs cs ds : List Core) → ds ≡ cs → Fixed bs cs → Fixed bs ds
to_these bs cs ds same f = subst (λ l. Fixed bs l) (sym same) f

fixed_moves : (cs ds : List Core) (e f : Coming) (g h : Phase) (xs : List Exchange) (said : List Said) → Moves cs e g xs said ds f h → Fixed cs ds
fixed_moves cs ds e f g h xs said (rests a b d i q r s u) = fixed_same cs ds d
fixed_moves cs ds e f g h xs said (enters x k m b d n r s) = fixed_same cs ds d
fixed_moves cs ds e f g h xs said (spawns child a b d new i m r s u) = to_these cs (cs ++ fresh child ∷ []) ds d (λ p x e read. (x, get_more cs (fresh child) p x e, read, refl))
fixed_moves cs ds e f g h xs said (hears p x c bytes may a k live undrained n m d b r s) =
    to_these cs (slice_set cs p (record x { bytes = Some (so_far x ++ bytes); coding = c })) ds d (fixed_set cs p x (record x { bytes = Some (so_far x ++ bytes); coding = c }) k (λ read. (refl, may read)))
fixed_moves cs ds e f g h xs said (drains p x c answer may last a k live undrained n m d b r s) =
    to_these cs (slice_set cs p (record x { drained = true })) ds d (fixed_set cs p x (record x { drained = true }) k (λ read. (read, refl)))
fixed_moves cs ds e f g h xs said (dies p x a k live i m d b r s u) =
    to_these cs (slice_set cs p (record x { live = false })) ds d (fixed_set cs p x (record x { live = false }) k (λ read. (read, refl)))
fixed_moves cs ds e f g h xs said (closes a b d n q r s) = fixed_same cs ds d
fixed_moves cs ds e f g h xs said (passes p x a b d n q k dead r s) = fixed_same cs ds d
fixed_moves cs ds e f g h xs said (kills p x a b d i q k live u r s) = fixed_same cs ds d
fixed_moves cs ds e f g h xs said (Moves.ends p a b d n q k r s) = fixed_same cs ds d
fixed_moves cs ds e f g h xs said (dumps a b d n q r s) = fixed_same cs ds d

-- OVER A RUN
module _ (program : Program) (bound : ℕ) (first : Config) where
  abbrev Still : List Exchange → List Said → Config → Type 0
  Still xs said d = Valid d.work × Fixed (cores first.state) (cores d.state)

  still_more : (xs : List Exchange) (said : List Said) (c : Config) (n : Next) → Still xs said c → step program bound c ≡ Goes n → Still xs (said ++ n.said) n.config
  still_more xs said c n i e =
      let m : Made c [] n = goes_moves program bound c n i.0 e in
      (m.1, fixed_then (cores first.state) (cores c.state) (cores n.config.state) i.1 (fixed_moves (cores c.state) (cores n.config.state) (coming c.work) (coming n.config.work) (phase c.work) (phase n.config.work) [] n.said m.0))

  still_asking : (xs : List Exchange) (said : List Said) (c : Config) (ask : Ask) (answer : Answer) (k : Answer → Option Next) (n : Next) → Still xs said c → step program bound c ≡ Asks ask k → k answer ≡ Some n →
      Still (xs ++ record { ask = ask; answer = answer } ∷ []) (said ++ n.said) n.config
  still_asking xs said c ask answer k n i e h =
      let m : Made c (record { ask = ask; answer = answer } ∷ []) n = asks_moves program bound c ask answer k n i.0 e h in
      (m.1, fixed_then (cores first.state) (cores c.state) (cores n.config.state) i.1 (fixed_moves (cores c.state) (cores n.config.state) (coming c.work) (coming n.config.work) (phase c.work) (phase n.config.work) (record { ask = ask; answer = answer } ∷ []) n.said m.0))

  still : (xs : List Exchange) (said : List Said) (d : Config) → Valid first.work → Reaches program bound first xs said d → Still xs said d
  still xs said d v r = over_runs program bound Still still_more still_asking r [] [] (v, fixed_same (cores first.state) (cores first.state) refl)

-- bytes were read
was_read : (o : Option (List ℕ)) (r : List ℕ) → unwrap_or o [] ≡ r → (r ≡ [] → ⊥) → is_some o ≡ true
was_read None r e some = absurd (some (sym e))
was_read (Some bytes) r e some = refl

-- a process behind what is known of it
behind : (ps : List Process) (p : ℕ) (y : Core) → slice_get (map core ps) p ≡ Some y → (z : Process) × (slice_get ps p ≡ Some z) × (core z ≡ y)
behind [] p y e = cc
behind (z ∷ ps) zero y e = (z, refl, let k : core z ≡ y = cc in k)
behind (z ∷ ps) (suc p) y e = behind ps p y e

pub codings_stay : (program : Program) (bound : ℕ) (script : Script) → CodingsStay program bound (start script)
codings_stay program bound script before after said more c d r q p x there some =
    let i : Carried before said c = carried program bound script before said c r in
    let h : HoldsAt before said (coming c.work) p (core x) = i.0.each p (core x) (get_cores c.state.processes p x there) in
    let read_some : is_some x.bytes ≡ true = was_read x.bytes (read x.child before) h.bytes some in
    let s : Still program bound c after more d = still program bound c after more d i.1 q in
    let k : Stays (cores d.state) p (core x) = s.1 p (core x) (get_cores c.state.processes p x there) read_some in
    let z = behind d.state.processes p k.0 k.1 in
    let read_then : is_some z.0.bytes ≡ true = ap (λ (c : Core). is_some c.bytes) z.2 ∙ k.2 in
    (z.0, z.1, may_have z.0.bytes z.0.coding read_then ∙ (ap (λ (c : Core). c.coding) z.2 ∙ (k.3 ∙ sym (may_have x.bytes x.coding read_some))))
