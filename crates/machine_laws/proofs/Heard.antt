-- The laws of entries and of sentinels, of every run.
use Rattle.std.proofs.Common.{◌≡◌, ℕ, true, false, List, [], ◌∷◌, ◌++◌, refl, ap, sym, ◌∙◌, append_assoc, subst}
use Rattle.std.proofs.lemmas.List.{append-nil}
use Rattle.std.specs.Prelude.{Option, Some, if◌then◌else◌}
use Rattle.text_model.specs.Codings.{decoded, all_decoded}
use Rattle.editor_model.specs.Values.{Script}
use Rattle.plain_machine.specs.Exchanges.{Ask, AskEnd, Answer, Exchange}
use Rattle.plain_machine.specs.State.{Program}
use Rattle.plain_machine.specs.Lines.{OfFilter, OfSentinel, OfBefore, OfAfter}
use Rattle.plain_machine.specs.Items.{Item, Enter, Said, Config, Next, Goes, Asks}
use Rattle.plain_machine.specs.Step.{step}
use Rattle.plain_machine.specs.Run.{Reaches, start}
use Rattle.machine_laws.specs.Entries.{entered, output_ended, is_entry, has_entry, Entries, Sentinels, EndsAfterOutput}
use Rattle.plain_machine.specs.WholeRuns.{IsBetweenEntries}
use Rattle.plain_machine.proofs.Composed.{over_runs}
use Rattle.machine_laws.proofs.Keeping.{core, cores, fixed}
use Rattle.machine_laws.proofs.Moves.{Valid, coming, phase}
use Rattle.machine_laws.proofs.Steps.{Made, get_cores, may_have, goes_moves, asks_moves}
use Rattle.machine_laws.proofs.Traced.{to_enter, heard_of, same_decoded, HoldsAt, Ordered, EndsAfter, Traced, moves_traced}

-- what is carried over a run
abbrev pub Carried : List Exchange → List Said → Config → Type 0
Carried xs said c = Traced xs said (cores c.state) (coming c.work) × Valid c.work

module _ (program : Program) (bound : ℕ) where
  pub carried_more : (xs : List Exchange) (said : List Said) (c : Config) (n : Next) → Carried xs said c → step program bound c ≡ Goes n → Carried xs (said ++ n.said) n.config
  carried_more xs said c n i e =
      let m : Made c [] n = goes_moves program bound c n i.1 e in
      (rw append-nil at (moves_traced xs [] said n.said (cores c.state) (cores n.config.state) (coming c.work) (coming n.config.work) (phase c.work) (phase n.config.work) i.0 m.0), m.1)

  pub carried_asking : (xs : List Exchange) (said : List Said) (c : Config) (ask : Ask) (answer : Answer) (k : Answer → Option Next) (n : Next) → Carried xs said c → step program bound c ≡ Asks ask k → k answer ≡ Some n →
      Carried (xs ++ record { ask = ask; answer = answer } ∷ []) (said ++ n.said) n.config
  carried_asking xs said c ask answer k n i e h =
      let m : Made c (record { ask = ask; answer = answer } ∷ []) n = asks_moves program bound c ask answer k n i.1 e h in
      (moves_traced xs (record { ask = ask; answer = answer } ∷ []) said n.said (cores c.state) (cores n.config.state) (coming c.work) (coming n.config.work) (phase c.work) (phase n.config.work) i.0 m.0, m.1)

  pub carried_start : (script : Script) → Carried [] [] (start script)
  carried_start script = (
    record {
      each = λ p x g. cc;
      absent = λ p g. (refl, refl);
      apart = λ p q x y g h e. cc;
      unknown = λ c n. (refl, refl);
      expected = tt;
      ordered = λ p. tt;
      ends = tt;
    },
    refl,
  )

  pub carried : (script : Script) (xs : List Exchange) (said : List Said) (c : Config) → Reaches program bound (start script) xs said c → Carried xs said c
  carried script xs said c r = over_runs program bound Carried carried_more carried_asking r [] [] (carried_start script)

-- ENTRIES
no_text : (p : ℕ) (c : Config) → IsBetweenEntries c → to_enter p (coming c.work) ≡ []
no_text p c h = go c.work h
  where
    go : (work : List Item) → IsBetweenEntries (record { state = c.state; work = work }) → to_enter p (coming work) ≡ []
    go [] h = refl
    go (Enter (OfFilter q) handler args ∷ work) h = absurd h
    go (Enter (OfSentinel q) handler args ∷ work) h = refl
    go (Enter (OfBefore b) handler args ∷ work) h = refl
    go (Enter (OfAfter b) handler args ∷ work) h = refl
    go (_ ∷ work) h = refl

pub entries : (program : Program) (bound : ℕ) (script : Script) → Entries program bound (start script)
entries program bound script xs said c r between p x g =
    let i : Carried xs said c = carried program bound script xs said c r in
    let h : HoldsAt xs said (coming c.work) p (core x) = i.0.each p (core x) (get_cores c.state.processes p x g) in
    let t : entered p said ≡ heard_of (core x) = sym (append-nil (entered p said)) ∙ (ap (λ t. entered p said ++ t) (sym (no_text p c between)) ∙ h.text) in
    let same = same_decoded x.bytes (fixed x.bytes x.coding) x.coding (may_have x.bytes x.coding) in
    t ∙ (λ i. if x.drained then same.1 i else same.0 i) ∙ (λ i. if h.drained i then all_decoded x.coding (h.bytes i) else decoded x.coding (h.bytes i))

-- SENTINELS
ordered_at : (p : ℕ) (before after : List Said) (x : Said) → Ordered p (before ++ x ∷ after) → is_entry true p x.event ≡ true → (has_entry true p after ≡ false) × (has_entry false p after ≡ false)
ordered_at p [] after x o h = o.0 h
ordered_at p (y ∷ before) after x o h = ordered_at p before after x o.1 h

pub sentinels : (program : Program) (bound : ℕ) (script : Script) → Sentinels program bound (start script)
sentinels program bound script xs said c r before after x p split h =
    let i : Carried xs said c = carried program bound script xs said c r in
    ordered_at p before after x (subst (Ordered p) split (i.0.ordered p)) h

ends_at : (seen before after : List Exchange) (x : Exchange) (child : ℕ) → EndsAfter seen (before ++ x ∷ after) → x.ask ≡ AskEnd child → output_ended child (seen ++ before) ≡ true
ends_at seen [] after x child o h = rw append-nil (o.0 child h)
ends_at seen (y ∷ before) after x child o h = rw append_assoc at (ends_at (seen ++ y ∷ []) before after x child o.1 h)

pub ends_after_output : (program : Program) (bound : ℕ) (script : Script) → EndsAfterOutput program bound (start script)
ends_after_output program bound script xs said c r before after x child split h =
    let i : Carried xs said c = carried program bound script xs said c r in
    ends_at [] before after x child (subst (EndsAfter []) split i.0.ends) h
