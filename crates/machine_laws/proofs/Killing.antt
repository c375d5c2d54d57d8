-- Which children are asked to be killed.
use Rattle.std.proofs.Common.{◌≡◌, ℕ, true, false, List, [], ◌∷◌, ◌++◌, map, refl, ap, sym, ◌∙◌, subst, arith, append_assoc}
use Rattle.std.proofs.lemmas.List.{append-nil}
use Rattle.std.specs.Prelude.{Option, Some, ◌==◌, ◌||◌, not, nat_lt, slice_get}
use Rattle.editor_model.specs.Values.{Script}
use Rattle.plain_machine.specs.Exchanges.{Ask, Kill, Answer, Exchange, gone, children_started}
use Rattle.plain_machine.specs.State.{Program}
use Rattle.plain_machine.specs.Items.{Said, Config, Next, Goes, Asks}
use Rattle.plain_machine.specs.Step.{step}
use Rattle.plain_machine.specs.Run.{Reaches, start}
use Rattle.machine_laws.specs.Children.{KillsOnce}
use Rattle.plain_machine.proofs.Composed.{over_runs}
use Rattle.machine_laws.proofs.Keeping.{Core, cores}
use Rattle.machine_laws.proofs.Moves.{Coming, Phase, phase, coming, Moves, rests, enters, spawns, hears, drains, dies, closes, passes, kills, dumps}
use Rattle.machine_laws.proofs.Steps.{Made, asks_moves}
use Rattle.machine_laws.proofs.Alive.{Alive, Lives, lives_more, lives_asking, lives_start, child_in, not_below, upto}
use Rattle.machine_laws.proofs.Basics.{is_same, or_nil, same_is}

-- a child that was started and isn't gone; and a list in which only such ones are killed
abbrev pub Fresh : List Exchange → ℕ → Type 0
Fresh before child = ((n : ℕ) × (slice_get (children_started before) n ≡ Some child)) × (gone child before ≡ false)

abbrev pub Fair : List Exchange → List Exchange → Type 0
Fair seen [] = Unit {0}
Fair seen (x ∷ xs) = ((c : ℕ) → x.ask ≡ Kill c → Fresh seen c) × Fair (seen ++ x ∷ []) xs

fair_more : (seen xs : List Exchange) (y : Exchange) → Fair seen xs → ((c : ℕ) → y.ask ≡ Kill c → Fresh (seen ++ xs) c) → Fair seen (xs ++ y ∷ [])
fair_more seen [] y h k = (λ c e. rw append-nil at (k c e), tt)
fair_more seen (x ∷ xs) y h k = (h.0, fair_more (seen ++ x ∷ []) xs y h.1 (λ c e. rw append_assoc (k c e)))

fair_at : (seen before after : List Exchange) (x : Exchange) (child : ℕ) → Fair seen (before ++ x ∷ after) → x.ask ≡ Kill child → Fresh (seen ++ before) child
fair_at seen [] after x child o h = rw append-nil (o.0 child h)
fair_at seen (y ∷ before) after x child o h = rw append_assoc at (fair_at (seen ++ y ∷ []) before after x child o.1 h)

got_child : (cs : List Core) (p : ℕ) (x : Core) → slice_get cs p ≡ Some x → slice_get (map child_in cs) p ≡ Some x.child
got_child [] p x e = cc
got_child (c ∷ cs) ℕ.zero x e = let q : c ≡ x = cc in ap (λ (c : Core). Some c.child) q
got_child (c ∷ cs) (ℕ.suc p) x e = got_child cs p x e

not_itself : (p : ℕ) → nat_lt p p ≡ false
not_itself p = grind arith

-- a kill is asked of a process that runs, and was not asked before
killed_fresh : (xs : List Exchange) (cs ds : List Core) (e f : Coming) (g h : Phase) (said : List Said) (c : ℕ) (answer : Answer) → Alive xs cs g → Moves cs e g (record { ask = Kill c; answer = answer } ∷ []) said ds f h → Fresh xs c
killed_fresh xs cs ds e f g h said c answer a m = go m
  where
    itself : gone c (record { ask = Kill c; answer = answer } ∷ []) ≡ true
    itself = or_nil (c == c) ∙ is_same c c refl

    never : gone c (record { ask = Kill c; answer = answer } ∷ []) ≡ false → Fresh xs c
    never n = let k : true ≡ false = sym itself ∙ n in cc

    found : (p : ℕ) (x : Core) → slice_get cs p ≡ Some x → x.live ≡ true → nat_lt p (upto g cs) ≡ false → gone c (record { ask = Kill c; answer = answer } ∷ []) ≡ (x.child == c) → Fresh xs c
    found p x k live below u =
        let same : x.child ≡ c = same_is x.child c (sym u ∙ itself) in
        let there : slice_get (children_started xs) p ≡ Some x.child = ap (λ l. slice_get l p) a.children ∙ got_child cs p x k in
        let alive : gone x.child xs ≡ false = a.dead p x k ∙ (λ i. not (live i) || below i) in
        ((p, there ∙ ap Some same), ap (λ c. gone c xs) (sym same) ∙ alive)

    read_not : (child : ℕ) (b : Answer) → ◌≡◌ {A = List Exchange} (record { ask = Kill c; answer = answer } ∷ []) (record { ask = Ask.Read child; answer = b } ∷ []) → Fresh xs c
    read_not child b n =
        let first : Exchange = record { ask = Kill c; answer = answer } in
        let other : Exchange = record { ask = Ask.Read child; answer = b } in
        let k : first ≡ other = cc in
        let l : Kill c ≡ Ask.Read child = ap (λ (y : Exchange). y.ask) k in
        cc

    go : Moves cs e g (record { ask = Kill c; answer = answer } ∷ []) said ds f h → Fresh xs c
    go (rests _ _ _ _ _ _ _ u) = never (u.1 c)
    go (enters _ _ _ _ _ n _ _) = cc
    go (spawns child _ _ _ _ _ _ _ _ u) = never (u.1 c)
    go (hears p x _ bytes _ _ _ _ _ n _ _ _ _ _) = read_not x.child (Answer.Bytes bytes) n
    go (drains p x _ b _ _ _ _ _ _ n _ _ _ _ _) = read_not x.child b n
    go (dies p x _ k live _ _ _ _ r _ u) = found p x k live (rw r (not_below p)) (u.1 c)
    go (closes _ _ _ n _ _ _) = cc
    go (passes p x _ _ _ n _ _ _ _ _) = cc
    go (kills p x _ _ _ _ _ k live u r _) = found p x k live (rw r (not_itself p)) (u.1 c)
    go (Moves.ends p _ _ _ n _ _ _ _) = cc
    go (dumps _ _ _ n _ _ _) = cc

abbrev pub Both : List Exchange → List Said → Config → Type 0
Both xs said c = Lives xs said c × Fair [] xs

module _ (program : Program) (bound : ℕ) where
  both_more : (xs : List Exchange) (said : List Said) (c : Config) (n : Next) → Both xs said c → step program bound c ≡ Goes n → Both xs (said ++ n.said) n.config
  both_more xs said c n i e = (lives_more program bound xs said c n i.0 e, i.1)

  both_asking : (xs : List Exchange) (said : List Said) (c : Config) (ask : Ask) (answer : Answer) (k : Answer → Option Next) (n : Next) → Both xs said c → step program bound c ≡ Asks ask k → k answer ≡ Some n →
      Both (xs ++ record { ask = ask; answer = answer } ∷ []) (said ++ n.said) n.config
  both_asking xs said c ask answer k n i e h =
      let m : Made c (record { ask = ask; answer = answer } ∷ []) n = asks_moves program bound c ask answer k n i.0.0.1 e h in (
        lives_asking program bound xs said c ask answer k n i.0 e h,
        fair_more [] xs (record { ask = ask; answer = answer }) i.1 (λ child q.
            killed_fresh xs (cores c.state) (cores n.config.state) (coming c.work) (coming n.config.work) (phase c.work) (phase n.config.work) n.said child answer i.0.1
            (subst (λ ask. Moves (cores c.state) (coming c.work) (phase c.work) (record { ask = ask; answer = answer } ∷ []) n.said (cores n.config.state) (coming n.config.work) (phase n.config.work)) q m.0)),
      )

pub killed_fairly : (program : Program) (bound : ℕ) (script : Script) (xs : List Exchange) (said : List Said) (c : Config) → Reaches program bound (start script) xs said c → Both xs said c
killed_fairly program bound script xs said c r = over_runs program bound Both (both_more program bound) (both_asking program bound) r [] [] (lives_start program bound script, tt)

pub kills_once : (program : Program) (bound : ℕ) (script : Script) → KillsOnce program bound (start script)
kills_once program bound script before after x said c child r h = fair_at [] before after x child (killed_fairly program bound script (before ++ x ∷ after) said c r).1 h
