-- Writes that follow one another.
use Rattle.std.proofs.Common.{◌≡◌, ℕ, List, ◌++◌, take, drop, Result, Ok, Err, Some, None, sym, ap, ◌∙◌, append_assoc, arith, refl, length-append, take-append-drop}
use Rattle.std.specs.declared.option.Option.{Option}
use Rattle.std.specs.Io.KnownBytes.{Appends, Keeps}
use Rattle.std.proofs.KnownBytes.{Appends-trans}
use Rattle.text_model.specs.Fronts.{IsPrefixOf}
use Rattle.ek_types.specs.Io.{SinkState, Writes, Continues, ContinuesBy}

pub take_is_prefix : (i : ℕ) (xs : List ℕ) → IsPrefixOf (take i xs) xs
take_is_prefix i xs = (drop i xs, take-append-drop i xs)

pub Appends-kept : (a b c : Option (List ℕ)) (bs : List ℕ) → Appends a b bs → Keeps b c → Appends a c bs
Appends-kept None b c bs p q = tt
Appends-kept (Some x) None c bs p q = absurd p
Appends-kept (Some x) (Some y) None bs p q = absurd q
Appends-kept (Some x) (Some y) (Some z) bs p q = q ∙ p

pub prefix_then : (a b w : List ℕ) → IsPrefixOf w b → IsPrefixOf (a ++ w) (a ++ b)
prefix_then a b w (rest, e) = (rest, append_assoc a w rest ∙ ap (λ l. a ++ l) e)

pub prefix_more : (a b w : List ℕ) → IsPrefixOf w a → IsPrefixOf w (a ++ b)
prefix_more a b w (rest, e) = (rest ++ b, sym (append_assoc w rest b) ∙ ap (λ l. l ++ b) e)

-- a failure ends the writing there, whatever was to follow
pub writes_stop : {T U E F : Type 0} (e : E) (f : F) (old new : SinkState) (a b : List ℕ) → Writes {T = T} old new (Err e) a → Writes {T = U} old new (Err f) (a ++ b)
writes_stop e f old new a b p =
    let (w, front, appended) = p.err in
    record {
      ok = tt;
      err = (w, prefix_more a b w front, appended);
      later = p.later;
      rose = p.rose;
      roomy = λ h. absurd (let k = (p.roomy (omega (arith, length-append a b))).ok in cc);
    }

-- two writings after one another
pub writes_then : {T U E F : Type 0} (x : T) (r : Result U E) (old mid new : SinkState) (a b : List ℕ)
    → Writes {E = F} old mid (Ok x) a → Writes mid new r b → Writes old new r (a ++ b)
writes_then x (Ok y) old mid new a b p q = record {
  ok = Appends-trans old.held mid.held new.held a b p.ok q.ok;
  err = tt;
  later = omega (arith, p.later, q.later);
  rose = tt;
  roomy = λ h.
      let first = p.roomy (omega (arith, length-append a b)) in
      let second = q.roomy (omega (arith, length-append a b)) in
      record { ok = refl; faults = second.faults ∙ first.faults; room = omega (arith, length-append a b) };
}
writes_then x (Err e) old mid new a b p q =
    let (w, front, appended) = q.err in
    record {
      ok = tt;
      err = (a ++ w, prefix_then a b w front, Appends-trans old.held mid.held new.held a w p.ok appended);
      later = omega (arith, p.later, q.later);
      rose = omega (arith, p.later, q.rose);
      roomy = λ h.
          let first = p.roomy (omega (arith, length-append a b)) in
          absurd (let k = (q.roomy (omega (arith, length-append a b))).ok in cc);
    }

pub by_then : {T U V E F G : Type 0} (q : Result T E) (r : Result U F) (s : Result V G) (old mid new : SinkState) (a b : List ℕ)
    → ContinuesBy q r old mid a → ContinuesBy r s mid new b → ContinuesBy q s old new (a ++ b)
by_then (Ok x) (Ok y) s old mid new a b h k = writes_then y s old mid new a b h k
by_then (Ok x) (Err f) (Ok z) old mid new a b h k = absurd k
by_then (Ok x) (Err f) (Err g) old mid new a b h k = rw k (writes_stop f g old mid a b h)
by_then (Err e) (Ok y) s old mid new a b h k = absurd h
by_then (Err e) (Err f) (Ok z) old mid new a b h k = absurd k
by_then (Err e) (Err f) (Err g) old mid new a b h k = k ∙ h

-- printing that goes on from where other printing ended
pub continues_then : {T U V E F G : Type 0} {q : Result T E} {r : Result U F} {s : Result V G} {old mid new : SinkState} {a b : List ℕ}
    → Continues q r old mid a → Continues r s mid new b → Continues q s old new (a ++ b)
continues_then h k = record { by = by_then _ _ _ _ _ _ _ _ h.by k.by }

pub continues_same : {T U E F : Type 0} {q : Result T E} {r : Result U F} {old new : SinkState} {a b : List ℕ} → a ≡ b → Continues q r old new a → Continues q r old new b
continues_same e p = rw (← e) p

-- printing that begins with no failure so far writes
pub writes_of : {T U E F : Type 0} {x : T} {r : Result U F} {old new : SinkState} {a : List ℕ} → Continues {E = E} (Ok x) r old new a → Writes old new r a
writes_of h = h.by
