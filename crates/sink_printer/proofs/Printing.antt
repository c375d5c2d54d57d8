-- Prints that follow one another.
use Rattle.std.proofs.Common.{◌≡◌, ℕ, Bool, true, false, List, [], ◌++◌, Result, ◌∙◌, refl, arith, subst, sym, ap, append-nil, append_assoc}
use Rattle.std.specs.Prelude.{OnErr, Ok, Err}
use Rattle.std.specs.Result.{is_err}
use Rattle.std.proofs.KnownBytes.{Appends-nil}
use Rattle.ek_types.specs.Io.{SinkState, Writes, Continues}
use Rattle.ek_types.specs.declared.io.SinkFault.{SinkFault}
use Rattle.ek_types.proofs.Printing.{continues_then, continues_same}
use Rattle.sink_printer.specs.declared.printer.Printer.{Printer}
use Rattle.sink_printer.specs.Outcomes.{outcome}
use Rattle.sink_printer.specs.Printing.{HasSaid, Says, Prints, Finishes, pending}

-- WHAT WAS SAID
continued : (start now : SinkState) (said : List ℕ) (r : Result (Unit {0}) SinkFault) → Writes start now r said → Continues {T = Unit {0}} {E = SinkFault} (outcome false) r start now said
continued start now said r h = record { by = h }

-- what was pending is written, and more behind it
pub said_then : (failed after : Bool) (start now next : SinkState) (left more said : List ℕ) → HasSaid failed start now left said → Continues (outcome failed) (outcome after) now next (left ++ more) → HasSaid after start next [] (said ++ more)
said_then false false start now next left more said (written, e, h) k =
    let all : Continues {T = Unit {0}} {E = SinkFault} (outcome false) (outcome false) start next (written ++ (left ++ more)) = continues_then (continued start now written (outcome false) h) k in
    let same : said ++ more ≡ written ++ (left ++ more) = ap (λ l. l ++ more) e ∙ append_assoc written left more in
    (written ++ (left ++ more), same ∙ sym (append-nil (written ++ (left ++ more))), all.by)
said_then false true start now next left more said (written, e, h) k =
    let all : Continues {T = Unit {0}} {E = SinkFault} (outcome false) (outcome true) start next (written ++ (left ++ more)) = continues_then (continued start now written (outcome false) h) k in
    let same : said ++ more ≡ written ++ (left ++ more) = ap (λ l. l ++ more) e ∙ append_assoc written left more in
    subst (Writes start next (outcome true)) (sym same) all.by
said_then true false start now next left more said h k = absurd k.by
said_then true true start now next left more said h k =
    let all : Continues {T = Unit {0}} {E = SinkFault} (outcome false) (outcome true) start next (said ++ more) = continues_then (continued start now said (outcome true) h) (record { by = k.by }) in all.by

-- some bytes become pending
pub said_more : (failed : Bool) (start now : SinkState) (left more said : List ℕ) → HasSaid failed start now left said → HasSaid failed start now (left ++ more) (said ++ more)
said_more false start now left more said (written, e, h) = (written, ap (λ l. l ++ more) e ∙ append_assoc written left more, h)
said_more true start now left more said h =
    let all : Continues {T = Unit {0}} {E = SinkFault} (outcome false) (outcome true) start now (said ++ more) = continues_then (continued start now said (outcome true) h) (record { by = refl }) in all.by

-- what was pending is written, and nothing is left
pub said_all : (failed after : Bool) (start now next : SinkState) (left said : List ℕ) (r : Result (Unit {0}) SinkFault) → r ≡ outcome after → HasSaid failed start now left said → Continues (outcome failed) (outcome after) now next left → Writes start next r said
said_all failed after start now next left said r e h k = rw e (by after (said_then failed after start now next left [] said h (continues_same (sym (append-nil left)) k)))
  where
    by : (after : Bool) → HasSaid after start next [] (said ++ []) → Writes start next (outcome after) said
    by false (written, e, h) = subst (Writes start next (outcome false)) (sym (sym (append-nil said) ∙ e ∙ append-nil written)) h
    by true h = subst (Writes start next (outcome true)) (append-nil said) h

-- PRINTS
pub prints_then : {K : Type 0} {state : K → SinkState} {p q r : Printer K} {a b : List ℕ} → Prints state p q a → Prints state q r b → Prints state p r (a ++ b)
prints_then {state = state} {r = r} {a = a} {b = b} h k = record { same = k.same ∙ h.same; by = λ start said s. subst (Says state start r) (append_assoc said a b) (k.by start (said ++ a) (h.by start said s)) }

pub prints_same : {K : Type 0} {state : K → SinkState} {p q : Printer K} {a b : List ℕ} → a ≡ b → Prints state p q a → Prints state p q b
prints_same {state = state} {p = p} {q = q} e h = subst (Prints state p q) e h

pub prints_nothing : {K : Type 0} {state : K → SinkState} {p : Printer K} → Prints state p p []
prints_nothing {state = state} {p = p} = record { same = refl; by = λ start said s. subst (Says state start p) (sym (append-nil said)) s }

nothing_said : (start : SinkState) → HasSaid false start start [] []
nothing_said start = ([], refl, record { ok = Appends-nil start.held; err = tt; later = omega arith; rose = tt; roomy = λ h. record { ok = refl; faults = refl; room = omega arith } })

-- what a printer that was made for a sink wrote to it
pub written : {K : Type 0} {state : K → SinkState} {p q : Printer K} {old new : K} {last : SinkState} {r : Result (Unit {0}) SinkFault} {a : List ℕ}
    → p.sink.now ≡ old → p.failed ≡ false → p.gathered.items ≡ [] → state new ≡ last → Prints state p q a → Finishes state q last r → Writes (state old) (state new) r a
written {state = state} {p = p} {old = old} {r = r} {a = a} s f e n h k =
    subst (λ l. Writes (state old) l r a) (sym n) (k.by (state old) a (h.by (state old) [] begun))
  where
    begun : Says state (state old) p []
    begun = subst (λ b. HasSaid b (state old) (state p.sink.now) (pending p) []) (sym f) (subst (λ x. HasSaid false (state old) (state x) (pending p) []) (sym s) (subst (λ l. HasSaid false (state old) (state old) l []) (sym e) (nothing_said (state old))))

pub as_err : {T E : Type 0} {P : Type 0} (r : Result T E) → is_err r ≡ true → OnErr r P → P
as_err (Ok x) h p = absurd (let k = h in cc)
as_err (Err e) h p = p

-- some bytes are written where nothing is pending
pub sent : {K : Type 0} {state : K → SinkState} {p q : Printer K} {bytes : List ℕ} → p.gathered.items ≡ [] → q.gathered.items ≡ [] → q.sink.ghost_name ≡ p.sink.ghost_name
    → Continues (outcome p.failed) (outcome q.failed) (state p.sink.now) (state q.sink.now) bytes → Prints state p q bytes
sent {state = state} {p = p} {q = q} {bytes = bytes} e f n k =
    record {
      same = n;
      by = λ start said s.
          subst (λ l. HasSaid q.failed start (state q.sink.now) l (said ++ bytes)) (sym f)
          (said_then p.failed q.failed start (state p.sink.now) (state q.sink.now) [] bytes said (subst (λ l. HasSaid p.failed start (state p.sink.now) l said) e s) k);
    }
