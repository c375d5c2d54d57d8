-- How what a run does to the outside is put together of its steps.
use Rattle.std.proofs.Common.{◌≡◌, ℕ, ◌+◌, List, [], ◌∷◌, ◌++◌, length, Ok, Err, Some, sym, ap, ◌∙◌, append-nil, append_assoc, refl, arith, length-append, subst}
use Rattle.std.specs.declared.option.Option.{Option}
use Rattle.std.proofs.KnownBytes.{Appends-nil, Appends-trans}
use Rattle.std.proofs.lemmas.Bool.{false≢true}
use Rattle.std.proofs.lemmas.Grind.{flat_map-append}
use Rattle.plain_machine.specs.Exchanges.{Ask, Answer, Exchange}
use Rattle.plain_machine.specs.State.{Program}
use Rattle.plain_machine.specs.Items.{Said, Config, Next, Goes as Steps, Asks}
use Rattle.plain_machine.specs.Step.{step}
use Rattle.plain_machine.specs.Run.{Reaches, stays, goes, asks, lines}
use Rattle.plain_machine.specs.WholeRuns.{IsBetweenEntries}
use Rattle.plain_machine.proofs.Composed.{reaches_then}
use Rattle.ek_types.specs.Io.{SinkState, Writes}
use Rattle.kernel_steps.specs.Outside.{deepest, Past, Outside, outside, Adds, Goes, Breaks, IsStep, StopsAtLine, CameTo}
use Rattle.kernel_steps.specs.declared.stop.Stop.{Stop}
use Rattle.kernel_steps.specs.declared.stop.Stop.TheVariants as stop

-- LINES
pub lines_then : (first second : List Said) → lines (first ++ second) ≡ lines first ++ lines second
lines_then first second = flat_map-append (λ (x : Said). x.line) first second

pub lines_of_one : (x : Said) → lines (x ∷ []) ≡ x.line
lines_of_one x = append-nil x.line

pub said_in_all : (first second : List Said) → length (lines (first ++ second)) ≡ length (lines first) + length (lines second)
said_in_all first second = ap length (lines_then first second) ∙ length-append (lines first) (lines second)

-- EXCHANGES
pub adds_nothing : (past : Past) → Adds past past []
adds_nothing past = λ exchanges h. subst past (sym (append-nil exchanges)) h

pub adds_then : (a b c : Past) (first second : List Exchange) → Adds a b first → Adds b c second → Adds a c (first ++ second)
adds_then a b c first second h k = λ exchanges x. subst c (append_assoc exchanges first second) (k (exchanges ++ first) (h exchanges x))

-- one exchange more was made
abbrev pub AddsOne : (old new : Past) → Ask → Answer → Type 0
AddsOne old new ask answer = Adds old new (record { ask = ask; answer = answer } ∷ [])

module _ (program : Program) where
  -- STEPS THAT SAY NOTHING
  pub goes_silently : (o : Outside) (c d : Config) → Reaches program deepest c [] [] d → Goes program o o c d
  goes_silently o c d run = record {
    made = [];
    said = [];
    run = run;
    written = Appends-nil o.sink.held;
    adds = adds_nothing o.past;
    later = omega arith;
    roomy = λ few. record { faults = refl; room = omega arith };
  }

  pub goes_then : (a b c : Outside) (x y z : Config) → Goes program a b x y → Goes program b c y z → Goes program a c x z
  goes_then a b c x y z g h = record {
    made = g.made ++ h.made;
    said = g.said ++ h.said;
    run = reaches_then program deepest x y z g.made h.made g.said h.said g.run h.run;
    written = rw (lines_then g.said h.said) (Appends-trans a.sink.held b.sink.held c.sink.held (lines g.said) (lines h.said) g.written h.written);
    adds = adds_then a.past b.past c.past g.made h.made g.adds h.adds;
    later = omega (arith, g.later, h.later);
    roomy = λ few.
        let size = said_in_all g.said h.said in
        let first = g.roomy (omega (arith, few, size)) in
        let second = h.roomy (omega (arith, few, size, first.room)) in
        record { faults = second.faults ∙ first.faults; room = omega (arith, first.room, second.room, size) };
  }

  -- BREAKING OFF
  abbrev pub breaks_here : (o : Outside) (c : Config) → IsBetweenEntries c → Breaks stop.NoMemory program o o c
  breaks_here o c between = record {
    made = [];
    said = [];
    last = c;
    run = stays;
    between = between;
    bytes = [];
    front = ([], refl);
    came = refl;
    written = Appends-nil o.sink.held;
    adds = adds_nothing o.past;
    later = omega arith;
    roomy = λ few. refl;
  }

  -- how far it came behind steps that were done
  pub came_behind : (why : Stop) (a b : Outside) (x y last : Config) (made : List Exchange) (said : List Said) (bytes : List ℕ) (g : Goes program a b x y) → CameTo why program y made said last bytes →
      CameTo why program x (g.made ++ made) (g.said ++ said) last (lines g.said ++ bytes)
  came_behind stop.NoMemory a b x y last made said bytes g e = ap (λ l. lines g.said ++ l) e ∙ sym (lines_then g.said said)
  came_behind stop.WriteFault a b x y last made said bytes g k = record {
    asked = g.made ++ k.asked;
    whole = g.said ++ k.whole;
    there = k.there;
    run = reaches_then program deepest x y k.there g.made k.asked g.said k.whole g.run k.run;
    more = k.more;
    line = k.line;
    next = k.next;
    steps = k.steps;
    says = k.says;
    comes = k.comes;
    made_are = ap (λ l. g.made ++ l) k.made_are ∙ sym (append_assoc g.made k.asked k.more);
    said_are = ap (λ l. g.said ++ l) k.said_are ∙ sym (append_assoc g.said k.whole (k.line ∷ []));
    written = (k.written.0, ap (λ l. l ++ k.written.0) (lines_then g.said k.whole) ∙ append_assoc (lines g.said) (lines k.whole) k.written.0 ∙ ap (λ l. lines g.said ++ l) k.written.1);
  }

  -- a line that couldn't be written where the run began
  pub stops_here : (c : Config) (made : List Exchange) (n : Next) (x : Said) (bytes : List ℕ) → IsStep program c made n → n.said ≡ x ∷ [] → StopsAtLine program c made (x ∷ []) n.config bytes
  stops_here c made n x bytes s said = record {
    asked = [];
    whole = [];
    there = c;
    run = stays;
    more = made;
    line = x;
    next = n;
    steps = s;
    says = said;
    comes = refl;
    made_are = refl;
    said_are = refl;
    written = (bytes, refl);
  }

  abbrev pub goes_breaks : {why : Stop} (a b c : Outside) (x y : Config) → Goes program a b x y → Breaks why program b c y → Breaks why program a c x
  goes_breaks {why = why} a b c x y g h = record {
    made = g.made ++ h.made;
    said = g.said ++ h.said;
    last = h.last;
    run = reaches_then program deepest x y h.last g.made h.made g.said h.said g.run h.run;
    between = h.between;
    bytes = lines g.said ++ h.bytes;
    front = (h.front.0, append_assoc (lines g.said) h.bytes h.front.0 ∙ ap (λ l. lines g.said ++ l) h.front.1 ∙ sym (lines_then g.said h.said));
    came = came_behind why a b x y h.last h.made h.said h.bytes g h.came;
    written = Appends-trans a.sink.held b.sink.held c.sink.held (lines g.said) h.bytes g.written h.written;
    adds = adds_then a.past b.past c.past g.made h.made g.adds h.adds;
    later = omega (arith, g.later, h.later);
    roomy = λ few.
        let size = said_in_all g.said h.said in
        let first = g.roomy (omega (arith, few, size)) in
        h.roomy (omega (arith, few, size, first.room)) ∙ first.faults;
  }

  -- A LINE
  one : (c : Config) (n : Next) → step program deepest c ≡ Steps n → Reaches program deepest c [] (n.said ++ []) n.config
  one c n e = goes e stays

  pub said_one : (c : Config) (n : Next) (x : Said) → step program deepest c ≡ Steps n → n.said ≡ x ∷ [] → Reaches program deepest c [] (x ∷ []) n.config
  said_one c n x e said = rw (said) at (rw append-nil at (one c n e))

  -- a line that the machine says is written
  pub says : {T E : Type 0} (old new : SinkState) (past : Past) (c : Config) (n : Next) (x : Said) (value : T) → step program deepest c ≡ Steps n → n.said ≡ x ∷ [] →
      Writes {T = T} {E = E} old new (Ok value) x.line → Goes program (outside old past) (outside new past) c n.config
  says old new past c n x value e said w = record {
    made = [];
    said = x ∷ [];
    run = said_one c n x e said;
    written = rw (lines_of_one x) w.ok;
    adds = adds_nothing past;
    later = w.later;
    roomy = λ few.
        let takes = w.roomy (rw (lines_of_one x) at few) in
        record { faults = takes.faults; room = rw (lines_of_one x) takes.room };
  }

  -- or a front of it
  abbrev pub says_front : {T E : Type 0} (old new : SinkState) (past : Past) (c : Config) (n : Next) (x : Said) (fault : E) → step program deepest c ≡ Steps n → n.said ≡ x ∷ [] → IsBetweenEntries n.config →
      Writes {T = T} {E = E} old new (Err fault) x.line → Breaks stop.WriteFault program (outside old past) (outside new past) c
  says_front old new past c n x fault e said between w = record {
    made = [];
    said = x ∷ [];
    last = n.config;
    run = said_one c n x e said;
    between = between;
    bytes = w.err.0;
    front = (w.err.1.0, w.err.1.1 ∙ sym (lines_of_one x));
    came = stops_here c [] n x w.err.0 e said;
    written = w.err.2;
    adds = adds_nothing past;
    later = w.later;
    roomy = λ few. absurd (false≢true (w.roomy (rw (lines_of_one x) at few)).ok);
  }

  -- AN EXCHANGE
  one_asked : (c : Config) (ask : Ask) (answer : Answer) (next : Answer → Option Next) (n : Next) → step program deepest c ≡ Asks ask next → next answer ≡ Some n →
      Reaches program deepest c (record { ask = ask; answer = answer } ∷ []) n.said n.config
  one_asked c ask answer next n e k =
      let run : Reaches program deepest c (record { ask = ask; answer = answer } ∷ []) (n.said ++ []) n.config = asks e k stays in
      rw append-nil at run

  pub asked : (sink : SinkState) (old new : Past) (c : Config) (ask : Ask) (answer : Answer) (next : Answer → Option Next) (n : Next) →
      step program deepest c ≡ Asks ask next → next answer ≡ Some n → n.said ≡ [] → AddsOne old new ask answer → Goes program (outside sink old) (outside sink new) c n.config
  asked sink old new c ask answer next n e k said x = record {
    made = record { ask = ask; answer = answer } ∷ [];
    said = [];
    run = rw said at (one_asked c ask answer next n e k);
    written = Appends-nil sink.held;
    adds = x;
    later = omega arith;
    roomy = λ few. record { faults = refl; room = omega arith };
  }

  -- an exchange whose answer is told in a line
  pub said_asked : (c : Config) (ask : Ask) (answer : Answer) (next : Answer → Option Next) (n : Next) (x : Said) → step program deepest c ≡ Asks ask next → next answer ≡ Some n → n.said ≡ x ∷ [] →
      Reaches program deepest c (record { ask = ask; answer = answer } ∷ []) (x ∷ []) n.config
  said_asked c ask answer next n x e k said = rw said at (one_asked c ask answer next n e k)

  pub asked_says : {T E : Type 0} (old new : SinkState) (past now : Past) (c : Config) (ask : Ask) (answer : Answer) (next : Answer → Option Next) (n : Next) (x : Said) (value : T) →
      step program deepest c ≡ Asks ask next → next answer ≡ Some n → n.said ≡ x ∷ [] → AddsOne past now ask answer → Writes {T = T} {E = E} old new (Ok value) x.line →
      Goes program (outside old past) (outside new now) c n.config
  asked_says old new past now c ask answer next n x value e k said exchange w = record {
    made = record { ask = ask; answer = answer } ∷ [];
    said = x ∷ [];
    run = said_asked c ask answer next n x e k said;
    written = rw (lines_of_one x) w.ok;
    adds = exchange;
    later = w.later;
    roomy = λ few.
        let takes = w.roomy (rw (lines_of_one x) at few) in
        record { faults = takes.faults; room = rw (lines_of_one x) takes.room };
  }

  abbrev pub asked_front : {T E : Type 0} (old new : SinkState) (past now : Past) (c : Config) (ask : Ask) (answer : Answer) (next : Answer → Option Next) (n : Next) (x : Said) (fault : E) →
      step program deepest c ≡ Asks ask next → next answer ≡ Some n → n.said ≡ x ∷ [] → IsBetweenEntries n.config → AddsOne past now ask answer → Writes {T = T} {E = E} old new (Err fault) x.line →
      Breaks stop.WriteFault program (outside old past) (outside new now) c
  asked_front old new past now c ask answer next n x fault e k said between exchange w = record {
    made = record { ask = ask; answer = answer } ∷ [];
    said = x ∷ [];
    last = n.config;
    run = said_asked c ask answer next n x e k said;
    between = between;
    bytes = w.err.0;
    front = (w.err.1.0, w.err.1.1 ∙ sym (lines_of_one x));
    came = stops_here c (record { ask = ask; answer = answer } ∷ []) n x w.err.0 (next, e, k) said;
    written = w.err.2;
    adds = exchange;
    later = w.later;
    roomy = λ few. absurd (false≢true (w.roomy (rw (lines_of_one x) at few)).ok);
  }
