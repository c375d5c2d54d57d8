-- How a worked row is written: a script, its exchanges, and the lines that it has to write.
pub use Rattle.text_model.specs.Sticky.{front_sticky, rear_nonsticky}
pub use Rattle.text_model.specs.Marks.{evaporate}
pub use Rattle.text_model.specs.OverlayQuestions.{priority}
pub use Rattle.editor_model.specs.ReadOnly.{read_only}
pub use Rattle.plain_machine.specs.Hooks.{before_change_functions, after_change_functions}
use Rattle.std.specs.Prelude.{◌≡◌, ℕ, zero, suc, pos, List, [], ◌∷◌, ◌++◌, map, flat_map, Option, None}
use Rattle.text_model.specs.Characters.{Scalar}
use Rattle.text_model.specs.Properties.{Cell, PropSet}
use Rattle.text_model.specs.Names.{first_symbols}
use Rattle.editor_model.specs.Values.{Value, Nil, T, Int, Sym, Str, Form, Forms, Do, Setq, Then}
use Rattle.editor_model.specs.Values.{NoForms, Arg, Const, HandlerDef, Prim, Reply, Script}
use Rattle.plain_machine.specs.Exchanges.{Exchange, Ask, Answer}
use Rattle.plain_machine.specs.Symbols.{program_of}
use Rattle.plain_machine.specs.Shipped.{shipped_names, shipped}
use Rattle.plain_machine.specs.Lines.{dump}
use Rattle.plain_machine.specs.Run.{Ran, HasEnded, run, start, lines}

-- SCRIPTS
abbrev pub forms : List Form → Forms
forms [] = NoForms
forms (f ∷ fs) = Then f (forms fs)

-- the names of a script beside the first symbols, which get the numbers from 17 on; its handlers; its forms
abbrev pub script : List (List ℕ) → List HandlerDef → List Form → Script
script names handlers fs = record { symbols = first_symbols ++ names; handlers = handlers; forms = forms fs }

abbrev pub handler : (name : ℕ) → (params : List ℕ) → List Form → HandlerDef
handler name params fs = record { name = name; params = params; body = forms fs }

abbrev pub call : Prim → List Arg → Form
call prim args = Do (record { prim = prim; args = args })

abbrev pub set : (name : ℕ) → Prim → List Arg → Form
set name prim args = Setq name (record { prim = prim; args = args })

-- ARGUMENTS
abbrev pub plain : List ℕ → List Cell
plain bytes = map (λ c. (Scalar c, [])) bytes

abbrev pub with_set : PropSet → List ℕ → List Cell
with_set set bytes = map (λ c. (Scalar c, set)) bytes

abbrev pub text : List ℕ → Value
text bytes = Str (plain bytes)

abbrev pub quoted : Value → Arg
quoted v = Const v

abbrev pub nil : Arg
nil = Const Nil

abbrev pub t : Arg
t = Const T

abbrev pub number : ℕ → Arg
number n = Const (Int (pos n))

abbrev pub string : List ℕ → Arg
string bytes = Const (text bytes)

abbrev pub symbol : ℕ → Arg
symbol s = Const (Sym s)

-- EXCHANGES
abbrev pub spawned : (program : List ℕ) → (args : List (List ℕ)) → (child : ℕ) → Exchange
spawned program args child = record { ask = Ask.Spawn program args; answer = Answer.Started child }

abbrev pub refused : (program : List ℕ) → (args : List (List ℕ)) → Exchange
refused program args = record { ask = Ask.Spawn program args; answer = Answer.Refused }

abbrev pub reads : (child : ℕ) → (bytes : List ℕ) → Exchange
reads child bytes = record { ask = Ask.Read child; answer = Answer.Bytes bytes }

abbrev pub reads_nothing : (child : ℕ) → Exchange
reads_nothing child = record { ask = Ask.Read child; answer = Answer.Nothing }

abbrev pub output_ends : (child : ℕ) → Exchange
output_ends child = record { ask = Ask.Read child; answer = Answer.End }

abbrev pub read_fails : (child : ℕ) → Exchange
read_fails child = record { ask = Ask.Read child; answer = Answer.Failed }

abbrev pub exits : (child code : ℕ) → Exchange
exits child code = record { ask = Ask.AskEnd child; answer = Answer.Code (pos code) }

abbrev pub end_fails : (child : ℕ) → Exchange
end_fails child = record { ask = Ask.AskEnd child; answer = Answer.Failed }

abbrev pub killed : (child : ℕ) → Exchange
killed child = record { ask = Ask.Kill child; answer = Answer.Killed }

abbrev pub kill_fails : (child : ℕ) → Exchange
kill_fails child = record { ask = Ask.Kill child; answer = Answer.Failed }

-- LINES
abbrev pub written : List (List ℕ) → List ℕ
written lines = flat_map (λ line. line ++ 10 ∷ []) lines

-- a line two spaces further to the right for each level of depth
abbrev pub indented : (depth : ℕ) → List ℕ → List ℕ
indented zero line = line
indented (suc depth) line = 32 ∷ 32 ∷ indented depth line

abbrev pub dump_of : Ran → List ℕ
dump_of r = dump first_symbols r.last.state

-- ROWS
pub record Row : Type 0 where
  pub ran : Ran
  pub expected : List ℕ

-- the run has ended, these exchanges are used up, and these bytes are written
abbrev pub Holds : Row → Type 0
Holds r = (r.ran.how ≡ HasEnded) × (r.ran.left ≡ []) × (lines r.ran.said ≡ r.expected)

abbrev pub Does : Type 0
Does = ℕ → List Value → List Reply → Option (Prim × List Value)

-- more steps than any row takes
abbrev pub steps : ℕ
steps = 10000

abbrev pub row_of : (natives : List (List ℕ)) → Does → (bound : ℕ) → Script → List Exchange →
    List (List ℕ) → Row
row_of natives does bound script exchanges expected =
    record {
      ran = run (program_of script natives does) bound steps (start script) exchanges;
      expected = written expected;
    }

abbrev pub row_at : (bound : ℕ) → Script → List Exchange → List (List ℕ) → Row
row_at bound script exchanges expected = row_of [] (λ i args past. None) bound script exchanges expected

abbrev pub row : Script → List Exchange → List (List ℕ) → Row
row script exchanges expected = row_at 16 script exchanges expected

-- with the three natives that the program brings along
abbrev pub shipped_row : Script → List Exchange → List (List ℕ) → Row
shipped_row script exchanges expected = row_of shipped_names shipped 16 script exchanges expected

-- with one native, whose name gets the number 17, and without children
abbrev pub native_row : (name : List ℕ) → (List Reply → Option (Prim × List Value)) → List Form →
    List (List ℕ) → Row
native_row name does fs expected =
    row_of (name ∷ []) (λ i args past. does past) 16 (script [] [] fs) [] expected
