-- The words of the command line, and the drill: a script and a child that the program brings along to
-- measure itself.
use Rattle.std.specs.Prelude.{ℕ, zero, suc, ◌+◌, ◌%◌, ◌^◌, Bool, true, false, ◌&&◌, nat_le, List, []}
use Rattle.std.specs.Prelude.{◌∷◌, ◌++◌, map, take, drop, length, replicate, codes, decimal}
use Rattle.std.specs.Prelude.{Option, Some, None}
use Rattle.std.specs.List.{list_all}
use Rattle.text_model.specs.Characters.{Scalar}
use Rattle.text_model.specs.Names.{first_symbols, same_word}
use Rattle.editor_model.specs.Values.{Sym, Str, Prim, Arg, Const, Name, Call, Form, Do, Setq, Forms}
use Rattle.editor_model.specs.Values.{NoForms, Then, HandlerDef, Script, ProcessBuffer, SetBuffer}
use Rattle.editor_model.specs.Values.{ProcessMark, GotoChar, Insert, PointAt, PutTextProperty}
use Rattle.editor_model.specs.Values.{SetMarker, UndoBoundary, StartProcess, SetProcessFilter}
use Rattle.editor_model.specs.Values.{SetProcessSentinel, AcceptProcessOutput}
use Rattle.editor_model.specs.Editor.{characters_in}
use Rattle.plain_machine.specs.Exchanges.{Exchange}
use Rattle.plain_machine.specs.State.{State}
use Rattle.plain_machine.specs.Items.{Said}
use Rattle.plain_machine.specs.Words.{is_digit, digits_value}
use Rattle.plain_machine.specs.Run.{lines}
use Rattle.plain_machine.specs.Grammar.{line_feeds}

-- THE WORDS
abbrev pub is_run : List (List ℕ) → Bool
is_run (w ∷ []) = same_word w (codes "run")
is_run _ = false

-- a number of one to four digits
abbrev pub is_drill_number : List ℕ → Bool
is_drill_number w = list_all is_digit w && (nat_le 1 (length w) && nat_le (length w) 4)

abbrev pub drill_of : List (List ℕ) → Option ℕ
drill_of (w ∷ number ∷ []) = elim (same_word w (codes "drill") && is_drill_number number) [
  | true ↦ Some (digits_value 0 number)
  | false ↦ None
]
drill_of _ = None

-- THE CHILD
-- the lines é 0, é 1 .. that it writes
abbrev pub output_from : (k lines : ℕ) → List ℕ
output_from k zero = []
output_from k (suc n) = 0xC3 ∷ 0xA9 ∷ 32 ∷ (decimal k ++ 10 ∷ output_from (k + 1) n)

-- cut into pieces of 1, 2, 3, 4, 5, 6, 7, 1, 2 .. bytes, the last as long as what remains
abbrev pub pieces : (turns size : ℕ) → List ℕ → List (List ℕ)
pieces zero size bytes = []
pieces (suc turns) size [] = []
pieces (suc turns) size (b ∷ bytes) =
    take size (b ∷ bytes) ∷ pieces turns (size % 7 + 1) (drop size (b ∷ bytes))

abbrev pub drill_reads : ℕ → List (List ℕ)
drill_reads n = let output : List ℕ = output_from 0 n in pieces (length output) 1 output

-- THE SCRIPT
-- its names, numbered behind the first symbols: f p s b m e n out g
abbrev pub f : ℕ
f = 17

abbrev pub p : ℕ
p = 18

abbrev pub s : ℕ
s = 19

abbrev pub b : ℕ
b = 20

abbrev pub m : ℕ
m = 21

abbrev pub e : ℕ
e = 22

abbrev pub n : ℕ
n = 23

abbrev pub out : ℕ
out = 24

abbrev pub g : ℕ
g = 25

abbrev pub drill_symbols : List (List ℕ)
drill_symbols =
    first_symbols ++ codes "f" ∷ codes "p" ∷ codes "s" ∷ codes "b" ∷ codes "m" ∷ codes "e" ∷ codes "n" ∷
    codes "out" ∷ codes "g" ∷ []

abbrev pub call : Prim → List Arg → Call
call prim args = record { prim = prim; args = args }

abbrev pub string : List ℕ → Arg
string bytes = Const (Str (map (λ c. (Scalar c, [])) bytes))

abbrev pub in_order : List Form → Forms
in_order [] = NoForms
in_order (form ∷ rest) = Then form (in_order rest)

abbrev pub drill_handlers : List HandlerDef
drill_handlers =
    record {
      name = f;
      params = p ∷ s ∷ [];
      body = in_order (
          Setq b (call ProcessBuffer (Name p ∷ [])) ∷ Do (call SetBuffer (Name b ∷ [])) ∷
          Setq m (call ProcessMark (Name p ∷ [])) ∷ Do (call GotoChar (Name m ∷ [])) ∷
          Do (call Insert (Name s ∷ [])) ∷ Setq e (call PointAt []) ∷
          Do (call PutTextProperty (Name m ∷ Name e ∷ Const (Sym n) ∷ Const (Sym out) ∷ [])) ∷
          Do (call SetMarker (Name m ∷ Name e ∷ [])) ∷ Do (call UndoBoundary []) ∷ []);
    } ∷
    record { name = g; params = p ∷ s ∷ []; body = NoForms } ∷ []

-- after the start one wait for each read, and one more
abbrev pub drill_script : ℕ → Script
drill_script count = record {
  symbols = drill_symbols;
  handlers = drill_handlers;
  forms = in_order (
      Setq p (call StartProcess (string (codes "drill") ∷ string (codes "out") ∷ string (codes "drill") ∷ [])) ∷
      Do (call SetProcessFilter (Name p ∷ Const (Sym f) ∷ [])) ∷
      Do (call SetProcessSentinel (Name p ∷ Const (Sym g) ∷ [])) ∷
      replicate (length (drill_reads count) + 1) (Do (call AcceptProcessOutput (Name p ∷ []))));
}

-- THE SUMMARY
abbrev pub summary_line : (count lines exchanges characters : ℕ) → List ℕ
summary_line count lines exchanges characters =
    codes "drill " ++ (decimal count ++ (codes ": " ++ (decimal lines ++ (codes " lines, " ++
    (decimal exchanges ++ (codes " exchanges, " ++
    (decimal characters ++ codes " characters\n")))))))

abbrev in_64_bits : ℕ → ℕ
in_64_bits n = n % 2 ^ 64

-- the lines that a run has said, with its dump, its exchanges, and the characters of all live buffers
abbrev pub summary : ℕ → List Said → List Exchange → State → List ℕ
summary count said exchanges last =
    summary_line count (in_64_bits (line_feeds (lines said))) (in_64_bits (length exchanges))
    (in_64_bits (characters_in last.editor.buffers))
