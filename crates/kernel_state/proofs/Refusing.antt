-- What the tests of a call read: words one by one, hook functions, one process.
use Rattle.std.proofs.Common.{◌≡◌, ℕ, zero, suc, ◌+◌, ◌<◌, ◌≤◌, Bool, true, false, ◌&&◌, not, List, [], ◌∷◌, ◌++◌, length, get_or, map, drop, refl, sym, ap, ◌∙◌, arith}
use Rattle.std.specs.Prelude.{slice_get, Option, Some, None, is_some, nat_le, nat_lt, ◌==◌, if◌then◌else◌}
use Rattle.std.specs.List.{list_any, list_all}
use Rattle.std.proofs.lemmas.Bool.{le-leb, le-ltb}
use Rattle.std.proofs.lemmas.List.{drop_all}
use Rattle.text_model.proofs.Lists.{drop_at}
use Rattle.text_model.specs.Properties.{Cell}
use Rattle.editor_model.specs.Values.{Value, Fault, WrongType, ProcessEnded, TooMany, CodingFixed, StartProcess}
use Rattle.editor_model.specs.Answers.{Test, first_fault, refuse}
use Rattle.editor_model.specs.Limits.{most_buffers, most_markers}
use Rattle.editor_model.specs.Arguments.{arg, symbol_of, must_be_fewer, must_be_name, must_be_short}
use Rattle.plain_machine.specs.State.{State, Process, HookLists, Program}
use Rattle.plain_machine.specs.Hooks.{hook_list, hook_here, hook_added}
use Rattle.plain_machine.specs.Arguments.{encoded, is_closed, is_running, is_fed, is_coding, is_new_name, is_process_buffer, is_word, process_of}
use Rattle.plain_machine.specs.Refusals.{must_be_word, must_be_process, process_there, must_live_or_be_named, only_where, most_processes, most_sent, must_ask}
use Rattle.change_hooks.specs.Hooked.{hook}
use Rattle.kernel_steps.specs.Waits.{Passes}

-- WORDS
pub item_at : {A : Type 0} (xs : List A) (i : ℕ) (x : A) → i < length xs → x ≡ get_or xs i x → slice_get xs i ≡ Some x
item_at xs i x l is = read xs i l ∙ ap (λ y. Some y) (sym is)
  where
    read : (ys : List _) (k : ℕ) → k < length ys → slice_get ys k ≡ Some (get_or ys k x)
    read [] k h = absurd (omega arith)
    read (y ∷ ys) zero h = refl
    read (y ∷ ys) (suc k) h = read ys k (omega arith)

module _ (vs : List Value) (i : ℕ) (whole : Option Fault) where
  pub word_met : (v : Value) → slice_get vs i ≡ Some v → None ≡ must_be_word v → first_fault (map must_be_word (drop i vs)) ≡ whole → first_fault (map must_be_word (drop (i + 1) vs)) ≡ whole
  word_met v at h inv = ap (λ t. first_fault (t ∷ map must_be_word (drop (i + 1) vs))) h ∙ ap (λ s. first_fault (map must_be_word s)) (sym (drop_at vs i v at)) ∙ inv

  pub other_met : (v : Value) (f : Fault) → slice_get vs i ≡ Some v → Some f ≡ must_be_word v → first_fault (map must_be_word (drop i vs)) ≡ whole → Some f ≡ whole
  other_met v f at h inv = ap (λ t. first_fault (t ∷ map must_be_word (drop (i + 1) vs))) h ∙ ap (λ s. first_fault (map must_be_word s)) (sym (drop_at vs i v at)) ∙ inv

  pub all_words : length vs ≤ i → first_fault (map must_be_word (drop i vs)) ≡ whole → None ≡ whole
  all_words l inv = ap (λ s. first_fault (map must_be_word s)) (sym (drop_all i vs l)) ∙ inv

-- HOOK FUNCTIONS
pub list_of_hook : (before : Bool) (n : ℕ) (lists : HookLists) → before ≡ (n == 4) → hook_list (hook before) lists ≡ hook_list n lists
list_of_hook true n lists h = ap (λ b. let x : List ℕ = if b then lists.before else lists.after in x) h
list_of_hook false n lists h = ap (λ b. let x : List ℕ = if b then lists.before else lists.after in x) h

module _ (s : State) (v fn : Value) (names : List ℕ) (same : names ≡ hook_here s v) where
  abbrev added : Bool → List ℕ
  added b = if b then hook_here s v else symbol_of fn ∷ hook_here s v

  pub stands_there : true ≡ list_any (λ n. n == symbol_of fn) names → length names ≡ length (hook_added s v fn)
  stands_there h = ap length same ∙ ap (λ b. length (added b)) (h ∙ ap (λ ns. list_any (λ n. n == symbol_of fn) ns) same)

  pub stands_not : false ≡ list_any (λ n. n == symbol_of fn) names → length names + 1 ≡ length (hook_added s v fn)
  stands_not h =
      let one : length names + 1 ≡ length (symbol_of fn ∷ hook_here s v) = omega (arith, ap length same) in
      one ∙ ap (λ b. length (added b)) (h ∙ ap (λ ns. list_any (λ n. n == symbol_of fn) ns) same)

-- ONE PROCESS
nobody_there : (xs : List Process) (p : ℕ) → length xs ≤ p → slice_get xs p ≡ None
nobody_there [] p l = refl
nobody_there (x ∷ xs) zero l = absurd (omega arith)
nobody_there (x ∷ xs) (suc p) l = nobody_there xs p (omega arith)

abbrev closed_in : Option Process → Bool
closed_in o = elim o [ Some x ↦ x.closed | None ↦ true ]

pub closed_past : (s : State) (n p : ℕ) → n ≡ length s.processes → n ≤ p → nat_le n p ≡ is_closed s p
closed_past s n p is l = le-leb n p l ∙ ap closed_in (sym (nobody_there s.processes p (omega arith)))

pub closed_at : (s : State) (p : ℕ) (x : Process) → slice_get s.processes p ≡ Some x → x.closed ≡ is_closed s p
closed_at s p x at = ap closed_in (sym at)

abbrev fed_in : Option Process → Bool
fed_in o = elim o [ None ↦ false | Some x ↦ is_some x.bytes ]

pub fed_past : (s : State) (n p : ℕ) → n ≡ length s.processes → n ≤ p → nat_lt p n ≡ is_fed s p
fed_past s n p is l = le-ltb p n l ∙ ap fed_in (sym (nobody_there s.processes p (omega (arith, is, l))))

pub fed_at : (s : State) (p : ℕ) (x : Process) → slice_get s.processes p ≡ Some x → is_some x.bytes ≡ is_fed s p
fed_at s p x at = ap fed_in (sym at)

-- ONE TEST AFTER THE OTHER
pub stops : (t : Test) (rest : List Test) (f : Fault) → Some f ≡ t → Some f ≡ first_fault (t ∷ rest)
stops t rest f h = ap (λ u. first_fault (u ∷ rest)) h

pub goes : (t : Test) (rest : List Test) → None ≡ t → first_fault rest ≡ first_fault (t ∷ rest)
goes t rest h = ap (λ u. first_fault (u ∷ rest)) h

abbrev pub one_tests : State → (p : Value) → List Test
one_tests s p = must_be_process p ∷ process_there s p ∷ []

abbrev pub command_tests : (p b program : Value) → List Value → List Test
command_tests p b program args = must_be_name p ∷ refuse WrongType (is_process_buffer b) ∷ must_be_name program ∷ must_be_word program ∷ map must_be_word (drop 3 args)

abbrev pub place_tests : State → (p b : Value) → List Test
place_tests s p b =
    must_live_or_be_named s.editor b ∷ must_be_short p ∷ only_where (is_new_name s.editor b) (must_be_short b) ∷
    must_be_fewer most_processes (length s.processes) ∷ must_be_fewer most_markers (length s.editor.marks.markers) ∷ only_where (is_new_name s.editor b) (must_be_fewer most_buffers (length s.editor.buffers)) ∷ must_ask s ∷ []

abbrev pub sent_tests : State → (p : ℕ) → List Cell → List Test
sent_tests s p text = refuse ProcessEnded (is_running s p && not (is_closed s p)) ∷ refuse TooMany (nat_le (s.sent + length (encoded text)) most_sent) ∷ must_ask s ∷ []

abbrev pub send_tests : (empty : Bool) → State → (p : ℕ) → List Cell → List Test
send_tests empty s p text =
    only_where (not empty) (refuse ProcessEnded (is_running s p && not (is_closed s p))) ∷ only_where (not empty) (refuse TooMany (nat_le (s.sent + length (encoded text)) most_sent)) ∷ only_where (not empty) (must_ask s) ∷ []

-- those of a coding behind the process's own
abbrev pub unfed_tests : State → (p : Value) → List Test
unfed_tests s p = refuse CodingFixed (not (is_fed s (process_of s p))) ∷ []

abbrev pub coding_tests : State → (p coding : Value) → List Test
coding_tests s p coding = refuse WrongType (is_coding coding) ∷ process_there s p ∷ unfed_tests s p

-- A START THAT NO TEST REFUSES
none_front : (t : Test) (ts : List Test) → first_fault (t ∷ ts) ≡ None → t ≡ None
none_front None ts h = refl
none_front (Some f) ts h = absurd (let x : Some f ≡ None = h in cc)

none_behind : (t : Test) (ts : List Test) → first_fault (t ∷ ts) ≡ None → first_fault ts ≡ None
none_behind None ts h = h
none_behind (Some f) ts h = absurd (let x : Some f ≡ None = h in cc)

none_first : (front behind : List Test) → first_fault (front ++ behind) ≡ None → first_fault front ≡ None
none_first [] behind h = refl
none_first (None ∷ front) behind h = none_first front behind h
none_first (Some f ∷ front) behind h = absurd (let x : Some f ≡ None = h in cc)

a_word : (v : Value) → must_be_word v ≡ None → is_word v ≡ true
a_word v h = by (is_word v) h
  where
    by : (b : Bool) → refuse WrongType b ≡ None → b ≡ true
    by true h = refl
    by false h = absurd (let x : Some WrongType ≡ None = h in cc)

words_pass : (vs : List Value) → first_fault (map must_be_word vs) ≡ None → list_all is_word vs ≡ true
words_pass [] h = refl
words_pass (v ∷ vs) h =
    ap (λ b. b && list_all is_word vs) (a_word v (none_front (must_be_word v) (map must_be_word vs) h)) ∙ words_pass vs (none_behind (must_be_word v) (map must_be_word vs) h)

module _ (program : Program) (s : State) (args : List Value) (passes : Passes program s StartProcess args) where
  behind_name : first_fault (must_be_word (arg args 2) ∷ map must_be_word (drop 3 args) ++ place_tests s (arg args 0) (arg args 1)) ≡ None
  behind_name =
      none_behind (must_be_name (arg args 2)) _ (none_behind (refuse WrongType (is_process_buffer (arg args 1))) _ (none_behind (must_be_name (arg args 0)) _ passes))

  pub program_passes : is_word (arg args 2) ≡ true
  program_passes = a_word (arg args 2) (none_front (must_be_word (arg args 2)) _ behind_name)

  pub words_pass_all : list_all is_word (drop 3 args) ≡ true
  words_pass_all = words_pass (drop 3 args) (none_first (map must_be_word (drop 3 args)) (place_tests s (arg args 0) (arg args 1)) (none_behind (must_be_word (arg args 2)) _ behind_name))
