-- A process that is started.
use Rattle.std.proofs.Common.{◌≡◌, ℕ, zero, suc, ◌+◌, ◌<◌, ◌≤◌, Bool, true, false, List, [], ◌∷◌, ◌++◌, length, map, drop, refl, sym, ap, subst, ◌∙◌, arith, zero-add}
use Rattle.std.specs.Prelude.{not, nat_lt, if◌then◌else◌, Option, Some, None, IfSome, is_some, slice_get, slice_set, unwrap_or}
use Rattle.std.proofs.lemmas.Bool.{ltb-true}
use Rattle.text_model.specs.Marks.{Marker}
use Rattle.marker_set.specs.Numbered.{nowhere}
use Rattle.machine_laws.proofs.Tests.{no_fault, append_passes, refuse_ok}
use Rattle.editor_model.specs.Values.{Value, Nil, Str, TheBuffer, WrongType, BufferKilled, TooMany, ExchangesSpent, StartProcess}
use Rattle.editor_model.specs.Answers.{Test, refuse, first_fault}
use Rattle.editor_model.specs.Editor.{Editor, Name, Live, new_live, find, find_from, same_name, is_live, live, with_buffer, with_marker}
use Rattle.editor_model.specs.Limits.{most_buffers, most_markers}
use Rattle.editor_model.specs.Arguments.{arg, name_of, must_be_name, must_be_fewer, must_be_short}
use Rattle.plain_machine.specs.State.{State, Program, Process}
use Rattle.plain_machine.specs.Arguments.{find_process, free_name, process_name, is_new_name, is_process_buffer}
use Rattle.plain_machine.specs.Refusals.{must_be_word, must_live_or_be_named, must_ask, may_ask, most_exchanges, most_processes, only_where}
use Rattle.plain_machine.specs.Calls.{end_of, started, with_process_buffer, process_buffer}
use Rattle.process_table.specs.Table.{new_process}
use Rattle.process_table.proofs.Numbering.{first_is_free}
use Rattle.editor_model.proofs.NumberedNames.{same_name-same}
use Rattle.kernel_steps.specs.Waits.{Passes}
use Rattle.kernel_state.specs.Starting.{MayMake, MayStart, put_end, with_end}

-- THE TESTS
where_so : (b : Bool) (t : Test) → only_where b t ≡ None → b ≡ true → t ≡ None
where_so true t h e = h
where_so false t h e = cc

module _ (program : Program) (s : State) (args : List Value) (passes : Passes program s StartProcess args) where
  abbrev is_new : Bool
  is_new = is_new_name s.editor (arg args 1)

  abbrev last_tests : List Test
  last_tests =
      must_live_or_be_named s.editor (arg args 1) ∷ must_be_short (arg args 0) ∷ only_where is_new (must_be_short (arg args 1)) ∷
      must_be_fewer most_processes (length s.processes) ∷ must_be_fewer most_markers (length s.editor.marks.markers) ∷ only_where is_new (must_be_fewer most_buffers (length s.editor.buffers)) ∷ must_ask s ∷ []

  typed : (refuse WrongType (is_process_buffer (arg args 1)) ≡ None) × (first_fault (must_be_name (arg args 2) ∷ must_be_word (arg args 2) ∷ map must_be_word (drop 3 args) ++ last_tests) ≡ None)
  typed = no_fault _ _ (no_fault (must_be_name (arg args 0)) _ passes).1

  starts_last : first_fault last_tests ≡ None
  starts_last = append_passes (map must_be_word (drop 3 args)) last_tests (no_fault (must_be_word (arg args 2)) _ (no_fault (must_be_name (arg args 2)) _ typed.1).1).1

  behind_live : first_fault (must_be_short (arg args 0) ∷ only_where is_new (must_be_short (arg args 1)) ∷ must_be_fewer most_processes (length s.processes) ∷ must_be_fewer most_markers (length s.editor.marks.markers) ∷ only_where is_new (must_be_fewer most_buffers (length s.editor.buffers)) ∷ must_ask s ∷ []) ≡ None
  behind_live = (no_fault (must_live_or_be_named s.editor (arg args 1)) _ starts_last).1

  places : first_fault (must_be_fewer most_processes (length s.processes) ∷ must_be_fewer most_markers (length s.editor.marks.markers) ∷ only_where is_new (must_be_fewer most_buffers (length s.editor.buffers)) ∷ must_ask s ∷ []) ≡ None
  places = (no_fault (only_where is_new (must_be_short (arg args 1))) _ (no_fault (must_be_short (arg args 0)) _ behind_live).1).1

  after_processes : first_fault (must_be_fewer most_markers (length s.editor.marks.markers) ∷ only_where is_new (must_be_fewer most_buffers (length s.editor.buffers)) ∷ must_ask s ∷ []) ≡ None
  after_processes = (no_fault (must_be_fewer most_processes (length s.processes)) _ places).1

  after_markers : first_fault (only_where is_new (must_be_fewer most_buffers (length s.editor.buffers)) ∷ must_ask s ∷ []) ≡ None
  after_markers = (no_fault (must_be_fewer most_markers (length s.editor.marks.markers)) _ after_processes).1

  few_of : (made most : ℕ) → must_be_fewer most made ≡ None → made < most
  few_of made most h = ltb-true made most (refuse_ok TooMany (nat_lt made most) h)

  pub may_start : MayStart s args
  may_start = record {
    processes = few_of (length s.processes) most_processes (no_fault (must_be_fewer most_processes (length s.processes)) _ places).0;
    markers = few_of (length s.editor.marks.markers) most_markers (no_fault (must_be_fewer most_markers (length s.editor.marks.markers)) _ after_processes).0;
    asked = ltb-true s.asked most_exchanges (refuse_ok ExchangesSpent (may_ask s) (no_fault (must_ask s) [] (no_fault (only_where is_new (must_be_fewer most_buffers (length s.editor.buffers))) _ after_markers).1).0);
    buffer = record {
      few = λ h. few_of (length s.editor.buffers) most_buffers (where_so is_new (must_be_fewer most_buffers (length s.editor.buffers)) (no_fault (only_where is_new (must_be_fewer most_buffers (length s.editor.buffers))) _ after_markers).0 h);
      live = (no_fault (must_live_or_be_named s.editor (arg args 1)) _ starts_last).0;
      kind = refuse_ok WrongType (is_process_buffer (arg args 1)) typed.0;
    };
  }

-- THE NAME
abbrev chosen_name : Bool → List Process → Name → Name
chosen_name b table name = elim b [ true ↦ free_name (length table) 1 table name | false ↦ name ]

pub name_is_free : (table : List Process) (name : Name) → length table ≤ 256 → find_process 0 table (process_name table name) ≡ None
name_is_free table name few = go (find_process 0 table name) refl
  where
    go : (o : Option ℕ) → find_process 0 table name ≡ o → find_process 0 table (process_name table name) ≡ None
    go None e = ap (λ b. find_process 0 table (chosen_name b table name)) (ap is_some e) ∙ e
    go (Some p) e = ap (λ b. find_process 0 table (chosen_name b table name)) (ap is_some e) ∙ first_is_free table name few

-- THE BUFFER THAT IS GIVEN LIVES
-- a buffer that was found lives
abbrev LivesBehind : ℕ → List (Option Live) → ℕ → Type 0
LivesBehind k bs id = (j : ℕ) × (id ≡ k + j) × (is_some (unwrap_or (slice_get bs j) None) ≡ true)

one_behind : (k : ℕ) (o : Option Live) (bs : List (Option Live)) (id : ℕ) → LivesBehind (k + 1) bs id → LivesBehind k (o ∷ bs) id
one_behind k o bs id deep = (suc deep.0, omega (arith, deep.1), deep.2)

found_lives : (k : ℕ) (bs : List (Option Live)) (name : Name) (id : ℕ) → find_from k bs name ≡ Some id → LivesBehind k bs id
found_lives k [] name id h = absurd (let x : None ≡ Some id = h in cc)
found_lives k (None ∷ bs) name id h = one_behind k None bs id (found_lives (k + 1) bs name id h)
found_lives k (Some l ∷ bs) name id h = go (same_name l.name name) h (λ e. found_lives (k + 1) bs name id e)
  where
    go : (b : Bool) → (let o : Option ℕ = elim b [ true ↦ Some k | false ↦ find_from (k + 1) bs name ] in o) ≡ Some id → (find_from (k + 1) bs name ≡ Some id → LivesBehind (k + 1) bs id) → LivesBehind k (Some l ∷ bs) id
    go true e deep = let same : k ≡ id = (let x : Some k ≡ Some id = e in cc) in (zero, omega (arith, same), refl)
    go false e deep = one_behind k (Some l) bs id (deep e)

pub find_lives : (e : Editor) (name : Name) (id : ℕ) → find e name ≡ Some id → is_live e id ≡ true
find_lives e name id h =
    let found = found_lives 0 e.buffers name id h in
    let same : id ≡ found.0 = omega (arith, found.1) in
    ap (λ j. is_some (unwrap_or (slice_get e.buffers j) None)) same ∙ found.2

found_last : (k : ℕ) (bs : List (Option Live)) (l : Live) (name : Name) → find_from k bs name ≡ None → same_name l.name name ≡ true → find_from k (bs ++ Some l ∷ []) name ≡ Some (k + length bs)
found_last k [] l name h same = ap (λ (b : Bool). let o : Option ℕ = elim b [ true ↦ Some k | false ↦ None ] in o) same ∙ ap Some (grind arith)
found_last k (None ∷ bs) l name h same = found_last (k + 1) bs l name h same ∙ ap Some (grind arith)
found_last k (Some m ∷ bs) l name h same = go (same_name m.name name) refl h (λ e. found_last (k + 1) bs l name e same)
  where
    either : Bool → Option ℕ → Option ℕ
    either b o = elim b [ true ↦ Some k | false ↦ o ]

    go : (b : Bool) → same_name m.name name ≡ b → either b (find_from (k + 1) bs name) ≡ None → (find_from (k + 1) bs name ≡ None → find_from (k + 1) (bs ++ Some l ∷ []) name ≡ Some (k + 1 + length bs)) → either (same_name m.name name) (find_from (k + 1) (bs ++ Some l ∷ []) name) ≡ Some (k + length (Some m ∷ bs))
    go true here e deep = absurd (let x : Some k ≡ None = e in cc)
    go false here e deep = ap (λ b. either b (find_from (k + 1) (bs ++ Some l ∷ []) name)) here ∙ deep e ∙ ap Some (grind arith)

get_last : {A : Type 0} (xs : List A) (x : A) → slice_get (xs ++ x ∷ []) (length xs) ≡ Some x
get_last [] x = refl
get_last (y ∷ xs) x = get_last xs x

set_last : {A : Type 0} (xs : List A) (x y : A) → slice_set (xs ++ x ∷ []) (length xs) y ≡ xs ++ y ∷ []
set_last [] x y = refl
set_last (z ∷ xs) x y = ap (λ ys. z ∷ ys) (set_last xs x y)

-- the editor with a buffer of a name, made where it isn't found
abbrev after : Editor → Name → Option ℕ → Editor
after e name o = if not (is_some o) then with_buffer name e else e

named_lives : (e : Editor) (name : Name) (o : Option ℕ) → find e name ≡ o → is_live (after e name o) (unwrap_or (find (after e name o) name) 0) ≡ true
named_lives e name (Some id) h = ap (λ o. is_live e (unwrap_or o 0)) h ∙ find_lives e name id h
named_lives e name None h =
    let new : Live = new_live name in
    ap (λ o. is_live (with_buffer name e) (unwrap_or o 0)) (found_last 0 e.buffers new name h (same_name-same name) ∙ ap Some (zero-add (length e.buffers)))
    ∙ ap (λ o. is_some (unwrap_or o None)) (get_last e.buffers (Some new))

pub given_lives : (e : Editor) (b : Value) → MayMake e b → IfSome (process_buffer (with_process_buffer b e) b) (λ id. is_live (with_process_buffer b e) id ≡ true)
given_lives e Nil may = tt
given_lives e (TheBuffer id) may = refuse_ok BufferKilled (is_live e id) may.live
given_lives e (Str t) may = named_lives e (name_of (Str t)) (find e (name_of (Str t))) refl
given_lives e v may = let x : false ≡ true = may.kind in cc

pub lives_now : (e now : Editor) (b : Value) (id : Option ℕ) → MayMake e b → now ≡ with_process_buffer b e → id ≡ process_buffer now b → IfSome id (λ i. is_live now i ≡ true)
lives_now e now b id may is given =
    subst (λ (o : Option ℕ). IfSome o (λ i. is_live now i ≡ true)) (sym given)
    (subst (λ (x : Editor). IfSome (process_buffer x b) (λ i. is_live x i ≡ true)) (sym is) (given_lives e b may))

-- THE MARK
change_last : (ms : List Marker) (x : Marker) (f : Marker → Marker) → slice_set (ms ++ x ∷ []) (length ms) (f (unwrap_or (slice_get (ms ++ x ∷ []) (length ms)) nowhere)) ≡ ms ++ f x ∷ []
change_last ms x f = ap (λ o. slice_set (ms ++ x ∷ []) (length ms) (f (unwrap_or o nowhere))) (get_last ms x) ∙ set_last ms x (f x)

end_put : (e : Editor) (k : ℕ) (buffer : Option ℕ) → k ≡ length e.marks.markers → put_end k buffer (with_marker nowhere e) ≡ with_end buffer e
end_put e k None h = refl
end_put e k (Some id) h =
    let ms = e.marks.markers in
    ap (λ (j : ℕ). put_end j (Some id) (with_marker nowhere e)) h
    ∙ ap (λ (l : List Marker). let x : Editor = record e { marks = record e.marks { markers = l } } in x) (change_last ms nowhere (λ m. record m { spot = end_of e (Some id) }))

pub mark_put : (e between new : Editor) (k : ℕ) (buffer : Option ℕ) → k ≡ length e.marks.markers → between ≡ with_marker nowhere e → new ≡ put_end k buffer between → new ≡ with_end buffer e
mark_put e between new k buffer h first second = second ∙ ap (put_end k buffer) first ∙ end_put e k buffer h

-- ALL OF IT
abbrev pub with_start : State → Editor → List Process → State
with_start s e table = record s { editor = e; processes = table; asked = s.asked + 1 }

pub all_started : (s : State) (name b : Value) (child : ℕ) (now last : Editor) (id : Option ℕ) (mark : ℕ) (named : Name) (table : List Process)
    → now ≡ with_process_buffer b s.editor → id ≡ process_buffer now b → last ≡ with_end id now → mark ≡ length now.marks.markers → named ≡ process_name s.processes (name_of name)
    → table ≡ s.processes ++ new_process named child id mark ∷ [] → with_start s last table ≡ started s name b child
all_started s name b child now last id mark named table is_now is_id is_last is_mark is_named is_table =
    let more : Name → Option ℕ → ℕ → List Process = λ n i m. s.processes ++ new_process n child i m ∷ [] in
    ap (λ (e : Editor). with_start s e table) is_last
    ∙ ap (λ (t : List Process). with_start s (with_end id now) t) is_table
    ∙ ap (λ (i : Option ℕ). with_start s (with_end i now) (more named i mark)) is_id
    ∙ ap (λ (m : ℕ). with_start s (with_end (process_buffer now b) now) (more named (process_buffer now b) m)) is_mark
    ∙ ap (λ (n : Name). with_start s (with_end (process_buffer now b) now) (more n (process_buffer now b) (length now.marks.markers))) is_named
    ∙ ap (λ (x : Editor). with_start s (with_end (process_buffer x b) x) (more (process_name s.processes (name_of name)) (process_buffer x b) (length x.marks.markers))) is_now
