-- What is known where the tests of a call are passed.
use Rattle.std.proofs.Common.{◌≡◌, ℕ, zero, suc, ◌+◌, ◌<◌, ◌≤◌, Bool, true, false, ◌&&◌, not, List, [], ◌∷◌, ◌++◌, map, length, drop, refl, ap, sym, ◌∙◌, subst, arith, slice_get}
use Rattle.std.specs.Prelude.{Option, Some, None, nat_lt, nat_le, ◌==◌}
use Rattle.std.proofs.lemmas.Bool.{ltb-true, leb-true, ne_eqb}
use Rattle.text_model.specs.Properties.{Cell}
use Rattle.editor_model.specs.Values.{Value, Fault, WrongType, ExchangesSpent, TooMany, ProcessEnded, StartProcess, ProcessSendString, ProcessSendEof}
use Rattle.editor_model.specs.Answers.{Test, refuse, first_fault}
use Rattle.editor_model.specs.Limits.{most_buffers, most_markers}
use Rattle.editor_model.specs.Arguments.{arg, string_of, must_be_name, must_be_short, must_be_fewer}
use Rattle.plain_machine.specs.State.{State, Program, Process}
use Rattle.plain_machine.specs.Arguments.{process_of, is_running, is_closed, child_of, encoded, is_empty, is_new_name, is_process_buffer, runs}
use Rattle.plain_machine.specs.Refusals.{process_tests, must_be_word, must_live_or_be_named, must_ask, may_ask, most_sent, most_processes, only_where}
use Rattle.kernel_steps.specs.Outside.{deepest}
use Rattle.kernel_steps.specs.Processes.{bytes_of}
use Rattle.kernel_steps.specs.Waits.{Passes}
use Rattle.kernel_steps.specs.Worlds.{Hosted}

-- TESTS
none_front : (t : Test) (ts : List Test) → first_fault (t ∷ ts) ≡ None → t ≡ None
none_front None ts h = refl
none_front (Some f) ts h = absurd (let x : Some f ≡ None = h in cc)

behind : (t : Test) (ts : List Test) → first_fault (t ∷ ts) ≡ None → first_fault ts ≡ None
behind None ts h = h
behind (Some f) ts h = absurd (let x : Some f ≡ None = h in cc)

behind_all : (first second : List Test) → first_fault (first ++ second) ≡ None → first_fault second ≡ None
behind_all [] second h = h
behind_all (t ∷ first) second h = behind_all first second (behind t (first ++ second) h)

pub passed : (i : ℕ) (ts : List Test) (t : Test) → first_fault ts ≡ None → slice_get ts i ≡ Some t → t ≡ None
passed i [] t h e = absurd (let x : None ≡ Some t = e in cc)
passed zero (u ∷ ts) t h e = let same : u ≡ t = (let x : Some u ≡ Some t = e in cc) in sym same ∙ none_front u ts h
passed (suc i) (u ∷ ts) t h e = passed i ts t (behind u ts h) e

pub not_refused : (f : Fault) (b : Bool) → refuse f b ≡ None → b ≡ true
not_refused f true h = refl
not_refused f false h = absurd (let x : Some f ≡ None = h in cc)

where_so : (b : Bool) (t : Test) → only_where b t ≡ None → b ≡ true → t ≡ None
where_so true t h e = h
where_so false t h e = absurd (let x : false ≡ true = e in cc)

both_first : (a b : Bool) → (a && b) ≡ true → a ≡ true
both_first true b h = refl
both_first false b h = absurd (let x : false ≡ true = h in cc)

-- ONE PROCESS
within : (xs : List Process) (p : ℕ) (x : Process) → slice_get xs p ≡ Some x → p < length xs
within [] p x e = absurd (let n : None ≡ Some x = e in cc)
within (y ∷ xs) zero x e = omega arith
within (y ∷ xs) (suc p) x e = omega (arith, within xs p x e)

pub running_within : (s : State) (p : ℕ) → is_running s p ≡ true → p < length s.processes
running_within s p h = by (slice_get s.processes p) refl h
  where
    by : (o : Option Process) → slice_get s.processes p ≡ o → (elim o [ None ↦ false | Some x ↦ runs x.status ]) ≡ true → p < length s.processes
    by None e h = absurd (let x : false ≡ true = h in cc)
    by (Some x) e h = within s.processes p x e

pub child_hosted : (list : List Process) (kills : List Bool) (p : ℕ) (x : Process) → Hosted list kills → slice_get list p ≡ Some x → x.child < length kills
child_hosted [] kills p x h e = absurd (let n : None ≡ Some x = e in cc)
child_hosted (y ∷ list) kills zero x h e = let same : y ≡ x = (let n : Some y ≡ Some x = e in cc) in subst (λ (z : Process). z.child < length kills) same h.0
child_hosted (y ∷ list) kills (suc p) x h e = child_hosted list kills p x h.3 e

pub child_found : (s : State) (p : ℕ) (x : Process) → slice_get s.processes p ≡ Some x → child_of s p ≡ x.child
child_found s p x e = ap (λ o. elim o [ Some y ↦ y.child | None ↦ 0 ]) e

pub closed_found : (s : State) (p : ℕ) (x : Process) → slice_get s.processes p ≡ Some x → is_closed s p ≡ x.closed
closed_found s p x e = ap (λ o. elim o [ Some y ↦ y.closed | None ↦ true ]) e

-- SENDING
pub nothing_there : (bytes : List ℕ) → (length bytes == 0) ≡ true → bytes ≡ []
nothing_there [] h = refl
nothing_there (b ∷ bytes) h = absurd (let x : false ≡ true = sym (ne_eqb (length (b ∷ bytes)) 0 (λ e. omega (arith, e))) ∙ h in cc)

pub something_there : (args : List Value) (bytes : List ℕ) → bytes ≡ bytes_of (arg args 1) → (length bytes == 0) ≡ false → bytes ≡ [] → ⊥
something_there args bytes is some e = let x : true ≡ false = ap (λ l. length l == 0) (sym e) ∙ some in absurd (let y = x in cc)

sends_some : (text : List Cell) → (encoded text ≡ [] → ⊥) → not (length text == 0) ≡ true
sends_some [] some = absurd (some refl)
sends_some (c ∷ text) some = ap not (ne_eqb (length (c ∷ text)) 0 (λ e. omega (arith, e)))

module _ (program : Program) (s : State) (args : List Value) where
  abbrev p : ℕ
  p = process_of s (arg args 0)

  module _ (passes : Passes program s ProcessSendString args) (some : bytes_of (arg args 1) ≡ [] → ⊥) where
    sending : not (is_empty (arg args 1)) ≡ true
    sending = sends_some (string_of (arg args 1)) some

    pub sends_to : is_running s (process_of s (arg args 0)) ≡ true
    sends_to =
        both_first (is_running s p) (not (is_closed s p)) (not_refused ProcessEnded (is_running s p && not (is_closed s p))
        (where_so (not (is_empty (arg args 1))) _ (passed 3 (process_tests program deepest s ProcessSendString args) (only_where (not (is_empty (arg args 1))) (refuse ProcessEnded (is_running s p && not (is_closed s p)))) passes refl) sending))

    pub sends_few : s.sent + length (bytes_of (arg args 1)) ≤ most_sent
    sends_few =
        leb-true (s.sent + length (bytes_of (arg args 1))) most_sent (not_refused TooMany (nat_le (s.sent + length (bytes_of (arg args 1))) most_sent)
        (where_so (not (is_empty (arg args 1))) _ (passed 4 (process_tests program deepest s ProcessSendString args) (only_where (not (is_empty (arg args 1))) (refuse TooMany (nat_le (s.sent + length (bytes_of (arg args 1))) most_sent))) passes refl) sending))

    pub sends_may : may_ask s ≡ true
    sends_may =
        not_refused ExchangesSpent (may_ask s)
        (where_so (not (is_empty (arg args 1))) _ (passed 5 (process_tests program deepest s ProcessSendString args) (only_where (not (is_empty (arg args 1))) (refuse ExchangesSpent (may_ask s))) passes refl) sending)

  -- CLOSING
  module _ (passes : Passes program s ProcessSendEof args) where
    pub closes_of : is_running s (process_of s (arg args 0)) ≡ true
    closes_of = not_refused ProcessEnded (is_running s p) (passed 2 (process_tests program deepest s ProcessSendEof args) (refuse ProcessEnded (is_running s p)) passes refl)

    pub closes_may : is_closed s (process_of s (arg args 0)) ≡ false → may_ask s ≡ true
    closes_may unclosed =
        not_refused ExchangesSpent (may_ask s)
        (where_so (not (is_closed s p)) _ (passed 3 (process_tests program deepest s ProcessSendEof args) (only_where (not (is_closed s p)) (refuse ExchangesSpent (may_ask s))) passes refl) (ap not unclosed))

  -- STARTING
  module _ (passes : Passes program s StartProcess args) where
    abbrev last_tests : List Test
    last_tests =
        let new : Bool = is_new_name s.editor (arg args 1) in
        must_live_or_be_named s.editor (arg args 1) ∷ must_be_short (arg args 0) ∷ only_where new (must_be_short (arg args 1)) ∷
        must_be_fewer most_processes (length s.processes) ∷ must_be_fewer most_markers (length s.editor.marks.markers) ∷ only_where new (must_be_fewer most_buffers (length s.editor.buffers)) ∷ must_ask s ∷ []

    starts_last : first_fault last_tests ≡ None
    starts_last = behind_all (map must_be_word (drop 3 args)) last_tests (behind (must_be_word (arg args 2)) _ (behind (must_be_name (arg args 2)) _ (behind (refuse WrongType (is_process_buffer (arg args 1))) _ (behind (must_be_name (arg args 0)) _ passes))))

    pub starts_few : length s.processes < 256
    starts_few = ltb-true (length s.processes) 256 (not_refused TooMany (nat_lt (length s.processes) 256) (passed 3 last_tests (refuse TooMany (nat_lt (length s.processes) 256)) starts_last refl))

    pub starts_may : may_ask s ≡ true
    starts_may = not_refused ExchangesSpent (may_ask s) (passed 6 last_tests (refuse ExchangesSpent (may_ask s)) starts_last refl)
