-- The code of handlers: default handlers, bodies of the script, natives; and the calls that natives make.
use Rattle.std.proofs.Common.{◌≡◌, ℕ, ◌+◌, ◌*◌, ◌<◌, ◌≤◌, Bool, true, false, max, List, [], ◌∷◌, ◌++◌, length, Result, Ok, Err, refl, ap, sym, ◌∙◌, subst, arith, map, slice_get}
use Rattle.std.specs.Prelude.{Option, Some, None, option_map, nat_lt, ◌&&◌, ◌==◌, codes}
use Rattle.std.specs.List.{list_all}
use Rattle.std.proofs.lemmas.Bool.{lt-ltb, le-ltb}
use Rattle.std.proofs.lemmas.List.{length-map}
use Rattle.std.proofs.lemmas.Option.{slice_get-map}
use Rattle.text_model.specs.Characters.{Scalar}
use Rattle.text_model.specs.Properties.{Cell, bare}
use Rattle.editor_model.specs.Values.{Value, Values, Nil, T, Int, Sym, Str, Items, Dotted, TheBuffer, TheMarker, TheOverlay, TheProcess, End, More, WrongType, Reply, Answered, Prim, Forms, HandlerDef}
use Rattle.editor_model.specs.Answers.{Prepared, Changes, Quiet, Nothing, Barred}
use Rattle.editor_model.specs.TextCalls.{prepare_output}
use Rattle.plain_machine.specs.State.{State, Program, Process}
use Rattle.plain_machine.specs.Lines.{Kind, OfFilter, OfSentinel, OfBefore, OfAfter}
use Rattle.plain_machine.specs.Items.{Item, Config, Body, Native, Called, MakeCall, Refuse, ToNative}
use Rattle.plain_machine.specs.Arguments.{handler_def}
use Rattle.plain_machine.specs.Natives.{normal, is_callable, was_made, each_was_made, takes}
use Rattle.plain_machine.specs.Forms.{current}
use Rattle.plain_machine.specs.Handling.{default_handler, output_in, put_in, process_buffer_of, mark_of_process, where_live, second, plain_text, sentinel_words, native_call, native_next}
use Rattle.plain_machine.specs.Step.{step}
use Rattle.plain_machine.specs.Run.{stays, goes, given}
use Rattle.process_table.specs.Table.{kept}
use Rattle.ek_call.specs.Meaning.{view, reply_of}
use Rattle.ek_call.specs.declared.value.Value.{Value as Valued}
use Rattle.kernel_steps.specs.Outside.{deepest}
use Rattle.kernel_steps.specs.Sizes.{forms_size, longest, weight}
use Rattle.handler_code.specs.Calls.{allowed}
use Rattle.kernel_steps.specs.Handlers.{code_of, native_of, default_state, default_prepared, reply_by}
use Rattle.kernel_steps.specs.Worlds.{World, Stands, kept_state, Hosted, Keeps}
use Rattle.kernel_steps.specs.Work.{working, MayBreak, IsBehind, Work, onwards, outwards, at_item, lifted}
use Rattle.kernel_steps.specs.declared.stop.Halt.{Halt}
use Rattle.kernel_steps.specs.declared.stop.Halt.TheVariants as halt
use Rattle.kernel_steps.specs.declared.stop.Stop.TheVariants as stop
use Rattle.kernel_steps.proofs.Works.{Went, went_silently, went_self, work_wants}
use Rattle.kernel_steps.proofs.Changing.{reaches_same}
use Rattle.kernel_steps.proofs.Calling.{keeps_same}

-- WHAT THE KERNEL KNOWS OF A PROCESS
module _ {A : Type 0} (f : Option Process → A) (same : (x : Process) → f (Some (kept x)) ≡ f (Some x)) where
  by_kept : (s : State) (p : ℕ) → f (slice_get (map kept s.processes) p) ≡ f (slice_get s.processes p)
  by_kept s p = ap f (slice_get-map kept s.processes p) ∙ by (slice_get s.processes p)
    where
      by : (o : Option Process) → f (option_map kept o) ≡ f o
      by None = refl
      by (Some x) = same x

buffer_kept : (s : State) (p : ℕ) → process_buffer_of (kept_state s) p ≡ process_buffer_of s p
buffer_kept s p = by_kept (λ o. elim o [ None ↦ None | Some x ↦ where_live s x.buffer ]) (λ x. refl) s p

mark_kept : (s : State) (p : ℕ) → mark_of_process (kept_state s) p ≡ mark_of_process s p
mark_kept s p = by_kept (λ o. elim o [ None ↦ 0 | Some x ↦ x.mark ]) (λ x. refl) s p

words_kept : (s : State) (p : ℕ) (text : List Cell) → sentinel_words (kept_state s) p text ≡ sentinel_words s p text
words_kept s p text = by_kept (λ o. bare (map Scalar (codes "\nProcess ")) ++ (bare (elim o [ Some x ↦ x.name | None ↦ [] ]) ++ (bare (map Scalar (32 ∷ [])) ++ text))) (λ x. refl) s p

-- DEFAULT HANDLERS
-- by the buffer of the process
abbrev state_by : State → Option ℕ → State
state_by s o = elim o [ None ↦ s | Some b ↦ current b s ]

abbrev prepared_by : State → (mark : ℕ) → List Cell → Option ℕ → Prepared
prepared_by s mark text o = elim o [ None ↦ Nothing Nil | Some b ↦ prepare_output s.editor b mark text ]

output_is : (s : State) (mark : ℕ) (text : List Cell) (rest : List Item) (o : Option ℕ) → output_in s o mark text rest ≡ put_in (state_by s o) (prepared_by s mark text o) rest
output_is s mark text rest None = refl
output_is s mark text rest (Some b) = refl

pub default_is : (kind : Kind) (args : List Value) (s : State) (rest : List Item) → default_handler s kind args rest ≡ put_in (default_state kind s) (default_prepared kind args s) rest
default_is (OfFilter p) args s rest = output_is s (mark_of_process s p) (plain_text (second args)) rest (process_buffer_of s p)
default_is (OfSentinel p) args s rest = output_is s (mark_of_process s p) (sentinel_words s p (plain_text (second args))) rest (process_buffer_of s p)
default_is (OfBefore b) args s rest = refl
default_is (OfAfter b) args s rest = refl

state_by_kept : (s : State) (o : Option ℕ) → state_by (kept_state s) o ≡ kept_state (state_by s o)
state_by_kept s None = refl
state_by_kept s (Some b) = refl

pub state_kept : (kind : Kind) (s : State) → default_state kind (kept_state s) ≡ kept_state (default_state kind s)
state_kept (OfFilter p) s = ap (state_by (kept_state s)) (buffer_kept s p) ∙ state_by_kept s (process_buffer_of s p)
state_kept (OfSentinel p) s = ap (state_by (kept_state s)) (buffer_kept s p) ∙ state_by_kept s (process_buffer_of s p)
state_kept (OfBefore b) s = refl
state_kept (OfAfter b) s = refl

pub prepared_kept : (kind : Kind) (args : List Value) (s : State) → default_prepared kind args (kept_state s) ≡ default_prepared kind args s
prepared_kept (OfFilter p) args s = ap (λ m. prepared_by s m (plain_text (second args)) (process_buffer_of (kept_state s) p)) (mark_kept s p) ∙ ap (prepared_by s (mark_of_process s p) (plain_text (second args))) (buffer_kept s p)
prepared_kept (OfSentinel p) args s =
    ap (λ m. prepared_by s m (sentinel_words (kept_state s) p (plain_text (second args))) (process_buffer_of (kept_state s) p)) (mark_kept s p)
    ∙ ap (λ t. prepared_by s (mark_of_process s p) t (process_buffer_of (kept_state s) p)) (words_kept s p (plain_text (second args)))
    ∙ ap (prepared_by s (mark_of_process s p) (sentinel_words s p (plain_text (second args)))) (buffer_kept s p)
prepared_kept (OfBefore b) args s = refl
prepared_kept (OfAfter b) args s = refl

put_may : (s : State) (p : Prepared) (rest : List Item) → IsBehind rest → MayBreak (put_in s p rest)
put_may s (Changes c) rest h = record { between = tt; before_end = tt }
put_may s (Quiet c) rest h = h.next s
put_may s (Nothing v) rest h = h.next s
put_may s (Barred f) rest h = record { between = tt; before_end = tt }

put_state : (s : State) (p : Prepared) (rest : List Item) → (put_in s p rest).state ≡ s
put_state s (Changes c) rest = refl
put_state s (Quiet c) rest = refl
put_state s (Nothing v) rest = refl
put_state s (Barred f) rest = refl

by_processes : (s : State) (o : Option ℕ) → (state_by s o).processes ≡ s.processes
by_processes s None = refl
by_processes s (Some b) = refl

by_depth : (s : State) (o : Option ℕ) → (state_by s o).depth ≡ s.depth
by_depth s None = refl
by_depth s (Some b) = refl

by_inhibited : (s : State) (o : Option ℕ) → (state_by s o).inhibited ≡ s.inhibited
by_inhibited s None = refl
by_inhibited s (Some b) = refl

by_asked : (s : State) (o : Option ℕ) → (state_by s o).asked ≡ s.asked
by_asked s None = refl
by_asked s (Some b) = refl

default_processes : (kind : Kind) (s : State) → (default_state kind s).processes ≡ s.processes
default_processes (OfFilter p) s = by_processes s (process_buffer_of s p)
default_processes (OfSentinel p) s = by_processes s (process_buffer_of s p)
default_processes (OfBefore b) s = refl
default_processes (OfAfter b) s = refl

default_depth : (kind : Kind) (s : State) → (default_state kind s).depth ≡ s.depth
default_depth (OfFilter p) s = by_depth s (process_buffer_of s p)
default_depth (OfSentinel p) s = by_depth s (process_buffer_of s p)
default_depth (OfBefore b) s = refl
default_depth (OfAfter b) s = refl

default_inhibited : (kind : Kind) (s : State) → (default_state kind s).inhibited ≡ s.inhibited
default_inhibited (OfFilter p) s = by_inhibited s (process_buffer_of s p)
default_inhibited (OfSentinel p) s = by_inhibited s (process_buffer_of s p)
default_inhibited (OfBefore b) s = refl
default_inhibited (OfAfter b) s = refl

default_asked : (kind : Kind) (s : State) → (default_state kind s).asked ≡ s.asked
default_asked (OfFilter p) s = by_asked s (process_buffer_of s p)
default_asked (OfSentinel p) s = by_asked s (process_buffer_of s p)
default_asked (OfBefore b) s = refl
default_asked (OfAfter b) s = refl

pub default_keeps : (w : World) (known : State) (kind : Kind) → Hosted w.state.processes w.kills → known ≡ default_state kind w.state → Keeps w (record w { state = known })
default_keeps w known kind hosted now =
    keeps_same w known hosted (ap (λ (s : State). s.processes) now ∙ default_processes kind w.state) (ap (λ (s : State). s.depth) now ∙ default_depth kind w.state) (ap (λ (s : State). s.inhibited) now ∙ default_inhibited kind w.state) (ap (λ (s : State). s.asked) now ∙ default_asked kind w.state)

module _ (program : Program) (w : World) where
  pub default_went : (known : State) (kind : Kind) (args : List Value) (p : Prepared) → known ≡ default_state kind w.state → p ≡ default_prepared kind args w.state →
      Went program w (record w { state = known }) (code_of program kind None args) (λ s rest. put_in s p rest)
  default_went known kind args p now is = went_silently program w known (default_state kind) (code_of program kind None args) (λ s rest. put_in s p rest)
      (λ s h. now ∙ ap (default_state kind) h ∙ state_kept kind s)
      (λ s rest h. reaches_same program (default_handler s kind args rest) (put_in (default_state kind s) p rest)
      (default_is kind args s rest ∙ ap (λ q. put_in (default_state kind s) q rest) (sym (prepared_kept kind args s) ∙ ap (default_prepared kind args) (sym h) ∙ sym is)))

  pub default_wants : {T : Type 0} (kind : Kind) (args : List Value) → Hosted w.state.processes w.kills → Work {T = T} (Err (halt.Stop stop.NoMemory)) program w w (code_of program kind None args) onwards outwards
  default_wants kind args hosted = work_wants program w w (code_of program kind None args) (code_of program kind None args) onwards outwards (went_self program w (code_of program kind None args)) hosted
      (λ s rest h.
      let is = default_is kind args s rest in (
        subst MayBreak (sym is) (put_may (default_state kind s) (default_prepared kind args s) rest h),
        ap (λ (c : Config). c.state.processes) is ∙ ap (λ (t : State). t.processes) (put_state (default_state kind s) (default_prepared kind args s) rest) ∙ default_processes kind s,
      ))

  -- THE SCRIPT'S HANDLERS AND NATIVES
  abbrev code_by : Option HandlerDef → (name : ℕ) → List Value → State → List Item → Config
  code_by o name args s rest = elim o [ Some d ↦ working s (Body d.body ∷ rest) | None ↦ working s (Native (native_of program name) args [] ∷ rest) ]

  script_code : (o : Option HandlerDef) (name : ℕ) (body : Forms) (args : List Value) (s : State) (rest : List Item) → Some body ≡ option_map (λ d. d.body) o → code_by o name args s rest ≡ working s (Body body ∷ rest)
  script_code (Some d) name body args s rest e = let same : d.body ≡ body = (let x : Some body ≡ Some d.body = e in cc) in ap (λ b. working s (Body b ∷ rest)) same
  script_code None name body args s rest e = absurd (let x : Some body ≡ None = e in cc)

  native_code : (o : Option HandlerDef) (name : ℕ) (args : List Value) (s : State) (rest : List Item) → None ≡ option_map (λ d. d.body) o → code_by o name args s rest ≡ working s (Native (native_of program name) args [] ∷ rest)
  native_code (Some d) name args s rest e = absurd (let x : None ≡ Some d.body = e in cc)
  native_code None name args s rest e = refl

  pub script_went : (kind : Kind) (name : ℕ) (body : Forms) (args : List Value) → Some body ≡ option_map (λ d. d.body) (handler_def program.handlers name) → Went program w w (code_of program kind (Some name) args) (at_item (Body body))
  script_went kind name body args e = went_silently program w w.state (λ s. s) (code_of program kind (Some name) args) (at_item (Body body)) (λ s h. h)
      (λ s rest h. reaches_same program _ (working s (Body body ∷ rest)) (script_code (handler_def program.handlers name) name body args s rest e))

  pub native_went : (kind : Kind) (name : ℕ) (native : ℕ) (args : List Value) → None ≡ option_map (λ d. d.body) (handler_def program.handlers name) → native ≡ native_of program name → Went program w w (code_of program kind (Some name) args) (at_item (Native native args []))
  native_went kind name native args e is = went_silently program w w.state (λ s. s) (code_of program kind (Some name) args) (at_item (Native native args [])) (λ s h. h)
      (λ s rest h. reaches_same program _ (working s (Native native args [] ∷ rest)) (native_code (handler_def program.handlers name) name args s rest e ∙ ap (λ i. working s (Native i args [] ∷ rest)) (sym is)))

  -- NATIVES
  module _ (i : ℕ) (args : List Value) (past : List Reply) where
    next_step : (b : Bool) (o : Option (Prim × List Value)) → nat_lt (length past) 256 ≡ b → o ≡ program.does i args past → (s : State) (rest : List Item) → step program deepest (working s (Native i args past ∷ rest)) ≡ native_next b o program s i args past rest
    next_step b o room is s rest = ap (λ x. native_next x (program.does i args past) program s i args past rest) room ∙ ap (λ x. native_next b x program s i args past rest) (sym is)

    pub asks_went : (c : Prim × List Value) → length past < 256 → Some c ≡ program.does i args past → Went program w w (at_item (Native i args past)) (λ s rest. working s (native_call program s c ∷ Called i args past ∷ rest))
    asks_went c room is = went_silently program w w.state (λ s. s) (at_item (Native i args past)) (λ s rest. working s (native_call program s c ∷ Called i args past ∷ rest)) (λ s h. h)
        (λ s rest h. goes (next_step true (Some c) (lt-ltb (length past) 256 room) is s rest) stays)

    pub over_went : length past < 256 → None ≡ program.does i args past → Went program w w (at_item (Native i args past)) (λ s rest. working s rest)
    over_went room is = went_silently program w w.state (λ s. s) (at_item (Native i args past)) (λ s rest. working s rest) (λ s h. h)
        (λ s rest h. goes (next_step true None (lt-ltb (length past) 256 room) is s rest) stays)

    pub spent_went : 256 ≤ length past → Went program w w (at_item (Native i args past)) (λ s rest. working s rest)
    spent_went room = went_silently program w w.state (λ s. s) (at_item (Native i args past)) (λ s rest. working s rest) (λ s h. h)
        (λ s rest h. goes (next_step false (program.does i args past) (le-ltb (length past) 256 room) refl s rest) stays)

-- WHAT WAS MADE
mutual
  made_kept : (program : Program) (s : State) (v : Value) → was_made program (kept_state s) v ≡ was_made program s v
  made_kept program s Nil = refl
  made_kept program s T = refl
  made_kept program s (Int i) = refl
  made_kept program s (Sym n) = refl
  made_kept program s (Str text) = refl
  made_kept program s (Items vs) = each_kept program s vs
  made_kept program s (Dotted vs v) = (λ i. each_kept program s vs i && made_kept program s v i)
  made_kept program s (TheBuffer b) = refl
  made_kept program s (TheMarker k) = refl
  made_kept program s (TheOverlay k) = refl
  made_kept program s (TheProcess p) = ap (λ n. nat_lt p n) (length-map s.processes kept)

  each_kept : (program : Program) (s : State) (vs : Values) → each_was_made program (kept_state s) vs ≡ each_was_made program s vs
  each_kept program s End = refl
  each_kept program s (More v vs) = (λ i. made_kept program s v i && each_kept program s vs i)

all_kept : (program : Program) (s : State) (vs : List Value) → list_all (was_made program (kept_state s)) vs ≡ list_all (was_made program s) vs
all_kept program s [] = refl
all_kept program s (v ∷ vs) = (λ i. made_kept program s v i && all_kept program s vs i)

pub callable_alike : (program : Program) (known s : State) (c : Prim × List Value) → Stands known s → is_callable program known c ≡ is_callable program s c
callable_alike program known s c h = ap (λ t. is_callable program t c) h ∙ ap (λ b. takes c.0 (length c.1) && b) (all_kept program s c.1)

-- CALLS OF NATIVES
pub called_behind : (i : ℕ) (args : List Value) (past : List Reply) (rest : List Item) → IsBehind rest → IsBehind (Called i args past ∷ rest)
called_behind i args past rest h = record {
  next = λ s. record { between = tt; before_end = tt };
  replied = λ r s. record { between = tt; before_end = tt };
  unhooked = λ s. record { between = tt; before_end = tt };
  faulted = λ f s. record { between = tt; before_end = tt };
}

abbrev item_by : Bool → Prim × List Value → Item
item_by b c = elim b [ true ↦ MakeCall c.0 (map normal c.1) ToNative | false ↦ Refuse WrongType ]

abbrev allowed_by : Bool → Prim × List Value → Option (Prim × List Value)
allowed_by b c = elim b [ true ↦ Some (c.0, map normal c.1) | false ↦ None ]

pub made_item : (b : Bool) (c d : Prim × List Value) → Some d ≡ allowed_by b c → item_by b c ≡ MakeCall d.0 d.1 ToNative
made_item true c d e = let same : (c.0, map normal c.1) ≡ d = (let x : Some d ≡ Some (c.0, map normal c.1) = e in cc) in ap (λ (x : Prim × List Value). MakeCall x.0 x.1 ToNative) same
made_item false c d e = absurd (let x : Some d ≡ None = e in cc)

pub barred_item : (b : Bool) (c : Prim × List Value) → None ≡ allowed_by b c → item_by b c ≡ Refuse WrongType
barred_item true c e = absurd (let x : None ≡ Some (c.0, map normal c.1) = e in cc)
barred_item false c e = refl

pub item_may : (b : Bool) (c : Prim × List Value) (s : State) (rest : List Item) → MayBreak (working s (item_by b c ∷ rest))
item_may true c s rest = record { between = tt; before_end = tt }
item_may false c s rest = record { between = tt; before_end = tt }

module _ (program : Program) (w : World) (c : Prim × List Value) (i : ℕ) (args : List Value) (past : List Reply) where
  abbrev asked : State → List Item → Config
  asked s rest = working s (native_call program s c ∷ Called i args past ∷ rest)

  pub made_went : (d : Prim × List Value) → Some d ≡ allowed program w.state c → Went program w w asked (λ s rest. working s (MakeCall d.0 d.1 ToNative ∷ Called i args past ∷ rest))
  made_went d e = went_silently program w w.state (λ s. s) asked (λ s rest. working s (MakeCall d.0 d.1 ToNative ∷ Called i args past ∷ rest)) (λ s h. h)
      (λ s rest h. reaches_same program (asked s rest) _ (ap (λ x. working s (x ∷ Called i args past ∷ rest)) (made_item (is_callable program s c) c d (e ∙ ap (λ b. allowed_by b c) (callable_alike program w.state s c h)))))

  pub barred_call : None ≡ allowed program w.state c → Went program w w asked (λ s rest. working s (Refuse WrongType ∷ Called i args past ∷ rest))
  barred_call e = went_silently program w w.state (λ s. s) asked (λ s rest. working s (Refuse WrongType ∷ Called i args past ∷ rest)) (λ s h. h)
      (λ s rest h. reaches_same program (asked s rest) _ (ap (λ x. working s (x ∷ Called i args past ∷ rest)) (barred_item (is_callable program s c) c (e ∙ ap (λ b. allowed_by b c) (callable_alike program w.state s c h)))))

  -- the reply is kept behind the past ones
  pub replied_work : (r : Result Valued Halt) (b : World) (from : State → List Item → Config) →
      Work r program w b from (λ v s rest. given (Answered (view v)) ToNative s (Called i args past ∷ rest)) (λ f s rest. outwards f s (Called i args past ∷ rest)) →
      Work (lifted (reply_by r)) program w b from (λ x s rest. working s (Native i args (past ++ reply_of x ∷ []) ∷ rest)) outwards
  replied_work (Ok v) b from h = record { path = record { comes = h.path.comes; cause = record { later = h.path.cause.later; rose = λ e. absurd (let never = e in cc) } }; stays = h.stays }
  replied_work (Err (halt.Fault f)) b from h = record { path = record { comes = h.path.comes; cause = record { later = h.path.cause.later; rose = λ e. absurd (let never = e in cc) } }; stays = h.stays }
  replied_work (Err (halt.Stop why)) b from h = record { path = record { comes = h.path.comes; cause = record { later = h.path.cause.later; rose = λ e. h.path.cause.rose (ap Err (let s : halt.Stop why ≡ halt.Stop stop.WriteFault = cc in s)) } }; stays = h.stays }

-- MEASURES
longest_by : (b : Bool) (d : HandlerDef) (defs : List HandlerDef) (name : ℕ) (body : Forms) → Some body ≡ option_map (λ (x : HandlerDef). x.body) (elim b [ true ↦ Some d | false ↦ handler_def defs name ]) →
    (Some body ≡ option_map (λ (x : HandlerDef). x.body) (handler_def defs name) → forms_size body ≤ longest defs) → forms_size body ≤ max (forms_size d.body) (longest defs)
longest_by true d defs name body e more = let same : d.body ≡ body = (let x : Some body ≡ Some d.body = e in cc) in omega (arith, ap forms_size same)
longest_by false d defs name body e more = omega (arith, more e)

pub body_within : (defs : List HandlerDef) (name : ℕ) (body : Forms) → Some body ≡ option_map (λ (x : HandlerDef). x.body) (handler_def defs name) → forms_size body ≤ longest defs
body_within [] name body e = absurd (let x : Some body ≡ None = e in cc)
body_within (d ∷ defs) name body e = longest_by (d.name == name) d defs name body e (body_within defs name body)

pub body_falls : (program : Program) (s : State) (n total : ℕ) → n ≤ longest program.handlers → weight program s + 3 * longest program.handlers + 15 ≡ total → weight program s + 3 * n + 10 < total
body_falls program s n total h is = omega (arith, h)
