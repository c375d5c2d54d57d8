-- One handler or form more, or none.
use Rattle.std.proofs.Common.{◌≡◌, ℕ, ◌+◌, ◌<◌, true, false, List, [], ◌∷◌, ◌++◌, length, length-append, append-nil, refl, sym, ap, ◌∙◌, arith, Some, None}
use Rattle.std.specs.Prelude.{codes, map, nat_le, ◌&&◌, if◌then◌else◌, slice_get}
use Rattle.std.specs.Str.{bytes_eq}
use Rattle.std.proofs.lemmas.List.{length-map}
use Rattle.editor_model.specs.Values.{Form, HandlerDef}
use Rattle.plain_machine.specs.Grammar.{Top, Handler, Run}
use Rattle.script_read.specs.Lexing.{word_at, behind}
use Rattle.script_read.specs.Reading.{State, Read, mapped}
use Rattle.script_read.specs.Forms.{form_after, put_behind, forms_at, handler_at, top_behind, top_at}
use Rattle.script_read.specs.Limits.{noted, is_fit}
use Rattle.script_read.specs.Tops.{IsNext, IsRefused, unread, unfit}
use Rattle.script_read.proofs.Formed.{opened_at, put_one, put_none}
use Rattle.script_read.proofs.Noting.{last_is}

-- WHAT STANDS AT THE TOP
abbrev by_word : (names : List (List ℕ)) → List ℕ × List ℕ → Read Top
by_word names q = if bytes_eq q.0 (codes "defhandler") then mapped Handler (handler_at (q.1, names)) else mapped Run (form_after q.0 (forms_at 16) (q.1, names))

top_word : (bytes inside w rest : List ℕ) (names : List (List ℕ)) → behind (codes "(") bytes ≡ Some inside → (w, rest) ≡ word_at inside → top_at (bytes, names) ≡ by_word names (w, rest)
top_word bytes inside w rest names e is = opened_at top_behind (bytes, names) inside (by_word names (w, rest)) e (ap (by_word names) (sym is))

pub top_handler : (bytes inside w rest : List ℕ) (names : List (List ℕ)) → behind (codes "(") bytes ≡ Some inside → (w, rest) ≡ word_at inside → bytes_eq w (codes "defhandler") ≡ true → top_at (bytes, names) ≡ mapped Handler (handler_at (rest, names))
top_handler bytes inside w rest names e is h = top_word bytes inside w rest names e is ∙ rw h refl

pub top_form : (bytes inside w rest : List ℕ) (names : List (List ℕ)) → behind (codes "(") bytes ≡ Some inside → (w, rest) ≡ word_at inside → bytes_eq w (codes "defhandler") ≡ false →
    top_at (bytes, names) ≡ mapped Run (form_after w (forms_at 16) (rest, names))
top_form bytes inside w rest names e is h = top_word bytes inside w rest names e is ∙ rw h refl

-- HANDLERS
pub handler_next : (one : Read HandlerDef) (d : HandlerDef) (rest : List ℕ) (more : List (List ℕ)) (registers noted_so : List ℕ) (handlers all : List HandlerDef) (forms : List Form) →
    one ≡ Some (d, (rest, more)) → is_fit more handlers d ≡ true → nat_le (length (noted (Handler d) registers)) 256 ≡ true → all ≡ handlers ++ d ∷ [] → noted_so ≡ noted (Handler d) registers →
    IsNext (mapped Handler one) rest more registers noted_so handlers all forms forms
handler_next one d rest more registers noted_so handlers all forms e fit few is names = record {
  top = Handler d;
  read = rw e refl;
  fits = rw (fit, few) refl;
  handlers_are = is;
  forms_are = sym (append-nil forms);
  names_are = names;
}

pub handler_unfit : (one : Read HandlerDef) (d : HandlerDef) (next : State) (registers : List ℕ) (handlers : List HandlerDef) → one ≡ Some (d, next) →
    (is_fit next.1 handlers d && nat_le (length (noted (Handler d) registers)) 256) ≡ false → IsRefused (mapped Handler one) registers handlers
handler_unfit one d next registers handlers e few = unfit (Handler d) next (rw e refl) few

pub handler_unread : (one : Read HandlerDef) (registers : List ℕ) (handlers : List HandlerDef) → one ≡ None → IsRefused (mapped Handler one) registers handlers
handler_unread one registers handlers e = unread (rw e refl)

-- FORMS
-- the last of the items is the form that was read
pub record LastRead {A : Type 0} (g : A → Form) (items : List A) (x : A) (one : Read Form) (forms : List Form) (next : State) : Type 0 where
  pub read : one ≡ Some (g x, next)
  pub put : map g items ≡ forms ++ g x ∷ []

last_read : {A : Type 0} (g : A → Form) (items : List A) (n : ℕ) (x : A) (one : Read Form) (forms : List Form) (next : State) → Some (map g items, next) ≡ put_behind forms one → n + 1 ≡ length items → slice_get items n ≡ Some x →
    LastRead g items x one forms next
last_read g items n x one forms next e k at =
    let (f, is, same) = put_one forms (map g items) one next e in
    let last : g x ≡ f = last_is g items n x forms f k at same in
    record { read = rw last is; put = rw last same }

pub form_next : {A : Type 0} (g : A → Form) (items : List A) (n : ℕ) (x : A) (one : Read Form) (forms : List Form) (rest : List ℕ) (more : List (List ℕ)) (registers noted_so : List ℕ) (handlers : List HandlerDef) →
    Some (map g items, (rest, more)) ≡ put_behind forms one → n + 1 ≡ length items → slice_get items n ≡ Some x → nat_le (length (noted (Run (g x)) registers)) 256 ≡ true → noted_so ≡ noted (Run (g x)) registers →
    IsNext (mapped Run one) rest more registers noted_so handlers handlers forms (map g items)
form_next g items n x one forms rest more registers noted_so handlers e k at few names =
    let last = last_read g items n x one forms (rest, more) e k at in
    record {
      top = Run (g x);
      read = rw last.read refl;
      fits = few;
      handlers_are = sym (append-nil handlers);
      forms_are = last.put;
      names_are = names;
    }

pub form_unfit : {A : Type 0} (g : A → Form) (items : List A) (n : ℕ) (x : A) (one : Read Form) (forms : List Form) (next : State) (registers : List ℕ) (handlers : List HandlerDef) →
    Some (map g items, next) ≡ put_behind forms one → n + 1 ≡ length items → slice_get items n ≡ Some x → nat_le (length (noted (Run (g x)) registers)) 256 ≡ false → IsRefused (mapped Run one) registers handlers
form_unfit g items n x one forms next registers handlers e k at few =
    let last = last_read g items n x one forms next e k at in
    unfit (Run (g x)) next (rw last.read refl) few

pub form_unread : (one : Read Form) (forms : List Form) (registers : List ℕ) (handlers : List HandlerDef) → None ≡ put_behind forms one → IsRefused (mapped Run one) registers handlers
form_unread one forms registers handlers e = unread (rw (put_none forms one e) refl)

pub some_form : {A : Type 0} (g : A → Form) (items : List A) (one : Read Form) (forms : List Form) (next : State) → Some (map g items, next) ≡ put_behind forms one → 0 < length items
some_form g items one forms next e =
    let (f, is, same) = put_one forms (map g items) one next e in
    let long = ap length same in
    let each = length-map items g in
    let front = length-append forms (f ∷ []) in
    omega (arith, long, each, front)
