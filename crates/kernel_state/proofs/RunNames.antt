-- The names and the natives of a run, one after the other.
use Rattle.std.proofs.Common.{◌≡◌, ℕ, zero, suc, ◌+◌, ◌<◌, ◌≤◌, Bool, true, false, List, [], ◌∷◌, ◌++◌, length, drop, refl, sym, ap, ◌∙◌, arith, length-append}
use Rattle.std.specs.Prelude.{◌==◌, Option, Some, slice_get, unwrap_or}
use Rattle.std.specs.List.{list_any}
use Rattle.text_model.proofs.Lists.{drop_at}
use Rattle.text_model.specs.Names.{with_name, same_word}
use Rattle.editor_model.specs.Values.{HandlerDef}
use Rattle.plain_machine.specs.Arguments.{handler_def, native_from}
use Rattle.plain_machine.specs.Symbols.{with_names}

-- SYMBOLS
pub name_put : (names : List (List ℕ)) (i : ℕ) (name : List ℕ) (symbols new whole : List (List ℕ)) → slice_get names i ≡ Some name → new ≡ with_name symbols name
    → with_names symbols (drop i names) ≡ whole → with_names new (drop (i + 1) names) ≡ whole
name_put names i name symbols new whole at is e =
    ap (λ s. with_names s (drop (i + 1) names)) is ∙ ap (λ rest. with_names symbols rest) (sym (drop_at names i name at)) ∙ e

one_longer : (b : Bool) (symbols : List (List ℕ)) (name : List ℕ) → length (let s : List (List ℕ) = elim b [ true ↦ symbols | false ↦ symbols ++ name ∷ [] ] in s) ≤ length symbols + 1
one_longer true symbols name = omega arith
one_longer false symbols name = grind (arith, length-append)

pub put_longer : (symbols : List (List ℕ)) (name : List ℕ) → length (with_name symbols name) ≤ length symbols + 1
put_longer symbols name = one_longer (list_any (λ s. same_word s name) symbols) symbols name

-- HANDLERS
def_one : (d : HandlerDef) (ds : List HandlerDef) (name : ℕ) → (d.name == name) ≡ true → handler_def (d ∷ ds) name ≡ Some d
def_one d ds name h = ap (λ (b : Bool). let o : Option HandlerDef = elim b [ true ↦ Some d | false ↦ handler_def ds name ] in o) h

def_other : (d : HandlerDef) (ds : List HandlerDef) (name : ℕ) → (d.name == name) ≡ false → handler_def (d ∷ ds) name ≡ handler_def ds name
def_other d ds name h = ap (λ (b : Bool). let o : Option HandlerDef = elim b [ true ↦ Some d | false ↦ handler_def ds name ] in o) h

pub def_met : (defs : List HandlerDef) (i : ℕ) (d : HandlerDef) (name : ℕ) (whole : Option HandlerDef) → slice_get defs i ≡ Some d → (d.name == name) ≡ true → handler_def (drop i defs) name ≡ whole → Some d ≡ whole
def_met defs i d name whole at h e = sym (def_one d (drop (i + 1) defs) name h) ∙ ap (λ rest. handler_def rest name) (sym (drop_at defs i d at)) ∙ e

pub def_passed : (defs : List HandlerDef) (i : ℕ) (d : HandlerDef) (name : ℕ) (whole : Option HandlerDef) → slice_get defs i ≡ Some d → (d.name == name) ≡ false → handler_def (drop i defs) name ≡ whole → handler_def (drop (i + 1) defs) name ≡ whole
def_passed defs i d name whole at h e = sym (def_other d (drop (i + 1) defs) name h) ∙ ap (λ rest. handler_def rest name) (sym (drop_at defs i d at)) ∙ e

-- NATIVES
native_one : (i n : ℕ) (ns : List ℕ) (name : ℕ) → (n == name) ≡ true → native_from i (n ∷ ns) name ≡ Some i
native_one i n ns name h = ap (λ (b : Bool). let o : Option ℕ = elim b [ true ↦ Some i | false ↦ native_from (i + 1) ns name ] in o) h

native_other : (i n : ℕ) (ns : List ℕ) (name : ℕ) → (n == name) ≡ false → native_from i (n ∷ ns) name ≡ native_from (i + 1) ns name
native_other i n ns name h = ap (λ (b : Bool). let o : Option ℕ = elim b [ true ↦ Some i | false ↦ native_from (i + 1) ns name ] in o) h

pub native_met : (ns : List ℕ) (i n name : ℕ) (whole : Option ℕ) → slice_get ns i ≡ Some n → (n == name) ≡ true → native_from i (drop i ns) name ≡ whole → Some i ≡ whole
native_met ns i n name whole at h e = sym (native_one i n (drop (i + 1) ns) name h) ∙ ap (λ rest. native_from i rest name) (sym (drop_at ns i n at)) ∙ e

pub native_passed : (ns : List ℕ) (i n name : ℕ) (whole : Option ℕ) → slice_get ns i ≡ Some n → (n == name) ≡ false → native_from i (drop i ns) name ≡ whole → native_from (i + 1) (drop (i + 1) ns) name ≡ whole
native_passed ns i n name whole at h e = sym (native_other i n (drop (i + 1) ns) name h) ∙ ap (λ rest. native_from i rest name) (sym (drop_at ns i n at)) ∙ e

pub name_there : (names : List (List ℕ)) (i : ℕ) → i < length names → slice_get names i ≡ Some (unwrap_or (slice_get names i) [])
name_there [] i l = absurd (omega arith)
name_there (n ∷ names) zero l = refl
name_there (n ∷ names) (suc i) l = name_there names i (omega arith)
