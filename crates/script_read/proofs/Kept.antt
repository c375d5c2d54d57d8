-- What a script of the grammar keeps.
use Rattle.std.proofs.Common.{◌≡◌, ℕ, ◌+◌, ◌<◌, ◌≤◌, List, [], ◌∷◌, ◌++◌, map, length, refl, ap, ◌∙◌, arith, Some, None, inl, inr, max}
use Rattle.std.specs.Prelude.{Option, Bool, true, false, ◌==◌, nat_lt}
use Rattle.std.proofs.lemmas.Option.{slice_get_within}
use Rattle.text_model.specs.Characters.{Ch}
use Rattle.text_model.specs.Properties.{Cell, PropSet, PropVal, Truth, Number, Text, Symbol, Symbols, put, without, with_value, bare}
use Rattle.editor_model.specs.Values.{Value, Values, Nil, T, Int, Sym, Str, Items, End, More, as_prop, symbol_names, Arg, Const, Name, Call, Form, Forms, Do, Setq, In, WhenEq, NoForms, Then, HandlerDef, Script}
use Rattle.plain_machine.specs.Words.{Word}
use Rattle.plain_machine.specs.Atoms.{IsSymbol, AreSymbols, IsItem, AreItems, IsPropertyList, no_more, property, AreRuns, no_run, run, IsConst, IsArg, AreArgs}
use Rattle.plain_machine.specs.Grammar.{Top, Handler, Run, IsCall, IsForm, AreForms, AreParams, IsTop, AreTops, handlers_of, forms_of, KeepsLimits, AllKeepLimits, depth, depth_all, IsScript}
use Rattle.script_read.specs.Kept.{AreBelow, IsNamedProperty, IsNamedSet, IsNamedText, IsNamed, AreNamed, IsNamedArg, AreNamedArgs, IsKeptCall, IsKeptForm, AreKeptForms, IsKeptHandler, AreKeptHandlers, IsKept}

module _ (symbols : List (List ℕ)) where
  abbrev count : ℕ
  count = length symbols

  symbol_below : (s : ℕ) (words : List Word) → IsSymbol symbols s words → s < count
  symbol_below s words (name, alone, is, there) = slice_get_within symbols s name there

  -- LISTS
  symbols_named : (vs : Values) (words : List Word) → AreSymbols symbols vs words → AreNamed count vs
  symbols_named End words are = tt
  symbols_named (More (Sym s) vs) words (first, rest, e, is, are) = (symbol_below s first is, symbols_named vs rest are)
  symbols_named (More v vs) words are = absurd are

  bare_named : (chars : List Ch) → IsNamedText count (bare chars)
  bare_named [] = tt
  bare_named (c ∷ chars) = (tt, bare_named chars)

  item_named : (v : Value) (words : List Word) → IsItem symbols v words → IsNamed count v
  item_named Nil words is = tt
  item_named T words is = tt
  item_named (Int i) words is = tt
  item_named (Sym s) words is = symbol_below s words is
  item_named (Str text) words (chars, same, is) = rw same (bare_named chars)
  item_named (Items (More v vs)) words (inside, e, are) = symbols_named (More v vs) inside are
  item_named v words is = absurd is

  items_named : (vs : Values) (words : List Word) → AreItems symbols vs words → AreNamed count vs
  items_named End words are = tt
  items_named (More v vs) words (first, rest, e, is, are) = (item_named v first is, items_named vs rest are)

  -- PROPERTIES
  names_below : (vs : Values) (names : List ℕ) → AreNamed count vs → symbol_names vs ≡ Some names → AreBelow count names
  names_below End names are e = let same : [] ≡ names = cc in rw (← same) tt
  names_below (More (Sym s) vs) names (below, are) e = by (symbol_names vs) refl (λ more t. names_below vs more are t)
    where
      by : (o : Option (List ℕ)) → symbol_names vs ≡ o → ((more : List ℕ) → symbol_names vs ≡ Some more → AreBelow count more) → AreBelow count names
      by None t again = absurd (let h : None ≡ Some names = rw t at e in cc)
      by (Some more) t again = let h : Some (s ∷ more) ≡ Some names = rw t at e in let same : s ∷ more ≡ names = cc in rw (← same) ((below, again more t))
  names_below (More v vs) names are e = cc

  property_named : (v : Value) (p : PropVal) → IsNamed count v → as_prop v ≡ Some (Some p) → IsNamedProperty count p
  property_named (Sym s) p is e = let same : Symbol s ≡ p = cc in rw (← same) is
  property_named (Items (More v vs)) p is e = by (symbol_names (More v vs)) refl
    where
      by : (o : Option (List ℕ)) → symbol_names (More v vs) ≡ o → IsNamedProperty count p
      by None t = absurd (let h : None ≡ Some (Some p) = rw (t, as_prop) at e in cc)
      by (Some names) t = let h : Some (Some (Symbols names)) ≡ Some (Some p) = rw (t, as_prop) at e in let same : Symbols names ≡ p = cc in rw (← same) (names_below (More v vs) names is t)
  property_named Nil p is e = cc
  property_named T p is e = let same : Truth ≡ p = cc in rw (← same) tt
  property_named (Int i) p is e = let same : Number i ≡ p = cc in rw (← same) tt
  property_named (Str text) p is e = let same : Text (map (λ c. c.0) text) ≡ p = cc in rw (← same) tt
  property_named v p is e = cc

  without_named : (set : PropSet) (name : ℕ) → IsNamedSet count set → IsNamedSet count (without set name)
  without_named [] name are = tt
  without_named (p ∷ set) name (below, one, are) = by (p.0 == name) refl (without_named set name are)
    where
      by : (b : Bool) → (p.0 == name) ≡ b → IsNamedSet count (without set name) → IsNamedSet count (without (p ∷ set) name)
      by true t others = rw t others
      by false t others = rw t ((below, one, others))

  with_value_named : (set : PropSet) (name : ℕ) (v : PropVal) → IsNamedSet count set → name < count → IsNamedProperty count v → IsNamedSet count (with_value set name v)
  with_value_named [] name v are first given = (first, given, tt)
  with_value_named (p ∷ set) name v (below, one, are) first given = by (nat_lt p.0 name) refl (with_value_named set name v are first given)
    where
      by : (b : Bool) → nat_lt p.0 name ≡ b → IsNamedSet count (with_value set name v) → IsNamedSet count (with_value (p ∷ set) name v)
      by true t others = rw t ((below, one, others))
      by false t others = rw t ((first, given, without_named (p ∷ set) name (below, one, are)))

  put_named : (set : PropSet) (name : ℕ) (value : Option PropVal) → IsNamedSet count set → name < count → ((p : PropVal) → value ≡ Some p → IsNamedProperty count p) → IsNamedSet count (put set name value)
  put_named set name None are first given = without_named set name are
  put_named set name (Some v) are first given = with_value_named set name v are first (given v refl)

  set_named : (seen : List ℕ) (vs : Values) (set : PropSet) → IsPropertyList seen vs set → AreNamed count vs → IsNamedSet count set
  set_named seen _ _ no_more are = tt
  set_named seen _ _ (property {name} {v} {more} {value} {set} new is others) (first, (given, are)) =
      put_named set name value (set_named (name ∷ seen) more set others are) first (λ p same. property_named v p given (is ∙ ap (λ (o : Option PropVal). Some o) same))

  append_named : (first rest : List Cell) → IsNamedText count first → IsNamedText count rest → IsNamedText count (first ++ rest)
  append_named [] rest a b = b
  append_named (c ∷ first) rest (one, a) b = (one, append_named first rest a b)

  chars_named : (chars : List Ch) (set : PropSet) → IsNamedSet count set → IsNamedText count (map (λ c. (c, set)) chars)
  chars_named [] set is = tt
  chars_named (c ∷ chars) set is = (is, chars_named chars set is)

  runs_named : (place : ℕ) (text : List Cell) (words : List Word) → AreRuns symbols place text words → IsNamedText count text
  runs_named place _ _ (no_run left) = bare_named left
  runs_named place _ _ (run gap chars list set from to inside {rest} {words} some is_from is_to are is more) =
      append_named (bare gap) (map (λ c. (c, set)) chars ++ rest) (bare_named gap)
      (append_named (map (λ c. (c, set)) chars) rest (chars_named chars set (set_named [] list set is (items_named list inside are))) (runs_named (place + length gap + length chars) rest words more))

  -- ARGUMENTS
  const_named : (v : Value) (words : List Word) → IsConst symbols v words → IsNamed count v
  const_named Nil words is = tt
  const_named T words is = tt
  const_named (Int i) words is = tt
  const_named (Sym s) words (thing, e, is) = symbol_below s thing is
  const_named (Str text) words (inl (chars, same, is)) = rw same (bare_named chars)
  const_named (Str text) words (inr (string, runs, e, is, are)) = runs_named 0 text runs are
  const_named (Items (More v vs)) words (thing, e, (inside, h, are)) = items_named (More v vs) inside are
  const_named v words is = absurd is

  arg_named : (a : Arg) (words : List Word) → IsArg symbols a words → IsNamedArg count a
  arg_named (Const v) words is = const_named v words is
  arg_named (Name s) words is = symbol_below s words is

  args_named : (args : List Arg) (words : List Word) → AreArgs symbols args words → AreNamedArgs count args
  args_named [] words are = tt
  args_named (a ∷ args) words (first, rest, e, is, are) = (arg_named a first is, args_named args rest are)

  -- FORMS
  call_kept : (c : Call) (words : List Word) → IsCall symbols c words → IsKeptCall count c
  call_kept c words (takes_so, (inside, e, (rest, h, are))) = (takes_so, args_named c.args rest are)

  mutual
    form_kept : (f : Form) (words : List Word) → IsForm symbols f words → IsKeptForm count f
    form_kept (Do c) words is = call_kept c words is
    form_kept (Setq s c) words (inside, e, (rest, h, (first, second, j, is, call))) = (symbol_below s first is, call_kept c second call)
    form_kept (In kind forms) words (inside, e, (rest, h, are)) = forms_kept forms rest are
    form_kept (WhenEq a b forms) words (inside, e, (rest, h, (x, more, j, one, (y, z, k, two, are)))) = (arg_named a x one, arg_named b y two, forms_kept forms z are)

    forms_kept : (fs : Forms) (words : List Word) → AreForms symbols fs words → AreKeptForms count fs
    forms_kept NoForms words are = tt
    forms_kept (Then f fs) words (first, rest, e, is, are) = (form_kept f first is, forms_kept fs rest are)

  params_below : (params : List ℕ) (words : List Word) → AreParams symbols params words → AreBelow count params
  params_below [] words are = tt
  params_below (p ∷ params) words (first, rest, e, is, are) = (symbol_below p first is, params_below params rest are)

  -- TOPS
  handler_kept : (d : HandlerDef) (words : List Word) → IsTop symbols (Handler d) words → KeepsLimits (Handler d) → IsKeptHandler count d
  handler_kept d words (inside, e, (rest, h, (x, more, j, name, (y, z, k, (params, m, are), body)))) (few, differ, size, shallow) = record {
    name = symbol_below d.name x name;
    params = params_below d.params params are;
    few_params = few;
    params_differ = differ;
    body = forms_kept d.body z body;
    few_forms = size;
    shallow = shallow;
  }

  handlers_kept : (tops : List Top) (words : List Word) → AreTops symbols tops words → AllKeepLimits tops → AreKeptHandlers count (handlers_of tops)
  handlers_kept [] words are keep = tt
  handlers_kept (Handler d ∷ tops) words (first, rest, e, is, are) (one, keep) = (handler_kept d first is one, handlers_kept tops rest are keep)
  handlers_kept (Run f ∷ tops) words (first, rest, e, is, are) (one, keep) = handlers_kept tops rest are keep

  tops_kept : (tops : List Top) (words : List Word) → AreTops symbols tops words → AreKeptForms count (forms_of tops)
  tops_kept [] words are = tt
  tops_kept (Handler d ∷ tops) words (first, rest, e, is, are) = tops_kept tops rest are
  tops_kept (Run f ∷ tops) words (first, rest, e, is, are) = (form_kept f first is, tops_kept tops rest are)

at_most : (a b n : ℕ) → a ≤ n → b ≤ n → max a b ≤ n
at_most a b n h k = omega (arith, h, k)

tops_shallow : (tops : List Top) → AllKeepLimits tops → depth_all (forms_of tops) ≤ 16
tops_shallow [] keep = omega arith
tops_shallow (Handler d ∷ tops) (one, keep) = tops_shallow tops keep
tops_shallow (Run f ∷ tops) (one, keep) = at_most (depth f) (depth_all (forms_of tops)) 16 one (tops_shallow tops keep)

pub script_kept : (bytes : List ℕ) (script : Script) → IsScript bytes script → IsKept script
script_kept bytes script is = record {
  handlers = rw is.handlers_are (handlers_kept script.symbols is.tops is.words is.meant is.within_limits);
  few_handlers = is.few_handlers;
  handlers_differ = is.handlers_differ;
  forms = rw is.forms_are (tops_kept script.symbols is.tops is.words is.meant);
  shallow = rw is.forms_are (tops_shallow is.tops is.within_limits);
}
