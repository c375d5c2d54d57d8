-- What kinds of forms and values stand for.
use Rattle.std.proofs.Common.{◌≡◌, ℕ, map, Box, Global, ap, sym, ◌∙◌}
use Rattle.ek_types.specs.Listing.{items_of}
use Rattle.ek_types.specs.declared.list.ListOf.{ListOf}
use Rattle.ek_types.specs.declared.symbol.Sym.{Sym}
use Rattle.editor_model.specs.Values.{Do, Setq, In, WhenEq, SaveExcursion, SaveRestriction, SaveCurrentBuffer, InhibitHooks, InhibitReadOnly, Nil, TheProcess}
use Rattle.ek_call.specs.Meaning.{arg_of, call_of, form_of, joined, view}
use Rattle.ek_call.specs.declared.call.Arg.{Arg}
use Rattle.ek_call.specs.declared.call.Call.{Call}
use Rattle.ek_call.specs.declared.form.Form.{Form, fold-roll-Form}
use Rattle.ek_call.specs.declared.form.Form.TheOpen.{Form-F}
use Rattle.ek_call.specs.declared.form.Form.TheVariants as form
use Rattle.ek_call.specs.declared.value.Value.{fold-roll-Value}
use Rattle.ek_call.specs.declared.value.Value.TheOpen.{Value-F}
use Rattle.ek_call.specs.declared.value.Value.TheVariants as value

pub nil_is : view value.Nil ≡ Nil
nil_is = ap view (sym value.rolls-Nil) ∙ fold-roll-Value _ _ Value-F.Nil

pub process_is : (p : ℕ) → view (value.Process p) ≡ TheProcess p
process_is p = ap view (sym (value.rolls-Process p)) ∙ fold-roll-Value _ _ (Value-F.Process p)

pub do_is : (c : Call) → form_of (form.Do c) ≡ Do (call_of c)
do_is c = ap form_of (sym (form.rolls-Do c)) ∙ fold-roll-Form _ _ (Form-F.Do c)

pub setq_is : (name : Sym) (c : Call) → form_of (form.Setq name c) ≡ Setq name.0 (call_of c)
setq_is name c = ap form_of (sym (form.rolls-Setq name c)) ∙ fold-roll-Form _ _ (Form-F.Setq name c)

pub excursion_is : (fs : ListOf Form) → form_of (form.Excursion fs) ≡ In SaveExcursion (joined (map form_of (items_of fs)))
excursion_is fs = ap form_of (sym (form.rolls-Excursion fs)) ∙ fold-roll-Form _ _ (Form-F.Excursion fs)

pub restriction_is : (fs : ListOf Form) → form_of (form.Restriction fs) ≡ In SaveRestriction (joined (map form_of (items_of fs)))
restriction_is fs = ap form_of (sym (form.rolls-Restriction fs)) ∙ fold-roll-Form _ _ (Form-F.Restriction fs)

pub keep_buffer_is : (fs : ListOf Form) → form_of (form.KeepBuffer fs) ≡ In SaveCurrentBuffer (joined (map form_of (items_of fs)))
keep_buffer_is fs = ap form_of (sym (form.rolls-KeepBuffer fs)) ∙ fold-roll-Form _ _ (Form-F.KeepBuffer fs)

pub no_hooks_is : (fs : ListOf Form) → form_of (form.NoHooks fs) ≡ In InhibitHooks (joined (map form_of (items_of fs)))
no_hooks_is fs = ap form_of (sym (form.rolls-NoHooks fs)) ∙ fold-roll-Form _ _ (Form-F.NoHooks fs)

pub read_only_off_is : (fs : ListOf Form) → form_of (form.ReadOnlyOff fs) ≡ In InhibitReadOnly (joined (map form_of (items_of fs)))
read_only_off_is fs = ap form_of (sym (form.rolls-ReadOnlyOff fs)) ∙ fold-roll-Form _ _ (Form-F.ReadOnlyOff fs)

pub when_is : (pair : Box (Arg × Arg) Global) (fs : ListOf Form) → form_of (form.WhenEq pair fs) ≡ WhenEq (arg_of pair.value.0) (arg_of pair.value.1) (joined (map form_of (items_of fs)))
when_is pair fs = ap form_of (sym (form.rolls-WhenEq pair fs)) ∙ fold-roll-Form _ _ (Form-F.WhenEq pair fs)
