-- What default handlers put in.
use Rattle.std.proofs.Common.{◌≡◌, ℕ, ◌≤◌, List, [], ◌++◌, length, ap, sym, ◌∙◌}
use Rattle.std.specs.Prelude.{Option, Some, None}
use Rattle.std.proofs.lemmas.List.{append-nil}
use Rattle.std.proofs.lemmas.Option.{slice_get_past}
use Rattle.text_model.specs.Characters.{Ch}
use Rattle.text_model.specs.Properties.{Cell}
use Rattle.editor_model.specs.Values.{Nil}
use Rattle.editor_model.specs.Editor.{Name}
use Rattle.editor_model.specs.Answers.{Prepared, Nothing}
use Rattle.editor_model.specs.TextCalls.{prepare_output}
use Rattle.plain_machine.specs.State.{State, Process, process}
use Rattle.plain_machine.specs.Handling.{process_buffer_of, mark_of_process}
use Rattle.kernel_state.specs.Defaults.{name_at, text_prepared}

pub text_prepared_at : (s : State) (p b mark : ℕ) (x : Process) (text : List Cell) → Some b ≡ process_buffer_of s p → process s p ≡ Some x → mark ≡ x.mark → prepare_output s.editor b mark text ≡ text_prepared s p text
text_prepared_at s p b mark x text some at here =
    ap (λ m. prepare_output s.editor b m text) (here ∙ sym (ap (λ (o : Option Process). let m : ℕ = elim o [ None ↦ 0 | Some y ↦ y.mark ] in m) at))
    ∙ ap (λ (o : Option ℕ). let q : Prepared = elim o [ None ↦ Nothing Nil | Some c ↦ prepare_output s.editor c (mark_of_process s p) text ] in q) some

-- NAMES
pub name_here : (s : State) (p : ℕ) (x : Process) → process s p ≡ Some x → x.name ≡ name_at s p
name_here s p x at = sym (ap (λ (o : Option Process). let n : Name = elim o [ Some y ↦ y.name | None ↦ [] ] in n) at)

pub name_nowhere : (s : State) (p : ℕ) (text : List Ch) → length s.processes ≤ p → text ≡ text ++ name_at s p
name_nowhere s p text h = sym (append-nil text) ∙ sym (ap (λ (o : Option Process). text ++ (let n : Name = elim o [ Some y ↦ y.name | None ↦ [] ] in n)) (slice_get_past s.processes p h))
