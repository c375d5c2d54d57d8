-- Of a session there is one reading and one replay.
use Rattle.std.proofs.Common.{ℕ, ◌+◌, ◌++◌, length, sym, ap, subst, ◌∙◌, codes}
use Rattle.std.proofs.lemmas.List.{append_cancel_left}
use Rattle.editor_model.specs.Values.{Script}
use Rattle.plain_machine.specs.Exchanges.{children_started}
use Rattle.plain_machine.specs.State.{Program}
use Rattle.plain_machine.specs.Run.{start, lines}
use Rattle.plain_machine.specs.WholeRuns.{Ran}
use Rattle.plain_machine.specs.Grammar.{IsScript}
use Rattle.machine_laws.proofs.OneRun.{one_end}
use Rattle.script_read.proofs.Determined.{one_script}
use Rattle.journal_text.proofs.Journals.{one_reading, script_is_no_line}
use Rattle.journal_laws.specs.Replaying.{OneSession, OneText, OneReplay}

pub one_session : OneSession
one_session exchanges journal bytes script h k e =
    let same = one_reading 0 exchanges journal (codes "script\n" ++ bytes) (codes "script\n" ++ script) h k (script_is_no_line bytes (0 + length (children_started exchanges))) (script_is_no_line script) e in
    record { journals = same.lists; scripts = append_cancel_left (codes "script\n") bytes script same.rests }

pub one_text : (program : Program) (bound : ℕ) (script : Script) → OneText program bound script
one_text program bound script exchanges written others ran other =
    let same = one_end program bound (start script) exchanges ran.said other.said ran.last other.last ran.run ran.ended other.run other.ended in
    other.bytes ∙ ap lines same.0 ∙ sym ran.bytes

pub one_replay : (program : Script → Program) (bound : ℕ) → OneReplay program bound
one_replay program bound exchanges journal bytes rest written others script other h is ran e k read again =
    let same = one_session exchanges journal bytes rest h k e in
    let one = one_script rest other script read (subst (λ l. IsScript l script) same.scripts is) in
    one_text (program script) bound script exchanges written others ran
    (subst (λ l. Ran (program script) bound script l others) (sym same.journals) (subst (λ s. Ran (program s) bound s journal others) one again))
