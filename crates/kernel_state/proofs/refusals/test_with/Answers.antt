use Rattle.std.proofs.Common.{[], ◌∷◌, map, sym, ap, ◌∙◌}
use Rattle.editor_model.specs.Values.{Value, RemoveHook, KillBuffer, SetProcessBuffer, ProcessSendString, ProcessSendEof, DeleteProcess, AcceptProcessOutput, SetProcessCodingSystem}
use Rattle.editor_model.specs.Arguments.{arg}
use Rattle.plain_machine.specs.State.{Program}
use Rattle.ek_types.specs.Listing.{items_of}
use Rattle.ek_call.specs.Meaning.{view}
use Rattle.ek_call.specs.Primitives.{prim_of}
use Rattle.ek_call.specs.declared.primitive.Primitive.{Primitive}
use Rattle.kernel_steps.specs.Waits.{refusal_of}
use Rattle.kernel_state.specs.Meaning.{state_of}
use Rattle.kernel_state.proofs.refusals.test_with.Goals as goal

pub returns-in-RemoveHook : goal.returns-in-RemoveHook
returns-in-RemoveHook g c =
    let program : Program = g.P.Program.meant c.args.program.now in
    let s = state_of c.args.kernel.now in
    let xs = map view (items_of c.args.args.now) in
    c.test_remove_hook.ensures s
    ∙ ap (λ (a : Value). refusal_of program s RemoveHook (a ∷ view c.args.b.now ∷ [])) c.requires.first
    ∙ ap (λ (b : Value). refusal_of program s RemoveHook (arg xs 0 ∷ b ∷ [])) c.requires.second
    ∙ ap (λ (p : Primitive). refusal_of program s (prim_of p) xs) (sym c.in-RemoveHook.is)

pub returns-in-KillBuffer : goal.returns-in-KillBuffer
returns-in-KillBuffer g c =
    let program : Program = g.P.Program.meant c.args.program.now in
    let s = state_of c.args.kernel.now in
    let xs = map view (items_of c.args.args.now) in
    c.test_kill_buffer.ensures program
    ∙ ap (λ (a : Value). refusal_of program s KillBuffer (a ∷ [])) c.requires.first
    ∙ ap (λ (p : Primitive). refusal_of program s (prim_of p) xs) (sym c.in-KillBuffer.is)

pub returns-in-StartProcess : goal.returns-in-StartProcess
returns-in-StartProcess g c =
    let program : Program = g.P.Program.meant c.args.program.now in
    let s = state_of c.args.kernel.now in
    let xs = map view (items_of c.args.args.now) in
    c.test_start.ensures program
    ∙ ap (λ (p : Primitive). refusal_of program s (prim_of p) xs) (sym c.in-StartProcess.is)

pub returns-in-SetProcessBuffer : goal.returns-in-SetProcessBuffer
returns-in-SetProcessBuffer g c =
    let program : Program = g.P.Program.meant c.args.program.now in
    let s = state_of c.args.kernel.now in
    let xs = map view (items_of c.args.args.now) in
    c.test_set_buffer.ensures program
    ∙ ap (λ (a : Value). refusal_of program s SetProcessBuffer (a ∷ view c.args.b.now ∷ [])) c.requires.first
    ∙ ap (λ (b : Value). refusal_of program s SetProcessBuffer (arg xs 0 ∷ b ∷ [])) c.requires.second
    ∙ ap (λ (p : Primitive). refusal_of program s (prim_of p) xs) (sym c.in-SetProcessBuffer.is)

pub returns-in-ProcessSendString : goal.returns-in-ProcessSendString
returns-in-ProcessSendString g c =
    let program : Program = g.P.Program.meant c.args.program.now in
    let s = state_of c.args.kernel.now in
    let xs = map view (items_of c.args.args.now) in
    c.test_send.ensures program
    ∙ ap (λ (a : Value). refusal_of program s ProcessSendString (a ∷ view c.args.b.now ∷ [])) c.requires.first
    ∙ ap (λ (b : Value). refusal_of program s ProcessSendString (arg xs 0 ∷ b ∷ [])) c.requires.second
    ∙ ap (λ (p : Primitive). refusal_of program s (prim_of p) xs) (sym c.in-ProcessSendString.is)

pub returns-in-ProcessSendEof : goal.returns-in-ProcessSendEof
returns-in-ProcessSendEof g c =
    let program : Program = g.P.Program.meant c.args.program.now in
    let s = state_of c.args.kernel.now in
    let xs = map view (items_of c.args.args.now) in
    c.test_send_eof.ensures program
    ∙ ap (λ (a : Value). refusal_of program s ProcessSendEof (a ∷ [])) c.requires.first
    ∙ ap (λ (p : Primitive). refusal_of program s (prim_of p) xs) (sym c.in-ProcessSendEof.is)

pub returns-in-DeleteProcess : goal.returns-in-DeleteProcess
returns-in-DeleteProcess g c =
    let program : Program = g.P.Program.meant c.args.program.now in
    let s = state_of c.args.kernel.now in
    let xs = map view (items_of c.args.args.now) in
    c.test_delete.ensures program
    ∙ ap (λ (a : Value). refusal_of program s DeleteProcess (a ∷ [])) c.requires.first
    ∙ ap (λ (p : Primitive). refusal_of program s (prim_of p) xs) (sym c.in-DeleteProcess.is)

pub returns-in-AcceptProcessOutput : goal.returns-in-AcceptProcessOutput
returns-in-AcceptProcessOutput g c =
    let program : Program = g.P.Program.meant c.args.program.now in
    let s = state_of c.args.kernel.now in
    let xs = map view (items_of c.args.args.now) in
    c.test_wait.ensures program
    ∙ ap (λ (a : Value). refusal_of program s AcceptProcessOutput (a ∷ view c.args.b.now ∷ [])) c.requires.first
    ∙ ap (λ (b : Value). refusal_of program s AcceptProcessOutput (arg xs 0 ∷ b ∷ [])) c.requires.second
    ∙ ap (λ (p : Primitive). refusal_of program s (prim_of p) xs) (sym c.in-AcceptProcessOutput.is)

pub returns-in-SetProcessCodingSystem : goal.returns-in-SetProcessCodingSystem
returns-in-SetProcessCodingSystem g c =
    let program : Program = g.P.Program.meant c.args.program.now in
    let s = state_of c.args.kernel.now in
    let xs = map view (items_of c.args.args.now) in
    c.test_set_coding.ensures program
    ∙ ap (λ (a : Value). refusal_of program s SetProcessCodingSystem (a ∷ view c.args.b.now ∷ [])) c.requires.first
    ∙ ap (λ (b : Value). refusal_of program s SetProcessCodingSystem (arg xs 0 ∷ b ∷ [])) c.requires.second
    ∙ ap (λ (p : Primitive). refusal_of program s (prim_of p) xs) (sym c.in-SetProcessCodingSystem.is)
