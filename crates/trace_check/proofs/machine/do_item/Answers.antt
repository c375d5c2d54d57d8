use Rattle.std.proofs.Common.{◌∷◌}
use Rattle.std.specs.Prelude.{option_map}
use Rattle.host_link.specs.Meaning.{exchange_of}
use Rattle.trace_check.specs.Meaning.{item_of, list_of}
use Rattle.trace_check.specs.declared.item.Item.TheVariants as item
use Rattle.trace_check.proofs.FormItems.{called_goes}
use Rattle.trace_check.proofs.Turning.{alone_comes, alone_cause, told_comes, told_cause, heard_comes, heard_cause}
use Rattle.trace_check.proofs.machine.do_item.Goals as goal

pub returns-in-Top-clause-step : goal.returns-in-Top-clause-step
returns-in-Top-clause-step g c =
    let program = g.P.Program.meant c.args.program.now in
    let next = option_map (λ x. exchange_of x.now) c.args.next in
    let known = g.M.Kernel.state c.args.kernel.now in
    let rest = list_of c.args.work.now in
    let old = g.K.Sink.state c.args.sink.now in
    rw (c.in-Top.is, c.alone.ensures) (alone_comes program next known known (item_of (item.Top c.in-Top.forms c.in-Top.at) ∷ rest) (list_of c.do_top.new.work) c.do_top.result old (c.do_top.ensures program known))

pub returns-in-Top-clause-cause : goal.returns-in-Top-clause-cause
returns-in-Top-clause-cause g c = rw c.alone.ensures (alone_cause c.do_top.result _)

pub returns-in-Body-clause-step : goal.returns-in-Body-clause-step
returns-in-Body-clause-step g c =
    let program = g.P.Program.meant c.args.program.now in
    let next = option_map (λ x. exchange_of x.now) c.args.next in
    let known = g.M.Kernel.state c.args.kernel.now in
    let rest = list_of c.args.work.now in
    let old = g.K.Sink.state c.args.sink.now in
    rw (c.in-Body.is, c.alone-in-Body.ensures) (alone_comes program next known known (item_of (item.Body c.in-Body.forms c.in-Body.at) ∷ rest) (list_of c.do_body.new.work) c.do_body.result old (c.do_body.ensures program known))

pub returns-in-Body-clause-cause : goal.returns-in-Body-clause-cause
returns-in-Body-clause-cause g c = rw c.alone-in-Body.ensures (alone_cause c.do_body.result _)

pub returns-in-DoForm-clause-step : goal.returns-in-DoForm-clause-step
returns-in-DoForm-clause-step g c =
    let program = g.P.Program.meant c.args.program.now in
    let next = option_map (λ x. exchange_of x.now) c.args.next in
    let known = g.M.Kernel.state c.args.kernel.now in
    let rest = list_of c.args.work.now in
    let old = g.K.Sink.state c.args.sink.now in
    rw (c.in-DoForm.is, c.alone-in-DoForm.ensures) (alone_comes program next known (g.M.Kernel.state c.do_form.new.kernel) (item_of (item.DoForm c.in-DoForm.form) ∷ rest) (list_of c.do_form.new.work) c.do_form.result old (c.do_form.ensures program))

pub returns-in-DoForm-clause-cause : goal.returns-in-DoForm-clause-cause
returns-in-DoForm-clause-cause g c = rw c.alone-in-DoForm.ensures (alone_cause c.do_form.result _)

pub returns-in-MakeCall-clause-step : goal.returns-in-MakeCall-clause-step
returns-in-MakeCall-clause-step g c =
    let program = g.P.Program.meant c.args.program.now in
    let next = option_map (λ x. exchange_of x.now) c.args.next in
    let known = g.M.Kernel.state c.args.kernel.now in
    let rest = list_of c.args.work.now in
    let old = g.K.Sink.state c.args.sink.now in
    rw (c.in-MakeCall.is, c.heard.ensures) (heard_comes program next known (g.M.Kernel.state c.call.new.kernel) (item_of (item.MakeCall c.in-MakeCall.prim c.in-MakeCall.args c.in-MakeCall.target) ∷ rest) (list_of c.call.new.work) c.call.result old c.call.ensures)

pub returns-in-MakeCall-clause-cause : goal.returns-in-MakeCall-clause-cause
returns-in-MakeCall-clause-cause g c = rw c.heard.ensures (heard_cause c.call.result _)

pub returns-in-Leave-clause-step : goal.returns-in-Leave-clause-step
returns-in-Leave-clause-step g c = rw c.in-Leave.is (c.leave.ensures (g.P.Program.meant c.args.program.now) (list_of c.args.work.now) (g.K.Sink.state c.args.sink.now))

pub returns-in-GiveAnswer-clause-step : goal.returns-in-GiveAnswer-clause-step
returns-in-GiveAnswer-clause-step g c =
    let program = g.P.Program.meant c.args.program.now in
    let next = option_map (λ x. exchange_of x.now) c.args.next in
    let known = g.M.Kernel.state c.args.kernel.now in
    let rest = list_of c.args.work.now in
    let old = g.K.Sink.state c.args.sink.now in
    rw (c.in-GiveAnswer.is, c.told.ensures) (told_comes program next known (g.M.Kernel.state c.give_answer.new.kernel) (item_of (item.GiveAnswer c.in-GiveAnswer.value c.in-GiveAnswer.target) ∷ rest) (list_of c.give_answer.new.work) c.give_answer.result old (g.K.Sink.state c.give_answer.new.sink) c.give_answer.ensures.step)

pub returns-in-GiveAnswer-clause-cause : goal.returns-in-GiveAnswer-clause-cause
returns-in-GiveAnswer-clause-cause g c = rw c.told.ensures (told_cause c.give_answer.result _ _ c.give_answer.ensures.cause)

pub returns-in-Refuse-clause-step : goal.returns-in-Refuse-clause-step
returns-in-Refuse-clause-step g c =
    let program = g.P.Program.meant c.args.program.now in
    let next = option_map (λ x. exchange_of x.now) c.args.next in
    let known = g.M.Kernel.state c.args.kernel.now in
    let rest = list_of c.args.work.now in
    let old = g.K.Sink.state c.args.sink.now in
    rw (c.in-Refuse.is, c.told-in-Refuse.ensures) (told_comes program next known (g.M.Kernel.state c.refuse.new.kernel) (item_of (item.Refuse c.in-Refuse.fault) ∷ rest) (list_of c.refuse.new.work) c.refuse.result old (g.K.Sink.state c.refuse.new.sink) c.refuse.ensures.step)

pub returns-in-Refuse-clause-cause : goal.returns-in-Refuse-clause-cause
returns-in-Refuse-clause-cause g c = rw c.told-in-Refuse.ensures (told_cause c.refuse.result _ _ c.refuse.ensures.cause)

pub returns-in-MakeChange-clause-step : goal.returns-in-MakeChange-clause-step
returns-in-MakeChange-clause-step g c =
    let program = g.P.Program.meant c.args.program.now in
    let next = option_map (λ x. exchange_of x.now) c.args.next in
    let known = g.M.Kernel.state c.args.kernel.now in
    let rest = list_of c.args.work.now in
    let old = g.K.Sink.state c.args.sink.now in
    rw (c.in-MakeChange.is, c.alone-in-MakeChange.ensures) (alone_comes program next known (g.M.Kernel.state c.make_change.new.kernel) (item_of (item.MakeChange c.in-MakeChange.change) ∷ rest) (list_of c.make_change.new.work) c.make_change.result old (c.make_change.ensures program))

pub returns-in-MakeChange-clause-cause : goal.returns-in-MakeChange-clause-cause
returns-in-MakeChange-clause-cause g c = rw c.alone-in-MakeChange.ensures (alone_cause c.make_change.result _)

pub returns-in-Hooks-clause-step : goal.returns-in-Hooks-clause-step
returns-in-Hooks-clause-step g c =
    let program = g.P.Program.meant c.args.program.now in
    let next = option_map (λ x. exchange_of x.now) c.args.next in
    let known = g.M.Kernel.state c.args.kernel.now in
    let rest = list_of c.args.work.now in
    let old = g.K.Sink.state c.args.sink.now in
    rw (c.in-Hooks.is, c.alone-in-Hooks.ensures) (alone_comes program next known known (item_of (item.Hooks c.in-Hooks.kind c.in-Hooks.names c.in-Hooks.at c.in-Hooks.args) ∷ rest) (list_of c.enter_hooks.new.work) c.enter_hooks.result old (c.enter_hooks.ensures program known))

pub returns-in-Hooks-clause-cause : goal.returns-in-Hooks-clause-cause
returns-in-Hooks-clause-cause g c = rw c.alone-in-Hooks.ensures (alone_cause c.enter_hooks.result _)

pub returns-in-Calm-clause-step : goal.returns-in-Calm-clause-step
returns-in-Calm-clause-step g c = rw c.in-Calm.is (c.calm.ensures (g.P.Program.meant c.args.program.now) (list_of c.args.work.now) (g.K.Sink.state c.args.sink.now))

pub returns-in-CommitChange-clause-step : goal.returns-in-CommitChange-clause-step
returns-in-CommitChange-clause-step g c =
    let program = g.P.Program.meant c.args.program.now in
    let next = option_map (λ x. exchange_of x.now) c.args.next in
    let known = g.M.Kernel.state c.args.kernel.now in
    let rest = list_of c.args.work.now in
    let old = g.K.Sink.state c.args.sink.now in
    rw (c.in-CommitChange.is, c.alone-in-CommitChange.ensures) (alone_comes program next known (g.M.Kernel.state c.commit_change.new.kernel) (item_of (item.CommitChange c.in-CommitChange.change) ∷ rest) (list_of c.commit_change.new.work) c.commit_change.result old (c.commit_change.ensures program))

pub returns-in-CommitChange-clause-cause : goal.returns-in-CommitChange-clause-cause
returns-in-CommitChange-clause-cause g c = rw c.alone-in-CommitChange.ensures (alone_cause c.commit_change.result _)

pub returns-in-Enter-clause-step : goal.returns-in-Enter-clause-step
returns-in-Enter-clause-step g c =
    let program = g.P.Program.meant c.args.program.now in
    let next = option_map (λ x. exchange_of x.now) c.args.next in
    let known = g.M.Kernel.state c.args.kernel.now in
    let rest = list_of c.args.work.now in
    let old = g.K.Sink.state c.args.sink.now in
    rw (c.in-Enter.is, c.told-in-Enter.ensures) (told_comes program next known (g.M.Kernel.state c.enter.new.kernel) (item_of (item.Enter c.in-Enter.kind c.in-Enter.handler c.in-Enter.args) ∷ rest) (list_of c.enter.new.work) c.enter.result old (g.K.Sink.state c.enter.new.sink) c.enter.ensures.step)

pub returns-in-Enter-clause-cause : goal.returns-in-Enter-clause-cause
returns-in-Enter-clause-cause g c = rw c.told-in-Enter.ensures (told_cause c.enter.result _ _ c.enter.ensures.cause)

pub returns-in-Native-clause-step : goal.returns-in-Native-clause-step
returns-in-Native-clause-step g c =
    let program = g.P.Program.meant c.args.program.now in
    let next = option_map (λ x. exchange_of x.now) c.args.next in
    let known = g.M.Kernel.state c.args.kernel.now in
    let rest = list_of c.args.work.now in
    let old = g.K.Sink.state c.args.sink.now in
    rw (c.in-Native.is, c.alone-in-Native.ensures) (alone_comes program next known known (item_of (item.Native c.in-Native.native c.in-Native.args c.in-Native.past) ∷ rest) (list_of c.go_on.new.work) c.go_on.result old c.go_on.ensures)

pub returns-in-Native-clause-cause : goal.returns-in-Native-clause-cause
returns-in-Native-clause-cause g c = rw c.alone-in-Native.ensures (alone_cause c.go_on.result _)

pub returns-in-Called-clause-step : goal.returns-in-Called-clause-step
returns-in-Called-clause-step g c = rw c.in-Called.is (called_goes (g.P.Program.meant c.args.program.now) (g.M.Kernel.state c.args.kernel.now) (list_of c.args.work.now) _ _ _ (g.K.Sink.state c.args.sink.now))

pub returns-in-Exit-clause-step : goal.returns-in-Exit-clause-step
returns-in-Exit-clause-step g c =
    let program = g.P.Program.meant c.args.program.now in
    let next = option_map (λ x. exchange_of x.now) c.args.next in
    let known = g.M.Kernel.state c.args.kernel.now in
    let rest = list_of c.args.work.now in
    let old = g.K.Sink.state c.args.sink.now in
    rw (c.in-Exit.is, c.told-in-Exit.ensures) (told_comes program next known (g.M.Kernel.state c.exit.new.kernel) (item_of (item.Exit c.in-Exit.kind c.in-Exit.handler c.in-Exit.current c.in-Exit.faulted) ∷ rest) (list_of c.exit.new.work) c.exit.result old (g.K.Sink.state c.exit.new.sink) c.exit.ensures.step)

pub returns-in-Exit-clause-cause : goal.returns-in-Exit-clause-cause
returns-in-Exit-clause-cause g c = rw c.told-in-Exit.ensures (told_cause c.exit.result _ _ c.exit.ensures.cause)

pub returns-in-Wait-clause-step : goal.returns-in-Wait-clause-step
returns-in-Wait-clause-step g c =
    let program = g.P.Program.meant c.args.program.now in
    let next = option_map (λ x. exchange_of x.now) c.args.next in
    let known = g.M.Kernel.state c.args.kernel.now in
    let rest = list_of c.args.work.now in
    let old = g.K.Sink.state c.args.sink.now in
    rw (c.in-Wait.is, c.heard-in-Wait.ensures) (heard_comes program next known (g.M.Kernel.state c.wait.new.kernel) (item_of (item.Wait c.in-Wait.waiting c.in-Wait.target) ∷ rest) (list_of c.wait.new.work) c.wait.result old (c.wait.ensures program))

pub returns-in-Wait-clause-cause : goal.returns-in-Wait-clause-cause
returns-in-Wait-clause-cause g c = rw c.heard-in-Wait.ensures (heard_cause c.wait.result _)

pub returns-in-Delete-clause-step : goal.returns-in-Delete-clause-step
returns-in-Delete-clause-step g c =
    let program = g.P.Program.meant c.args.program.now in
    let next = option_map (λ x. exchange_of x.now) c.args.next in
    let known = g.M.Kernel.state c.args.kernel.now in
    let rest = list_of c.args.work.now in
    let old = g.K.Sink.state c.args.sink.now in
    rw (c.in-Delete.is, c.heard-in-Delete.ensures) (heard_comes program next known (g.M.Kernel.state c.delete.new.kernel) (item_of (item.Delete c.in-Delete.process) ∷ rest) (list_of c.delete.new.work) c.delete.result old (c.delete.ensures program))

pub returns-in-Delete-clause-cause : goal.returns-in-Delete-clause-cause
returns-in-Delete-clause-cause g c = rw c.heard-in-Delete.ensures (heard_cause c.delete.result _)

pub returns-in-KillBuffer-clause-step : goal.returns-in-KillBuffer-clause-step
returns-in-KillBuffer-clause-step g c =
    let program = g.P.Program.meant c.args.program.now in
    let next = option_map (λ x. exchange_of x.now) c.args.next in
    let known = g.M.Kernel.state c.args.kernel.now in
    let rest = list_of c.args.work.now in
    let old = g.K.Sink.state c.args.sink.now in
    rw (c.in-KillBuffer.is, c.alone-in-KillBuffer.ensures) (alone_comes program next known (g.M.Kernel.state c.kill_live.new.kernel) (item_of (item.KillBuffer c.in-KillBuffer.buffer c.in-KillBuffer.target) ∷ rest) (list_of c.kill_live.new.work) c.kill_live.result old (c.kill_live.ensures program))

pub returns-in-KillBuffer-clause-cause : goal.returns-in-KillBuffer-clause-cause
returns-in-KillBuffer-clause-cause g c = rw c.alone-in-KillBuffer.ensures (alone_cause c.kill_live.result _)

pub returns-in-Finish-clause-step : goal.returns-in-Finish-clause-step
returns-in-Finish-clause-step g c = rw c.in-Finish.is c.finish.ensures.step

pub returns-clause-step : goal.returns-clause-step
returns-clause-step g c =
    let program = g.P.Program.meant c.args.program.now in
    let next = option_map (λ x. exchange_of x.now) c.args.next in
    let known = g.M.Kernel.state c.args.kernel.now in
    let rest = list_of c.args.work.now in
    let old = g.K.Sink.state c.args.sink.now in
    rw (c.in-WriteDump.is, c.told-in-WriteDump.ensures) (told_comes program next known known (item_of item.WriteDump ∷ rest) (list_of c.write_dump.new.work) c.write_dump.result old (g.K.Sink.state c.write_dump.new.sink) c.write_dump.ensures.step)

pub returns-clause-cause : goal.returns-clause-cause
returns-clause-cause g c = rw c.told-in-WriteDump.ensures (told_cause c.write_dump.result _ _ c.write_dump.ensures.cause)
