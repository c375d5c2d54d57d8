use Rattle.std.proofs.Common.{◌≡◌, ◌+◌, ◌-◌, ◌*◌, [], map, drop, length}
use Rattle.ek_types.specs.Property.{number_of}
use Rattle.ek_types.specs.Listing.{items_of}
use Rattle.ek_call.specs.Meaning.{form_of, joined, view, reply_of}
use Rattle.plain_machine.specs.Items.{Body, Hooks, Native, Wait, Target}
use Rattle.plain_machine.specs.Refusals.{most_exchanges}
use Rattle.kernel_steps.specs.Waits.{deleting}
use Rattle.kernel_steps.specs.Handlers.{kind_of}
use Rattle.kernel_steps.specs.Sizes.{form_size, forms_size, longest, weight}
use Rattle.kernel_steps.specs.Work.{at_item}
use Rattle.kernel_steps.specs.Worlds.{world, Keeps}
use Rattle.kernel_steps.proofs.Works.{Went}
use Rattle.kernel_steps.proofs.+run.Given as goal

abbrev pub decreases-forms::run_forms : goal.decreases-forms::run_forms
decreases-forms::run_forms g l = weight (g.P.Program.meant l.program.now) (g.M.Kernel.state l.kernel.now) + 3 * forms_size (joined (map form_of (items_of l.forms.now))) + 10

abbrev pub decreases-forms::run_form : goal.decreases-forms::run_form
decreases-forms::run_form g l = weight (g.P.Program.meant l.program.now) (g.M.Kernel.state l.kernel.now) + 3 * form_size (form_of l.form.now) + 9

abbrev pub decreases-forms::run_block : goal.decreases-forms::run_block
decreases-forms::run_block g l = weight (g.P.Program.meant l.program.now) (g.M.Kernel.state l.kernel.now) + 3 * forms_size (joined (map form_of (items_of l.forms.now))) + 11

abbrev pub decreases-forms::run_when : goal.decreases-forms::run_when
decreases-forms::run_when g l = weight (g.P.Program.meant l.program.now) (g.M.Kernel.state l.kernel.now) + 3 * forms_size (joined (map form_of (items_of l.forms.now))) + 11

abbrev pub invariant-forms::run_forms-loop-i : goal.invariant-forms::run_forms-loop-i
invariant-forms::run_forms-loop-i g l = record {
  went : (start : g.row.H.Denot) → Went (g.P.Program.meant l.program) (world g.M.Kernel.state g.H.Host.state g.H.Host.made start l.initial.kernel l.initial.host (g.K.Sink.state l.initial.sink)) (world g.M.Kernel.state g.H.Host.state g.H.Host.made start l.kernel l.host (g.K.Sink.state l.sink))
      (at_item (Body (joined (map form_of (items_of l.forms))))) (at_item (Body (joined (drop l.i (map form_of (items_of l.forms))))));
  keeps : (start : g.row.H.Denot) → Keeps (world g.M.Kernel.state g.H.Host.state g.H.Host.made start l.initial.kernel l.initial.host (g.K.Sink.state l.initial.sink)) (world g.M.Kernel.state g.H.Host.state g.H.Host.made start l.kernel l.host (g.K.Sink.state l.sink));
}

abbrev pub decreases-forms::run_call : goal.decreases-forms::run_call
decreases-forms::run_call g l = weight (g.P.Program.meant l.program.now) (g.M.Kernel.state l.kernel.now) + 7

abbrev pub decreases-calls::call : goal.decreases-calls::call
decreases-calls::call g l = weight (g.P.Program.meant l.program.now) (g.M.Kernel.state l.kernel.now) + 6

abbrev pub decreases-changes::change_text : goal.decreases-changes::change_text
decreases-changes::change_text g l = weight (g.P.Program.meant l.program.now) (g.M.Kernel.state l.kernel.now) + 5

abbrev pub decreases-changes::make_change : goal.decreases-changes::make_change
decreases-changes::make_change g l = weight (g.P.Program.meant l.program.now) (g.M.Kernel.state l.kernel.now) + 4

abbrev pub decreases-changes::commit_change : goal.decreases-changes::commit_change
decreases-changes::commit_change g l = weight (g.P.Program.meant l.program.now) (g.M.Kernel.state l.kernel.now) + 3

abbrev pub decreases-changes::run_bracket : goal.decreases-changes::run_bracket
decreases-changes::run_bracket g l = weight (g.P.Program.meant l.program.now) (g.M.Kernel.state l.kernel.now) + 2

abbrev pub decreases-changes::run_hooks : goal.decreases-changes::run_hooks
decreases-changes::run_hooks g l = weight (g.P.Program.meant l.program.now) (g.M.Kernel.state l.kernel.now) + 1

abbrev pub decreases-handlers::handle : goal.decreases-handlers::handle
decreases-handlers::handle g l = weight (g.P.Program.meant l.program.now) (g.M.Kernel.state l.kernel.now)

abbrev pub decreases-handlers::run_handler : goal.decreases-handlers::run_handler
decreases-handlers::run_handler g l = weight (g.P.Program.meant l.program.now) (g.M.Kernel.state l.kernel.now) + 3 * longest (g.P.Program.meant l.program.now).handlers + 15

abbrev pub decreases-handlers::run_default : goal.decreases-handlers::run_default
decreases-handlers::run_default g l = weight (g.P.Program.meant l.program.now) (g.M.Kernel.state l.kernel.now) + 5

abbrev pub decreases-handlers::run_native : goal.decreases-handlers::run_native
decreases-handlers::run_native g l = weight (g.P.Program.meant l.program.now) (g.M.Kernel.state l.kernel.now) + 8

abbrev pub decreases-handlers::call_native : goal.decreases-handlers::call_native
decreases-handlers::call_native g l = weight (g.P.Program.meant l.program.now) (g.M.Kernel.state l.kernel.now) + 7

abbrev pub invariant-changes::run_hooks-loop-i : goal.invariant-changes::run_hooks-loop-i
invariant-changes::run_hooks-loop-i g l = record {
  went : (start : g.row.H.Denot) → Went (g.P.Program.meant l.program) (world g.M.Kernel.state g.H.Host.state g.H.Host.made start l.initial.kernel l.initial.host (g.K.Sink.state l.initial.sink)) (world g.M.Kernel.state g.H.Host.state g.H.Host.made start l.kernel l.host (g.K.Sink.state l.sink))
      (at_item (Hooks (kind_of l.kind) (map number_of (items_of l.names)) (map view (items_of l.args)))) (at_item (Hooks (kind_of l.kind) (drop l.i (map number_of (items_of l.names))) (map view (items_of l.args))));
  keeps : (start : g.row.H.Denot) → Keeps (world g.M.Kernel.state g.H.Host.state g.H.Host.made start l.initial.kernel l.initial.host (g.K.Sink.state l.initial.sink)) (world g.M.Kernel.state g.H.Host.state g.H.Host.made start l.kernel l.host (g.K.Sink.state l.sink));
}

abbrev pub invariant-handlers::run_native-loop-i : goal.invariant-handlers::run_native-loop-i
invariant-handlers::run_native-loop-i g l = record {
  went : (start : g.row.H.Denot) → Went (g.P.Program.meant l.program) (world g.M.Kernel.state g.H.Host.state g.H.Host.made start l.initial.kernel l.initial.host (g.K.Sink.state l.initial.sink)) (world g.M.Kernel.state g.H.Host.state g.H.Host.made start l.kernel l.host (g.K.Sink.state l.sink))
      (at_item (Native l.native (map view (items_of l.args)) [])) (at_item (Native l.native (map view (items_of l.args)) (map reply_of (items_of l.past))));
  keeps : (start : g.row.H.Denot) → Keeps (world g.M.Kernel.state g.H.Host.state g.H.Host.made start l.initial.kernel l.initial.host (g.K.Sink.state l.initial.sink)) (world g.M.Kernel.state g.H.Host.state g.H.Host.made start l.kernel l.host (g.K.Sink.state l.sink));
  count : length (items_of l.past) ≡ l._i;
}

abbrev pub decreases-waits::call_process : goal.decreases-waits::call_process
decreases-waits::call_process g l = weight (g.P.Program.meant l.program.now) (g.M.Kernel.state l.kernel.now) + 5

abbrev pub decreases-waits::accept_output : goal.decreases-waits::accept_output
decreases-waits::accept_output g l = weight (g.P.Program.meant l.program.now) (g.M.Kernel.state l.kernel.now) + 4

abbrev pub decreases-waits::take_turns : goal.decreases-waits::take_turns
decreases-waits::take_turns g l = weight (g.P.Program.meant l.program.now) (g.M.Kernel.state l.kernel.now) + 3

abbrev pub decreases-waits::ask : goal.decreases-waits::ask
decreases-waits::ask g l = weight (g.P.Program.meant l.program.now) (g.M.Kernel.state l.kernel.now) + 2

abbrev pub decreases-waits::enter_if : goal.decreases-waits::enter_if
decreases-waits::enter_if g l = weight (g.P.Program.meant l.program.now) (g.M.Kernel.state l.kernel.now) + 1

abbrev pub decreases-waits::delete : goal.decreases-waits::delete
decreases-waits::delete g l = weight (g.P.Program.meant l.program.now) (g.M.Kernel.state l.kernel.now) + 2

abbrev pub decreases-waits::delete_process : goal.decreases-waits::delete_process
decreases-waits::delete_process g l = weight (g.P.Program.meant l.program.now) (g.M.Kernel.state l.kernel.now) + 3

abbrev pub decreases-waits::delete_all : goal.decreases-waits::delete_all
decreases-waits::delete_all g l = weight (g.P.Program.meant l.program.now) (g.M.Kernel.state l.kernel.now) + 3

abbrev pub decreases-waits::kill_buffer : goal.decreases-waits::kill_buffer
decreases-waits::kill_buffer g l = weight (g.P.Program.meant l.program.now) (g.M.Kernel.state l.kernel.now) + 4

abbrev pub invariant-waits::take_turns-loop-heard : goal.invariant-waits::take_turns-loop-heard
invariant-waits::take_turns-loop-heard g l = record {
  went : (start : g.row.H.Denot) (target : Target) → Went (g.P.Program.meant l.program) (world g.M.Kernel.state g.H.Host.state g.H.Host.made start l.initial.kernel l.initial.host (g.K.Sink.state l.initial.sink)) (world g.M.Kernel.state g.H.Host.state g.H.Host.made start l.kernel l.host (g.K.Sink.state l.sink)) (at_item (Wait l.initial.wait.waiting target)) (at_item (Wait l.wait.waiting target));
  keeps : (start : g.row.H.Denot) → Keeps (world g.M.Kernel.state g.H.Host.state g.H.Host.made start l.initial.kernel l.initial.host (g.K.Sink.state l.initial.sink)) (world g.M.Kernel.state g.H.Host.state g.H.Host.made start l.kernel l.host (g.K.Sink.state l.sink));
  room : l.wait.room ≡ 256;
}

abbrev pub decreases-waits::take_turns-loop-heard : goal.decreases-waits::take_turns-loop-heard
decreases-waits::take_turns-loop-heard g l = most_exchanges - (g.M.Kernel.state l.kernel).asked

abbrev pub invariant-waits::delete_all-loop-i : goal.invariant-waits::delete_all-loop-i
invariant-waits::delete_all-loop-i g l = record {
  went : (start : g.row.H.Denot) → Went (g.P.Program.meant l.program) (world g.M.Kernel.state g.H.Host.state g.H.Host.made start l.initial.kernel l.initial.host (g.K.Sink.state l.initial.sink)) (world g.M.Kernel.state g.H.Host.state g.H.Host.made start l.kernel l.host (g.K.Sink.state l.sink)) (deleting l.doomed) (deleting (drop l.i l.doomed));
  keeps : (start : g.row.H.Denot) → Keeps (world g.M.Kernel.state g.H.Host.state g.H.Host.made start l.initial.kernel l.initial.host (g.K.Sink.state l.initial.sink)) (world g.M.Kernel.state g.H.Host.state g.H.Host.made start l.kernel l.host (g.K.Sink.state l.sink));
}
