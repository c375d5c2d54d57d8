use Rattle.std.proofs.Common.{ℕ, List, map, slice_get, string_bytes}
use Rattle.plain_machine.specs.Shipped.{insert_filter, drop_filter, note_sentinel}
use Rattle.plain_machine.specs.Symbols.{program_of}
use Rattle.handler_box.specs.Boxes.{done_by}
use Rattle.kernel_state.specs.Whole.{Doing}
use Rattle.command_words.specs.Commands.{command_of}
use Rattle.kernel_top.specs.Outcomes.{Came}
use Rattle.shipped_run.proofs.Boxes.{are_done}
use Rattle.shipped_run.proofs.shipped.run_list.Goals as goal

pub returns-clause-outcome : goal.returns-clause-outcome
returns-clause-outcome g c =
    let names : List (List ℕ) = map (λ h. (goal.Handler-dyn g (h.vtable, h.value)).called h.value) c.new-natives.result.list.items in
    let does : Doing = λ i args past. done_by (λ h. (goal.Handler-dyn g (h.vtable, h.value)).does h.value args past) (slice_get c.new-natives.result.list.items i) in
    let so : Came g.H.Host.state g.H.Host.made (λ script. program_of script names does) (command_of (map string_bytes c.args.words.now)) c.run.result c.args.host.now c.run.new.host
    (g.S.Source.state c.args.source.now) (g.S.Source.state c.run.new.source) (g.K.Sink.state c.args.sink.now) (g.K.Sink.state c.run.new.sink) = c.run.ensures.outcome in
    record {
      names = names;
      does = does;
      shipped = record {
        named = rw c.new-natives.ensures c.requires.names;
        inserts = λ args past. rw c.new-natives.ensures (are_done _ (insert_filter args past) (drop_filter args past) (note_sentinel args past) c.args.list.items (c.requires.does args past)).one;
        drops = λ args past. rw c.new-natives.ensures (are_done _ (insert_filter args past) (drop_filter args past) (note_sentinel args past) c.args.list.items (c.requires.does args past)).two;
        notes = λ args past. rw c.new-natives.ensures (are_done _ (insert_filter args past) (drop_filter args past) (note_sentinel args past) c.args.list.items (c.requires.does args past)).three;
      };
      came = so;
    }
