use Rattle.std.proofs.Common.{◌∷◌, map, sym, subst, true}
use Rattle.std.specs.Prelude.{option_map, string_bytes, Option}
use Rattle.editor_model.specs.Values.{StartProcess}
use Rattle.editor_model.specs.Arguments.{arg}
use Rattle.plain_machine.specs.Calls.{spawned}
use Rattle.plain_machine.specs.Exchanges.{Answer, Spawn}
use Rattle.plain_machine.specs.State.{State}
use Rattle.plain_machine.specs.Items.{MakeCall, Next}
use Rattle.ek_types.specs.Listing.{items_of}
use Rattle.ek_call.specs.Meaning.{view}
use Rattle.host_link.specs.Meaning.{exchange_of}
use Rattle.trace_check.specs.Answers.{TakesUp}
use Rattle.trace_check.specs.Meaning.{list_of, target_of}
use Rattle.trace_check.specs.Questions.{Meets}
use Rattle.trace_check.proofs.Agreement.{comes_unmet, comes_taken}
use Rattle.trace_check.proofs.Asking.{start_asks}
use Rattle.trace_check.proofs.processes.start_process.Goals as goal

pub returns-in-Err : goal.returns-in-Err
returns-in-Err g c =
    let program = g.P.Program.meant c.args.program.now in
    let known = g.M.Kernel.state c.args.kernel.now in
    let args = map view (items_of c.args.args) in
    let target = target_of c.args.target in
    let rest = list_of c.args.work.now in
    let next = option_map (λ x. exchange_of x.now) c.args.next in
    let work = MakeCall StartProcess args target ∷ rest in
    let program_bytes = string_bytes c.in_ok-command.command.program in
    let words = map string_bytes c.in_ok-command.command.words.items in
    let go : State → Answer → Option Next = λ s. spawned s target rest (arg args 0) (arg args 1) in
    let asks = start_asks program known args target rest program_bytes words c.requires.passes c.in_ok-command.ensures.program c.in_ok-command.ensures.words in
    let met : Meets (Spawn program_bytes words) (λ answer. true) next c.meet.result = c.meet.ensures in
    rw c.unmade.ensures.result (comes_unmet program next known work (Spawn program_bytes words) (Unit {0}) c.in-Err.missed (list_of c.unmade.new.work) go asks (rw c.in-Err.is at met) c.unmade.ensures.work)

pub returns : goal.returns
returns g c =
    let program = g.P.Program.meant c.args.program.now in
    let known = g.M.Kernel.state c.args.kernel.now in
    let args = map view (items_of c.args.args) in
    let target = target_of c.args.target in
    let rest = list_of c.args.work.now in
    let next = option_map (λ x. exchange_of x.now) c.args.next in
    let work = MakeCall StartProcess args target ∷ rest in
    let program_bytes = string_bytes c.in_ok-command.command.program in
    let words = map string_bytes c.in_ok-command.command.words.items in
    let go : State → Answer → Option Next = λ s. spawned s target rest (arg args 0) (arg args 1) in
    let asks = start_asks program known args target rest program_bytes words c.requires.passes c.in_ok-command.ensures.program c.in_ok-command.ensures.words in
    let met : Meets (Spawn program_bytes words) (λ answer. true) next c.meet.result = c.meet.ensures in
    let (x, is, same, allowed, answer) = rw c.in-Ok.is at met in
    let known2 = g.M.Kernel.state c.take_spawned.new.kernel in
    let left = list_of c.take_spawned.new.work in
    let taken : TakesUp c.take_spawned.result (λ s. go s x.answer) known known2 work left = subst (λ a. TakesUp c.take_spawned.result (λ s. go s a) known known2 work left) (sym answer) c.take_spawned.ensures in
    comes_taken program next known work (Spawn program_bytes words) c.take_spawned.result known2 left go asks x is same taken

pub command-requires : goal.command-requires
command-requires g c = c.requires.passes
