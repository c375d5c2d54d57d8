use Rattle.std.proofs.Common.{[], ◌∷◌, ◌+◌, map, drop, sym, arith, Err}
use Rattle.ek_types.specs.Listing.{items_of}
use Rattle.ek_call.specs.Meaning.{form_of, joined}
use Rattle.plain_machine.specs.Items.{DoForm, Top}
use Rattle.kernel_steps.specs.Work.{at_item, onwards, outwards}
use Rattle.kernel_steps.specs.Worlds.{World, world}
use Rattle.kernel_steps.specs.declared.stop.Halt.TheVariants as halt
use Rattle.kernel_steps.proofs.Results.{stopped_by}
use Rattle.kernel_steps.proofs.Works.{keeps_self, keeps_then, ready_then, went_self, went_then, work_done, work_stopped, work_behind, path_before}
use Rattle.kernel_steps.proofs.Bodies.{next_form, no_form}
use Rattle.kernel_steps.proofs.Handling.{ran_keeps, ran_stopped}
use Rattle.kernel_steps.proofs.Tops.{top_behind, top_went, top_as}
use Rattle.kernel_steps.proofs.forms.run_top.Given.{Over}
use Rattle.kernel_steps.proofs.forms.run_top.Goals as goal

abbrev at : (g : Over) → g.row.H.Denot → g.row.M.Denot → g.row.H.Denot → g.row.K.Denot → World
at g start kernel host sink = world g.M.Kernel.state g.H.Host.state g.H.Host.made start kernel host (g.K.Sink.state sink)

pub loop-i-init : goal.loop-i-init
loop-i-init g c = record {
  went = λ start. went_self (g.P.Program.meant c.args.program.now) (at g start c.args.kernel.now c.args.host.now c.args.sink.now) _;
  keeps = λ start. keeps_self (at g start c.args.kernel.now c.args.host.now c.args.sink.now) c.requires.hosted;
}

pub run_form-requires : goal.run_form-requires
run_form-requires g c =
    let start = c.args.host.now in
    ready_then (at g start c.args.kernel.now c.args.host.now c.args.sink.now) (at g start c.loop-i.kernel c.loop-i.host c.loop-i.sink) c.requires (c.loop-i.invariant.keeps start)

pub loop-i-preserved : goal.loop-i-preserved
loop-i-preserved g c = record {
  went = λ start.
      let program = g.P.Program.meant c.args.program.now in
      let before = at g start c.args.kernel.now c.args.host.now c.args.sink.now in
      let mid = at g start c.loop-i.kernel c.loop-i.host c.loop-i.sink in
      let after = at g start c.run_form.new.kernel c.run_form.new.host c.run_form.new.sink in
      let left = joined (drop (c.loop-i.i + 1) (map form_of (items_of c.args.forms.now))) in
      let form = form_of c.at.result.now in
      let next = next_form (items_of c.args.forms.now) c.loop-i.i c.at.result.now c.at.ensures in
      let ran = path_before program c.run_form.result mid after (λ rest. Top left ∷ []) (at_item (DoForm form)) onwards outwards (top_behind left) (c.run_form.ensures start).path in
      went_then program before mid after _ _ _ (went_then program before mid mid _ _ _ (rw next at (c.loop-i.invariant.went start)) (top_went program mid left form))
      (top_as program c.run_form.result c.in_ok-has_faulted.field-0 mid after _ left (sym c.in_ok-has_faulted.ensures) ran);
  keeps = λ start.
      let mid = at g start c.loop-i.kernel c.loop-i.host c.loop-i.sink in
      let after = at g start c.run_form.new.kernel c.run_form.new.host c.run_form.new.sink in
      keeps_then (at g start c.args.kernel.now c.args.host.now c.args.sink.now) mid after (c.loop-i.invariant.keeps start)
      (ran_keeps (g.P.Program.meant c.args.program.now) c.run_form.result c.in_ok-has_faulted.field-0 mid after (sym c.in_ok-has_faulted.ensures) (c.run_form.ensures start).stays);
}

pub returns-in_err-has_faulted : goal.returns-in_err-has_faulted
returns-in_err-has_faulted g c = λ start.
    let program = g.P.Program.meant c.args.program.now in
    let before = at g start c.args.kernel.now c.args.host.now c.args.sink.now in
    let mid = at g start c.loop-i.kernel c.loop-i.host c.loop-i.sink in
    let after = at g start c.run_form.new.kernel c.run_form.new.host c.run_form.new.sink in
    let left = joined (drop (c.loop-i.i + 1) (map form_of (items_of c.args.forms.now))) in
    let form = form_of c.at.result.now in
    let next = next_form (items_of c.args.forms.now) c.loop-i.i c.at.result.now c.at.ensures in
    let why = c.in_err-has_faulted.field-0.0 in
    let is = ran_stopped program c.run_form.result why (sym c.in_err-has_faulted.ensures) in
    let done = rw is at (c.run_form.ensures start) in
    rw (stopped_by c.from_residual.result why c.from_residual.ensures)
    (work_stopped program why before after _ _ _ _ outwards
    (work_behind program (Err (halt.Stop why)) before mid after _ _ _ _ (went_then program before mid mid _ _ _ (rw next at (c.loop-i.invariant.went start)) (top_went program mid left form)) (c.loop-i.invariant.keeps start)
    (record { path = path_before program (Err (halt.Stop why)) mid after (λ rest. Top left ∷ []) (at_item (DoForm form)) onwards outwards (top_behind left) done.path; stays = done.stays })))

pub returns : goal.returns
returns g c = λ start.
    let program = g.P.Program.meant c.args.program.now in
    let before = at g start c.args.kernel.now c.args.host.now c.args.sink.now in
    let after = at g start c.loop-i.kernel c.loop-i.host c.loop-i.sink in
    let none = no_form (items_of c.args.forms.now) c.loop-i.i (omega arith) in
    let unit : Unit {0} = tt in
    work_done program unit before after _ _ outwards (rw none at (c.loop-i.invariant.went start)) (c.loop-i.invariant.keeps start)
