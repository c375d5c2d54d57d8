use Rattle.std.proofs.Common.{◌≡◌, false, length, ap, sym, ◌∙◌, arith}
use Rattle.text_model.specs.Undo.{fits}
use Rattle.undo_list.proofs.Cutting.{all_cut, all_cut-step, group-gone, cut-fitting, cut-enough}
use Rattle.undo_list.proofs.records.Records.cut.Goals as goal

pub groups-smaller : goal.groups-smaller
groups-smaller c =
    let over : fits c.groups.self.entries ≡ false = sym c.fits.ensures ∙ c.groups-test.true in
    rw c.drop_oldest_group.ensures.entries (group-gone c.groups.self.entries over)

pub groups-preserved : goal.groups-preserved
groups-preserved c =
    let over : fits c.groups.self.entries ≡ false = sym c.fits.ensures ∙ c.groups-test.true in
    record {
      same = ap all_cut c.drop_oldest_group.ensures.entries ∙ all_cut-step c.groups.self.entries over ∙ c.groups.invariant.same;
      spare = omega arith;
    }

pub returns-clause-entries : goal.returns-clause-entries
returns-clause-entries c = λ turns enough.
    sym (cut-fitting (length c.groups.self.entries) c.groups.self.entries (sym c.fits.ensures ∙ c.groups-test.false))
    ∙ c.groups.invariant.same ∙ cut-enough (length c.args.self.now.entries) turns c.args.self.now.entries (omega arith) enough
