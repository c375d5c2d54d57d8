use Rattle.std.proofs.Common.{length, sym, subst, ◌∙◌, arith}
use Rattle.ek_call.specs.Meaning.{script_of}
use Rattle.journal_text.specs.Allowed.{AreLines}
use Rattle.kernel_state.specs.Whole.{program_with}
use Rattle.kernel_top.proofs.HandedOn.{calls_between}
use Rattle.kernel_top.proofs.LinedRuns.{handed_lines, whole_lines}
use Rattle.kernel_top.proofs.recording.run_lined.Goals as goal

pub returns : goal.returns
returns g c =
    let (exchanges, calls, ran) = c.run_unseen.ensures in
    let h = handed_lines g.H.Host.state g.H.Host.made c.new-lined.result c.run_unseen.new.host exchanges calls in
    let same = sym (h.same ∙ c.new-lined.ensures.same_reference) in (
      exchanges,
      calls_between g.H.Host.state g.H.Host.made exchanges c.new-lined.ensures.inner (grind (arith, same)) h.calls,
      ran,
      whole_lines c.run_unseen.result (program_with g.N.Natives.names g.N.Natives.does (script_of c.args.script.now) c.args.natives.now) (script_of c.args.script.now) (length (g.H.Host.state c.args.host.now).kills) exchanges ran
          (λ spoken. subst (λ s. AreLines (length (g.H.Host.state s).kills) exchanges) c.new-lined.ensures.inner (h.lines spoken)),
    )
