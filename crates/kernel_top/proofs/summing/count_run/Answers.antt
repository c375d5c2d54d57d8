use Rattle.std.proofs.Common.{◌≡◌, ◌+◌, ◌%◌, ◌^◌, ◌++◌, length, sym, ap, ◌∙◌, refl, arith}
use Rattle.editor_model.specs.Editor.{characters_in}
use Rattle.plain_machine.specs.State.{State}
use Rattle.ek_call.specs.Meaning.{script_of}
use Rattle.kernel_run.specs.Meaning.{state_of}
use Rattle.kernel_state.specs.Whole.{program_with}
use Rattle.plain_machine.specs.Grammar.{line_feeds}
use Rattle.run_counters.specs.Counting.{counting_state}
use Rattle.kernel_top.proofs.HandedOn.{handed, calls_between}
use Rattle.kernel_top.proofs.SummedUp.{sums_up, breaks_off}
use Rattle.kernel_top.proofs.summing.count_run.Goals as goal

pub returns-in-Ok : goal.returns-in-Ok
returns-in-Ok g c = λ count is.
    let (written, exchanges, put, calls, ends) = c.in-Ok.ensures.outcome in
    let (whole, last) = ends in
    let h = handed g.H.Host.state g.H.Host.made c.new-counting.result c.run_script.new.host exchanges (rw c.new-counting.ensures.fresh refl) calls in
    let same = sym (h.same ∙ c.new-counting.ensures.same_reference) in
    let held : c.run_script.new.sink ≡ c.new-sink.result ++ written = put in
    let bytes : c.run_script.new.sink ≡ written = held ∙ ap (λ l. l ++ written) c.new-sink.ensures in
    let first : 0 + length exchanges ≡ length exchanges = omega arith in (
      exchanges,
      calls_between g.H.Host.state g.H.Host.made exchanges c.new-counting.ensures.inner (grind (arith, same)) h.calls,
      sums_up (λ script. program_with g.N.Natives.names g.N.Natives.does script c.args.natives.now) (script_of c.args.script.now) count is exchanges written (counting_state c.new-sink.result) (counting_state c.run_script.new.sink) whole
          (state_of c.run_script.new.self).editor (record { lines = c.lines.result; exchanges = c.exchanges.result; characters = c.in_64_bits.result }) (sym (ap (λ (s : State). s.editor) last))
          (c.lines.ensures ∙ ap (λ l. line_feeds l % 2 ^ 64) bytes)
          (c.exchanges.ensures ∙ h.count ∙ ap (λ n. (n + length exchanges) % 2 ^ 64) c.new-counting.ensures.fresh ∙ ap (λ n. n % 2 ^ 64) first)
          (c.in_64_bits.ensures ∙ ap (λ n. n % 2 ^ 64) c.characters.ensures ∙ ap (λ e. characters_in e.buffers % 2 ^ 64) c.editor.ensures),
    )

pub returns-in-Err : goal.returns-in-Err
returns-in-Err g c = λ count is.
    let (written, exchanges, put, calls, ends) = c.in-Err.ensures.outcome in
    let h = handed g.H.Host.state g.H.Host.made c.new-counting.result c.run_script.new.host exchanges (rw c.new-counting.ensures.fresh refl) calls in
    let same = sym (h.same ∙ c.new-counting.ensures.same_reference) in (
      exchanges,
      calls_between g.H.Host.state g.H.Host.made exchanges c.new-counting.ensures.inner (grind (arith, same)) h.calls,
      breaks_off (λ script. program_with g.N.Natives.names g.N.Natives.does script c.args.natives.now) (script_of c.args.script.now) count is exchanges written (counting_state c.new-sink.result) (counting_state c.run_script.new.sink) c.in-Err.why ends,
    )
