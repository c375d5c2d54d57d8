use Rattle.std.proofs.Common.{ℕ, ◌+◌, ◌∙◌, Vec, Global, List, [], ◌∷◌, ◌++◌, drop, sym, ap, append_assoc}
use Rattle.kernel_state.proofs.LastBuffers.{running_from, step_met, step_passed}
use Rattle.kernel_state.proofs.buffers.running_in.Goals.{then-runs_in+in_ok-push, else-runs_in}
use Rattle.kernel_state.proofs.buffers.running_in.Goals as goal

pub loop-p-preserved : goal.loop-p-preserved
loop-p-preserved c =
    let ps = c.args.kernel.now.processes in
    let p = c.loop-p.p in
    let b = c.args.buffer in
    let found : List ℕ = c.loop-p.found.items in
    let rest : List ℕ = running_from (p + 1) b (drop (p + 1) ps) in
    elim c.if-runs_in.branch [
      | then-runs_in+in_ok-push w ↦
          ap (λ (v : Vec ℕ Global). v.items ++ rest) w.found-is
          ∙ ap (λ (l : List ℕ). l ++ rest) w.in_ok-push.ensures.items
          ∙ append_assoc found (p ∷ []) rest
          ∙ ap (λ (l : List ℕ). found ++ l) (sym (step_met p b c.get.result.now ps c.get.ensures (sym c.runs_in.ensures ∙ w.if-runs_in.true)))
          ∙ c.loop-p.invariant
      | else-runs_in w ↦
          ap (λ (v : Vec ℕ Global). v.items ++ rest) w.found-is
          ∙ ap (λ (l : List ℕ). found ++ l) (sym (step_passed p b c.get.result.now ps c.get.ensures (sym c.runs_in.ensures ∙ w.if-runs_in.false)))
          ∙ c.loop-p.invariant
    ]
