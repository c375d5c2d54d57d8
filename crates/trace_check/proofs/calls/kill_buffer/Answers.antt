use Rattle.std.proofs.Common.{◌≡◌, ◌+◌, ◌-◌, ◌∷◌, ◌++◌, map, drop, length, ap, ◌∙◌, arith}
use Rattle.plain_machine.specs.Items.{Delete, KillBuffer as KillsBuffer}
use Rattle.ek_types.specs.Listing.{items_of}
use Rattle.ek_call.specs.Meaning.{view}
use Rattle.trace_check.specs.Meaning.{list_of, target_of}
use Rattle.trace_check.proofs.CallItems.{kills_put}
use Rattle.trace_check.proofs.calls.kill_buffer.Goals as goal

pub returns : goal.returns
returns g c =
    let doomed = c.in_ok-doomed.doomed.items in
    let tail = KillsBuffer c.buffer_given-buffer.result (target_of c.args.target) ∷ list_of c.args.work.now in
    let none : length doomed - c.loop-i.i ≡ 0 = omega (arith, c.loop-i-test.false) in
    kills_put (g.P.Program.meant c.args.program.now) (g.M.Kernel.state c.args.kernel.now) (map view (items_of c.args.args.now)) (target_of c.args.target) (list_of c.args.work.now) c.buffer_given-buffer.result doomed (list_of c.loop-i.work) c.requires c.buffer_given-buffer.ensures c.in_ok-doomed.ensures
    (c.loop-i.invariant ∙ ap (λ n. map Delete (drop n doomed) ++ tail) none)
